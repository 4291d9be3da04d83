-- Parts of result sets, joined.
use Rattle.std.proofs.Common.{◌≡◌, ℕ, ◌+◌, List, [], ◌∷◌, ◌++◌, Option, Some, None, Ok, Err, refl, ap, sym, subst, ◌∙◌}
use Rattle.std.proofs.Common.{append_assoc}
use Rattle.std.proofs.lemmas.List.{append-nil}
use Rattle.mysql_wire.specs.Stream.{Rest}
use Rattle.mysql_columns.specs.Columns.{ColumnDefinition}
use Rattle.mysql_ok_packets.specs.OkPackets.{OkPacket}
use Rattle.mysql_rows.specs.Rows.{Row}
use Rattle.mysql_server_packets.specs.Packets.{ProgressReport}
use Rattle.mysql_reply_events.specs.Events as events
use Rattle.mysql_reply_events.specs.Events.{Event}
use Rattle.mysql_reply_events.specs.Events.Event.{ErrorEvent, RowEvent, RowsEndEvent}
use Rattle.mysql_reply_events.specs.Table.{Step, event_at}
use Rattle.mysql_reply_events.specs.declared.context.Context.{Context}
use Rattle.mysql_replies.specs.Together.{ErrorResult, Outcome, Part}
use Rattle.mysql_replies.specs.Together.{FieldsPart, NoPart, RawRowsPart, RowsPart, RowsResult, SetPart, StatementPart}
use Rattle.mysql_replies.specs.Together.{listed, put, reported}
use Rattle.mysql_replies.specs.Reply.{Answer, Answered, GoingOn, OpenReply, Payload, ReplySoFar, after_all}
use Rattle.mysql_replies.specs.Reply.{answer_behind, behind, led_by}
use Rattle.mysql_replies.specs.Taking.{behind_part, joined, part_of, rows_before}
use Rattle.mysql_replies.proofs.GoingOn.{answered_stays}

-- What is joined depends on what comes later by what that is, joined.
pub joined_later : (front one other : List Outcome) → joined one ≡ joined other →
    joined (front ++ one) ≡ joined (front ++ other)
joined_later [] one other h = h
joined_later (RowsResult columns these None ∷ front) one other h =
    ap (rows_before columns these) (joined_later front one other h)
joined_later (RowsResult columns these (Some ok) ∷ front) one other h =
    ap (λ (later : List Outcome). RowsResult columns these (Some ok) ∷
    later) (joined_later front one other h)
joined_later (outcome ∷ front) one other h =
    ap (λ (later : List Outcome). outcome ∷ later) (joined_later front one other h)

-- Rows before rows before later results.
before_before : (columns others : List ColumnDefinition) (these those : List Row)
    (later : List Outcome) → rows_before columns these (rows_before others those later) ≡
    rows_before columns (these ++ those) later
before_before columns others these those [] = refl
before_before columns others these those (RowsResult c found terminator ∷ later) =
    ap (λ (all : List Row). RowsResult columns all terminator ∷
    later) (sym (append_assoc these those found))
before_before columns others these those (outcome ∷ later) = refl

-- Rows that were handed out, and those behind them, are joined all of them.
rows_joined : (columns : List ColumnDefinition) (these those : List Row) (end : Option OkPacket)
    (later : List Outcome) → joined (RowsResult columns (these ++ those) end ∷ later) ≡
    joined (part_of (RowsPart columns these) ++ RowsResult columns those end ∷ later)
rows_joined columns [] those end later = refl
rows_joined columns (row ∷ these) those (Some ok) later = refl
rows_joined columns (row ∷ these) those None later =
    sym (before_before columns columns (row ∷ these) those (joined later))

-- The same behind results that were handed out before.
taken_joined : (before : List Outcome) (columns : List ColumnDefinition) (these those : List Row)
    (end : Option OkPacket) (later : List Outcome) →
    joined (before ++ RowsResult columns (these ++ those) end ∷ later) ≡
    joined ((before ++ part_of (RowsPart columns these)) ++ RowsResult columns those end ∷
    later)
taken_joined before columns these those end later =
    joined_later before (RowsResult columns (these ++ those) end ∷
    later) (part_of (RowsPart columns these) ++ RowsResult columns those end ∷
    later) (rows_joined columns these those end later)
    ∙ ap joined (sym (append_assoc before (part_of (RowsPart columns these)) (RowsResult columns those end ∷ later)))

-- What was handed out, and then what is listed and what there is of one more result, beside what a
-- reply has of which nothing was handed out: rows of the same result set go on, or the same is
-- there.
pub data Alike (taken : List Outcome) : List Outcome → Part → List Outcome → Part → Type 0 where
  going : (columns : List ColumnDefinition) (before : List Outcome) (these those : List Row) →
      taken ≡ before ++ part_of (RowsPart columns these) →
      Alike taken before (RowsPart columns (these ++ those)) [] (RowsPart columns those)
  closed : (results others : List Outcome) (part : Part) →
      ((later : List Outcome) → joined (results ++ later) ≡ joined (taken ++ (others ++ later))) →
      Alike taken results part others part

-- An open result set goes on.
stays_open : (taken : List Outcome) (columns : List ColumnDefinition) (before : List Outcome)
    (these those : List Row) → taken ≡ before ++ part_of (RowsPart columns these) →
    Alike taken (before ++ []) (RowsPart columns (these ++ those)) [] (RowsPart columns those)
stays_open taken columns before these those is =
    subst (λ results. Alike taken results (RowsPart columns (these ++ those)) []
    (RowsPart columns those)) (sym (append-nil before)) (going columns before these those is)

-- It ends, with what follows at once.
closes : (taken : List Outcome) (columns : List ColumnDefinition) (before : List Outcome)
    (these those : List Row) (end : Option OkPacket) (others : List Outcome) → taken ≡ before ++
    part_of (RowsPart columns these) →
    Alike taken (before ++ RowsResult columns (these ++ those) end ∷
    others) NoPart (RowsResult columns those end ∷ others) NoPart
closes taken columns before these those end others is = closed _ _ NoPart (λ later.
    ap joined (append_assoc before (RowsResult columns (these ++ those) end ∷ others) later)
    ∙ taken_joined before columns these those end (others ++ later)
    ∙ ap (λ (k : List Outcome). joined (k ++ RowsResult columns those end ∷ (others ++ later))) (sym is))

open_step : (taken : List Outcome) (columns : List ColumnDefinition) (before : List Outcome)
    (these those : List Row) → taken ≡ before ++ part_of (RowsPart columns these) →
    (event : Event) (next : events.ReplySoFar) →
    Alike taken (before ++ (put (RowsPart columns (these ++ those)) event next).results)
    (put (RowsPart columns (these ++ those)) event next).part
    (put (RowsPart columns those) event next).results (put (RowsPart columns those) event next).part
open_step taken columns before these those is (RowEvent row) next =
    subst (λ (rows : List Row). Alike taken (before ++ []) (RowsPart columns rows) []
    (RowsPart columns (those ++ row ∷ []))) (sym (append_assoc these those (row ∷ [])))
    (stays_open taken columns before these (those ++ row ∷ []) is)
open_step taken columns before these those is (ErrorEvent error) next =
    closes taken columns before these those None (ErrorResult error ∷ []) is
open_step taken columns before these those is (RowsEndEvent ok) next =
    closes taken columns before these those (Some ok) [] is
open_step taken columns before these those is event next = stays_open taken columns before these those is

pub alike_step : (taken results others : List Outcome) (part rest : Part) →
    Alike taken results part others rest → (event : Event) (next : events.ReplySoFar) →
    Alike taken (results ++ (put part event next).results) (put part event next).part (others ++
    (put rest event next).results) (put rest event next).part
alike_step taken results others part rest (going columns before these those is) event next =
    open_step taken columns before these those is event next
alike_step taken results others part rest (closed these those same is) event next =
    let more = (put same event next).results in
    closed _ _ (put same event next).part (λ later.
    ap joined (append_assoc these more later) ∙ is (more ++ later) ∙
    ap (λ (k : List Outcome). joined (taken ++ k)) (sym (append_assoc those more later)))

-- What is listed at the end.
pub alike_listed : (taken results others : List Outcome) (part rest : Part) →
    Alike taken results part others rest → joined (results ++ listed part) ≡
    joined (taken ++ (others ++ listed rest))
alike_listed taken results others part rest (going columns before these those is) =
    taken_joined before columns these those None [] ∙
    ap (λ (k : List Outcome). joined (k ++ RowsResult columns those None ∷ [])) (sym is)
alike_listed taken results others part rest (closed these those same is) = is (listed same)

-- A reply of these parts.
abbrev pub reply_with : Context → events.ReplySoFar → List ProgressReport → ℕ → List Outcome → Part → OpenReply
reply_with c so_far progress count results part =
    record {
      context = c;
      so_far = so_far;
      results = results;
      progress = progress;
      part =
          part;
      count = count;
    }

-- What was handed out before a later answer, and that answer, are joined this one.
pub record Joins (taken : List Outcome) (reported : List ProgressReport) (later whole : Answer) : Type 0 where
  pub results : joined whole.results ≡ joined (taken ++ later.results)
  pub progress : whole.progress ≡ reported ++ later.progress
  pub end : whole.end ≡ later.end

-- The same of answers that stay.
joins_stay : (taken : List Outcome) (reports : List ProgressReport) (z : List Payload) (rest : Rest)
    (later whole : Answer) → Joins taken reports later whole →
    Joins taken reports (answer_behind (after_all (Answered later) z) rest)
    (answer_behind (after_all (Answered whole) z) rest)
joins_stay taken reports z rest later whole j =
    subst (λ (x : ReplySoFar). Joins taken reports (answer_behind x rest)
    (answer_behind (after_all (Answered whole) z) rest)) (sym (answered_stays later z))
    (subst (λ (x : ReplySoFar). Joins taken reports later (answer_behind x rest)) (sym (answered_stays whole z)) j)

-- Whatever payloads follow, both answers are joined alike.
mutual_step : (taken results others : List Outcome) (part behind_it : Part) (c : Context)
    (so_far : events.ReplySoFar) (progress : List ProgressReport) (count : ℕ) →
    Alike taken results part others behind_it → (step : Step) (z : List Payload) (rest : Rest) →
    ((next : events.ReplySoFar) (progress : List ProgressReport) (count : ℕ)
    (results others : List Outcome) (part behind_it : Part) →
    Alike taken results part others behind_it →
    Joins taken [] (answer_behind
    (after_all (GoingOn (reply_with c next progress count others behind_it)) z) rest)
    (answer_behind (after_all (GoingOn (reply_with c next progress count results part)) z)
    rest)) →
    Joins taken [] (answer_behind
    (after_all (led_by (reply_with c so_far progress count others behind_it) step) z) rest)
    (answer_behind (after_all (led_by (reply_with c so_far progress count results part) step) z)
    rest)
mutual_step taken results others part behind_it c so_far progress count alike (Ok x) z rest each =
    each x.1 (progress ++ reported x.0) (count + 1) _ _ _ _
    (alike_step taken results others part behind_it alike x.0 x.1)
mutual_step taken results others part behind_it c so_far progress count alike (Err fault) z rest each =
    joins_stay taken [] z rest _ _
    (record {
      results = alike_listed taken results others part behind_it alike;
      progress =
          refl;
      end = refl;
    })

pub joins_all : (z : List Payload) (rest : Rest) (taken results others : List Outcome)
    (part behind_it : Part) (c : Context) (so_far : events.ReplySoFar)
    (progress : List ProgressReport) (count : ℕ) → Alike taken results part others behind_it →
    Joins taken [] (answer_behind
    (after_all (GoingOn (reply_with c so_far progress count others behind_it)) z) rest)
    (answer_behind (after_all (GoingOn (reply_with c so_far progress count results part)) z)
    rest)
joins_all [] rest taken results others part behind_it c so_far progress count alike =
    record {
      results = alike_listed taken results others part behind_it alike;
      progress =
          refl;
      end = refl;
    }
joins_all (payload ∷ z) rest taken results others part behind_it c so_far progress count alike =
    mutual_step taken results others part behind_it c so_far progress count alike (event_at c so_far payload) z rest
    (λ next progress count results others part behind_it alike. joins_all z rest taken results
    others part behind_it c next progress count alike)

-- What is handed out of a reply, and what is left.
same_joined : (results later : List Outcome) → joined (results ++ later) ≡ joined ((results ++ []) ++ ([] ++ later))
same_joined results later = ap (λ (k : List Outcome). joined (k ++ later)) (sym (append-nil results))

pub handed : (results : List Outcome) (part : Part) → Alike (results ++ part_of part) results part [] (behind_part part)
handed results (RowsPart columns rows) =
    subst (λ (k : List Row). Alike (results ++ part_of (RowsPart columns rows)) results
    (RowsPart columns k) [] (RowsPart columns [])) (append-nil rows)
    (going columns results rows [] refl)
handed results NoPart = closed results [] NoPart (same_joined results)
handed results (SetPart known) = closed results [] (SetPart known) (same_joined results)
handed results (RawRowsPart rows) = closed results [] (RawRowsPart rows) (same_joined results)
handed results (StatementPart statement parameters columns) =
    closed results [] (StatementPart statement parameters columns) (same_joined results)
handed results (FieldsPart fields) = closed results [] (FieldsPart fields) (same_joined results)

-- Reports that were handed out, and those that come later.
reports_step : (front progress : List ProgressReport) (c : Context) (so_far : events.ReplySoFar)
    (count : ℕ) (results : List Outcome) (part : Part) (step : Step) (z : List Payload)
    (rest : Rest) →
    ((next : events.ReplySoFar) (progress : List ProgressReport) (count : ℕ) (results : List Outcome) (part : Part) →
    Joins [] front (answer_behind
    (after_all (GoingOn (reply_with c next progress count results part)) z) rest)
    (answer_behind (after_all
    (GoingOn (reply_with c next (front ++ progress) count results part)) z) rest)) →
    Joins [] front (answer_behind
    (after_all (led_by (reply_with c so_far progress count results part) step) z) rest)
    (answer_behind (after_all
    (led_by (reply_with c so_far (front ++ progress) count results part) step) z) rest)
reports_step front progress c so_far count results part (Ok x) z rest each =
    subst (λ (k : List ProgressReport). Joins [] front
    (answer_behind (after_all
    (GoingOn (behind (reply_with c so_far progress count results part) x.0 x.1)) z) rest)
    (answer_behind (after_all
    (GoingOn (reply_with c x.1 k (count + 1) (results ++ (put part x.0 x.1).results)
    (put part x.0 x.1).part)) z) rest))
    (sym (append_assoc front progress (reported x.0)))
    (each x.1 (progress ++ reported x.0) (count + 1) (results ++ (put part x.0 x.1).results) (put part x.0 x.1).part)
reports_step front progress c so_far count results part (Err fault) z rest each =
    joins_stay [] front z rest _ _ (record { results = refl; progress = refl; end = refl })

pub reports_all : (z : List Payload) (rest : Rest) (front progress : List ProgressReport)
    (c : Context) (so_far : events.ReplySoFar) (count : ℕ) (results : List Outcome) (part : Part) →
    Joins [] front (answer_behind
    (after_all (GoingOn (reply_with c so_far progress count results part)) z) rest)
    (answer_behind (after_all
    (GoingOn (reply_with c so_far (front ++ progress) count results part)) z) rest)
reports_all [] rest front progress c so_far count results part = record { results = refl; progress = refl; end = refl }
reports_all (payload ∷ z) rest front progress c so_far count results part =
    reports_step front progress c so_far count results part (event_at c so_far payload) z rest
    (λ next progress count results part. reports_all z rest front progress c next count results part)
