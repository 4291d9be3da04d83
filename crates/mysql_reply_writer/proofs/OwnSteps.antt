-- Nothing speaks against what was read but a payload's size.
use Rattle.std.proofs.Common.{◌≡◌, ◌+◌, ◌<◌, ◌==◌, ◌&&◌, ℕ, Bool, true, false, not, if◌then◌else◌, List, [], ◌∷◌, ◌++◌}
use Rattle.std.proofs.Common.{length, map, Option, Some, None, refl, sym, ap, subst, ◌∙◌, arith, eq-eqb, append_assoc}
use Rattle.std.proofs.Common.{append-nil}
use Rattle.std.specs.Prelude.{nat_le, nat_lt}
use Rattle.std.specs.List.{AllByRecursion}
use Rattle.std.proofs.lemmas.Bool.{le-ltb, ne_eqb}
use Rattle.mysql_cells.specs.declared.value.Value.{Value}
use Rattle.mysql_server_packets.specs.Packets.{ProgressReport}
use Rattle.mysql_columns.specs.Columns.{ColumnDefinition}
use Rattle.mysql_rows.specs.Rows.{Row}
use Rattle.mysql_reply_events.specs.declared.context.Context.{Context}
use Rattle.mysql_ok_packets.specs.OkPackets.{OkPacket}
use Rattle.mysql_ok_packets.specs.Written.{is_named_status}
use Rattle.mysql_replies.specs.Together.{Outcome, RowsResult}
use Rattle.mysql_replies.specs.Reply.{Payload}
use Rattle.mysql_reply_events.specs.Readings.{has_report_form, is_binary}
use Rattle.mysql_reply_events.specs.Table.{has_results}
use Rattle.mysql_replies.specs.Manual as manual
use Rattle.mysql_replies.specs.Manual.{AreResults, AreRows, EndedRows, IsResult, WithoutReports, nothing, terminated}
use Rattle.mysql_replies.specs.Manual.{failed}
use Rattle.mysql_reply_writer.specs.declared.refusal.ReplyRefusal.{ReplyRefusal}
use Rattle.mysql_reply_writer.specs.declared.refusal.ReplyRefusal.TheVariants.{PacketTooLarge}
use Rattle.mysql_reply_writer.specs.Own.{IsSizeAlone, ReadRepliesCanBeWritten}
use Rattle.mysql_reply_writer.specs.Refusals.{OpenRows, Writing, after_step, after_steps, cells_cause_at, end_cause}
use Rattle.mysql_reply_writer.specs.Refusals.{first_cause, form_cause, nothing_written, or_cause, refusal_of}
use Rattle.mysql_reply_writer.specs.Refusals.{step_cause, step_checks, step_room, steps_cause, too_large, whole_cause}
use Rattle.mysql_reply_writer.specs.Written.{ColumnsStep, EndStep, ErrorStep, FileStep, OkStep, PreparedStep}
use Rattle.mysql_reply_writer.specs.Written.{ReportStep, RowStep, Step, is_some_result, reply_steps, results_steps}
use Rattle.mysql_reply_writer.specs.Written.{step_payloads}
use Rattle.mysql_reply_writer.proofs.OwnPackets.{OwnLaws, group_count, ok_can, terminator_can}
use Rattle.mysql_reply_writer.proofs.OwnCounts.{CanBeWritten, error_is_none, row_can, statement_counts}
use Rattle.mysql_reply_writer.proofs.Own.{AreFew, cursor_own, few_first, few_others, others_few, results_some}

-- ---- steps

alone_both : (a b : Option ReplyRefusal) → IsSizeAlone a → IsSizeAlone b → IsSizeAlone (or_cause a b)
alone_both None b x y = y
alone_both (Some cause) b x y = x

large_alone : (limit number : ℕ) (payloads : List Payload) → IsSizeAlone (too_large limit number payloads)
large_alone limit number [] = tt
large_alone limit number (payload ∷ payloads) =
    by (nat_le (length payload) limit && nat_lt number 18446744073709551615)
    (too_large limit (number + 1) payloads) number (large_alone limit (number + 1) payloads)
  where
    by : (b : Bool) (others : Option ReplyRefusal) (number : ℕ) → IsSizeAlone others →
        IsSizeAlone (if b then others else Some (PacketTooLarge number))
    by true others number h = h
    by false others number h = tt

-- From these steps on nothing but a size speaks where nothing but a size speaks from those on, and
-- the same stands behind them.
record Passes (w : Writing) (steps : List Step) (v : Writing) (others : List Step) : Type 0 where
  alone : IsSizeAlone (steps_cause v others) → IsSizeAlone (steps_cause w steps)
  after : after_steps w steps ≡ after_steps v others

one_step : (w : Writing) (step : Step) (steps : List Step) → first_cause (step_checks w step) ≡
    None → Passes w (step ∷ steps) (after_step w step) steps
one_step w step steps none = record {
  alone = λ h. alone_both (step_cause w step) (steps_cause (after_step w step) steps)
      (subst (λ (o : Option ReplyRefusal). IsSizeAlone
      (or_cause o (too_large (step_room w step) w.payloads (step_payloads w.context step))))
      (sym none)
      (large_alone (step_room w step) w.payloads (step_payloads w.context step))) h;
  after = refl;
}

both_pass : (w v u : Writing) (xs ys zs : List Step) → Passes w xs v ys → Passes v ys u zs → Passes w xs u zs
both_pass w v u xs ys zs p q = record { alone = λ h. p.alone (q.alone h); after = p.after ∙ q.after }

-- ---- where the writing stands

-- A result may begin.
abbrev ready : Context → ℕ → ℕ → ℕ → Writing
ready c limit payloads results =
    record {
      context = c;
      limit = limit;
      payloads = payloads;
      results = results;
      rows = None;
      over =
          false;
    }

-- Rows go on.
abbrev going : Context → ℕ → ℕ → ℕ → OpenRows → Writing
going c limit payloads results open_rows =
    record {
      context = c;
      limit = limit;
      payloads = payloads;
      results = results;
      rows =
          Some open_rows;
      over = false;
    }

-- A result stands, behind which others follow or not.
abbrev behind : Context → ℕ → ℕ → ℕ → Bool → Writing
behind c limit payloads results more =
    record {
      context = c;
      limit = limit;
      payloads = payloads;
      results = results;
      rows = None;
      over =
          not more;
    }

record ResultPasses (c : Context) (limit payloads results : ℕ) (listed rest : List Outcome) : Type 0 where
  payloads_behind : ℕ
  results_behind : ℕ
  passes : Passes (ready c limit payloads results) (results_steps (listed ++ rest))
      (behind c limit payloads_behind results_behind (is_some_result rest)) (results_steps rest)

-- ---- rows

cells_none : (binary : Bool) (result row : ℕ) (columns : List ColumnDefinition)
    (cells : List (Option Value)) → length cells ≡ length columns →
    form_cause binary columns cells ≡ None →
    cells_cause_at binary result row columns cells ≡ None
cells_none binary result row columns cells count none = rw (eq-eqb (length cells) (length columns) count, none) refl

record RowsPass (c : Context) (limit payloads results : ℕ) (open_rows : OpenRows)
    (steps others : List Step) : Type 0 where
  payloads_behind : ℕ
  rows_behind : OpenRows
  passes : Passes (going c limit payloads results open_rows) steps
      (going c limit payloads_behind results rows_behind) others

row_pass : (c : Context) (limit payloads results : ℕ) (open_rows : OpenRows)
    (columns : List ColumnDefinition) (row : Row) (steps : List Step) → CanBeWritten c columns row →
    Passes (going c limit payloads results open_rows) (RowStep columns row ∷
    steps) (after_step (going c limit payloads results open_rows) (RowStep columns row)) steps
row_pass c limit payloads results open_rows columns row steps can =
    one_step (going c limit payloads results open_rows) (RowStep columns row) steps
    (ap (λ (o : Option ReplyRefusal). or_cause o None)
    (cells_none (is_binary c.kind) results open_rows.count columns row.cells can.count
    can.none))

rows_pass : (c : Context) (limit payloads results : ℕ) (open_rows : OpenRows)
    (columns : List ColumnDefinition) (rows : List Row) (others : List Step) →
    AllByRecursion (λ row. CanBeWritten c columns row) rows →
    RowsPass c limit payloads results open_rows (map (RowStep columns) rows ++ others) others
rows_pass c limit payloads results open_rows columns [] others can =
    record { payloads_behind = payloads; rows_behind = open_rows; passes = record { alone = λ h. h; after = refl } }
rows_pass c limit payloads results open_rows columns (row ∷ rows) others can =
    let n : ℕ = payloads + length (step_payloads c (RowStep columns row)) in
    let o : OpenRows = record { columns = open_rows.columns; count = open_rows.count + 1 } in
    let rest = rows_pass c limit n results o columns rows others can.1 in
    record {
      payloads_behind = rest.payloads_behind;
      rows_behind = rest.rows_behind;
      passes = both_pass (going c limit payloads results open_rows) (going c limit n results o)
          (going c limit rest.payloads_behind results rest.rows_behind)
          (RowStep columns row ∷ (map (RowStep columns) rows ++ others)) (map (RowStep columns) rows ++ others) others
          (row_pass c limit payloads results open_rows columns row (map (RowStep columns) rows ++
          others) can.0) rest.passes;
    }

rows_can : OwnLaws → (c : Context) (columns : List ColumnDefinition) (payloads : List Payload)
    (rows : List Row) → AreFew payloads → AreRows c columns payloads rows →
    AllByRecursion (λ row. CanBeWritten c columns row) rows
rows_can laws c columns [] [] few are = tt
rows_can laws c columns [] (row ∷ rows) few are = absurd are
rows_can laws c columns (payload ∷ payloads) [] few are = absurd are
rows_can laws c columns (payload ∷ payloads) (row ∷ rows) few are = (
  row_can laws c columns payload row few.0 are.0,
  rows_can laws c columns payloads rows few.1 are.1,
)

-- Columns and rows, and the steps of their end before others.
record SetPasses (c : Context) (limit payloads results : ℕ) (columns : List ColumnDefinition)
    (rows : List Row) (end others : List Step) : Type 0 where
  payloads_behind : ℕ
  rows_behind : OpenRows
  passes : Passes (ready c limit payloads results) (ColumnsStep columns ∷
      ((map (RowStep columns) rows ++ end) ++ others))
      (going c limit payloads_behind results rows_behind) (end ++ others)

set_passes : (c : Context) (limit payloads results : ℕ) (columns : List ColumnDefinition)
    (rows : List Row) (end others : List Step) → has_results c.kind ≡ true →
    0 < length columns → length columns < 65536 →
    AllByRecursion (λ row. CanBeWritten c columns row) rows →
    SetPasses c limit payloads results columns rows end others
set_passes c limit payloads results columns rows end others command some few can =
    let n : ℕ = payloads + length (step_payloads c (ColumnsStep columns)) in
    let o : OpenRows = record { columns = columns; count = 0 } in
    let on = rows_pass c limit n results o columns rows (end ++ others) can in
    let not_zero : (length columns == 0) ≡ false = ne_eqb (length columns) 0 (λ same. omega (arith, same, some)) in
    let not_many : nat_lt 65535 (length columns) ≡ false = le-ltb 65535 (length columns) (omega (arith, few)) in
    record {
      payloads_behind = on.payloads_behind;
      rows_behind = on.rows_behind;
      passes = subst (λ (steps : List Step). Passes (ready c limit payloads results)
          (ColumnsStep columns ∷ steps) (going c limit on.payloads_behind results on.rows_behind)
          (end ++ others))
          (sym (append_assoc (map (RowStep columns) rows) end others))
          (both_pass (ready c limit payloads results) (going c limit n results o)
          (going c limit on.payloads_behind results on.rows_behind)
          (ColumnsStep columns ∷ (map (RowStep columns) rows ++ (end ++ others)))
          (map (RowStep columns) rows ++ (end ++ others)) (end ++ others)
          (one_step (ready c limit payloads results) (ColumnsStep columns)
          (map (RowStep columns) rows ++
          (end ++ others)) (rw (command, not_zero, not_many) refl)) on.passes);
    }

-- ---- a result

-- None of these payloads is in a report's form.
abbrev AreOthers : Context → List Payload → Type 0
AreOthers c payloads = AllByRecursion (λ payload. has_report_form c payload ≡ false) payloads

others_behind : (c : Context) (first others : List Payload) → AreOthers c (first ++ others) → AreOthers c others
others_behind c [] others all = all
others_behind c (payload ∷ first) others all = others_behind c first others all.1

others_before : (c : Context) (first others : List Payload) → AreOthers c (first ++ others) → AreOthers c first
others_before c [] others all = tt
others_before c (payload ∷ first) others all = (all.0, others_before c first others all.1)

-- Rows and what ends them, before others.
set_ended : (c : Context) (limit n r : ℕ) (columns : List ColumnDefinition) (rows : List Row)
    (ok : OkPacket) (rest : List Outcome) → has_results c.kind ≡ true →
    0 < length columns → length columns < 65536 →
    AllByRecursion (λ row. CanBeWritten c columns row) rows → is_named_status ok.status_flags ≡
    true → ResultPasses c limit n r (RowsResult columns rows (Some ok) ∷ []) rest
set_ended c limit n r columns rows ok rest command some small can named =
    let set = set_passes c limit n r columns rows (EndStep (is_some_result rest) ok ∷
    []) (results_steps rest) command some small can in
    let w : Writing = going c limit set.payloads_behind r set.rows_behind in
    let m : ℕ = set.payloads_behind + length (step_payloads c (EndStep (is_some_result rest) ok)) in
    record {
      payloads_behind = m;
      results_behind = r + 1;
      passes = both_pass (ready c limit n r) w (behind c limit m (r + 1) (is_some_result rest))
          (ColumnsStep columns ∷ ((map (RowStep columns) rows ++ EndStep (is_some_result rest) ok ∷
          []) ++ results_steps rest)) (EndStep (is_some_result rest) ok ∷ results_steps rest)
          (results_steps rest)
          set.passes (one_step w (EndStep (is_some_result rest) ok) (results_steps rest) (rw named refl));
    }

ended_passes : OwnLaws → (c : Context) (limit n r : ℕ) (columns : List ColumnDefinition)
    (payloads : List Payload) (listed rest : List Outcome) (more : Bool) → has_results c.kind ≡
    true →
    0 < length columns → length columns < 65536 → AreFew payloads → AreOthers c payloads →
    EndedRows c columns payloads listed more → is_some_result rest ≡ more →
    ResultPasses c limit n r listed rest
ended_passes laws c limit n r columns payloads listed rest more command some small few all
    (terminated before {rows = rows} {last = last} {ok = ok} are is) e =
    set_ended c limit n r columns rows ok rest command some small
    (rows_can laws c columns before rows (few_first before (last ∷ []) few) are)
    (terminator_can laws c last ok (few_others before (last ∷ []) few).0 is).named
ended_passes laws c limit n r columns payloads listed rest more command some small few all
    (failed before {rows = rows} {last = last} {error = error} are is) e =
    let set = set_passes c limit n r columns rows [] (ErrorStep error ∷ results_steps rest) command
    some small (rows_can laws c columns before rows (few_first before (last ∷ []) few) are) in
    let code = error_is_none c last error (few_others before (last ∷ []) few).0
    (others_behind c before (last ∷ []) all).0 is in
    let w : Writing = going c limit set.payloads_behind r set.rows_behind in
    let m : ℕ = set.payloads_behind + length (step_payloads c (ErrorStep error)) in
    record {
      payloads_behind = m;
      results_behind = r + 1 + 1;
      passes = both_pass (ready c limit n r) w (behind c limit m (r + 1 + 1) (is_some_result rest))
          (ColumnsStep columns ∷ ((map (RowStep columns) rows ++ []) ++
          (ErrorStep error ∷ results_steps rest))) (ErrorStep error ∷ results_steps rest)
          (results_steps rest)
          set.passes
          (subst (λ (b : Bool). Passes w (ErrorStep error ∷ results_steps rest)
          (behind c limit m (r + 1 + 1) b) (results_steps rest)) (sym e)
          (one_step w (ErrorStep error) (results_steps rest) (rw code refl)));
    }

result_passes : OwnLaws →
    (c : Context) (limit n r : ℕ) (payloads : List Payload) (listed rest : List Outcome)
    (more : Bool) → AreFew payloads → AreOthers c payloads →
    IsResult c payloads listed more → is_some_result rest ≡ more → ResultPasses c limit n r listed rest
result_passes laws c limit n r payloads listed rest more few all
    (manual.ok {payload = payload} {ok = ok} command is) e =
    let named = (ok_can laws c payload ok few.0 is).named in
    record {
      payloads_behind = n + length (step_payloads c (OkStep (is_some_result rest) ok));
      results_behind = r + 1;
      passes = one_step (ready c limit n r) (OkStep (is_some_result rest) ok) (results_steps rest)
          (rw (command, named) refl);
    }
result_passes laws c limit n r payloads listed rest more few all
    (manual.error {payload = payload} {error = error} is) e =
    let code = error_is_none c payload error few.0 all.0 is in
    let m : ℕ = n + length (step_payloads c (ErrorStep error)) in
    record {
      payloads_behind = m;
      results_behind = r + 1;
      passes = subst (λ (b : Bool). Passes (ready c limit n r) (ErrorStep error ∷
          results_steps rest) (behind c limit m (r + 1) b) (results_steps rest)) (sym e)
          (one_step (ready c limit n r) (ErrorStep error) (results_steps rest) (rw code refl));
    }
result_passes laws c limit n r payloads listed rest more few all (manual.file {name = name} command) e =
    let m : ℕ = n + length (step_payloads c (FileStep name)) in
    record {
      payloads_behind = m;
      results_behind = r + 1;
      passes = subst (λ (b : Bool). Passes (ready c limit n r) (FileStep name ∷ results_steps rest)
          (behind c limit m (r + 1) b) (results_steps rest)) (sym e)
          (one_step (ready c limit n r) (FileStep name) (results_steps rest) (rw command refl));
    }
result_passes laws c limit n r payloads listed rest more few all
    (manual.rows {count = count} {n = size} front rows {columns = columns} command is g closed
    ended) e =
    let same = group_count c size front columns _ g in
    ended_passes laws c limit n r columns rows listed rest more command
    (omega (arith, same, is.some)) (omega (arith, same, is.below)) (few_others front rows few.1)
    (others_behind c front rows all.1) ended e
result_passes laws c limit n r payloads listed rest more few all
    (manual.cursor {count = count} {n = size} front {columns = columns} {ok =
    ok} command is g opens) e =
    let same = group_count c size front columns _ g in
    let named = (cursor_own laws c size front columns ok (Some ok) few.1 g refl).can.named in
    set_ended c limit n r columns [] ok rest command (omega (arith, same, is.some))
    (omega (arith, same, is.below)) tt named
result_passes laws c limit n r payloads listed rest more few all
    (manual.prepared {packet = packet} {statement = statement} first second {parameters =
    parameters} {columns = columns} command header is g h) e =
    let counts = statement_counts c packet statement true few.0 is in
    let few_parameters : nat_lt 65535 (length parameters) ≡ false =
    le-ltb 65535 (length parameters)
    (omega (arith, counts.parameters, group_count c statement.num_params first parameters _ g))
    in
    let few_columns : nat_lt 65535 (length columns) ≡ false =
    le-ltb 65535 (length columns)
    (omega (arith, counts.columns, group_count c statement.num_columns second columns _ h)) in
    let m : ℕ = n + length (step_payloads c (PreparedStep statement parameters columns)) in
    record {
      payloads_behind = m;
      results_behind = r + 1;
      passes = subst (λ (b : Bool). Passes (ready c limit n r)
          (PreparedStep statement parameters columns ∷ results_steps rest)
          (behind c limit m (r + 1) b) (results_steps rest)) (sym e)
          (one_step (ready c limit n r) (PreparedStep statement parameters columns)
          (results_steps rest) (rw (command, few_parameters, few_columns) refl));
    }

-- ---- results one after another

record AllPass (w : Writing) (steps : List Step) : Type 0 where
  alone : IsSizeAlone (steps_cause w steps)
  over : (after_steps w steps).over ≡ true

results_pass : OwnLaws → (c : Context) (limit n r : ℕ) (payloads : List Payload)
    (listed : List Outcome) → AreFew payloads → AreOthers c payloads →
    AreResults c payloads listed →
    AllPass (ready c limit n r) (results_steps listed)
results_pass laws c limit n r payloads listed few all (manual.last is) =
    let p = result_passes laws c limit n r payloads listed [] false few all is refl in
    subst (λ (l : List Outcome). AllPass (ready c limit n r) (results_steps l)) (append-nil listed)
    (record { alone = p.passes.alone tt; over = ap (λ (v : Writing). v.over) p.passes.after })
results_pass laws c limit n r payloads listed few all (manual.followed first others here rest is are) =
    let some = results_some c others rest are in
    let p = result_passes laws c limit n r first here rest true (few_first first others few)
    (others_before c first others all) is some in
    let q = results_pass laws c limit p.payloads_behind p.results_behind others rest
    (few_others first others few) (others_behind c first others all) are in
    let v : AllPass (behind c limit p.payloads_behind p.results_behind (is_some_result rest)) (results_steps rest) =
    subst (λ (b : Bool). AllPass (behind c limit p.payloads_behind p.results_behind b)
    (results_steps rest)) (sym some) q in
    record { alone = p.passes.alone v.alone; over = ap (λ (v : Writing). v.over) p.passes.after ∙ v.over }

-- ---- with progress reports

reports_pass : (c : Context) (limit n : ℕ) (progress : List ProgressReport) (others : List Step) →
    ((m : ℕ) → AllPass (ready c limit m 0) others) →
    AllPass (ready c limit n 0) (map ReportStep progress ++ others)
reports_pass c limit n [] others each = each n
reports_pass c limit n (report ∷ progress) others each =
    let m : ℕ = n + length (step_payloads c (ReportStep report)) in
    let rest = reports_pass c limit m progress others each in
    let p = one_step (ready c limit n 0) (ReportStep report) (map ReportStep progress ++ others) refl in
    record { alone = p.alone rest.alone; over = ap (λ (v : Writing). v.over) p.after ∙ rest.over }

no_forms : (c : Context) (payloads others : List Payload) (reports : List ProgressReport) →
    WithoutReports c payloads reports others → AreOthers c others
no_forms c payloads others reports nothing = tt
no_forms c payloads others reports
    (manual.other {payload = payload} {payloads = rest} {others = left} form without) =
    (form, no_forms c rest left reports without)
no_forms c payloads others reports
    (manual.report {payload = payload} {next = next} {payloads = rest} {others = left} {report =
    said} {reports = more} form reads without) =
    no_forms c rest (next ∷ left) more without

ended_none : (w : Writing) → w.over ≡ true → end_cause w ≡ None
ended_none w over = rw over refl

whole_alone : (w : Writing) (steps : List Step) → AllPass w steps → IsSizeAlone (whole_cause w steps)
whole_alone w steps p =
    alone_both (steps_cause w steps) (end_cause (after_steps w steps)) p.alone
    (subst (λ (o : Option ReplyRefusal). IsSizeAlone o) (sym (ended_none (after_steps w steps) p.over)) tt)

refusal_alone : (c : Context) (limit : ℕ) (results : List Outcome)
    (progress : List ProgressReport) → is_some_result results ≡ true →
    AllPass (nothing_written c limit) (reply_steps results progress) → IsSizeAlone (refusal_of c limit results progress)
refusal_alone c limit [] progress some p = absurd cc
refusal_alone c limit (first ∷ others) progress some p =
    whole_alone (nothing_written c limit) (reply_steps (first ∷ others) progress) p

pub read_replies_can_be_written : OwnLaws → ReadRepliesCanBeWritten
read_replies_can_be_written laws c limit payloads results progress plain few is =
    refusal_alone c limit results progress (results_some c is.others results is.results)
    (reports_pass c limit 0 progress (results_steps results)
    (λ (m : ℕ). results_pass laws c limit m 0 is.others results
    (others_few c payloads is.others progress few is.without_reports)
    (no_forms c payloads is.others progress is.without_reports) is.results))
