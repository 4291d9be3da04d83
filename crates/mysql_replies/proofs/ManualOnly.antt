-- An answer is whole only of payloads that the manual has as a whole reply, and lists what they list.
use Rattle.std.proofs.Common.{◌≡◌, ℕ, zero, suc, ◌+◌, ◌-◌, List, [], ◌∷◌, ◌++◌, length, Bool, true, false, Option, Some}
use Rattle.std.proofs.Common.{None, refl, ap, sym, subst, arith, ◌∙◌, if◌then◌else◌, append_assoc}
use Rattle.std.specs.Prelude.{◌&&◌}
use Rattle.std.proofs.lemmas.Bool.{true≢false}
use Rattle.std.proofs.lemmas.List.{append-nil}
use Rattle.mysql_columns.specs.Columns.{ColumnDefinition}
use Rattle.mysql_ok_packets.specs.OkPackets.{OkPacket, more_results_exist}
use Rattle.mysql_server_packets.specs.Packets.{ServerError}
use Rattle.mysql_rows.specs.Rows.{Row}
use Rattle.mysql_reply_events.specs.Events.{Event, Payload, ReplySoFar}
use Rattle.mysql_reply_events.specs.Events.Awaited.{Columns, ColumnsEnd, FileData, First, Nothing, Rows}
use Rattle.mysql_reply_events.specs.Events.Group.{ResultSet}
use Rattle.mysql_reply_events.specs.Readings.{deprecate_eof}
use Rattle.mysql_reply_events.specs.Table.{has_results, in_place}
use Rattle.mysql_reply_events.specs.declared.context.Context.{Context}
use Rattle.mysql_replies.specs.Together.{ErrorResult, FileResult, NoPart, OkResult, Outcome, RowsPart, RowsResult}
use Rattle.mysql_replies.specs.Together.{SetPart, listed, set_at}
use Rattle.mysql_replies.specs.Reply.{is_over}
use Rattle.mysql_replies.specs.Manual as manual
use Rattle.mysql_replies.specs.Manual.{AreColumns, AreResults, AreRows, EndedRows, IsColumnGroup, IsColumnPacket}
use Rattle.mysql_replies.specs.Manual.{IsCount, IsEof, IsEofDue, IsError, IsResult, IsRow, IsTerminator, group}
use Rattle.mysql_replies.specs.Manual.{opens_cursor}
use Rattle.mysql_replies.proofs.Fitting.{OnStep}
use Rattle.mysql_replies.proofs.Came.{Came, came_behind, goes_on_by, has_step, none_behind, none_is_some, some_is}
use Rattle.mysql_replies.proofs.Came.{with_event}
use Rattle.mysql_replies.proofs.ManualLeads.{set_by, set_columns_at, set_end, stands, with_none}
use Rattle.mysql_replies.proofs.ManualFound.{ColumnIs, EofIs, FirstIs, Follow, RowIs, column_found, column_is}
use Rattle.mysql_replies.proofs.ManualFound.{count_first, eof_found, eof_is, error_first, error_is, file_first}
use Rattle.mysql_replies.proofs.ManualFound.{first_found, ok_first, row_found, row_is, terminator_is}

-- WHAT IS LEFT OF A REPLY

-- The end of a result, and where it says so the results that follow it.
pub data Then (c : Context) (Ends : List Payload → List Outcome → Bool → Type 0) : List Payload →
    List Outcome → Type 0 where
  last : {payloads : List Payload} {here : List Outcome} → Ends payloads here false → Then c Ends payloads here
  followed : (payloads others : List Payload) (here rest : List Outcome) → Ends payloads here true →
      AreResults c others rest → Then c Ends (payloads ++ others) (here ++ rest)

-- Rows behind these, to their end.
pub data EndedAfter (c : Context) (columns : List ColumnDefinition) (these : List Row) : List
    Payload → List Outcome → Bool → Type 0 where
  terminated : (payloads : List Payload) (rows : List Row) {last : Payload} {ok : OkPacket} →
      AreRows c columns payloads rows → IsTerminator c last ok →
      EndedAfter c columns these (payloads ++ last ∷
      []) (RowsResult columns (these ++ rows) (Some ok) ∷
      []) (more_results_exist ok.status_flags)
  failed : (payloads : List Payload) (rows : List Row) {last : Payload} {error : ServerError} →
      AreRows c columns payloads rows → IsError c last error →
      EndedAfter c columns these (payloads ++ last ∷ []) (RowsResult columns (these ++ rows) None ∷
      ErrorResult error ∷ []) false

-- What is left of a result set behind its columns.
pub data EndLeft (c : Context) (columns : List ColumnDefinition) : List Payload → List Outcome → Bool → Type 0 where
  rows_left : (end rows : List Payload) {says : Option OkPacket} {here : List Outcome}
      {more : Bool} → IsEofDue c columns end says → opens_cursor c says ≡ false →
      EndedAfter c columns [] rows here more → EndLeft c columns (end ++ rows) here more
  cursor_left : (end : List Payload) {ok : OkPacket} → IsEofDue c columns end (Some ok) →
      opens_cursor c (Some ok) ≡ true →
      EndLeft c columns end (RowsResult columns [] (Some ok) ∷
      []) (more_results_exist ok.status_flags)

-- What is left of a result set with so many columns more.
pub record SetLeft (c : Context) (n : ℕ) (earlier : List ColumnDefinition) (payloads : List Payload)
    (here : List Outcome) (more : Bool) : Type 0 where
  pub front : List Payload
  pub back : List Payload
  pub cut : payloads ≡ front ++ back
  pub columns : List ColumnDefinition
  pub are : AreColumns c front columns
  pub many : length columns ≡ n
  pub end : EndLeft c (earlier ++ columns) back here more

-- WHERE A REPLY STANDS

pub data Place : Type 0 where
  at_first : Place
  at_columns : ℕ → List ColumnDefinition → Place
  at_columns_end : List ColumnDefinition → Place
  at_rows : List ColumnDefinition → List Row → Place
  at_file : Place
  at_nothing : Place

abbrev pub came_at : Option (List ColumnDefinition) → List Outcome → Place → Came
came_at before results at_first = stands First before results NoPart
came_at before results (at_columns n earlier) = stands (Columns ResultSet n earlier) before results (SetPart true)
came_at before results (at_columns_end columns) =
    stands (ColumnsEnd ResultSet true) (Some columns) results (SetPart true)
came_at before results (at_rows columns rows) = stands (Rows true) (Some columns) results (RowsPart columns rows)
came_at before results at_file = stands FileData before results NoPart
came_at before results at_nothing = stands Nothing before results NoPart

-- Behind a result another one is due, or nothing.
abbrev pub place_behind : Bool → Place
place_behind true = at_first
place_behind false = at_nothing

abbrev pub HasFirst : List ColumnDefinition → Type 0
HasFirst [] = ⊥
HasFirst (column ∷ columns) = Unit {0}

-- An EOF is due behind columns where it isn't deprecated.
abbrev pub Fair : Context → Place → Type 0
Fair c (at_columns_end columns) = HasFirst columns × (deprecate_eof c ≡ false)
Fair c place = Unit {0}

-- What is left at a place.
abbrev pub Left : Context → Place → List Payload → List Outcome → Type 0
Left c at_first payloads found = AreResults c payloads found
Left c (at_columns n earlier) payloads found = Then c (SetLeft c (n + 1) earlier) payloads found
Left c (at_columns_end columns) payloads found = Then c (EndLeft c columns) payloads found
Left c (at_rows columns rows) payloads found = Then c (EndedAfter c columns rows) payloads found
Left c at_file payloads found = (payloads ≡ []) × (found ≡ [])
Left c at_nothing payloads found = (payloads ≡ []) × (found ≡ [])

-- One payload before it.
abbrev Before : (Ends Others : List Payload → List Outcome → Bool → Type 0) → Payload → Type 0
Before Ends Others payload = (payloads : List Payload) (here : List Outcome) (more : Bool) →
    Ends payloads here more → Others (payload ∷ payloads) here more

then_before : (c : Context) (Ends Others : List Payload → List Outcome → Bool →
    Type 0) (payload : Payload) (payloads : List Payload) (found : List Outcome) →
    Before Ends Others payload → Then c Ends payloads found →
    Then c Others (payload ∷ payloads) found
then_before c Ends Others payload payloads found each (last is) = last (each payloads found false is)
then_before c Ends Others payload payloads found each (followed front others here rest is are) =
    followed (payload ∷ front) others here rest (each front here true is) are

then_same : (c : Context) (Ends Others : List Payload → List Outcome → Bool →
    Type 0) (payloads : List Payload) (found : List Outcome) →
    ((payloads : List Payload) (here : List Outcome) (more : Bool) → Ends payloads here more →
    Others payloads here more) → Then c Ends payloads found → Then c Others payloads found
then_same c Ends Others payloads found each (last is) = last (each payloads found false is)
then_same c Ends Others payloads found each (followed front others here rest is are) =
    followed front others here rest (each front here true is) are

as_results : (c : Context) (payloads : List Payload) (found : List Outcome) →
    Then c (IsResult c) payloads found → AreResults c payloads found
as_results c payloads found (last is) = manual.last is
as_results c payloads found (followed front others here rest is are) = manual.followed front others here rest is are

-- The last payload of a result.
then_by : (c : Context) (Ends : List Payload → List Outcome → Bool → Type 0) (more : Bool)
    (payload : Payload) (payloads : List Payload) (here rest : List Outcome) →
    Ends (payload ∷ []) here more → Left c (place_behind more) payloads rest →
    Then c Ends (payload ∷ payloads) (here ++ rest)
then_by c Ends true payload payloads here rest is left = followed (payload ∷ []) payloads here rest is left
then_by c Ends false payload payloads here rest is left =
    subst (λ (k : List Payload). Then c Ends (payload ∷ k) (here ++ rest)) (sym left.0)
    (subst (λ (k : List Outcome). Then c Ends (payload ∷ []) (here ++ k)) (sym left.1)
    (subst (λ (k : List Outcome). Then c Ends (payload ∷ []) k) (sym (append-nil here)) (last is)))

-- ROWS

row_before : (c : Context) (columns : List ColumnDefinition) (these : List Row) (payload : Payload)
    (row : Row) → IsRow c columns payload row →
    Before (EndedAfter c columns (these ++ row ∷ [])) (EndedAfter c columns these) payload
row_before c columns these payload row is payloads here more (terminated front rows {last = final} {ok = ok} are ends) =
    subst (λ (k : List Row). EndedAfter c columns these (payload ∷ front ++ final ∷
    []) (RowsResult columns k (Some ok) ∷ []) (more_results_exist ok.status_flags))
    (sym (append_assoc these (row ∷ []) rows)) (terminated (payload ∷ front) (row ∷ rows) (is, are) ends)
row_before c columns these payload row is payloads here more
    (failed front rows {last = final} {error = error} are ends) =
    subst (λ (k : List Row). EndedAfter c columns these (payload ∷ front ++ final ∷
    []) (RowsResult columns k None ∷ ErrorResult error ∷ []) false)
    (sym (append_assoc these (row ∷ []) rows)) (failed (payload ∷ front) (row ∷ rows) (is, are) ends)

terminator_ends : (c : Context) (columns : List ColumnDefinition) (these : List Row)
    (payload : Payload) (ok : OkPacket) → IsTerminator c payload ok →
    EndedAfter c columns these (payload ∷ []) (RowsResult columns these (Some ok) ∷
    []) (more_results_exist ok.status_flags)
terminator_ends c columns these payload ok is =
    subst (λ (k : List Row). EndedAfter c columns these (payload ∷
    []) (RowsResult columns k (Some ok) ∷ []) (more_results_exist ok.status_flags))
    (append-nil these) (terminated [] [] tt is)

error_ends : (c : Context) (columns : List ColumnDefinition) (these : List Row) (payload : Payload)
    (error : ServerError) → IsError c payload error →
    EndedAfter c columns these (payload ∷ []) (RowsResult columns these None ∷ ErrorResult error ∷
    []) false
error_ends c columns these payload error is =
    subst (λ (k : List Row). EndedAfter c columns these (payload ∷ []) (RowsResult columns k None ∷
    ErrorResult error ∷ []) false) (append-nil these) (failed [] [] tt is)

ended_rows : (c : Context) (columns : List ColumnDefinition) (payloads : List Payload)
    (here : List Outcome) (more : Bool) → EndedAfter c columns [] payloads here more →
    EndedRows c columns payloads here more
ended_rows c columns payloads here more (terminated front rows are is) = manual.terminated front are is
ended_rows c columns payloads here more (failed front rows are is) = manual.failed front are is

-- COLUMNS

pub due_eof : (c : Context) (columns : List ColumnDefinition) (payload : Payload)
    (says : OkPacket) → HasFirst columns → deprecate_eof c ≡ false → IsEof payload says →
    IsEofDue c columns (payload ∷ []) (Some says)
due_eof c [] payload says some due is = absurd some
due_eof c (column ∷ columns) payload says some due is = manual.eof due is

pub has_one : (earlier : List ColumnDefinition) (column : ColumnDefinition) → HasFirst (earlier ++ column ∷ [])
has_one [] column = tt
has_one (first_one ∷ earlier) column = tt

column_before : (c : Context) (n : ℕ) (earlier : List ColumnDefinition) (payload : Payload)
    (column : ColumnDefinition) → IsColumnPacket c payload column →
    Before (SetLeft c (n + 1) (earlier ++ column ∷ [])) (SetLeft c (suc n + 1) earlier) payload
column_before c n earlier payload column is payloads here more left = record {
  front = payload ∷ left.front;
  back = left.back;
  cut = ap (λ (k : List Payload). payload ∷ k) left.cut;
  columns = column ∷ left.columns;
  are = (is, left.are);
  many = let many = left.many in omega (arith, many);
  end = subst (λ (k : List ColumnDefinition). EndLeft c k left.back here more)
      (append_assoc earlier (column ∷ []) left.columns) left.end;
}

last_column : (c : Context) (earlier : List ColumnDefinition) (payload : Payload)
    (column : ColumnDefinition) → IsColumnPacket c payload column →
    Before (EndLeft c (earlier ++ column ∷ [])) (SetLeft c (0 + 1) earlier) payload
last_column c earlier payload column is payloads here more left = record {
  front = payload ∷ [];
  back = payloads;
  cut = refl;
  columns = column ∷ [];
  are = (is, tt);
  many = omega arith;
  end = left;
}

-- Rows at once, where no EOF is due.
rows_behind : (c : Context) (columns : List ColumnDefinition) → deprecate_eof c ≡ true →
    (payloads : List Payload) (here : List Outcome) (more : Bool) →
    EndedAfter c columns [] payloads here more → EndLeft c columns payloads here more
rows_behind c columns due payloads here more is = rows_left [] payloads (manual.deprecated due) refl is

eof_before : (c : Context) (columns : List ColumnDefinition) (payload : Payload) (says : OkPacket) →
    IsEofDue c columns (payload ∷ []) (Some says) → opens_cursor c (Some says) ≡ false →
    Before (EndedAfter c columns []) (EndLeft c columns) payload
eof_before c columns payload says due denied payloads here more is = rows_left (payload ∷ []) payloads due denied is

-- A count, and what is left behind it.
set_result : (c : Context) (n : ℕ) (count : Payload) (payloads : List Payload)
    (columns : List ColumnDefinition) (back : List Payload) (here : List Outcome) (more : Bool) →
    has_results c.kind ≡ true → IsCount c count n → length columns ≡ n →
    AreColumns c payloads columns → EndLeft c columns back here more →
    IsResult c (count ∷ payloads ++ back) here more
set_result c n count payloads columns back here more kind is many are
    (rows_left end rows {says = says} due denied ended) =
    subst (λ (k : List Payload). IsResult c (count ∷ k) here more) (append_assoc payloads end rows)
    (manual.rows (payloads ++ end) rows kind is
    (subst (λ (k : ℕ). IsColumnGroup c k (payloads ++ end) columns says) many
    (group payloads end are due)) denied (ended_rows c columns rows here more ended))
set_result c n count payloads columns back here more kind is many are (cursor_left end {ok = ok} due cursor) =
    manual.cursor (payloads ++
    end) kind is (subst (λ (k : ℕ). IsColumnGroup c k (payloads ++ end) columns (Some ok)) many
    (group payloads end are due)) cursor

count_before : (c : Context) (n : ℕ) (count : Payload) → has_results c.kind ≡ true →
    IsCount c count n → Before (SetLeft c (n - 1 + 1) []) (IsResult c) count
count_before c n count kind is payloads here more left =
    let some = is.some in
    let many = left.many in
    subst (λ (k : List Payload). IsResult c (count ∷ k) here more) (sym left.cut)
    (set_result c n count left.front left.columns left.back here more kind is
    (omega (arith, some, many)) left.are left.end)

-- BACK FROM THE END

-- What was listed behind these results, and that it is what was left.
pub record Was (c : Context) (place : Place) (payloads : List Payload) (results : List Outcome)
    (end : Came) : Type 0 where
  pub found : List Outcome
  pub left : Left c place payloads found
  pub whole : end.results ++ listed end.part ≡ results ++ found

-- Nothing is left.
is_over_at : (before : Option (List ColumnDefinition)) (results : List Outcome) (place : Place)
    (y : Came) → came_at before results place ≡ y → is_over y.so_far.awaited ≡ true →
    is_over (came_at before results place).so_far.awaited ≡ true
is_over_at before results place y is over = ap (λ (k : Came). is_over k.so_far.awaited) is ∙ over

over_whole : (results : List Outcome) (y : Came) → y.results ≡ results → y.part ≡ NoPart →
    y.results ++ listed y.part ≡ results ++ []
over_whole results y same none = λ i. same i ++ listed (none i)

nothing_was : (c : Context) (before : Option (List ColumnDefinition)) (results : List Outcome)
    (place : Place) (y : Came) → came_at before results place ≡ y → is_over y.so_far.awaited ≡
    true → Was c place [] results y
nothing_was c before results at_first y is over =
    absurd (true≢false (sym (is_over_at before results at_first y is over)))
nothing_was c before results (at_columns n earlier) y is over =
    absurd (true≢false (sym (is_over_at before results (at_columns n earlier) y is over)))
nothing_was c before results (at_columns_end columns) y is over =
    absurd (true≢false (sym (is_over_at before results (at_columns_end columns) y is over)))
nothing_was c before results (at_rows columns rows) y is over =
    absurd (true≢false (sym (is_over_at before results (at_rows columns rows) y is over)))
nothing_was c before results at_file y is over =
    record {
      found = [];
      left = (refl, refl);
      whole =
          over_whole results y (sym (ap (λ (k : Came). k.results) is))
          (sym (ap (λ (k : Came). k.part) is));
    }
nothing_was c before results at_nothing y is over =
    record {
      found = [];
      left = (refl, refl);
      whole =
          over_whole results y (sym (ap (λ (k : Came). k.results) is))
          (sym (ap (λ (k : Came). k.part) is));
    }

-- The same, with no result more.
was_same : (c : Context) (place other_place : Place) (payload : Payload) (payloads : List Payload)
    (results : List Outcome) (end : Came) →
    ((found : List Outcome) → Left c place payloads found →
    Left c other_place (payload ∷ payloads) found) → Was c place payloads results end →
    Was c other_place (payload ∷ payloads) results end
was_same c place other_place payload payloads results end each was =
    record { found = was.found; left = each was.found was.left; whole = was.whole }

-- With these more.
was_more : (c : Context) (place other_place : Place) (payload : Payload) (payloads : List Payload)
    (results here : List Outcome) (end : Came) →
    ((found : List Outcome) → Left c place payloads found →
    Left c other_place (payload ∷ payloads) (here ++ found)) →
    Was c place payloads (results ++ here) end → Was c other_place (payload ∷ payloads) results end
was_more c place other_place payload payloads results here end each was =
    record {
      found = here ++ was.found;
      left = each was.found was.left;
      whole = was.whole ∙
          append_assoc results here was.found;
    }

-- The rest of the payloads, at any place.
abbrev Rest : Context → List Payload → Came → Type 0
Rest c payloads y = (before : Option (List ColumnDefinition)) (results : List Outcome)
    (place : Place) → Fair c place → came_behind c (Some (came_at before results place)) payloads ≡
    Some y → Was c place payloads results y

-- Behind a result, as its status says.
came_behind_result : (kind more : Bool) (before : Option (List ColumnDefinition))
    (results : List Outcome) → kind ≡ true →
    stands (if kind && more then First else Nothing) before results NoPart ≡
    came_at before results (place_behind more)
came_behind_result true true before results is = refl
came_behind_result true false before results is = refl
came_behind_result false more before results is = absurd (true≢false (sym is))

fair_behind : (c : Context) (more : Bool) → Fair c (place_behind more)
fair_behind c true = tt
fair_behind c false = tt

rest_behind : (c : Context) (payloads : List Payload) (y : Came) (more : Bool)
    (before : Option (List ColumnDefinition)) (results : List Outcome) → has_results c.kind ≡ true →
    Rest c payloads y → came_behind c
    (Some (stands (if has_results c.kind && more then First else Nothing) before results NoPart))
    payloads ≡ Some y → Was c (place_behind more) payloads results y
rest_behind c payloads y more before results kind rest is =
    rest before results (place_behind more) (fair_behind c more)
    (ap (λ (k : Came). came_behind c (Some k) payloads)
    (sym (came_behind_result (has_results c.kind) more before results kind)) ∙ is)

first_back : (c : Context) (payload : Payload) (payloads : List Payload) (y : Came)
    (before : Option (List ColumnDefinition)) (results : List Outcome) (event : Event)
    (next : ReplySoFar) → has_results c.kind ≡ true → Rest c payloads y →
    FirstIs c (record { awaited = First; columns = before }) payload event next →
    came_behind c (Some (with_event (stands First before results NoPart) event next)) payloads ≡
    Some y → Was c at_first (payload ∷ payloads) results y
first_back c payload payloads y before results event next kind rest (ok_first {ok = ok} is) goes =
    was_more c (place_behind (more_results_exist ok.status_flags)) at_first payload payloads results
    (OkResult ok ∷ []) y
    (λ found left. as_results c _ _
    (then_by c (IsResult c) (more_results_exist ok.status_flags) payload payloads (OkResult ok ∷
    []) found (manual.ok kind is) left))
    (rest_behind c payloads y (more_results_exist ok.status_flags) before (results ++ OkResult ok ∷ []) kind rest goes)
first_back c payload payloads y before results event next kind rest (error_first {error = error} is) goes =
    was_more c at_nothing at_first payload payloads results (ErrorResult error ∷ []) y
    (λ found left. as_results c _ _
    (then_by c (IsResult c) false payload payloads (ErrorResult error ∷
    []) found (manual.error is) left))
    (rest before (results ++ ErrorResult error ∷ []) at_nothing tt goes)
first_back c payload payloads y before results event next kind rest (file_first {name = name} is) goes =
    was_more c at_file at_first payload payloads results (FileResult name ∷ []) y
    (λ found left. as_results c _ _
    (then_by c (IsResult c) false payload payloads (FileResult name ∷
    []) found (subst (λ (k : Payload). IsResult c (k ∷ []) (FileResult name ∷ []) false)
    (sym is) (manual.file kind)) left))
    (rest before (results ++ FileResult name ∷ []) at_file tt goes)
first_back c payload payloads y before results event next kind rest (count_first {n = n} is) goes =
    was_same c (at_columns (n - 1) []) at_first payload payloads results y
    (λ found left. as_results c _ _
    (then_before c (SetLeft c (n - 1 + 1) []) (IsResult c) payload payloads found
    (count_before c n payload kind is) left))
    (rest before results (at_columns (n - 1) []) tt
    (ap (λ (k : Option Came). came_behind c k payloads)
    (sym (with_none (Columns ResultSet (n - 1) []) before results (SetPart true))) ∙ goes))

-- Behind the last column.
columns_back : (c : Context) (b : Bool) (payloads : List Payload) (y : Came)
    (earlier : List ColumnDefinition) (column : ColumnDefinition)
    (before : Option (List ColumnDefinition)) (results : List Outcome) (payload : Payload) →
    deprecate_eof c ≡ b → IsColumnPacket c payload column → Rest c payloads y →
    came_behind c (Some (stands (if b then Rows true else ColumnsEnd ResultSet true)
    (Some (earlier ++ column ∷ [])) results
    (set_at true (earlier ++ column ∷
    []) (if b then Rows true else ColumnsEnd ResultSet true)))) payloads ≡ Some y →
    Was c (at_columns 0 earlier) (payload ∷ payloads) results y
columns_back c true payloads y earlier column before results payload due is rest goes =
    let all : List ColumnDefinition = earlier ++ column ∷ [] in
    was_same c (at_rows all []) (at_columns 0 earlier) payload payloads results y
    (λ found left. then_before c (EndLeft c all) (SetLeft c (0 + 1) earlier) payload payloads found
    (last_column c earlier payload column is)
    (then_same c (EndedAfter c all []) (EndLeft c all) payloads found (rows_behind c all due)
    left))
    (rest before results (at_rows all []) tt goes)
columns_back c false payloads y earlier column before results payload due is rest goes =
    let all : List ColumnDefinition = earlier ++ column ∷ [] in
    was_same c (at_columns_end all) (at_columns 0 earlier) payload payloads results y
    (λ found left. then_before c (EndLeft c all) (SetLeft c (0 + 1) earlier) payload payloads found
    (last_column c earlier payload column is) left)
    (rest before results (at_columns_end all) (has_one earlier column, due) goes)

column_back : (c : Context) (n : ℕ) (earlier : List ColumnDefinition) (payload : Payload)
    (payloads : List Payload) (y : Came) (before : Option (List ColumnDefinition))
    (results : List Outcome) (event : Event) (next : ReplySoFar) → Rest c payloads y →
    ColumnIs c (record { awaited = Columns ResultSet n earlier; columns = before }) ResultSet n
    earlier payload event next →
    came_behind c (Some (with_event
    (stands (Columns ResultSet n earlier) before results (SetPart true)) event next)) payloads ≡
    Some y → Was c (at_columns n earlier) (payload ∷ payloads) results y
column_back c zero earlier payload payloads y before results event next rest (column_is found is) goes =
    columns_back c (deprecate_eof c) payloads y earlier found.column before results payload refl is rest
    (ap (λ (k : Option Came). came_behind c k payloads)
    (ap (λ (k : List Outcome). Some (set_columns_at c (earlier ++ found.column ∷ []) k))
    (sym (append-nil results))) ∙ goes)
column_back c (suc n) earlier payload payloads y before results event next rest (column_is found is) goes =
    was_same c (at_columns n (earlier ++ found.column ∷ [])) (at_columns (suc n) earlier) payload payloads results y
    (λ listed_there left. then_before c (SetLeft c (n + 1) (earlier ++ found.column ∷ []))
    (SetLeft c (suc n + 1) earlier) payload payloads listed_there
    (column_before c n earlier payload found.column is) left)
    (rest before results (at_columns n (earlier ++ found.column ∷ [])) tt
    (ap (λ (k : Option Came). came_behind c k payloads)
    (sym (with_none (Columns ResultSet n (earlier ++ found.column ∷ [])) before results
    (SetPart true))) ∙ goes))

-- Behind the EOF of columns.
eof_back : (c : Context) (columns : List ColumnDefinition) (payload : Payload)
    (payloads : List Payload) (y : Came) (results : List Outcome) (says : OkPacket) (b : Bool) →
    has_results c.kind ≡ true → IsEofDue c columns (payload ∷ []) (Some says) →
    opens_cursor c (Some says) ≡ b → Rest c payloads y →
    came_behind c (Some (set_by c b columns results says)) payloads ≡ Some y →
    Was c (at_columns_end columns) (payload ∷ payloads) results y
eof_back c columns payload payloads y results says true kind due cursor rest goes =
    was_more c (place_behind (more_results_exist says.status_flags)) (at_columns_end columns)
    payload payloads results (RowsResult columns [] (Some says) ∷ []) y
    (λ found left. then_by c (EndLeft c columns) (more_results_exist says.status_flags) payload
    payloads (RowsResult columns [] (Some says) ∷
    []) found (cursor_left (payload ∷ []) due cursor) left)
    (rest_behind c payloads y (more_results_exist says.status_flags) (Some columns) (results ++
    RowsResult columns [] (Some says) ∷ []) kind rest goes)
eof_back c columns payload payloads y results says false kind due denied rest goes =
    was_same c (at_rows columns []) (at_columns_end columns) payload payloads results y
    (λ found left. then_before c (EndedAfter c columns []) (EndLeft c columns) payload payloads
    found (eof_before c columns payload says due denied) left)
    (rest None results (at_rows columns []) tt goes)

-- An EOF is due only where it isn't deprecated.
columns_end_back : (c : Context) (columns : List ColumnDefinition) (payload : Payload)
    (payloads : List Payload) (y : Came) (results : List Outcome) (event : Event)
    (next : ReplySoFar) → has_results c.kind ≡ true → HasFirst columns → deprecate_eof c ≡ false →
    Rest c payloads y →
    EofIs c (record { awaited = ColumnsEnd ResultSet true; columns = Some columns }) ResultSet true
    payload event next → came_behind c
    (Some (with_event (stands (ColumnsEnd ResultSet true) (Some columns) results (SetPart true))
    event next)) payloads ≡ Some y →
    Was c (at_columns_end columns) (payload ∷ payloads) results y
columns_end_back c columns payload payloads y results event next kind some due rest (eof_is {says = says} is) goes =
    eof_back c columns payload payloads y results says (opens_cursor c (Some says)) kind
    (due_eof c columns payload says some due is) refl rest
    (ap (λ (k : Option Came). came_behind c k payloads)
    (sym (set_end c (opens_cursor c (Some says)) columns results says)) ∙ goes)

row_back : (c : Context) (columns : List ColumnDefinition) (these : List Row) (payload : Payload)
    (payloads : List Payload) (y : Came) (results : List Outcome) (event : Event)
    (next : ReplySoFar) → has_results c.kind ≡ true → Rest c payloads y →
    RowIs c columns payload event next →
    came_behind c (Some (with_event
    (stands (Rows true) (Some columns) results (RowsPart columns these)) event next)) payloads ≡
    Some y → Was c (at_rows columns these) (payload ∷ payloads) results y
row_back c columns these payload payloads y results event next kind rest (row_is {row = row} is) goes =
    was_same c (at_rows columns (these ++ row ∷ [])) (at_rows columns these) payload payloads results y
    (λ found left. then_before c (EndedAfter c columns (these ++ row ∷ []))
    (EndedAfter c columns these) payload payloads found
    (row_before c columns these payload row is) left)
    (rest None results (at_rows columns (these ++ row ∷ [])) tt
    (ap (λ (k : Option Came). came_behind c k payloads)
    (sym (with_none (Rows true) (Some columns) results (RowsPart columns (these ++ row ∷ []))))
    ∙ goes))
row_back c columns these payload payloads y results event next kind rest (terminator_is {ok = ok} is) goes =
    was_more c (place_behind (more_results_exist ok.status_flags)) (at_rows columns these) payload
    payloads results (RowsResult columns these (Some ok) ∷ []) y
    (λ found left. then_by c (EndedAfter c columns these) (more_results_exist ok.status_flags)
    payload payloads (RowsResult columns these (Some ok) ∷
    []) found (terminator_ends c columns these payload ok is) left)
    (rest_behind c payloads y (more_results_exist ok.status_flags) (Some columns) (results ++
    RowsResult columns these (Some ok) ∷ []) kind rest goes)
row_back c columns these payload payloads y results event next kind rest (error_is {error = error} is) goes =
    was_more c at_nothing (at_rows columns these) payload payloads results
    (RowsResult columns these None ∷ ErrorResult error ∷ []) y
    (λ found left. then_by c (EndedAfter c columns these) false payload payloads
    (RowsResult columns these None ∷ ErrorResult error ∷
    []) found (error_ends c columns these payload error is) left)
    (rest (Some columns) (results ++ RowsResult columns these None ∷ ErrorResult error ∷ []) at_nothing tt goes)

back : (c : Context) → has_results c.kind ≡ true → Follow c → (payloads : List Payload) (y : Came) →
    is_over y.so_far.awaited ≡ true → Rest c payloads y
back c kind follow [] y over before results place fair is = nothing_was c before results place y (some_is _ y is) over
back c kind follow (payload ∷ payloads) y over before results at_first fair is =
    let x : Came = stands First before results NoPart in
    let e = has_step c x y (in_place c x.so_far First payload) payloads is in
    first_back c payload payloads y before results e.0.0 e.0.1 kind
    (back c kind follow payloads y over)
    (subst (OnStep (FirstIs c x.so_far payload)) e.1
    (first_found c x.so_far payload kind follow)) (goes_on_by c x y _ e.0 payloads e.1 is)
back c kind follow (payload ∷ payloads) y over before results (at_columns n earlier) fair is =
    let x : Came = stands (Columns ResultSet n earlier) before results (SetPart true) in
    let e = has_step c x y (in_place c x.so_far (Columns ResultSet n earlier) payload) payloads is in
    column_back c n earlier payload payloads y before results e.0.0 e.0.1
    (back c kind follow payloads y over)
    (subst (OnStep (ColumnIs c x.so_far ResultSet n earlier payload)) e.1
    (column_found c x.so_far ResultSet n earlier payload))
    (goes_on_by c x y _ e.0 payloads e.1 is)
back c kind follow (payload ∷ payloads) y over before results (at_columns_end columns) fair is =
    let x : Came = stands (ColumnsEnd ResultSet true) (Some columns) results (SetPart true) in
    let e = has_step c x y (in_place c x.so_far (ColumnsEnd ResultSet true) payload) payloads is in
    columns_end_back c columns payload payloads y results e.0.0 e.0.1 kind fair.0 fair.1
    (back c kind follow payloads y over)
    (subst (OnStep (EofIs c x.so_far ResultSet true payload)) e.1
    (eof_found c x.so_far ResultSet true payload)) (goes_on_by c x y _ e.0 payloads e.1 is)
back c kind follow (payload ∷ payloads) y over before results (at_rows columns these) fair is =
    let x : Came = stands (Rows true) (Some columns) results (RowsPart columns these) in
    let e = has_step c x y (in_place c x.so_far (Rows true) payload) payloads is in
    row_back c columns these payload payloads y results e.0.0 e.0.1 kind
    (back c kind follow payloads y over)
    (subst (OnStep (RowIs c columns payload)) e.1 (row_found c columns payload))
    (goes_on_by c x y _ e.0 payloads e.1 is)
back c kind follow (payload ∷ payloads) y over before results at_file fair is =
    absurd (none_is_some y (sym (none_behind c payloads) ∙ is))
back c kind follow (payload ∷ payloads) y over before results at_nothing fair is =
    absurd (none_is_some y (sym (none_behind c payloads) ∙ is))

-- The results of a query or an execution, from its first payload to its end.
pub results_back : (c : Context) (before : Option (List ColumnDefinition)) (payloads : List Payload)
    (y : Came) → has_results c.kind ≡ true → Follow c → is_over y.so_far.awaited ≡ true →
    came_behind c (Some (stands First before [] NoPart)) payloads ≡ Some y →
    AreResults c payloads (y.results ++ listed y.part)
results_back c before payloads y kind follow over is =
    let was = back c kind follow payloads y over before [] at_first tt is in
    subst (AreResults c payloads) (sym was.whole) was.left
