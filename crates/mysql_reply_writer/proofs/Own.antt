-- Replies that were read, and what is read of them once they were written again.
use Rattle.std.proofs.Common.{◌≡◌, ℕ, Bool, true, false, if◌then◌else◌, List, [], ◌∷◌, ◌++◌, map, Option, Some, None}
use Rattle.std.proofs.Common.{refl, sym, ap, subst, ◌∙◌, append-nil}
use Rattle.std.specs.Prelude.{bytes_eq, take}
use Rattle.std.specs.List.{AllByRecursion}
use Rattle.std.proofs.lemmas.Bool.{and_parts}
use Rattle.std.proofs.lemmas.List.{map-append}
use Rattle.mysql_ok_packets.specs.OkPackets.{OkPacket, more_results_exist}
use Rattle.mysql_ok_packets.specs.Written.{IsWritable, as_eof, as_ok}
use Rattle.mysql_server_packets.specs.Packets.{ProgressReport}
use Rattle.mysql_columns.specs.Columns.{ColumnDefinition}
use Rattle.mysql_rows.specs.Rows.{Row}
use Rattle.mysql_reply_events.specs.declared.context.Context.{Context}
use Rattle.mysql_replies.specs.Together.{ErrorResult, OkResult, Outcome, PreparedResult, RowsResult}
use Rattle.mysql_reply_events.specs.Readings.{deprecate_eof, protocol}
use Rattle.mysql_replies.specs.Reply.{Payload}
use Rattle.mysql_replies.specs.Manual as manual
use Rattle.mysql_replies.specs.Manual.{AreResults, EndedRows, IsColumnGroup, IsEofDue, IsResult, WithoutReports}
use Rattle.mysql_replies.specs.Manual.{nothing, terminated, failed}
use Rattle.mysql_reply_writer.specs.Own.{AreFewBytes, ReadReportsAreTheirOwn, ReadResultsAreTheirOwn}
use Rattle.mysql_reply_writer.specs.Own.{without_zero_signs, row_without_zero_signs}
use Rattle.mysql_reply_writer.specs.Written.{error_written, is_some_result, report_written, results_read, saying}
use Rattle.mysql_reply_writer.specs.Written.{terminator_read, tells_progress}
use Rattle.mysql_reply_writer.proofs.OwnPackets.{OwnLaws, counting_own, error_own, group_count, ok_own, report_own}
use Rattle.mysql_reply_writer.proofs.OwnPackets.{rows_own, saying_own, terminator_own}

abbrev pub AreFew : List Payload → Type 0
AreFew payloads = AllByRecursion (λ payload. AreFewBytes payload) payloads

pub few_first : (first others : List Payload) → AreFew (first ++ others) → AreFew first
few_first [] others few = tt
few_first (payload ∷ first) others few = (few.0, few_first first others few.1)

pub few_others : (first others : List Payload) → AreFew (first ++ others) → AreFew others
few_others [] others few = few
few_others (payload ∷ first) others few = few_others first others few.1

-- ---- the EOF that opens a cursor

due_own : OwnLaws → (c : Context) (columns : List ColumnDefinition) (end : List Payload)
    (ok : OkPacket) (says : Option OkPacket) → AreFew end → IsEofDue c columns end says → says ≡
    Some ok →
    IsWritable ok × (deprecate_eof c ≡ false) × (as_eof ok ≡ ok)
due_own laws c columns end ok says few manual.no_columns is = absurd cc
due_own laws c columns end ok says few (manual.deprecated off) is = absurd cc
due_own laws c columns end ok says few (manual.eof {payload = payload} {says = said} on read) is =
    let same : said ≡ ok = cc in
    let own = laws.eof payload read.fields.0 said few.0.bytes few.0.few read.fields.1 in
    subst (λ (p : OkPacket). IsWritable p × (deprecate_eof c ≡ false) × (as_eof p ≡ p)) same (own.0, on, own.1)

-- It can be written, and is read as what ends rows.
pub record CursorOwn (c : Context) (ok : OkPacket) : Type 0 where
  pub can : IsWritable ok
  pub read : terminator_read c (saying (more_results_exist ok.status_flags) ok) ≡ ok

pub cursor_own : OwnLaws →
    (c : Context) (n : ℕ) (payloads : List Payload) (columns : List ColumnDefinition)
    (ok : OkPacket) (says : Option OkPacket) → AreFew payloads →
    IsColumnGroup c n payloads columns says → says ≡ Some ok → CursorOwn c ok
cursor_own laws c n payloads columns ok says few (manual.group front end {columns = these} are due) is =
    let own = due_own laws c these end ok says (few_others front end few) due is in
    record { can = own.0; read = ap (terminator_read c) (saying_own ok own.0) ∙ rw own.1 own.2 }

-- ---- results

-- Before others, by whether the last of these says that some follow, each of these is read as it is but for signs.
abbrev AreOwn : Context → List Outcome → Bool → Type 0
AreOwn c listed more = (rest : List Outcome) → is_some_result rest ≡ more →
    results_read c (listed ++ rest) ≡ map (without_zero_signs c) listed ++ results_read c rest

ended_own : OwnLaws → (c : Context) (columns : List ColumnDefinition) (payloads : List Payload)
    (listed : List Outcome) (more : Bool) → AreFew payloads →
    EndedRows c columns payloads listed more → AreOwn c listed more
ended_own laws c columns payloads listed more few
    (terminated before {rows = rows} {last = last} {ok = ok} are is) rest e =
    let same = ap (λ (b : Bool). terminator_read c (saying b ok)) e ∙
    terminator_own laws c last ok (few_others before (last ∷ []) few).0 is in
    ap (λ (r : List Row). RowsResult columns r
    (Some (terminator_read c (saying (is_some_result rest) ok))) ∷ results_read c rest)
    (rows_own laws c columns before rows (few_first before (last ∷ []) few) are)
    ∙ ap (λ p. RowsResult columns (map (row_without_zero_signs c) rows) (Some p) ∷ results_read c rest) same
ended_own laws c columns payloads listed more few
    (failed before {rows = rows} {last = last} {error = error} are is) rest e =
    ap (λ (r : List Row). RowsResult columns r None ∷
    ErrorResult (error_written (protocol c) error) ∷ results_read c rest)
    (rows_own laws c columns before rows (few_first before (last ∷ []) few) are)
    ∙ ap (λ p. RowsResult columns (map (row_without_zero_signs c) rows) None ∷ ErrorResult p ∷
    results_read c rest) (error_own (protocol c) last error is.fields)

result_own : OwnLaws → (c : Context) (payloads : List Payload) (listed : List Outcome)
    (more : Bool) → AreFew payloads → IsResult c payloads listed more → AreOwn c listed more
result_own laws c payloads listed more few (manual.ok {payload = payload} {ok = ok} command is) rest e =
    ap (λ p. OkResult p ∷ results_read c rest)
    (ap (λ (b : Bool). as_ok (protocol c) (saying b ok)) e ∙ ok_own laws c payload ok few.0 is)
result_own laws c payloads listed more few (manual.error {payload = payload} {error = error} is) rest e =
    ap (λ p. ErrorResult p ∷ results_read c rest) (error_own (protocol c) payload error is.fields)
result_own laws c payloads listed more few (manual.file {name = name} command) rest e = refl
result_own laws c payloads listed more few
    (manual.rows {count = count} {n = n} front behind {columns = columns} command is g closed ended)
    rest e =
    ended_own laws c columns behind listed more (few_others front behind few.1) ended rest e
result_own laws c payloads listed more few
    (manual.cursor {count = count} {n = n} front {columns = columns} {ok = ok} command is g opens)
    rest e =
    ap (λ p. RowsResult columns [] (Some p) ∷ results_read c rest)
    (ap (λ (b : Bool). terminator_read c (saying b ok)) e ∙
    (cursor_own laws c n front columns ok (Some ok) few.1 g refl).read)
result_own laws c payloads listed more few
    (manual.prepared {packet = packet} {statement = statement} first second {parameters =
    parameters} {columns = columns} command header is g h) rest e =
    ap (λ p. PreparedResult p parameters columns ∷ results_read c rest)
    (counting_own statement parameters columns
    (group_count c statement.num_params first parameters _ g)
    (group_count c statement.num_columns second columns _ h))

-- ---- results one after another

ended_some : (c : Context) (columns : List ColumnDefinition) (payloads : List Payload)
    (listed rest : List Outcome) (more : Bool) → EndedRows c columns payloads listed more →
    is_some_result (listed ++ rest) ≡ true
ended_some c columns payloads listed rest more (terminated before are is) = refl
ended_some c columns payloads listed rest more (failed before are is) = refl

result_some : (c : Context) (payloads : List Payload) (listed rest : List Outcome) (more : Bool) →
    IsResult c payloads listed more → is_some_result (listed ++ rest) ≡ true
result_some c payloads listed rest more (manual.ok command is) = refl
result_some c payloads listed rest more (manual.error is) = refl
result_some c payloads listed rest more (manual.file command) = refl
result_some c payloads listed rest more
    (manual.rows front behind {columns = columns} command is g closed ended) =
    ended_some c columns behind listed rest more ended
result_some c payloads listed rest more (manual.cursor front command is g opens) = refl
result_some c payloads listed rest more (manual.prepared first second command header is g h) = refl

pub results_some : (c : Context) (payloads : List Payload) (listed : List Outcome) →
    AreResults c payloads listed → is_some_result listed ≡ true
results_some c payloads listed (manual.last is) = ap is_some_result (sym (append-nil listed)) ∙
    result_some c payloads listed [] false is
results_some c payloads listed (manual.followed first others here rest is are) = result_some c first here rest true is

results_own : OwnLaws → (c : Context) (payloads : List Payload) (listed : List Outcome) →
    AreFew payloads → AreResults c payloads listed → results_read c listed ≡
    map (without_zero_signs c) listed
results_own laws c payloads listed few (manual.last is) =
    ap (results_read c) (sym (append-nil listed)) ∙
    result_own laws c payloads listed false few is [] refl ∙
    append-nil (map (without_zero_signs c) listed)
results_own laws c payloads listed few (manual.followed first others here rest is are) =
    result_own laws c first here true (few_first first others few) is rest (results_some c others rest are)
    ∙ ap (λ (l : List Outcome). map (without_zero_signs c) here ++
    l) (results_own laws c others rest (few_others first others few) are)
    ∙ sym (map-append (without_zero_signs c) here rest)

-- ---- with progress reports

pub others_few : (c : Context) (payloads others : List Payload) (reports : List ProgressReport) →
    AreFew payloads → WithoutReports c payloads reports others → AreFew others
others_few c payloads others reports few nothing = tt
others_few c payloads others reports few
    (manual.other {payload = payload} {payloads = rest} {others = left} form without) =
    (few.0, others_few c rest left reports few.1 without)
others_few c payloads others reports few
    (manual.report {payload = payload} {next = next} {payloads = rest} {others = left} {report =
    said} {reports = more} form reads without) =
    others_few c rest (next ∷ left) more few.1 without

reports_own : (c : Context) (payloads others : List Payload) (reports : List ProgressReport) →
    AreFew payloads → WithoutReports c payloads reports others → map report_written reports ≡
    reports
reports_own c payloads others reports few nothing = refl
reports_own c payloads others reports few
    (manual.other {payload = payload} {payloads = rest} {others = left} form without) =
    reports_own c rest left reports few.1 without
reports_own c payloads others reports few
    (manual.report {payload = payload} {next = next} {payloads = rest} {others = left} {report =
    said} {reports = more} form reads without) =
    ap (λ (r : ProgressReport). r ∷ map report_written more) (report_own payload said few.0 reads)
    ∙ ap (λ (l : List ProgressReport). said ∷ l) (reports_own c rest (next ∷ left) more few.1 without)

-- Reports come only to a client that knows them.
none_unknown : (c : Context) (payloads others : List Payload) (reports : List ProgressReport) →
    tells_progress c ≡ false → WithoutReports c payloads reports others → reports ≡ []
none_unknown c payloads others reports unknown nothing = refl
none_unknown c payloads others reports unknown
    (manual.other {payload = payload} {payloads = rest} {others = left} form without) =
    none_unknown c rest left reports unknown without
none_unknown c payloads others reports unknown (manual.report {payload = payload} form reads without) =
    let known = (and_parts (tells_progress c) (bytes_eq (take 3 payload) (255 ∷ 255 ∷ 255 ∷ [])) form).0 in
    absurd cc

pub read_results_are_their_own : OwnLaws → ReadResultsAreTheirOwn
read_results_are_their_own laws c payloads results progress plain few is =
    results_own laws c is.others results
    (others_few c payloads is.others progress few is.without_reports) is.results

pub read_reports_are_their_own : ReadReportsAreTheirOwn
read_reports_are_their_own c payloads results progress plain few is = go (tells_progress c) refl where
  go : (b : Bool) → tells_progress c ≡ b → (if b then map report_written progress else []) ≡ progress
  go true known = reports_own c payloads is.others progress few is.without_reports
  go false unknown = sym (none_unknown c payloads is.others progress unknown is.without_reports)
