-- Reading and writing gives one form.
use Rattle.std.proofs.Common.{◌≡◌, ◌==◌, ◌&&◌, ℕ, Bool, true, false, not, if◌then◌else◌, List, [], ◌∷◌, ◌++◌, map}
use Rattle.std.proofs.Common.{Option, Some, None, refl, sym, ap, subst, ◌∙◌}
use Rattle.std.specs.Prelude.{option_map, unwrap_or}
use Rattle.std.proofs.lemmas.Bool.{and_parts, eqb-true}
use Rattle.std.proofs.lemmas.Grind.{flat_map-append}
use Rattle.mysql_cells.specs.Cells.{form, has_no_sign, time_cell}
use Rattle.mysql_cells.specs.Values.{is_null, is_zero_time, without_zero_sign}
use Rattle.mysql_cells.specs.declared.cell_form.CellForm.{CellForm}
use Rattle.mysql_cells.specs.declared.cell_form.CellForm.TheVariants.{Nothing, Whole1, Whole2, Whole4, Whole8}
use Rattle.mysql_cells.specs.declared.cell_form.CellForm.TheVariants.{FloatBits, DoubleBits, Counted, DateAndTime}
use Rattle.mysql_cells.specs.declared.cell_form.CellForm.TheVariants.{Duration, Without}
use Rattle.mysql_cells.specs.declared.value.Value.{Value}
use Rattle.mysql_cells.specs.declared.value.Value.TheVariants.{NULL, Bytes, Int, UInt, Float, Double, Date, Time}
use Rattle.mysql_wire.specs.Stream.Rest.{Empty}
use Rattle.mysql_server_packets.specs.Packets.{ProgressReport}
use Rattle.mysql_columns.specs.Columns.{ColumnDefinition}
use Rattle.mysql_rows.specs.Rows.{Row}
use Rattle.mysql_cells.specs.TypedCells.{binary_cell, some_cell}
use Rattle.mysql_rows.specs.Written.{binary_cells, binary_row, bits_bytes, cell_in, row_bitmap, values_of}
use Rattle.mysql_reply_events.specs.declared.context.Context.{Context}
use Rattle.mysql_replies.specs.Together.{ErrorResult, FieldsResult, FileResult, LineResult, OkResult, Outcome}
use Rattle.mysql_replies.specs.Together.{PreparedResult, RawRowsResult, RowsResult}
use Rattle.mysql_replies.specs.Reply.{Payload}
use Rattle.mysql_reply_events.specs.Readings.{is_binary}
use Rattle.mysql_replies.specs.Manual.{EachSuchListIsWhole}
use Rattle.mysql_replies.specs.Reply.{Answer, IsReply, Whole}
use Rattle.mysql_reply_writer.specs.ReplyLaws.{WrittenRepliesAreWhole}
use Rattle.mysql_reply_writer.specs.Own.{EqualFormsWereReadEqually, ReadFormsAreWrittenAgain, ReadReportsAreTheirOwn}
use Rattle.mysql_reply_writer.specs.Own.{ReadResultsAreTheirOwn, without_zero_signs, row_without_zero_signs}
use Rattle.mysql_reply_writer.specs.Written.{ColumnsStep, ReportStep, RowStep, Step, cells_payload, end_steps}
use Rattle.mysql_reply_writer.specs.Written.{is_some_result, reply_payloads, reports_read, result_steps, results_read}
use Rattle.mysql_reply_writer.specs.Written.{results_steps, step_payloads, steps_payloads}

-- ---- an all-zero time has one cell

zero_cell : (negative : Bool) (days hours minutes seconds micros : ℕ) →
    is_zero_time days hours minutes seconds micros ≡ true →
    time_cell false days hours minutes seconds micros ≡ time_cell negative days hours minutes seconds micros
zero_cell negative days hours minutes seconds micros zero =
    let first = and_parts (days == 0 && hours == 0 && minutes == 0 && seconds == 0) (micros == 0) zero in
    let second = and_parts (days == 0 && hours == 0 && minutes == 0) (seconds == 0) first.0 in
    let third = and_parts (days == 0 && hours == 0) (minutes == 0) second.0 in
    let fourth = and_parts (days == 0) (hours == 0) third.0 in
    let no_days = eqb-true days 0 fourth.0 in
    let no_hours = eqb-true hours 0 fourth.1 in
    let no_minutes = eqb-true minutes 0 third.1 in
    let no_seconds = eqb-true seconds 0 second.1 in
    let no_micros = eqb-true micros 0 first.1 in
    rw (no_days, no_hours, no_minutes, no_seconds, no_micros) refl

sign_cell : (negative zero : Bool) (days hours minutes seconds micros : ℕ) →
    is_zero_time days hours minutes seconds micros ≡ zero →
    time_cell (negative && not zero) days hours minutes seconds micros ≡
    time_cell negative days hours minutes seconds micros
sign_cell true true days hours minutes seconds micros is = zero_cell true days hours minutes seconds micros is
sign_cell true false days hours minutes seconds micros is = refl
sign_cell false zero days hours minutes seconds micros is = refl

time_same : (column : CellForm) (unsigned negative : Bool) (days hours minutes seconds micros : ℕ) →
    some_cell column unsigned
    (without_zero_sign (Time negative days hours minutes seconds micros)) ≡
    some_cell column unsigned (Time negative days hours minutes seconds micros)
time_same Nothing unsigned negative days hours minutes seconds micros = refl
time_same Whole1 unsigned negative days hours minutes seconds micros = refl
time_same Whole2 unsigned negative days hours minutes seconds micros = refl
time_same Whole4 unsigned negative days hours minutes seconds micros = refl
time_same Whole8 unsigned negative days hours minutes seconds micros = refl
time_same FloatBits unsigned negative days hours minutes seconds micros = refl
time_same DoubleBits unsigned negative days hours minutes seconds micros = refl
time_same Counted unsigned negative days hours minutes seconds micros = refl
time_same DateAndTime unsigned negative days hours minutes seconds micros = refl
time_same Duration unsigned negative days hours minutes seconds micros =
    ap (λ (l : List ℕ). Some l)
    (sign_cell negative (is_zero_time days hours minutes seconds micros) days hours minutes
    seconds micros refl)
time_same Without unsigned negative days hours minutes seconds micros = refl

cell_same : (column : CellForm) (unsigned : Bool) (value : Value) →
    binary_cell column unsigned (without_zero_sign value) ≡ binary_cell column unsigned value
cell_same column unsigned NULL = refl
cell_same column unsigned (Bytes bytes) = refl
cell_same column unsigned (Int z) = refl
cell_same column unsigned (UInt n) = refl
cell_same column unsigned (Float bits) = refl
cell_same column unsigned (Double bits) = refl
cell_same column unsigned (Date year month day hour minute second micros) = refl
cell_same column unsigned (Time negative days hours minutes seconds micros) =
    time_same column unsigned negative days hours minutes seconds micros

null_same : (value : Value) → is_null (without_zero_sign value) ≡ is_null value
null_same NULL = refl
null_same (Bytes bytes) = refl
null_same (Int z) = refl
null_same (UInt n) = refl
null_same (Float bits) = refl
null_same (Double bits) = refl
null_same (Date year month day hour minute second micros) = refl
null_same (Time negative days hours minutes seconds micros) = refl

-- ---- rows

nulls_same : (values : List Value) → map is_null (map without_zero_sign values) ≡ map is_null values
nulls_same [] = refl
nulls_same (value ∷ values) =
    ap (λ (b : Bool). b ∷ map is_null (map without_zero_sign values)) (null_same value) ∙
    ap (λ (l : List Bool). is_null value ∷ l) (nulls_same values)

cells_same : (columns : List ColumnDefinition) (values : List Value) →
    binary_cells columns (map without_zero_sign values) ≡ binary_cells columns values
cells_same [] [] = refl
cells_same [] (value ∷ values) = refl
cells_same (column ∷ columns) [] = refl
cells_same (column ∷ columns) (value ∷ values) =
    ap (λ (o : Option (List ℕ)). unwrap_or o [] ++
    binary_cells columns (map without_zero_sign values))
    (cell_same (form column.column_type) (has_no_sign column.flags) value)
    ∙ ap (λ (l : List ℕ). unwrap_or (cell_in column value) [] ++ l) (cells_same columns values)

row_same : (columns : List ColumnDefinition) (values : List Value) →
    binary_row columns (map without_zero_sign values) ≡ binary_row columns values
row_same columns values =
    ap (λ (marks : List Bool). 0 ∷
    (bits_bytes (false ∷ false ∷ marks) ++ binary_cells columns (map without_zero_sign values)))
    (nulls_same values)
    ∙ ap (λ (l : List ℕ). 0 ∷ (row_bitmap values ++ l)) (cells_same columns values)

values_signless : (cells : List (Option Value)) →
    values_of (map (option_map without_zero_sign) cells) ≡ map without_zero_sign (values_of cells)
values_signless [] = refl
values_signless (None ∷ cells) = values_signless cells
values_signless (Some value ∷ cells) = ap (λ (l : List Value). without_zero_sign value ∷ l) (values_signless cells)

payload_by : (binary : Bool) (columns : List ColumnDefinition) (cells : List (Option Value)) →
    cells_payload binary columns
    (if binary then map (option_map without_zero_sign) cells else cells) ≡
    cells_payload binary columns cells
payload_by true columns cells = ap (binary_row columns) (values_signless cells) ∙ row_same columns (values_of cells)
payload_by false columns cells = refl

rows_same : (c : Context) (columns : List ColumnDefinition) (rows : List Row) (others : List Step) →
    steps_payloads c (map (RowStep columns) (map (row_without_zero_signs c) rows) ++ others) ≡
    steps_payloads c (map (RowStep columns) rows ++ others)
rows_same c columns [] others = refl
rows_same c columns (row ∷ rows) others =
    ap (λ (p : Payload). p ∷ steps_payloads c
    (map (RowStep columns) (map (row_without_zero_signs c) rows) ++ others))
    (payload_by (is_binary c.kind) columns row.cells)
    ∙ ap (λ (l : List Payload). cells_payload (is_binary c.kind) columns row.cells ∷
    l) (rows_same c columns rows others)

-- ---- results

result_same : (c : Context) (more : Bool) (outcome : Outcome) →
    steps_payloads c (result_steps more (without_zero_signs c outcome)) ≡
    steps_payloads c (result_steps more outcome)
result_same c more (OkResult ok) = refl
result_same c more (RowsResult columns rows end) =
    ap (λ (l : List Payload). step_payloads c (ColumnsStep columns) ++
    l) (rows_same c columns rows (end_steps more end))
result_same c more (PreparedResult statement parameters columns) = refl
result_same c more (ErrorResult error) = refl
result_same c more (FileResult name) = refl
result_same c more (RawRowsResult rows end) = refl
result_same c more (FieldsResult fields end) = refl
result_same c more (LineResult text) = refl

some_same : (c : Context) (results : List Outcome) →
    is_some_result (map (without_zero_signs c) results) ≡ is_some_result results
some_same c [] = refl
some_same c (first ∷ others) = refl

results_same : (c : Context) (results : List Outcome) →
    steps_payloads c (results_steps (map (without_zero_signs c) results)) ≡
    steps_payloads c (results_steps results)
results_same c [] = refl
results_same c (first ∷ others) =
    ap (λ (b : Bool). steps_payloads c (result_steps b (without_zero_signs c first) ++
    results_steps (map (without_zero_signs c) others))) (some_same c others)
    ∙ flat_map-append (step_payloads c)
    (result_steps (is_some_result others) (without_zero_signs c first))
    (results_steps (map (without_zero_signs c) others))
    ∙ ap (λ (l : List Payload). l ++
    steps_payloads c (results_steps (map (without_zero_signs c) others)))
    (result_same c (is_some_result others) first)
    ∙ ap (λ (l : List Payload). steps_payloads c (result_steps (is_some_result others) first) ++
    l) (results_same c others)
    ∙ sym (flat_map-append (step_payloads c) (result_steps (is_some_result others) first) (results_steps others))

signs_not_written : (c : Context) (results : List Outcome) (progress : List ProgressReport) →
    reply_payloads c (map (without_zero_signs c) results) progress ≡
    reply_payloads c results progress
signs_not_written c results progress =
    flat_map-append (step_payloads c) (map ReportStep progress) (results_steps (map (without_zero_signs c) results))
    ∙ ap (λ (l : List Payload). steps_payloads c (map ReportStep progress) ++ l) (results_same c results)
    ∙ sym (flat_map-append (step_payloads c) (map ReportStep progress) (results_steps results))

pub read_forms_are_written_again : ReadResultsAreTheirOwn → ReadReportsAreTheirOwn → ReadFormsAreWrittenAgain
read_forms_are_written_again own own_reports c payloads results progress plain few is =
    ap (λ (r : List Outcome). reply_payloads c r (reports_read c progress))
    (own c payloads results progress plain few is)
    ∙ ap (λ (p : List ProgressReport). reply_payloads c (map (without_zero_signs c) results) p)
    (own_reports c payloads results progress plain few is)
    ∙ signs_not_written c results progress

-- ---- equal forms

pub equal_forms_were_read_equally : ReadResultsAreTheirOwn → ReadReportsAreTheirOwn →
    WrittenRepliesAreWhole → EachSuchListIsWhole → EqualFormsWereReadEqually
equal_forms_were_read_equally own own_reports written each c limit payloads others results more
    progress reports plain few few_others is their_is fit other_fit none other_none same =
    let mine : Answer = record { results = results_read c results; progress = reports_read c progress; end = Whole } in
    let theirs : Answer = record { results = results_read c more; progress = reports_read c reports; end = Whole } in
    let first : IsReply c (reply_payloads c results progress) Empty mine =
    each c (reply_payloads c results progress) (results_read c results) (reports_read c progress)
    (written c limit results progress plain fit none) in
    let second : IsReply c (reply_payloads c more reports) Empty theirs =
    each c (reply_payloads c more reports) (results_read c more) (reports_read c reports)
    (written c limit more reports plain other_fit other_none) in
    let one : mine ≡ theirs =
    first ∙ sym (subst (λ (l : List Payload). IsReply c l Empty theirs) (sym same) second) in (
      sym (own c payloads results progress plain few is) ∙ ap (λ (a : Answer). a.results) one ∙
          own c others more reports plain few_others their_is,
      sym (own_reports c payloads results progress plain few is) ∙
          ap (λ (a : Answer). a.progress) one ∙
          own_reports c others more reports plain few_others their_is,
    )
