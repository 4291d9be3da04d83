-- Packets that were read, and what is read of them once they were written again.
use Rattle.std.proofs.Common.{◌≡◌, ◌+◌, ◌*◌, ◌<◌, ◌^◌, ℕ, zero, suc, Bool, true, false, if◌then◌else◌, List, [], ◌∷◌}
use Rattle.std.proofs.Common.{length, map, take, drop, Option, Some, None, Ok, refl, sym, ap, subst, ◌∙◌, arith}
use Rattle.std.specs.Prelude.{option_map}
use Rattle.std.specs.Int.RustNames.{bit_and}
use Rattle.std.specs.Int.{bit_at}
use Rattle.std.specs.Int.Bits.{or_add_and}
use Rattle.std.specs.List.{AllByRecursion}
use Rattle.std.proofs.lemmas.Bool.{eqb-true, eqb-false}
use Rattle.std.proofs.lemmas.List.{get_or-drop}
use Rattle.std.proofs.lemmas.Nat.{and-not, and_comm}
use Rattle.std.proofs.lemmas.Nat.Bits.{and_pow, bit_at-lt}
use Rattle.std.proofs.Math.Nat.{mod-eq_of_lt}
use Rattle.byteorder.specs.Endian.{little_number}
use Rattle.byteorder.specs.Numbers.{little_from-lt}
use Rattle.mysql_buf.specs.Bytes.{AreBytes}
use Rattle.mysql_buf.specs.FirstBytes.{first-some}
use Rattle.mysql_buf.specs.Reading.{little_at}
use Rattle.mysql_buf.specs.Reading as buffer
use Rattle.mysql_fields.specs.Forms.{bytes_at, fixed_number_at}
use Rattle.mysql_fields.specs.Laws.{bind_ok, ok_same}
use Rattle.mysql_fields.specs.Wire.{or_end}
use Rattle.mysql_wire.specs.Texts.{lenenc_text_at}
use Rattle.mysql_cells.specs.Values.{without_zero_sign}
use Rattle.mysql_cells.specs.declared.value.Value.{Value}
use Rattle.mysql_ok_packets.specs.OkPackets.{OkPacket, more_results_exist, old_eof_at, result_set_terminator_at}
use Rattle.mysql_ok_packets.specs.Statements.{EofPacketsAreTheirOwn, OkPacketsAreTheirOwn, TerminatorsAreTheirOwn}
use Rattle.mysql_ok_packets.specs.Written.{IsWritable, as_eof, as_ok, as_terminator}
use Rattle.mysql_server_packets.specs.Packets.{PrepareOk, ProgressReport, ServerError, StageProgress, error_at}
use Rattle.mysql_server_packets.specs.Packets.{error_code_at, progress_body_at, progress_report_at, protocol_41}
use Rattle.mysql_server_packets.specs.Packets.{server_error_at, sql_state_at, stage_progress_at, state_part_at}
use Rattle.mysql_columns.specs.Columns.{ColumnDefinition}
use Rattle.mysql_rows.specs.Rows.{Row, binary_resultset_row_at, text_row_at, whole_row}
use Rattle.mysql_rows.specs.Written.{as_binary, as_text, values_of}
use Rattle.mysql_rows.specs.WrittenLaws.{ReadBinaryRowsAreWritten, ReadTextRowsAreWritten}
use Rattle.mysql_reply_events.specs.declared.context.Context.{Context}
use Rattle.mysql_replies.specs.Reply.{Payload}
use Rattle.mysql_reply_events.specs.Readings.{deprecate_eof, is_binary, protocol}
use Rattle.mysql_replies.specs.Manual.{AreRows, IsColumnGroup, IsOk, IsRow, IsTerminator, Reads, group}
use Rattle.mysql_reply_writer.specs.Own.{AreFewBytes, row_without_zero_signs}
use Rattle.mysql_reply_writer.specs.Written.{counting, error_written, report_written, row_read, saying, state_written}
use Rattle.mysql_reply_writer.specs.Written.{terminator_read, with_more}

-- What is cited of the crates below.
pub record OwnLaws : Type 0 where
  pub ok : OkPacketsAreTheirOwn
  pub terminator : TerminatorsAreTheirOwn
  pub eof : EofPacketsAreTheirOwn
  pub text : ReadTextRowsAreWritten
  pub binary : ReadBinaryRowsAreWritten

-- ---- what was read of bytes

pub stands : {X : Type 0} (o : Option X) (x : X) → or_end o ≡ Ok x → o ≡ Some x
stands None x h = absurd cc
stands (Some y) x h = cc

pub left_bytes : (n : ℕ) (bytes : List ℕ) → AreBytes bytes → AreBytes (drop n bytes)
left_bytes n bytes all = λ i. rw (get_or-drop n bytes i 0) (all (n + i))

pub taken_bytes : (n : ℕ) (bytes : List ℕ) → AreBytes bytes → AreBytes (take n bytes)
taken_bytes zero bytes all i = omega arith
taken_bytes (suc n) [] all i = omega arith
taken_bytes (suc n) (b ∷ bytes) all zero = all 0
taken_bytes (suc n) (b ∷ bytes) all (suc i) = taken_bytes n bytes (λ k. all (suc k)) i

pub number_read : (n : ℕ) (bytes : List ℕ) (p : ℕ × List ℕ) → AreBytes bytes →
    fixed_number_at n bytes ≡ Ok p → (p.0 < 256 ^ n) × AreBytes p.1
number_read n bytes p all h =
    let part = first-some n (little_number n) bytes p (stands (little_at n bytes) p h) in (
      subst (λ (q : ℕ × List ℕ). q.0 < 256 ^ n) (sym part.1) (little_from-lt 0 n bytes all),
      subst (λ (q : ℕ × List ℕ). AreBytes q.1) (sym part.1) (left_bytes n bytes all),
    )

pub block_read : (n : ℕ) (bytes : List ℕ) (p : List ℕ × List ℕ) → AreBytes bytes →
    bytes_at n bytes ≡ Ok p → AreBytes p.0 × AreBytes p.1
block_read n bytes p all h =
    let part = first-some n (take n) bytes p (stands (buffer.bytes_at n bytes) p h) in
    subst (λ (q : List ℕ × List ℕ). AreBytes q.0 × AreBytes q.1) (sym part.1)
    (taken_bytes n bytes all, left_bytes n bytes all)

-- ---- progress reports

stage_few : (bytes rest : List ℕ) (p : StageProgress) → AreBytes bytes → stage_progress_at bytes ≡
    Ok (p, rest) → p.progress < 2 ^ 24
unfolding stage_progress_at
stage_few bytes rest p all h =
    let count = bind_ok (fixed_number_at 1 bytes) _ (p, rest) h in
    let one = number_read 1 bytes count.0 all count.1 in
    let stage = bind_ok (fixed_number_at 1 count.0.1) _ (p, rest) count.2 in
    let two = number_read 1 count.0.1 stage.0 one.1 stage.1 in
    let max_stage = bind_ok (fixed_number_at 1 stage.0.1) _ (p, rest) stage.2 in
    let three = number_read 1 stage.0.1 max_stage.0 two.1 max_stage.1 in
    let progress = bind_ok (fixed_number_at 3 max_stage.0.1) _ (p, rest) max_stage.2 in
    let four = number_read 3 max_stage.0.1 progress.0 three.1 progress.1 in
    let made : StageProgress = record { stage = stage.0.0; max_stage = max_stage.0.0; progress = progress.0.0 } in
    subst (λ (q : StageProgress × List ℕ). q.0.progress < 2 ^ 24)
    (ok_same (made, progress.0.1) (p, rest) progress.2) (omega (arith, four.0))

report_few : (bytes rest : List ℕ) (report : ProgressReport) → AreBytes bytes →
    progress_report_at bytes ≡ Ok (report, rest) → report.progress < 2 ^ 24
unfolding progress_report_at progress_body_at
report_few bytes rest report all h =
    let header = bind_ok (bytes_at 3 bytes) _ (report, rest) h in
    let body = block_read 3 bytes header.0 all header.1 in
    let block = bind_ok (bytes_at 6 header.0.1) _ (report, rest) header.2 in
    let parts = block_read 6 header.0.1 block.0 body.1 block.1 in
    let numbers = bind_ok (stage_progress_at block.0.0) _ (report, rest) block.2 in
    let few = stage_few block.0.0 numbers.0.1 numbers.0.0 parts.0 numbers.1 in
    let info = bind_ok (lenenc_text_at block.0.1) _ (report, rest) numbers.2 in
    let made : ProgressReport =
    record {
      stage = numbers.0.0.stage;
      max_stage = numbers.0.0.max_stage;
      progress =
          numbers.0.0.progress;
      progress_info = info.0.0;
    } in
    subst (λ (q : ProgressReport × List ℕ). q.0.progress < 2 ^ 24) (ok_same (made, info.0.1) (report, rest) info.2) few

pub report_own : (payload : Payload) (report : ProgressReport) → AreFewBytes payload →
    Reads (progress_report_at payload) report → report_written report ≡ report
report_own payload report few reads =
    ap (λ (n : ℕ). record report { progress = n }) (mod-eq_of_lt (report_few payload reads.0 report few.bytes reads.1))

-- ---- errors

state_own : (protocol : Bool) (bytes : List ℕ) (p : Option (List ℕ) × List ℕ) →
    state_part_at protocol bytes ≡ Ok p → state_written protocol p.0 ≡ p.0
state_own true bytes p h =
    let state = bind_ok (sql_state_at bytes) _ p h in
    subst (λ (q : Option (List ℕ) × List ℕ). state_written true q.0 ≡
    q.0) (ok_same (Some state.0.0, state.0.1) p state.2) refl
state_own false bytes p h =
    subst (λ (q : Option (List ℕ) × List ℕ). state_written false q.0 ≡
    q.0) (ok_same (None, bytes) p h) refl

pub error_own : (capabilities : ℕ) (payload : Payload) (error : ServerError) →
    Reads (error_at capabilities payload) error → error_written capabilities error ≡ error
unfolding error_at server_error_at
error_own capabilities payload error reads =
    let code = bind_ok (error_code_at payload) _ (error, reads.0) reads.1 in
    let state = bind_ok (state_part_at (protocol_41 capabilities) code.0.1) _ (error, reads.0) code.2 in
    let made : ServerError = record { error_code = code.0.0; sql_state = state.0.0; error_message = state.0.1 } in
    let none : List ℕ = [] in
    subst (λ (q : ServerError × List ℕ). error_written capabilities q.0 ≡
    q.0) (ok_same (made, none) (error, reads.0) state.2)
    (ap (λ (s : Option (List ℕ)). record made { sql_state = s })
    (state_own (protocol_41 capabilities) code.0.1 state.0 state.1))

-- ---- statuses

no_bit : (bit : ℕ) → bit < 2 → (n : ℕ) → n ≡ bit * 8 → (n ≡ 8 → ⊥) → n ≡ 0
no_bit zero small n is lacks = omega (arith, is)
no_bit (suc zero) small n is lacks = absurd (lacks (omega (arith, is)))
no_bit (suc (suc bit)) small n is lacks = absurd (omega (arith, small))

more_own : (status : ℕ) → status < 2 ^ 16 → with_more (more_results_exist status) status ≡ status
more_own status fits = go (more_results_exist status) refl where
  go : (more : Bool) → more_results_exist status ≡ more → with_more more status ≡ status
  go true is =
      let has : bit_and status 8 ≡ 8 = eqb-true (bit_and status 8) 8 is in
      omega (arith, or_add_and status 8, has)
  go false is =
      let lacks : bit_and status 8 ≡ 8 → ⊥ = eqb-false (bit_and status 8) 8 is in
      let bit : bit_and status 8 ≡ bit_at status 3 * 8 = and_pow status 3 in
      let split : bit_and 0xfff7 status + bit_and 8 status ≡ status = and-not 16 8 status (omega arith) fits in
      let none : bit_and status 8 ≡ 0 = no_bit (bit_at status 3) (bit_at-lt status 3) (bit_and status 8) bit lacks in
      omega (arith, split, none, and_comm 8 status, and_comm 0xfff7 status)

pub saying_own : (ok : OkPacket) → IsWritable ok → saying (more_results_exist ok.status_flags) ok ≡ ok
saying_own ok can = ap (λ (n : ℕ). record ok { status_flags = n }) (more_own ok.status_flags can.status_flags)

pub ok_own : OwnLaws → (c : Context) (payload : Payload) (ok : OkPacket) → AreFewBytes payload → IsOk c payload ok →
    as_ok (protocol c) (saying (more_results_exist ok.status_flags) ok) ≡ ok
ok_own laws c payload ok few is =
    let own = laws.ok (protocol c) payload is.fields.0 ok few.bytes few.few is.fields.1 in
    ap (as_ok (protocol c)) (saying_own ok own.0) ∙ own.1

pub terminator_by : OwnLaws →
    (capabilities : ℕ) (b : Bool) (payload rest : List ℕ) (ok : OkPacket) → AreFewBytes payload →
    (if b then result_set_terminator_at capabilities payload else old_eof_at payload) ≡ Ok (ok, rest) →
    IsWritable ok × ((if b then as_terminator capabilities ok else as_eof ok) ≡ ok)
terminator_by laws capabilities true payload rest ok few h =
    laws.terminator capabilities payload rest ok few.bytes few.few h
terminator_by laws capabilities false payload rest ok few h = laws.eof payload rest ok few.bytes few.few h

pub terminator_own : OwnLaws → (c : Context) (payload : Payload) (ok : OkPacket) →
    AreFewBytes payload → IsTerminator c payload ok →
    terminator_read c (saying (more_results_exist ok.status_flags) ok) ≡ ok
terminator_own laws c payload ok few is =
    let own = terminator_by laws (protocol c) (deprecate_eof c) payload is.fields.0 ok few is.fields.1 in
    ap (terminator_read c) (saying_own ok own.0) ∙ own.1

-- They can be written.
pub ok_can : OwnLaws → (c : Context) (payload : Payload) (ok : OkPacket) → AreFewBytes payload →
    IsOk c payload ok → IsWritable ok
ok_can laws c payload ok few is = (laws.ok (protocol c) payload is.fields.0 ok few.bytes few.few is.fields.1).0

pub terminator_can : OwnLaws → (c : Context) (payload : Payload) (ok : OkPacket) →
    AreFewBytes payload → IsTerminator c payload ok → IsWritable ok
terminator_can laws c payload ok few is =
    (terminator_by laws (protocol c) (deprecate_eof c) payload is.fields.0 ok few is.fields.1).0

-- ---- statements

pub group_count : (c : Context) (n : ℕ) (payloads : List Payload) (columns : List ColumnDefinition)
    (says : Option OkPacket) → IsColumnGroup c n payloads columns says → length columns ≡ n
group_count c n payloads columns says (group front end are due) = refl

pub counting_own : (statement : PrepareOk) (parameters columns : List ColumnDefinition) →
    length parameters ≡ statement.num_params → length columns ≡ statement.num_columns →
    counting statement parameters columns ≡ statement
counting_own statement parameters columns first second =
    ap (λ (n : ℕ). record statement { num_params = n; num_columns = length columns }) first ∙
    ap (λ (n : ℕ). record statement { num_columns = n }) second

-- ---- rows

values_same : (values : List Value) → values_of (map Some values) ≡ values
values_same [] = refl
values_same (value ∷ values) = ap (λ (l : List Value). value ∷ l) (values_same values)

some_signless : (values : List Value) → map Some (map without_zero_sign values) ≡
    map (option_map without_zero_sign) (map Some values)
some_signless [] = refl
some_signless (value ∷ values) =
    ap (λ (l : List (Option Value)). Some (without_zero_sign value) ∷ l) (some_signless values)

cells_by : OwnLaws → (b : Bool) (columns : List ColumnDefinition) (payload rest : List ℕ)
    (values : List Value) → AreBytes payload →
    (if b then binary_resultset_row_at columns payload else text_row_at columns payload) ≡ Ok (values, rest) →
    map Some (if b then map as_binary (values_of (map Some values)) else map as_text (values_of (map Some values)))
    ≡ (if b then map (option_map without_zero_sign) (map Some values) else map Some values)
cells_by laws true columns payload rest values all h =
    ap (λ (l : List Value). map Some (map as_binary l)) (values_same values) ∙
    ap (λ (l : List Value). map Some l) (laws.binary columns payload rest values all h).1 ∙
    some_signless values
cells_by laws false columns payload rest values all h =
    ap (λ (l : List Value). map Some (map as_text l)) (values_same values) ∙
    ap (λ (l : List Value). map Some l) (laws.text columns payload rest values h).1

row_own : OwnLaws → (c : Context) (columns : List ColumnDefinition) (payload : Payload)
    (row : Row) → AreFewBytes payload → IsRow c columns payload row → row_read c columns row ≡
    row_without_zero_signs c row
row_own laws c columns payload row few is =
    let none : List ℕ = [] in
    let values = bind_ok (if is_binary c.kind then binary_resultset_row_at columns payload else
    text_row_at columns payload) _ (row, none) is.cells in
    let cells = cells_by laws (is_binary c.kind) columns payload values.0.1 values.0.0 few.bytes values.1 in
    let same = ok_same (whole_row columns values.0.0, values.0.1) (row, none) values.2 in
    subst (λ (q : Row × List ℕ). row_read c columns q.0 ≡ row_without_zero_signs c q.0) same
    (ap (λ (l : List (Option Value)). record { columns = columns; cells = l }) cells)

pub rows_own : OwnLaws → (c : Context) (columns : List ColumnDefinition) (payloads : List Payload)
    (rows : List Row) → AllByRecursion (λ payload. AreFewBytes payload) payloads →
    AreRows c columns payloads rows → map (row_read c columns) rows ≡ map (row_without_zero_signs c) rows
rows_own laws c columns [] [] few are = refl
rows_own laws c columns [] (row ∷ rows) few are = absurd are
rows_own laws c columns (payload ∷ payloads) [] few are = absurd are
rows_own laws c columns (payload ∷ payloads) (row ∷ rows) few are =
    ap (λ (r : Row). r ∷ map (row_read c columns) rows) (row_own laws c columns payload row few.0 are.0)
    ∙ ap (λ (l : List Row). row_without_zero_signs c row ∷ l) (rows_own laws c columns payloads rows few.1 are.1)
