-- What was read has the counts and the codes that it is written with.
use Rattle.std.proofs.Common.{◌≡◌, ◌+◌, ◌<◌, ◌==◌, ◌&&◌, ℕ, zero, suc, Bool, true, false, if◌then◌else◌, List, [], ◌∷◌}
use Rattle.std.proofs.Common.{length, map, take, Some, None, Ok, Err, refl, sym, ap, subst, ◌∙◌, arith}
use Rattle.std.specs.Prelude.{bytes_eq}
use Rattle.std.proofs.lemmas.Bool.{eqb-true}
use Rattle.mysql_buf.specs.Bytes.{AreBytes}
use Rattle.mysql_buf.specs.FirstBytes.{first-enough, first-short}
use Rattle.byteorder.specs.Endian.{little_number}
use Rattle.mysql_fields.specs.Forms.{bytes_at, fixed_number_at}
use Rattle.mysql_fields.specs.Laws.{bind_ok, done, ok_same}
use Rattle.mysql_fields.specs.Wire.{◌>>=◌, lacks}
use Rattle.mysql_fields.specs.declared.error.WireError.TheVariants.{BadConstant, UnexpectedEof}
use Rattle.mysql_field_constants.specs.Constants.{constant_at, is_constant, skipped_at}
use Rattle.mysql_wire.specs.Lists.{elements_at}
use Rattle.mysql_cells.specs.Cells.{text_cell_at}
use Rattle.mysql_cells.specs.declared.value.Value.{Value}
use Rattle.mysql_field_lists.specs.NullBitmap.{bitmap_len, is_null_at}
use Rattle.mysql_server_packets.specs.Packets.{PrepareOk, ServerError, error_at, error_code_at, prepare_ok_at}
use Rattle.mysql_server_packets.specs.Packets.{prepare_ok_fields_at, protocol_41, server_error_at, state_part_at}
use Rattle.mysql_columns.specs.Columns.{ColumnDefinition}
use Rattle.mysql_rows.specs.Rows.{Row, binary_cell_at, binary_cells_at, binary_resultset_row_at, binary_row_body_at}
use Rattle.mysql_rows.specs.Rows.{text_row_at, whole_row}
use Rattle.mysql_reply_events.specs.declared.context.Context.{Context}
use Rattle.mysql_replies.specs.Reply.{Payload}
use Rattle.mysql_row_refs.specs.Lines.{begins_with}
use Rattle.mysql_reply_events.specs.Readings.{follow_at, has_report_form, is_binary, optional_metadata, prepared_at}
use Rattle.mysql_reply_events.specs.Readings.{protocol}
use Rattle.mysql_replies.specs.Manual.{IsError, IsRow, Reads}
use Rattle.mysql_reply_writer.specs.Own.{AreFewBytes}
use Rattle.mysql_reply_writer.specs.Refusals.{form_cause, reads_as_report}
use Rattle.mysql_reply_writer.specs.Written.{tells_progress}
use Rattle.mysql_reply_writer.proofs.OwnPackets.{OwnLaws, number_read}

-- ---- rows have a cell for each column

elements_count : (count : ℕ) (bytes : List ℕ) (p : List Value × List ℕ) →
    elements_at text_cell_at count bytes ≡ Ok p → length p.0 ≡ count
unfolding elements_at
elements_count zero bytes p h =
    let none : List Value = [] in
    subst (λ (q : List Value × List ℕ). length q.0 ≡ 0) (ok_same (none, bytes) p h) refl
elements_count (suc n) bytes p h =
    let first = bind_ok (text_cell_at bytes) _ p h in
    let others = bind_ok (elements_at text_cell_at n first.0.1) _ p first.2 in
    subst (λ (q : List Value × List ℕ). length q.0 ≡ suc n) (ok_same (first.0.0 ∷ others.0.0, others.0.1) p others.2)
    (ap suc (elements_count n first.0.1 others.0 others.1))

cells_count : (offset : ℕ) (bitmap : List ℕ) (place : ℕ) (columns : List ColumnDefinition)
    (bytes : List ℕ) (p : List Value × List ℕ) →
    binary_cells_at offset bitmap place columns bytes ≡ Ok p → length p.0 ≡ length columns
unfolding binary_cells_at
cells_count offset bitmap place [] bytes p h =
    let none : List Value = [] in
    subst (λ (q : List Value × List ℕ). length q.0 ≡ 0) (ok_same (none, bytes) p h) refl
cells_count offset bitmap place (column ∷ columns) bytes p h =
    let cell = bind_ok (binary_cell_at (is_null_at offset bitmap place) column bytes) _ p h in
    let others = bind_ok (binary_cells_at offset bitmap (place + 1) columns cell.0.1) _ p cell.2 in
    subst (λ (q : List Value × List ℕ). length q.0 ≡ suc (length columns))
    (ok_same (cell.0.0 ∷ others.0.0, others.0.1) p others.2)
    (ap suc (cells_count offset bitmap (place + 1) columns cell.0.1 others.0 others.1))

binary_count : (columns : List ColumnDefinition) (bytes : List ℕ) (p : List Value × List ℕ) →
    binary_resultset_row_at columns bytes ≡ Ok p → length p.0 ≡ length columns
unfolding binary_resultset_row_at binary_row_body_at
binary_count columns bytes p h =
    let header = bind_ok (constant_at 1 0 bytes) _ p h in
    let bitmap = bind_ok (bytes_at (bitmap_len 2 (length columns)) header.0.1) _ p header.2 in
    cells_count 2 bitmap.0.0 0 columns bitmap.0.1 p bitmap.2

-- A row that was read has a cell for each column, and each has a form.
pub record CanBeWritten (c : Context) (columns : List ColumnDefinition) (row : Row) : Type 0 where
  pub count : length row.cells ≡ length columns
  pub none : form_cause (is_binary c.kind) columns row.cells ≡ None

values_by : OwnLaws → (b : Bool) (columns : List ColumnDefinition) (payload rest : List ℕ)
    (values : List Value) → AreBytes payload →
    (if b then binary_resultset_row_at columns payload else text_row_at columns payload) ≡ Ok (values, rest) →
    (length values ≡ length columns) × (form_cause b columns (map Some values) ≡ None)
values_by laws true columns payload rest values all h = (
  binary_count columns payload (values, rest) h,
  (laws.binary columns payload rest values all h).0,
)
values_by laws false columns payload rest values all h = (
  elements_count (length columns) payload (values, rest) h,
  (laws.text columns payload rest values h).0,
)

some_count : (values : List Value) → length (map Some values) ≡ length values
some_count [] = refl
some_count (value ∷ values) = ap suc (some_count values)

pub row_can : OwnLaws → (c : Context) (columns : List ColumnDefinition) (payload : Payload)
    (row : Row) → AreFewBytes payload → IsRow c columns payload row → CanBeWritten c columns row
row_can laws c columns payload row few is =
    let none : List ℕ = [] in
    let values = bind_ok (if is_binary c.kind then binary_resultset_row_at columns payload else
    text_row_at columns payload) _ (row, none) is.cells in
    let both = values_by laws (is_binary c.kind) columns payload values.0.1 values.0.0 few.bytes values.1 in
    let same = ok_same (whole_row columns values.0.0, values.0.1) (row, none) values.2 in
    subst (λ (q : Row × List ℕ). CanBeWritten c columns q.0) same
    (record { count = some_count values.0.0 ∙ both.0; none = both.1 })

-- ---- statements have counts of two bytes

constant_same : (first : ℕ) (x p : ℕ × List ℕ) (b : Bool) → (if b then done x else Err BadConstant) ≡ done p → x ≡ p
constant_same first x p true h = ok_same x p h
constant_same first x p false h = absurd cc

constant_read : (first : ℕ) (bytes : List ℕ) (p : ℕ × List ℕ) → AreBytes bytes →
    constant_at 1 first bytes ≡ Ok p → AreBytes p.1
constant_read first bytes p all h =
    let number = bind_ok (fixed_number_at 1 bytes) (is_constant first) p h in
    let part = number_read 1 bytes number.0 all number.1 in
    subst (λ (q : ℕ × List ℕ). AreBytes q.1) (constant_same first number.0 p (number.0.0 == first) number.2) part.1

pub record HasCounts (statement : PrepareOk) : Type 0 where
  pub parameters : statement.num_params < 65536
  pub columns : statement.num_columns < 65536

fields_counts : (bytes rest : List ℕ) (statement : PrepareOk) → AreBytes bytes →
    prepare_ok_fields_at bytes ≡ Ok (statement, rest) → HasCounts statement
unfolding prepare_ok_fields_at
fields_counts bytes rest statement all h =
    let header = bind_ok (constant_at 1 0 bytes) _ (statement, rest) h in
    let zero_left = constant_read 0 bytes header.0 all header.1 in
    let id = bind_ok (fixed_number_at 4 header.0.1) _ (statement, rest) header.2 in
    let one = number_read 4 header.0.1 id.0 zero_left id.1 in
    let columns = bind_ok (fixed_number_at 2 id.0.1) _ (statement, rest) id.2 in
    let two = number_read 2 id.0.1 columns.0 one.1 columns.1 in
    let parameters = bind_ok (fixed_number_at 2 columns.0.1) _ (statement, rest) columns.2 in
    let three = number_read 2 columns.0.1 parameters.0 two.1 parameters.1 in
    let filler = bind_ok (skipped_at 1 parameters.0.1) _ (statement, rest) parameters.2 in
    let warnings = bind_ok (fixed_number_at 2 filler.0.1) _ (statement, rest) filler.2 in
    let made : PrepareOk = record {
      statement_id = id.0.0;
      num_columns = columns.0.0;
      num_params =
          parameters.0.0;
      warning_count = warnings.0.0;
    } in
    subst (λ (q : PrepareOk × List ℕ). HasCounts q.0) (ok_same (made, warnings.0.1) (statement, rest) warnings.2)
    (record { parameters = omega (arith, three.0); columns = omega (arith, two.0) })

packet_counts : (payload : Payload) (statement : PrepareOk) → AreFewBytes payload →
    (rest : List ℕ) → prepare_ok_at payload ≡ Ok (statement, rest) → HasCounts statement
unfolding prepare_ok_at
packet_counts payload statement few rest is = go (lacks (Some 12) (length payload)) is where
  go : (b : Bool) → (if b then Err UnexpectedEof else prepare_ok_fields_at payload) ≡
      Ok (statement, rest) → HasCounts statement
  go true h = absurd cc
  go false h = fields_counts payload rest statement few.bytes h

-- A packet of which it is said whether columns follow is of the statement.
behind_same : (b : Bool) (x : PrepareOk × List ℕ) (p : (PrepareOk × Bool) × List ℕ) →
    (if b then (follow_at x.1 >>= λ follow. done {X = PrepareOk × Bool} ((x.0, follow.0), follow.1))
    else done {X = PrepareOk × Bool} ((x.0, true), x.1)) ≡ done p → x.0 ≡ p.0.0
behind_same true x p h =
    let follow = bind_ok (follow_at x.1) _ p h in
    let made : (PrepareOk × Bool) × List ℕ = ((x.0, follow.0.0), follow.0.1) in
    ap (λ (q : (PrepareOk × Bool) × List ℕ). q.0.0) (ok_same made p follow.2)
behind_same false x p h =
    let made : (PrepareOk × Bool) × List ℕ = ((x.0, true), x.1) in
    ap (λ (q : (PrepareOk × Bool) × List ℕ). q.0.0) (ok_same made p h)

pub statement_counts : (c : Context) (payload : Payload) (statement : PrepareOk) (follows : Bool) →
    AreFewBytes payload → Reads (prepared_at c payload) (statement, follows) → HasCounts statement
statement_counts c payload statement follows few reads =
    let read : (PrepareOk × Bool) × List ℕ = ((statement, follows), reads.0) in
    let packet = bind_ok (prepare_ok_at payload) _ read reads.1 in
    subst (λ (s : PrepareOk). HasCounts s)
    (behind_same (optional_metadata c) packet.0 read packet.2)
    (packet_counts payload packet.0.0 few packet.0.1 packet.1)

-- ---- errors that aren't in a report's form have another code

code_is : (code : ℕ) (bytes rest : List ℕ) → error_code_at bytes ≡ Ok (code, rest) →
    AreBytes bytes → begins_with 255 bytes ≡ true → code ≡ 65535 →
    bytes_eq (take 3 bytes) (255 ∷ 255 ∷ 255 ∷ []) ≡ true
unfolding error_code_at
code_is code [] rest h all begins same = absurd cc
code_is code (a ∷ []) rest h all begins same =
    absurd (let short = first-short 3 (take 3) (a ∷ []) (omega arith) in let none =
    bind_ok (bytes_at 3 (a ∷ [])) _ (code, rest) h in let no_block = none.1 in cc)
code_is code (a ∷ b ∷ []) rest h all begins same =
    absurd (let short = first-short 3 (take 3) (a ∷ b ∷ []) (omega arith) in let none =
    bind_ok (bytes_at 3 (a ∷ b ∷ [])) _ (code, rest) h in let no_block = none.1 in cc)
code_is code (a ∷ b ∷ d ∷ bytes) rest h all begins same =
    let is = eqb-true a 255 begins in
    let number : ℕ = little_number 2 (b ∷ d ∷ []) in
    let read : error_code_at (a ∷ b ∷ d ∷ bytes) ≡ Ok (number, bytes) = rw (
      first-enough 3 (take 3) (a ∷ b ∷ d ∷ bytes) (omega arith),
      first-enough 1 (little_number 1) (a ∷ b ∷ d ∷ []) (omega arith),
      is,
      first-enough 2 (little_number 2) (b ∷ d ∷ []) (omega arith),
    ) refl in
    let code_number : number ≡ code =
    ap (λ (q : ℕ × List ℕ). q.0) (ok_same (number, bytes) (code, rest) (sym read ∙ h)) in
    let low : b ≡ 255 = omega (arith, all 1, all 2, code_number, same) in
    let high : d ≡ 255 = omega (arith, all 1, all 2, code_number, same) in
    rw (is, low, high) refl

progress_code : (code : ℕ) (knows bytes_are : Bool) → (knows && bytes_are) ≡ false →
    (code ≡ 65535 → bytes_are ≡ true) → (code == 0xffff && knows) ≡ false
progress_code code false bytes_are form is = go (code == 0xffff) where
  go : (b : Bool) → (b && false) ≡ false
  go true = refl
  go false = refl
progress_code code true bytes_are form is = go (code == 0xffff) refl where
  go : (b : Bool) → (code == 0xffff) ≡ b → (b && true) ≡ false
  go true same = absurd (let no_form = is (eqb-true code 65535 same) in cc)
  go false same = refl

error_code_same : (capabilities : ℕ) (payload : Payload) (error : ServerError) →
    Reads (error_at capabilities payload) error → (rest : List ℕ) ×
    (error_code_at payload ≡ Ok (error.error_code, rest))
unfolding error_at server_error_at
error_code_same capabilities payload error reads =
    let code = bind_ok (error_code_at payload) _ (error, reads.0) reads.1 in
    let state = bind_ok (state_part_at (protocol_41 capabilities) code.0.1) _ (error, reads.0) code.2 in
    let made : ServerError = record { error_code = code.0.0; sql_state = state.0.0; error_message = state.0.1 } in
    let none : List ℕ = [] in
    subst (λ (q : ServerError × List ℕ). (rest : List ℕ) ×
    (error_code_at payload ≡ Ok (q.0.error_code, rest)))
    (ok_same (made, none) (error, reads.0) state.2) (code.0.1, code.1)

pub error_is_none : (c : Context) (payload : Payload) (error : ServerError) → AreFewBytes payload →
    has_report_form c payload ≡ false → IsError c payload error →
    reads_as_report c error ≡ false
error_is_none c payload error few form is =
    let code = error_code_same (protocol c) payload error is.fields in
    progress_code error.error_code (tells_progress c) (bytes_eq (take 3 payload) (255 ∷ 255 ∷ 255 ∷ [])) form
    (λ same. code_is error.error_code payload code.0 code.1 few.bytes is.header same)
