-- A row that is written is read back, and begins as no error and no terminator does.
use Rattle.std.proofs.Common.{◌≡◌, ◌≢◌, ℕ, ◌+◌, ◌≤◌, ◌^◌, ◌==◌, Bool, true, false, cond, if◌then◌else◌, inl, inr, List}
use Rattle.std.proofs.Common.{[], ◌∷◌, length, map, zip, Option, Some, None, is_none, Ok, refl, sym, ap, ◌∙◌, arith}
use Rattle.std.proofs.Common.{append-nil}
use Rattle.std.specs.List.{AllByRecursion, position_from}
use Rattle.std.specs.Option.{option_and_then}
use Rattle.std.proofs.lemmas.Bool.{le-ltb}
use Rattle.std.proofs.lemmas.Bool.Decides.{eqb_tells}
use Rattle.std.proofs.lemmas.List.{length-map}
use Rattle.mysql_cells.specs.Values.{FitsFields}
use Rattle.mysql_cells.specs.declared.value.Value.{Value}
use Rattle.mysql_columns.specs.Columns.{ColumnDefinition}
use Rattle.mysql_rows.specs.Rows.{as_row, binary_resultset_row_at, text_row_at, whole_row}
use Rattle.mysql_rows.specs.Written.{as_binary, as_text, binary_cause, binary_row, cell_in, text_cause, text_cell}
use Rattle.mysql_rows.specs.Written.{text_row, values_of}
use Rattle.mysql_rows.specs.WrittenLaws.{BinaryRowsBegin, BinaryRowsReadBack, TextRowsBegin, TextRowsReadBack}
use Rattle.mysql_reply_events.specs.declared.context.Context.{Context}
use Rattle.mysql_row_refs.specs.Lines.{begins_with, terminator_limit}
use Rattle.mysql_reply_events.specs.Readings.{begins_terminator, deprecate_eof, is_binary}
use Rattle.mysql_reply_writer.specs.Fits.{CellsFit}
use Rattle.mysql_reply_writer.specs.Refusals.{form_cause}
use Rattle.mysql_reply_writer.specs.Written.{cells_payload}
use Rattle.mysql_reply_writer.proofs.Segments.{RowsReadBack}

not_here : (b : Bool) (i : ℕ) (later : Option ℕ) → cond b (Some i) later ≡ None → later ≡ None
not_here true i later h = absurd cc
not_here false i later h = h

-- cells that all have a form are values
some_text : (i : ℕ) (cells : List (Option Value)) →
    position_from (λ cell. is_none (option_and_then text_cell cell)) i cells ≡ None → cells ≡
    map Some (values_of cells)
some_text i [] h = refl
some_text i (None ∷ cells) h = absurd cc
some_text i (Some value ∷ cells) h =
    ap (λ l. Some value ∷ l) (some_text (i + 1) cells
    (not_here (is_none (text_cell value)) i
    (position_from (λ cell. is_none (option_and_then text_cell cell)) (i + 1) cells) h))

some_binary : (i : ℕ) (columns : List ColumnDefinition) (cells : List (Option Value)) → length cells ≡ length columns
    → position_from (λ placed. is_none (option_and_then (cell_in placed.0) placed.1)) i
    (zip columns cells) ≡ None → cells ≡ map Some (values_of cells)
some_binary i columns [] same h = refl
some_binary i [] (cell ∷ cells) same h = absurd (omega (arith, same))
some_binary i (column ∷ columns) (None ∷ cells) same h = absurd cc
some_binary i (column ∷ columns) (Some value ∷ cells) same h =
    ap (λ l. Some value ∷ l) (some_binary (i + 1) columns cells (omega (arith, same))
    (not_here (is_none (cell_in column value)) i
    (position_from (λ placed. is_none (option_and_then (cell_in placed.0) placed.1)) (i + 1)
    (zip columns cells)) h))

values_fit : (cells : List (Option Value)) → CellsFit cells →
    AllByRecursion (λ value. FitsFields value) (values_of cells)
values_fit [] h = tt
values_fit (None ∷ cells) h = values_fit cells h.1
values_fit (Some value ∷ cells) h = (h.0, values_fit cells h.1)

all_some : (d : Bool) (columns : List ColumnDefinition) (cells : List (Option Value)) →
    length cells ≡ length columns → form_cause d columns cells ≡ None → cells ≡
    map Some (values_of cells)
all_some true columns cells same h = some_binary 0 columns cells same h
all_some false columns cells same h = some_text 0 cells h

is_byte : (a b : ℕ) → a ≢ b → (a == b) ≡ false
is_byte a b other = elim (eqb_tells a b) [ inl same ↦ absurd (other same.1) | inr differs ↦ differs.0 ]

-- a payload that begins so is no error and no terminator
no_error : (payload : List ℕ) →
    ((first : ℕ) (others : List ℕ) → payload ≡ first ∷ others → first ≢ 255) →
    begins_with 255 payload ≡ false
no_error [] h = refl
no_error (b ∷ rest) h = is_byte b 255 (h b rest refl)

limit_most : (c : Context) → terminator_limit (deprecate_eof c) ≤ 16777215
limit_most c = go (deprecate_eof c) where
  go : (d : Bool) → (if d then 16777215 else 9) ≤ 16777215
  go true = omega arith
  go false = omega arith

no_terminator : (c : Context) (payload : List ℕ) →
    ((first : ℕ) (others : List ℕ) → payload ≡ first ∷ others → first ≡ 254 →
    2 ^ 24 ≤ length payload) → begins_terminator c payload ≡ false
no_terminator c [] h = refl
no_terminator c (b ∷ rest) h = elim (eqb_tells b 254) [
  | inl same ↦ let long : 16777216 ≤ length (b ∷ rest) = h b rest refl same.1 in
      rw (same.0) (le-ltb (length (b ∷ rest)) (terminator_limit (deprecate_eof c)) (omega (arith, limit_most c, long)))
  | inr other ↦ rw (other.0) refl
]

module _ (text_back : TextRowsReadBack) (binary_back : BinaryRowsReadBack)
    (text_begins : TextRowsBegin) (binary_begins : BinaryRowsBegin) where
  cells_back : (d : Bool) (columns : List ColumnDefinition) (cells : List (Option Value)) →
      length cells ≡ length columns → form_cause d columns cells ≡ None → CellsFit cells
      → as_row columns (if d then binary_resultset_row_at columns (cells_payload d columns cells)
      else text_row_at columns (cells_payload d columns cells))
      ≡ Ok (whole_row columns (if d then map as_binary (values_of cells) else map as_text (values_of cells)), [])
  cells_back true columns cells same h fit =
      let some = all_some true columns cells same h in
      let count : length columns ≡ length (values_of cells) = sym same ∙ ap length some ∙
      length-map (values_of cells) Some in
      let form : binary_cause columns (map Some (values_of cells)) ≡ None = ap (binary_cause columns) (sym some) ∙ h in
      let back = binary_back columns (values_of cells) [] count (values_fit cells fit) form in
      ap (λ (l : List ℕ). as_row columns (binary_resultset_row_at columns l))
      (sym (append-nil (binary_row columns (values_of cells)))) ∙ ap (as_row columns) back
  cells_back false columns cells same h fit =
      let some = all_some false columns cells same h in
      let count : length columns ≡ length (values_of cells) = sym same ∙ ap length some ∙
      length-map (values_of cells) Some in
      let form : text_cause (map Some (values_of cells)) ≡ None = ap text_cause (sym some) ∙ h in
      let back = text_back columns (values_of cells) [] count (values_fit cells fit) form in
      ap (λ (l : List ℕ). as_row columns (text_row_at columns l))
      (sym (append-nil (text_row (values_of cells)))) ∙ ap (as_row columns) back

  begins_as_row : (d : Bool) (columns : List ColumnDefinition) (cells : List (Option Value))
      (first : ℕ) (others : List ℕ) → cells_payload d columns cells ≡ first ∷ others
      → (first ≢ 255) × (first ≡ 254 → 2 ^ 24 ≤ length (cells_payload d columns cells))
  begins_as_row true columns cells first others h =
      let zero = binary_begins columns (values_of cells) first others h in
      ((λ e. omega (arith, zero, e)), (λ e. absurd (omega (arith, zero, e))))
  begins_as_row false columns cells first others h = text_begins (values_of cells) first others h

  pub rows_read_back : RowsReadBack
  rows_read_back c columns row same h fit = record {
    no_error = no_error (cells_payload (is_binary c.kind) columns row.cells)
        (λ first others e. (begins_as_row (is_binary c.kind) columns row.cells first others e).0);
    no_terminator = no_terminator c (cells_payload (is_binary c.kind) columns row.cells)
        (λ first others e. (begins_as_row (is_binary c.kind) columns row.cells first others e).1);
    cells = cells_back (is_binary c.kind) columns row.cells same h fit;
  }
