-- What holds of rows: of a cell that is taken or filled, of the column that a name names, and of a
-- binary row's first byte. MySQL: Client/Server Protocol, "Binary Protocol Resultset Row"; a row
-- whose values can be taken out is a form of client libraries.
use Rattle.std.proofs.Common.{◌≡◌, ◌≢◌, ℕ, zero, suc, ◌+◌, ◌<◌, List, [], ◌∷◌, length, take, get_or, set, Option, Some}
use Rattle.std.proofs.Common.{None, Err, Bool, true, false, refl, ap, ◌∙◌, arith}
use Rattle.std.specs.Prelude.{◌==◌, slice_get, bytes_eq}
use Rattle.std.specs.Option.{option_flatten}
use Rattle.std.proofs.lemmas.Iterator.Adapters.{position_from-zero}
use Rattle.std.proofs.lemmas.List.Quantifiers.{position-Some}
use Rattle.mysql_buf.specs.FirstBytes.{first-enough, first-short}
use Rattle.byteorder.specs.Endian.{little_number}
use Rattle.mysql_fields.specs.declared.error.WireError.TheVariants.{BadConstant, UnexpectedEof}
use Rattle.mysql_cells.specs.declared.value.Value.{Value}
use Rattle.mysql_columns.specs.Columns.{ColumnDefinition}
use Rattle.mysql_rows.specs.Rows.{Row, binary_resultset_row_at, binary_row_at, cell_at, column_named, with_cell}
use Rattle.mysql_rows.specs.Rows.{without_cell}

-- A value is taken out of a cell once.
abbrev pub CellIsTakenOnce : Type 0
CellIsTakenOnce = (row : Row) (place : Option ℕ) → cell_at (without_cell row place) place ≡ None

-- A value that was put into a cell stands there.
abbrev pub PlacedValueStands : Type 0
PlacedValueStands = (row : Row) (index : ℕ) (value : Value) → index < length row.cells →
    cell_at (with_cell row index (Some value)) (Some index) ≡ Some value

-- The other cells keep their values.
abbrev pub OtherCellsStay : Type 0
OtherCellsStay = (row : Row) (index : ℕ) (cell : Option Value) (other : Option ℕ) →
    other ≢ Some index → cell_at (with_cell row index cell) other ≡ cell_at row other

-- A name names a column that has it, and none before that one has it.
pub record IsFirstNamed (name : List ℕ) (columns : List ColumnDefinition) (index : ℕ) : Type 0 where
  pub inside : index < length columns
  pub named : (column : ColumnDefinition) → bytes_eq (get_or columns index column).name name ≡ true
  pub first : (column : ColumnDefinition) (before : ℕ) → before < index →
      bytes_eq (get_or columns before column).name name ≡ false

abbrev pub NamedColumnIsFirst : Type 0
NamedColumnIsFirst = (name : List ℕ) (columns : List ColumnDefinition) (index : ℕ) →
    column_named name columns ≡ Some index → IsFirstNamed name columns index

taken : (cells : List (Option Value)) (index : ℕ) → option_flatten (slice_get (set cells index None) index) ≡ None
taken [] index = refl
taken (cell ∷ cells) zero = refl
taken (cell ∷ cells) (suc index) = taken cells index

pub cell_is_taken_once : CellIsTakenOnce
cell_is_taken_once row None = refl
cell_is_taken_once row (Some index) = taken row.cells index

placed : (cells : List (Option Value)) (index : ℕ) (value : Value) → index < length cells →
    option_flatten (slice_get (set cells index (Some value)) index) ≡ Some value
placed [] index value h = absurd (omega (arith, h))
placed (cell ∷ cells) zero value h = refl
placed (cell ∷ cells) (suc index) value h = placed cells index value (omega (arith, h))

pub placed_value_stands : PlacedValueStands
placed_value_stands row index value h = placed row.cells index value h

stays : (cells : List (Option Value)) (index other : ℕ) (cell : Option Value) → other ≢ index →
    slice_get (set cells index cell) other ≡ slice_get cells other
stays [] index other cell ne = refl
stays (x ∷ cells) zero zero cell ne = absurd (ne refl)
stays (x ∷ cells) zero (suc other) cell ne = refl
stays (x ∷ cells) (suc index) zero cell ne = refl
stays (x ∷ cells) (suc index) (suc other) cell ne = stays cells index other cell (λ e. ne (ap suc e))

pub other_cells_stay : OtherCellsStay
other_cells_stay row index cell None ne = refl
other_cells_stay row index cell (Some other) ne =
    ap option_flatten (stays row.cells index other cell (λ e. ne (ap Some e)))

pub named_column_is_first : NamedColumnIsFirst
named_column_is_first name [] index h = absurd (cc)
named_column_is_first name (head ∷ others) index h =
    let has_name : ColumnDefinition → Bool = λ column. bytes_eq column.name name in
    let found = position_from-zero has_name (head ∷ others) ∙ h in
    record {
      inside = (position-Some has_name (head ∷ others) index head found).0;
      named = λ column. (position-Some has_name (head ∷ others) index column found).1;
      first = λ column. (position-Some has_name (head ∷ others) index column found).2;
    }

-- A binary row of a result set is a server's binary row whose first byte is a zero; another first byte is refused.
pub zero_first : (columns : List ColumnDefinition) (rest : List ℕ) →
    binary_resultset_row_at columns (0 ∷ rest) ≡ binary_row_at 2 columns (0 ∷ rest)
unfolding binary_resultset_row_at binary_row_at
zero_first columns rest =
    rw (
      first-enough 1 (little_number 1) (0 ∷ rest) (omega arith),
      first-enough 1 (take 1) (0 ∷ rest) (omega arith),
    ) refl

pub other_first : (columns : List ColumnDefinition) (b : ℕ) (rest : List ℕ) → (b == 0) ≡ false →
    binary_resultset_row_at columns (b ∷ rest) ≡ Err BadConstant
unfolding binary_resultset_row_at
other_first columns b rest h =
    let e : b + 0 ≡ b = omega arith in
    rw (first-enough 1 (little_number 1) (b ∷ rest) (omega arith), e, h) refl

pub none_first : (columns : List ColumnDefinition) → binary_resultset_row_at columns [] ≡ Err UnexpectedEof
unfolding binary_resultset_row_at
none_first columns = rw (first-short 1 (little_number 1) [] (omega arith)) refl
