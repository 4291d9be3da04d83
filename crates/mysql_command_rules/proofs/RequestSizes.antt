-- A bulk request takes as many bytes as are counted for its part.
use Rattle.std.proofs.Common.{◌≡◌, ℕ, zero, suc, ◌+◌, ◌*◌, List, [], ◌∷◌, ◌++◌, length, map, take, refl, ◌∙◌, ap, arith}
use Rattle.std.proofs.Common.{length-append}
use Rattle.std.specs.Prelude.{sum_by}
use Rattle.std.specs.List.{flat_map, range_with_len}
use Rattle.std.proofs.lemmas.List.Sums.{sum_by-cons}
use Rattle.byteorder.specs.Endian.{little_bytes}
use Rattle.byteorder.specs.Numbers.{length-bytes_low_first}
use Rattle.mysql_values.specs.CellLaws.{CellLength}
use Rattle.mysql_values.specs.Cells.{bin_len, cell}
use Rattle.mysql_values.specs.Value.{Value}
use Rattle.mysql_bulk_builder.specs.Bulk.{bulk_execution, param_type_bytes, type_of_value}
use Rattle.mysql_bulk_builder.specs.Cut.{Row, row_size, rows_of, rows_size}
use Rattle.mysql_bulk_builder.specs.TypedCut.{Typed, Untyped}
use Rattle.mysql_bulk_builder.specs.ValueTypes.{first_in_column}
use Rattle.mysql_command_rules.specs.Laws.{RequestsHaveTheirSize}
use Rattle.mysql_command_rules.proofs.RequestRows.{row_bytes, rows_bytes, rows_split}

-- two bytes for the type of each column
types_length : (f : ℕ → Value) (from columns : ℕ) →
    length (flat_map param_type_bytes
    (map (λ column. type_of_value (f column)) (range_with_len from columns))) ≡ 2 * columns
types_length f from zero = refl
types_length f from (suc columns) = omega (arith, types_length f (from + 1) columns)

-- a row takes its size
row_length : CellLength → (row : Row) → length (row_bytes row) ≡ row_size row
row_length law [] = refl
row_length law (value ∷ row) =
    let cells : suc (length (cell value) + length (row_bytes row)) ≡ row_size (value ∷ row) =
    omega (
      arith,
      law value,
      row_length law row,
      sum_by-cons (λ value. 1 + bin_len value) value row,
    ) in
    ap (λ n. suc n) (length-append (cell value) (row_bytes row)) ∙ cells

-- rows take the sum of their sizes
rows_length : CellLength → (rows : List Row) → length (rows_bytes rows) ≡ sum_by row_size rows
rows_length law [] = refl
rows_length law (row ∷ rows) =
    let sum : length (row_bytes row) + length (rows_bytes rows) ≡ sum_by row_size (row ∷ rows) =
    omega (arith, row_length law row, rows_length law rows, sum_by-cons row_size row rows) in
    ap (λ (l : List ℕ). length l) (rows_split row rows) ∙ length-append (row_bytes row) (rows_bytes rows) ∙ sum

-- the bytes of all fields behind one byte
total : (id flags types rows : List ℕ) (t r : ℕ) → length id ≡ 4 → length flags ≡ 2 → length types ≡
    t → length rows ≡ r → length (250 ∷ (id ++ (flags ++ (types ++ (rows ++ []))))) ≡ 7 + t + r
total id flags types rows t r four two is_t is_r =
    omega (
      arith,
      length-append id (flags ++ (types ++ (rows ++ []))),
      length-append flags (types ++ (rows ++ [])),
      length-append types (rows ++ []),
      length-append rows [],
    )

-- a request takes as many bytes as are counted for its part
pub requests_have_their_size : CellLength → RequestsHaveTheirSize
unfolding bulk_execution
requests_have_their_size law id columns rows start Typed count =
    total (little_bytes 4 id) (little_bytes 2 0x80)
    (flat_map param_type_bytes
    (map (λ column. type_of_value (first_in_column column (take (start + count) rows)))
    (range_with_len 0 columns)))
    (rows_bytes (rows_of rows start count)) (2 * columns) (rows_size rows start count)
    (length-bytes_low_first 0 4 id) (length-bytes_low_first 0 2 0x80)
    (types_length (λ column. first_in_column column (take (start + count) rows)) 0 columns)
    (rows_length law (rows_of rows start count))
requests_have_their_size law id columns rows start Untyped count =
    total (little_bytes 4 id) (little_bytes 2 0) [] (rows_bytes (rows_of rows start count)) 0
    (rows_size rows start count)
    (length-bytes_low_first 0 4 id) (length-bytes_low_first 0 2 0) refl (rows_length law (rows_of rows start count))
