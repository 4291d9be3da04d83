-- What the cell of a value is read as.
use Rattle.std.proofs.Common.{◌≡◌, ℕ, Bool, true, List, ◌++◌, Some, Ok, refl, ◌∙◌}
use Rattle.std.specs.Prelude.{not}
use Rattle.mysql_values.specs.CellLaws.{CellsReadBack, ReadBackMeansTheSame, read_back}
use Rattle.mysql_values.specs.Cells.{cell, cell_at, is_float, is_unsigned, type_number}
use Rattle.mysql_values.specs.Values.{content_of}
use Rattle.mysql_values.specs.Content.{Content}
use Rattle.mysql_values.specs.Value.{Value}
use Rattle.mysql_values.specs.Value.TheVariants.{NULL, Bytes, Int, UInt, Float, Double, Date, Time}
use Rattle.mysql_receive.specs.declared.fault.StreamFault.{StreamFault}
use Rattle.mysql_receive.specs.Laws.{WrittenCellsAreHeld}
use Rattle.mysql_receive.specs.Reading.{content_at}

is_exact : (value : Value) (held : Content) → content_of value ≡ Some held → not (is_float (type_number value)) ≡ true
is_exact NULL held e = refl
is_exact (Bytes bytes) held e = refl
is_exact (Int z) held e = refl
is_exact (UInt n) held e = refl
is_exact (Float bits) held e = absurd cc
is_exact (Double bits) held e = absurd cc
is_exact (Date year month day hour minute second micros) held e = refl
is_exact (Time negative days hours minutes seconds micros) held e = refl

holds : (short : StreamFault) (number : ℕ) (unsigned : Bool) (bytes rest : List ℕ) (value : Value)
    (held : Content) → not (is_float number) ≡ true →
    cell_at number unsigned bytes ≡ Ok (value, rest) → content_of value ≡ Some held →
    content_at short (record { number = number; unsigned = unsigned }) bytes ≡ Ok (held, rest)
unfolding content_at
holds short number unsigned bytes rest value held exact read means = rw (exact, read, means) refl

pub written_cells_are_held : CellsReadBack → ReadBackMeansTheSame → WrittenCellsAreHeld
written_cells_are_held back same short value held rest fit means =
    holds short (type_number value) (is_unsigned value) (cell value ++ rest) rest (read_back value)
    held (is_exact value held means) (back value rest fit) (same value ∙ means)
