-- What conversions that can still be undone give. MySQL Reference Manual, "Working with NULL
-- Values"; conversions between values and a language's types are a form of client libraries.
use Rattle.std.specs.Prelude.{Option, Some}
use Rattle.mysql_cells.specs.declared.value.Value.{Value}
use Rattle.mysql_convert.specs.declared.intermediates.ParseIrOpt.{ParseIrOpt}
use Rattle.mysql_convert.specs.declared.intermediates.ParseIrOpt.TheVariants.{Ready, Parsed}

-- what was read of the value
abbrev pub committed_of : {T : Type 0} → ParseIrOpt T → T
committed_of (Ready x) = x
committed_of (Parsed x value) = x

-- the value that was kept, or else the one that its result converts to
abbrev pub rolled_back_of : {T : Type 0} → (T → Option Value) → ParseIrOpt T → Option Value
rolled_back_of as_value (Ready x) = as_value x
rolled_back_of as_value (Parsed x value) = Some value
