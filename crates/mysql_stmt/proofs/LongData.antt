-- The cells of an execution that are left, counted value by value.
use Rattle.std.proofs.Common.{ℕ, List, drop, map}
use Rattle.std.specs.List.{sum_by}
use Rattle.mysql_cells.specs.Cells.{bin_len}
use Rattle.mysql_cells.specs.declared.value.Value.{Value}

-- the bytes of the cells from a place on
abbrev pub left : {T : Type 0} → (T → Value) → List T → ℕ → ℕ
left lent values i = sum_by bin_len (map lent (drop i values))
