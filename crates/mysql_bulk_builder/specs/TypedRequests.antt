-- The cut of rows into typed and untyped parts, as it is computed.
use Rattle.std.specs.Prelude.{◌≡◌, ℕ, Bool, true, false, List, map, Some}
use Rattle.mysql_bulk_builder.specs.declared.search.BulkPart.{BulkPart}
use Rattle.mysql_bulk_builder.specs.declared.search.BulkCutError.{BulkCutError}
use Rattle.mysql_bulk_builder.specs.declared.search.BulkCutError.TheVariants.{RowTooLarge, Memory}
use Rattle.mysql_bulk_builder.specs.Causes.{row_too_large}
use Rattle.mysql_bulk_builder.specs.Cut.{Row}
use Rattle.mysql_bulk_builder.specs.TypedCut.{Typing, Typed, Untyped, Part}

abbrev pub typing_of : Bool → Typing
typing_of true = Typed
typing_of false = Untyped

abbrev pub view_part : BulkPart → Part
view_part part = record { typing = typing_of part.typed; count = part.count }

abbrev pub view_parts : List BulkPart → List Part
view_parts cut = map view_part cut

-- why rows are not cut
abbrev pub HasNoTypedCut : ℕ → ℕ → List Row → BulkCutError → Type 0
HasNoTypedCut room columns rows (RowTooLarge k) = row_too_large room columns rows ≡ Some k
HasNoTypedCut room columns rows Memory = Unit {0}
