-- The form of a type's cells, by the type's number.
use Rattle.std.proofs.Common.{◌≡◌, refl}
use Rattle.mysql_const.specs.declared.column_type.ColumnType.{ColumnType}
use Rattle.mysql_const.specs.ColumnTypes.{column_type_number}
use Rattle.mysql_const.specs.NamedLaws.{column_type-names_back}
use Rattle.mysql_cells.specs.Cells.{form, form_of}

pub form_by_number : (t : ColumnType) → form_of (column_type_number t) ≡ form t
form_by_number t = rw (column_type-names_back t) refl
