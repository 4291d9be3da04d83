-- The laws of the commands: what was written is read again, and the bitmap of an execution says
-- which values are NULL, and an execution has the size by which it is sent whole or apart.
use Rattle.std.specs.Prelude.{◌≡◌, ℕ, ◌+◌, ◌/◌, ◌<◌, false, List, [], ◌∷◌, ◌++◌, Ok, get_or, length}
use Rattle.mysql_cells.specs.declared.value.Value.{Value}
use Rattle.mysql_cells.specs.declared.value.Value.TheVariants.{NULL}
use Rattle.mysql_field_lists.specs.NullBitmap.{is_null_at}
use Rattle.mysql_const.specs.declared.command.Command.TheVariants.{COM_STMT_CLOSE, COM_STMT_RESET}
use Rattle.mysql_stmt.specs.Commands.{IsId, by_id, by_id_at}
use Rattle.mysql_cells.specs.Values.{is_null}
use Rattle.mysql_stmt.specs.Executions.{execute_command, null_bitmap, whole_size}

-- whatever follows
abbrev pub ClosesReadBack : Type 0
ClosesReadBack = (id : ℕ) (rest : List ℕ) → IsId id →
    by_id_at COM_STMT_CLOSE (by_id COM_STMT_CLOSE id ++ rest) ≡ Ok (id, rest)

abbrev pub ResetsReadBack : Type 0
ResetsReadBack = (id : ℕ) (rest : List ℕ) → IsId id →
    by_id_at COM_STMT_RESET (by_id COM_STMT_RESET id ++ rest) ≡ Ok (id, rest)

-- a byte for each eight values, in which a value's bit is 1 where it is NULL
abbrev pub BitmapsSayWhichAreNull : Type 0
BitmapsSayWhichAreNull =
    ((values : List Value) → length (null_bitmap values) ≡ (length values + 7) / 8)
    × ((values : List Value) (place : ℕ) → place < length values →
    is_null_at 0 (null_bitmap values) place ≡ is_null (get_or values place NULL))

-- an execution that holds the cells of all its values has so many bytes, and one without values has 10
abbrev pub ExecutionsHaveSizes : Type 0
ExecutionsHaveSizes =
    ((id : ℕ) → length (execute_command id [] false) ≡ 10)
    × ((id : ℕ) (value : Value) (values : List Value) →
    length (execute_command id (value ∷ values) false) ≡ whole_size (value ∷ values))
