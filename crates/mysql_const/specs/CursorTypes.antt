-- The cursors that an execution can ask for.
-- MySQL: Client/Server Protocol, "COM_STMT_EXECUTE" (enum_cursor_type).
use Rattle.std.specs.Prelude.{ℕ, List, [], ◌∷◌, codes}

-- the table: each flag's name and bit
abbrev pub cursor_types : List (List ℕ × ℕ)
cursor_types =
    (codes "CURSOR_TYPE_NO_CURSOR", 0)
    ∷ (codes "CURSOR_TYPE_READ_ONLY", 1)
    ∷ (codes "CURSOR_TYPE_FOR_UPDATE", 2)
    ∷ (codes "CURSOR_TYPE_SCROLLABLE", 4)
    ∷ []
