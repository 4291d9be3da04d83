-- The flags of a bulk request.
-- MariaDB: Client/Server Protocol, "COM_STMT_BULK_EXECUTE".
use Rattle.std.specs.Prelude.{ℕ, List, [], ◌∷◌, codes}

-- the table: each flag's name and bit
abbrev pub bulk_execute_flags : List (List ℕ × ℕ)
bulk_execute_flags =
    (codes "SEND_UNIT_RESULTS", 0x40)
    ∷ (codes "SEND_TYPES_TO_SERVER", 0x80)
    ∷ []
