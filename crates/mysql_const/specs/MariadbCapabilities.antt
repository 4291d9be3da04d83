-- MariaDB's own capabilities.
-- MariaDB: Client/Server Protocol, "Connecting", 'Capabilities' (bits 32 and up there).
use Rattle.std.specs.Prelude.{ℕ, List, [], ◌∷◌, codes}

-- the table: each flag's name and bit
abbrev pub mariadb_capabilities : List (List ℕ × ℕ)
mariadb_capabilities =
    (codes "MARIADB_CLIENT_PROGRESS", 1)
    ∷ (codes "MARIADB_CLIENT_COM_MULTI", 2)
    ∷ (codes "MARIADB_CLIENT_STMT_BULK_OPERATIONS", 4)
    ∷ (codes "MARIADB_CLIENT_EXTENDED_METADATA", 8)
    ∷ (codes "MARIADB_CLIENT_CACHE_METADATA", 0x10)
    ∷ (codes "MARIADB_CLIENT_BULK_UNIT_RESULTS", 0x20)
    ∷ []
