-- The server's status flags, and those that only MariaDB has.
-- MySQL: Client/Server Protocol, "Status Flags" (SERVER_STATUS_flags_enum); MariaDB: Client/Server
-- Protocol, "OK_Packet", 'Server status flag'.
use Rattle.std.specs.Prelude.{ℕ, List, [], ◌∷◌, codes}

-- the table: each flag's name and bit
abbrev pub status_flags : List (List ℕ × ℕ)
status_flags =
    (codes "SERVER_STATUS_IN_TRANS", 1)
    ∷ (codes "SERVER_STATUS_AUTOCOMMIT", 2)
    ∷ (codes "SERVER_MORE_RESULTS_EXISTS", 8)
    ∷ (codes "SERVER_STATUS_NO_GOOD_INDEX_USED", 0x10)
    ∷ (codes "SERVER_STATUS_NO_INDEX_USED", 0x20)
    ∷ (codes "SERVER_STATUS_CURSOR_EXISTS", 0x40)
    ∷ (codes "SERVER_STATUS_LAST_ROW_SENT", 0x80)
    ∷ (codes "SERVER_STATUS_DB_DROPPED", 0x100)
    ∷ (codes "SERVER_STATUS_NO_BACKSLASH_ESCAPES", 0x200)
    ∷ (codes "SERVER_STATUS_METADATA_CHANGED", 0x400)
    ∷ (codes "SERVER_QUERY_WAS_SLOW", 0x800)
    ∷ (codes "SERVER_PS_OUT_PARAMS", 0x1000)
    ∷ (codes "SERVER_STATUS_IN_TRANS_READONLY", 0x2000)
    ∷ (codes "SERVER_SESSION_STATE_CHANGED", 0x4000)
    ∷ []

-- MariaDB's own: the bit that says that double quotes are of names
abbrev pub mariadb_status_flags : List (List ℕ × ℕ)
mariadb_status_flags = (codes "SERVER_STATUS_ANSI_QUOTES", 0x8000) ∷ []
