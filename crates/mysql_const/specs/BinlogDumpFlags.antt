-- The flags of a request for the binary log.
-- MySQL: Client/Server Protocol, "COM_BINLOG_DUMP" and "COM_BINLOG_DUMP_GTID".
use Rattle.std.specs.Prelude.{ℕ, List, [], ◌∷◌, codes}

-- the table: each flag's name and bit
abbrev pub binlog_dump_flags : List (List ℕ × ℕ)
binlog_dump_flags =
    (codes "BINLOG_DUMP_NON_BLOCK", 1)
    ∷ (codes "BINLOG_THROUGH_POSITION", 2)
    ∷ (codes "BINLOG_THROUGH_GTID", 4)
    ∷ []
