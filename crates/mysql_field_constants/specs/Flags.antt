-- Sets of flags that are read with named bits alone, as values by their bits.
-- (MySQL: Client/Server Protocol, "Status Flags", "COM_BINLOG_DUMP" and "COM_BINLOG_DUMP_GTID".)
use Rattle.std.specs.Prelude.{ℕ, ◌++◌, ◌==◌, if◌then◌else◌, Bool, List, Option, Some, None}
use Rattle.std.specs.Int.RustNames.{bit_and}
use Rattle.bitflags.specs.Sets.{Row, known_bits}
use Rattle.mysql_const.specs.BinlogDumpFlags.{binlog_dump_flags}
use Rattle.mysql_const.specs.StatusFlags.{mariadb_status_flags, status_flags}
pub use Rattle.mysql_const.specs.FlagSets.{contains}
use Rattle.mysql_const.specs.declared.binlog.BinlogDumpFlags.{BinlogDumpFlags}
use Rattle.mysql_const.specs.declared.status.StatusFlags.{StatusFlags}

-- all these bits have names in the table
abbrev pub are_named : List Row → ℕ → Bool
are_named table bits = bit_and bits (known_bits table) == bits

-- the set of these bits, where they all have names in the table
abbrev pub flags_named : {Y : Type 0} → List Row → (ℕ → Y) → ℕ → Option Y
flags_named table set_of bits = if are_named table bits then Some (set_of bits) else None

-- the flags of a status as MySQL or MariaDB sends it: bit 2 has no name
abbrev pub all_status_flags : List Row
all_status_flags = mariadb_status_flags ++ status_flags

-- the server's status
abbrev pub status_named : ℕ → Option StatusFlags
status_named bits = flags_named all_status_flags (λ b. record { 0 = b }) bits

-- the flags of a request for the binary log: bits 3 to 15 have no name
abbrev pub binlog_dump_named : ℕ → Option BinlogDumpFlags
binlog_dump_named bits = flags_named binlog_dump_flags (λ b. record { 0 = b }) bits
