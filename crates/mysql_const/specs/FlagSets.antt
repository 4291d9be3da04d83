-- What stands in a set of flags.
-- MySQL: Client/Server Protocol, "Capabilities Flags", "SERVER_STATUS_flags_enum", "Column Definition Flags".
use Rattle.std.specs.Prelude.{ℕ, ◌==◌, Bool}
use Rattle.std.specs.Int.RustNames.{bit_and}

-- these flags stand in a set of flags
abbrev pub contains : ℕ → ℕ → Bool
contains set flags = bit_and set flags == flags
