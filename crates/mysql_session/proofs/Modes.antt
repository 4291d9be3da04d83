-- The mode of a server that has neither setting.
use Rattle.std.proofs.Common.{◌≡◌, false}
use Rattle.mysql_values.specs.Mode.{Mode}
use Rattle.mysql_values.specs.Sql.{default_mode}

pub is_default : (mode : Mode) → (mode.no_backslash_escapes ≡ false) × (mode.ansi_quotes ≡ false) → mode ≡ default_mode
is_default mode h = λ i. record { no_backslash_escapes = h.0 i; ansi_quotes = h.1 i }
