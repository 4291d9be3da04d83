-- The mode in which a receiver of a query begins.
use Rattle.std.proofs.Common.{◌≡◌, false}
use Rattle.mysql_values.specs.Mode.{Mode}
use Rattle.mysql_values.specs.Sql.{default_mode}

-- a mode that has neither setting is the default
pub is_default : (mode : Mode) → (mode.no_backslash_escapes ≡ false) × (mode.ansi_quotes ≡ false) → mode ≡ default_mode
is_default mode h = λ i. record { no_backslash_escapes = h.0 i; ansi_quotes = h.1 i }
