-- The mode of a server that has neither setting.
use Rattle.std.proofs.Common.{◌≡◌, Bool, false, ap, ◌∙◌}
use Rattle.mysql_bytes.specs.declared.mode.Mode.{Mode}
use Rattle.mysql_queries.specs.Sql.{default_mode}

abbrev mode_of : Bool → Bool → Mode
mode_of no_backslash_escapes ansi_quotes =
    record { no_backslash_escapes = no_backslash_escapes; ansi_quotes = ansi_quotes }

pub is_default : (mode : Mode) → (mode.no_backslash_escapes ≡ false) × (mode.ansi_quotes ≡ false) → mode ≡ default_mode
is_default mode h = ap (λ x. mode_of x mode.ansi_quotes) h.0 ∙ ap (mode_of false) h.1
