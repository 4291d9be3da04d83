-- Words of the crate's own body: what a server's payload says in an exchange.
-- MySQL: Client/Server Protocol, "Authentication Phase"; MariaDB: Client/Server Protocol, "Connecting".
use Rattle.std.specs.Prelude.{◌≡◌, ℕ, false, Ok}
use Rattle.mysql_authentication.specs.Events.{Authentication}
use Rattle.mysql_authentication.specs.Readings.{authentication_at}
use Rattle.mysql_connection_rules.specs.Steps.{greets_anew}
use Rattle.mysql_connection_rules.specs.declared.exchange.Exchange.{Exchange}
use Rattle.mysql_connection_writer.specs.Payloads.{Payload}

-- It isn't a new greeting, and says this.
abbrev pub ReadsInExchange : Exchange → ℕ → Authentication → Payload → Type 0
ReadsInExchange exchange capabilities said payload =
    (greets_anew exchange payload ≡ false) × (authentication_at capabilities payload ≡ Ok said)
