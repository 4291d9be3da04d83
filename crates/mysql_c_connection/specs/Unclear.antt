-- What C sees of the values of an execution that servers read each their way.
-- MySQL: Client/Server Protocol, "COM_STMT_EXECUTE" and "Binary Protocol Value"; MariaDB:
-- "COM_STMT_BULK_EXECUTE".
use Rattle.std.specs.Prelude.{◌≡◌, ℕ, ◌+◌, ◌*◌, Bool, false, List, [], length, Option, None, unwrap_or}
use Rattle.std.specs.Option.{option_map}
use Rattle.mysql_commands.specs.declared.command.Command.{Command as HeldCommand}
use Rattle.mysql_commands.specs.declared.command.Command.TheVariants as asked
use Rattle.mysql_connection_state.specs.declared.event.Event.{Event as HeldEvent}
use Rattle.mysql_connection_state.specs.declared.event.Event.TheVariants as said
use Rattle.mysql_executions.specs.Unclear.{UnclearValues, is_unclear_at}
use Rattle.mysql_executions.specs.Views.{cells_of, rows_of, unclear_of}
use Rattle.mysql_c_connection_events.specs.Commands.{width_of}
use Rattle.mysql_c_connection.specs.declared.object.Object.{Object}
use Rattle.mysql_c_connection.specs.declared.object.Object.TheVariants as object

-- what of a command is unclear
abbrev pub unclear_in : HeldCommand → UnclearValues
unclear_in (asked.Execute e) = unclear_of e.unclear
unclear_in (asked.BulkExecute e) = record { cells = cells_of e.unclear; long_data = [] }
unclear_in command = record { cells = None; long_data = [] }

-- how many values stand before the one at a place of a row: of an execution its place counts alone
abbrev pub number_in : HeldCommand → (row place : ℕ) → ℕ
number_in (asked.BulkExecute e) row place = row * width_of (rows_of e.rows.items) + place
number_in command row place = place

-- the bytes from the first unclear cell on
abbrev pub unclear_bytes : UnclearValues → List ℕ
unclear_bytes u = unwrap_or (option_map (λ first. first.1) u.cells) []

-- whether the value at a place of a row of an event is unclear, and how long the bytes from the first
-- unclear cell on are
abbrev pub ShowsUnclear : HeldEvent → (row place : ℕ) → Bool → ℕ → Type 0
ShowsUnclear (said.Command command) row place unclear len =
    (unclear ≡ is_unclear_at (unclear_in command.value) (number_in command.value row place)) ×
    (len ≡ length (unclear_bytes (unclear_in command.value)))
ShowsUnclear event row place unclear len = (unclear ≡ false) × (len ≡ 0)

-- the event that an object holds, as it was read
abbrev pub read_event : Object → Option HeldEvent
read_event object.Empty = None
read_event (object.Open c) = c.event
