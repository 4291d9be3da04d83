-- Words of the reader's own body: a reply so far as the code holds it, and what its functions lead to.
-- MySQL: Client/Server Protocol, "COM_QUERY Response".
use Rattle.std.specs.Prelude.{◌≡◌, Result, Ok, Err}
use Rattle.mysql_reply_events.specs.declared.event.ReplyEvent.{ReplyEvent}
use Rattle.mysql_reply_events.specs.declared.fault.ReplyFault.{ReplyFault}
use Rattle.mysql_reply_events.specs.declared.fault.ReplyFault.TheVariants.{Memory}
use Rattle.mysql_reply_events.specs.declared.state.ReplyState.{ReplyState}
use Rattle.mysql_reply_events.specs.Events.{Event, ReplySoFar}
use Rattle.mysql_reply_events.specs.Table.{Step}
use Rattle.mysql_reply_events.specs.Views.{Gives, awaited_view, event_view}

abbrev pub so_far : ReplyState → ReplySoFar
so_far state = record { awaited = awaited_view state.awaited; columns = state.standing.columns }

-- A function answered the step's event, and the state is behind it; or the step's fault, unless memory ran out.
abbrev pub Steps : Step → Result ReplyEvent ReplyFault → ReplyState → Type 0
Steps step (Ok event) new = step ≡ Ok (event_view event, so_far new)
Steps step (Err Memory) new = Unit {0}
Steps step (Err fault) new = step ≡ Err fault

-- What a step says: its event.
abbrev pub said : Step → Result Event ReplyFault
said (Ok x) = Ok x.0
said (Err fault) = Err fault

-- A function answered the step's event, or its fault, unless memory ran out.
abbrev pub Says : Step → Result ReplyEvent ReplyFault → Type 0
Says step result = Gives event_view result (said step)
