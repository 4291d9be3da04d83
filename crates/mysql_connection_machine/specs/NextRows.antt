-- A row behind another one, taken where it lies.
-- MySQL: Client/Server Protocol, "Text Resultset Row" and "Binary Protocol Resultset Row".
use Rattle.std.specs.Prelude.{◌≡◌, Bool, true, false, Some, Ok}
use Rattle.mysql_wire.specs.FirstPacket.{first_packet}
use Rattle.mysql_connection_rules.specs.declared.limits.Limits.{Limits}
use Rattle.mysql_connection_rules.specs.declared.side.Side.TheVariants.{Server}
use Rattle.mysql_connection_rules.specs.Standing.{Standing}
use Rattle.mysql_connection_rules.specs.Steps.{step, turn}
use Rattle.mysql_connection_rules.specs.Streams.{Stream, World, is_early}
use Rattle.mysql_connection_state.specs.Views.{ConnectionState}
use Rattle.mysql_connection_machine.specs.Buffers.{Buffer}
use Rattle.mysql_connection_machine.specs.Machines.{AnswersLent, LendingWorld, lending_none}
use Rattle.mysql_connection_machine.specs.Takes.{TakesLentBy}
use Rattle.mysql_connection_machine.specs.declared.lent_event.LentEvent.TheVariants as lent

-- The row that stands first of the server's stream was read and is lent; or nothing has changed but
-- what reads rows.
abbrev pub TakesRowBy : Limits → Standing → Stream → Bool → ConnectionState → Buffer → Type 0
TakesRowBy limits old server true new left =
    (turn old.phase ≡ Some Server) × (is_early old server.bytes ≡ false) ×
    TakesLentBy limits Server (step old) (first_packet limits.server old.number server.bytes) old
    server (Ok (Some lent.Row)) new left
TakesRowBy limits old server false new left = (new.standing ≡ old) × (left.stream ≡ server)

-- A row comes next of the world, and is lent; or nothing has changed, and none is.
abbrev pub LendsRow : World → Bool → LendingWorld → Type 0
LendsRow old true new = AnswersLent old (Ok (Some lent.Row)) new
LendsRow old false new = new ≡ lending_none old
