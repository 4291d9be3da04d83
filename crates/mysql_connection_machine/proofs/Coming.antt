-- Where a whole packet stands first, something comes next.
use Rattle.std.proofs.Common.{◌≢◌, refl, ℕ, Bool, true, false, List, Ok, Err, if◌then◌else◌}
use Rattle.mysql_wire.specs.FirstPacket.{Found, OutOfSync, Short, TooLarge, Whole}
use Rattle.mysql_wire.specs.Views.{HasManyChunks}
use Rattle.mysql_connection_rules.specs.Events.{Event}
use Rattle.mysql_connection_rules.specs.Steps.{Step}
use Rattle.mysql_connection_rules.specs.Streams.{Failure, Fails, Says, Waits, World, said_by}
use Rattle.mysql_connection_rules.specs.declared.side.Side.{Side}
use Rattle.mysql_connection_machine.specs.Takes.{IsWhole}

-- a packet of many chunks is whole
pub is_whole : (found : Found) → HasManyChunks found → IsWhole found
is_whole Short many = absurd many
is_whole TooLarge many = absurd many
is_whole (OutOfSync number) many = absurd many
is_whole (Whole payload number rest) many = (payload, number, rest, refl)

led : (b : Bool) (event : Event) (new : World) (failure : Failure) →
    (if b then Says event new else Fails failure) ≢ Waits
led true event new failure = λ e. absurd (cc e)
led false event new failure = λ e. absurd (cc e)

-- whatever its payload says
pub comes : (w : World) (side : Side) (number : ℕ) (rest : List ℕ) (said : Step) →
    said_by w side number rest said ≢ Waits
comes w side number rest (Ok said) = led _ _ _ _
comes w side number rest (Err fault) = λ e. absurd (cc e)
