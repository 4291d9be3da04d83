-- Whether a connection waits, by whether less than a packet stands first of a stream.
use Rattle.std.proofs.Common.{◌≡◌, ℕ, Bool, true, false, not, ◌&&◌, ◌||◌, List, Ok, Err}
use Rattle.std.proofs.Common.{refl, ap, ◌∙◌, if◌then◌else◌, slice_index_or, nat_le}
use Rattle.mysql_wire.specs.FirstPacket.{Found, OutOfSync, Short, TooLarge, Whole}
use Rattle.mysql_wire.specs.FirstPacket.{first_packet, is_short}
use Rattle.mysql_connection_rules.specs.declared.fault.Fault.TheVariants as faults
use Rattle.mysql_connection_rules.specs.declared.side.Side.{Side}
use Rattle.mysql_connection_rules.specs.declared.side.Side.TheVariants.{Client, Server}
use Rattle.mysql_connection_rules.specs.Events.{Event}
use Rattle.mysql_connection_rules.specs.Standing.{kept}
use Rattle.mysql_connection_rules.specs.Steps.{Step}
use Rattle.mysql_connection_rules.specs.Streams.{Next, Says, World, Waits, client_by, fails}
use Rattle.mysql_connection_rules.specs.Streams.{has_number, is_early}
use Rattle.mysql_connection_rules.specs.Streams.{moved, of_server, room_to_keep, said_by, server_by}
use Rattle.mysql_connection_rules.specs.Streams.{words, words_by}
use Rattle.mysql_connection_machine.specs.Endings.{is_waiting, server_number}
use Rattle.mysql_connection_state.specs.Peeks.{words_step}
use Rattle.mysql_connection_machine.proofs.Words.{words_said}

led : (b : Bool) (w new : World) (side : Side) (event : Event) →
    is_waiting (if b then Says event new else fails w side faults.Held) ≡ false
led true w new side event = refl
led false w new side event = refl

-- a payload that was read is an event or a fault
said : (w : World) (side : Side) (number : ℕ) (rest : List ℕ) (step : Step) →
    is_waiting (said_by w side number rest step) ≡ false
said w side number rest (Ok x) =
    led (nat_le (kept (moved w side number rest x.1).standing) (room_to_keep w.limits)) w
    (moved w side number rest x.1) side x.0
said w side number rest (Err fault) = refl

server_waits : (w : World) (found : Found) → is_waiting (server_by w found) ≡ is_short found
server_waits w Short = refl
server_waits w TooLarge = refl
server_waits w (OutOfSync number) = refl
server_waits w (Whole payload number rest) = said w Server number rest _

words_wait : (w : World) (found : Found) → is_waiting (words_by w found) ≡ is_short found
words_wait w Short = refl
words_wait w TooLarge = refl
words_wait w (OutOfSync number) = refl
words_wait w (Whole payload number rest) =
    ap is_waiting (words_said w payload number rest) ∙
    said w Server number rest (words_step w.standing payload)

in_words : (has : Bool) (w : World) (found : Found) →
    is_waiting (if has then words_by w found else Waits) ≡ (not has || is_short found)
in_words true w found = words_wait w found
in_words false w found = refl

-- behind the end of the client's stream
pub words_waited : (w : World) → is_waiting (words w) ≡
    (not (has_number w.standing.number w.unread.server.bytes) ||
    is_short (first_packet w.limits.server w.standing.number w.unread.server.bytes))
words_waited w = in_words (has_number w.standing.number w.unread.server.bytes) w
    (first_packet w.limits.server w.standing.number w.unread.server.bytes)

ended : (closed : Bool) (next : Next) →
    is_waiting (if closed then next else Waits) ≡ (not closed || is_waiting next)
ended true next = refl
ended false next = refl

-- where the client's payload is due
pub client_waited : (w : World) (found : Found) → is_waiting (client_by w found) ≡
    (is_short found && (not w.unread.client.closed || is_waiting (words w)))
client_waited w Short = ended w.unread.client.closed (words w)
client_waited w TooLarge = refl
client_waited w (OutOfSync number) = refl
client_waited w (Whole payload number rest) = said w Client number rest _

by_early : (early : Bool) (w : World) (low due : ℕ) (bytes : List ℕ) →
    is_waiting (if early then words_by w (first_packet w.limits.server low bytes)
    else server_by w (first_packet w.limits.server due bytes)) ≡
    is_short (first_packet w.limits.server (if early then low else due) bytes)
by_early true w low due bytes = words_wait w (first_packet w.limits.server low bytes)
by_early false w low due bytes = server_waits w (first_packet w.limits.server due bytes)

-- where the server's is
pub server_waited : (w : World) → is_waiting (of_server w w.unread.server.bytes) ≡
    is_short (first_packet w.limits.server (server_number w.standing w.unread.server.bytes)
    w.unread.server.bytes)
server_waited w = by_early (is_early w.standing w.unread.server.bytes) w
    (slice_index_or w.unread.server.bytes 3 0) w.standing.number w.unread.server.bytes
