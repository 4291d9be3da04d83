-- One step: what a piece or an end of an open stream changes of it.
use Rattle.std.proofs.Common.{◌≡◌, ℕ, ◌+◌, ◌-◌, Bool, true, false, List, ◌++◌, inl, inr, Option, Some, None, Result, Ok}
use Rattle.std.proofs.Common.{Err, length}
use Rattle.std.proofs.Common.{refl, sym, ap, subst, ◌∙◌, arith}
use Rattle.std.specs.Prelude.{nat_le, if◌then◌else◌, slice_index_or}
use Rattle.std.proofs.lemmas.Grind.{common_steps}
use Rattle.mysql_wire.specs.FirstPacket.{Found, Short, TooLarge, OutOfSync, Whole, first_packet}
use Rattle.mysql_wire.specs.FirstPacketLaws.{PacketsStay, StaysBy}
use Rattle.mysql_fields.specs.Wire.{Reading}
use Rattle.mysql_server_packets.specs.Packets.{ServerError}
use Rattle.mysql_reply_events.specs.declared.fault.ReplyFault.TheVariants.{BadError}
use Rattle.mysql_authentication.specs.Readings.{early_error_at}
use Rattle.mysql_connection_rules.specs.declared.fault.Fault.{Fault}
use Rattle.mysql_connection_rules.specs.declared.fault.Fault.TheVariants as faults
use Rattle.mysql_connection_rules.specs.declared.reason.Reason.TheVariants as reasons
use Rattle.mysql_connection_rules.specs.declared.side.Side.{Side}
use Rattle.mysql_connection_rules.specs.declared.side.Side.TheVariants.{Client, Server}
use Rattle.mysql_connection_rules.specs.Events.{Event, Farewell}
use Rattle.mysql_connection_rules.specs.Standing.{Standing, kept}
use Rattle.mysql_connection_rules.specs.Steps.{over, step, turn}
use Rattle.mysql_connection_rules.specs.Streams.{Stream, Coming, Piece, End, World, Failure, Next, Waits, Says, Fails}
use Rattle.mysql_connection_rules.specs.Streams.{come, next}
use Rattle.mysql_connection_rules.specs.Streams.{behind, begins_error, client_by, fails, farewell, has_number, is_early}
use Rattle.mysql_connection_rules.specs.Streams.{leads_on, moved}
use Rattle.mysql_connection_rules.specs.Streams.{next_by, numbered, of_server, room_to_keep, said_by, server_by, words}
use Rattle.mysql_connection_rules.specs.Streams.{words_by}
use Rattle.mysql_connection_rules.specs.Machines.{IsOpen}
use Rattle.mysql_connection_rules.proofs.Heads.{number_stays, Grows, early_grows}

-- ---- what is found first

-- bytes with what comes behind them
abbrev pub longer : Coming → List ℕ → List ℕ
longer (Piece piece) rest = rest ++ piece
longer End rest = rest

abbrev pub FoundOn : Coming → Found → Found → Type 0
FoundOn coming Short new = Unit {0}
FoundOn coming TooLarge new = new ≡ TooLarge
FoundOn coming (OutOfSync number) new = new ≡ OutOfSync number
FoundOn coming (Whole payload number rest) new = new ≡ Whole payload number (longer coming rest)

by_piece : (piece : List ℕ) (found new : Found) → StaysBy piece found new → FoundOn (Piece piece) found new
by_piece piece Short new h = tt
by_piece piece TooLarge new h = h
by_piece piece (OutOfSync number) new h = h
by_piece piece (Whole payload number rest) new h = h

found_same : (found : Found) → FoundOn End found found
found_same Short = tt
found_same TooLarge = refl
found_same (OutOfSync number) = refl
found_same (Whole payload number rest) = refl

-- what is found stays found with more bytes behind it
found_on : PacketsStay → (limit number : ℕ) (coming : Coming) (bytes : List ℕ)
    → FoundOn coming (first_packet limit number bytes) (first_packet limit number (longer coming bytes))
found_on stay limit number (Piece piece) bytes =
    by_piece piece (first_packet limit number bytes) (first_packet limit number (bytes ++ piece))
    (stay limit number bytes piece)
found_on stay limit number End bytes = found_same (first_packet limit number bytes)

-- ---- what comes next

-- an event stays the next, and what comes stands behind what it leaves; a fault stays
abbrev pub LeadsOn : Side → Coming → Next → Next → Type 0
LeadsOn side coming Waits new = Unit {0}
LeadsOn side coming (Says event mid) new = new ≡ Says event (come side coming mid)
LeadsOn side coming (Fails failure) new = new ≡ Fails failure

along : (side : Side) (coming : Coming) (old new mid : Next) → new ≡ mid →
    LeadsOn side coming old mid → LeadsOn side coming old new
along side coming old new mid e h = subst (λ (v : Next). LeadsOn side coming old v) (sym e) h

-- a fault is of the same byte
fails_on : (w : World) (own side : Side) (coming : Coming) (fault : Fault) →
    fails (come side coming w) own fault ≡ fails w own fault
fails_on w Client Client (Piece piece) fault = refl
fails_on w Client Client End fault = refl
fails_on w Client Server coming fault = refl
fails_on w Server Client coming fault = refl
fails_on w Server Server (Piece piece) fault = refl
fails_on w Server Server End fault = refl

abbrev pub longer_for : Side → Side → Coming → List ℕ → List ℕ
longer_for Client Client coming rest = longer coming rest
longer_for Client Server coming rest = rest
longer_for Server Client coming rest = rest
longer_for Server Server coming rest = longer coming rest

-- as much is read of longer bytes
read_on : (read : ℕ) (bytes rest piece : List ℕ) →
    read + (length (bytes ++ piece) - length (rest ++ piece)) ≡ read + (length bytes - length rest)
read_on read bytes rest piece = grind (arith, common_steps)

behind_on : (stream : Stream) (rest piece : List ℕ)
    → behind (rest ++ piece) (record { read = stream.read; bytes = stream.bytes ++ piece; closed = stream.closed })
    ≡ record { read = (behind rest stream).read; bytes = rest ++ piece; closed = stream.closed }
behind_on stream rest piece =
    λ i. record {
      read = read_on stream.read stream.bytes rest piece i;
      bytes = rest ++
          piece;
      closed = stream.closed;
    }

pub moved_on : (w : World) (own side : Side) (coming : Coming) (number : ℕ) (rest : List ℕ) (s : Standing)
    → moved (come side coming w) own number (longer_for own side coming rest) s ≡
    come side coming (moved w own number rest s)
moved_on w Client Client (Piece piece) number rest s =
    λ i. record {
      limits = w.limits;
      standing = numbered Client number s;
      unread =
          record { client = behind_on w.unread.client rest piece i; server = w.unread.server };
    }
moved_on w Client Client End number rest s = refl
moved_on w Client Server coming number rest s = refl
moved_on w Server Client coming number rest s = refl
moved_on w Server Server (Piece piece) number rest s =
    λ i. record {
      limits = w.limits;
      standing = numbered Server number s;
      unread =
          record { client = w.unread.client; server = behind_on w.unread.server rest piece i };
    }
moved_on w Server Server End number rest s = refl

-- by the test that what is kept is within its room
abbrev pub by_room : Bool → World → Side → Event → World → Next
by_room fits w own event new = if fits then Says event new else fails w own faults.Held

room_on : (w : World) (own side : Side) (coming : Coming) (event : Event) (mid new : World)
    (fits : Bool) → new ≡ come side coming mid
    → LeadsOn side coming (by_room fits w own event mid) (by_room fits (come side coming w) own event new)
room_on w own side coming event mid new true e = ap (Says event) e
room_on w own side coming event mid new false e = fails_on w own side coming faults.Held

event_on : (w : World) (own side : Side) (coming : Coming) (number : ℕ) (rest : List ℕ) (event : Event) (s : Standing)
    → LeadsOn side coming (leads_on w own event (moved w own number rest s))
    (leads_on (come side coming w) own event
    (moved (come side coming w) own number (longer_for own side coming rest) s))
event_on w own side coming number rest event s =
    room_on w own side coming event (moved w own number rest s)
    (moved (come side coming w) own number (longer_for own side coming rest) s)
    (nat_le (kept (numbered own number s)) (room_to_keep w.limits)) (moved_on w own side coming number rest s)

said_on : (w : World) (own side : Side) (coming : Coming) (number : ℕ) (rest : List ℕ)
    (said : Result (Event × Standing) Fault)
    → LeadsOn side coming (said_by w own number rest said)
    (said_by (come side coming w) own number (longer_for own side coming rest) said)
said_on w own side coming number rest (Ok said) = event_on w own side coming number rest said.0 said.1
said_on w own side coming number rest (Err fault) = fails_on w own side coming fault

farewell_on : (w : World) (side : Side) (coming : Coming) (number : ℕ) (rest : List ℕ) (error : Reading ServerError)
    → LeadsOn side coming (farewell w number rest error)
    (farewell (come side coming w) number (longer_for Server side coming rest) error)
farewell_on w side coming number rest (Ok error) =
    event_on w Server side coming number rest (Farewell error.0) (over reasons.Farewell w.standing)
farewell_on w side coming number rest (Err e) = fails_on w Server side coming (faults.BadReply BadError)

-- by the test that an error begins
abbrev pub by_error : Bool → World → Fault → ℕ → List ℕ → Reading ServerError → Next
by_error begins w fault number rest error = if begins then farewell w number rest error else fails w Server fault

error_on : (w : World) (side : Side) (coming : Coming) (fault : Fault) (number : ℕ) (rest : List ℕ)
    (error : Reading ServerError) (begins : Bool)
    → LeadsOn side coming (by_error begins w fault number rest error)
    (by_error begins (come side coming w) fault number (longer_for Server side coming rest)
    error)
error_on w side coming fault number rest error true = farewell_on w side coming number rest error
error_on w side coming fault number rest error false = fails_on w Server side coming fault

-- ---- last words

-- where the server's own bytes grow
words_own : (w : World) (coming : Coming) (found new : Found) → FoundOn coming found new →
    LeadsOn Server coming (words_by w found) (words_by (come Server coming w) new)
words_own w coming Short new e = tt
words_own w coming TooLarge new e = ap (words_by (come Server coming w)) e ∙
    fails_on w Server Server coming faults.TooLarge
words_own w coming (OutOfSync number) new e = ap (words_by (come Server coming w)) e ∙
    fails_on w Server Server coming (faults.OutOfSync number)
words_own w coming (Whole payload number rest) new e =
    along Server coming (words_by w (Whole payload number rest))
    (words_by (come Server coming w) new)
    (words_by (come Server coming w) (Whole payload number (longer coming rest)))
    (ap (words_by (come Server coming w)) e)
    (error_on w Server coming faults.Unasked number rest (early_error_at payload)
    (begins_error payload))

-- by the test that the number due stands there
abbrev pub by_number : Bool → World → Found → Next
by_number due w found = if due then words_by w found else Waits

number_on : (w : World) (coming : Coming) (found new : Found) (due still : Bool) →
    (due ≡ true → still ≡ true) → FoundOn coming found new
    → LeadsOn Server coming (by_number due w found) (by_number still (come Server coming w) new)
number_on w coming found new true true h e = words_own w coming found new e
number_on w coming found new true false h e = absurd (cc (h refl))
number_on w coming found new false still h e = tt

words_on : PacketsStay → (w : World) (coming : Coming) → LeadsOn Server coming (words w) (words (come Server coming w))
words_on stay w (Piece piece) =
    let n = w.standing.number in
    let bytes = w.unread.server.bytes in
    number_on w (Piece piece) (first_packet w.limits.server n bytes)
    (first_packet w.limits.server n (bytes ++ piece)) (has_number n bytes)
    (has_number n (bytes ++ piece))
    (number_stays n bytes piece) (found_on stay w.limits.server n (Piece piece) bytes)
words_on stay w End =
    let n = w.standing.number in
    let bytes = w.unread.server.bytes in
    number_on w End (first_packet w.limits.server n bytes) (first_packet w.limits.server n bytes)
    (has_number n bytes) (has_number n bytes)
    (λ h. h) (found_on stay w.limits.server n End bytes)

-- ---- the server's payload

server_own : (w : World) (coming : Coming) (found new : Found) → FoundOn coming found new →
    LeadsOn Server coming (server_by w found) (server_by (come Server coming w) new)
server_own w coming Short new e = tt
server_own w coming TooLarge new e = ap (server_by (come Server coming w)) e ∙
    fails_on w Server Server coming faults.TooLarge
server_own w coming (OutOfSync number) new e = ap (server_by (come Server coming w)) e ∙
    fails_on w Server Server coming (faults.OutOfSync number)
server_own w coming (Whole payload number rest) new e =
    along Server coming (server_by w (Whole payload number rest))
    (server_by (come Server coming w) new)
    (server_by (come Server coming w) (Whole payload number (longer coming rest)))
    (ap (server_by (come Server coming w)) e) (said_on w Server Server coming number rest (step w.standing payload))

-- by the test that an error stands there whose number is below the one that is due
abbrev pub by_early : Bool → World → (found due : Found) → Next
by_early early w found due = if early then words_by w found else server_by w due

early_same : (w : World) (coming : Coming) (early still : Bool) (found due new after : Found) → still ≡ early
    → (early ≡ true → FoundOn coming found new) → FoundOn coming due after
    → LeadsOn Server coming (by_early early w found due) (by_early still (come Server coming w) new after)
early_same w coming true true found due new after p e f = words_own w coming found new (e refl)
early_same w coming true false found due new after p e f = absurd (cc p)
early_same w coming false true found due new after p e f = absurd (cc p)
early_same w coming false false found due new after p e f = server_own w coming due after f

early_short : (w : World) (coming : Coming) (early : Bool) (found due : Found) (new : Next) →
    early ≡ false → due ≡ Short
    → LeadsOn Server coming (by_early early w found due) new
early_short w coming early found due new p q =
    subst (λ (v : Next). LeadsOn Server coming v new) (λ i. by_early (sym p i) w found (sym q i)) tt

either_long : (w : World) (early : Bool) → by_early early w TooLarge TooLarge ≡ fails w Server faults.TooLarge
either_long w true = refl
either_long w false = refl

early_long : (w : World) (coming : Coming) (early still : Bool) (found due new after : Found) →
    early ≡ false → due ≡ TooLarge → new ≡ TooLarge → after ≡ TooLarge
    → LeadsOn Server coming (by_early early w found due) (by_early still (come Server coming w) new after)
early_long w coming early still found due new after p q a b =
    subst (λ (v : Next). LeadsOn Server coming v (by_early still (come Server coming w) new after))
    (λ i. by_early (sym p i) w found (sym q i))
    ((λ i. by_early still (come Server coming w) (a i) (b i)) ∙
    either_long (come Server coming w) still ∙ fails_on w Server Server coming faults.TooLarge)

-- the error's number is the same in longer bytes
error_found : PacketsStay → (limit : ℕ) (bytes piece : List ℕ) →
    slice_index_or (bytes ++ piece) 3 0 ≡ slice_index_or bytes 3 0
    → FoundOn (Piece piece) (first_packet limit (slice_index_or bytes 3 0) bytes)
    (first_packet limit (slice_index_or (bytes ++ piece) 3 0) (bytes ++ piece))
error_found stay limit bytes piece e =
    subst (λ (n : ℕ). FoundOn (Piece piece) (first_packet limit (slice_index_or bytes 3 0) bytes)
    (first_packet limit n (bytes ++ piece))) (sym e)
    (found_on stay limit (slice_index_or bytes 3 0) (Piece piece) bytes)

piece_on : PacketsStay → (w : World) (piece : List ℕ) →
    Grows w.limits.server w.standing w.unread.server.bytes (w.unread.server.bytes ++ piece)
    → LeadsOn Server (Piece piece) (of_server w w.unread.server.bytes)
    (of_server (come Server (Piece piece) w) (w.unread.server.bytes ++ piece))
piece_on stay w piece (inl h) =
    let s = w.standing in
    let limit = w.limits.server in
    let bytes = w.unread.server.bytes in
    let more = bytes ++ piece in
    early_same w (Piece piece) (is_early s bytes) (is_early s more)
    (first_packet limit (slice_index_or bytes 3 0) bytes) (first_packet limit s.number bytes)
    (first_packet limit (slice_index_or more 3 0) more) (first_packet limit s.number more) h.0
    (λ e. error_found stay limit bytes piece (h.1 e))
    (found_on stay limit s.number (Piece piece) bytes)
piece_on stay w piece (inr (inl h)) =
    let s = w.standing in
    let limit = w.limits.server in
    let bytes = w.unread.server.bytes in
    early_short w (Piece piece) (is_early s bytes)
    (first_packet limit (slice_index_or bytes 3 0) bytes) (first_packet limit s.number bytes)
    (of_server (come Server (Piece piece) w) (bytes ++ piece)) h.0 h.1
piece_on stay w piece (inr (inr h)) =
    let s = w.standing in
    let limit = w.limits.server in
    let bytes = w.unread.server.bytes in
    let more = bytes ++ piece in
    early_long w (Piece piece) (is_early s bytes) (is_early s more)
    (first_packet limit (slice_index_or bytes 3 0) bytes) (first_packet limit s.number bytes)
    (first_packet limit (slice_index_or more 3 0) more) (first_packet limit s.number more) h.0 h.1
    (h.2 (slice_index_or more 3 0)) (h.2 s.number)

-- where the server's own stream grows
of_server-own : PacketsStay → (w : World) (coming : Coming)
    → LeadsOn Server coming (of_server w w.unread.server.bytes)
    (of_server (come Server coming w) (come Server coming w).unread.server.bytes)
of_server-own stay w (Piece piece) =
    piece_on stay w piece (early_grows w.limits.server w.standing w.unread.server.bytes piece)
of_server-own stay w End =
    let s = w.standing in
    let limit = w.limits.server in
    let bytes = w.unread.server.bytes in
    let found = first_packet limit (slice_index_or bytes 3 0) bytes in
    let due = first_packet limit s.number bytes in
    early_same w End (is_early s bytes) (is_early s bytes) found due found due refl
    (λ e. found_same found) (found_same due)

-- and where the client's does
words_other : (w : World) (coming : Coming) (found : Found) →
    LeadsOn Client coming (words_by w found) (words_by (come Client coming w) found)
words_other w coming Short = tt
words_other w coming TooLarge = fails_on w Server Client coming faults.TooLarge
words_other w coming (OutOfSync number) = fails_on w Server Client coming (faults.OutOfSync number)
words_other w coming (Whole payload number rest) =
    error_on w Client coming faults.Unasked number rest (early_error_at payload)
    (begins_error payload)

server_other : (w : World) (coming : Coming) (found : Found) →
    LeadsOn Client coming (server_by w found) (server_by (come Client coming w) found)
server_other w coming Short = tt
server_other w coming TooLarge = fails_on w Server Client coming faults.TooLarge
server_other w coming (OutOfSync number) = fails_on w Server Client coming (faults.OutOfSync number)
server_other w coming (Whole payload number rest) = said_on w Server Client coming number rest (step w.standing payload)

either_other : (w : World) (coming : Coming) (early : Bool) (found due : Found) →
    LeadsOn Client coming (by_early early w found due)
    (by_early early (come Client coming w) found due)
either_other w coming true found due = words_other w coming found
either_other w coming false found due = server_other w coming due

of_server-other : (w : World) (coming : Coming) (bytes : List ℕ) →
    LeadsOn Client coming (of_server w bytes) (of_server (come Client coming w) bytes)
of_server-other w coming bytes =
    either_other w coming (is_early w.standing bytes)
    (first_packet w.limits.server (slice_index_or bytes 3 0) bytes)
    (first_packet w.limits.server w.standing.number bytes)

-- ---- the client's payload

-- by the test that the client's stream has ended
abbrev pub by_end : Bool → World → Next
by_end ended w = if ended then words w else Waits

-- where its own stream is open and grows
client_own : (w : World) (coming : Coming) (found new : Found) → IsOpen w Client → FoundOn coming found new
    → LeadsOn Client coming (client_by w found) (client_by (come Client coming w) new)
client_own w coming Short new is_open e =
    subst (λ (b : Bool). LeadsOn Client coming (by_end b w) (client_by (come Client coming w) new))
    (sym is_open) tt
client_own w coming TooLarge new is_open e = ap (client_by (come Client coming w)) e ∙
    fails_on w Client Client coming faults.TooLarge
client_own w coming (OutOfSync number) new is_open e = ap (client_by (come Client coming w)) e ∙
    fails_on w Client Client coming (faults.OutOfSync number)
client_own w coming (Whole payload number rest) new is_open e =
    along Client coming (client_by w (Whole payload number rest))
    (client_by (come Client coming w) new)
    (client_by (come Client coming w) (Whole payload number (longer coming rest)))
    (ap (client_by (come Client coming w)) e) (said_on w Client Client coming number rest (step w.standing payload))

client_found : PacketsStay → (w : World) (coming : Coming) →
    FoundOn coming (first_packet w.limits.client w.standing.number w.unread.client.bytes)
    (first_packet w.limits.client w.standing.number (come Client coming w).unread.client.bytes)
client_found stay w (Piece piece) = found_on stay w.limits.client w.standing.number (Piece piece) w.unread.client.bytes
client_found stay w End = found_on stay w.limits.client w.standing.number End w.unread.client.bytes

-- and where the server's does
end_on : PacketsStay → (w : World) (coming : Coming) (ended : Bool) →
    LeadsOn Server coming (by_end ended w) (by_end ended (come Server coming w))
end_on stay w coming true = words_on stay w coming
end_on stay w coming false = tt

client_other : PacketsStay → (w : World) (coming : Coming) (found : Found) →
    LeadsOn Server coming (client_by w found) (client_by (come Server coming w) found)
client_other stay w coming Short = end_on stay w coming w.unread.client.closed
client_other stay w coming TooLarge = fails_on w Client Server coming faults.TooLarge
client_other stay w coming (OutOfSync number) = fails_on w Client Server coming (faults.OutOfSync number)
client_other stay w coming (Whole payload number rest) =
    said_on w Client Server coming number rest (step w.standing payload)

-- ---- whichever is due

turn_on : PacketsStay → (w : World) (its : Option Side) (side : Side) (coming : Coming) →
    IsOpen w side → LeadsOn side coming (next_by w its) (next_by (come side coming w) its)
turn_on stay w None side coming is_open = tt
turn_on stay w (Some Client) Client coming is_open =
    client_own w coming (first_packet w.limits.client w.standing.number w.unread.client.bytes)
    (first_packet w.limits.client w.standing.number (come Client coming w).unread.client.bytes)
    is_open (client_found stay w coming)
turn_on stay w (Some Client) Server coming is_open =
    client_other stay w coming
    (first_packet w.limits.client w.standing.number w.unread.client.bytes)
turn_on stay w (Some Server) Client coming is_open = of_server-other w coming w.unread.server.bytes
turn_on stay w (Some Server) Server coming is_open = of_server-own stay w coming

-- What comes of an open stream leaves the next event the next, and a fault a fault.
pub next_on : PacketsStay → (w : World) (side : Side) (coming : Coming) → IsOpen w side →
    LeadsOn side coming (next w) (next (come side coming w))
next_on stay w side coming is_open = turn_on stay w (turn w.standing.phase) side coming is_open

pub next_on-says : PacketsStay →
    (w : World) (side : Side) (coming : Coming) (event : Event) (mid : World) → IsOpen w side →
    next w ≡ Says event mid
    → next (come side coming w) ≡ Says event (come side coming mid)
next_on-says stay w side coming event mid is_open q =
    subst (λ (v : Next). LeadsOn side coming v (next (come side coming w))) q
    (next_on stay w side coming is_open)

pub next_on-fails : PacketsStay → (w : World) (side : Side) (coming : Coming) (failure : Failure) →
    IsOpen w side → next w ≡ Fails failure
    → next (come side coming w) ≡ Fails failure
next_on-fails stay w side coming failure is_open q =
    subst (λ (v : Next). LeadsOn side coming v (next (come side coming w))) q
    (next_on stay w side coming is_open)
