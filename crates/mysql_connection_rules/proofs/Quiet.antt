-- Where nothing of a side is unread, the next event isn't its.
use Rattle.std.proofs.Common.{◌≡◌, ℕ, ◌/◌, Bool, true, false, List, [], ◌∷◌, ◌++◌, Option, Some, None, Result, Ok, Err}
use Rattle.std.proofs.Common.{refl, sym, ap, subst, ◌∙◌, add-one}
use Rattle.std.specs.Prelude.{nat_le, slice_index_or, if◌then◌else◌}
use Rattle.std.specs.List.{filter}
use Rattle.mysql_authentication.specs.Readings.{early_error_at}
use Rattle.mysql_wire.specs.FirstPacket.{Found, Short, TooLarge, OutOfSync, Whole, first_packet, packet_by}
use Rattle.mysql_fields.specs.Wire.{Reading}
use Rattle.mysql_server_packets.specs.Packets.{ServerError}
use Rattle.mysql_wire.specs.Framing.{max_payload_len}
use Rattle.mysql_connection_rules.specs.declared.fault.Fault.{Fault}
use Rattle.mysql_connection_rules.specs.declared.fault.Fault.TheVariants as faults
use Rattle.mysql_connection_rules.specs.declared.reason.Reason.TheVariants as reasons
use Rattle.mysql_connection_rules.specs.declared.side.Side.{Side}
use Rattle.mysql_connection_rules.specs.declared.side.Side.TheVariants.{Client, Server}
use Rattle.mysql_connection_rules.specs.Events.{Event}
use Rattle.mysql_connection_rules.specs.Events.Event.{Farewell}
use Rattle.mysql_connection_rules.specs.Laws.{PositionsStay}
use Rattle.mysql_connection_rules.specs.Runs.{Runs}
use Rattle.mysql_connection_rules.specs.Standing.{Standing, kept}
use Rattle.mysql_connection_rules.specs.Steps.{over, step, turn}
use Rattle.mysql_connection_rules.specs.Streams.{World, Next, Waits, Says, Fails, stream_of, next}
use Rattle.mysql_connection_rules.specs.Streams.{begins_error, client_by, farewell, has_number, is_early, moved}
use Rattle.mysql_connection_rules.specs.Streams.{next_by, numbered, of_server, room_to_keep, said_by, server_by}
use Rattle.mysql_connection_rules.specs.Streams.{words_by}
use Rattle.mysql_connection_rules.proofs.OneStep.{by_room, by_error, by_number, by_early, by_end}
use Rattle.mysql_connection_rules.proofs.Sides.{SaidBy, step_side}
use Rattle.mysql_connection_rules.specs.Puts.{is_of, same_side}
use Rattle.mysql_connection_rules.proofs.PutHeads.{and_no}

-- the next event is none of the side's
abbrev Quiet : Side → Next → Type 0
Quiet own Waits = Unit {0}
Quiet own (Says event mid) = is_of own event ≡ false
Quiet own (Fails failure) = Unit {0}

room_quiet : (fits : Bool) (w : World) (own side : Side) (event : Event) (mid : World) →
    is_of own event ≡ false → Quiet own (by_room fits w side event mid)
room_quiet true w own side event mid h = h
room_quiet false w own side event mid h = tt

said_quiet : (w : World) (own side : Side) (number : ℕ) (rest : List ℕ)
    (said : Result (Event × Standing) Fault) → same_side own side ≡ false → SaidBy side said
    → Quiet own (said_by w side number rest said)
said_quiet w own side number rest (Ok said) apart h =
    room_quiet (nat_le (kept (numbered side number said.1)) (room_to_keep w.limits)) w own side
    said.0 (moved w side number rest said.1) (ap (same_side own) (sym h) ∙ apart)
said_quiet w own side number rest (Err fault) apart h = tt

farewell_quiet : (w : World) (number : ℕ) (rest : List ℕ) (error : Reading ServerError) →
    Quiet Client (farewell w number rest error)
farewell_quiet w number rest (Ok error) =
    let s = over reasons.Farewell w.standing in
    room_quiet (nat_le (kept (numbered Server number s)) (room_to_keep w.limits)) w Client Server
    (Farewell error.0) (moved w Server number rest s) refl
farewell_quiet w number rest (Err e) = tt

error_quiet : (begins : Bool) (w : World) (fault : Fault) (number : ℕ) (rest : List ℕ)
    (error : Reading ServerError) → Quiet Client (by_error begins w fault number rest error)
error_quiet true w fault number rest error = farewell_quiet w number rest error
error_quiet false w fault number rest error = tt

words_quiet : (w : World) (found : Found) → Quiet Client (words_by w found)
words_quiet w Short = tt
words_quiet w TooLarge = tt
words_quiet w (OutOfSync number) = tt
words_quiet w (Whole payload number rest) =
    error_quiet (begins_error payload) w faults.Unasked number rest (early_error_at payload)

number_quiet : (w : World) (due : Bool) (found : Found) → Quiet Client (by_number due w found)
number_quiet w true found = words_quiet w found
number_quiet w false found = tt

end_quiet : (w : World) (ended : Bool) → Quiet Client (by_end ended w)
end_quiet w true =
    let n = w.standing.number in
    let bytes = w.unread.server.bytes in
    number_quiet w (has_number n bytes) (first_packet w.limits.server n bytes)
end_quiet w false = tt

-- in no bytes less than a packet stands
pub none_found : (limit number : ℕ) → first_packet limit number [] ≡ Short
none_found limit number = ap (λ (n : ℕ). packet_by n limit 0 number []) (add-one (limit / max_payload_len))

-- no last words stand in them
no_words : (w : World) (ended : Bool) → w.unread.server.bytes ≡ [] → by_end ended w ≡ Waits
no_words w true none =
    let n = w.standing.number in
    ap (λ (l : List ℕ). by_number (has_number n l) w (first_packet w.limits.server n l)) none
no_words w false none = refl

-- where the client's payload is due
client_quiet-client : (w : World) → w.unread.client.bytes ≡ [] → Quiet Client (next_by w (Some Client))
client_quiet-client w none =
    let n = w.standing.number in
    let e : next_by w (Some Client) ≡ by_end w.unread.client.closed w =
    ap (λ (l : List ℕ). client_by w (first_packet w.limits.client n l)) none ∙
    ap (client_by w) (none_found w.limits.client n) in
    subst (Quiet Client) (sym e) (end_quiet w w.unread.client.closed)

client_quiet-server : (w : World) (found : Found) → turn w.standing.phase ≡ Some Client →
    w.unread.server.bytes ≡ [] → Quiet Server (client_by w found)
client_quiet-server w Short t none = subst (Quiet Server) (sym (no_words w w.unread.client.closed none)) tt
client_quiet-server w TooLarge t none = tt
client_quiet-server w (OutOfSync number) t none = tt
client_quiet-server w (Whole payload number rest) t none =
    said_quiet w Server Client number rest (step w.standing payload) refl
    (step_side w.standing payload Client t)

-- and where the server's is
server_quiet : (w : World) (found : Found) → turn w.standing.phase ≡ Some Server → Quiet Client (server_by w found)
server_quiet w Short t = tt
server_quiet w TooLarge t = tt
server_quiet w (OutOfSync number) t = tt
server_quiet w (Whole payload number rest) t =
    said_quiet w Client Server number rest (step w.standing payload) refl
    (step_side w.standing payload Server t)

either_quiet : (w : World) (early : Bool) (found due : Found) → turn w.standing.phase ≡
    Some Server → Quiet Client (by_early early w found due)
either_quiet w true found due t = words_quiet w found
either_quiet w false found due t = server_quiet w due t

server_waits : (w : World) → w.unread.server.bytes ≡ [] → next_by w (Some Server) ≡ Waits
server_waits w none =
    let s = w.standing in
    let limit = w.limits.server in
    ap (of_server w) none
    ∙ ap (λ (b : Bool). by_early b w (first_packet limit (slice_index_or [] 3 0) [])
    (first_packet limit s.number [])) (and_no s.answers)
    ∙ ap (server_by w) (none_found limit s.number)

turn_quiet : (w : World) (its : Option Side) (own : Side) → turn w.standing.phase ≡ its →
    (stream_of own w.unread).bytes ≡ [] → Quiet own (next_by w its)
turn_quiet w None own t none = tt
turn_quiet w (Some Client) Client t none = client_quiet-client w none
turn_quiet w (Some Client) Server t none =
    client_quiet-server w (first_packet w.limits.client w.standing.number w.unread.client.bytes) t
    none
turn_quiet w (Some Server) Client t none =
    let s = w.standing in
    let limit = w.limits.server in
    let bytes = w.unread.server.bytes in
    either_quiet w (is_early s bytes) (first_packet limit (slice_index_or bytes 3 0) bytes)
    (first_packet limit s.number bytes) t
turn_quiet w (Some Server) Server t none = subst (Quiet Server) (sym (server_waits w none)) tt

pub end_of_none : (xs ys : List ℕ) → xs ++ ys ≡ [] → ys ≡ []
end_of_none [] ys h = h
end_of_none (x ∷ xs) ys h = absurd (cc h)

pub record QuietStep (own : Side) (event : Event) (mid : World) : Type 0 where
  pub other : is_of own event ≡ false
  pub none : (stream_of own mid.unread).bytes ≡ []

pub next_quiet : PositionsStay → (w : World) (own : Side) (event : Event) (mid : World) →
    (stream_of own w.unread).bytes ≡ [] → next w ≡ Says event mid → QuietStep own event mid
next_quiet positions w own event mid none e =
    let its = turn w.standing.phase in
    let read = positions w mid (event ∷ []) (mid, e, refl) own in record {
      other = subst (Quiet own) e (turn_quiet w its own refl none);
      none = end_of_none read.since (stream_of own mid.unread).bytes (read.bytes ∙ none);
    }

pub filter_out : (own : Side) (event : Event) (events : List Event) → is_of own event ≡ false →
    filter (is_of own) (event ∷ events) ≡ filter (is_of own) events
filter_out own event events e =
    ap (λ (b : Bool). if b then event ∷ filter (is_of own) events else filter (is_of own) events) e

pub filter_in : (own : Side) (event : Event) (events : List Event) → is_of own event ≡ true →
    filter (is_of own) (event ∷ events) ≡ event ∷ filter (is_of own) events
filter_in own event events e =
    ap (λ (b : Bool). if b then event ∷ filter (is_of own) events else filter (is_of own) events) e

-- a run over no bytes of a side has none of its events
pub runs_quiet : PositionsStay → (own : Side) (w : World) (events : List Event) (last : World) →
    (stream_of own w.unread).bytes ≡ [] → Runs w events last
    → filter (is_of own) events ≡ []
runs_quiet positions own w [] last none h = refl
runs_quiet positions own w (event ∷ events) last none h =
    let quiet = next_quiet positions w own event h.0 none h.1 in
    filter_out own event events quiet.other ∙ runs_quiet positions own h.0 events last quiet.none h.2
