-- What is held stays within the limits.
use Rattle.std.proofs.Common.{ℕ, ◌+◌, ◌-◌, ◌≤◌, List, [], ◌∷◌, ◌++◌, length, sym, ap, subst, ◌∙◌, append_assoc, arith}
use Rattle.std.proofs.lemmas.Grind.{common_steps}
use Rattle.mysql_connection_rules.specs.declared.side.Side.TheVariants.{Client, Server}
use Rattle.mysql_connection_rules.specs.Standing.{kept}
use Rattle.mysql_connection_rules.specs.Streams.{Stream, World, room, room_to_keep, stream_of}
use Rattle.mysql_connection_rules.specs.Laws.{EventsStayWithinLimits, EventsTakeBytes, FaultsAreOfTheirBytes}
use Rattle.mysql_connection_rules.specs.Laws.{FreshIsWithinLimits, HasRead, HeldStays}
use Rattle.mysql_connection_rules.specs.Laws.{PiecesStayWithinLimits, PositionsStay, WithinLimits}
use Rattle.mysql_connection_rules.proofs.Packets.{PacketLaws}
use Rattle.mysql_connection_rules.proofs.Going.{next_goes, next_goes-fails, same_read, Went}

pub events_take_bytes : PacketLaws → EventsTakeBytes
events_take_bytes packets old new event e = (next_goes packets old event new e).takes

then_read : (a b c : Stream) → HasRead a b → HasRead b c → HasRead a c
then_read a b c one two = record {
  since = one.since ++ two.since;
  bytes = append_assoc one.since two.since c.bytes ∙ ap (λ (l : List ℕ). one.since ++ l) two.bytes ∙ one.bytes;
  read = let p = one.read in let q = two.read in grind (arith, common_steps);
  closed = two.closed ∙ one.closed;
}

pub positions_stay : PacketLaws → PositionsStay
positions_stay packets old new [] h side =
    subst (λ (v : World). HasRead (stream_of side old.unread) (stream_of side v.unread)) h
    (same_read (stream_of side old.unread))
positions_stay packets old new (event ∷ events) h side =
    then_read (stream_of side old.unread) (stream_of side h.0.unread) (stream_of side new.unread)
    ((next_goes packets old event h.0 h.1).streams side)
    (positions_stay packets h.0 new events h.2 side)

pub faults_are_of_their_bytes : PacketLaws → FaultsAreOfTheirBytes
faults_are_of_their_bytes packets w failure e = next_goes-fails packets w failure e

pub fresh_is_within_limits : FreshIsWithinLimits
fresh_is_within_limits begun fits = record { client = omega arith; server = omega arith; kept = fits }

fits_joined : (bytes piece : List ℕ) (room : ℕ) → length bytes + length piece ≤ room → length (bytes ++ piece) ≤ room
fits_joined bytes piece room h = grind (arith, common_steps)

pub pieces_stay_within_limits : PiecesStayWithinLimits
pieces_stay_within_limits w Client piece within fits =
    record {
      client = fits_joined w.unread.client.bytes piece (room Client w.limits) fits;
      server =
          within.server;
      kept = within.kept;
    }
pieces_stay_within_limits w Server piece within fits =
    record {
      client = within.client;
      server =
          fits_joined w.unread.server.bytes piece (room Server w.limits) fits;
      kept = within.kept;
    }

fewer : (old new : Stream) (room : ℕ) → HasRead old new → length old.bytes ≤ room → length new.bytes ≤ room
fewer old new room read h = let e = read.bytes in grind (arith, common_steps)

went_within : (old new : World) → Went old new → WithinLimits old → WithinLimits new
went_within old new went within = record {
  client = subst (λ l. length new.unread.client.bytes ≤ room Client l) (sym went.limits)
      (fewer old.unread.client new.unread.client (room Client old.limits) (went.streams Client) within.client);
  server = subst (λ l. length new.unread.server.bytes ≤ room Server l) (sym went.limits)
      (fewer old.unread.server new.unread.server (room Server old.limits) (went.streams Server) within.server);
  kept = subst (λ l. kept new.standing ≤ room_to_keep l) (sym went.limits) went.keeps;
}

pub events_stay_within_limits : PacketLaws → EventsStayWithinLimits
events_stay_within_limits packets old new event e within =
    went_within old new (next_goes packets old event new e) within

sum_within : (a b k x y held : ℕ) → x + y ≤ held → a ≤ x → b ≤ y → k ≤ held - (x + y) → a + (b + k) ≤ held
sum_within a b k x y held h p q r = omega arith

pub held_stays : HeldStays
held_stays w h within =
    sum_within (length w.unread.client.bytes) (length w.unread.server.bytes) (kept w.standing)
    (room Client w.limits) (room Server w.limits) w.limits.held
    h within.client within.server within.kept
