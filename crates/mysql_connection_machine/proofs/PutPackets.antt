-- Packets that are put, one behind those before it.
use Rattle.std.proofs.Common.{◌≡◌, ◌+◌, ◌-◌, ◌≤◌, ◌++◌, ◌∷◌, [], ℕ, true, List, Option, Some, None, Ok, drop, take}
use Rattle.std.proofs.Common.{length, refl, subst, sym, ap, ◌∙◌, arith, length-drop}
use Rattle.std.proofs.lemmas.List.{drop-drop, take_rest}
use Rattle.std.specs.Prelude.{◌&&◌, slice_index_or}
use Rattle.mysql_connection_rules.specs.Puts.{is_free, is_turn}
use Rattle.mysql_wire.specs.FirstPacket.{Whole, first_packet}
use Rattle.mysql_wire.specs.FirstPacketLaws.{PacketsTakeBytes, TakesBytes}
use Rattle.mysql_connection_rules.specs.Standing.{Phase}
use Rattle.mysql_connection_rules.specs.Streams.{Failure, Stream, World, limit_of}
use Rattle.mysql_connection_rules.specs.declared.limits.Limits.{Limits}
use Rattle.mysql_connection_rules.specs.declared.side.Side.{Side}
use Rattle.mysql_connection_machine.specs.Machines.{Machine, stream_in, turn_by}
use Rattle.mysql_connection_machine.specs.Modes.{KnowsPayload}
use Rattle.mysql_connection_machine.specs.PuttingPackets.{PutsAll, PutsFirstBy, PutsOne, PutsUpTo, StandFirst, first_of}
use Rattle.mysql_connection_machine.specs.PuttingPayloads.{PutsWithoutEventOn, is_due_of}

-- ---- one more

stand_more : (limit : ℕ) (packets payload : List ℕ) (payloads : List (List ℕ)) (rest behind : List ℕ) (number : ℕ) →
    StandFirst limit packets payloads rest → first_of limit rest ≡ Whole payload number behind →
    StandFirst limit packets (payloads ++ payload ∷ []) behind
stand_more limit packets payload [] rest behind number stand found =
    (number, behind, ap (first_of limit) stand ∙ found, refl)
stand_more limit packets payload (first ∷ payloads) rest behind number stand found =
    (stand.0, stand.1, stand.2, stand_more limit stand.1 payload payloads rest behind number stand.3 found)

puts_more : (old mid new : Machine) (side : Side) (payloads : List (List ℕ)) (payload before middle behind : List ℕ) →
    PutsAll old side payloads before mid middle → PutsOne mid side payload middle new behind →
    PutsAll old side (payloads ++ payload ∷ []) before new behind
puts_more old mid new side [] payload before middle behind puts one = (
  new,
  behind,
  subst (λ (m : Machine). PutsOne m side payload before new behind) (sym puts.0)
      (subst (λ (b : List ℕ). PutsOne mid side payload b new behind) (sym puts.1) one),
  (refl, refl),
)
puts_more old mid new side (first ∷ payloads) payload before middle behind puts one = (
  puts.0,
  puts.1,
  puts.2,
  puts_more puts.0 mid new side payloads payload puts.1 middle behind puts.3 one,
)

-- ---- the limits stay

one_limits : (old new : Machine) (side : Side) (payload before behind : List ℕ) →
    PutsOne old side payload before new behind → old.world.limits ≡ new.world.limits
one_limits old new side payload before behind one =
    let put = one.puts.0 in sym (ap (λ (w : World). w.limits) put.1.written.goes)

pub all_limits : (old new : Machine) (side : Side) (payloads : List (List ℕ)) (before behind : List ℕ) →
    PutsAll old side payloads before new behind → old.world.limits ≡ new.world.limits
all_limits old new side [] before behind puts = ap (λ (m : Machine). m.world.limits) puts.0
all_limits old new side (payload ∷ payloads) before behind puts =
    one_limits old puts.0 side payload before puts.1 puts.2 ∙ all_limits puts.0 new side payloads puts.1 behind puts.3

-- ---- up to one more

up_to_more : (old mid new : Machine) (side : Side) (packets before middle behind rest : List ℕ) (used : ℕ) →
    PutsUpTo old side packets before rest mid middle → PutsFirstBy mid side rest middle used new behind →
    PutsUpTo old side packets before (drop used rest) new behind
up_to_more old mid new side packets before middle behind rest used put first =
    let limits = all_limits old mid side put.payloads before middle put.puts in
    let found = ap (λ (l : Limits). first_of (limit_of side l) rest) limits ∙ first.found in record {
      payloads = put.payloads ++ first.payload ∷ [];
      stand = stand_more (limit_of side old.world.limits) packets first.payload put.payloads rest
          (drop used rest) first.number put.stand found;
      puts = puts_more old mid new side put.payloads first.payload before middle behind put.puts first.one;
    }

-- and where that is in the packets
pub record GoesOn (old : Machine) (side : Side) (packets before : List ℕ) (used : ℕ) (new : Machine)
    (behind : List ℕ) : Type 0 where
  pub within : used ≤ length packets
  pub put : PutsUpTo old side packets before (drop used packets) new behind

pub goes_on : (old mid new : Machine) (side : Side) (packets before middle behind : List ℕ) (used taken : ℕ) →
    GoesOn old side packets before used mid middle →
    PutsFirstBy mid side (take (length packets - used) (drop used packets)) middle taken new behind →
    GoesOn old side packets before (used + taken) new behind
goes_on old mid new side packets before middle behind used taken goes taken_first =
    let rest = drop used packets in
    let first = subst (λ (l : List ℕ). PutsFirstBy mid side l middle taken new behind)
    (take_rest packets used) taken_first in
    let long = length-drop used packets in
    let short = first.within in record {
      within = omega (arith, goes.within, long, short);
      put = subst (λ (l : List ℕ). PutsUpTo old side packets before l new behind) (drop-drop taken used packets)
          (up_to_more old mid new side packets before middle behind rest taken goes.put first);
    }

-- ---- the first packet

-- it takes a header at least
took_four : PacketsTakeBytes → (limit number used next : ℕ) (packets payload : List ℕ) →
    first_packet limit number packets ≡ Whole payload next (drop used packets) → 4 ≤ used
took_four law limit number used next packets payload e =
    let takes = subst (TakesBytes packets) e (law limit number packets) in
    four used (length packets) (length payload) (length (drop used packets)) (length-drop used packets) takes where
      four : (used all more rest : ℕ) → rest ≡ all - used → rest + more + 4 ≤ all → 4 ≤ used
      four used all more rest e h = omega (arith, e, h)

-- a machine of which a payload is due has not failed
none_failed : (failure : Option Failure) (side : Side) (stream : Stream) (phase : Phase) →
    (is_turn side (turn_by failure phase) && is_free stream) ≡ true → failure ≡ None
none_failed None side stream phase h = refl
none_failed (Some failure) side stream phase h = absurd (cc h)

pub due_unfailed : (m : Machine) (side : Side) → is_due_of m side ≡ true → m.failure ≡ None
due_unfailed m side due = none_failed m.failure side (stream_in side m) m.world.standing.phase due

-- its payload was put
pub put_first_by : PacketsTakeBytes → (old new : Machine) (side : Side) (packets before behind payload : List ℕ)
    (limit number used next : ℕ) → limit ≡ limit_of side old.world.limits →
    number ≡ slice_index_or packets 3 0 → first_packet limit number packets ≡ Whole payload next (drop used packets) →
    used ≤ length packets → old.failure ≡ None → KnowsPayload old payload new →
    PutsWithoutEventOn old side payload before (Ok tt) new behind →
    PutsFirstBy old side packets before used new behind
put_first_by law old new side packets before behind payload limit number used next its_limit
    its_number found within going knows puts = record {
      payload = payload;
      number = next;
      found = ap (λ (l : ℕ). first_of l packets) (sym its_limit) ∙
          ap (λ (n : ℕ). first_packet limit n packets) (sym its_number) ∙ found;
      header = took_four law limit number used next packets payload found;
      within = within;
      one = record { knows = knows; going = going; puts = puts };
    }
