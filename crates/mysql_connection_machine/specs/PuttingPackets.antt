-- What a call that puts the payloads of packets on a connection answers.
-- MySQL: Client/Server Protocol, "MySQL Packets" and "Sequence ID".
use Rattle.std.specs.Prelude.{◌≡◌, ◌⊎◌, ℕ, ◌≤◌, true, false, List, [], ◌∷◌, drop, length, slice_index_or}
use Rattle.std.specs.Prelude.{Option, Some, None, Result, Ok, Err}
use Rattle.mysql_wire.specs.FirstPacket.{Found, OutOfSync, Short, TooLarge, Whole}
use Rattle.mysql_wire.specs.FirstPacket.{first_packet}
use Rattle.mysql_connection_rules.specs.Streams.{limit_of}
use Rattle.mysql_connection_rules.specs.declared.fault.Fault.TheVariants as faults
use Rattle.mysql_connection_rules.specs.declared.side.Side.{Side}
use Rattle.mysql_connection_machine.specs.Machines.{Machine}
use Rattle.mysql_connection_machine.specs.Modes.{KnowsPayload}
use Rattle.mysql_connection_machine.specs.PuttingPayloads.{PutsWithoutEventOn, RefusesPayload, is_due_of}
use Rattle.mysql_connection_machine.specs.declared.packets_refusal.PacketsRefusal.{PacketsRefusal}
use Rattle.mysql_connection_machine.specs.declared.payload_refusal.PayloadRefusal.{PayloadRefusal}
use Rattle.mysql_connection_machine.specs.declared.payload_refusal.PayloadRefusal.TheVariants as refusals

-- The packet that stands first, whichever number its first chunk has.
abbrev pub first_of : (limit : ℕ) → List ℕ → Found
first_of limit packets = first_packet limit (slice_index_or packets 3 0) packets

-- These payloads stand first, one packet after another, and this behind them.
abbrev pub StandFirst : (limit : ℕ) → List ℕ → List (List ℕ) → (rest : List ℕ) → Type 0
StandFirst limit packets [] rest = packets ≡ rest
StandFirst limit packets (payload ∷ payloads) rest = (number : ℕ) × (behind : List ℕ) ×
    (first_of limit packets ≡ Whole payload number behind) × StandFirst limit behind payloads rest

-- A payload of the side was put on a machine that has found no fault, as the event that it says.
pub record PutsOne (old : Machine) (side : Side) (payload before : List ℕ) (new : Machine)
    (behind : List ℕ) : Type 0 where
  pub knows : KnowsPayload old payload new
  pub going : old.failure ≡ None
  pub puts : PutsWithoutEventOn old side payload before (Ok tt) new behind

-- These payloads of the side were put, one after another.
abbrev pub PutsAll : Machine → Side → List (List ℕ) → (before : List ℕ) → Machine → (behind : List ℕ) →
    Type 0
PutsAll old side [] before new behind = (old ≡ new) × (before ≡ behind)
PutsAll old side (payload ∷ payloads) before new behind = (mid : Machine) × (middle : List ℕ) ×
    PutsOne old side payload before mid middle × PutsAll mid side payloads middle new behind

-- Of these packets the payloads were put of those that stand before this rest.
pub record PutsUpTo (old : Machine) (side : Side) (packets before rest : List ℕ) (new : Machine)
    (behind : List ℕ) : Type 0 where
  pub payloads : List (List ℕ)
  pub stand : StandFirst (limit_of side old.world.limits) packets payloads rest
  pub puts : PutsAll old side payloads before new behind

-- No payload of the side is due, or less than a whole packet stands first.
abbrev pub StopsAt : Machine → Side → List ℕ → Type 0
StopsAt m side packets = (is_due_of m side ≡ false) ⊎
    (first_of (limit_of side m.world.limits) packets ≡ Short)

-- What was found is no packet whose payload is put.
abbrev pub RefusesFound : Machine → Side → Found → PayloadRefusal → Type 0
RefusesFound m side Short cause = ⊥
RefusesFound m side TooLarge cause = cause ≡ refusals.TooLarge
RefusesFound m side (OutOfSync number) cause = cause ≡ refusals.BadPayload (faults.OutOfSync number)
RefusesFound m side (Whole payload number rest) cause = RefusesPayload m.world side payload cause

-- When each refusal of the packet that stands first comes, whose payload is due. Want of memory may stand in
-- place of any.
abbrev pub RefusesFirst : Machine → Side → List ℕ → PayloadRefusal → Type 0
RefusesFirst m side packets refusals.Memory = is_due_of m side ≡ true
RefusesFirst m side packets cause = (is_due_of m side ≡ true) ×
    RefusesFound m side (first_of (limit_of side m.world.limits) packets) cause

-- The payloads of the packets were put up to one whose turn hasn't come or that isn't whole; or up to one
-- that was refused.
abbrev pub PutsPackets : Machine → Side → List ℕ → (before : List ℕ) → Result ℕ PacketsRefusal → Machine →
    (behind : List ℕ) → Type 0
PutsPackets old side packets before (Ok used) new behind = (used ≤ length packets) ×
    PutsUpTo old side packets before (drop used packets) new behind ×
    StopsAt new side (drop used packets)
PutsPackets old side packets before (Err refusal) new behind = (refusal.used ≤ length packets) ×
    PutsUpTo old side packets before (drop refusal.used packets) new behind ×
    RefusesFirst new side (drop refusal.used packets) refusal.cause

-- The payload of the packet that stands first was put, and so many bytes are its.
pub record PutsFirstBy (old : Machine) (side : Side) (packets before : List ℕ) (used : ℕ) (new : Machine)
    (behind : List ℕ) : Type 0 where
  pub payload : List ℕ
  pub number : ℕ
  pub found : first_of (limit_of side old.world.limits) packets ≡ Whole payload number (drop used packets)
  pub header : 4 ≤ used
  pub within : used ≤ length packets
  pub one : PutsOne old side payload before new behind

-- So it is; or its turn hasn't come, or it isn't whole; or it is refused.
abbrev pub PutsFirst : Machine → Side → List ℕ → (before : List ℕ) → Result (Option ℕ) PayloadRefusal →
    Machine → (behind : List ℕ) → Type 0
PutsFirst old side packets before (Ok (Some used)) new behind =
    PutsFirstBy old side packets before used new behind
PutsFirst old side packets before (Ok None) new behind =
    (old ≡ new) × (before ≡ behind) × StopsAt old side packets
PutsFirst old side packets before (Err cause) new behind =
    (old ≡ new) × (before ≡ behind) × RefusesFirst old side packets cause

-- The command that stands first of a machine's packets was put, and so many bytes are its; or nothing has changed.
abbrev pub PutsCommandOrStays : Machine → Side → List ℕ → (before : List ℕ) → Option ℕ → Machine → (behind : List ℕ) →
    Type 0
PutsCommandOrStays old side packets before (Some used) new behind =
    PutsFirstBy old side packets before used new behind
PutsCommandOrStays old side packets before None new behind = (old ≡ new) × (before ≡ behind)
