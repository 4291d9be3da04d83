use Rattle.std.proofs.Common.{rules, ◌≡◌, ◌++◌, ap, [], ◌∷◌}
use Rattle.mysql_wire.specs.Stream.Numbering.{OnFrom}
use Rattle.mysql_wire.specs.Reader.{payloads_of}
use Rattle.mysql_wire.specs.declared.codec.PacketCodecError.TheVariants.{Memory}
use Rattle.mysql_wire.specs.declared.codec.Refusal.TheVariants as refusals
use Rattle.mysql_wire.proofs.Incoming.{takes_on, waits_on}
use Rattle.mysql_wire.proofs.Reading.{refuses}
use Rattle.mysql_wire.proofs.codec.feed.drain.Goals as goal

pub packets-preserved-in-Ok : goal.packets-preserved-in-Ok
packets-preserved-in-Ok c =
    let new = c.read_in_place.new.self in
    let added : payloads_of c.add_copy.new.packets.items ≡ payloads_of c.packets.packets.items ++
    c.in-Some.payload.now ∷ [] = search rules in
    λ limit id bytes r.
    rw added (takes_on limit id bytes _ c.packets.reader
    (record new { payload = c.in-Some.payload.now }) new c.packets.rest.now
    c.read_in_place.new.piece.now (c.packets.invariant limit id bytes r) c.in-Some.ensures.found
    (ap (λ p. record new { payload = p }) c.in-Some.ensures.between.1))

pub packets-preserved : goal.packets-preserved
packets-preserved c =
    let left : (c.read_in_place.new.self ≡ c.packets.reader) ×
    (c.read_in_place.new.piece ≡ c.packets.rest) = search rules in
    let h = rw (left.0, left.1) at (rw c.in-Ok-true.field-0-test at c.in-Ok-true.ensures.ok) in
    let added : payloads_of c.add_taken.new.packets.items ≡ payloads_of c.packets.packets.items ++
    c.advance.new.self.payload ∷ [] = search rules in
    let taken : c.add_taken.new.reader ≡ record c.advance.new.self { payload = [] } = search rules in
    λ limit id bytes r. rw added
    (takes_on limit id bytes _ c.packets.reader c.advance.new.self c.add_taken.new.reader
    c.packets.rest.now c.advance.new.piece.now (c.packets.invariant limit id bytes r) h taken)

pub returns-in-Ok-false : goal.returns-in-Ok-false
returns-in-Ok-false c =
    let left : (c.read_in_place.new.self ≡ c.packets.reader) ×
    (c.read_in_place.new.piece ≡ c.packets.rest) = search rules in
    let w = rw (left.0, left.1) at (rw c.in-Ok-false.field-0-test at c.in-Ok-false.ensures.ok) in
    let used : c.advance.new.piece.now ≡ [] = search rules in
    let none : c.advance.new.self.payload ≡ [] = search rules in
    λ limit id bytes r. waits_on limit id bytes _ c.packets.reader c.advance.new.self
    c.packets.rest.now c.advance.new.piece.now (c.packets.invariant limit id bytes r) w used
    none

pub returns-in-Err : goal.returns-in-Err
returns-in-Err c =
    let memory : c.in-Err.error ≡ Memory = c.in-Err.ensures.err.0 in
    let same : c.add_copy.new.packets.items ≡ c.packets.packets.items = c.in-Err.ensures.err.1 in
    λ limit id bytes r. rw (
      memory,
      same,
    ) (refuses limit (OnFrom id) bytes _ _ _ _ refusals.Memory
    (c.packets.invariant limit id bytes r) tt)

pub returns-in-Err-add_taken : goal.returns-in-Err-add_taken
returns-in-Err-add_taken c =
    let memory : c.in-Err-add_taken.error ≡ Memory = c.in-Err-add_taken.ensures.err.0 in
    let same : c.add_taken.new.packets.items ≡ c.packets.packets.items = c.in-Err-add_taken.ensures.err.1 in
    λ limit id bytes r. rw (
      memory,
      same,
    ) (refuses limit (OnFrom id) bytes _ _ _ _ refusals.Memory
    (c.packets.invariant limit id bytes r) tt)

pub returns-in-Err-advance : goal.returns-in-Err-advance
returns-in-Err-advance c =
    let left : (c.read_in_place.new.self ≡ c.packets.reader) ×
    (c.read_in_place.new.piece ≡ c.packets.rest) = search rules in
    let w = rw (left.0, left.1) at c.in-Err-advance.ensures.refused in
    λ limit id bytes r.
    let now = c.packets.invariant limit id bytes r in
    rw w.answered (refuses limit (OnFrom id) bytes _ _ _ _ w.refusal now (w.due now.refused))
