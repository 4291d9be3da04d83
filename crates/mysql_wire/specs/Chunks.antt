-- The first packet by the chunk at the front, and by its last chunk.
use Rattle.std.specs.Prelude.{ℕ, zero, suc, ◌+◌, ◌*◌, ◌≤◌, List, [], ◌++◌, ◌==◌, if◌then◌else◌}
use Rattle.std.specs.Prelude.{length, take, drop}
use Rattle.mysql_wire.specs.Framing.{max_payload_len}
use Rattle.mysql_wire.specs.FirstPacket.{Found, Short, TooLarge, OutOfSync, Whole}
use Rattle.mysql_wire.specs.FirstPacket.{with_chunk, next_number, packet_by}
use Rattle.mysql_wire.specs.declared.chunk.Chunk.{Chunk}
use Rattle.mysql_wire.specs.declared.chunk.Chunk.TheVariants as at
use Rattle.mysql_wire.specs.declared.extent.Extent.{Extent}
use Rattle.mysql_wire.specs.declared.extent.Extent.TheVariants as over

-- what goes on a packet by the chunk at the front, behind so many bytes of its payload
abbrev pub by_chunk : (chunks limit before number : ℕ) → List ℕ → Chunk → Found
by_chunk chunks limit before number bytes at.Short = Short
by_chunk chunks limit before number bytes at.TooLarge = TooLarge
by_chunk chunks limit before number bytes (at.OutOfSync other) = OutOfSync other
by_chunk chunks limit before number bytes (at.Whole n) =
    let payload = take n (drop 4 bytes) in
    let next = next_number number in
    let rest = drop n (drop 4 bytes) in
    if n == max_payload_len then with_chunk payload (packet_by chunks limit (before + n) next rest)
    else Whole payload next rest

-- a whole chunk fits into the room and stands in the bytes with its header
abbrev pub StandsIn : ℕ → List ℕ → Chunk → Type 0
StandsIn room bytes at.Short = Unit {0}
StandsIn room bytes at.TooLarge = Unit {0}
StandsIn room bytes (at.OutOfSync other) = Unit {0}
StandsIn room bytes (at.Whole n) = (n ≤ room) × (n + 4 ≤ length bytes) × (n ≤ max_payload_len)

-- the payloads of so many full chunks at the front
abbrev pub full_payloads : ℕ → List ℕ → List ℕ
full_payloads zero bytes = []
full_payloads (suc full) bytes =
    take max_payload_len (drop 4 bytes) ++ full_payloads full (drop (max_payload_len + 4) bytes)

-- where the header behind so many full chunks begins
abbrev pub header_behind : ℕ → ℕ
header_behind full = full * (max_payload_len + 4)

-- the payload of so many full chunks and a last one of so many bytes
abbrev pub payload_of : (full last : ℕ) → List ℕ → List ℕ
payload_of full last bytes =
    full_payloads full bytes ++ take last (drop 4 (drop (header_behind full) bytes))

-- what stands first by the extent of its chunks
abbrev pub by_extent : List ℕ → Extent → Found
by_extent bytes over.Short = Short
by_extent bytes over.TooLarge = TooLarge
by_extent bytes (over.OutOfSync other) = OutOfSync other
by_extent bytes (over.Whole full last next) =
    Whole (payload_of full last bytes) next (drop (header_behind full + 4 + last) bytes)

-- the chunks stand in the bytes with their headers
abbrev pub StandIn : List ℕ → Extent → Type 0
StandIn bytes over.Short = Unit {0}
StandIn bytes over.TooLarge = Unit {0}
StandIn bytes (over.OutOfSync other) = Unit {0}
StandIn bytes (over.Whole full last next) = header_behind full + 4 + last ≤ length bytes
