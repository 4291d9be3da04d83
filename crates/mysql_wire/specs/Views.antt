-- What the code tells of the first packet, apart from where its payload lies.
use Rattle.std.specs.Prelude.{◌≡◌, ℕ, ◌≤◌, List, length, drop, take}
use Rattle.std.specs.Cow.{cow_slice_items}
use Rattle.std.specs.declared.borrow.CowSlice.TheVariants as slice
use Rattle.mysql_wire.specs.Framing.{max_payload_len}
use Rattle.mysql_wire.specs.FirstPacket.{Found, Short, TooLarge, OutOfSync, Whole}
use Rattle.mysql_wire.specs.declared.packet.FirstPacket.{FirstPacket}
use Rattle.mysql_wire.specs.declared.packet.FirstPacket.TheVariants as held

-- what was found in the bytes
abbrev pub found_in : List ℕ → FirstPacket → Found
found_in bytes held.Short = Short
found_in bytes held.TooLarge = TooLarge
found_in bytes (held.OutOfSync number) = OutOfSync number
found_in bytes (held.Whole payload next used) =
    Whole (cow_slice_items payload) next (drop used bytes)

-- a packet is no longer than the bytes
abbrev pub StandsWithin : List ℕ → FirstPacket → Type 0
StandsWithin bytes held.Short = Unit {0}
StandsWithin bytes held.TooLarge = Unit {0}
StandsWithin bytes (held.OutOfSync number) = Unit {0}
StandsWithin bytes (held.Whole payload next used) = used ≤ length bytes

-- a payload that is lent stands behind the header of its packet, which has one chunk
abbrev pub IsLentFrom : List ℕ → FirstPacket → Type 0
IsLentFrom bytes (held.Whole (slice.Borrowed payload) next used) =
    payload.now ≡ drop 4 (take used bytes)
IsLentFrom bytes found = Unit {0}

-- a packet whose payload fills a chunk at least, so that it has several
abbrev pub HasManyChunks : Found → Type 0
HasManyChunks Short = ⊥
HasManyChunks TooLarge = ⊥
HasManyChunks (OutOfSync number) = ⊥
HasManyChunks (Whole payload next rest) = max_payload_len ≤ length payload
