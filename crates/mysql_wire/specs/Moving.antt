-- Words of the codec's own body, which no public call's clause has: how its fields stand for a
-- codec, and the step from one chunk to the next, whose bytes are then moved as they come. (MySQL:
-- Client/Server Protocol, "Protocol Basics: MySQL Packets".)
use Rattle.std.specs.Prelude.{◌≡◌, ℕ, ◌+◌, ◌-◌, ◌%◌, ◌<◌, ◌≤◌, List, ◌∷◌, ◌++◌, length, Option, Some, None, Result, Ok}
use Rattle.std.specs.Prelude.{Err, option_map}
use Rattle.byteorder.specs.Endian.{little_bytes}
use Rattle.mysql_wire.specs.Framing.{max_payload_len, announced}
use Rattle.mysql_wire.specs.Codec.{Begun, Codec}
use Rattle.mysql_wire.specs.declared.codec.packet.BegunChunk.{BegunChunk}
use Rattle.mysql_wire.specs.declared.codec.Refusal.{Refusal}
use Rattle.mysql_wire.specs.declared.codec.Refusal.TheVariants as refusals

-- a chunk begun, as a codec's value has it
abbrev pub begun_of : Option BegunChunk → Option Begun
begun_of begun = option_map (λ chunk. record { number = chunk.number; awaited = chunk.awaited }) begun

-- a codec of these parts that has not refused
abbrev pub codec_of : ℕ → ℕ → Option BegunChunk → Codec
codec_of number limit begun = record { limit = limit; number = number; begun = begun_of begun; refused = None }

-- the chunk whose bytes come next: the one begun, or the one whose header stands at the front of src
abbrev pub NextChunk : Option BegunChunk → List ℕ → ℕ → ℕ → Result (Option BegunChunk) Refusal → List ℕ → Type 0
NextChunk (Some begun) src filled limit (Ok (Some chunk)) src' = (chunk ≡ begun) × (src' ≡ src)
NextChunk (Some begun) src filled limit (Ok None) src' = ⊥
NextChunk (Some begun) src filled limit (Err refusal) src' = ⊥
NextChunk None src filled limit (Ok (Some chunk)) src' =
    (src ≡ little_bytes 3 chunk.awaited ++ (chunk.number % 256 ∷ src')) ×
    (filled + chunk.awaited ≤ limit) × (chunk.awaited ≤ max_payload_len)
NextChunk None src filled limit (Ok None) src' = (length src < 4) × (src' ≡ src)
NextChunk None src filled limit (Err refusal) src' = (refusal ≡ refusals.TooLarge) ×
    (4 ≤ length src) × (limit < filled + announced src)

-- bytes that end within the chunk begun: so many fewer of its bytes are awaited
abbrev pub EndsWithin : Option BegunChunk → List ℕ → Option BegunChunk → Type 0
EndsWithin (Some chunk) piece (Some left) = (length piece < chunk.awaited) ×
    (left ≡ record { number = chunk.number; awaited = chunk.awaited - length piece })
EndsWithin (Some chunk) piece None = ⊥
EndsWithin None piece left = ⊥
