-- What the definitions of the wire exclude: streams, fields and packets. MySQL: Client/Server
-- Protocol, "Protocol Basics: Basic Data Types", "MySQL Packets", "Sending More Than 16Mb" and
-- "Sequence ID".
use Rattle.std.specs.Prelude.{◌≡◌, ℕ, Bool, true, false, List, [], ◌∷◌, ◌++◌, length, Some, Err}
use Rattle.std.specs.declared.alloc.AllocError.{AllocError}
use Rattle.mysql_buf.specs.Streams.{RefusesToBegin}
use Rattle.mysql_fields.specs.Forms.{bytes_at}
use Rattle.mysql_fields.specs.Wire.{Answers, Appends, Reading}
use Rattle.mysql_fields.specs.declared.error.WireError.{WireError}
use Rattle.mysql_fields.specs.declared.error.WireError.TheVariants.{Memory}
use Rattle.mysql_wire.specs.Codec.{Codec, RefusesBy}
use Rattle.mysql_wire.specs.Framing.{chunk_count, max_payload_len, number_after}
use Rattle.mysql_wire.specs.Incoming.{header_due}
use Rattle.mysql_wire.specs.declared.codec.PacketCodecError.{PacketCodecError}

-- STREAMS

-- A length that begins with fb is refused as invalid data once fb was taken. Excluded: a refusal by
-- the stream's end, at which callers wait for more bytes.
-- MySQL: Client/Server Protocol, "Protocol::LengthEncodedInteger".
abbrev pub FbIsInvalidData : Type 0
FbIsInvalidData = (is_invalid_data : Bool) →
    RefusesToBegin (Some (0xfb ∷ [])) (Some []) (is_invalid_data ≡ true) → is_invalid_data ≡ true

-- FIELDS

-- A pair of which the second is refused for want of memory leaves nothing. Excluded: its first.
-- MySQL: Client/Server Protocol, "Protocol Basics: Basic Data Types".
abbrev pub RefusedPairsLeaveNothing : Type 0
RefusedPairsLeaveNothing = (refused : AllocError) (first second old new : List ℕ) →
    Appends (Err refused) old new (first ++ second) → new ≡ old

-- What asks for no memory never answers that there was none: so it is of so many bytes. Excluded: a
-- reader that gives up. MySQL: Client/Server Protocol, "Protocol Basics: String Types".
abbrev pub BytesAskForNoMemory : Type 0
BytesAskForNoMemory = (count : ℕ) (old new : List ℕ) →
    Answers {X = List ℕ} false (λ bytes. bytes) old new (Err Memory) (bytes_at count old) → ⊥

-- A refusal leaves all bytes, whether or not memory is asked for. Excluded: a reader that leaves
-- others, as that of a statement's packet did. MySQL: Client/Server Protocol, "COM_STMT_PREPARE Response".
abbrev pub RefusalsLeaveAllBytes : Type 0
RefusalsLeaveAllBytes = (asks : Bool) (old new : List ℕ) (why : WireError) (reading : Reading (List ℕ)) →
    Answers {X = List ℕ} asks (λ bytes. bytes) old new (Err why) reading → new ≡ old

-- PACKETS

-- A payload of 16777215 bytes takes two chunks, and two numbers. Excluded: a packet that is whole
-- before its empty last chunk, and a reply that goes on at the number behind the first.
-- MySQL: Client/Server Protocol, "Sending More Than 16Mb".
abbrev pub EmptyChunksEndFullPackets : Type 0
EmptyChunksEndFullPackets = (payload : List ℕ) → length payload ≡ max_payload_len →
    (chunk_count payload ≡ 2) × (number_after payload 0 ≡ 2)

-- A header of which one byte came, and three are in a piece behind it, is found. Excluded: a reader
-- that looks for it in the piece alone. MySQL: Client/Server Protocol, "MySQL Packets".
abbrev pub HeadersBeginInWhatCame : Type 0
HeadersBeginInWhatCame = header_due (1 ∷ []) (0 ∷ 0 ∷ 7 ∷ []) ≡ Some (record { number = 7; len = 1 })

-- A refusal leaves the number of the next chunk. Excluded: a codec that counts the chunk that it
-- refuses. MySQL: Client/Server Protocol, "Sequence ID".
abbrev pub RefusalsKeepTheNumber : Type 0
RefusalsKeepTheNumber = (old new : Codec) (src dst : List ℕ) (error : PacketCodecError) →
    RefusesBy old src dst new error → new.number ≡ old.number
