-- What a reader of packets holds of a stream that comes in pieces, and what its calls do to it.
-- (MySQL: Client/Server Protocol, "Protocol Basics: MySQL Packets" and "Sequence ID".)
use Rattle.std.specs.Prelude.{◌≡◌, ℕ, ◌+◌, ◌-◌, ◌*◌, ◌/◌, Bool, true, false, List, [], ◌++◌, length, ◌<◌, ◌≤◌, Option}
use Rattle.std.specs.Prelude.{Some, None, Result, Ok, Err, drop, if◌then◌else◌, nat_lt}
use Rattle.std.specs.Borrow.{Bor}
use Rattle.mysql_wire.specs.Codec.{Codec, Decodes, RefusesBy}
use Rattle.mysql_wire.specs.Framing.{announced, max_payload_len, number_at}
use Rattle.mysql_wire.specs.declared.codec.PacketCodecError.{PacketCodecError}
use Rattle.mysql_wire.specs.declared.codec.Refusal.{Refusal}
use Rattle.mysql_wire.specs.declared.codec.header.ChunkHeader.{ChunkHeader}

-- the limit, the number of the next packet's first chunk, the bytes of that packet that came, the
-- payload that was handed out, until more is read, and the refusal that is kept to
pub record Incoming : Type 0 where
  pub limit : ℕ
  pub number : ℕ
  pub bytes : List ℕ
  pub payload : List ℕ
  pub refused : Option Refusal

-- how many chunk headers stand whole in so many bytes of one packet: each chunk but the last has
-- the most bytes that one carries
abbrev pub whole_headers : ℕ → ℕ
whole_headers came = (came + max_payload_len) / (max_payload_len + 4)

-- how many of so many bytes of one packet are held: all but the headers that stand whole
abbrev pub bytes_kept : ℕ → ℕ
bytes_kept came = came - 4 * whole_headers came

-- a reader to which nothing came
abbrev pub incoming_at : ℕ → ℕ → Incoming
incoming_at number limit = record { limit = limit; number = number; bytes = []; payload = []; refused = None }

-- the codec between packets before which all the bytes still lie that came
abbrev pub codec_by : Incoming → Codec
codec_by r = record { limit = r.limit; number = r.number; begun = None; refused = r.refused }

-- a piece behind the bytes that came is read as far as the next payload: what such a codec does with them
abbrev pub ReadsOn : Incoming → List ℕ → Bool → Incoming → List ℕ → Type 0
ReadsOn old piece whole new rest =
    Decodes (codec_by old) (old.bytes ++ piece) [] whole (codec_by new) (new.bytes ++
    rest) new.payload

-- such a codec refuses them
abbrev pub RefusesOn : Incoming → List ℕ → Incoming → PacketCodecError → Type 0
RefusesOn old piece new error = RefusesBy (codec_by old) (old.bytes ++ piece) [] (codec_by new) error

-- a payload is lent that stands whole, the piece is used up, or a refusal is answered
abbrev pub Reads : Incoming → List ℕ → Result (Option (Bor (List ℕ))) PacketCodecError → Incoming → List ℕ → Type 0
Reads old piece (Ok (Some payload)) new rest = ReadsOn old piece true new rest × (new.bytes ≡ []) ×
    (new.payload ≡ payload.now) × (length rest < length piece)
Reads old piece (Ok None) new rest = ReadsOn old piece false new rest × (rest ≡ []) ×
    (new ≡ record old { bytes = old.bytes ++ piece; payload = [] })
Reads old piece (Err error) new rest = RefusesOn old piece new error × (rest ≡ piece) ×
    (new ≡ record old { bytes = []; payload = []; refused = new.refused })

-- the chunk at the front of the bytes stands whole, carries so many bytes, fewer than a full one
-- and within the limit, and has this number
pub record IsFrontChunk (limit number : ℕ) (bytes : List ℕ) (count : ℕ) : Type 0 where
  pub count_is : count ≡ announced bytes
  pub whole : 4 + count ≤ length bytes
  pub short : count < max_payload_len
  pub within : count ≤ limit
  pub due : number_at bytes ≡ number

-- no such chunk stands there
abbrev pub LacksFrontChunk : ℕ → ℕ → List ℕ → Type 0
LacksFrontChunk limit number bytes = (count : ℕ) → ¬ IsFrontChunk limit number bytes count

-- the bytes of a full chunk: its header, and the most bytes that one carries
abbrev pub full_chunk : ℕ
full_chunk = max_payload_len + 4

-- the header at the front of the bytes, once its four bytes stand there
abbrev pub header_at : List ℕ → Option ChunkHeader
header_at bytes =
    if nat_lt (length bytes) 4 then None else Some (record { number = number_at bytes; len = announced bytes })

-- of bytes of one packet and a piece behind them, the header of the chunk in which these bytes end:
-- it stands behind the full chunks
abbrev pub header_due : List ℕ → List ℕ → Option ChunkHeader
header_due bytes piece = header_at (drop (length bytes / full_chunk * full_chunk) (bytes ++ piece))
