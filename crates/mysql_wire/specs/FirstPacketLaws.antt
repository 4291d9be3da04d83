-- The laws of the first packet of a stream.
-- (MySQL: Client/Server Protocol, "Protocol Basics: MySQL Packets", "Sending More Than 16Mb" and
-- "Sequence ID".)
use Rattle.std.specs.Prelude.{◌≡◌, ℕ, ◌+◌, ◌<◌, ◌≤◌, List, ◌++◌, length}
use Rattle.mysql_wire.specs.Framing.{framing, number_after}
use Rattle.mysql_wire.specs.FirstPacket.{Found, Short, TooLarge, OutOfSync, Whole}
use Rattle.mysql_wire.specs.FirstPacket.{first_packet, framed}

-- what stays with a piece behind the bytes: all but that less than a packet stands there
abbrev pub StaysBy : List ℕ → Found → Found → Type 0
StaysBy piece Short new = Unit {0}
StaysBy piece TooLarge new = new ≡ TooLarge
StaysBy piece (OutOfSync number) new = new ≡ OutOfSync number
StaysBy piece (Whole payload next rest) new = new ≡ Whole payload next (rest ++ piece)

-- what was found stays with more bytes behind
abbrev pub PacketsStay : Type 0
PacketsStay = (limit number : ℕ) (bytes piece : List ℕ) →
    StaysBy piece (first_packet limit number bytes) (first_packet limit number (bytes ++ piece))

-- a packet takes its payload and a header at least
abbrev pub TakesBytes : List ℕ → Found → Type 0
TakesBytes bytes Short = Unit {0}
TakesBytes bytes TooLarge = Unit {0}
TakesBytes bytes (OutOfSync number) = Unit {0}
TakesBytes bytes (Whole payload next rest) = length rest + length payload + 4 ≤ length bytes

-- what follows a packet is shorter than the bytes by its payload and a header at least
abbrev pub PacketsTakeBytes : Type 0
PacketsTakeBytes = (limit number : ℕ) (bytes : List ℕ) →
    TakesBytes bytes (first_packet limit number bytes)

-- the framing of a payload within the limit, with the number that is due, is found as this payload
abbrev pub FramingsAreFound : Type 0
FramingsAreFound = (limit number : ℕ) (payload rest : List ℕ) → number < 256 →
    length payload ≤ limit →
    first_packet limit number (framing payload number ++ rest) ≡
    Whole payload (number_after payload number) rest

-- where less than a packet stands, one byte more has room in the longest packet
abbrev pub RoomIsEnough : Type 0
RoomIsEnough = (limit number : ℕ) (bytes : List ℕ) →
    first_packet limit number bytes ≡ Short → length bytes < framed limit

-- what follows a packet is the end of the bytes
abbrev pub FollowsBy : List ℕ → Found → Type 0
FollowsBy bytes Short = Unit {0}
FollowsBy bytes TooLarge = Unit {0}
FollowsBy bytes (OutOfSync number) = Unit {0}
FollowsBy bytes (Whole payload next rest) = (front : List ℕ) × (front ++ rest ≡ bytes)

-- the bytes end with what follows their first packet
abbrev pub RestsFollow : Type 0
RestsFollow = (limit number : ℕ) (bytes : List ℕ) →
    FollowsBy bytes (first_packet limit number bytes)
