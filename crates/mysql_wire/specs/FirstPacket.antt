-- The first packet of a stream, by the longest payload and the number that is due.
-- (MySQL: Client/Server Protocol, "Protocol Basics: MySQL Packets", "Sending More Than 16Mb" and
-- "Sequence ID".)
use Rattle.std.specs.Prelude.{ℕ, zero, suc, ◌+◌, ◌*◌, ◌/◌, ◌%◌, Bool, true, false, List, [], ◌∷◌}
use Rattle.std.specs.Prelude.{◌++◌, ◌==◌, if◌then◌else◌, length, take, drop, nat_le, nat_lt, not}
use Rattle.mysql_wire.specs.Framing.{max_payload_len}

-- What stands first: less than a whole packet; a header that takes it past the limit; a chunk with
-- this number, which isn't the one that is due; or a payload, the number that is due behind it, and
-- the bytes that follow.
pub data Found : Type 0 where
  Short : Found
  TooLarge : Found
  OutOfSync : ℕ → Found
  Whole : List ℕ → ℕ → List ℕ → Found

-- The same with a chunk's bytes before its payload.
abbrev pub with_chunk : List ℕ → Found → Found
with_chunk bytes Short = Short
with_chunk bytes TooLarge = TooLarge
with_chunk bytes (OutOfSync number) = OutOfSync number
with_chunk bytes (Whole payload number rest) = Whole (bytes ++ payload) number rest

-- By the tests on a chunk's header: past the limit, whole, with the number that is due, full; more
-- follows a full one.
abbrev pub by_tests : (long whole due full : Bool) → (number : ℕ) → (bytes : List ℕ) → (next : ℕ) →
    (rest : List ℕ) → Found → Found
by_tests long whole due full number bytes next rest more =
    if long then TooLarge
    else (if not whole then Short
    else (if not due then OutOfSync number
    else (if full then with_chunk bytes more
    else Whole bytes next rest)))

-- The length that a header's first three bytes announce.
abbrev pub announced : ℕ → ℕ → ℕ → ℕ
announced a b c = a + 256 * b + 65536 * c

-- The number that is due behind a chunk with this one.
abbrev pub next_number : ℕ → ℕ
next_number number = (number + 1) % 256

-- The packet that goes on behind so many bytes of its payload, by at most so many chunks.
abbrev pub packet_by : (chunks : ℕ) → (limit before number : ℕ) → List ℕ → Found
packet_by zero limit before number bytes = TooLarge
packet_by (suc chunks) limit before number [] = Short
packet_by (suc chunks) limit before number (a ∷ []) = Short
packet_by (suc chunks) limit before number (a ∷ b ∷ []) = Short
packet_by (suc chunks) limit before number (a ∷ b ∷ c ∷ []) = Short
packet_by (suc chunks) limit before number (a ∷ b ∷ c ∷ d ∷ bytes) =
    let n = announced a b c in
    by_tests (nat_lt limit (before + n)) (nat_le n (length bytes)) (d == number)
    (n == max_payload_len) d (take n bytes) (next_number number) (drop n bytes)
    (packet_by chunks limit (before + n) (next_number number) (drop n bytes))

-- The chunks of the longest payload.
abbrev pub most_chunks : ℕ → ℕ
most_chunks limit = limit / max_payload_len + 1

-- The bytes of the longest payload with its headers.
abbrev pub framed : ℕ → ℕ
framed limit = limit + 4 * most_chunks limit

-- The first packet, whose first chunk has the number that is due.
abbrev pub first_packet : (limit number : ℕ) → List ℕ → Found
first_packet limit number bytes = packet_by (most_chunks limit) limit 0 number bytes

-- Whether less than a whole packet stands first.
abbrev pub is_short : Found → Bool
is_short Short = true
is_short TooLarge = false
is_short (OutOfSync number) = false
is_short (Whole payload next rest) = false
