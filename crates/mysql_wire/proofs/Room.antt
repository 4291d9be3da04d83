-- Where less than a packet stands, one byte more has room in the longest packet.
use Rattle.std.proofs.Common.{◌≡◌, ℕ, zero, suc, ◌+◌, ◌*◌, ◌≤◌, ◌<◌, Bool, true, false, List, [], ◌∷◌, length, take}
use Rattle.std.proofs.Common.{drop, arith, refl, length-drop}
use Rattle.std.specs.Prelude.{nat_le, nat_lt, ◌==◌}
use Rattle.std.proofs.lemmas.Bool.Decides.{nat_tests}
use Rattle.mysql_wire.specs.Framing.{max_payload_len}
use Rattle.mysql_wire.specs.FirstPacket.{Found, Short, TooLarge, OutOfSync, Whole, packet_by, by_tests, with_chunk}
use Rattle.mysql_wire.specs.FirstPacket.{announced, next_number, most_chunks}
use Rattle.mysql_wire.specs.FirstPacketLaws.{RoomIsEnough}

with_chunk_short : (chunk : List ℕ) (found : Found) → with_chunk chunk found ≡ Short → found ≡ Short
with_chunk_short chunk Short e = refl
with_chunk_short chunk TooLarge e = cc
with_chunk_short chunk (OutOfSync number) e = cc
with_chunk_short chunk (Whole payload next rest) e = cc

within : (limit n : ℕ) → nat_lt limit n ≡ false → n ≤ limit
within limit n h = grind (arith, nat_tests)

not_whole : (n m : ℕ) → nat_le n m ≡ false → m < n
not_whole n m h = grind (arith, nat_tests)

tests_short : (long whole due full : Bool) (limit before n number next room : ℕ)
    (chunk bytes rest : List ℕ) (more : Found) →
    nat_lt limit (before + n) ≡ long → nat_le n (length bytes) ≡ whole → length bytes ≤ n + length rest →
    by_tests long whole due full number chunk next rest more ≡ Short →
    (more ≡ Short → before + n ≤ limit → before + n + length rest < limit + room) →
    before + length bytes < limit + room
tests_short true whole due full limit before n number next room chunk bytes rest more p q k e h = cc
tests_short false false due full limit before n number next room chunk bytes rest more p q k e h =
    omega (arith, within limit (before + n) p, not_whole n (length bytes) q)
tests_short false true false full limit before n number next room chunk bytes rest more p q k e h = cc
tests_short false true true false limit before n number next room chunk bytes rest more p q k e h = cc
tests_short false true true true limit before n number next room chunk bytes rest more p q k e h =
    omega (arith, h (with_chunk_short chunk more e) (within limit (before + n) p))

short_by : (many limit before number : ℕ) (bytes : List ℕ) → before ≤ limit →
    packet_by many limit before number bytes ≡ Short → before + length bytes < limit + 4 * many
short_by zero limit before number bytes h e = cc
short_by (suc many) limit before number [] h e = omega arith
short_by (suc many) limit before number (a ∷ []) h e = omega arith
short_by (suc many) limit before number (a ∷ b ∷ []) h e = omega arith
short_by (suc many) limit before number (a ∷ b ∷ c ∷ []) h e = omega arith
short_by (suc many) limit before number (a ∷ b ∷ c ∷ d ∷ bytes) h e =
    let n = announced a b c in
    let rest = drop n bytes in
    let short : before + length bytes < limit + 4 * many =
    tests_short (nat_lt limit (before + n)) (nat_le n (length bytes)) (d == number)
    (n == max_payload_len)
    limit before n d (next_number number) (4 * many) (take n bytes) bytes rest
    (packet_by many limit (before + n) (next_number number) rest) refl refl (omega (arith, length-drop n bytes)) e
    (λ s k. short_by many limit (before + n) (next_number number) rest k s) in
    omega arith

pub room_is_enough : RoomIsEnough
room_is_enough limit number bytes e =
    let short = short_by (most_chunks limit) limit 0 number bytes (omega arith) e in
    omega (arith, short)
