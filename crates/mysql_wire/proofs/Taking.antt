-- A packet takes its payload and a header at least from the bytes.
use Rattle.std.proofs.Common.{◌≡◌, ℕ, zero, suc, ◌+◌, ◌≤◌, Bool, true, false, List, [], ◌∷◌, length, take, drop, refl}
use Rattle.std.proofs.Common.{arith}
use Rattle.std.specs.Prelude.{nat_le, nat_lt, ◌==◌}
use Rattle.std.proofs.lemmas.Bool.Decides.{nat_tests}
use Rattle.std.proofs.lemmas.Grind.{common_steps}
use Rattle.mysql_wire.specs.Framing.{max_payload_len}
use Rattle.mysql_wire.specs.FirstPacket.{Found, Short, TooLarge, OutOfSync, Whole, with_chunk, by_tests, announced}
use Rattle.mysql_wire.specs.FirstPacket.{next_number, packet_by, most_chunks}
use Rattle.mysql_wire.specs.FirstPacketLaws.{TakesBytes, PacketsTakeBytes}

-- a whole chunk and its rest are the bytes
parts_length : (n : ℕ) (bytes : List ℕ) → nat_le n (length bytes) ≡ true →
    length (take n bytes) + length (drop n bytes) ≡ length bytes
parts_length n bytes h = grind (arith, nat_tests, common_steps)

-- a packet behind a chunk takes the chunk, with its header, too
with_chunk_takes : (chunk rest bytes : List ℕ) (found : Found) → length chunk + length rest + 4 ≤ length bytes →
    TakesBytes rest found → TakesBytes bytes (with_chunk chunk found)
with_chunk_takes chunk rest bytes Short k h = tt
with_chunk_takes chunk rest bytes TooLarge k h = tt
with_chunk_takes chunk rest bytes (OutOfSync number) k h = tt
with_chunk_takes chunk rest bytes (Whole payload next left) k h = grind (arith, common_steps)

tests_take : (long whole due full : Bool) (n a b c d number next : ℕ) (bytes : List ℕ) (more : Found) →
    nat_le n (length bytes) ≡ whole → TakesBytes (drop n bytes) more →
    TakesBytes (a ∷ b ∷ c ∷ d ∷ bytes) (by_tests long whole due full number (take n bytes) next (drop n bytes) more)
tests_take true whole due full n a b c d number next bytes more q h = tt
tests_take false false due full n a b c d number next bytes more q h = tt
tests_take false true false full n a b c d number next bytes more q h = tt
tests_take false true true false n a b c d number next bytes more q h = omega (arith, parts_length n bytes q)
tests_take false true true true n a b c d number next bytes more q h =
    with_chunk_takes (take n bytes) (drop n bytes) (a ∷ b ∷ c ∷ d ∷ bytes) more
    (omega (arith, parts_length n bytes q)) h

takes_by : (chunks limit before number : ℕ) (bytes : List ℕ) →
    TakesBytes bytes (packet_by chunks limit before number bytes)
takes_by zero limit before number bytes = tt
takes_by (suc chunks) limit before number [] = tt
takes_by (suc chunks) limit before number (a ∷ []) = tt
takes_by (suc chunks) limit before number (a ∷ b ∷ []) = tt
takes_by (suc chunks) limit before number (a ∷ b ∷ c ∷ []) = tt
takes_by (suc chunks) limit before number (a ∷ b ∷ c ∷ d ∷ bytes) =
    let n = announced a b c in
    tests_take (nat_lt limit (before + n)) (nat_le n (length bytes)) (d == number) (n == max_payload_len)
    n a b c d d (next_number number) bytes
    (packet_by chunks limit (before + n) (next_number number) (drop n bytes)) refl
    (takes_by chunks limit (before + n) (next_number number) (drop n bytes))

pub packets_take_bytes : PacketsTakeBytes
packets_take_bytes limit number bytes = takes_by (most_chunks limit) limit 0 number bytes
