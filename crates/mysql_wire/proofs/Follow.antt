-- What is left behind the first packet is the end of what stood there.
use Rattle.std.proofs.Common.{ℕ, zero, suc, ◌+◌, Bool, true, false, List, [], ◌∷◌, ◌++◌, length, take, drop, refl, ap}
use Rattle.std.proofs.Common.{subst, ◌∙◌, append_assoc}
use Rattle.std.specs.Prelude.{nat_le, nat_lt, ◌==◌}
use Rattle.std.proofs.lemmas.List.{take-append-drop}
use Rattle.mysql_wire.specs.Framing.{max_payload_len}
use Rattle.mysql_wire.specs.FirstPacket.{Found, Short, TooLarge, OutOfSync, Whole, with_chunk, by_tests, announced}
use Rattle.mysql_wire.specs.FirstPacket.{next_number, packet_by, most_chunks}
use Rattle.mysql_wire.specs.FirstPacketLaws.{FollowsBy, RestsFollow}

chunk_follows : (header front rest chunk : List ℕ) (found : Found) → FollowsBy rest found →
    FollowsBy ((header ++ front) ++ rest) (with_chunk chunk found)
chunk_follows header front rest chunk Short h = tt
chunk_follows header front rest chunk TooLarge h = tt
chunk_follows header front rest chunk (OutOfSync number) h = tt
chunk_follows header front rest chunk (Whole payload number left) h = (
  (header ++ front) ++ h.0,
  append_assoc (header ++ front) h.0 left ∙
      ap (λ (l : List ℕ). (header ++ front) ++ l) h.1,
)

tests_follow : (long whole due full : Bool) (header front rest : List ℕ) (number next : ℕ)
    (more : Found) → FollowsBy rest more
    → FollowsBy ((header ++ front) ++ rest) (by_tests long whole due full number front next rest more)
tests_follow true whole due full header front rest number next more h = tt
tests_follow false false due full header front rest number next more h = tt
tests_follow false true false full header front rest number next more h = tt
tests_follow false true true false header front rest number next more h = (header ++ front, refl)
tests_follow false true true true header front rest number next more h = chunk_follows header front rest front more h

follows_by : (chunks limit before number : ℕ) (bytes : List ℕ) →
    FollowsBy bytes (packet_by chunks limit before number bytes)
follows_by zero limit before number bytes = tt
follows_by (suc chunks) limit before number [] = tt
follows_by (suc chunks) limit before number (a ∷ []) = tt
follows_by (suc chunks) limit before number (a ∷ b ∷ []) = tt
follows_by (suc chunks) limit before number (a ∷ b ∷ c ∷ []) = tt
follows_by (suc chunks) limit before number (a ∷ b ∷ c ∷ d ∷ bytes) =
    let n = announced a b c in
    let more = packet_by chunks limit (before + n) (next_number number) (drop n bytes) in
    let found = by_tests (nat_lt limit (before + n)) (nat_le n (length bytes)) (d == number)
    (n == max_payload_len) d (take n bytes) (next_number number) (drop n bytes) more in
    subst (λ (l : List ℕ). FollowsBy (a ∷ b ∷ c ∷ d ∷ l) found) (take-append-drop n bytes)
    (tests_follow (nat_lt limit (before + n)) (nat_le n (length bytes)) (d == number)
    (n == max_payload_len) (a ∷ b ∷ c ∷ d ∷ []) (take n bytes) (drop n bytes) d
    (next_number number) more
    (follows_by chunks limit (before + n) (next_number number) (drop n bytes)))

pub rests_follow : RestsFollow
rests_follow limit number bytes = follows_by (most_chunks limit) limit 0 number bytes
