-- What was found stays with more bytes behind.
use Rattle.std.proofs.Common.{◌≡◌, ℕ, zero, suc, ◌+◌, Bool, true, false, List, [], ◌∷◌, ◌++◌, length, take, drop, refl}
use Rattle.std.proofs.Common.{sym, ap, subst, ◌∙◌, arith}
use Rattle.std.specs.Prelude.{nat_le, nat_lt, ◌==◌}
use Rattle.std.proofs.lemmas.List.{take-append-le, drop-append-le}
use Rattle.std.proofs.lemmas.Bool.Decides.{nat_tests}
use Rattle.std.proofs.lemmas.Grind.{common_steps}
use Rattle.mysql_wire.specs.Framing.{max_payload_len}
use Rattle.mysql_wire.specs.FirstPacket.{Found, Short, TooLarge, OutOfSync, Whole, with_chunk, by_tests, announced}
use Rattle.mysql_wire.specs.FirstPacket.{next_number, packet_by, most_chunks}
use Rattle.mysql_wire.specs.FirstPacketLaws.{StaysBy, PacketsStay}

with_chunk_stays : (bytes piece : List ℕ) (old new : Found) → StaysBy piece old new →
    StaysBy piece (with_chunk bytes old) (with_chunk bytes new)
with_chunk_stays bytes piece Short new e = tt
with_chunk_stays bytes piece TooLarge new e = ap (with_chunk bytes) e
with_chunk_stays bytes piece (OutOfSync number) new e = ap (with_chunk bytes) e
with_chunk_stays bytes piece (Whole payload next rest) new e = ap (with_chunk bytes) e

-- a chunk that stands whole still does, with the same bytes and the piece behind its rest
still_whole : (n : ℕ) (bytes piece : List ℕ) → nat_le n (length bytes) ≡ true →
    nat_le n (length (bytes ++ piece)) ≡ true
still_whole n bytes piece h = grind (arith, nat_tests, common_steps)

same_chunk : (n : ℕ) (bytes piece : List ℕ) → nat_le n (length bytes) ≡ true →
    take n (bytes ++ piece) ≡ take n bytes
same_chunk n bytes piece h = grind (arith, nat_tests, common_steps, take-append-le)

same_rest : (n : ℕ) (bytes piece : List ℕ) → nat_le n (length bytes) ≡ true →
    drop n (bytes ++ piece) ≡ drop n bytes ++ piece
same_rest n bytes piece h = grind (arith, nat_tests, common_steps, drop-append-le)

-- what a header says with the piece behind, by the test whether its chunk stands whole
abbrev with_piece : (long whole due full : Bool) (n number next : ℕ) (bytes piece : List ℕ) → Found → Found
with_piece long whole due full n number next bytes piece new =
    by_tests long whole due full number (take n (bytes ++ piece)) next (drop n (bytes ++ piece)) new

-- a header, where what follows a full chunk stays
tests_stay : (long whole due full : Bool) (n number next : ℕ) (bytes piece : List ℕ) (more new : Found) →
    nat_le n (length bytes) ≡ whole → (nat_le n (length bytes) ≡ true → StaysBy piece more new) →
    StaysBy piece (by_tests long whole due full number (take n bytes) next (drop n bytes) more)
    (with_piece long (nat_le n (length (bytes ++ piece))) due full n number next bytes piece new)
tests_stay true whole due full n number next bytes piece more new q h = refl
tests_stay false false due full n number next bytes piece more new q h = tt
tests_stay false true false full n number next bytes piece more new q h =
    ap (λ (b : Bool). with_piece false b false full n number next bytes piece new) (still_whole n bytes piece q)
tests_stay false true true false n number next bytes piece more new q h =
    ap (λ (b : Bool). with_piece false b true false n number next bytes piece new) (still_whole n bytes piece q)
    ∙ (λ i. Whole (same_chunk n bytes piece q i) next (same_rest n bytes piece q i))
tests_stay false true true true n number next bytes piece more new q h =
    let e = ap (λ (b : Bool). with_piece false b true true n number next bytes piece new) (still_whole n bytes piece q)
    ∙ ap (λ (l : List ℕ). with_chunk l new) (same_chunk n bytes piece q) in
    subst (λ (found : Found). StaysBy piece (with_chunk (take n bytes) more) found) (sym e)
    (with_chunk_stays (take n bytes) piece more new (h q))

stays_by : (chunks limit before number : ℕ) (bytes piece : List ℕ) →
    StaysBy piece (packet_by chunks limit before number bytes) (packet_by chunks limit before number (bytes ++ piece))
stays_by zero limit before number bytes piece = refl
stays_by (suc chunks) limit before number [] piece = tt
stays_by (suc chunks) limit before number (a ∷ []) piece = tt
stays_by (suc chunks) limit before number (a ∷ b ∷ []) piece = tt
stays_by (suc chunks) limit before number (a ∷ b ∷ c ∷ []) piece = tt
stays_by (suc chunks) limit before number (a ∷ b ∷ c ∷ d ∷ bytes) piece =
    let n = announced a b c in
    let on = λ (rest : List ℕ). packet_by chunks limit (before + n) (next_number number) rest in
    tests_stay (nat_lt limit (before + n)) (nat_le n (length bytes)) (d == number) (n == max_payload_len)
    n d (next_number number) bytes piece (on (drop n bytes)) (on (drop n (bytes ++ piece))) refl
    (λ q. subst (λ (l : List ℕ). StaysBy piece (on (drop n bytes)) (on l)) (sym (same_rest n bytes piece q))
    (stays_by chunks limit (before + n) (next_number number) (drop n bytes) piece))

pub packets_stay : PacketsStay
packets_stay limit number bytes piece = stays_by (most_chunks limit) limit 0 number bytes piece
