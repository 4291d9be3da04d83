-- Rests by the bytes that are left, and the bytes that a framing takes.
use Rattle.std.proofs.Common.{◌≡◌, ℕ, zero, suc, ◌+◌, ◌<◌, List, [], ◌∷◌, ◌++◌, length, refl, ap, ◌∙◌, arith, take}
use Rattle.std.proofs.Common.{drop}
use Rattle.std.proofs.lemmas.List.{length-append}
use Rattle.mysql_wire.specs.Framing.{chunks}
use Rattle.mysql_wire.specs.Stream.{IsRest}
use Rattle.mysql_wire.specs.Stream.Rest.{Empty, Open}
use Rattle.mysql_wire.specs.GoingOn.{FramingTakesBytes, RestsAreTold}
use Rattle.mysql_wire.proofs.GoingOn.{framing_length, empty_rest}
use Rattle.mysql_wire.proofs.Chunks.{chunks_first, length-chunk}

pub framing_takes_bytes : FramingTakesBytes
framing_takes_bytes payload more id = omega (arith, framing_length payload more id)

no_bytes : (limit id : ℕ) (bytes : List ℕ) → IsRest limit id bytes Empty → bytes ≡ []
unfolding chunks
no_bytes limit id bytes r =
    let none : r.count ≡ 0 = omega (arith, r.full, r.ends.0) in
    let tail : r.tail ≡ [] = nil r.tail r.ends.1 in
    r.joined ∙ ap (λ (l : List ℕ). chunks r.body id r.count ++ l) tail ∙ ap (λ (n : ℕ). chunks r.body id n ++ []) none
  where
    nil : (xs : List ℕ) → length xs ≡ 0 → xs ≡ []
    nil [] e = refl
    nil (x ∷ xs) e = absurd (omega (arith, e))

some_bytes : (limit id : ℕ) (bytes : List ℕ) → IsRest limit id bytes Open → 0 < length bytes
some_bytes limit id bytes r = by_count r.count refl
  where
    by_count : (n : ℕ) → r.count ≡ n → 0 < length bytes
    by_count zero e = omega (
      arith,
      ap length r.joined,
      length-append (chunks r.body id r.count) r.tail,
      r.ends.0,
      r.full,
      e,
    )
    by_count (suc n) e =
        let first : bytes ≡ _ = r.joined ∙ ap (λ (k : ℕ). chunks r.body id k ++ r.tail) e ∙
        chunks_first r.body id n r.tail in
        omega (
          arith,
          ap length first,
          length-chunk id (take 16777215 r.body) (chunks (drop 16777215 r.body) (id + 1) n ++
              r.tail),
        )

pub rests_are_told : RestsAreTold
rests_are_told limit id = (empty_rest limit id, λ bytes. (no_bytes limit id bytes, some_bytes limit id bytes))
