-- Splits of command streams, from the laws of the wire layer.
use Rattle.std.proofs.Common.{◌≡◌, ℕ, ◌+◌, ◌-◌, ◌<◌, ◌≤◌, ◌⊎◌, List, [], ◌∷◌, ◌++◌, length, get_or, refl, sym, ap}
use Rattle.std.proofs.Common.{subst, ◌∙◌, arith, inl, inr}
use Rattle.std.proofs.lemmas.Bool.{cases_lt}
use Rattle.std.proofs.lemmas.List.{get_or-append-add}
use Rattle.std.proofs.Math.ListN.{get_or-append}
use Rattle.mysql_wire.specs.Bytes.{AreBytes}
use Rattle.mysql_wire.specs.Stream.{Numbering, Split, IsSplit, with_payloads, after_all, framings}
use Rattle.mysql_wire.specs.Stream.Numbering.{EachFromZero}
use Rattle.mysql_wire.specs.GoingOn.{ReaderLaws}

-- ---- lists of bytes

pub bytes_append : (xs ys : List ℕ) → AreBytes xs → AreBytes ys → AreBytes (xs ++ ys)
bytes_append xs ys p q i = at (cases_lt i (length xs))
  where
    at : ((i < length xs) ⊎ (length xs ≤ i)) → get_or (xs ++ ys) i 0 < 256
    at (inl lt) = subst (λ (n : ℕ). n < 256) (sym (get_or-append xs ys 0 i lt)) (p i)
    at (inr le) =
        let j : ℕ = i - length xs in
        let e : length xs + j ≡ i = omega arith in
        subst (λ (k : ℕ). get_or (xs ++ ys) k 0 < 256) e
        (subst (λ (n : ℕ). n < 256) (sym (get_or-append-add xs ys j 0)) (q j))

pub bytes_behind : (front xs bytes : List ℕ) → bytes ≡ front ++ xs → AreBytes bytes → AreBytes xs
bytes_behind front xs bytes e h i =
    subst (λ (n : ℕ). n < 256) (ap (λ (l : List ℕ). get_or l (length front + i) 0) e ∙
    get_or-append-add front xs i 0) (h (length front + i))

-- ---- splits

pub each_stays : (payloads : List (List ℕ)) → after_all payloads EachFromZero ≡ EachFromZero
each_stays [] = refl
each_stays (p ∷ ps) = each_stays ps

pub split_append : ReaderLaws → (limit : ℕ) (front back : List ℕ) (s t : Split) →
    IsSplit limit EachFromZero front s → IsSplit limit EachFromZero (s.rest_bytes ++ back) t →
    IsSplit limit EachFromZero (front ++ back) (with_payloads s.payloads t)
split_append wire limit front back s t p q =
    wire.goes_on limit EachFromZero front back s t p
    (subst (λ (n : Numbering). IsSplit limit n (s.rest_bytes ++ back) t)
    (sym (each_stays s.payloads)) q)

pub some_split : ReaderLaws → (limit : ℕ) (bytes : List ℕ) → AreBytes bytes → (split : Split) ×
    IsSplit limit EachFromZero bytes split
some_split wire limit bytes h = let s = wire.one_split limit EachFromZero bytes h in (s.0, s.1)

-- the bytes of the rest
pub rest_are_bytes : (limit : ℕ) (bytes : List ℕ) (s : Split) → IsSplit limit EachFromZero bytes s →
    AreBytes bytes → AreBytes s.rest_bytes
rest_are_bytes limit bytes s p h = bytes_behind (framings s.payloads EachFromZero) s.rest_bytes bytes p.joined h
