-- Lists that were written are read again.
use Rattle.std.proofs.Common.{◌≡◌, ◌≤◌, ℕ, List, [], ◌∷◌, ◌++◌, length, map, take, Ok, refl, sym, ap, ◌∙◌, subst}
use Rattle.std.proofs.Common.{append_assoc, arith}
use Rattle.std.proofs.lemmas.List.{length-take, map-id}
use Rattle.std.specs.List.{AllByRecursion, flat_map}
use Rattle.mysql_field_lists.specs.Lists.{counted_at, elements_at}
use Rattle.mysql_fields.specs.Wire.{Reading}

-- elements that were written are read again
pub elements_at-back : {X Y : Type 0} (P : X → List ℕ → Type 0) (written : X →
    List ℕ) (read_at : List ℕ → Reading Y) (kept : X → Y)
    → ((x : X) (rest : List ℕ) → P x rest → read_at (written x ++ rest) ≡ Ok (kept x, rest))
    → (all : List X) (rest : List ℕ) → AllByRecursion (λ x. (after : List ℕ) → P x after) all
    → elements_at read_at (length all) (flat_map written all ++ rest) ≡ Ok (map kept all, rest)
unfolding elements_at
elements_at-back P written read_at kept back [] rest h = refl
elements_at-back P written read_at kept back (x ∷ xs) rest h =
    let later = flat_map written xs ++ rest in
    rw (
      append_assoc (written x) (flat_map written xs) rest,
      back x later (h.0 later),
      elements_at-back P written read_at kept back xs rest h.1,
    ) refl

pub counted_at-back : {X Y : Type 0} (P : X → List ℕ → Type 0) (written : X →
    List ℕ) (read_at : List ℕ → Reading Y) (kept : X → Y)
    → ((x : X) (rest : List ℕ) → P x rest → read_at (written x ++ rest) ≡ Ok (kept x, rest))
    → (count : ℕ → List ℕ) (count_at : List ℕ → Reading ℕ) (max : ℕ) (items : List X) (rest : List ℕ)
    → ((n : ℕ) (after : List ℕ) → n ≤ max → n ≡ length (take max items) → count_at (count n ++ after) ≡ Ok (n, after))
    → AllByRecursion (λ x. (after : List ℕ) → P x after) (take max items)
    → counted_at count_at read_at
    ((count (length (take max items)) ++ flat_map written (take max items)) ++ rest) ≡
    Ok (map kept (take max items), rest)
unfolding counted_at
counted_at-back P written read_at kept back count count_at max items rest counts h =
    let all = take max items in
    let small : length all ≤ max = omega (arith, length-take max items) in
    rw (
      append_assoc (count (length all)) (flat_map written all) rest,
      counts (length all) (flat_map written all ++ rest) small refl,
    )
    (elements_at-back P written read_at kept back all rest h)

-- a fact of one count is a fact of an equal one
pub counted : (P : ℕ → Type 0) {n m : ℕ} → n ≡ m → P m → P n
counted P e h = subst P (sym e) h

kept_whatever_follows : {X : Type 0} (P : X → Type 0) (all : List X) → AllByRecursion P all →
    AllByRecursion (λ x. (after : List ℕ) → P x) all
kept_whatever_follows P [] h = h
kept_whatever_follows P (x ∷ xs) h = (λ after. h.0, kept_whatever_follows P xs h.1)

-- a count and numbers that were written are read again
pub counted_numbers_at-back : {X : Type 0} (P : X → Type 0) (written : X → List ℕ) (read_at : List ℕ → Reading X)
    → ((x : X) (rest : List ℕ) → P x → read_at (written x ++ rest) ≡ Ok (x, rest))
    → (count : ℕ → List ℕ) (count_at : List ℕ → Reading ℕ) (max : ℕ) (items : List X) (rest : List ℕ)
    → ((n : ℕ) (after : List ℕ) → n ≤ max → n ≡ length (take max items) → count_at (count n ++ after) ≡ Ok (n, after))
    → AllByRecursion P (take max items)
    → counted_at count_at read_at
    ((count (length (take max items)) ++ flat_map written (take max items)) ++ rest) ≡
    Ok (take max items, rest)
counted_numbers_at-back {X} P written read_at back count count_at max items rest counts h =
    counted_at-back (λ x after. P x) written read_at (λ x. x) back count count_at max items rest
    counts (kept_whatever_follows P (take max items) h)
    ∙ ap (λ (all : List X). Ok (all, rest)) (map-id (take max items))
