-- The first answer over the elements of a list.
use Rattle.std.proofs.Common.{◌≡◌, ℕ, zero, suc, ◌+◌, ◌<◌, List, [], ◌∷◌, length, map, get_or, Option, Some, None, refl}
use Rattle.std.proofs.Common.{◌∙◌, ap, arith}
use Rattle.std.specs.List.{enumerate_from}
use Rattle.std.specs.Option.{option_or}
use Rattle.mysql_bulk_builder.specs.Causes.{first_some, first_at}

-- the first answer over the elements, whose places count from n
abbrev pub first_from : {X Y : Type 0} → (ℕ → X → Option Y) → ℕ → List X → Option Y
first_from answer n xs = first_some (map (λ p. answer p.0 p.1) (enumerate_from n xs))

-- no element answers
none_from : {X Y : Type 0} (answer : ℕ → X → Option Y) (xs : List X) (n : ℕ) (d : X) →
    ((k : ℕ) → k < length xs → answer (n + k) (get_or xs k d) ≡ None) → first_from answer n xs ≡
    None
none_from answer [] n d none = refl
none_from answer (x ∷ xs) n d none =
    let here : n ≡ n + 0 = omega arith in
    let head : answer n x ≡ None = ap (λ (i : ℕ). answer i x) here ∙ none 0 (omega arith) in
    let rest = none_from answer xs (n + 1) d (λ k lt. let e : (n + 1) + k ≡ n + suc k =
    omega arith in ap (λ (i : ℕ). answer i (get_or xs k d)) e ∙
    none (suc k) (omega (arith, lt))) in
    ap (λ o. option_or o (first_from answer (n + 1) xs)) head ∙ rest

-- the element at k answers, and none before it
some_from : {X Y : Type 0} (answer : ℕ → X → Option Y) (xs : List X) (n : ℕ) (d : X) (k : ℕ)
    (y : Y) → k < length xs → answer (n + k) (get_or xs k d) ≡ Some y →
    ((j : ℕ) → j < k → answer (n + j) (get_or xs j d) ≡ None) → first_from answer n xs ≡ Some y
some_from answer [] n d k y lt at none = absurd (omega arith)
some_from answer (x ∷ xs) n d zero y lt at none =
    let here : n ≡ n + 0 = omega arith in
    ap (λ o. option_or o (first_from answer (n + 1) xs)) (ap (λ (i : ℕ). answer i x) here ∙ at)
some_from answer (x ∷ xs) n d (suc k) y lt at none =
    let here : n ≡ n + 0 = omega arith in
    let next : (n + 1) + k ≡ n + suc k = omega arith in
    let head : answer n x ≡ None = ap (λ (i : ℕ). answer i x) here ∙ none 0 (omega arith) in
    let rest = some_from answer xs (n + 1) d k y (omega (arith, lt))
    (ap (λ (i : ℕ). answer i (get_or xs k d)) next ∙ at)
    (λ j less. let e : (n + 1) + j ≡ n + suc j = omega arith in
    ap (λ (i : ℕ). answer i (get_or xs j d)) e ∙ none (suc j) (omega (arith, less))) in
    ap (λ o. option_or o (first_from answer (n + 1) xs)) head ∙ rest

-- the same of places that count from 0: no element answers
pub first_at_none : {X Y : Type 0} (answer : ℕ → X → Option Y) (xs : List X) (d : X) →
    ((k : ℕ) → k < length xs → answer k (get_or xs k d) ≡ None) → first_at answer xs ≡ None
first_at_none answer xs d none =
    none_from answer xs 0 d (λ k lt. let e : 0 + k ≡ k = omega arith in
    ap (λ (i : ℕ). answer i (get_or xs k d)) e ∙ none k lt)

-- and the element at k answers, and none before it
pub first_at_some : {X Y : Type 0} (answer : ℕ → X → Option Y) (xs : List X) (d : X) (k : ℕ)
    (y : Y) → k < length xs → answer k (get_or xs k d) ≡ Some y →
    ((j : ℕ) → j < k → answer j (get_or xs j d) ≡ None) → first_at answer xs ≡ Some y
first_at_some answer xs d k y lt at none =
    let e : 0 + k ≡ k = omega arith in
    some_from answer xs 0 d k y lt (ap (λ (i : ℕ). answer i (get_or xs k d)) e ∙
    at) (λ j less. let e : 0 + j ≡ j = omega arith in
    ap (λ (i : ℕ). answer i (get_or xs j d)) e ∙ none j less)
