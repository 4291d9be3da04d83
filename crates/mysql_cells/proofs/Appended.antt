-- What was there first stays first.
use Rattle.std.proofs.Common.{◌≡◌, ◌≤◌, ℕ, List, ◌++◌, length, take, refl, sym, ap, ◌∙◌, arith, length-append}
use Rattle.std.proofs.lemmas.List.{take-take, take_at, take_all}

-- what is kept of a longer list is kept of its front
pub kept_front : (xs ys zs : List ℕ) → take (length (xs ++ ys)) zs ≡ xs ++ ys → take (length xs) zs ≡ xs
kept_front xs ys zs h =
    let short : length xs ≤ length (xs ++ ys) = omega (arith, length-append xs ys) in
    sym (take-take (length xs) (length (xs ++ ys)) zs short) ∙ ap (take (length xs)) h ∙ take_at xs ys (length xs) refl

-- a list is kept of itself
pub kept_whole : (xs : List ℕ) → take (length xs) xs ≡ xs
kept_whole xs = take_all (length xs) xs (omega arith)

-- a front is kept where more is put behind it
pub kept_behind : (xs ys : List ℕ) → take (length xs) (xs ++ ys) ≡ xs
kept_behind xs ys = take_at xs ys (length xs) refl

-- What a list that grows keeps, for searches.
pub ruleset what_is_kept = (kept_front, kept_whole, kept_behind)
