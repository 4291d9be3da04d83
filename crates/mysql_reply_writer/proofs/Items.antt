-- The items of a slice from one of them on.
use Rattle.std.proofs.Common.{◌≡◌, ℕ, suc, ◌+◌, ◌<◌, List, ◌∷◌, drop, get_or, length, sym, ap, ◌∙◌, add-one, drop-cons}

pub next_item : {X : Type 0} (xs : List X) (i : ℕ) (x : X) → i < length xs → x ≡ get_or xs i x →
    drop i xs ≡ x ∷ drop (i + 1) xs
next_item xs i x inside is = drop-cons xs i x inside ∙
    ap (λ first. first ∷ drop (suc i) xs) (sym is) ∙ ap (λ n. x ∷ drop n xs) (sym (add-one i))
