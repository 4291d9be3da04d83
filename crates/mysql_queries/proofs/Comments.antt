-- A comment between `/*` and `*/` has one reading.
use Rattle.std.proofs.Common.{◌≡◌, ℕ, List, [], ◌∷◌, ◌++◌, refl, sym, ◌∙◌, inl, inr, append-nil, arith, subst}
use Rattle.mysql_queries.specs.Tokens.{HasNoEnd, EndsBlock, star, slash}

pub no_end_tail : (b : ℕ) (bs : List ℕ) → HasNoEnd (b ∷ bs) → HasNoEnd bs
no_end_tail b [] h = tt
no_end_tail b (c ∷ bs) h = h.1

-- where nothing ends it, no `*/` stands
has_end : (i r : List ℕ) → HasNoEnd (i ++ star ∷ slash ∷ r) → ⊥
has_end [] r h = h.0 refl refl
has_end (b ∷ i) r h = has_end i r (no_end_tail b _ h)

both_closed : (i j r s : List ℕ) → HasNoEnd (i ++ star ∷ []) → HasNoEnd (j ++ star ∷ []) → i ++
    star ∷ slash ∷ r ≡ j ++ star ∷ slash ∷ s → (i ≡ j) × (r ≡ s)
both_closed [] [] r s k l h = (refl, cc)
both_closed [] (b ∷ []) r s k l h = let e : slash ≡ star = cc in absurd (omega arith)
both_closed [] (b ∷ c ∷ j) r s k l h = absurd (l.0 (cc) (cc))
both_closed (b ∷ []) [] r s k l h = let e : star ≡ slash = cc in absurd (omega arith)
both_closed (b ∷ c ∷ i) [] r s k l h = absurd (k.0 (cc) (cc))
both_closed (b ∷ i) (c ∷ j) r s k l h =
    let e : i ++ star ∷ slash ∷ r ≡ j ++ star ∷ slash ∷ s = cc in
    let o : (i ≡ j) × (r ≡ s) = both_closed i j r s (no_end_tail b _ k) (no_end_tail c _ l) e in (cc, o.1)

-- what stands inside, what closes it and what follows are determined by the text
pub one_comment : (i c r j d s : List ℕ) → EndsBlock i c r → EndsBlock j d s → i ++ (c ++ r) ≡ j ++
    (d ++ s) → (i ≡ j) × (c ≡ d) × (r ≡ s)
one_comment i c r j d s (inl k) (inl l) h =
    let h' : i ++ ((star ∷ slash ∷ []) ++ r) ≡ j ++ ((star ∷ slash ∷ []) ++ s) = rw (k.0, l.0) at h in
    let o : (i ≡ j) × (r ≡ s) = both_closed i j r s k.1 l.1 h' in (o.0, k.0 ∙ sym l.0, o.1)
one_comment i c r j d s (inl k) (inr l) h =
    let h' : i ++ star ∷ slash ∷ r ≡ j ++ ([] ++ []) = rw (k.0, l.0, l.2) at h in
    absurd (has_end i r (subst HasNoEnd (sym (h' ∙ append-nil j)) l.1))
one_comment i c r j d s (inr k) (inl l) h =
    let h' : i ++ ([] ++ []) ≡ j ++ star ∷ slash ∷ s = rw (k.0, k.2, l.0) at h in
    absurd (has_end j s (subst HasNoEnd (sym (append-nil i) ∙ h') k.1))
one_comment i c r j d s (inr k) (inr l) h =
    let h' : i ++ ([] ++ []) ≡ j ++ ([] ++ []) = rw (k.0, k.2, l.0, l.2) at h in
    (sym (append-nil i) ∙ h' ∙ append-nil j, k.0 ∙ sym l.0, k.2 ∙ sym l.2)
