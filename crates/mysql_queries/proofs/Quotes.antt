-- A quoted token has one reading.
use Rattle.std.proofs.Common.{◌≡◌, ◌≢◌, ℕ, Bool, List, [], ◌∷◌, ◌++◌, refl, sym, ◌∙◌, inl, inr, flat_map, append_assoc}
use Rattle.std.specs.List.{AllByRecursion}
use Rattle.mysql_queries.specs.Tokens.{Inside, Byte, Escape, Doubled, IsInside, inside_bytes, Closes, backslash}

-- what closes a quoted token is no part of what stands inside
no_part : (escapes : Bool) (q : ℕ) → q ≢ backslash → (u : Inside) → IsInside escapes q u →
    (x c r : List ℕ) → Closes escapes q c r → inside_bytes q u ++ x ≡ c ++ r → ⊥
no_part escapes q nq (Byte b) i x c r (inl k) h = let h' : b ∷ x ≡ (q ∷ []) ++ r = rw k.0 at h in i.0 (cc)
no_part escapes q nq (Byte b) i x c r (inr (e, inl k)) h = let h' : b ∷ x ≡ [] ++ [] = rw (e, k) at h in cc
no_part escapes q nq (Byte b) i x c r (inr (e, inr k)) h = let h' : b ∷ x ≡ (backslash ∷ []) ++ [] =
    rw (e, k.0) at h in i.1 k.1 (cc)
no_part escapes q nq (Escape b) i x c r (inl k) h = let h' : backslash ∷ b ∷ x ≡ (q ∷ []) ++ r = rw k.0 at h in nq (cc)
no_part escapes q nq (Escape b) i x c r (inr (e, inl k)) h = let h' : backslash ∷ b ∷ x ≡ [] ++ [] =
    rw (e, k) at h in cc
no_part escapes q nq (Escape b) i x c r (inr (e, inr k)) h = let h' : backslash ∷ b ∷ x ≡
    (backslash ∷ []) ++ [] = rw (e, k.0) at h in cc
no_part escapes q nq Doubled i x c [] (inl k) h = let h' : q ∷ q ∷ x ≡ (q ∷ []) ++ [] = rw k.0 at h in cc
no_part escapes q nq Doubled i x c (d ∷ r) (inl k) h = let h' : q ∷ q ∷ x ≡ (q ∷ []) ++ (d ∷ r) =
    rw k.0 at h in k.1 (cc)
no_part escapes q nq Doubled i x c r (inr (e, inl k)) h = let h' : q ∷ q ∷ x ≡ [] ++ [] = rw (e, k) at h in cc
no_part escapes q nq Doubled i x c r (inr (e, inr k)) h = let h' : q ∷ q ∷ x ≡ (backslash ∷ []) ++
    [] = rw (e, k.0) at h in cc

-- it is closed in one way
one_closing : (escapes : Bool) (q : ℕ) → q ≢ backslash → (c r d s : List ℕ) → Closes escapes q c r →
    Closes escapes q d s → c ++ r ≡ d ++ s → (c ≡ d) × (r ≡ s)
one_closing escapes q nq c r d s (inl k) (inl l) h = let h' : (q ∷ []) ++ r ≡ (q ∷ []) ++ s =
    rw (k.0, l.0) at h in (cc, cc)
one_closing escapes q nq c r d s (inl k) (inr (e, inl l)) h = let h' : (q ∷ []) ++ r ≡ [] ++ [] =
    rw (k.0, l, e) at h in cc
one_closing escapes q nq c r d s (inl k) (inr (e, inr l)) h = let h' : (q ∷ []) ++ r ≡
    (backslash ∷ []) ++ [] = rw (k.0, l.0, e) at h in absurd (nq (cc))
one_closing escapes q nq c r d s (inr (f, inl k)) (inl l) h = let h' : [] ++ [] ≡ (q ∷ []) ++ s =
    rw (f, k, l.0) at h in cc
one_closing escapes q nq c r d s (inr (f, inl k)) (inr (e, inl l)) h = (k ∙ sym l, f ∙ sym e)
one_closing escapes q nq c r d s (inr (f, inl k)) (inr (e, inr l)) h = let h' : [] ++ [] ≡
    (backslash ∷ []) ++ [] = rw (f, k, l.0, e) at h in cc
one_closing escapes q nq c r d s (inr (f, inr k)) (inl l) h = let h' : (backslash ∷ []) ++ [] ≡
    (q ∷ []) ++ s = rw (f, k.0, l.0) at h in absurd (nq (cc))
one_closing escapes q nq c r d s (inr (f, inr k)) (inr (e, inl l)) h = let h' : (backslash ∷ []) ++
    [] ≡ [] ++ [] = rw (f, k.0, l, e) at h in cc
one_closing escapes q nq c r d s (inr (f, inr k)) (inr (e, inr l)) h = (k.0 ∙ sym l.0, f ∙ sym e)

-- two parts that begin one text are one
same_part : (escapes : Bool) (q : ℕ) → q ≢ backslash → (u v : Inside) → IsInside escapes q u →
    IsInside escapes q v → (x y : List ℕ) → inside_bytes q u ++ x ≡ inside_bytes q v ++ y →
    (u ≡ v) × (x ≡ y)
same_part escapes q nq (Byte b) (Byte d) i j x y h = (cc, cc)
same_part escapes q nq (Byte b) (Escape d) i j x y h = absurd (i.1 j (cc))
same_part escapes q nq (Byte b) Doubled i j x y h = absurd (i.0 (cc))
same_part escapes q nq (Escape b) (Byte d) i j x y h = absurd (j.1 i (cc))
same_part escapes q nq (Escape b) (Escape d) i j x y h = (cc, cc)
same_part escapes q nq (Escape b) Doubled i j x y h = absurd (nq (cc))
same_part escapes q nq Doubled (Byte d) i j x y h = absurd (j.0 (cc))
same_part escapes q nq Doubled (Escape d) i j x y h = absurd (nq (cc))
same_part escapes q nq Doubled Doubled i j x y h = (refl, cc)

-- what stands inside, what closes it and what follows are determined by the text
pub one_inside : (escapes : Bool) (q : ℕ) → q ≢ backslash → (us vs : List Inside) →
    AllByRecursion (IsInside escapes q) us → AllByRecursion (IsInside escapes q) vs →
    (c r d s : List ℕ) → Closes escapes q c r → Closes escapes q d s
    → flat_map (inside_bytes q) us ++ (c ++ r) ≡ flat_map (inside_bytes q) vs ++ (d ++ s) →
    (us ≡ vs) × (c ≡ d) × (r ≡ s)
one_inside escapes q nq [] [] i j c r d s k l h = let e : (c ≡ d) × (r ≡ s) =
    one_closing escapes q nq c r d s k l h in (refl, e.0, e.1)
one_inside escapes q nq [] (v ∷ vs) i j c r d s k l h =
    absurd (no_part escapes q nq v j.0 _ c r k (sym (h ∙ append_assoc (inside_bytes q v) _ _)))
one_inside escapes q nq (u ∷ us) [] i j c r d s k l h =
    absurd (no_part escapes q nq u i.0 _ d s l (sym (append_assoc (inside_bytes q u) _ _) ∙ h))
one_inside escapes q nq (u ∷ us) (v ∷ vs) i j c r d s k l h =
    let e : (u ≡ v) × (flat_map (inside_bytes q) us ++ (c ++ r) ≡ flat_map (inside_bytes q) vs ++
    (d ++ s)) = same_part escapes q nq u v i.0 j.0 _ _
    (sym (append_assoc (inside_bytes q u) _ _) ∙ h ∙ append_assoc (inside_bytes q v) _ _) in
    let o : (us ≡ vs) × (c ≡ d) × (r ≡ s) = one_inside escapes q nq us vs i.1 j.1 c r d s k l e.1 in (cc, o.1, o.2)
