-- Each text has a list of tokens.
use Rattle.std.proofs.Common.{◌≡◌, ◌≢◌, ℕ, Bool, zero, suc, ◌≤◌, true, false, ◌⊎◌, List, [], ◌∷◌, ◌++◌, length, refl}
use Rattle.std.proofs.Common.{sym, ap, ◌∙◌, inl, inr, append_assoc, arith, subst, flat_map, length-append}
use Rattle.std.specs.List.{AllByRecursion}
use Rattle.std.proofs.lemmas.Bool.Decides.{eqb_tells}
use Rattle.mysql_queries.specs.Tokens.{Kind, Quoted, LineComment, BlockComment, Opening, Closing, Name, Mark, Plain}
use Rattle.mysql_queries.specs.Tokens.{kind_of, comment_start, comment_end, exclamation, Inside, Byte, Escape, Doubled}
use Rattle.mysql_queries.specs.Tokens.{IsInside, HasShape, IsToken, HasTokens, is_name_byte, line_feed, star, slash}
use Rattle.mysql_queries.specs.Tokens.{colon, question, backslash, inside_bytes, has_escapes, Closes, EndsBlock}
use Rattle.mysql_bytes.specs.declared.mode.Mode.{Mode}
use Rattle.mysql_queries.proofs.FirstBytes.{bool_tells, Tells, kind_tells, block_second, opening_second, closing_second}
use Rattle.mysql_queries.proofs.OneToken.{not_empty}

-- what stands inside a quoted token, what closes it and the rest
pub record InsideOf (escapes : Bool) (q : ℕ) (text : List ℕ) : Type 0 where
  pub parts : List Inside
  pub closing : List ℕ
  pub rest : List ℕ
  pub inside : AllByRecursion (IsInside escapes q) parts
  pub joined : text ≡ flat_map (inside_bytes q) parts ++ (closing ++ rest)
  pub closes : Closes escapes q closing rest

with_part : (escapes : Bool) (q : ℕ) (u : Inside) (x : List ℕ) → IsInside escapes q u →
    InsideOf escapes q x → InsideOf escapes q (inside_bytes q u ++ x)
with_part escapes q u x i o = record {
  parts = u ∷ o.parts;
  closing = o.closing;
  rest = o.rest;
  inside = (i, o.inside);
  joined = ap (λ y. inside_bytes q u ++ y) o.joined ∙
      sym (append_assoc (inside_bytes q u) (flat_map (inside_bytes q) o.parts) (o.closing ++
      o.rest));
  closes = o.closes;
}

ends_now : (escapes : Bool) (q : ℕ) (c r : List ℕ) → Closes escapes q c r → InsideOf escapes q (c ++ r)
ends_now escapes q c r k = record { parts = []; closing = c; rest = r; inside = tt; joined = refl; closes = k }

is_byte : (escapes : Bool) (q b : ℕ) → b ≢ q → (b ≡ backslash → escapes ≡ true → ⊥) → IsInside escapes q (Byte b)
is_byte escapes q b n m = (n, λ e k. m k e)

pub some_inside : (escapes : Bool) (q : ℕ) (n : ℕ) (text : List ℕ) → length text ≤ n → InsideOf escapes q text
some_inside escapes q n [] h = ends_now escapes q [] [] (inr (refl, inl refl))
some_inside escapes q zero (b ∷ x) h = absurd (omega arith)
some_inside escapes q (suc n) (b ∷ []) h =
    elim (eqb_tells b q) [
      | inl e ↦ ends_now escapes q (b ∷ []) [] (inl (ap (λ y. y ∷ []) e.1, tt))
      | inr e ↦ elim (eqb_tells b backslash) [
        | inl f ↦ elim (bool_tells escapes) [
          | inl k ↦ ends_now escapes q (b ∷ []) [] (inr (refl, inr (ap (λ y. y ∷ []) f.1, k)))
          | inr k ↦ with_part escapes q (Byte b) []
              (is_byte escapes q b e.1 (λ _ l. let x : true ≡ false = sym l ∙ k in cc))
              (ends_now escapes q [] [] (inr (refl, inl refl)))
        ]
        | inr f ↦ with_part escapes q (Byte b) [] (is_byte escapes q b e.1 (λ l _. f.1 l))
            (ends_now escapes q [] [] (inr (refl, inl refl)))
      ]
    ]
some_inside escapes q (suc n) (b ∷ c ∷ x) h =
    let shorter : length (c ∷ x) ≤ n = omega arith in
    let shortest : length x ≤ n = omega arith in
    elim (eqb_tells b q) [
      | inl e ↦ elim (eqb_tells c q) [
        | inl f ↦ subst (InsideOf escapes q) (ap (λ y. y ∷ y ∷ x) (sym e.1) ∙
            ap (λ y. b ∷ y ∷ x) (e.1 ∙ sym f.1))
            (with_part escapes q Doubled x tt (some_inside escapes q n x shortest))
        | inr f ↦ ends_now escapes q (b ∷ []) (c ∷ x) (inl (ap (λ y. y ∷ []) e.1, f.1))
      ]
      | inr e ↦ elim (eqb_tells b backslash) [
        | inl f ↦ elim (bool_tells escapes) [
          | inl k ↦ subst (InsideOf escapes q) (ap (λ y. y ∷ c ∷ x) (sym f.1))
              (with_part escapes q (Escape c) x k (some_inside escapes q n x shortest))
          | inr k ↦ with_part escapes q (Byte b) (c ∷
              x) (is_byte escapes q b e.1 (λ _ l. let x : true ≡ false = sym l ∙ k in cc))
              (some_inside escapes q n (c ∷ x) shorter)
        ]
        | inr f ↦ with_part escapes q (Byte b) (c ∷ x) (is_byte escapes q b e.1 (λ l _. f.1 l))
            (some_inside escapes q n (c ∷ x) shorter)
      ]
    ]

-- what stands inside a comment, what closes it and the rest
pub record BlockOf (text : List ℕ) : Type 0 where
  pub inside : List ℕ
  pub closing : List ℕ
  pub rest : List ℕ
  pub joined : text ≡ inside ++ (closing ++ rest)
  pub ends : EndsBlock inside closing rest

pub one_more : (b c : ℕ) (x i cl r : List ℕ) → c ∷ x ≡ i ++ (cl ++ r) → (b ≡ star → c ≢ slash) →
    EndsBlock i cl r → EndsBlock (b ∷ i) cl r
one_more b c x [] cl r j n (inl k) = inl (k.0, ((λ _ e. absurd (omega arith)), tt))
one_more b c x [] cl r j n (inr k) = inr (k.0, tt, k.2)
one_more b c x (d ∷ i) cl r j n (inl k) = inl (k.0, ((λ e f. n e (let g : c ≡ d = cc in g ∙ f)), k.1))
one_more b c x (d ∷ i) cl r j n (inr k) = inr (k.0, ((λ e f. n e (let g : c ≡ d = cc in g ∙ f)), k.1), k.2)

with_byte : (b c : ℕ) (x : List ℕ) → (b ≡ star → c ≢ slash) → BlockOf (c ∷ x) → BlockOf (b ∷ c ∷ x)
with_byte b c x n o = record {
  inside = b ∷ o.inside;
  closing = o.closing;
  rest = o.rest;
  joined =
      ap (λ y. b ∷ y) o.joined;
  ends = one_more b c x o.inside o.closing o.rest o.joined n o.ends;
}

pub some_block : (text : List ℕ) → BlockOf text
some_block [] = record { inside = []; closing = []; rest = []; joined = refl; ends = inr (refl, tt, refl) }
some_block (b ∷ []) = record { inside = b ∷ []; closing = []; rest = []; joined = refl; ends = inr (refl, tt, refl) }
some_block (b ∷ c ∷ x) =
    elim (eqb_tells b star) [
      | inl e ↦ elim (eqb_tells c slash) [
        | inl f ↦ record {
          inside = [];
          closing = star ∷ slash ∷ [];
          rest = x;
          joined =
              ap (λ y. y ∷ c ∷ x) e.1 ∙ ap (λ y. star ∷ y ∷ x) f.1;
          ends = inl (refl, tt);
        }
        | inr f ↦ with_byte b c x (λ _. f.1) (some_block (c ∷ x))
      ]
      | inr e ↦ with_byte b c x (λ k. absurd (e.1 k)) (some_block (c ∷ x))
    ]

-- the first element, if any, has the property
abbrev pub Begins : (ℕ → Type 0) → List ℕ → Type 0
Begins Q [] = Unit {0}
Begins Q (b ∷ rest) = Q b

pub record RunOf (P Q : ℕ → Type 0) (text : List ℕ) : Type 0 where
  pub run : List ℕ
  pub rest : List ℕ
  pub joined : text ≡ run ++ rest
  pub each : AllByRecursion P run
  pub ends : Begins Q rest

pub some_run : (P Q : ℕ → Type 0) → ((b : ℕ) → P b ⊎ Q b) → (text : List ℕ) → RunOf P Q text
some_run P Q d [] = record { run = []; rest = []; joined = refl; each = tt; ends = tt }
some_run P Q d (b ∷ x) =
    let o : RunOf P Q x = some_run P Q d x in
    elim (d b) [
      | inl p ↦ record {
        run = b ∷ o.run;
        rest = o.rest;
        joined = ap (λ y. b ∷ y) o.joined;
        each =
            (p, o.each);
        ends = o.ends;
      }
      | inr q ↦ record { run = []; rest = b ∷ x; joined = refl; each = tt; ends = q }
    ]

-- a slice of a shape, and the rest
pub record FirstOf (m : Mode) (k : Kind) (text : List ℕ) : Type 0 where
  pub token : List ℕ
  pub rest : List ℕ
  pub joined : text ≡ token ++ rest
  pub shape : HasShape m k token rest

line_tells : (b : ℕ) → (b ≢ line_feed) ⊎ (b ≡ line_feed)
line_tells b = elim (eqb_tells b line_feed) [ inl e ↦ inr e.1 | inr e ↦ inl e.1 ]

line_first : (m : Mode) (text : List ℕ) → FirstOf m LineComment text
line_first m text =
    let o : RunOf (λ b. b ≢ line_feed) (λ b. b ≡ line_feed) text = some_run _ _ line_tells text in
    record { token = o.run; rest = o.rest; joined = o.joined; shape = (o.each, o.ends) }

shape_first : (m : Mode) (b : ℕ) (x : List ℕ) (k : Kind) → Tells b x k → FirstOf m k (b ∷ x)
shape_first m b x (Quoted q) h =
    let o : InsideOf (has_escapes m q) q x = some_inside (has_escapes m q) q (length x) x (omega arith) in
    record {
      token = q ∷ (flat_map (inside_bytes q) o.parts ++ o.closing);
      rest = o.rest;
      joined = ap (λ y. y ∷ x) (sym h.0) ∙
          ap (λ y. q ∷ y) (o.joined ∙
          sym (append_assoc (flat_map (inside_bytes q) o.parts) o.closing o.rest));
      shape = record { parts = o.parts; closing = o.closing; inside = o.inside; spelled = refl; closes = o.closes };
    }
shape_first m b x LineComment h = line_first m (b ∷ x)
shape_first m b x BlockComment h =
    let s : (y : List ℕ) × (x ≡ star ∷ y) = block_second x h.1 in
    let o : BlockOf s.0 = some_block s.0 in
    record {
      token = slash ∷ star ∷ (o.inside ++ o.closing);
      rest = o.rest;
      joined = ap (λ y. y ∷ x) h.0 ∙
          ap (λ y. slash ∷ y) (s.1 ∙
          ap (λ y. star ∷ y) (o.joined ∙ sym (append_assoc o.inside o.closing o.rest)));
      shape = record { inside = o.inside; closing = o.closing; spelled = refl; ends = o.ends };
    }
shape_first m b x Opening h =
    let s : (y : List ℕ) × (x ≡ star ∷ exclamation ∷ y) = opening_second x h.1 in
    record { token = comment_start; rest = s.0; joined = ap (λ y. y ∷ x) h.0 ∙ ap (λ y. slash ∷ y) s.1; shape = refl }
shape_first m b x Closing h =
    let s : (y : List ℕ) × (x ≡ slash ∷ y) = closing_second x h.1 in
    record { token = comment_end; rest = s.0; joined = ap (λ y. y ∷ x) h.0 ∙ ap (λ y. star ∷ y) s.1; shape = refl }
shape_first m b x Name h =
    let o : RunOf (λ c. is_name_byte c ≡ true) (λ c. is_name_byte c ≡ false) x =
    some_run _ _ (λ c. bool_tells (is_name_byte c)) x in
    record {
      token = colon ∷ o.run;
      rest = o.rest;
      joined = ap (λ y. y ∷ x) h.0 ∙ ap (λ y. colon ∷ y) o.joined;
      shape = record { name = o.run; spelled = refl; bytes = o.each; ends = o.ends };
    }
shape_first m b x Mark h = record { token = question ∷ []; rest = x; joined = ap (λ y. y ∷ x) h; shape = refl }
shape_first m b x Plain h = record { token = b ∷ []; rest = x; joined = refl; shape = (b, refl) }

-- a first token, and the rest
pub first_token : (m : Mode) (b : ℕ) (x : List ℕ) → (t r : List ℕ) × (b ∷ x ≡ t ++ r) × IsToken m t r
first_token m b x =
    let o : FirstOf m (kind_of (b ∷ x)) (b ∷ x) = shape_first m b x (kind_of (b ∷ x)) (kind_tells b x) in
    (o.token, o.rest, o.joined, subst (λ y. HasShape m (kind_of y) o.token o.rest) o.joined o.shape)

before_rest : (m : Mode) (text t r : List ℕ) (ts : List (List ℕ)) → text ≡ t ++ r → IsToken m t r →
    HasTokens m r ts → HasTokens m text (t ∷ ts)
before_rest m text t r ts j i o =
    record {
      joined = ap (λ y. t ++ y) o.joined ∙ sym j;
      each =
          (subst (λ y. IsToken m t y) (sym o.joined) i, o.each);
    }

shorter : (m : Mode) (b : ℕ) (x t r : List ℕ) (n : ℕ) → b ∷ x ≡ t ++ r → IsToken m t r →
    length (b ∷ x) ≤ suc n → length r ≤ n
shorter m b x [] r n j i h = absurd (not_empty m r i)
shorter m b x (c ∷ t) r n j i h = omega (arith, length-append t r, ap length j)

pub some_list : (m : Mode) (n : ℕ) (text : List ℕ) → length text ≤ n → (ts : List (List ℕ)) × HasTokens m text ts
some_list m n [] h = ([], record { joined = refl; each = tt })
some_list m zero (b ∷ x) h = absurd (omega arith)
some_list m (suc n) (b ∷ x) h =
    let o : (t r : List ℕ) × (b ∷ x ≡ t ++ r) × IsToken m t r = first_token m b x in
    let p : (ts : List (List ℕ)) × HasTokens m o.1 ts = some_list m n o.1 (shorter m b x o.0 o.1 n o.2 o.3 h) in
    (o.0 ∷ p.0, before_rest m (b ∷ x) o.0 o.1 p.0 o.2 o.3 p.1)
