-- A token stays a token when a placeholder behind it is replaced by a literal.
use Rattle.std.proofs.Common.{◌≡◌, ◌≢◌, ℕ, Bool, true, false, not, ◌&&◌, ◌||◌, ◌==◌, ◌⊎◌, List, [], ◌∷◌, ◌++◌, refl}
use Rattle.std.proofs.Common.{sym, ap, ◌∙◌, inl, inr, arith, subst, flat_map}
use Rattle.std.proofs.lemmas.Bool.Decides.{nat_tests, eqb_tells}
use Rattle.mysql_queries.specs.Tokens.{Kind, Quoted, LineComment, BlockComment, Opening, Closing, Name, Mark, Plain}
use Rattle.mysql_queries.specs.Tokens.{kind_of, is_quote, is_digit, is_simple, is_simple_byte, begins_end, exclamation}
use Rattle.mysql_queries.specs.Tokens.{comment_start, has_escapes, HasShape, IsToken, AtLineEnd, BeginsOtherwise}
use Rattle.mysql_queries.specs.Tokens.{Closes, star, slash, colon, question, dash, inside_bytes, goes_on_as_dashes}
use Rattle.mysql_queries.specs.Tokens.{goes_on_as_block, goes_on_as_opening, goes_on_as_closing, goes_on_as_name}
use Rattle.mysql_queries.specs.Tokens.{is_name_start}
use Rattle.std.specs.List.{prefix_len}
use Rattle.std.proofs.Common.{drop}
use Rattle.mysql_queries.specs.Alone.{last_of}
use Rattle.mysql_queries.specs.Queries.{is_joining}
use Rattle.mysql_bytes.specs.declared.mode.Mode.{Mode}
use Rattle.mysql_queries.proofs.FirstBytes.{HasQuote, and_true, bool_tells, kind_has_quote, same_number}
use Rattle.mysql_queries.proofs.OneToken.{not_empty}
use Rattle.mysql_queries.proofs.Prefixes.{behind_more, behind_stop}

-- a byte that joins nothing after it
abbrev pub IsApart : ℕ → Type 0
IsApart b = (is_joining b ≡ false) × (b ≢ dash)

-- the first byte, if any, joins nothing before it
abbrev pub BeginsApart : List ℕ → Type 0
BeginsApart [] = Unit {0}
BeginsApart (b ∷ after) = is_joining b ≡ false

-- a placeholder stands in the query where a literal begins in the text, behind this byte
pub record AtPlace (last b c : ℕ) : Type 0 where
  pub apart : IsApart last
  pub place : (b ≡ colon) ⊎ (b ≡ question)
  pub no_star : c ≢ star
  pub no_mark : c ≢ 0x21
  pub no_slash : c ≢ slash

-- Behind a byte, the query and the text go on alike up to a placeholder.
abbrev pub Agrees : ℕ → List ℕ → List ℕ → Type 0
Agrees last [] [] = Unit {0}
Agrees last [] (c ∷ y) = ⊥
Agrees last (b ∷ x) [] = ⊥
Agrees last (b ∷ x) (c ∷ y) = ((b ≡ c) × Agrees b x y) ⊎ AtPlace last b c

pub agree_front : (last : ℕ) (t x y : List ℕ) → Agrees (last_of last t) x y → Agrees last (t ++ x) (t ++ y)
agree_front last [] x y h = h
agree_front last (b ∷ t) x y h = inl (refl, agree_front b t x y h)

pub not_equal : (b c : ℕ) → b ≢ c → (b == c) ≡ false
not_equal b c n = elim (eqb_tells b c) [ inl e ↦ absurd (n e.1) | inr e ↦ e.0 ]

and_same : (p q r : Bool) → (p ≡ true → q ≡ r) → (p && q) ≡ (p && r)
and_same true q r h = h refl
and_same false q r h = refl

pub and_false : (p q : Bool) → p ≡ false → (p && q) ≡ false
and_false true q h = cc
and_false false q h = refl

dashes_same : (x y : List ℕ) → Agrees dash x y → goes_on_as_dashes x ≡ goes_on_as_dashes y
dashes_same [] [] h = refl
dashes_same [] (c ∷ y) h = elim h [ ]
dashes_same (b ∷ x) [] h = elim h [ ]
dashes_same (b ∷ x) (c ∷ y) (inr a) = absurd (a.apart.1 refl)
dashes_same (b ∷ []) (c ∷ []) (inl h) = ap (λ d. d == dash) h.0
dashes_same (b ∷ []) (c ∷ e ∷ y) (inl h) = absurd h.1
dashes_same (b ∷ d ∷ x) (c ∷ []) (inl h) = absurd h.1
dashes_same (b ∷ d ∷ x) (c ∷ e ∷ y) (inl (h, inl k)) = let i : d ≡ e = k.0 in rw (h, i) refl
dashes_same (b ∷ d ∷ x) (c ∷ e ∷ y) (inl (h, inr a)) =
    let n : b ≢ dash = a.apart.1 in
    and_false (b == dash) _ (not_equal b dash n) ∙ sym (and_false (c == dash) _ (not_equal c dash (λ k. n (h ∙ k))))

not_star : (b : ℕ) (x : List ℕ) → b ≢ star → goes_on_as_block (b ∷ x) ≡ false
not_star b [] n = not_equal b star n
not_star b (c ∷ x) n = and_false (b == star) _ (not_equal b star n)

place_no_star : (b : ℕ) → (b ≡ colon) ⊎ (b ≡ question) → b ≢ star
place_no_star b (inl e) f = absurd (omega arith)
place_no_star b (inr e) f = absurd (omega arith)

-- Behind `/*!` no digit and no placeholder comes first.
abbrev pub BeginsFixed : List ℕ → Type 0
BeginsFixed [] = Unit {0}
BeginsFixed (b ∷ x) = (is_digit b ≡ false) × (b ≢ colon) × (b ≢ question)

no_place : (b : ℕ) → b ≢ colon → b ≢ question → (b ≡ colon) ⊎ (b ≡ question) → ⊥
no_place b n m (inl e) = n e
no_place b n m (inr e) = m e

-- what stands behind simple bytes
abbrev behind_simple : List ℕ → List ℕ
behind_simple x = drop (prefix_len is_simple_byte x) x

place_is_not_simple : (b : ℕ) → (b ≡ colon) ⊎ (b ≡ question) → is_simple_byte b ≡ false
place_is_not_simple b (inl e) = rw e refl
place_is_not_simple b (inr e) = rw e refl

begins_end_star : (b : ℕ) (x : List ℕ) → begins_end (b ∷ x) ≡ true → b ≡ star
begins_end_star b [] h = cc
begins_end_star b (c ∷ x) h = same_number b star (and_true (b == star) _ h).0

-- where an end follows simple bytes, it follows them in what goes on alike
end_same : (last : ℕ) (x y : List ℕ) → Agrees last x y → begins_end (behind_simple x) ≡ true →
    begins_end (behind_simple y) ≡ true
end_same last [] y h e = cc
end_same last (b ∷ x) [] h e = elim h [ ]
end_same last (b ∷ x) (c ∷ y) (inr a) e =
    let n : is_simple_byte b ≡ false = place_is_not_simple b a.place in
    let f : begins_end (b ∷ x) ≡ true = ap begins_end (sym (behind_stop is_simple_byte b x n)) ∙ e in
    absurd (place_no_star b a.place (begins_end_star b x f))
end_same last (b ∷ x) (c ∷ y) (inl h) e = elim (bool_tells (is_simple_byte b)) [
  | inl s ↦ (let f : begins_end (behind_simple x) ≡ true = ap begins_end (sym (behind_more is_simple_byte b x s)) ∙ e in
      let t : is_simple_byte c ≡ true = sym (ap is_simple_byte h.0) ∙ s in
      ap begins_end (behind_more is_simple_byte c y t) ∙ end_same b x y h.1 f)
  | inr s ↦ (let f : begins_end (b ∷ x) ≡ true = ap begins_end (sym (behind_stop is_simple_byte b x s)) ∙ e in
      let t : is_simple_byte c ≡ false = sym (ap is_simple_byte h.0) ∙ s in
      ap begins_end (behind_stop is_simple_byte c y t) ∙ subst (λ d. begins_end (d ∷ y) ≡ true) h.0 (here b x y h.1 f))
]
  where
    here : (b : ℕ) (x y : List ℕ) → Agrees b x y → begins_end (b ∷ x) ≡ true → begins_end (b ∷ y) ≡ true
    here b [] y h f = cc
    here b (d ∷ x) [] h f = elim h [ ]
    here b (d ∷ x) (e ∷ y) (inl h) f = subst (λ i. ((b == star) && (i == slash)) ≡ true) h.0 f
    here b (d ∷ x) (e ∷ y) (inr a) f =
        let k : d ≡ slash = same_number d slash (and_true (b == star) (d == slash) f).1 in
        elim a.place [ inl i ↦ absurd (omega (arith, i, k)) | inr i ↦ absurd (omega (arith, i, k)) ]

no_simple : (x : List ℕ) → BeginsFixed x → is_simple x ≡ false
no_simple [] h = refl
no_simple (b ∷ x) h = and_false (is_digit b) _ h.0

pub fixed_same : (last : ℕ) (x y : List ℕ) → Agrees last x y → BeginsFixed x → BeginsFixed y
fixed_same last [] [] h f = tt
fixed_same last [] (c ∷ y) h f = elim h [ ]
fixed_same last (b ∷ x) [] h f = elim h [ ]
fixed_same last (b ∷ x) (c ∷ y) (inl h) f = subst (λ d. BeginsFixed (d ∷ y)) h.0 f
fixed_same last (b ∷ x) (c ∷ y) (inr a) f = absurd (no_place b f.1 f.2 a.place)

digit_no_place : (b : ℕ) → (b ≡ colon) ⊎ (b ≡ question) → is_digit b ≡ false
digit_no_place b (inl e) = rw e refl
digit_no_place b (inr e) = rw e refl

is_simple_still : (last : ℕ) (x y : List ℕ) → Agrees last x y → is_simple x ≡ true → is_simple y ≡ true
is_simple_still last [] y h e = cc
is_simple_still last (b ∷ x) [] h e = elim h [ ]
is_simple_still last (b ∷ x) (c ∷ y) (inr a) e = let f : true ≡ false =
    sym (and_true (is_digit b) _ e).0 ∙ digit_no_place b a.place in cc
is_simple_still last (b ∷ x) (c ∷ y) (inl h) e =
    let k : (is_digit b ≡ true) × (begins_end (behind_simple x) ≡ true) = and_true (is_digit b) _ e in
    rw (sym (ap is_digit h.0) ∙ k.0) (end_same b x y h.1 k.1)

-- a comment is simple or not, whatever is in the place of a placeholder further on
simple_same : (last : ℕ) (x y : List ℕ) → Agrees last x y → (is_simple x ≡ false → BeginsFixed x) →
    is_simple x ≡ is_simple y
simple_same last x y h f = elim (bool_tells (is_simple x)) [
  | inl e ↦ (e ∙ sym (is_simple_still last x y h e))
  | inr e ↦ (e ∙ sym (no_simple y (fixed_same last x y h (f e))))
]

no_mark : (d : ℕ) → d ≢ exclamation → (z : Bool) → (not (d == exclamation) || z) ≡ true
no_mark d n z = rw (not_equal d exclamation n) refl

place_no_mark : (b : ℕ) → (b ≡ colon) ⊎ (b ≡ question) → b ≢ exclamation
place_no_mark b (inl e) f = absurd (omega arith)
place_no_mark b (inr e) f = absurd (omega arith)

-- Where what follows `/*!` is no simple comment, it begins with no digit and no placeholder.
abbrev pub IsSettled : List ℕ → Type 0
IsSettled x = goes_on_as_block x ≡ false → goes_on_as_opening x ≡ true → BeginsFixed (drop 2 x)

block_same : (x y : List ℕ) → IsSettled x → Agrees slash x y → goes_on_as_block x ≡ goes_on_as_block y
block_same [] [] s h = refl
block_same [] (c ∷ y) s h = elim h [ ]
block_same (b ∷ x) [] s h = elim h [ ]
block_same (b ∷ x) (c ∷ y) s (inr a) = not_star b x (place_no_star b a.place) ∙ sym (not_star c y a.no_star)
block_same (b ∷ []) (c ∷ []) s (inl h) = ap (λ d. d == star) h.0
block_same (b ∷ []) (c ∷ e ∷ y) s (inl h) = absurd h.1
block_same (b ∷ d ∷ x) (c ∷ []) s (inl h) = absurd h.1
block_same (b ∷ d ∷ x) (c ∷ e ∷ y) s (inl (h, inl k)) = elim (bool_tells (b == star)) [
  | inr n ↦ (and_false (b == star) _ n ∙ sym (and_false (c == star) _ (sym (ap (λ i. i == star) h) ∙ n)))
  | inl m ↦ elim (bool_tells (d == exclamation)) [
    | inr n ↦ (let n2 : (e == exclamation) ≡ false = sym (ap (λ i. i == exclamation) k.0) ∙ n in
        let m2 : (c == star) ≡ true = sym (ap (λ i. i == star) h) ∙ m in rw (m, n, m2, n2) refl)
    | inl n ↦ (let m2 : (c == star) ≡ true = sym (ap (λ i. i == star) h) ∙ m in
        let n2 : (e == exclamation) ≡ true = sym (ap (λ i. i == exclamation) k.0) ∙ n in
        let t : is_simple x ≡ false → BeginsFixed x = λ f. s (rw (m, n, f) refl) (rw (m, n) refl) in
        rw (m, n, m2, n2) (simple_same d x y k.1 t))
  ]
]
block_same (b ∷ d ∷ x) (c ∷ e ∷ y) s (inl (h, inr a)) =
    ap (λ p. (b == star) && p) (no_mark d (place_no_mark d a.place) (is_simple x) ∙
    sym (no_mark e a.no_mark (is_simple y))) ∙
    ap (λ i. (i == star) && (not (e == exclamation) || is_simple y)) h

opening_no_star : (b : ℕ) (x : List ℕ) → b ≢ star → goes_on_as_opening (b ∷ x) ≡ false
opening_no_star b [] n = refl
opening_no_star b (c ∷ x) n = and_false (b == star) _ (not_equal b star n)

opening_same : (x y : List ℕ) → Agrees slash x y → goes_on_as_opening x ≡ goes_on_as_opening y
opening_same [] [] h = refl
opening_same [] (c ∷ y) h = elim h [ ]
opening_same (b ∷ x) [] h = elim h [ ]
opening_same (b ∷ x) (c ∷ y) (inr a) = opening_no_star b x (place_no_star b a.place) ∙
    sym (opening_no_star c y a.no_star)
opening_same (b ∷ []) (c ∷ []) (inl h) = refl
opening_same (b ∷ []) (c ∷ e ∷ y) (inl h) = absurd h.1
opening_same (b ∷ d ∷ x) (c ∷ []) (inl h) = absurd h.1
opening_same (b ∷ d ∷ x) (c ∷ e ∷ y) (inl (h, inl k)) = let i : d ≡ e = k.0 in rw (h, i) refl
opening_same (b ∷ d ∷ x) (c ∷ e ∷ y) (inl (h, inr a)) =
    ap (λ p. (b == star) && p) (not_equal d exclamation (place_no_mark d a.place) ∙
    sym (not_equal e exclamation a.no_mark)) ∙ ap (λ i. (i == star) && (e == exclamation)) h

closing_no_slash : (b : ℕ) (x : List ℕ) → b ≢ slash → goes_on_as_closing (b ∷ x) ≡ false
closing_no_slash b [] n = not_equal b slash n
closing_no_slash b (c ∷ x) n = and_false (b == slash) _ (not_equal b slash n)

place_no_slash : (b : ℕ) → (b ≡ colon) ⊎ (b ≡ question) → b ≢ slash
place_no_slash b (inl e) f = absurd (omega arith)
place_no_slash b (inr e) f = absurd (omega arith)

closing_same : (x y : List ℕ) → Agrees star x y → goes_on_as_closing x ≡ goes_on_as_closing y
closing_same [] [] h = refl
closing_same [] (c ∷ y) h = elim h [ ]
closing_same (b ∷ x) [] h = elim h [ ]
closing_same (b ∷ x) (c ∷ y) (inr a) = closing_no_slash b x (place_no_slash b a.place) ∙
    sym (closing_no_slash c y a.no_slash)
closing_same (b ∷ []) (c ∷ []) (inl h) = ap (λ d. d == slash) h.0
closing_same (b ∷ []) (c ∷ e ∷ y) (inl h) = absurd h.1
closing_same (b ∷ d ∷ x) (c ∷ []) (inl h) = absurd h.1
closing_same (b ∷ d ∷ x) (c ∷ e ∷ y) (inl (h, inl k)) = let i : d ≡ e = k.0 in rw (h, i) refl
closing_same (b ∷ d ∷ x) (c ∷ e ∷ y) (inl (h, inr a)) =
    ap (λ p. (b == slash) && not p) (not_equal d star (place_no_star d a.place) ∙
    sym (not_equal e star a.no_star)) ∙ ap (λ i. (i == slash) && not (e == star)) h

name_same : (x y : List ℕ) → Agrees colon x y → goes_on_as_name x ≡ goes_on_as_name y
name_same [] [] h = refl
name_same [] (c ∷ y) h = elim h [ ]
name_same (b ∷ x) [] h = elim h [ ]
name_same (b ∷ x) (c ∷ y) (inl h) = ap is_name_start h.0
name_same (b ∷ x) (c ∷ y) (inr a) = let e : true ≡ false = a.apart.0 in cc

-- the same kind of token begins
kind_same : (b : ℕ) (x y : List ℕ) → (b ≡ slash → IsSettled x) → Agrees b x y → kind_of (b ∷ x) ≡ kind_of (b ∷ y)
kind_same b x y s h =
    let e1 : ((b == dash) && goes_on_as_dashes x) ≡ ((b == dash) && goes_on_as_dashes y) =
    and_same (b == dash) _ _ (λ t. let e : b ≡ dash = same_number b dash t in
    dashes_same x y (subst (λ d. Agrees d x y) e h)) in
    let e2 : ((b == slash) && goes_on_as_block x) ≡ ((b == slash) && goes_on_as_block y) =
    and_same (b == slash) _ _ (λ t. let e : b ≡ slash = same_number b slash t in
    block_same x y (s e) (subst (λ d. Agrees d x y) e h)) in
    let e3 : ((b == slash) && goes_on_as_opening x) ≡ ((b == slash) && goes_on_as_opening y) =
    and_same (b == slash) _ _ (λ t. let e : b ≡ slash = same_number b slash t in
    opening_same x y (subst (λ d. Agrees d x y) e h)) in
    let e4 : ((b == star) && goes_on_as_closing x) ≡ ((b == star) && goes_on_as_closing y) =
    and_same (b == star) _ _ (λ t. let e : b ≡ star = same_number b star t in
    closing_same x y (subst (λ d. Agrees d x y) e h)) in
    let e5 : ((b == colon) && goes_on_as_name x) ≡ ((b == colon) && goes_on_as_name y) =
    and_same (b == colon) _ _ (λ t. let e : b ≡ colon = same_number b colon t in
    name_same x y (subst (λ d. Agrees d x y) e h)) in
    rw (e1, e2, e3, e4, e5) refl

pub nil_same : (last : ℕ) (x y : List ℕ) → Agrees last x y → x ≡ [] → y ≡ []
nil_same last [] [] h e = refl
nil_same last [] (c ∷ y) h e = elim h [ ]
nil_same last (b ∷ x) [] h e = elim h [ ]
nil_same last (b ∷ x) (c ∷ y) h e = cc

line_same : (last : ℕ) (x y : List ℕ) → Agrees last x y → AtLineEnd x → AtLineEnd y
line_same last [] [] h e = tt
line_same last [] (c ∷ y) h e = elim h [ ]
line_same last (b ∷ x) [] h e = elim h [ ]
line_same last (b ∷ x) (c ∷ y) (inl h) e = sym h.0 ∙ e
line_same last (b ∷ x) (c ∷ y) (inr a) e =
    elim a.place [ inl k ↦ absurd (omega (arith, k, e)) | inr k ↦ absurd (omega (arith, k, e)) ]

pub or_true : (p q : Bool) → q ≡ true → (p || q) ≡ true
or_true true q h = refl
or_true false q h = h

pub or_first : (p q : Bool) → p ≡ true → (p || q) ≡ true
or_first true q h = refl
or_first false q h = cc

quote_joins : (q : ℕ) → is_quote q ≡ true → is_joining q ≡ true
quote_joins q h = or_first _ _ (or_true _ (is_quote q) h)

otherwise_same : (q : ℕ) (x y : List ℕ) → is_quote q ≡ true → Agrees q x y → BeginsOtherwise q x → BeginsOtherwise q y
otherwise_same q [] [] i h n = tt
otherwise_same q [] (c ∷ y) i h n = elim h [ ]
otherwise_same q (b ∷ x) [] i h n = elim h [ ]
otherwise_same q (b ∷ x) (c ∷ y) i (inl h) n = λ e. n (h.0 ∙ e)
otherwise_same q (b ∷ x) (c ∷ y) i (inr a) n = let e : true ≡ false = sym (quote_joins q i) ∙ a.apart.0 in cc

last_append : (last q : ℕ) (x : List ℕ) → last_of last (x ++ q ∷ []) ≡ q
last_append last q [] = refl
last_append last q (b ∷ x) = last_append b q x

closes_same : (escapes : Bool) (q last : ℕ) (t u c x y : List ℕ) → is_quote q ≡ true → t ≡ q ∷
    (u ++ c) → Agrees (last_of last t) x y → Closes escapes q c x → Closes escapes q c y
closes_same escapes q last t u c x y i s h (inl k) =
    let e : last_of last t ≡ q = rw (s, k.0) (last_append q q u) in
    inl (k.0, otherwise_same q x y i (subst (λ d. Agrees d x y) e h) k.1)
closes_same escapes q last t u c x y i s h (inr k) = inr (nil_same (last_of last t) x y h k.0, k.1)

-- a kind that is no name
abbrev pub IsNoName : Kind → Type 0
IsNoName (Quoted q) = Unit {0}
IsNoName LineComment = Unit {0}
IsNoName BlockComment = Unit {0}
IsNoName Opening = Unit {0}
IsNoName Closing = Unit {0}
IsNoName Name = ⊥
IsNoName Mark = Unit {0}
IsNoName Plain = Unit {0}

shape_same : (m : Mode) (k : Kind) → HasQuote k → IsNoName k → (last : ℕ) (t x y : List ℕ) →
    Agrees (last_of last t) x y → HasShape m k t x → HasShape m k t y
shape_same m (Quoted q) hq n last t x y h i =
    record {
      parts = i.parts;
      closing = i.closing;
      inside = i.inside;
      spelled = i.spelled;
      closes =
          closes_same (has_escapes m q) q last t (flat_map (inside_bytes q) i.parts) i.closing x y hq
          i.spelled h i.closes;
    }
shape_same m LineComment hq n last t x y h i = (i.0, line_same (last_of last t) x y h i.1)
shape_same m BlockComment hq n last t x y h i =
    record {
      inside = i.inside;
      closing = i.closing;
      spelled = i.spelled;
      ends =
          elim i.ends [ inl k ↦ inl k | inr k ↦ inr (k.0, k.1, nil_same (last_of last t) x y h k.2) ];
    }
shape_same m Opening hq n last t x y h i = i
shape_same m Closing hq n last t x y h i = i
shape_same m Name hq n last t x y h i = absurd n
shape_same m Mark hq n last t x y h i = i
shape_same m Plain hq n last t x y h i = i

-- a slash before these bytes begins `/*!`
pub opening_kind : (x : List ℕ) → goes_on_as_block x ≡ false → goes_on_as_opening x ≡ true →
    kind_of (slash ∷ x) ≡ Opening
opening_kind x h k = rw (h, k) refl

-- A token that is no name stays a token before a text that agrees with what follows it. What follows
-- `/*!` begins with no digit and no placeholder.
pub token_same : (m : Mode) (last : ℕ) (t x y : List ℕ) → IsNoName (kind_of (t ++ x)) →
    (kind_of (t ++ x) ≡ Opening → BeginsFixed x) → Agrees (last_of last t) x y → IsToken m t x →
    IsToken m t y
token_same m last [] x y n f h i = absurd (not_empty m x i)
token_same m last (b ∷ t) x y n f h i =
    let e : kind_of (b ∷ (t ++ x)) ≡ kind_of (b ∷ (t ++ y)) =
    kind_same b (t ++ x) (t ++ y) (λ s. settled s) (agree_front b t x y h) in
    subst (λ k. HasShape m k (b ∷ t) y) e
    (shape_same m (kind_of (b ∷ (t ++ x))) (kind_has_quote (b ∷ (t ++ x))) n last (b ∷
    t) x y h i)
  where
    settled : b ≡ slash → IsSettled (t ++ x)
    settled s p q =
        let k : kind_of (b ∷ (t ++ x)) ≡ Opening = ap (λ c. kind_of (c ∷ (t ++ x))) s ∙ opening_kind (t ++ x) p q in
        let u : b ∷ t ≡ comment_start = subst (λ j. HasShape m j (b ∷ t) x) k i in
        let v : t ≡ star ∷ exclamation ∷ [] = cc in
        subst BeginsFixed (sym (ap (λ z. drop 2 (z ++ x)) v)) (f k)
