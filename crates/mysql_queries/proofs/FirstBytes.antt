-- What the kind of a token says of its first bytes.
use Rattle.std.proofs.Common.{◌≡◌, ◌≢◌, ℕ, Bool, true, false, cond, ◌&&◌, ◌==◌, ◌⊎◌, inl, inr, List, [], ◌∷◌, refl}
use Rattle.std.proofs.Common.{arith, ◌||◌}
use Rattle.std.proofs.lemmas.Bool.Decides.{nat_tests}
use Rattle.mysql_queries.specs.Tokens.{Kind, Quoted, LineComment, BlockComment, Opening, Closing, Name, Mark, Plain}
use Rattle.mysql_queries.specs.Tokens.{kind_of, is_quote, backslash, hash, dash, slash, star, colon, question}
use Rattle.mysql_queries.specs.Tokens.{exclamation, goes_on_as_dashes, goes_on_as_block, goes_on_as_opening}
use Rattle.mysql_queries.specs.Tokens.{goes_on_as_closing, goes_on_as_name, is_name_start}

pub bool_tells : (b : Bool) → (b ≡ true) ⊎ (b ≡ false)
bool_tells true = inl refl
bool_tells false = inr refl

pub and_true : (p q : Bool) → p && q ≡ true → (p ≡ true) × (q ≡ true)
and_true true q h = (refl, h)
and_true false q h = cc

pub or_cases : (p q : Bool) → (p || q) ≡ true → (p ≡ true) ⊎ (q ≡ true)
or_cases true q h = inl refl
or_cases false q h = inr h

pub same_number : (a b : ℕ) → (a == b) ≡ true → a ≡ b
same_number a b h = grind (arith, nat_tests)

-- a fact of each kind that can be chosen is a fact of the one that is
pub chosen : (T : Kind → Type 0) (b : ℕ) (q l k o c n m : Bool) → (q ≡ true → T (Quoted b)) →
    (l ≡ true → T LineComment) → (k ≡ true → T BlockComment) → (o ≡ true → T Opening) →
    (c ≡ true → T Closing) → (n ≡ true → T Name) → (m ≡ true → T Mark) → T Plain
    → T (cond q (Quoted b) (cond l LineComment
    (cond k BlockComment (cond o Opening (cond c Closing (cond n Name (cond m Mark Plain)))))))
chosen T b true l k o c n m f1 f2 f3 f4 f5 f6 f7 f8 = f1 refl
chosen T b false true k o c n m f1 f2 f3 f4 f5 f6 f7 f8 = f2 refl
chosen T b false false true o c n m f1 f2 f3 f4 f5 f6 f7 f8 = f3 refl
chosen T b false false false true c n m f1 f2 f3 f4 f5 f6 f7 f8 = f4 refl
chosen T b false false false false true n m f1 f2 f3 f4 f5 f6 f7 f8 = f5 refl
chosen T b false false false false false true m f1 f2 f3 f4 f5 f6 f7 f8 = f6 refl
chosen T b false false false false false false true f1 f2 f3 f4 f5 f6 f7 f8 = f7 refl
chosen T b false false false false false false false f1 f2 f3 f4 f5 f6 f7 f8 = f8

-- what a kind says of a text
abbrev pub Tells : ℕ → List ℕ → Kind → Type 0
Tells b x (Quoted q) = (q ≡ b) × (is_quote b ≡ true)
Tells b x LineComment = (b ≡ hash) ⊎ ((b ≡ dash) × (goes_on_as_dashes x ≡ true))
Tells b x BlockComment = (b ≡ slash) × (goes_on_as_block x ≡ true)
Tells b x Opening = (b ≡ slash) × (goes_on_as_opening x ≡ true)
Tells b x Closing = (b ≡ star) × (goes_on_as_closing x ≡ true)
Tells b x Name = (b ≡ colon) × (goes_on_as_name x ≡ true)
Tells b x Mark = b ≡ question
Tells b x Plain = Unit {0}

line_tells : (b : ℕ) (x : List ℕ) → ((b == hash) || ((b == dash) && goes_on_as_dashes x)) ≡ true → Tells b x LineComment
line_tells b x h = elim (or_cases (b == hash) _ h) [
  | inl k ↦ inl (same_number b hash k)
  | inr k ↦ (let e : ((b == dash) ≡ true) × (goes_on_as_dashes x ≡ true) =
      and_true (b == dash) (goes_on_as_dashes x) k in inr (same_number b dash e.0, e.1))
]

pub kind_tells : (b : ℕ) (x : List ℕ) → Tells b x (kind_of (b ∷ x))
kind_tells b x = chosen (Tells b x) b _ _ _ _ _ _ _ (λ h. (refl, h)) (line_tells b x)
    (λ h. let e : ((b == slash) ≡ true) × (goes_on_as_block x ≡ true) =
    and_true (b == slash) (goes_on_as_block x) h in (same_number b slash e.0, e.1))
    (λ h. let e : ((b == slash) ≡ true) × (goes_on_as_opening x ≡ true) =
    and_true (b == slash) (goes_on_as_opening x) h in (same_number b slash e.0, e.1))
    (λ h. let e : ((b == star) ≡ true) × (goes_on_as_closing x ≡ true) =
    and_true (b == star) (goes_on_as_closing x) h in (same_number b star e.0, e.1))
    (λ h. let e : ((b == colon) ≡ true) × (goes_on_as_name x ≡ true) =
    and_true (b == colon) (goes_on_as_name x) h in (same_number b colon e.0, e.1))
    (λ h. same_number b question h) tt

-- a quoted token begins with one of the quotes
abbrev pub HasQuote : Kind → Type 0
HasQuote (Quoted q) = is_quote q ≡ true
HasQuote LineComment = Unit {0}
HasQuote BlockComment = Unit {0}
HasQuote Opening = Unit {0}
HasQuote Closing = Unit {0}
HasQuote Name = Unit {0}
HasQuote Mark = Unit {0}
HasQuote Plain = Unit {0}

pub kind_has_quote : (text : List ℕ) → HasQuote (kind_of text)
kind_has_quote [] = tt
kind_has_quote (b ∷ after) =
    chosen HasQuote b _ _ _ _ _ _ _ (λ h. h) (λ h. tt) (λ h. tt) (λ h. tt) (λ h. tt) (λ h. tt)
    (λ h. tt) tt

pub quote_no_backslash : (q : ℕ) → is_quote q ≡ true → q ≢ backslash
quote_no_backslash q h e = let h' : is_quote backslash ≡ true = rw e at h in cc

pub block_second : (x : List ℕ) → goes_on_as_block x ≡ true → (y : List ℕ) × (x ≡ star ∷ y)
block_second [] h = cc
block_second (b ∷ []) h = let e : b ≡ star = same_number b star h in ([], cc)
block_second (b ∷ c ∷ y) h = let e : b ≡ star = same_number b star (and_true (b == star) _ h).0 in (c ∷ y, cc)

pub opening_second : (x : List ℕ) → goes_on_as_opening x ≡ true → (y : List ℕ) × (x ≡ star ∷ exclamation ∷ y)
opening_second [] h = cc
opening_second (b ∷ []) h = cc
opening_second (b ∷ c ∷ y) h =
    let e : ((b == star) ≡ true) × ((c == exclamation) ≡ true) = and_true (b == star) (c == exclamation) h in
    let f : b ≡ star = same_number b star e.0 in
    let g : c ≡ exclamation = same_number c exclamation e.1 in (y, cc)

pub closing_second : (x : List ℕ) → goes_on_as_closing x ≡ true → (y : List ℕ) × (x ≡ slash ∷ y)
closing_second [] h = cc
closing_second (b ∷ []) h = let e : b ≡ slash = same_number b slash h in ([], cc)
closing_second (b ∷ c ∷ y) h = let e : b ≡ slash = same_number b slash (and_true (b == slash) _ h).0 in (c ∷ y, cc)

pub name_second : (x : List ℕ) → goes_on_as_name x ≡ true → (b : ℕ) × (y : List ℕ) × (x ≡ b ∷ y) ×
    (is_name_start b ≡ true)
name_second [] h = cc
name_second (b ∷ y) h = (b, y, refl, h)
