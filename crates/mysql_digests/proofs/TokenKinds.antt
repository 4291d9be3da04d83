-- The kind of a token by itself is its kind where it stands; bytes that are tokens by themselves.
use Rattle.std.proofs.Common.{◌≡◌, ◌≢◌, ℕ, Bool, true, false, ◌||◌, ◌==◌, ◌⊎◌, List, ◌∷◌, ◌++◌, refl, sym, ap, ◌∙◌, inl}
use Rattle.std.proofs.Common.{inr, subst}
use Rattle.std.proofs.lemmas.Bool.Decides.{eqb_tells}
use Rattle.mysql_queries.specs.Tokens.{kind_of, IsToken, hash, dash, slash, star, colon, question, single_quote}
use Rattle.mysql_queries.specs.Tokens.{double_quote, backtick}
use Rattle.mysql_queries.specs.Literals.{is_digit}
use Rattle.mysql_queries.specs.Queries.{is_joining}
use Rattle.mysql_queries.specs.Scanning.{is_plain}
use Rattle.mysql_bytes.specs.declared.mode.Mode.{Mode}
use Rattle.mysql_digests.specs.Digest.{is_blank, is_word_byte, is_operator_byte}
use Rattle.mysql_queries.proofs.AloneKinds.{kind_alone}
pub use Rattle.mysql_queries.proofs.AloneKinds.{plain_kind, plain_token}
use Rattle.mysql_queries.proofs.FirstBytes.{and_true, same_number}

pub not_equal : (b c : ℕ) → b ≢ c → (b == c) ≡ false
not_equal b c n = elim (eqb_tells b c) [ inl e ↦ absurd (n e.1) | inr e ↦ e.0 ]

pub apart_bytes : (p : ℕ → Bool) (b c : ℕ) → p b ≡ true → p c ≡ false → b ≢ c
apart_bytes p b c h k e = let f : true ≡ false = sym h ∙ ap p e ∙ k in cc

pub or_true : (p q : Bool) → (p || q) ≡ true → (p ≡ true) ⊎ (q ≡ true)
or_true true q h = inl refl
or_true false q h = inr h

-- what begins a text as a token has its kind by itself
pub kind_stays : (m : Mode) (t r : List ℕ) → IsToken m t r → kind_of t ≡ kind_of (t ++ r)
kind_stays = kind_alone

-- what holds of a byte, and of none that begins a token of several, makes it plain
pub plain_by : (p : ℕ → Bool) (b : ℕ) → p b ≡ true → p single_quote ≡ false → p double_quote ≡
    false → p backtick ≡ false → p hash ≡ false → p dash ≡ false → p slash ≡ false → p star ≡
    false → p colon ≡ false → p question ≡ false → is_plain b ≡ true
plain_by p b h k1 k2 k3 k4 k5 k6 k9 k7 k8 =
    let e1 = not_equal b single_quote (apart_bytes p b single_quote h k1) in
    let e2 = not_equal b double_quote (apart_bytes p b double_quote h k2) in
    let e3 = not_equal b backtick (apart_bytes p b backtick h k3) in
    let e4 = not_equal b hash (apart_bytes p b hash h k4) in
    let e5 = not_equal b dash (apart_bytes p b dash h k5) in
    let e6 = not_equal b slash (apart_bytes p b slash h k6) in
    let e7 = not_equal b colon (apart_bytes p b colon h k7) in
    let e8 = not_equal b question (apart_bytes p b question h k8) in
    let e9 = not_equal b star (apart_bytes p b star h k9) in
    rw (e1, e2, e3, e4, e5, e6, e7, e8, e9) refl

pub word_plain : (b : ℕ) → is_word_byte b ≡ true → is_plain b ≡ true
word_plain b h = (and_true (is_joining b) (is_plain b) h).1

pub operator_plain : (b : ℕ) → is_operator_byte b ≡ true → is_plain b ≡ true
operator_plain b h = plain_by is_operator_byte b h refl refl refl refl refl refl refl refl refl

pub digit_plain : (b : ℕ) → is_digit b ≡ true → is_plain b ≡ true
digit_plain b h = plain_by is_digit b h refl refl refl refl refl refl refl refl refl

pub blank_plain : (b : ℕ) → is_blank b ≡ true → is_plain b ≡ true
blank_plain b h = plain_by is_blank b h refl refl refl refl refl refl refl refl refl

pub digit_word : (b : ℕ) → is_digit b ≡ true → is_word_byte b ≡ true
digit_word b h = rw (h, digit_plain b h) refl

-- each byte of an operator is none of a word
pub operator_cases : (P : ℕ → Type 0) → P 0x3c → P 0x3d → P 0x3e → P 0x21 → P 0x7c → P 0x26 →
    (b : ℕ) → is_operator_byte b ≡ true → P b
operator_cases P p1 p2 p3 p4 p5 p6 b h =
    let there : (c : ℕ) → P c → (b == c) ≡ true → P b = λ c p e. subst P (sym (same_number b c e)) p in
    let a1 : Bool = b == 0x3c in
    let a2 : Bool = b == 0x3d in
    let a3 : Bool = b == 0x3e in
    let a4 : Bool = b == 0x21 in
    let a5 : Bool = b == 0x7c in
    let a6 : Bool = b == 0x26 in
    elim (or_true (a1 || a2 || a3 || a4 || a5) a6 h) [
      | inr e ↦ there 0x26 p6 e
      | inl h5 ↦ elim (or_true (a1 || a2 || a3 || a4) a5 h5) [
        | inr e ↦ there 0x7c p5 e
        | inl h4 ↦ elim (or_true (a1 || a2 || a3) a4 h4) [
          | inr e ↦ there 0x21 p4 e
          | inl h3 ↦ elim (or_true (a1 || a2) a3 h3) [
            | inr e ↦ there 0x3e p3 e
            | inl h2 ↦ elim (or_true a1 a2 h2) [ inl e ↦ there 0x3c p1 e | inr e ↦ there 0x3d p2 e ]
          ]
        ]
      ]
    ]

pub operator_no_word : (b : ℕ) → is_operator_byte b ≡ true → is_word_byte b ≡ false
operator_no_word = operator_cases (λ b. is_word_byte b ≡ false) refl refl refl refl refl refl
