-- What stands in a text for a literal in a placeholder's place.
use Rattle.std.proofs.Common.{if◌then◌else◌, ◌≡◌, ℕ, true, false, ◌&&◌, ◌==◌, List, [], ◌∷◌, ◌++◌, refl, sym, ap, ◌∙◌}
use Rattle.std.proofs.Common.{inl, inr, subst, append-nil, codes}
use Rattle.std.specs.List.{AllByRecursion}
use Rattle.mysql_queries.specs.Laws.{OneTokens}
use Rattle.mysql_queries.specs.Literals.{is_digit, AreDigits, IsString, IsIntroducer, IsLiteral, text_introducer}
use Rattle.mysql_queries.specs.Literals.{binary_introducer}
use Rattle.mysql_queries.specs.Scanning.{is_plain}
use Rattle.mysql_queries.specs.Tokens.{Kind, Quoted, Plain, kind_of, HasShape, HasTokens, has_escapes, single_quote}
use Rattle.mysql_queries.specs.Tokens.{dash, bracket, dollar, slash, goes_on_as_dashes}
use Rattle.mysql_bytes.specs.declared.content.Content.{Content}
use Rattle.mysql_bytes.specs.declared.mode.Mode.{Mode}
use Rattle.mysql_bytes.specs.declared.spelling.Spelling.{Spelling}
use Rattle.mysql_digests.specs.Digest.{Lexeme, Gap, Value, Word, Operator, Byte, Piece, with_operator_byte, with_bytes}
use Rattle.mysql_digests.specs.Digest.{with_token, with_value, with_word, lexemes_of, pieces_behind, awaits_exponent}
use Rattle.mysql_digests.specs.Digest.{value_follows}
use Rattle.mysql_digests.specs.declared.left_out.Before.TheVariants.{Apart, Joined, Exponent}
use Rattle.mysql_digests.proofs.Lexing.{NoWord, all_plain, front, singles, singles_lexemes, singles_tokens, word_bytes}
use Rattle.mysql_digests.proofs.LiteralForms.{IsValueWord, is_letter_or_digit, word_each, string, word, negative}
use Rattle.mysql_digests.proofs.LiteralForms.{introduced, literal_form, digits_value_word}
use Rattle.mysql_queries.specs.Alone.{begins}
use Rattle.mysql_digests.proofs.Disputes.{is_safe}
use Rattle.mysql_digests.proofs.TokenKinds.{apart_bytes, not_equal}

-- what makes one value of the pieces, and joins no operator before it
pub record IsForm (form : List Lexeme) : Type 0 where
  pub pieces : (s : List Piece) (ls : List Lexeme) → pieces_behind Apart s (form ++ ls) ≡
      pieces_behind Joined (with_value s) ls
  pub apart : (b : ℕ) (ls : List Lexeme) → with_operator_byte b (form ++ ls) ≡ Operator (b ∷ []) ∷ (form ++ ls)

value_form : IsForm (Value ∷ [])
value_form = record { pieces = λ s ls. refl; apart = λ b ls. refl }

word_pieces : (w : List ℕ) (s : List Piece) (ls : List Lexeme) → IsValueWord w →
    pieces_behind Apart s (Word w ∷ ls) ≡ pieces_behind Joined (with_value s) ls
word_pieces w s ls h =
    let e : with_word w s ≡ with_value s = rw h.value refl in
    ap (λ p. pieces_behind (if awaits_exponent w then Exponent else Joined) (if p &&
    value_follows ls then s else with_word w s) ls) h.no_prefix
    ∙ ap (λ p. pieces_behind (if p then Exponent else Joined) (with_word w s) ls) h.no_exponent ∙
    ap (λ y. pieces_behind Joined y ls) e

word_form : (w : List ℕ) → IsValueWord w → IsForm (Word w ∷ [])
word_form w h = record { pieces = λ s ls. word_pieces w s ls h; apart = λ b ls. refl }

sign_pieces : (d : ℕ) (ds : List ℕ) (s : List Piece) (ls : List Lexeme) → is_digit d ≡ true →
    pieces_behind Apart s (Byte dash ∷ Word (d ∷ ds) ∷ ls) ≡
    pieces_behind Apart s (Word (d ∷ ds) ∷ ls)
sign_pieces d ds s ls h = rw h refl

negative_form : (d : ℕ) (ds : List ℕ) → AllByRecursion (λ c. is_digit c ≡ true) (d ∷ ds) →
    IsForm (Byte dash ∷ Word (d ∷ ds) ∷ [])
negative_form d ds h = record {
  pieces = λ s ls. sign_pieces d ds s ls h.0 ∙ word_pieces (d ∷ ds) s ls (digits_value_word d ds h);
  apart = λ b ls. refl;
}

text_form : (w : List ℕ) → IsValueWord w → IsForm (Word (codes "_utf8mb4") ∷ Gap ∷ Word w ∷ [])
text_form w h = record { pieces = λ s ls. word_pieces w s ls h; apart = λ b ls. refl }

binary_form : (w : List ℕ) → IsValueWord w → IsForm (Word (codes "_binary") ∷ Gap ∷ Word w ∷ [])
binary_form w h = record { pieces = λ s ls. word_pieces w s ls h; apart = λ b ls. refl }

-- a literal's tokens, before others, make such a form
pub record Forms (m : Mode) (tokens : List (List ℕ)) : Type 0 where
  pub form : List Lexeme
  pub is : IsForm form
  pub stands : (others : List (List ℕ)) → NoWord (lexemes_of m others) →
      lexemes_of m (tokens ++ others) ≡ form ++ lexemes_of m others
  pub safe : AllByRecursion (λ t. begins is_safe t ≡ true) tokens

letter_safe : (b : ℕ) → is_letter_or_digit b ≡ true → is_safe b ≡ true
letter_safe b h = rw (
  not_equal b bracket (apart_bytes is_letter_or_digit b bracket h refl),
  not_equal b dollar (apart_bytes is_letter_or_digit b dollar h refl),
  not_equal b slash (apart_bytes is_letter_or_digit b slash h refl),
) refl

letters_safe : (w : List ℕ) → AllByRecursion (λ b. is_letter_or_digit b ≡ true) w →
    AllByRecursion (λ t. begins is_safe t ≡ true) (singles w)
letters_safe [] h = tt
letters_safe (b ∷ w) h = (letter_safe b h.0, letters_safe w h.1)

string_token : (m : Mode) (text bytes : List ℕ) → IsString (has_escapes m single_quote) text bytes →
    kind_of text ≡ Quoted single_quote
string_token m text bytes h = ap kind_of h.spelled

string_tokens : (m : Mode) (text bytes : List ℕ) →
    IsString (has_escapes m single_quote) text bytes → HasTokens m text (text ∷ [])
string_tokens m text bytes h = record {
  joined = append-nil text;
  each = (
    subst (λ k. HasShape m k text []) (sym (ap kind_of (append-nil text) ∙ string_token m text bytes h))
        (record {
          parts = h.parts;
          closing = single_quote ∷ [];
          inside = h.inside;
          spelled =
              h.spelled;
          closes = inl (refl, tt);
        }),
    tt,
  );
}

string_forms : (m : Mode) (text bytes : List ℕ) → IsString (has_escapes m single_quote) text bytes → Forms m (text ∷ [])
string_forms m text bytes h = record {
  form = Value ∷ [];
  is = value_form;
  stands = λ others n. ap (λ (k : Kind). with_token m k text (lexemes_of m others)) (string_token m text bytes h);
  safe = (ap (begins is_safe) h.spelled, tt);
}

word_stands : (w : List ℕ) (ls : List Lexeme) → IsValueWord w → NoWord ls → with_bytes w ls ≡ Word w ∷ ls
word_stands [] ls h n = absurd (h.some refl)
word_stands (b ∷ w) ls h n = word_bytes b w ls (word_each (b ∷ w) h.each) n

word_forms : (m : Mode) (w : List ℕ) → IsValueWord w → Forms m (singles w)
word_forms m w h = record {
  form = Word w ∷ [];
  is = word_form w h;
  stands = λ others n. singles_lexemes m w others (all_plain w (word_each w h.each)) ∙
      word_stands w (lexemes_of m others) h n;
  safe = letters_safe w h.each;
}

no_dash : (d : ℕ) → is_digit d ≡ true → (d == dash) ≡ false
no_dash d h = not_equal d dash (apart_bytes is_digit d dash h refl)

no_comment : (d : ℕ) (x : List ℕ) → is_digit d ≡ true → goes_on_as_dashes (d ∷ x) ≡ false
no_comment d [] h = no_dash d h
no_comment d (c ∷ x) h = rw (no_dash d h) refl

dash_kind : (d : ℕ) (x : List ℕ) → is_digit d ≡ true → kind_of (dash ∷ d ∷ x) ≡ Plain
dash_kind d x h = rw (no_comment d x h) refl

dash_tokens : (m : Mode) (d : ℕ) (x : List ℕ) (tokens : List (List ℕ)) → is_digit d ≡ true →
    HasTokens m (d ∷ x) tokens → HasTokens m (dash ∷ d ∷ x) ((dash ∷ []) ∷ tokens)
dash_tokens m d x tokens h k =
    front m (dash ∷ []) (d ∷ x) tokens
    (subst (λ y. HasShape m y (dash ∷ []) (d ∷ x)) (sym (dash_kind d x h)) (dash, refl)) k

negative_forms : (m : Mode) (d : ℕ) (ds : List ℕ) →
    AllByRecursion (λ c. is_digit c ≡ true) (d ∷ ds) → Forms m ((dash ∷ []) ∷ singles (d ∷ ds))
negative_forms m d ds h = record {
  form = Byte dash ∷ Word (d ∷ ds) ∷ [];
  is = negative_form d ds h;
  stands = λ others n.
      let v : IsValueWord (d ∷ ds) = digits_value_word d ds h in
      ap (λ (y : List Lexeme). Byte dash ∷
      y) (singles_lexemes m (d ∷ ds) others (all_plain (d ∷ ds) (word_each (d ∷ ds) v.each)) ∙
      word_stands (d ∷ ds) (lexemes_of m others) v n);
  safe = (refl, letters_safe (d ∷ ds) (digits_value_word d ds h).each);
}

introduced_plain : (introducer : List ℕ) → IsIntroducer introducer → AllByRecursion (λ b. is_plain b ≡ true) introducer
introduced_plain introducer (inl e) =
    subst (AllByRecursion (λ b. is_plain b ≡ true)) (sym e) (
      refl,
      (refl, (refl, (refl, (refl, (refl, (refl, (refl, (refl, tt)))))))),
    )
introduced_plain introducer (inr e) =
    subst (AllByRecursion (λ b. is_plain b ≡ true)) (sym e) (
      refl,
      (refl, (refl, (refl, (refl, (refl, (refl, (refl, tt))))))),
    )

plain_join : (xs ys : List ℕ) → AllByRecursion (λ b. is_plain b ≡ true) xs →
    AllByRecursion (λ b. is_plain b ≡ true) ys → AllByRecursion (λ b. is_plain b ≡ true) (xs ++ ys)
plain_join [] ys h k = k
plain_join (x ∷ xs) ys h k = (h.0, plain_join xs ys h.1 k)

text_stands : (w : List ℕ) (ls : List Lexeme) → with_bytes (text_introducer ++ w) ls ≡
    Word (codes "_utf8mb4") ∷ Gap ∷ with_bytes w ls
text_stands w ls = refl

binary_stands : (w : List ℕ) (ls : List Lexeme) → with_bytes (binary_introducer ++ w) ls ≡
    Word (codes "_binary") ∷ Gap ∷ with_bytes w ls
binary_stands w ls = refl

introduced_forms : (m : Mode) (introducer w : List ℕ) → IsIntroducer introducer → IsValueWord w →
    Forms m (singles (introducer ++ w))
introduced_forms m introducer w (inl e) h = subst (λ y. Forms m (singles (y ++ w))) (sym e) (record {
  form = Word (codes "_utf8mb4") ∷ Gap ∷ Word w ∷ [];
  is = text_form w h;
  stands = λ others n.
      singles_lexemes m (text_introducer ++
      w) others (plain_join text_introducer w (introduced_plain text_introducer (inl refl))
      (all_plain w (word_each w h.each)))
      ∙ text_stands w (lexemes_of m others) ∙
      ap (λ y. Word (codes "_utf8mb4") ∷ Gap ∷ y) (word_stands w (lexemes_of m others) h n);
  safe = (refl, (refl, (refl, (refl, (refl, (refl, (refl, (refl, (refl, letters_safe w h.each)))))))));
})
introduced_forms m introducer w (inr e) h = subst (λ y. Forms m (singles (y ++ w))) (sym e) (record {
  form = Word (codes "_binary") ∷ Gap ∷ Word w ∷ [];
  is = binary_form w h;
  stands = λ others n.
      singles_lexemes m (binary_introducer ++
      w) others (plain_join binary_introducer w (introduced_plain binary_introducer (inr refl))
      (all_plain w (word_each w h.each)))
      ∙ binary_stands w (lexemes_of m others) ∙
      ap (λ y. Word (codes "_binary") ∷ Gap ∷ y) (word_stands w (lexemes_of m others) h n);
  safe = (refl, (refl, (refl, (refl, (refl, (refl, (refl, (refl, letters_safe w h.each))))))));
})

no_tokens : (m : Mode) → HasTokens m [] []
no_tokens m = record { joined = refl; each = tt }

pub all_singles : (m : Mode) (text : List ℕ) → AllByRecursion (λ b. is_plain b ≡ true) text →
    HasTokens m text (singles text)
all_singles m text h = subst (HasTokens m text) (append-nil (singles text))
    (subst (λ y. HasTokens m y (singles text ++ [])) (append-nil text)
    (singles_tokens m text [] [] h (no_tokens m)))

-- the tokens of a literal make a form, whichever list of them is taken
pub literal_forms : (m : Mode) (sp : Spelling) (one : OneTokens) (text : List ℕ) (content : Content)
    (tokens : List (List ℕ)) → IsLiteral m sp text content → HasTokens m text tokens →
    Forms m tokens
literal_forms m sp one text content tokens l h = elim (literal_form m sp text content l) [
  | string bytes k ↦ subst (Forms m)
      (one m text (text ∷ []) tokens (string_tokens m text bytes k) h) (string_forms m text bytes k)
  | word k ↦ subst (Forms m)
      (one m text (singles text) tokens
      (all_singles m text (all_plain text (word_each text k.each))) h) (word_forms m text k)
  | negative digits e k ↦ negative_case digits e k
  | introduced introducer w i e k ↦ subst (Forms m)
      (one m text (singles (introducer ++ w)) tokens
      (subst (λ y. HasTokens m y (singles (introducer ++ w))) (sym e)
      (all_singles m (introducer ++
      w) (plain_join introducer w (introduced_plain introducer i)
      (all_plain w (word_each w k.each))))) h)
      (introduced_forms m introducer w i k)
]
  where
    negative_case : (digits : List ℕ) → text ≡ dash ∷ digits → AreDigits digits → Forms m tokens
    negative_case [] e k = absurd (k.some refl)
    negative_case (d ∷ ds) e k =
        subst (Forms m) (one m text ((dash ∷ []) ∷ singles (d ∷ ds)) tokens
        (subst (λ y. HasTokens m y ((dash ∷ []) ∷ singles (d ∷ ds))) (sym e)
        (dash_tokens m d ds (singles (d ∷ ds)) k.each.0
        (all_singles m (d ∷ ds) (all_plain (d ∷
        ds) (word_each (d ∷ ds) (digits_value_word d ds k.each).each))))) h)
        (negative_forms m d ds k.each)
