-- What a literal's spelling is made of.
use Rattle.std.proofs.Common.{◌≡◌, ◌≢◌, ℕ, ◌+◌, Bool, true, false, ◌&&◌, ◌||◌, ◌==◌, List, [], ◌∷◌, ◌++◌, map, refl}
use Rattle.std.proofs.Common.{sym, ap, ◌∙◌, inl, inr, subst, codes, arith}
use Rattle.std.specs.List.{AllByRecursion}
use Rattle.std.proofs.lemmas.Bool.Decides.{nat_tests}
use Rattle.std.specs.Char.{to_ascii_lowercase}
use Rattle.std.specs.Str.{bytes_eq, str_eq_ignore_ascii_case, str_to_ascii_lowercase}
use Rattle.mysql_queries.specs.Tokens.{has_escapes, is_within, single_quote, dash}
use Rattle.mysql_queries.specs.Literals.{lower, is_digit, AreDigits, IsString, is_hex, SpellsInHex, IsHexLiteral}
use Rattle.mysql_queries.specs.Literals.{IsIntroducer, IsLiteral}
use Rattle.mysql_queries.specs.Queries.{is_joining}
use Rattle.mysql_bytes.specs.declared.content.Content.{Content}
use Rattle.mysql_bytes.specs.declared.content.Content.TheVariants.{Null, Number, Bytes}
use Rattle.mysql_bytes.specs.declared.mode.Mode.{Mode}
use Rattle.mysql_bytes.specs.declared.spelling.Spelling.{Spelling}
use Rattle.mysql_digests.specs.Digest.{is_value, is_word_byte, begins_number, is_string_prefix, ends_in_e}
use Rattle.mysql_digests.specs.Digest.{awaits_exponent, dot}
use Rattle.mysql_queries.proofs.FirstBytes.{bool_tells}
use Rattle.mysql_digests.proofs.TokenKinds.{plain_by}

pub or_first : (p q : Bool) → p ≡ true → (p || q) ≡ true
or_first true q h = refl
or_first false q h = cc

pub or_last : (p q : Bool) → q ≡ true → (p || q) ≡ true
or_last true q h = refl
or_last false q h = h

-- a digit or a letter
abbrev pub is_letter_or_digit : ℕ → Bool
is_letter_or_digit b = is_within 0x30 0x39 b || is_within 0x41 0x5a b || is_within 0x61 0x7a b

joins_by : (b : ℕ) → is_letter_or_digit b ≡ true → is_joining b ≡ true
joins_by b h = or_first _ _
    (or_first _ _ (or_first _ _
    (or_first _ _ (or_first _ _ (or_first _ _ (or_first _ _ (or_first _ _ (or_first _ _ h))))))))

letter_word : (b : ℕ) → is_letter_or_digit b ≡ true → is_word_byte b ≡ true
letter_word b h = rw (joins_by b h, plain_by is_letter_or_digit b h refl refl refl refl refl refl refl refl) refl

hex_word : (b : ℕ) → is_hex b ≡ true → is_letter_or_digit b ≡ true
hex_word b h = grind (arith, nat_tests)

-- one of the letters is a letter in lower case or in upper case
lower_word : (b l : ℕ) → is_within 0x61 0x7a l ≡ true → lower b ≡ l → is_letter_or_digit b ≡ true
lower_word b l h e = elim (bool_tells (is_within 0x41 0x5a b)) [
  | inl k ↦ or_first _ _ (or_last (is_within 0x30 0x39 b) _ k)
  | inr k ↦ let f : lower b ≡ b = rw k refl in
      or_last _ (is_within 0x61 0x7a b) (subst (λ c. is_within 0x61 0x7a c ≡ true) (sym e ∙ f) h)
]

-- Letters and digits, and a value by itself: neither a string nor an exponent goes on behind it.
pub record IsValueWord (word : List ℕ) : Type 0 where
  pub each : AllByRecursion (λ b. is_letter_or_digit b ≡ true) word
  pub some : word ≢ []
  pub value : is_value word ≡ true
  pub no_prefix : is_string_prefix word ≡ false
  pub no_exponent : awaits_exponent word ≡ false

-- its bytes are those of a word
pub word_each : (word : List ℕ) → AllByRecursion (λ b. is_letter_or_digit b ≡ true) word →
    AllByRecursion (λ b. is_word_byte b ≡ true) word
word_each [] h = tt
word_each (b ∷ word) h = (letter_word b h.0, word_each word h.1)

digits_words : (digits : List ℕ) → AllByRecursion (λ b. is_digit b ≡ true) digits →
    AllByRecursion (λ b. is_letter_or_digit b ≡ true) digits
digits_words [] h = tt
digits_words (b ∷ digits) h = (or_first _ _ (or_first _ _ h.0), digits_words digits h.1)

number_begins : (b : ℕ) (bytes : List ℕ) → is_digit b ≡ true → begins_number (b ∷ bytes) ≡ true
number_begins b [] h = h
number_begins b (c ∷ bytes) h = or_first _ _ h

number_value : (b : ℕ) (bytes : List ℕ) → is_digit b ≡ true → is_value (b ∷ bytes) ≡ true
number_value b bytes h = or_first _ _ (or_first _ _ (or_first _ _ (number_begins b bytes h)))

-- a digit is none of the letters with which strings begin, and no `e`
digit_no_prefix : (b : ℕ) → is_digit b ≡ true →
    ((b == 0x78) || (b == 0x58) || (b == 0x62) || (b == 0x42) || (b == 0x6e) || (b == 0x4e)) ≡ false
digit_no_prefix b h = grind (arith, nat_tests)

digit_no_e : (b : ℕ) → is_digit b ≡ true → ((b == 0x65) || (b == 0x45)) ≡ false
digit_no_e b h = grind (arith, nat_tests)

digits_no_prefix : (b : ℕ) (digits : List ℕ) → is_digit b ≡ true → is_string_prefix (b ∷ digits) ≡ false
digits_no_prefix b [] h = digit_no_prefix b h
digits_no_prefix b (c ∷ digits) h = refl

and_last : (p q : Bool) → q ≡ false → (p && q) ≡ false
and_last true q h = h
and_last false q h = refl

digits_no_e : (b : ℕ) (digits : List ℕ) → AllByRecursion (λ c. is_digit c ≡ true) (b ∷ digits) →
    ends_in_e (b ∷ digits) ≡ false
digits_no_e b [] h = digit_no_e b h.0
digits_no_e b (c ∷ digits) h = and_last (is_digit b || (b == dot)) (ends_in_e (c ∷ digits)) (digits_no_e c digits h.1)

pub digits_value_word : (b : ℕ) (digits : List ℕ) →
    AllByRecursion (λ c. is_digit c ≡ true) (b ∷ digits) → IsValueWord (b ∷ digits)
digits_value_word b digits h = record {
  each = digits_words (b ∷ digits) h;
  some = λ e. cc;
  value = number_value b digits h.0;
  no_prefix = digits_no_prefix b digits h.0;
  no_exponent = and_last (begins_number (b ∷ digits)) (ends_in_e (b ∷ digits)) (digits_no_e b digits h);
}

spells_words : (digits bytes : List ℕ) → SpellsInHex digits bytes →
    AllByRecursion (λ b. is_letter_or_digit b ≡ true) digits
spells_words [] [] h = tt
spells_words [] (b ∷ bytes) h = elim h [ ]
spells_words (a ∷ []) bytes h = elim h [ ]
spells_words (a ∷ c ∷ digits) [] h = elim h [ ]
spells_words (a ∷ c ∷ digits) (b ∷ bytes) h = (hex_word a h.0, (hex_word c h.1, spells_words digits bytes h.3))

hex_no_exponent : (digits : List ℕ) → awaits_exponent (0x30 ∷ 0x78 ∷ digits) ≡ false
hex_no_exponent [] = refl
hex_no_exponent (b ∷ digits) = refl

hex_value_word : (word bytes : List ℕ) → IsHexLiteral word bytes → IsValueWord word
hex_value_word word bytes h =
    subst IsValueWord (sym h.spelled)
    (record {
      each = (refl, (refl, spells_words h.digits bytes h.spells));
      some = λ e. cc;
      value =
          refl;
      no_prefix = refl;
      no_exponent = hex_no_exponent h.digits;
    })

-- one of the letters is the letter in lower case or in upper case
each_case : (P : ℕ → Type 0) (b l u : ℕ) → u + 0x20 ≡ l → lower b ≡ l → P l → P u → P b
each_case P b l u f e p q = elim (bool_tells (is_within 0x41 0x5a b)) [
  | inl k ↦ (let g : lower b ≡ b + 0x20 = rw k refl in let n : b + 0x20 ≡ l = sym g ∙ e in
      let v : u ≡ b = omega arith in subst P v q)
  | inr k ↦ (let g : lower b ≡ b = rw k refl in subst P (sym e ∙ g) p)
]

letter_no_digit : (a : ℕ) → lower a ≡ 0x6e → is_digit a ≡ false
letter_no_digit a e = each_case (λ y. is_digit y ≡ false) a 0x6e 0x4e refl e refl refl

letter_no_dot : (a : ℕ) → lower a ≡ 0x6e → (a == dot) ≡ false
letter_no_dot a e = each_case (λ y. (y == dot) ≡ false) a 0x6e 0x4e refl e refl refl

null_value : (a b c d : ℕ) → lower a ≡ 0x6e → lower b ≡ 0x75 → lower c ≡ 0x6c → lower d ≡ 0x6c →
    IsValueWord (a ∷ b ∷ c ∷ d ∷ [])
null_value a b c d e f g h =
    let ea : to_ascii_lowercase a ≡ 0x6e = each_case (λ y. to_ascii_lowercase y ≡ 0x6e) a 0x6e 0x4e refl e refl refl in
    let eb : to_ascii_lowercase b ≡ 0x75 = each_case (λ y. to_ascii_lowercase y ≡ 0x75) b 0x75 0x55 refl f refl refl in
    let ec : to_ascii_lowercase c ≡ 0x6c = each_case (λ y. to_ascii_lowercase y ≡ 0x6c) c 0x6c 0x4c refl g refl refl in
    let ed : to_ascii_lowercase d ≡ 0x6c = each_case (λ y. to_ascii_lowercase y ≡ 0x6c) d 0x6c 0x4c refl h refl refl in
    let n : str_eq_ignore_ascii_case (a ∷ b ∷ c ∷ d ∷ []) (codes "null") ≡ true =
    ap (λ y. bytes_eq (y ∷ to_ascii_lowercase b ∷ to_ascii_lowercase c ∷ to_ascii_lowercase d ∷
    []) (str_to_ascii_lowercase (codes "null"))) ea
    ∙ ap (λ y. bytes_eq (0x6e ∷ y ∷ to_ascii_lowercase c ∷ to_ascii_lowercase d ∷
    []) (str_to_ascii_lowercase (codes "null"))) eb
    ∙ ap (λ y. bytes_eq (0x6e ∷ 0x75 ∷ y ∷ to_ascii_lowercase d ∷ []) (str_to_ascii_lowercase (codes "null"))) ec
    ∙ ap (λ y. bytes_eq (0x6e ∷ 0x75 ∷ 0x6c ∷ y ∷ []) (str_to_ascii_lowercase (codes "null"))) ed in
    record {
      each = (
        lower_word a 0x6e refl e,
        (lower_word b 0x75 refl f, (lower_word c 0x6c refl g, (lower_word d 0x6c refl h, tt))),
      );
      some = λ x. cc;
      value = or_first _ _ (or_first _ _ (or_last _ _ n));
      no_prefix = refl;
      no_exponent = ap (λ p. (p || ((a == dot) && is_digit b)) && ends_in_e (a ∷ b ∷ c ∷ d ∷ []))
          (letter_no_digit a e) ∙ ap (λ p. (false || (p && is_digit b)) &&
          ends_in_e (a ∷ b ∷ c ∷ d ∷ [])) (letter_no_dot a e);
    }

null_word : (word : List ℕ) → map lower word ≡ codes "null" → IsValueWord word
null_word [] h = cc
null_word (a ∷ []) h = cc
null_word (a ∷ b ∷ []) h = cc
null_word (a ∷ b ∷ c ∷ []) h = cc
null_word (a ∷ b ∷ c ∷ d ∷ []) h = null_value a b c d (cc) (cc) (cc) (cc)
null_word (a ∷ b ∷ c ∷ d ∷ e ∷ x) h = cc

-- The form of a literal: a string, a word that is a value, digits behind a dash, or an introducer and
-- such a word.
pub data LiteralForm (escapes : Bool) (text : List ℕ) : Type 0 where
  string : (bytes : List ℕ) → IsString escapes text bytes → LiteralForm escapes text
  word : IsValueWord text → LiteralForm escapes text
  negative : (digits : List ℕ) → text ≡ dash ∷ digits → AreDigits digits → LiteralForm escapes text
  introduced : (introducer word : List ℕ) → IsIntroducer introducer → text ≡ introducer ++ word →
      IsValueWord word → LiteralForm escapes text

digits_word : (digits : List ℕ) → AreDigits digits → IsValueWord digits
digits_word [] h = absurd (h.some refl)
digits_word (b ∷ digits) h = digits_value_word b digits h.each

pub literal_form : (mode : Mode) (sp : Spelling) (text : List ℕ) (content : Content) →
    IsLiteral mode sp text content → LiteralForm (has_escapes mode single_quote) text
literal_form mode sp text Null h = word (null_word text h)
literal_form mode sp text (Number z) h = elim h.value [
  | inl k ↦ word (subst IsValueWord (sym k.0) (digits_word h.digits h.are))
  | inr k ↦ negative h.digits k.0 h.are
]
literal_form mode sp text (Bytes bytes) (inl h) = string bytes h
literal_form mode sp text (Bytes bytes) (inr (inl h)) = word (hex_value_word text bytes h)
literal_form mode sp text (Bytes bytes) (inr (inr h)) =
    introduced h.introducer h.literal h.is h.spelled (hex_value_word h.literal bytes h.hexadecimal)
