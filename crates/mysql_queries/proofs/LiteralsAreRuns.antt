-- A literal before what begins apart is the run that is read there.
use Rattle.std.proofs.Common.{◌≡◌, ◌≢◌, ℕ, Bool, true, false, ◌&&◌, ◌==◌, List, [], ◌∷◌, ◌++◌, refl, sym, ap, ◌∙◌, inl}
use Rattle.std.proofs.Common.{inr, ℤ}
use Rattle.std.specs.List.{AllByRecursion}
use Rattle.mysql_queries.specs.Tokens.{single_quote, dash}
use Rattle.mysql_queries.specs.Literals.{is_digit, is_hex, AreDigits, IsNumber, SpellsInHex, IsHexLiteral, IsLiteral}
use Rattle.mysql_bytes.specs.declared.content.Content.{Content}
use Rattle.mysql_bytes.specs.declared.content.Content.TheVariants.{Null, Number, Bytes}
use Rattle.mysql_queries.specs.LiteralRuns.{EndsBefore, begins_hex, IsDigitRun, IsHexRun, IsLiteralRun}
use Rattle.mysql_bytes.specs.declared.mode.Mode.{Mode}
use Rattle.mysql_queries.specs.Queries.{is_joining}
use Rattle.mysql_queries.proofs.Follow.{BeginsApart, not_equal}
use Rattle.mysql_queries.proofs.Spellings.{is_word, digit_word, hex_word, apart_bytes, apart_otherwise}
use Rattle.mysql_queries.proofs.OneContent.{word_joins}
use Rattle.mysql_bytes.specs.declared.spelling.Spelling.{Spelling}

ends_before : (p : ℕ → Bool) → ((b : ℕ) → p b ≡ true → is_word b ≡ true) → (r : List ℕ) → BeginsApart r → EndsBefore p r
ends_before p w [] h = tt
ends_before p w (b ∷ r) h = no (p b) refl
  where
    no : (q : Bool) → p b ≡ q → p b ≡ false
    no true e = absurd (let f : true ≡ false = sym (word_joins b (w b e)) ∙ h in cc)
    no false e = e

not_x : (b : ℕ) → b ≢ 0x78 → (a : ℕ) → ((a == 0x30) && (b == 0x78)) ≡ false
not_x b n a = ap (λ q. (a == 0x30) && q) (not_equal b 0x78 n) ∙ none (a == 0x30)
  where
    none : (q : Bool) → (q && false) ≡ false
    none true = refl
    none false = refl

digits_no_hex : (digits r : List ℕ) → AreDigits digits → BeginsApart r → begins_hex (digits ++ r) ≡ false
digits_no_hex [] r d h = absurd (d.some refl)
digits_no_hex (a ∷ []) [] d h = refl
digits_no_hex (a ∷ []) (b ∷ r) d h = not_x b (λ e. let f : true ≡ false = sym (ap is_joining e) ∙ h in cc) a
digits_no_hex (a ∷ b ∷ digits) r d h = not_x b (apart_bytes is_digit b 0x78 d.each.1.0 refl) a

dash_no_hex : (x : List ℕ) → begins_hex (dash ∷ x) ≡ false
dash_no_hex [] = refl
dash_no_hex (b ∷ x) = refl

number_run : (s : List ℕ) (z : ℤ) (r : List ℕ) → IsNumber s z → BeginsApart r → IsDigitRun s r
number_run s z r k h = record {
  digits = k.digits;
  each = k.are.each;
  spelled = elim k.value [ inl v ↦ inl v.0 | inr v ↦ inr v.0 ];
  ends = ends_before is_digit digit_word r h;
  other = elim k.value [
    | inl v ↦ ap (λ y. begins_hex (y ++ r)) v.0 ∙ digits_no_hex k.digits r k.are h
    | inr v ↦ ap (λ y. begins_hex (y ++ r)) v.0 ∙ dash_no_hex (k.digits ++ r)
  ];
}

pub all_hex : (digits bytes : List ℕ) → SpellsInHex digits bytes → AllByRecursion (λ b. is_hex b ≡ true) digits
all_hex [] [] h = tt
all_hex [] (b ∷ bytes) h = elim h [ ]
all_hex (a ∷ []) bytes h = elim h [ ]
all_hex (a ∷ c ∷ digits) [] h = elim h [ ]
all_hex (a ∷ c ∷ digits) (b ∷ bytes) h = (h.0, (h.1, all_hex digits bytes h.3))

hex_run : (s bytes r : List ℕ) → IsHexLiteral s bytes → BeginsApart r → IsHexRun s r
hex_run s bytes r h a = record {
  digits = h.digits;
  each =
      all_hex h.digits bytes h.spells;
  spelled = h.spelled;
  ends = ends_before is_hex hex_word r a;
}

pub literal_is_run : (mode : Mode) (sp : Spelling) (s : List ℕ) (c : Content) (r : List ℕ) →
    IsLiteral mode sp s c → BeginsApart r → IsLiteralRun mode sp s r
literal_is_run mode sp s Null r h a = inl h
literal_is_run mode sp s (Number z) r h a = inr (inr (inr (inl (number_run s z r h a))))
literal_is_run mode sp s (Bytes bytes) r (inl h) a =
    inr (inl (record {
      parts = h.parts;
      closing = single_quote ∷ [];
      inside = h.inside;
      spelled =
          h.spelled;
      closes = inl (refl, apart_otherwise r a);
    }))
literal_is_run mode sp s (Bytes bytes) r (inr (inl h)) a = inr (inr (inl (hex_run s bytes r h a)))
literal_is_run mode sp s (Bytes bytes) r (inr (inr h)) a =
    inr (inr (inr (inr (record {
      allowed = h.allowed;
      introducer = h.introducer;
      literal =
          h.literal;
      is = h.is;
      spelled = h.spelled;
      hexadecimal =
          hex_run h.literal bytes r h.hexadecimal a;
    }))))
