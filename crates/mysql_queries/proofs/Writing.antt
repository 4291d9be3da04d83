-- What a writer spells is a literal of its bytes.
use Rattle.std.proofs.Common.{◌≡◌, ◌≢◌, ℕ, ◌/◌, ◌%◌, ◌<◌, Bool, true, false, not, ◌&&◌, ◌||◌, ◌==◌, ◌⊎◌, if◌then◌else◌}
use Rattle.std.proofs.Common.{List, [], ◌∷◌, ◌++◌, flat_map, refl, sym, ap, ◌∙◌, inl, inr, arith, subst}
use Rattle.std.specs.List.{AllByRecursion}
use Rattle.std.proofs.lemmas.Bool.Decides.{nat_tests, eqb_tells}
use Rattle.mysql_queries.specs.Tokens.{Inside, Byte, Escape, Doubled, IsInside, inside_bytes, single_quote}
use Rattle.mysql_queries.specs.Tokens.{double_quote, backslash}
use Rattle.mysql_queries.specs.Literals.{IsHexLiteral, IsIntroducer, IsLiteral, IsString, SpellsInHex}
use Rattle.mysql_queries.specs.Literals.{binary_introducer, inside_content, is_hex, hex_value, text_introducer}
use Rattle.mysql_bytes.specs.declared.mode.Mode.{Mode}
use Rattle.mysql_bytes.specs.declared.content.Content.TheVariants.{Bytes}
use Rattle.std.specs.Str.{is_utf8}
use Rattle.mysql_queries.specs.Written.{in_hexadecimal, written_byte, quoted, hex_digit}
use Rattle.mysql_queries.specs.Laws.{PlainIsRead, WrittenIsRead}
use Rattle.mysql_bytes.specs.declared.spelling.Spelling.{Spelling}

-- the part that a byte is written as
record WrittenAs (no_backslash_escapes : Bool) (b : ℕ) : Type 0 where
  part : Inside
  inside : IsInside (not no_backslash_escapes) single_quote part
  spelled : written_byte no_backslash_escapes b ≡ inside_bytes single_quote part
  read : b ∷ [] ≡ inside_content part

escaped_as : (b : ℕ) → WrittenAs false b
escaped_as b =
    elim (eqb_tells b 0x00) [
      | inl e ↦ subst (WrittenAs false) (sym e.1)
          (record { part = Escape 0x30; inside = refl; spelled = refl; read = refl })
      | inr e0 ↦
          elim (eqb_tells b 0x0a) [
            | inl e ↦ subst (WrittenAs false) (sym e.1)
                (record { part = Escape 0x6e; inside = refl; spelled = refl; read = refl })
            | inr e1 ↦
                elim (eqb_tells b 0x0d) [
                  | inl e ↦ subst (WrittenAs false) (sym e.1)
                      (record { part = Escape 0x72; inside = refl; spelled = refl; read = refl })
                  | inr e2 ↦
                      elim (eqb_tells b 0x1a) [
                        | inl e ↦ subst (WrittenAs false) (sym e.1)
                            (record {
                              part = Escape 0x5a;
                              inside = refl;
                              spelled = refl;
                              read =
                                  refl;
                            })
                        | inr e3 ↦
                            elim (eqb_tells b backslash) [
                              | inl e ↦ subst (WrittenAs false) (sym e.1)
                                  (record {
                                    part = Escape backslash;
                                    inside = refl;
                                    spelled =
                                        refl;
                                    read = refl;
                                  })
                              | inr e4 ↦
                                  elim (eqb_tells b single_quote) [
                                    | inl e ↦ subst (WrittenAs false) (sym e.1)
                                        (record {
                                          part = Escape single_quote;
                                          inside =
                                              refl;
                                          spelled = refl;
                                          read = refl;
                                        })
                                    | inr e5 ↦
                                        elim (eqb_tells b double_quote) [
                                          | inl e ↦ subst (WrittenAs false) (sym e.1)
                                              (record {
                                                part = Escape double_quote;
                                                inside =
                                                    refl;
                                                spelled = refl;
                                                read = refl;
                                              })
                                          | inr e6 ↦
                                              record {
                                                part = Byte b;
                                                inside =
                                                    (e5.1, λ _. e4.1);
                                                spelled =
                                                    rw (
                                                      e0.0,
                                                      e1.0,
                                                      e2.0,
                                                      e3.0,
                                                      e4.0,
                                                      e5.0,
                                                      e6.0,
                                                    ) refl;
                                                read = refl;
                                              }
                                        ]
                                  ]
                            ]
                      ]
                ]
          ]
    ]

-- without escapes the quote is doubled
doubled_as : (b : ℕ) → WrittenAs true b
doubled_as b =
    elim (eqb_tells b single_quote) [
      | inl e ↦ subst (WrittenAs true) (sym e.1) (record { part = Doubled; inside = tt; spelled = refl; read = refl })
      | inr e ↦ record {
        part = Byte b;
        inside =
            (e.1, λ k. let f : false ≡ true = k in cc);
        spelled = rw e.0 refl;
        read = refl;
      }
    ]

written_as : (no_backslash_escapes : Bool) (b : ℕ) → WrittenAs no_backslash_escapes b
written_as true b = doubled_as b
written_as false b = escaped_as b

-- the parts that bytes are spelled as
record SpelledAs (escapes : Bool) (spelling bytes : List ℕ) : Type 0 where
  parts : List Inside
  inside : AllByRecursion (IsInside escapes single_quote) parts
  spelled : spelling ≡ flat_map (inside_bytes single_quote) parts
  read : bytes ≡ flat_map inside_content parts

all_written : (no_backslash_escapes : Bool) (bytes : List ℕ) →
    SpelledAs (not no_backslash_escapes) (flat_map (written_byte no_backslash_escapes) bytes) bytes
all_written no_backslash_escapes [] = record { parts = []; inside = tt; spelled = refl; read = refl }
all_written no_backslash_escapes (b ∷ bytes) =
    more no_backslash_escapes b bytes (written_as no_backslash_escapes b)
    (all_written no_backslash_escapes bytes)
  where
    more : (no_backslash_escapes : Bool) (b : ℕ) (bytes : List ℕ) →
        WrittenAs no_backslash_escapes b →
        SpelledAs (not no_backslash_escapes) (flat_map (written_byte no_backslash_escapes) bytes)
        bytes
        → SpelledAs (not no_backslash_escapes) (flat_map (written_byte no_backslash_escapes) (b ∷ bytes)) (b ∷ bytes)
    more no_backslash_escapes b bytes w o = record {
      parts = w.part ∷ o.parts;
      inside = (w.inside, o.inside);
      spelled = ap (λ y. y ++ flat_map (written_byte no_backslash_escapes) bytes) w.spelled ∙
          ap (λ y. inside_bytes single_quote w.part ++ y) o.spelled;
      read = ap (λ y. b ∷ y) o.read ∙ ap (λ y. y ++ flat_map inside_content o.parts) w.read;
    }

all_plain : (escapes : Bool) (bytes : List ℕ) →
    AllByRecursion (λ b. (b ≢ single_quote) × (b ≢ backslash)) bytes → SpelledAs escapes bytes bytes
all_plain escapes [] h = record { parts = []; inside = tt; spelled = refl; read = refl }
all_plain escapes (b ∷ bytes) h =
    let o : SpelledAs escapes bytes bytes = all_plain escapes bytes h.1 in
    record {
      parts = Byte b ∷ o.parts;
      inside = ((h.0.0, λ _. h.0.1), o.inside);
      spelled =
          ap (λ y. b ∷ y) o.spelled;
      read = ap (λ y. b ∷ y) o.read;
    }

in_quotes : (escapes : Bool) (spelling bytes : List ℕ) → SpelledAs escapes spelling bytes →
    IsString escapes (single_quote ∷ (spelling ++ single_quote ∷ [])) bytes
in_quotes escapes spelling bytes o =
    record {
      parts = o.parts;
      inside = o.inside;
      spelled =
          ap (λ y. single_quote ∷ (y ++ single_quote ∷ [])) o.spelled;
      read = o.read;
    }

quoted_read : (mode : Mode) (sp : Spelling) (bytes : List ℕ) →
    IsLiteral mode sp (quoted mode.no_backslash_escapes bytes) (Bytes bytes)
quoted_read mode sp bytes =
    inl (in_quotes (not mode.no_backslash_escapes)
    (flat_map (written_byte mode.no_backslash_escapes) bytes) bytes
    (all_written mode.no_backslash_escapes bytes))

pub plain_is_read : PlainIsRead
plain_is_read mode sp bytes h =
    inl (in_quotes (not mode.no_backslash_escapes) bytes bytes
    (all_plain (not mode.no_backslash_escapes) bytes h))

digit_is_hex : (n : ℕ) → n < 16 → is_hex (hex_digit n) ≡ true
digit_is_hex n h = grind (arith, nat_tests)

digit_value : (n : ℕ) → n < 16 → hex_value (hex_digit n) ≡ n
digit_value n h = grind (arith, nat_tests)

all_hexadecimal : (bytes : List ℕ) → AllByRecursion (λ b. b < 256) bytes →
    SpellsInHex (flat_map (λ b. hex_digit (b / 16) ∷ hex_digit (b % 16) ∷ []) bytes) bytes
all_hexadecimal [] h = tt
all_hexadecimal (b ∷ bytes) h =
    let high : b / 16 < 16 = omega (arith, h.0) in
    let low : b % 16 < 16 = omega arith in
    let m : hex_value (hex_digit (b / 16)) ≡ b / 16 = digit_value (b / 16) high in
    let n : hex_value (hex_digit (b % 16)) ≡ b % 16 = digit_value (b % 16) low in
    (digit_is_hex (b / 16) high, digit_is_hex (b % 16) low, omega (arith, m, n), all_hexadecimal bytes h.1)

hex_literal : (bytes : List ℕ) → AllByRecursion (λ b. b < 256) bytes → bytes ≢ [] →
    IsHexLiteral (in_hexadecimal bytes) bytes
hex_literal bytes h n = record {
  digits =
      flat_map (λ b. hex_digit (b / 16) ∷ hex_digit (b % 16) ∷ []) bytes;
  spelled = refl;
  spells =
      all_hexadecimal bytes h;
  some = n;
}

introducer_of : (text : Bool) → IsIntroducer (if text then text_introducer else binary_introducer)
introducer_of true = inl refl
introducer_of false = inr refl

pub written_is_read : WrittenIsRead
written_is_read = record {
  quotes = quoted_read;
  digits = λ mode sp bytes h n. inr (inl (hex_literal bytes h n));
  introducers = λ mode bytes h n. inr (inr (record {
    allowed = refl;
    introducer = if is_utf8 bytes then text_introducer else binary_introducer;
    literal = in_hexadecimal bytes;
    is = introducer_of (is_utf8 bytes);
    spelled = refl;
    hexadecimal = hex_literal bytes h n;
  }));
}
