-- Some spellings.
use Rattle.std.proofs.Common.{◌≢◌, flat_map, ◌≡◌, ℕ, Bool, List, [], ◌∷◌, true, false, refl, inl, inr, arith, codes}
use Rattle.std.proofs.Common.{◌⊎◌, ◌++◌, ap, ◌∙◌, sym, map, drop, get_or}
use Rattle.std.specs.List.{AllByRecursion}
use Rattle.mysql_queries.specs.Tokens.{has_escapes, single_quote, Byte, Escape, Doubled, inside_bytes}
use Rattle.mysql_queries.specs.Literals.{IsIntroduced, IsLiteral, IsString, binary_introducer, is_digit, lower}
use Rattle.mysql_queries.specs.Literals.{SpellsInHex, text_introducer}
use Rattle.mysql_bytes.specs.declared.content.Content.{Content}
use Rattle.mysql_bytes.specs.declared.content.Content.TheVariants.{Null, Number, Bytes}
use Rattle.mysql_bytes.specs.declared.mode.Mode.{Mode}
use Rattle.mysql_queries.specs.Laws.{WorkedSpellings}
use Rattle.mysql_queries.proofs.Spellings.{IsIntroducedWord, IsWord, literal_form, AreWord, is_word}
use Rattle.mysql_bytes.specs.declared.spelling.Spelling.{Spelling}
use Rattle.mysql_bytes.specs.declared.spelling.Spelling.TheVariants.{Hexadecimal, Quoted}

no_word : (s : List ℕ) → s ≡ codes "+5" → IsWord s → ⊥
no_word s e w = elim w.spelled [
  | inl f ↦ plus_run w.run w.each (sym f ∙ e)
  | inr f ↦ (let g : 0x2d ∷ w.run ≡ 0x2b ∷ 0x35 ∷ [] = sym f ∙ e in let n : ◌≡◌ {A = ℕ} 0x2d 0x2b =
      cc in absurd (omega arith))
]
  where
    plus_run : (run : List ℕ) → AreWord run → run ≡ 0x2b ∷ 0x35 ∷ [] → ⊥
    plus_run [] h e = cc
    plus_run (b ∷ x) h e = let g : b ≡ 0x2b = cc in let k : true ≡ false = sym h.0 ∙ ap is_word g in cc

other_first : (a b : ℕ) (x y : List ℕ) → a ∷ x ≡ b ∷ y → a ≢ b → ⊥
other_first a b x y e n = n (cc)

plus_quote : (escapes : Bool) (s : List ℕ) → s ≡ codes "+5" → (bytes : List ℕ) → IsString escapes s bytes → ⊥
plus_quote escapes s e bytes h =
    other_first 0x2b 0x27 (0x35 ∷ []) (flat_map (inside_bytes 0x27) h.parts ++ 0x27 ∷ []) (sym e ∙
    h.spelled) (λ k. absurd (omega arith))

plus_introduced : (s : List ℕ) → s ≡ codes "+5" → IsIntroducedWord s → ⊥
plus_introduced s e w = elim w.is [
  | inl f ↦ other_first 0x2b 0x5f (0x35 ∷ []) (codes "utf8mb4 " ++ w.run) (sym e ∙ w.spelled ∙
      ap (λ y. y ++ w.run) f) (λ k. absurd (omega arith))
  | inr f ↦ other_first 0x2b 0x5f (0x35 ∷ []) (codes "binary " ++ w.run) (sym e ∙ w.spelled ∙
      ap (λ y. y ++ w.run) f) (λ k. absurd (omega arith))
]

plus_form : (escapes : Bool) (s : List ℕ) → s ≡ codes "+5" →
    ((bytes : List ℕ) × IsString escapes s bytes) ⊎ (IsWord s ⊎ IsIntroducedWord s) → ⊥
plus_form escapes s e (inl h) = plus_quote escapes s e h.0 h.1
plus_form escapes s e (inr (inl w)) = no_word s e w
plus_form escapes s e (inr (inr w)) = plus_introduced s e w

odd_number : (d : List ℕ) → AllByRecursion (λ b. is_digit b ≡ true) d → d ≡ 0x30 ∷ 0x78 ∷ 0x34 ∷ [] → ⊥
odd_number [] h e = cc
odd_number (a ∷ []) h e = cc
odd_number (a ∷ b ∷ d) h e = let g : b ≡ 0x78 = cc in let k : true ≡ false = sym h.1.0 ∙ ap is_digit g in cc

odd_hex : (d bytes : List ℕ) → d ≡ 0x34 ∷ [] → SpellsInHex d bytes → ⊥
odd_hex [] bytes e h = cc
odd_hex (a ∷ []) bytes e h = h
odd_hex (a ∷ b ∷ d) bytes e h = cc

odd : (mode : Mode) (sp : Spelling) (content : Content) → IsLiteral mode sp (codes "0x4") content → ⊥
odd mode sp Null h = cc
odd mode sp (Number z) h = elim h.value [
  | inl k ↦ odd_number h.digits h.are.each (sym k.0)
  | inr k ↦ (let g : 0x30 ∷ 0x78 ∷ 0x34 ∷ [] ≡ 0x2d ∷ h.digits = k.0 in
      let n : ◌≡◌ {A = ℕ} 0x30 0x2d = cc in absurd (omega arith))
]
odd mode sp (Bytes bytes) (inl h) =
    other_first 0x30 0x27 (0x78 ∷ 0x34 ∷ []) (flat_map (inside_bytes 0x27) h.parts ++ 0x27 ∷
    []) h.spelled (λ k. absurd (omega arith))
odd mode sp (Bytes bytes) (inr (inr h)) = elim h.is [
  | inl f ↦ other_first 0x30 0x5f (0x78 ∷ 0x34 ∷ []) (codes "utf8mb4 " ++ h.literal) (h.spelled ∙
      ap (λ y. y ++ h.literal) f) (λ k. absurd (omega arith))
  | inr f ↦ other_first 0x30 0x5f (0x78 ∷ 0x34 ∷ []) (codes "binary " ++ h.literal) (h.spelled ∙
      ap (λ y. y ++ h.literal) f) (λ k. absurd (omega arith))
]
odd mode sp (Bytes bytes) (inr (inl h)) = let g : 0x30 ∷ 0x78 ∷ 0x34 ∷ [] ≡ 0x30 ∷ 0x78 ∷ h.digits =
    h.spelled in odd_hex h.digits bytes (cc) h.spells

-- a text that begins with an underscore is a literal behind an introducer alone
under_number : (d x : List ℕ) → AllByRecursion (λ b. is_digit b ≡ true) d → d ≡ 0x5f ∷ x → ⊥
under_number [] x h e = cc
under_number (a ∷ d) x h e = let g : a ≡ 0x5f = cc in let k : true ≡ false = sym h.0 ∙ ap is_digit g in cc

under : (mode : Mode) (sp : Spelling) (x : List ℕ) (content : Content) →
    map lower (0x5f ∷ x) ≢ codes "null" → IsLiteral mode sp (0x5f ∷ x) content → (bytes : List ℕ) ×
    IsIntroduced sp (0x5f ∷ x) bytes
under mode sp x Null n h = absurd (n h)
under mode sp x (Number z) n h = elim h.value [
  | inl k ↦ absurd (under_number h.digits x h.are.each (sym k.0))
  | inr k ↦ absurd (other_first 0x5f 0x2d x h.digits k.0 (λ e. absurd (omega arith)))
]
under mode sp x (Bytes bytes) n (inl h) =
    absurd (other_first 0x5f 0x27 x (flat_map (inside_bytes 0x27) h.parts ++ 0x27 ∷
    []) h.spelled (λ k. absurd (omega arith)))
under mode sp x (Bytes bytes) n (inr (inl h)) =
    absurd (other_first 0x5f 0x30 x (0x78 ∷ h.digits) h.spelled (λ k. absurd (omega arith)))
under mode sp x (Bytes bytes) n (inr (inr h)) = (bytes, h)

none_quoted : (mode : Mode) (content : Content) → IsLiteral mode Quoted (codes "_utf8mb4 0x41") content → ⊥
none_quoted mode content h =
    let k : (bytes : List ℕ) × IsIntroduced Quoted (codes "_utf8mb4 0x41") bytes =
    under mode Quoted (codes "utf8mb4 0x41") content (λ e. cc) h in
    not_allowed k.1.allowed
  where
    not_allowed : Quoted ≡ Hexadecimal → ⊥
    not_allowed e = cc

none_letters : (mode : Mode) (content : Content) → IsLiteral mode Hexadecimal (codes "_UTF8MB4 0x41") content → ⊥
none_letters mode content h =
    let k : (bytes : List ℕ) × IsIntroduced Hexadecimal (codes "_UTF8MB4 0x41") bytes =
    under mode Hexadecimal (codes "UTF8MB4 0x41") content (λ e. cc) h in
    elim k.1.is [
      | inl e ↦ (let f : codes "_UTF8MB4 0x41" ≡ text_introducer ++ k.1.literal = k.1.spelled ∙
          ap (λ y. y ++ k.1.literal) e in let g : ◌≡◌ {A = ℕ} 0x55 0x75 =
          ap (λ y. get_or y 1 0) f in absurd (omega arith))
      | inr e ↦ (let f : codes "_UTF8MB4 0x41" ≡ binary_introducer ++ k.1.literal = k.1.spelled ∙
          ap (λ y. y ++ k.1.literal) e in let g : ◌≡◌ {A = ℕ} 0x55 0x62 =
          ap (λ y. get_or y 1 0) f in absurd (omega arith))
    ]

none_blanks : (mode : Mode) (content : Content) → IsLiteral mode Hexadecimal (codes "_utf8mb4  0x41") content → ⊥
none_blanks mode content h =
    let k : (bytes : List ℕ) × IsIntroduced Hexadecimal (codes "_utf8mb4  0x41") bytes =
    under mode Hexadecimal (codes "utf8mb4  0x41") content (λ e. cc) h in
    elim k.1.is [
      | inl e ↦ (let f : codes "_utf8mb4  0x41" ≡ text_introducer ++
          (0x30 ∷ 0x78 ∷ k.1.hexadecimal.digits) = k.1.spelled ∙ ap (λ y. y ++ k.1.literal) e ∙
          ap (λ y. text_introducer ++ y) k.1.hexadecimal.spelled in let g : ◌≡◌ {A = ℕ} 0x20 0x30 =
          ap (λ y. get_or y 9 0) f in absurd (omega arith))
      | inr e ↦ (let f : codes "_utf8mb4  0x41" ≡ binary_introducer ++ k.1.literal = k.1.spelled ∙
          ap (λ y. y ++ k.1.literal) e in let g : ◌≡◌ {A = ℕ} 0x75 0x62 =
          ap (λ y. get_or y 1 0) f in absurd (omega arith))
    ]

no_hex : (digits bytes : List ℕ) → digits ≡ [] → SpellsInHex digits bytes → bytes ≡ []
no_hex [] [] e h = refl
no_hex [] (b ∷ bytes) e h = elim h [ ]
no_hex (d ∷ digits) bytes e h = cc

none_alone : (mode : Mode) (content : Content) → IsLiteral mode Hexadecimal (codes "_binary 0x") content → ⊥
none_alone mode content h =
    let k : (bytes : List ℕ) × IsIntroduced Hexadecimal (codes "_binary 0x") bytes =
    under mode Hexadecimal (codes "binary 0x") content (λ e. cc) h in
    elim k.1.is [
      | inl e ↦ (let f : codes "_binary 0x" ≡ text_introducer ++ k.1.literal = k.1.spelled ∙
          ap (λ y. y ++ k.1.literal) e in let g : ◌≡◌ {A = ℕ} 0x62 0x75 =
          ap (λ y. get_or y 1 0) f in absurd (omega arith))
      | inr e ↦ (let f : codes "_binary 0x" ≡ binary_introducer ++
          (0x30 ∷ 0x78 ∷ k.1.hexadecimal.digits) = k.1.spelled ∙ ap (λ y. y ++ k.1.literal) e ∙
          ap (λ y. binary_introducer ++ y) k.1.hexadecimal.spelled in
          let g : k.1.hexadecimal.digits ≡ [] = sym (ap (drop 10) f) in
          k.1.hexadecimal.some (no_hex k.1.hexadecimal.digits k.0 g k.1.hexadecimal.spells))
    ]

pub worked_spellings : WorkedSpellings
worked_spellings = record {
  null = λ mode sp. refl;
  zeros = λ mode sp. record {
    digits = codes "007";
    are =
        record { each = (refl, (refl, (refl, tt))); some = λ e. cc };
    value =
        inr (refl, refl, omega arith);
  };
  hexadecimal = λ mode sp. inr
      (inl (record {
        digits = codes "4a6B";
        spelled = refl;
        spells =
            (refl, refl, refl, (refl, refl, refl, tt));
        some = λ e. cc;
      }));
  text = λ mode. inr (inr (record {
    allowed = refl;
    introducer = text_introducer;
    literal =
        codes "0x41";
    is = inl refl;
    spelled = refl;
    hexadecimal =
        record {
          digits = codes "41";
          spelled = refl;
          spells = (refl, refl, refl, tt);
          some =
              λ e. cc;
        };
  }));
  binary = λ mode. inr (inr
      (record {
        allowed = refl;
        introducer = binary_introducer;
        literal = codes "0xfF31";
        is =
            inr refl;
        spelled = refl;
        hexadecimal =
            record {
              digits = codes "fF31";
              spelled = refl;
              spells =
                  (refl, refl, refl, (refl, refl, refl, tt));
              some = λ e. cc;
            };
      }));
  quotes = λ sp. inl (record {
    parts = Byte 0x61 ∷ Doubled ∷ Byte 0x62 ∷ Escape 0x78 ∷ [];
    inside = (
      (λ e. absurd (omega arith), λ _ e. absurd (omega arith)),
      (tt, ((λ e. absurd (omega arith), λ _ e. absurd (omega arith)), (refl, tt))),
    );
    spelled = refl;
    read = refl;
  });
  backslash = λ sp ansi_quotes. inl
      (record {
        parts = Byte 0x5c ∷ [];
        inside =
            ((λ e. absurd (omega arith), λ k. let f : false ≡ true = k in cc), tt);
        spelled = refl;
        read =
            refl;
      });
  plus = λ mode sp content h. plus_form (has_escapes mode single_quote) (codes "+5") refl
      (literal_form mode sp (codes "+5") content h);
  odd = odd;
  quoted = none_quoted;
  letters = none_letters;
  blanks = none_blanks;
  alone = none_alone;
}
