-- What a literal's spelling is made of, and that it is read in one way.
use Rattle.std.proofs.Common.{◌≡◌, ◌≢◌, ℕ, Bool, true, false, ◌||◌, ◌==◌, ◌⊎◌, List, [], ◌∷◌, ◌++◌, map, refl, sym, ap}
use Rattle.std.proofs.Common.{◌∙◌, inl, inr, append-nil, arith, subst, flat_map, codes, ℤ}
use Rattle.std.specs.List.{concat, AllByRecursion}
use Rattle.std.proofs.lemmas.Bool.Decides.{nat_tests}
use Rattle.mysql_queries.specs.Tokens.{has_escapes, Quoted, Plain, kind_of, is_within, IsQuoted, HasShape, IsToken}
use Rattle.mysql_queries.specs.Tokens.{AreTokens, HasTokens, BeginsOtherwise, single_quote, slash, star, dash}
use Rattle.mysql_queries.specs.Tokens.{inside_bytes}
use Rattle.mysql_queries.specs.Literals.{lower, is_digit, IsNumber, IsString, is_hex, SpellsInHex, IsHexLiteral}
use Rattle.mysql_queries.specs.Literals.{IsIntroduced, IsIntroducer, IsLiteral, text_introducer, binary_introducer}
use Rattle.mysql_bytes.specs.declared.content.Content.{Content}
use Rattle.mysql_bytes.specs.declared.content.Content.TheVariants.{Null, Number, Bytes}
use Rattle.mysql_bytes.specs.declared.mode.Mode.{Mode}
use Rattle.mysql_queries.specs.Queries.{is_joining}
use Rattle.mysql_queries.specs.Alone.{is_opening, is_opening_kind}
use Rattle.mysql_queries.proofs.FirstBytes.{bool_tells}
use Rattle.mysql_queries.proofs.Follow.{BeginsApart, or_true, or_first, not_equal}
use Rattle.mysql_bytes.specs.declared.spelling.Spelling.{Spelling}

-- a digit or a letter
abbrev pub is_word : ℕ → Bool
is_word b = is_within 0x30 0x39 b || is_within 0x41 0x5a b || is_within 0x61 0x7a b

abbrev pub AreWord : List ℕ → Type 0
AreWord run = AllByRecursion (λ b. is_word b ≡ true) run

-- digits and letters, behind a dash or not
pub record IsWord (spelling : List ℕ) : Type 0 where
  pub run : List ℕ
  pub each : AreWord run
  pub some : run ≢ []
  pub spelled : (spelling ≡ run) ⊎ (spelling ≡ dash ∷ run)

pub digit_word : (b : ℕ) → is_digit b ≡ true → is_word b ≡ true
digit_word b h = or_first _ _ (or_first _ _ h)

-- one of the letters is a letter in lower case or in upper case
pub lower_word : (b l : ℕ) → is_within 0x61 0x7a l ≡ true → lower b ≡ l → is_word b ≡ true
lower_word b l h e = elim (bool_tells (is_within 0x41 0x5a b)) [
  | inl k ↦ or_first _ _ (or_true (is_within 0x30 0x39 b) _ k)
  | inr k ↦ let f : lower b ≡ b = rw k refl in
      or_true _ (is_within 0x61 0x7a b) (subst (λ c. is_within 0x61 0x7a c ≡ true) (sym e ∙ f) h)
]

pub hex_word : (b : ℕ) → is_hex b ≡ true → is_word b ≡ true
hex_word b h = grind (arith, nat_tests)

all_map : (P Q : ℕ → Type 0) → ((b : ℕ) → P b → Q b) → (xs : List ℕ) → AllByRecursion P xs → AllByRecursion Q xs
all_map P Q f [] h = tt
all_map P Q f (x ∷ xs) h = (f x h.0, all_map P Q f xs h.1)

null_word : (spelling : List ℕ) → map lower spelling ≡ codes "null" → IsWord spelling
null_word [] h = cc
null_word (a ∷ []) h = cc
null_word (a ∷ b ∷ []) h = cc
null_word (a ∷ b ∷ c ∷ []) h = cc
null_word (a ∷ b ∷ c ∷ d ∷ []) h = record {
  run = a ∷ b ∷ c ∷ d ∷ [];
  each = (
    lower_word a 0x6e refl (cc),
    (
      lower_word b 0x75 refl (cc),
      (lower_word c 0x6c refl (cc), (lower_word d 0x6c refl (cc), tt)),
    ),
  );
  some = λ e. cc;
  spelled = inl refl;
}
null_word (a ∷ b ∷ c ∷ d ∷ e ∷ x) h = cc

number_word : (spelling : List ℕ) (z : ℤ) → IsNumber spelling z → IsWord spelling
number_word spelling z h = record {
  run = h.digits;
  each = all_map (λ b. is_digit b ≡ true) (λ b. is_word b ≡ true) digit_word h.digits h.are.each;
  some = h.are.some;
  spelled = elim h.value [ inl k ↦ inl k.0 | inr k ↦ inr k.0 ];
}

pub spells_word : (digits bytes : List ℕ) → SpellsInHex digits bytes → AreWord digits
spells_word [] [] h = tt
spells_word [] (b ∷ bytes) h = elim h [ ]
spells_word (a ∷ []) bytes h = elim h [ ]
spells_word (a ∷ c ∷ digits) [] h = elim h [ ]
spells_word (a ∷ c ∷ digits) (b ∷ bytes) h = (hex_word a h.0, (hex_word c h.1, spells_word digits bytes h.3))

hex_literal_word : (spelling bytes : List ℕ) → IsHexLiteral spelling bytes → IsWord spelling
hex_literal_word spelling bytes h =
    record {
      run = 0x30 ∷ 0x78 ∷ h.digits;
      each =
          (refl, (refl, spells_word h.digits bytes h.spells));
      some = λ e. cc;
      spelled = inl h.spelled;
    }

-- an introducer and a word behind it, without a dash
pub record IsIntroducedWord (text : List ℕ) : Type 0 where
  pub introducer : List ℕ
  pub run : List ℕ
  pub is : IsIntroducer introducer
  pub each : AreWord run
  pub some : run ≢ []
  pub spelled : text ≡ introducer ++ run

introduced_word : (sp : Spelling) (text bytes : List ℕ) → IsIntroduced sp text bytes → IsIntroducedWord text
introduced_word sp text bytes h = record {
  introducer = h.introducer;
  run = 0x30 ∷ 0x78 ∷ h.hexadecimal.digits;
  is = h.is;
  each = (refl, (refl, spells_word h.hexadecimal.digits bytes h.hexadecimal.spells));
  some = λ e. cc;
  spelled = h.spelled ∙ ap (λ y. h.introducer ++ y) h.hexadecimal.spelled;
}

-- a literal is a quoted string, a word, or a word behind an introducer
pub literal_form : (mode : Mode) (sp : Spelling) (spelling : List ℕ) (content : Content) →
    IsLiteral mode sp spelling content →
    ((bytes : List ℕ) × IsString (has_escapes mode single_quote) spelling bytes) ⊎
    (IsWord spelling ⊎ IsIntroducedWord spelling)
literal_form mode sp spelling Null h = inr (inl (null_word spelling h))
literal_form mode sp spelling (Number z) h = inr (inl (number_word spelling z h))
literal_form mode sp spelling (Bytes bytes) (inl h) = inl (bytes, h)
literal_form mode sp spelling (Bytes bytes) (inr (inl h)) = inr (inl (hex_literal_word spelling bytes h))
literal_form mode sp spelling (Bytes bytes) (inr (inr h)) = inr (inr (introduced_word sp spelling bytes h))

-- a byte in the set is none outside it
pub apart_bytes : (p : ℕ → Bool) (b c : ℕ) → p b ≡ true → p c ≡ false → b ≢ c
apart_bytes p b c h k e = let f : true ≡ false = sym h ∙ ap p e ∙ k in cc

-- what a literal begins with
pub record LiteralStart (spelling : List ℕ) : Type 0 where
  pub first : ℕ
  pub others : List ℕ
  pub joined : spelling ≡ first ∷ others
  pub no_star : first ≢ star
  pub no_mark : first ≢ 0x21
  pub no_slash : first ≢ slash

word_start : (spelling : List ℕ) → IsWord spelling → LiteralStart spelling
word_start spelling w = elim w.spelled [
  | inl e ↦ of_run spelling w.run w.each w.some e
  | inr e ↦ record {
    first = dash;
    others =
        w.run;
    joined = e;
    no_star = λ k. absurd (omega arith);
    no_mark =
        λ k. absurd (omega arith);
    no_slash = λ k. absurd (omega arith);
  }
]
  where
    of_run : (spelling run : List ℕ) → AreWord run → run ≢ [] → spelling ≡ run → LiteralStart spelling
    of_run spelling [] h n e = absurd (n refl)
    of_run spelling (b ∷ run) h n e =
        record {
          first = b;
          others = run;
          joined = e;
          no_star =
              apart_bytes is_word b star h.0 refl;
          no_mark =
              apart_bytes is_word b 0x21 h.0 refl;
          no_slash = apart_bytes is_word b slash h.0 refl;
        }

introduced_start : (spelling : List ℕ) → IsIntroducedWord spelling → LiteralStart spelling
introduced_start spelling w = elim w.is [
  | inl e ↦ record {
    first = 0x5f;
    others = codes "utf8mb4 " ++ w.run;
    joined = w.spelled ∙
        ap (λ y. y ++ w.run) e;
    no_star = λ k. absurd (omega arith);
    no_mark =
        λ k. absurd (omega arith);
    no_slash = λ k. absurd (omega arith);
  }
  | inr e ↦ record {
    first = 0x5f;
    others = codes "binary " ++ w.run;
    joined = w.spelled ∙
        ap (λ y. y ++ w.run) e;
    no_star = λ k. absurd (omega arith);
    no_mark =
        λ k. absurd (omega arith);
    no_slash = λ k. absurd (omega arith);
  }
]

pub literal_start : (mode : Mode) (sp : Spelling) (spelling : List ℕ) (content : Content) →
    IsLiteral mode sp spelling content → LiteralStart spelling
literal_start mode sp spelling content h = elim (literal_form mode sp spelling content h) [
  | inl s ↦ record {
    first = single_quote;
    others =
        flat_map (inside_bytes single_quote) s.1.parts ++ single_quote ∷ [];
    joined =
        s.1.spelled;
    no_star = λ k. absurd (omega arith);
    no_mark =
        λ k. absurd (omega arith);
    no_slash = λ k. absurd (omega arith);
  }
  | inr (inl w) ↦ word_start spelling w
  | inr (inr w) ↦ introduced_start spelling w
]

-- what words and introducers are made of: a digit, a letter, the underscore or the blank
abbrev is_bare : ℕ → Bool
is_bare b = is_word b || (b == 0x5f) || (b == 0x20)

abbrev AreBare : List ℕ → Type 0
AreBare run = AllByRecursion (λ b. is_bare b ≡ true) run

word_bare : (b : ℕ) → is_word b ≡ true → is_bare b ≡ true
word_bare b h = or_first _ _ (or_first _ _ h)

words_bare : (run : List ℕ) → AreWord run → AreBare run
words_bare run h = all_map (λ b. is_word b ≡ true) (λ b. is_bare b ≡ true) word_bare run h

bare_append : (xs ys : List ℕ) → AreBare xs → AreBare ys → AreBare (xs ++ ys)
bare_append [] ys h k = k
bare_append (x ∷ xs) ys h k = (h.0, bare_append xs ys h.1 k)

text_bare : AreBare text_introducer
text_bare = (refl, (refl, (refl, (refl, (refl, (refl, (refl, (refl, (refl, tt)))))))))

binary_bare : AreBare binary_introducer
binary_bare = (refl, (refl, (refl, (refl, (refl, (refl, (refl, (refl, tt))))))))

-- each byte of them is a token
bare_kind : (b : ℕ) (x : List ℕ) → is_bare b ≡ true → kind_of (b ∷ x) ≡ Plain
bare_kind b x h =
    let e1 : (b == 0x27) ≡ false = not_equal b 0x27 (apart_bytes is_bare b 0x27 h refl) in
    let e2 : (b == 0x22) ≡ false = not_equal b 0x22 (apart_bytes is_bare b 0x22 h refl) in
    let e3 : (b == 0x60) ≡ false = not_equal b 0x60 (apart_bytes is_bare b 0x60 h refl) in
    let e4 : (b == 0x23) ≡ false = not_equal b 0x23 (apart_bytes is_bare b 0x23 h refl) in
    let e5 : (b == 0x2d) ≡ false = not_equal b 0x2d (apart_bytes is_bare b 0x2d h refl) in
    let e6 : (b == 0x2f) ≡ false = not_equal b 0x2f (apart_bytes is_bare b 0x2f h refl) in
    let e7 : (b == 0x3a) ≡ false = not_equal b 0x3a (apart_bytes is_bare b 0x3a h refl) in
    let e8 : (b == 0x3f) ≡ false = not_equal b 0x3f (apart_bytes is_bare b 0x3f h refl) in
    let e9 : (b == 0x2a) ≡ false = not_equal b 0x2a (apart_bytes is_bare b 0x2a h refl) in
    rw (e1, e2, e3, e4, e5, e6, e7, e8, e9) refl

dash_kind : (b : ℕ) (x : List ℕ) → is_word b ≡ true → kind_of (dash ∷ b ∷ x) ≡ Plain
dash_kind b [] h = let e : (b == dash) ≡ false = not_equal b dash (apart_bytes is_word b dash h refl) in rw e refl
dash_kind b (c ∷ x) h = let e : (b == dash) ≡ false = not_equal b dash (apart_bytes is_word b dash h refl) in rw e refl

-- one slice for each byte
abbrev pub singles : List ℕ → List (List ℕ)
singles [] = []
singles (b ∷ x) = (b ∷ []) ∷ singles x

pub concat_singles : (x : List ℕ) (us : List (List ℕ)) → concat (singles x ++ us) ≡ x ++ concat us
concat_singles [] us = refl
concat_singles (b ∷ x) us = ap (λ y. b ∷ y) (concat_singles x us)

plain_token : (mode : Mode) (b : ℕ) (x : List ℕ) → kind_of (b ∷ x) ≡ Plain → IsToken mode (b ∷ []) x
plain_token mode b x e = subst (λ k. HasShape mode k (b ∷ []) x) (sym e) (b, refl)

bare_tokens : (mode : Mode) (run : List ℕ) → AreBare run → (us : List (List ℕ)) →
    AreTokens mode us → AreTokens mode (singles run ++ us)
bare_tokens mode [] h us k = k
bare_tokens mode (b ∷ run) h us k = (
  plain_token mode b (concat (singles run ++ us)) (bare_kind b (concat (singles run ++ us)) h.0),
  bare_tokens mode run h.1 us k,
)

word_tokens : (mode : Mode) (run : List ℕ) → AreWord run → (us : List (List ℕ)) →
    AreTokens mode us → AreTokens mode (singles run ++ us)
word_tokens mode run h = bare_tokens mode run (words_bare run h)

dash_tokens : (mode : Mode) (run : List ℕ) → AreWord run → run ≢ [] → (us : List (List ℕ)) →
    AreTokens mode us → AreTokens mode (singles (dash ∷ run) ++ us)
dash_tokens mode [] h n us k = absurd (n refl)
dash_tokens mode (b ∷ run) h n us k = (
  plain_token mode dash (b ∷ concat (singles run ++ us))
      (dash_kind b (concat (singles run ++ us)) h.0),
  word_tokens mode (b ∷ run) h us k,
)

-- none of them is `/*!`
abbrev pub BeginNoComment : List (List ℕ) → Type 0
BeginNoComment ts = AllByRecursion (λ t. is_opening t ≡ false) ts

bare_no_opening : (run : List ℕ) → AreBare run → BeginNoComment (singles run)
bare_no_opening [] h = tt
bare_no_opening (b ∷ run) h = (ap is_opening_kind (bare_kind b [] h.0), bare_no_opening run h.1)

-- the tokens of a literal, which stay its tokens before what begins apart
pub record LiteralTokens (mode : Mode) (spelling : List ℕ) : Type 0 where
  pub tokens : List (List ℕ)
  pub has : HasTokens mode spelling tokens
  pub stay : (us : List (List ℕ)) → AreTokens mode us → BeginsApart (concat us) → AreTokens mode (tokens ++ us)
  pub no_opening : BeginNoComment tokens

append_nil_lists : (xs : List (List ℕ)) → xs ++ [] ≡ xs
append_nil_lists xs = append-nil xs

singles_tokens : (mode : Mode) (spelling : List ℕ) →
    ((us : List (List ℕ)) → AreTokens mode us → AreTokens mode (singles spelling ++ us)) →
    BeginNoComment (singles spelling) → LiteralTokens mode spelling
singles_tokens mode spelling h n = record {
  tokens = singles spelling;
  has = record {
    joined = ap concat (sym (append_nil_lists (singles spelling))) ∙
        concat_singles spelling [] ∙ append-nil spelling;
    each =
        subst (AreTokens mode) (append_nil_lists (singles spelling)) (h [] tt);
  };
  stay = λ us k _. h us k;
  no_opening = n;
}

word_literal : (mode : Mode) (spelling : List ℕ) → IsWord spelling → LiteralTokens mode spelling
word_literal mode spelling w = elim w.spelled [
  | inl e ↦ subst (LiteralTokens mode) (sym e)
      (singles_tokens mode w.run (word_tokens mode w.run w.each)
      (bare_no_opening w.run (words_bare w.run w.each)))
  | inr e ↦ subst (LiteralTokens mode) (sym e)
      (singles_tokens mode (dash ∷ w.run) (dash_tokens mode w.run w.each w.some) (
        refl,
        bare_no_opening w.run (words_bare w.run w.each),
      ))
]

introduced_literal : (mode : Mode) (spelling : List ℕ) → IsIntroducedWord spelling → LiteralTokens mode spelling
introduced_literal mode spelling w =
    let bare : AreBare w.introducer =
    elim w.is [
      | inl e ↦ subst AreBare (sym e) text_bare
      | inr e ↦ subst AreBare (sym e)
          binary_bare
    ] in
    let all : AreBare (w.introducer ++ w.run) = bare_append w.introducer w.run bare (words_bare w.run w.each) in
    subst (LiteralTokens mode) (sym w.spelled)
    (singles_tokens mode (w.introducer ++ w.run) (bare_tokens mode (w.introducer ++ w.run) all)
    (bare_no_opening (w.introducer ++ w.run) all))

pub apart_otherwise : (r : List ℕ) → BeginsApart r → BeginsOtherwise single_quote r
apart_otherwise [] h = tt
apart_otherwise (b ∷ r) h = λ e. let f : true ≡ false = sym (ap is_joining e) ∙ h in cc

string_token : (mode : Mode) (spelling bytes : List ℕ) →
    IsString (has_escapes mode single_quote) spelling bytes → (r : List ℕ) →
    BeginsOtherwise single_quote r → IsToken mode spelling r
string_token mode spelling bytes s r h =
    let q : IsQuoted (has_escapes mode single_quote) single_quote spelling r =
    record {
      parts = s.parts;
      closing = single_quote ∷ [];
      inside = s.inside;
      spelled =
          s.spelled;
      closes = inl (refl, h);
    } in
    let e : kind_of (spelling ++ r) ≡ Quoted single_quote = ap (λ y. kind_of (y ++ r)) s.spelled in
    subst (λ k. HasShape mode k spelling r) (sym e) q

string_literal : (mode : Mode) (spelling bytes : List ℕ) →
    IsString (has_escapes mode single_quote) spelling bytes → LiteralTokens mode spelling
string_literal mode spelling bytes s = record {
  tokens = spelling ∷ [];
  has = record { joined = append-nil spelling; each = (string_token mode spelling bytes s [] tt, tt) };
  stay = λ us k a. (string_token mode spelling bytes s (concat us) (apart_otherwise (concat us) a), k);
  no_opening = (ap is_opening s.spelled, tt);
}

pub literal_tokens : (mode : Mode) (sp : Spelling) (spelling : List ℕ) (content : Content) →
    IsLiteral mode sp spelling content → LiteralTokens mode spelling
literal_tokens mode sp spelling content h =
    elim (literal_form mode sp spelling content h) [
      | inl s ↦ string_literal mode spelling s.0 s.1
      | inr (inl w) ↦ word_literal mode spelling
          w
      | inr (inr w) ↦ introduced_literal mode spelling w
    ]
