-- A literal is its longest run, and has one content.
use Rattle.std.proofs.Common.{◌≡◌, ◌≢◌, ℕ, Bool, true, false, ◌==◌, ◌⊎◌, List, [], ◌∷◌, ◌++◌, map, refl, sym, ap, ◌∙◌}
use Rattle.std.proofs.Common.{inl, inr, append_assoc, arith, subst, flat_map, codes, ℤ, pos, neg_ℤ, if◌then◌else◌}
use Rattle.std.specs.List.{AllByRecursion}
use Rattle.std.proofs.lemmas.Bool.Decides.{nat_tests}
use Rattle.mysql_queries.specs.Tokens.{has_escapes, AreTokens, BeginsOtherwise, single_quote, dash, inside_bytes}
use Rattle.mysql_queries.specs.Tokens.{backslash}
use Rattle.mysql_queries.specs.Literals.{lower, is_digit, digits_value, IsNumber, IsString, inside_content, SpellsInHex}
use Rattle.mysql_queries.specs.Literals.{IsHexLiteral, IsIntroduced, IsIntroducer, IsLiteral, text_introducer}
use Rattle.mysql_queries.specs.Literals.{binary_introducer}
use Rattle.mysql_bytes.specs.declared.content.Content.{Content}
use Rattle.mysql_bytes.specs.declared.content.Content.TheVariants.{Null, Number, Bytes}
use Rattle.mysql_bytes.specs.declared.mode.Mode.{Mode}
use Rattle.mysql_queries.specs.Queries.{is_joining}
use Rattle.mysql_queries.proofs.Quotes.{one_inside}
use Rattle.mysql_queries.proofs.Runs.{one_run, EndsRun}
use Rattle.mysql_queries.proofs.Follow.{BeginsApart, or_first, not_equal}
use Rattle.mysql_queries.specs.Alone.{last_of}
use Rattle.mysql_queries.proofs.Spellings.{is_word, AreWord, IsWord, IsIntroducedWord, literal_form, apart_bytes}
use Rattle.mysql_queries.proofs.Spellings.{apart_otherwise}
use Rattle.mysql_queries.proofs.Filled.{Spells, AloneFrom, rest_apart}
use Rattle.mysql_bytes.specs.declared.spelling.Spelling.{Spelling}

pub word_joins : (b : ℕ) → is_word b ≡ true → is_joining b ≡ true
word_joins b h = or_first _ _
    (or_first _ _ (or_first _ _
    (or_first _ _ (or_first _ _ (or_first _ _ (or_first _ _ (or_first _ _ (or_first _ _ h))))))))

word_ends : (r : List ℕ) → BeginsApart r → EndsRun (λ b. is_word b ≡ true) r
word_ends [] h = tt
word_ends (b ∷ r) h = λ e. let f : true ≡ false = sym (word_joins b e) ∙ h in cc

pub no_backslash : single_quote ≢ backslash
no_backslash e = absurd (omega arith)

-- two strings that begin one text are one
one_string : (escapes : Bool) (s u bs ds r q : List ℕ) → IsString escapes s bs →
    IsString escapes u ds → BeginsOtherwise single_quote r → BeginsOtherwise single_quote q → s ++
    r ≡ u ++ q → (s ≡ u) × (r ≡ q) × (bs ≡ ds)
one_string escapes s u bs ds r q i j a b h =
    let c : List ℕ = single_quote ∷ [] in
    let h' : single_quote ∷ ((flat_map (inside_bytes single_quote) i.parts ++ single_quote ∷ []) ++
    r) ≡ single_quote ∷ ((flat_map (inside_bytes single_quote) j.parts ++ single_quote ∷ []) ++
    q) = rw (i.spelled, j.spelled) at h in
    let h2 : (flat_map (inside_bytes single_quote) i.parts ++ single_quote ∷ []) ++ r ≡
    (flat_map (inside_bytes single_quote) j.parts ++ single_quote ∷ []) ++ q = cc in
    let o : (i.parts ≡ j.parts) × (single_quote ∷ [] ≡ single_quote ∷ []) × (r ≡ q) =
    one_inside escapes single_quote no_backslash i.parts j.parts i.inside j.inside
    (single_quote ∷ []) r (single_quote ∷ []) q (inl (refl, a)) (inl (refl, b))
    (sym (append_assoc (flat_map (inside_bytes single_quote) i.parts) (single_quote ∷ []) r) ∙ h2 ∙
    append_assoc (flat_map (inside_bytes single_quote) j.parts) (single_quote ∷ []) q) in (
      i.spelled ∙ ap (λ x. single_quote ∷
          (flat_map (inside_bytes single_quote) x ++ single_quote ∷ [])) o.0 ∙ sym j.spelled,
      o.2,
      i.read ∙ ap (flat_map inside_content) o.0 ∙ sym j.read,
    )

run_no_byte : (run r x : List ℕ) (b : ℕ) → is_word b ≡ false → AreWord run → run ≢ [] → run ++ r ≡ b ∷ x → ⊥
run_no_byte [] r x b f h n e = n refl
run_no_byte (a ∷ run) r x b f h n e = let g : a ≡ b = cc in let k : true ≡ false = sym h.0 ∙ ap is_word g ∙ f in cc

word_no_quote : (s r x : List ℕ) → IsWord s → s ++ r ≡ single_quote ∷ x → ⊥
word_no_quote s r x w h = elim w.spelled [
  | inl e ↦ run_no_byte w.run r x single_quote refl w.each w.some (subst (λ y. y ++ r ≡ single_quote ∷ x) e h)
  | inr e ↦ (let k : dash ∷ (w.run ++ r) ≡ single_quote ∷ x =
      subst (λ y. y ++ r ≡ single_quote ∷ x) e h in let g : dash ≡ single_quote = cc in
      absurd (omega arith))
]

one_word : (s u r q : List ℕ) → IsWord s → IsWord u → BeginsApart r → BeginsApart q → s ++ r ≡ u ++
    q → (s ≡ u) × (r ≡ q)
one_word s u r q v w a b h = elim v.spelled [
  | inl e ↦ elim w.spelled [
    | inl f ↦ (let k : v.run ++ r ≡ w.run ++ q = rw (e, f) at h in
        let o : (v.run ≡ w.run) × (r ≡ q) =
        one_run (λ c. is_word c ≡ true) v.run w.run r q v.each w.each (word_ends r a)
        (word_ends q b) k in (e ∙ o.0 ∙ sym f, o.1))
    | inr f ↦ (let k : v.run ++ r ≡ dash ∷ (w.run ++ q) = rw (e, f) at h in
        absurd (run_no_byte v.run r (w.run ++ q) dash refl v.each v.some k))
  ]
  | inr e ↦ elim w.spelled [
    | inl f ↦ (let k : dash ∷ (v.run ++ r) ≡ w.run ++ q = rw (e, f) at h in
        absurd (run_no_byte w.run q (v.run ++ r) dash refl w.each w.some (sym k)))
    | inr f ↦ (let k : dash ∷ (v.run ++ r) ≡ dash ∷ (w.run ++ q) = rw (e, f) at h in
        let k2 : v.run ++ r ≡ w.run ++ q = cc in
        let o : (v.run ≡ w.run) × (r ≡ q) =
        one_run (λ c. is_word c ≡ true) v.run w.run r q v.each w.each (word_ends r a)
        (word_ends q b) k2 in (e ∙ ap (λ x. dash ∷ x) o.0 ∙ sym f, o.1))
  ]
]

pub same_rest : (t r q : List ℕ) → t ++ r ≡ t ++ q → r ≡ q
same_rest [] r q h = h
same_rest (b ∷ t) r q h = same_rest t r q (cc)

-- one of the two introducers goes on otherwise than the other
other_introducers : (x y : List ℕ) → text_introducer ++ x ≡ binary_introducer ++ y → ⊥
other_introducers x y h = let f : ◌≡◌ {A = ℕ} 0x75 0x62 = cc in absurd (omega arith)

quote_no_introducer : (x y : List ℕ) → 0x5f ∷ y ≡ single_quote ∷ x → ⊥
quote_no_introducer x y h = let f : ◌≡◌ {A = ℕ} 0x5f single_quote = cc in absurd (omega arith)

-- an introducer comes first where its first byte does
introduced_front : (s r : List ℕ) (w : IsIntroducedWord s) → (x : List ℕ) × (s ++ r ≡ 0x5f ∷ x)
introduced_front s r w = elim w.is [
  | inl e ↦ ((codes "utf8mb4 " ++ w.run) ++ r, ap (λ y. y ++ r) (w.spelled ∙ ap (λ y. y ++ w.run) e))
  | inr e ↦ ((codes "binary " ++ w.run) ++ r, ap (λ y. y ++ r) (w.spelled ∙ ap (λ y. y ++ w.run) e))
]

word_no_introducer : (s r x : List ℕ) → IsWord s → s ++ r ≡ 0x5f ∷ x → ⊥
word_no_introducer s r x w h = elim w.spelled [
  | inl e ↦ run_no_byte w.run r x 0x5f refl w.each w.some (subst (λ y. y ++ r ≡ 0x5f ∷ x) e h)
  | inr e ↦ (let k : dash ∷ (w.run ++ r) ≡ 0x5f ∷ x = subst (λ y. y ++ r ≡ 0x5f ∷ x) e h in
      let g : dash ≡ 0x5f = cc in absurd (omega arith))
]

-- two introducers that begin one text are one
pub one_introducer : (i j x y : List ℕ) → IsIntroducer i → IsIntroducer j → i ++ x ≡ j ++ y → (i ≡ j) × (x ≡ y)
one_introducer i j x y (inl e) (inl f) h = (
  e ∙ sym f,
  same_rest text_introducer x y
      (subst (λ k. k ++ x ≡ text_introducer ++ y) e (subst (λ k. i ++ x ≡ k ++ y) f h)),
)
one_introducer i j x y (inl e) (inr f) h =
    absurd (other_introducers x y
    (subst (λ k. k ++ x ≡ binary_introducer ++ y) e (subst (λ k. i ++ x ≡ k ++ y) f h)))
one_introducer i j x y (inr e) (inl f) h =
    absurd (other_introducers y x
    (sym (subst (λ k. k ++ x ≡ text_introducer ++ y) e (subst (λ k. i ++ x ≡ k ++ y) f h))))
one_introducer i j x y (inr e) (inr f) h = (
  e ∙ sym f,
  same_rest binary_introducer x y
      (subst (λ k. k ++ x ≡ binary_introducer ++ y) e (subst (λ k. i ++ x ≡ k ++ y) f h)),
)

one_introduced : (s u r q : List ℕ) → IsIntroducedWord s → IsIntroducedWord u → BeginsApart r →
    BeginsApart q → s ++ r ≡ u ++ q → (s ≡ u) × (r ≡ q)
one_introduced s u r q v w a b h =
    let e : v.introducer ++ (v.run ++ r) ≡ w.introducer ++ (w.run ++ q) =
    sym (append_assoc v.introducer v.run r) ∙ ap (λ y. y ++ r) (sym v.spelled) ∙ h ∙
    ap (λ y. y ++ q) w.spelled ∙ append_assoc w.introducer w.run q in
    let f : (v.introducer ≡ w.introducer) × (v.run ++ r ≡ w.run ++ q) =
    one_introducer v.introducer w.introducer (v.run ++ r) (w.run ++ q) v.is w.is e in
    let o : (v.run ≡ w.run) × (r ≡ q) =
    one_run (λ c. is_word c ≡ true) v.run w.run r q v.each w.each (word_ends r a)
    (word_ends q b) f.1 in
    (v.spelled ∙ ap (λ y. y ++ v.run) f.0 ∙ ap (λ y. w.introducer ++ y) o.0 ∙ sym w.spelled, o.1)

-- two literals that begin one text and before which it goes on apart are one
pub one_spelling : (mode : Mode) (sp : Spelling) (s u r q : List ℕ) (c d : Content) →
    IsLiteral mode sp s c → IsLiteral mode sp u d → BeginsApart r → BeginsApart q → s ++ r ≡ u ++
    q → (s ≡ u) × (r ≡ q)
one_spelling mode sp s u r q c d i j a b h = elim (literal_form mode sp s c i) [
  | inl m ↦ elim (literal_form mode sp u d j) [
    | inl n ↦ (let o : (s ≡ u) × (r ≡ q) × (m.0 ≡ n.0) =
        one_string (has_escapes mode single_quote) s u m.0 n.0 r q m.1 n.1 (apart_otherwise r a)
        (apart_otherwise q b) h in (o.0, o.1))
    | inr (inl n) ↦ absurd (word_no_quote u q
        ((flat_map (inside_bytes single_quote) m.1.parts ++ single_quote ∷ []) ++ r) n (sym h ∙
        ap (λ y. y ++ r) m.1.spelled))
    | inr (inr n) ↦ absurd (quote_no_introducer _ (introduced_front u q n).0
        (sym (h ∙ (introduced_front u q n).1) ∙ ap (λ y. y ++ r) m.1.spelled))
  ]
  | inr (inl m) ↦ elim (literal_form mode sp u d j) [
    | inl n ↦ absurd (word_no_quote s r
        ((flat_map (inside_bytes single_quote) n.1.parts ++ single_quote ∷ []) ++ q) m (h ∙
        ap (λ y. y ++ q) n.1.spelled))
    | inr (inl n) ↦ one_word s u r q m n a b h
    | inr (inr n) ↦ absurd (word_no_introducer s r (introduced_front u q n).0 m (h ∙ (introduced_front u q n).1))
  ]
  | inr (inr m) ↦ elim (literal_form mode sp u d j) [
    | inl n ↦ absurd (quote_no_introducer _ (introduced_front s r m).0
        (sym (sym h ∙ (introduced_front s r m).1) ∙ ap (λ y. y ++ q) n.1.spelled))
    | inr (inl n) ↦ absurd (word_no_introducer u q (introduced_front s r m).0 n (sym h ∙ (introduced_front s r m).1))
    | inr (inr n) ↦ one_introduced s u r q m n a b h
  ]
]

-- Which literal a spelling is, by its first two bytes: a string, NULL, one behind an introducer,
-- hexadecimal or a number.
unfoldable pub second_sort : List ℕ → ℕ
second_sort [] = 3
second_sort (b ∷ x) = if b == 0x78 then 2 else 3

unfoldable pub sort_of : List ℕ → ℕ
sort_of [] = 3
sort_of (a ∷ x) = if a == 0x27 then 0 else (if lower a == 0x6e then 1 else (if a == 0x5f then 4 else second_sort x))

pub null_sort : (s : List ℕ) → map lower s ≡ codes "null" → sort_of s ≡ 1
unfolding sort_of
null_sort [] h = cc
null_sort (a ∷ x) h =
    let e : lower a ≡ 0x6e = cc in
    let f : (a == 0x27) ≡ false =
    not_equal a 0x27 (λ k. let g : lower 0x27 ≡ 0x6e = subst (λ y. lower y ≡ 0x6e) k e in
    absurd (omega arith)) in
    rw (f, e) refl

pub string_sort : (escapes : Bool) (s bytes : List ℕ) → IsString escapes s bytes → sort_of s ≡ 0
unfolding sort_of
string_sort escapes s bytes h = rw h.spelled refl

pub hex_sort : (s bytes : List ℕ) → IsHexLiteral s bytes → sort_of s ≡ 2
unfolding sort_of second_sort
hex_sort s bytes h = rw h.spelled refl

digits_second : (x : List ℕ) → AllByRecursion (λ b. is_digit b ≡ true) x → second_sort x ≡ 3
unfolding second_sort
digits_second [] h = refl
digits_second (b ∷ x) h = rw (not_equal b 0x78 (apart_bytes is_digit b 0x78 h.0 refl)) refl

pub digit_lower : (a : ℕ) → is_digit a ≡ true → lower a ≢ 0x6e
digit_lower a h e = grind (arith, nat_tests)

pub digits_sort : (s : List ℕ) → AllByRecursion (λ b. is_digit b ≡ true) s → sort_of s ≡ 3
unfolding sort_of
digits_sort [] h = refl
digits_sort (a ∷ x) h = rw (
  not_equal a 0x27 (apart_bytes is_digit a 0x27 h.0 refl),
  not_equal (lower a) 0x6e (digit_lower a h.0),
  not_equal a 0x5f (apart_bytes is_digit a 0x5f h.0 refl),
) (digits_second x h.1)

pub introduced_sort : (introducer x : List ℕ) → IsIntroducer introducer → sort_of (introducer ++ x) ≡ 4
unfolding sort_of
introduced_sort introducer x (inl e) = rw e refl
introduced_sort introducer x (inr e) = rw e refl

pub dash_sort : (x : List ℕ) → AllByRecursion (λ b. is_digit b ≡ true) x → sort_of (dash ∷ x) ≡ 3
unfolding sort_of
dash_sort x h = digits_second x h

pub number_sort : (s : List ℕ) (z : ℤ) → IsNumber s z → sort_of s ≡ 3
number_sort s z h = elim h.value [
  | inl k ↦ subst (λ y. sort_of y ≡ 3) (sym k.0) (digits_sort h.digits h.are.each)
  | inr k ↦ subst (λ y. sort_of y ≡ 3) (sym k.0) (dash_sort h.digits h.are.each)
]

pub two_sorts : (s : List ℕ) (m n : ℕ) → sort_of s ≡ m → sort_of s ≡ n → m ≢ n → ⊥
two_sorts s m n e f k = k (sym e ∙ f)

no_dash : (digits x : List ℕ) → AllByRecursion (λ b. is_digit b ≡ true) digits → digits ≡ dash ∷ x → ⊥
no_dash [] x h e = cc
no_dash (b ∷ d) x h e = let g : b ≡ dash = cc in let k : true ≡ false = sym h.0 ∙ ap is_digit g in cc

one_number : (s : List ℕ) (z y : ℤ) → IsNumber s z → IsNumber s y → z ≡ y
one_number s z y h k = elim h.value [
  | inl i ↦ elim k.value [
    | inl j ↦ i.1 ∙ ap (λ d. pos (digits_value d)) (sym i.0 ∙ j.0) ∙ sym j.1
    | inr j ↦ absurd (no_dash h.digits k.digits h.are.each (sym i.0 ∙ j.0))
  ]
  | inr i ↦ elim k.value [
    | inl j ↦ absurd (no_dash k.digits h.digits k.are.each (sym j.0 ∙ i.0))
    | inr j ↦ (let e : dash ∷ h.digits ≡ dash ∷ k.digits = sym i.0 ∙ j.0 in let f : h.digits ≡
        k.digits = cc in i.1 ∙ ap (λ d. neg_ℤ (pos (digits_value d))) f ∙ sym j.1)
  ]
]

one_hex : (d b c : List ℕ) → SpellsInHex d b → SpellsInHex d c → b ≡ c
one_hex [] [] [] h k = refl
one_hex [] [] (y ∷ c) h k = elim k [ ]
one_hex [] (x ∷ b) c h k = elim h [ ]
one_hex (m ∷ []) b c h k = elim h [ ]
one_hex (m ∷ n ∷ d) [] c h k = elim h [ ]
one_hex (m ∷ n ∷ d) (x ∷ b) [] h k = elim k [ ]
one_hex (m ∷ n ∷ d) (x ∷ b) (y ∷ c) h k = let e : b ≡ c = one_hex d b c h.3 k.3 in let f : x ≡ y = h.2 ∙ sym k.2 in cc

one_hex_literal : (s b c : List ℕ) → IsHexLiteral s b → IsHexLiteral s c → b ≡ c
one_hex_literal s b c h k =
    let e : 0x30 ∷ 0x78 ∷ h.digits ≡ 0x30 ∷ 0x78 ∷ k.digits = sym h.spelled ∙ k.spelled in
    let f : h.digits ≡ k.digits = cc in
    one_hex k.digits b c (subst (λ d. SpellsInHex d b) f h.spells) k.spells

-- the spellings of bytes
abbrev AreSpelled : (escapes : Bool) → Spelling → List ℕ → List ℕ → Type 0
AreSpelled escapes sp s b = IsString escapes s b ⊎ (IsHexLiteral s b ⊎ IsIntroduced sp s b)

pub introduced_is : (sp : Spelling) (s b : List ℕ) → IsIntroduced sp s b → sort_of s ≡ 4
introduced_is sp s b h = subst (λ y. sort_of y ≡ 4) (sym h.spelled) (introduced_sort h.introducer h.literal h.is)

one_introduced_bytes : (sp : Spelling) (s b c : List ℕ) → IsIntroduced sp s b → IsIntroduced sp s c → b ≡ c
one_introduced_bytes sp s b c h k =
    let o : (h.introducer ≡ k.introducer) × (h.literal ≡ k.literal) =
    one_introducer h.introducer k.introducer h.literal k.literal h.is k.is (sym h.spelled ∙
    k.spelled) in
    one_hex_literal k.literal b c (subst (λ y. IsHexLiteral y b) o.1 h.hexadecimal) k.hexadecimal

one_bytes : (escapes : Bool) (sp : Spelling) (s b c : List ℕ) → AreSpelled escapes sp s b →
    AreSpelled escapes sp s c → b ≡ c
one_bytes escapes sp s b c (inl h) (inl k) = (one_string escapes s s b c [] [] h k tt tt refl).2
one_bytes escapes sp s b c (inl h) (inr (inl k)) =
    absurd (two_sorts s 0 2 (string_sort escapes s b h) (hex_sort s c k)
    (λ e. absurd (omega arith)))
one_bytes escapes sp s b c (inl h) (inr (inr k)) =
    absurd (two_sorts s 0 4 (string_sort escapes s b h) (introduced_is sp s c k)
    (λ e. absurd (omega arith)))
one_bytes escapes sp s b c (inr (inl h)) (inl k) =
    absurd (two_sorts s 2 0 (hex_sort s b h) (string_sort escapes s c k)
    (λ e. absurd (omega arith)))
one_bytes escapes sp s b c (inr (inl h)) (inr (inl k)) = one_hex_literal s b c h k
one_bytes escapes sp s b c (inr (inl h)) (inr (inr k)) =
    absurd (two_sorts s 2 4 (hex_sort s b h) (introduced_is sp s c k) (λ e. absurd (omega arith)))
one_bytes escapes sp s b c (inr (inr h)) (inl k) =
    absurd (two_sorts s 4 0 (introduced_is sp s b h) (string_sort escapes s c k)
    (λ e. absurd (omega arith)))
one_bytes escapes sp s b c (inr (inr h)) (inr (inl k)) =
    absurd (two_sorts s 4 2 (introduced_is sp s b h) (hex_sort s c k) (λ e. absurd (omega arith)))
one_bytes escapes sp s b c (inr (inr h)) (inr (inr k)) = one_introduced_bytes sp s b c h k

no_bytes : (escapes : Bool) (sp : Spelling) (s b : List ℕ) (n : ℕ) → sort_of s ≡ n → n ≢ 0 → n ≢ 2 →
    n ≢ 4 → AreSpelled escapes sp s b → ⊥
no_bytes escapes sp s b n e p q r (inl h) = p (sym e ∙ string_sort escapes s b h)
no_bytes escapes sp s b n e p q r (inr (inl h)) = q (sym e ∙ hex_sort s b h)
no_bytes escapes sp s b n e p q r (inr (inr h)) = r (sym e ∙ introduced_is sp s b h)

-- a spelling has at most one content
pub one_content : (mode : Mode) (sp : Spelling) (s : List ℕ) (c d : Content) →
    IsLiteral mode sp s c → IsLiteral mode sp s d → c ≡ d
one_content mode sp s Null Null h k = refl
one_content mode sp s Null (Number z) h k =
    absurd (two_sorts s 1 3 (null_sort s h) (number_sort s z k) (λ e. absurd (omega arith)))
one_content mode sp s Null (Bytes b) h k =
    absurd (no_bytes (has_escapes mode single_quote) sp s b 1 (null_sort s h)
    (λ e. absurd (omega arith)) (λ e. absurd (omega arith)) (λ e. absurd (omega arith)) k)
one_content mode sp s (Number z) Null h k =
    absurd (two_sorts s 3 1 (number_sort s z h) (null_sort s k) (λ e. absurd (omega arith)))
one_content mode sp s (Number z) (Number y) h k = ap Number (one_number s z y h k)
one_content mode sp s (Number z) (Bytes b) h k =
    absurd (no_bytes (has_escapes mode single_quote) sp s b 3 (number_sort s z h)
    (λ e. absurd (omega arith)) (λ e. absurd (omega arith)) (λ e. absurd (omega arith)) k)
one_content mode sp s (Bytes b) Null h k =
    absurd (no_bytes (has_escapes mode single_quote) sp s b 1 (null_sort s k)
    (λ e. absurd (omega arith)) (λ e. absurd (omega arith)) (λ e. absurd (omega arith)) h)
one_content mode sp s (Bytes b) (Number z) h k =
    absurd (no_bytes (has_escapes mode single_quote) sp s b 3 (number_sort s z k)
    (λ e. absurd (omega arith)) (λ e. absurd (omega arith)) (λ e. absurd (omega arith)) h)
one_content mode sp s (Bytes b) (Bytes c) h k = ap Bytes (one_bytes (has_escapes mode single_quote) sp s b c h k)

-- a text has at most one list of contents
pub one_filling : (mode : Mode) (sp : Spelling) (ts : List (List ℕ)) (last : ℕ)
    (cs ds : List Content) (text : List ℕ) → AreTokens mode ts → AloneFrom last ts →
    Spells mode sp ts cs text → Spells mode sp ts ds text → cs ≡ ds
one_filling mode sp [] last cs ds text i a h k = h.0 ∙ sym k.0
one_filling mode sp (t ∷ ts) last cs ds text i a (inl (p, r, e, h)) (inl (q, r', e', k)) =
    one_filling mode sp ts (last_of last t) cs ds r i.1 a.1 h
    (subst (Spells mode sp ts ds) (sym (same_rest t r r' (sym e ∙ e'))) k)
one_filling mode sp (t ∷ ts) last cs ds text i a (inl m) (inr n) = absurd (let f : true ≡ false = sym n.0 ∙ m.0 in cc)
one_filling mode sp (t ∷ ts) last cs ds text i a (inr m) (inl n) = absurd (let f : true ≡ false = sym m.0 ∙ n.0 in cc)
one_filling mode sp (t ∷ ts) last cs ds text i a (inr (p, c, cs', s, r, e, l, f, h))
    (inr (q, d, ds', u, r', e', m, f', k)) =
    let b : BeginsApart r = rest_apart mode sp ts (last_of last t) cs' r i.1 a.1 h (a.0 p).1 in
    let b' : BeginsApart r' = rest_apart mode sp ts (last_of last t) ds' r' i.1 a.1 k (a.0 p).1 in
    let o : (s ≡ u) × (r ≡ r') = one_spelling mode sp s u r r' c d l m b b' (sym f ∙ f') in
    let n : c ≡ d = one_content mode sp u c d (subst (λ y. IsLiteral mode sp y c) o.0 l) m in
    let g : cs' ≡ ds' = one_filling mode sp ts (last_of last t) cs' ds' r i.1 a.1 h
    (subst (Spells mode sp ts ds') (sym o.1) k) in
    e ∙ ap (λ y. c ∷ y) g ∙ ap (λ y. y ∷ ds') n ∙ sym e'
