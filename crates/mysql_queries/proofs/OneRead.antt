-- What is read at the front of a text is one run and one content.
use Rattle.std.proofs.Common.{◌≡◌, ◌≢◌, ℕ, Bool, true, false, List, [], ◌∷◌, ◌++◌, take, map, codes, ◌==◌}
use Rattle.std.proofs.Common.{if◌then◌else◌, refl, sym, ap, ◌∙◌, inl, inr, append_assoc, arith, subst, ℤ}
use Rattle.std.specs.List.{AllByRecursion}
use Rattle.mysql_queries.specs.Tokens.{has_escapes, IsQuoted, Quoted, single_quote, dash}
use Rattle.mysql_queries.specs.Literals.{lower, is_digit, is_hex, AreDigits, IsNumber, IsLiteral}
use Rattle.mysql_bytes.specs.declared.content.Content.{Content}
use Rattle.mysql_bytes.specs.declared.mode.Mode.{Mode}
use Rattle.mysql_queries.specs.LiteralRuns.{begins_hex, EndsBefore, IsDigitRun, IsHexRun, IsIntroducedRun, IsLiteralRun}
use Rattle.mysql_queries.proofs.Runs.{one_run}
use Rattle.mysql_queries.proofs.OneToken.{one_shape}
use Rattle.mysql_queries.proofs.OneContent.{one_content, one_introducer, digit_lower}
use Rattle.mysql_queries.proofs.Follow.{not_equal}
use Rattle.mysql_queries.proofs.Spellings.{apart_bytes}
use Rattle.mysql_queries.proofs.Decimals.{ends_run}
use Rattle.mysql_queries.proofs.HexDigits.{hex_ends}
use Rattle.mysql_queries.proofs.Fronts.{Front, null, string, hexadecimal, number, introduced, front}
use Rattle.mysql_bytes.specs.declared.spelling.Spelling.{Spelling}

null_four : (r q : List ℕ) → map lower r ≡ codes "null" → r ≡ take 4 (r ++ q)
null_four [] q h = cc
null_four (a ∷ []) q h = cc
null_four (a ∷ b ∷ []) q h = cc
null_four (a ∷ b ∷ c ∷ []) q h = cc
null_four (a ∷ b ∷ c ∷ d ∷ []) q h = refl
null_four (a ∷ b ∷ c ∷ d ∷ e ∷ x) q h = cc

one_null : (r q s p : List ℕ) → r ++ q ≡ s ++ p → map lower r ≡ codes "null" → map lower s ≡ codes "null" → r ≡ s
one_null r q s p e h k = null_four r q h ∙ ap (take 4) e ∙ sym (null_four s p k)

pub one_hex_run : (r q s p : List ℕ) → r ++ q ≡ s ++ p → IsHexRun r q → IsHexRun s p → r ≡ s
one_hex_run r q s p e h k =
    let f : 0x30 ∷ 0x78 ∷ (h.digits ++ q) ≡ 0x30 ∷ 0x78 ∷ (k.digits ++ p) =
    sym (ap (λ y. y ++ q) h.spelled) ∙ e ∙ ap (λ y. y ++ p) k.spelled in
    let g : h.digits ++ q ≡ k.digits ++ p = cc in
    let o : (h.digits ≡ k.digits) × (q ≡ p) =
    one_run (λ b. is_hex b ≡ true) h.digits k.digits q p h.each k.each (hex_ends q h.ends)
    (hex_ends p k.ends) g in
    h.spelled ∙ ap (λ y. 0x30 ∷ 0x78 ∷ y) o.0 ∙ sym k.spelled

one_digits : (r q s p : List ℕ) → r ++ q ≡ s ++ p → AllByRecursion (λ b. is_digit b ≡ true) r →
    AllByRecursion (λ b. is_digit b ≡ true) s → EndsBefore is_digit q → EndsBefore is_digit p → r ≡
    s
one_digits r q s p e h k f g = (one_run (λ b. is_digit b ≡ true) r s q p h k (ends_run q f) (ends_run p g) e).0

pub dash_no_digit : (d q x : List ℕ) → AreDigits d → dash ∷ x ≡ d ++ q → ⊥
dash_no_digit [] q x h e = h.some refl
dash_no_digit (b ∷ d) q x h e = let f : b ≡ dash = cc in let g : true ≡ false = sym h.each.0 ∙ ap is_digit f in cc

one_number_run : (r q s p : List ℕ) (y z : ℤ) → r ++ q ≡ s ++ p → IsDigitRun r q → IsNumber r y →
    IsDigitRun s p → IsNumber s z → r ≡ s
one_number_run r q s p y z e h k l m = elim k.value [
  | inl v ↦ elim m.value [
    | inl w ↦ v.0 ∙ one_digits k.digits q m.digits p (sym (ap (λ x. x ++ q) v.0) ∙ e ∙
        ap (λ x. x ++ p) w.0) k.are.each m.are.each h.ends l.ends ∙ sym w.0
    | inr w ↦ absurd (dash_no_digit k.digits q (m.digits ++ p) k.are (sym (ap (λ x. x ++ p) w.0) ∙
        sym e ∙ ap (λ x. x ++ q) v.0))
  ]
  | inr v ↦ elim m.value [
    | inl w ↦ absurd (dash_no_digit m.digits p (k.digits ++ q) m.are (sym (ap (λ x. x ++ q) v.0) ∙
        e ∙ ap (λ x. x ++ p) w.0))
    | inr w ↦ (let f : dash ∷ (k.digits ++ q) ≡ dash ∷ (m.digits ++ p) =
        sym (ap (λ x. x ++ q) v.0) ∙ e ∙ ap (λ x. x ++ p) w.0 in
        let g : k.digits ++ q ≡ m.digits ++ p = cc in
        v.0 ∙ ap (λ x. dash ∷ x) (one_digits k.digits q m.digits p g k.are.each m.are.each h.ends l.ends) ∙ sym w.0)
  ]
]

-- Which literal a text begins with, if it does: a string, NULL, one behind an introducer,
-- hexadecimal or a number.
front_sort : List ℕ → ℕ
front_sort [] = 3
front_sort (a ∷ x) = if a == 0x27 then 0 else
    (if lower a == 0x6e then 1 else
    (if a == 0x5f then 4 else (if begins_hex (a ∷ x) then 2 else 3)))

null_front : (r q : List ℕ) → map lower r ≡ codes "null" → front_sort (r ++ q) ≡ 1
unfolding front_sort
null_front [] q h = cc
null_front (a ∷ x) q h =
    let e : lower a ≡ 0x6e = cc in
    let f : (a == 0x27) ≡ false =
    not_equal a 0x27 (λ k. let g : lower 0x27 ≡ 0x6e = subst (λ y. lower y ≡ 0x6e) k e in
    absurd (omega arith)) in
    rw (f, e) refl

string_front : (escapes : Bool) (r q : List ℕ) → IsQuoted escapes single_quote r q → front_sort (r ++ q) ≡ 0
unfolding front_sort
string_front escapes r q h = rw h.spelled refl

hex_front_sort : (r q : List ℕ) → IsHexRun r q → front_sort (r ++ q) ≡ 2
unfolding front_sort
hex_front_sort r q h = rw h.spelled refl

digits_front : (d q : List ℕ) → AreDigits d → begins_hex (d ++ q) ≡ false → front_sort (d ++ q) ≡ 3
unfolding front_sort
digits_front [] q h b = absurd (h.some refl)
digits_front (a ∷ x) q h b =
    rw (
      not_equal a 0x27 (apart_bytes is_digit a 0x27 h.each.0 refl),
      not_equal (lower a) 0x6e (digit_lower a h.each.0),
      not_equal a 0x5f (apart_bytes is_digit a 0x5f h.each.0 refl),
      b,
    ) refl

dash_front : (x : List ℕ) → front_sort (dash ∷ x) ≡ 3
unfolding front_sort
dash_front [] = refl
dash_front (b ∷ x) = refl

number_front : (r q : List ℕ) (z : ℤ) → IsDigitRun r q → IsNumber r z → front_sort (r ++ q) ≡ 3
number_front r q z h k = elim k.value [
  | inl v ↦ subst (λ y. front_sort (y ++ q) ≡
      3) (sym v.0) (digits_front k.digits q k.are
      (subst (λ y. begins_hex (y ++ q) ≡ false) v.0 h.other))
  | inr v ↦ subst (λ y. front_sort (y ++ q) ≡ 3) (sym v.0) (dash_front (k.digits ++ q))
]

introduced_front_sort : (sp : Spelling) (r q : List ℕ) → IsIntroducedRun sp r q → front_sort (r ++ q) ≡ 4
unfolding front_sort
introduced_front_sort sp r q h = elim h.is [
  | inl e ↦ subst (λ y. front_sort (y ++ q) ≡ 4) (sym (h.spelled ∙ ap (λ y. y ++ h.literal) e)) refl
  | inr e ↦ subst (λ y. front_sort (y ++ q) ≡ 4) (sym (h.spelled ∙ ap (λ y. y ++ h.literal) e)) refl
]

one_introduced_run : (sp : Spelling) (r q s p : List ℕ) → r ++ q ≡ s ++ p → IsIntroducedRun sp r q →
    IsIntroducedRun sp s p → r ≡ s
one_introduced_run sp r q s p e h k =
    let f : h.introducer ++ (h.literal ++ q) ≡ k.introducer ++ (k.literal ++ p) =
    sym (append_assoc h.introducer h.literal q) ∙ ap (λ y. y ++ q) (sym h.spelled) ∙ e ∙
    ap (λ y. y ++ p) k.spelled ∙ append_assoc k.introducer k.literal p in
    let o : (h.introducer ≡ k.introducer) × (h.literal ++ q ≡ k.literal ++ p) =
    one_introducer h.introducer k.introducer (h.literal ++ q) (k.literal ++ p) h.is k.is f in
    let l : h.literal ≡ k.literal = one_hex_run h.literal q k.literal p o.1 h.hexadecimal k.hexadecimal in
    h.spelled ∙ ap (λ y. y ++ h.literal) o.0 ∙ ap (λ y. k.introducer ++ y) l ∙ sym k.spelled

other : (t u : List ℕ) (m n : ℕ) {r s : List ℕ} → front_sort t ≡ m → front_sort u ≡ n → t ≡ u → m ≢ n → r ≡ s
other t u m n e f g k = absurd (k (sym e ∙ ap front_sort g ∙ f))

one_front : (mode : Mode) (sp : Spelling) (r q s p : List ℕ) →
    Front (has_escapes mode single_quote) sp r q → Front (has_escapes mode single_quote) sp s p →
    r ++ q ≡ s ++ p → r ≡ s
one_front mode sp r q s p (null h) (null k) e = one_null r q s p e h k
one_front mode sp r q s p (null h) (string b k j) e =
    other (r ++ q) (s ++ p) 1 0 (null_front r q h)
    (string_front (has_escapes mode single_quote) s p k) e (λ x. absurd (omega arith))
one_front mode sp r q s p (null h) (hexadecimal b k j) e =
    other (r ++ q) (s ++ p) 1 2 (null_front r q h) (hex_front_sort s p k) e
    (λ x. absurd (omega arith))
one_front mode sp r q s p (null h) (number b k j) e =
    other (r ++ q) (s ++ p) 1 3 (null_front r q h) (number_front s p b k j) e
    (λ x. absurd (omega arith))
one_front mode sp r q s p (null h) (introduced b k j) e =
    other (r ++ q) (s ++ p) 1 4 (null_front r q h) (introduced_front_sort sp s p k) e
    (λ x. absurd (omega arith))
one_front mode sp r q s p (string a h i) (null k) e =
    other (r ++ q) (s ++ p) 0 1 (string_front (has_escapes mode single_quote) r q h)
    (null_front s p k) e (λ x. absurd (omega arith))
one_front mode sp r q s p (string a h i) (string b k j) e = (one_shape mode (Quoted single_quote) refl r q s p h k e).0
one_front mode sp r q s p (string a h i) (hexadecimal b k j) e =
    other (r ++ q) (s ++ p) 0 2 (string_front (has_escapes mode single_quote) r q h)
    (hex_front_sort s p k) e (λ x. absurd (omega arith))
one_front mode sp r q s p (string a h i) (number b k j) e =
    other (r ++ q) (s ++ p) 0 3 (string_front (has_escapes mode single_quote) r q h)
    (number_front s p b k j) e (λ x. absurd (omega arith))
one_front mode sp r q s p (string a h i) (introduced b k j) e =
    other (r ++ q) (s ++ p) 0 4 (string_front (has_escapes mode single_quote) r q h)
    (introduced_front_sort sp s p k) e (λ x. absurd (omega arith))
one_front mode sp r q s p (hexadecimal a h i) (null k) e =
    other (r ++ q) (s ++ p) 2 1 (hex_front_sort r q h) (null_front s p k) e
    (λ x. absurd (omega arith))
one_front mode sp r q s p (hexadecimal a h i) (string b k j) e =
    other (r ++ q) (s ++ p) 2 0 (hex_front_sort r q h)
    (string_front (has_escapes mode single_quote) s p k) e (λ x. absurd (omega arith))
one_front mode sp r q s p (hexadecimal a h i) (hexadecimal b k j) e = one_hex_run r q s p e h k
one_front mode sp r q s p (hexadecimal a h i) (number b k j) e =
    other (r ++ q) (s ++ p) 2 3 (hex_front_sort r q h) (number_front s p b k j) e
    (λ x. absurd (omega arith))
one_front mode sp r q s p (hexadecimal a h i) (introduced b k j) e =
    other (r ++ q) (s ++ p) 2 4 (hex_front_sort r q h) (introduced_front_sort sp s p k) e
    (λ x. absurd (omega arith))
one_front mode sp r q s p (number a h i) (null k) e =
    other (r ++ q) (s ++ p) 3 1 (number_front r q a h i) (null_front s p k) e
    (λ x. absurd (omega arith))
one_front mode sp r q s p (number a h i) (string b k j) e =
    other (r ++ q) (s ++ p) 3 0 (number_front r q a h i)
    (string_front (has_escapes mode single_quote) s p k) e (λ x. absurd (omega arith))
one_front mode sp r q s p (number a h i) (hexadecimal b k j) e =
    other (r ++ q) (s ++ p) 3 2 (number_front r q a h i) (hex_front_sort s p k) e
    (λ x. absurd (omega arith))
one_front mode sp r q s p (number a h i) (number b k j) e = one_number_run r q s p a b e h i k j
one_front mode sp r q s p (number a h i) (introduced b k j) e =
    other (r ++ q) (s ++ p) 3 4 (number_front r q a h i) (introduced_front_sort sp s p k) e
    (λ x. absurd (omega arith))
one_front mode sp r q s p (introduced a h i) (null k) e =
    other (r ++ q) (s ++ p) 4 1 (introduced_front_sort sp r q h) (null_front s p k) e
    (λ x. absurd (omega arith))
one_front mode sp r q s p (introduced a h i) (string b k j) e =
    other (r ++ q) (s ++ p) 4 0 (introduced_front_sort sp r q h)
    (string_front (has_escapes mode single_quote) s p k) e (λ x. absurd (omega arith))
one_front mode sp r q s p (introduced a h i) (hexadecimal b k j) e =
    other (r ++ q) (s ++ p) 4 2 (introduced_front_sort sp r q h) (hex_front_sort s p k) e
    (λ x. absurd (omega arith))
one_front mode sp r q s p (introduced a h i) (number b k j) e =
    other (r ++ q) (s ++ p) 4 3 (introduced_front_sort sp r q h) (number_front s p b k j) e
    (λ x. absurd (omega arith))
one_front mode sp r q s p (introduced a h i) (introduced b k j) e = one_introduced_run sp r q s p e h k

-- what is read is one run and one content
pub one_read : (mode : Mode) (sp : Spelling) (r q s p : List ℕ) (c d : Content) → r ++ q ≡ s ++ p →
    IsLiteralRun mode sp r q → IsLiteral mode sp r c → IsLiteralRun mode sp s p →
    IsLiteral mode sp s d → (r ≡ s) × (c ≡ d)
one_read mode sp r q s p c d e i l j m =
    let f : r ≡ s = one_front mode sp r q s p (front mode sp r q c i l) (front mode sp s p d j m) e in
    (f, one_content mode sp s c d (subst (λ y. IsLiteral mode sp y c) f l) m)
