-- Rows of digits.
use Rattle.std.proofs.Common.{◌≡◌, ◌≢◌, ℕ, ◌+◌, ◌-◌, ◌*◌, ◌^◌, ◌≤◌, ◌<◌, true, false, List, [], ◌∷◌, ◌++◌, length, take}
use Rattle.std.proofs.Common.{drop, get_or, slice_range, fold, refl, sym, ap, ◌∙◌, inl, inr, arith, subst}
use Rattle.std.proofs.Common.{take-append-drop, le_trans, length-drop, get_or-drop, add-sub_of_le, ℤ}
use Rattle.std.specs.List.{AllByRecursion}
use Rattle.std.proofs.lemmas.List.{take_more}
use Rattle.mysql_queries.specs.Tokens.{dash}
use Rattle.mysql_queries.specs.Literals.{is_digit, digits_value, AreDigits, IsNumber}
use Rattle.mysql_queries.specs.LiteralRuns.{EndsBefore, IsDigitRun}
use Rattle.mysql_queries.proofs.Runs.{EndsRun, one_run}
use Rattle.mysql_queries.proofs.Cuts.{all_more, cut_at}

abbrev step : ℕ → ℕ → ℕ
step n d = n * 10 + (d - 0x30)

fold_join : (a : ℕ) (xs ys : List ℕ) → fold step a (xs ++ ys) ≡ fold step (fold step a xs) ys
fold_join a [] ys = refl
fold_join a (x ∷ xs) ys = fold_join (step a x) xs ys

fold_grows : (a : ℕ) (xs : List ℕ) → a ≤ fold step a xs
fold_grows a [] = omega arith
fold_grows a (x ∷ xs) = le_trans (omega arith) (fold_grows (step a x) xs)

pub value_more : (ds : List ℕ) (i : ℕ) → i < length ds → digits_value (take (i + 1) ds) ≡
    digits_value (take i ds) * 10 + (get_or ds i 0 - 0x30)
value_more ds i h = ap digits_value (take_more ds i 0 h) ∙ fold_join 0 (take i ds) (get_or ds i 0 ∷ [])

pub value_front : (ds : List ℕ) (i : ℕ) → digits_value (take i ds) ≤ digits_value ds
value_front ds i =
    let e : digits_value ds ≡ fold step (digits_value (take i ds)) (drop i ds) =
    ap digits_value (sym (take-append-drop i ds)) ∙ fold_join 0 (take i ds) (drop i ds) in
    subst (λ n. digits_value (take i ds) ≤ n) (sym e) (fold_grows (digits_value (take i ds)) (drop i ds))

pub slice_more : (P : ℕ → Type 0) (t : List ℕ) (from end : ℕ) → from ≤ end → end < length t →
    AllByRecursion P (slice_range t from end) → P (get_or t end 0) →
    AllByRecursion P (slice_range t from (end + 1))
slice_more P t from end l h k p =
    let e : end + 1 - from ≡ end - from + 1 = omega arith in
    let n : end - from < length (drop from t) = omega (arith, length-drop from t) in
    let g : get_or (drop from t) (end - from) 0 ≡ get_or t end 0 =
    get_or-drop from t (end - from) 0 ∙ ap (λ m. get_or t m 0) (add-sub_of_le l) in
    subst (AllByRecursion P) (sym (ap (λ m. take m (drop from t)) e ∙
    take_more (drop from t) (end - from) 0 n))
    (all_more P (take (end - from) (drop from t)) (get_or (drop from t) (end - from) 0) k
    (subst P (sym g) p))

pub ends_run : (r : List ℕ) → EndsBefore is_digit r → EndsRun (λ b. is_digit b ≡ true) r
ends_run [] h = tt
ends_run (b ∷ r) h = λ e. let f : true ≡ false = sym e ∙ h in cc

-- the digits of a number that begins the text are these
same_digits : (t : List ℕ) (from end : ℕ) (digits rest : List ℕ) → from ≤ end →
    AllByRecursion (λ b. is_digit b ≡ true) (slice_range t from end) →
    EndsBefore is_digit (drop end t) → AllByRecursion (λ b. is_digit b ≡ true) digits →
    EndsBefore is_digit rest
    → drop from t ≡ digits ++ rest → digits ≡ slice_range t from end
same_digits t from end digits rest l a e d f h =
    (one_run (λ b. is_digit b ≡ true) digits (slice_range t from end) rest (drop end t) d a
    (ends_run rest f) (ends_run (drop end t) e) (sym h ∙ cut_at t from end l)).0

first_digit : (digits rest x : List ℕ) (b : ℕ) → AreDigits digits → b ∷ x ≡ digits ++ rest → b ≢ dash
first_digit [] rest x b d h e = d.some refl
first_digit (c ∷ digits) rest x b d h e = let f : c ≡ dash = cc in let g : true ≡ false =
    sym d.each.0 ∙ ap is_digit f in cc

pub negative_number : (t : List ℕ) (end : ℕ) → 0 < length t → get_or t 0 0 ≡ dash → 1 ≤ end →
    AllByRecursion (λ b. is_digit b ≡ true) (slice_range t 1 end) → EndsBefore is_digit (drop end t)
    → (run rest : List ℕ) (z : ℤ) → t ≡ run ++ rest → IsDigitRun run rest → IsNumber run z →
    (slice_range t 1 end ≢ []) × (digits_value (slice_range t 1 end) ≤ 2 ^ 63)
negative_number [] end h b l a e run rest z j r k = absurd (omega arith)
negative_number (c ∷ x) end h b l a e run rest z j r k = elim k.value [
  | inl v ↦ absurd (first_digit k.digits rest x c k.are (j ∙ ap (λ y. y ++ rest) v.0) b)
  | inr v ↦ (let f : c ∷ x ≡ dash ∷ (k.digits ++ rest) = j ∙ ap (λ y. y ++ rest) v.0 in
      let g : k.digits ≡ slice_range (c ∷ x) 1 end =
      same_digits (c ∷ x) 1 end k.digits rest l a e k.are.each r.ends (cc) in
      ((λ n. k.are.some (g ∙ n)), subst (λ d. digits_value d ≤ 2 ^ 63) g v.2))
]

pub positive_number : (t : List ℕ) (end : ℕ) → (0 < length t → get_or t 0 0 ≢ dash) →
    AllByRecursion (λ b. is_digit b ≡ true) (slice_range t 0 end) → EndsBefore is_digit (drop end t)
    → (run rest : List ℕ) (z : ℤ) → t ≡ run ++ rest → IsDigitRun run rest → IsNumber run z →
    (slice_range t 0 end ≢ []) × (digits_value (slice_range t 0 end) < 2 ^ 64)
positive_number t end b a e run rest z j r k = elim k.value [
  | inl v ↦ (let g : k.digits ≡ slice_range t 0 end =
      same_digits t 0 end k.digits rest (omega arith) a e k.are.each r.ends (j ∙
      ap (λ y. y ++ rest) v.0) in
      ((λ n. k.are.some (g ∙ n)), subst (λ d. digits_value d < 2 ^ 64) g v.2))
  | inr v ↦ absurd (no_dash t b (k.digits ++ rest) (j ∙ ap (λ y. y ++ rest) v.0))
]
  where
    no_dash : (t : List ℕ) → (0 < length t → get_or t 0 0 ≢ dash) → (x : List ℕ) → t ≡ dash ∷ x → ⊥
    no_dash [] b x h = cc
    no_dash (c ∷ t) b x h = b (omega arith) (cc)
