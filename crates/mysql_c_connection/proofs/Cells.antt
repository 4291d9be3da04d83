-- The cells of a row, shown one behind another.
use Rattle.std.proofs.Common.{◌≡◌, ◌≢◌, ℕ, zero, suc, ◌+◌, ◌<◌, ◌≤◌, ◌⊎◌, inl, inr, min, Bool, true, false, nat_lt}
use Rattle.std.proofs.Common.{List, [], ◌∷◌, length, set, slice_get, Option, Some, None, IfSome, refl, sym, ap, ◌∙◌}
use Rattle.std.proofs.Common.{subst, arith}
use Rattle.std.specs.Option.{option_flatten}
use Rattle.std.proofs.lemmas.Bool.Decides.{nat_tests}
use Rattle.std.proofs.lemmas.List.{length-set}
use Rattle.mysql_cells.specs.declared.value.Value.{Value}
use Rattle.mysql_rows.specs.Rows.{Row, cell_at}
use Rattle.mysql_c_replies.specs.Shown.{ShowsValue}
use Rattle.mysql_c_replies.specs.declared.shown.ShownValue.{ShownValue}
use Rattle.mysql_connection_rules.specs.Events.{Event}
use Rattle.mysql_c_connection.specs.Lent.{ShowsAt, ShowsCell, ShowsRow, event_told, row_said}

get_same : {A : Type 0} (xs : List A) (i : ℕ) (x : A) → i < length xs → slice_get (set xs i x) i ≡ Some x
get_same [] i x l = absurd (omega arith)
get_same (y ∷ xs) zero x l = refl
get_same (y ∷ xs) (suc i) x l = get_same xs i x (omega arith)

get_other : {A : Type 0} (xs : List A) (i k : ℕ) (x : A) → (i ≡ k → ⊥) → slice_get (set xs i x) k ≡ slice_get xs k
get_other [] i k x n = refl
get_other (y ∷ xs) zero zero x n = absurd (n refl)
get_other (y ∷ xs) zero (suc k) x n = refl
get_other (y ∷ xs) (suc i) zero x n = refl
get_other (y ∷ xs) (suc i) (suc k) x n = get_other xs i k x (λ e. n (ap suc e))

get_past : {A : Type 0} (xs : List A) (i : ℕ) → length xs ≤ i → slice_get xs i ≡ None
get_past [] i l = refl
get_past (y ∷ xs) zero l = absurd (omega arith)
get_past (y ∷ xs) (suc i) l = get_past xs i (omega arith)

split : (k n : ℕ) → (k < n) ⊎ (n ≤ k)
split k n = by_test (nat_lt k n) refl
  where
    by_test : (t : Bool) → nat_lt k n ≡ t → (k < n) ⊎ (n ≤ k)
    by_test true e = inl (grind (arith, nat_tests))
    by_test false e = inr (grind (arith, nat_tests))

pub sets_shown : (cells : List ShownValue) (place : ℕ) (value : Value) (x : ShownValue) → place < length cells →
    ShowsValue value x → ShowsAt (Some value) place cells (set cells place x)
sets_shown cells place value x l s = (
  length-set cells place x,
  subst (λ o. IfSome o (ShowsValue value)) (sym (get_same cells place x l)) s,
  λ k n. get_other cells place k x (λ e. n (sym e)),
)

-- the cells before a place are shown, and those from it on are as they were
abbrev pub Below : Row → (old new : List ShownValue) → ℕ → Type 0
Below row old new place = (length new ≡ length old) ×
    ((k : ℕ) → k < place → ShowsCell (cell_at row (Some k)) (slice_get old k) (slice_get new k)) ×
    ((k : ℕ) → place ≤ k → slice_get new k ≡ slice_get old k)

pub start : (row : Row) (old : List ShownValue) → Below row old old 0
start row old = (refl, λ k h. absurd (omega arith), λ k h. refl)

pub more : (row : Row) (old new newer : List ShownValue) (place : ℕ) (cell : Option Value) →
    Below row old new place → cell ≡ cell_at row (Some place) → ShowsAt cell place new newer →
    Below row old newer (place + 1)
more row old new newer place cell h e s = (s.0 ∙ h.0, λ k l. before k l (split k place), λ k l. behind k l)
  where
    before : (k : ℕ) → k < place + 1 → (k < place) ⊎ (place ≤ k) →
        ShowsCell (cell_at row (Some k)) (slice_get old k) (slice_get newer k)
    before k l (inl m) =
        let n : k ≢ place = λ i. omega (arith, i) in
        subst (λ o. ShowsCell (cell_at row (Some k)) (slice_get old k) o) (sym (s.2 k n)) (h.1 k m)
    before k l (inr m) =
        let i : place ≡ k = omega arith in
        subst (λ j. ShowsCell (cell_at row (Some j)) (slice_get old j) (slice_get newer j)) i
        (subst (λ o. ShowsCell (cell_at row (Some place)) o (slice_get newer place)) (h.2 place (omega arith))
        (subst (λ c. ShowsCell c (slice_get new place) (slice_get newer place)) e s.1))

    behind : (k : ℕ) → place + 1 ≤ k → slice_get newer k ≡ slice_get old k
    behind k l = let n : k ≢ place = λ i. omega (arith, i) in s.2 k n ∙ h.2 k (omega arith)

stays : (c : Option Value) (o n : Option ShownValue) → n ≡ None → n ≡ o → ShowsCell c o n
stays None o n e s = s
stays (Some v) o n e s = subst (λ m. IfSome m (ShowsValue v)) (sym e) tt

pub whole : (row : Row) (old new : List ShownValue) (count : ℕ) → Below row old new count →
    count ≡ min (length row.cells) (length old) → ShowsRow row old new
whole row old new count h e = record { as_many = h.0; each = λ k. each k (split k count) }
  where
    each : (k : ℕ) → (k < count) ⊎ (count ≤ k) →
        ShowsCell (cell_at row (Some k)) (slice_get old k) (slice_get new k)
    each k (inl l) = h.1 k l
    each k (inr l) = elim (split k (length row.cells)) [
      | inl m ↦ let n : length new ≤ k = grind (arith, e, h.0) in
          stays (cell_at row (Some k)) (slice_get old k) (slice_get new k) (get_past new k n) (h.2 k l)
      | inr m ↦ subst (λ c. ShowsCell c (slice_get old k) (slice_get new k))
          (sym (ap option_flatten (get_past row.cells k m))) (h.2 k l)
    ]

-- what is said of the row that is lent is said of what was told last, where no event is held
pub some_told : (P : Event → Type 0) (row : Row) (lent : Option Row) → Some row ≡ lent → P (row_said row) →
    IfSome (event_told None lent) P
some_told P row lent e p = subst (λ r. IfSome (event_told None r) P) e p

pub none_told : (P : Event → Type 0) (lent : Option Row) → None ≡ lent → IfSome (event_told None lent) P
none_told P lent e = subst (λ r. IfSome (event_told None r) P) e tt
