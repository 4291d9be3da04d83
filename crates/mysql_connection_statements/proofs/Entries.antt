-- Entries in the order of their numbers: what is found, put and taken out.
use Rattle.std.proofs.Common.{◌≡◌, ℕ, Bool, true, false, cond, List, [], ◌∷◌, Option, Some, None, refl, sym, ap, ◌∙◌}
use Rattle.std.specs.BTreeMap.{insert_entry, is_at}
use Rattle.std.specs.List.{AllByRecursion}
use Rattle.std.specs.List.Sorted.{IsStrictlySortedBy}
use Rattle.std.specs.Map.{keys_of, lookup, remove_entry, set_value}
use Rattle.std.proofs.Common.{Ordering, Less, Equal, Greater}
use Rattle.std.specs.Ordering.{is_eq, match_ordering, nat_cmp, ordering_reverse}
use Rattle.std.proofs.lemmas.Cmp.{alike_right, nat_cmp_total, tied_itself}
use Rattle.std.proofs.lemmas.Map.{lookup-none}
use Rattle.std.proofs.lemmas.Map.Entries.{lookup_head, lookup_tail, none_below_head}
use Rattle.std.proofs.lemmas.Map.Keys.{sorted_tail}

pub none_ascend : IsStrictlySortedBy nat_cmp []
unfolding IsStrictlySortedBy
none_ascend = tt

module _ {X : Type 0} where
  abbrev Ascend : List (ℕ × X) → Type 0
  Ascend es = IsStrictlySortedBy nat_cmp (keys_of es)

  -- ---- put

  put_by : (r : Ordering) (e : ℕ × X) (es : List (ℕ × X)) (id : ℕ) (x : X) → nat_cmp id e.0 ≡ r →
      lookup (is_at (nat_cmp id)) (insert_entry nat_cmp es id x) ≡ Some x
      → lookup (is_at (nat_cmp id))
      (match_ordering r ((id, x) ∷ e ∷ es) ((e.0, x) ∷ es) (e ∷ insert_entry nat_cmp es id x)) ≡
      Some x
  put_by Less e es id x p later =
      lookup_head (is_at (nat_cmp id)) (id, x) (e ∷ es) (ap is_eq (tied_itself nat_cmp_total id))
  put_by Equal e es id x p later = lookup_head (is_at (nat_cmp id)) (e.0, x) es (ap is_eq p)
  put_by Greater e es id x p later =
      lookup_tail (is_at (nat_cmp id)) e (insert_entry nat_cmp es id x) (ap is_eq p) ∙ later

  -- what was put under an id is found there
  pub found_again : (es : List (ℕ × X)) (id : ℕ) (x : X) →
      lookup (is_at (nat_cmp id)) (insert_entry nat_cmp es id x) ≡ Some x
  found_again [] id x = lookup_head (is_at (nat_cmp id)) (id, x) [] (ap is_eq (tied_itself nat_cmp_total id))
  found_again (e ∷ es) id x = put_by (nat_cmp id e.0) e es id x refl (found_again es id x)

  past_by : (r : Ordering) (e : ℕ × X) (es : List (ℕ × X)) (other id : ℕ) (x : X) →
      nat_cmp other e.0 ≡ r → is_at (nat_cmp id) other ≡ false
      → lookup (is_at (nat_cmp id)) (insert_entry nat_cmp es other x) ≡ lookup (is_at (nat_cmp id)) es
      → lookup (is_at (nat_cmp id))
      (match_ordering r ((other, x) ∷ e ∷ es) ((e.0, x) ∷ es) (e ∷
      insert_entry nat_cmp es other x)) ≡ lookup (is_at (nat_cmp id)) (e ∷ es)
  past_by Less e es other id x p differ later = lookup_tail (is_at (nat_cmp id)) (other, x) (e ∷ es) differ
  past_by Equal e es other id x p differ later =
      let past : is_at (nat_cmp id) e.0 ≡ false = sym (ap is_eq (alike_right nat_cmp_total other e.0 id p)) ∙ differ in
      lookup_tail (is_at (nat_cmp id)) (e.0, x) es past ∙ sym (lookup_tail (is_at (nat_cmp id)) e es past)
  past_by Greater e es other id x p differ later =
      ap (λ (found : Option X). cond (is_at (nat_cmp id) e.0) (Some e.1) found) later

  -- and what stood under another id is found as before
  pub others_found : (es : List (ℕ × X)) (other id : ℕ) (x : X) → is_at (nat_cmp id) other ≡ false
      → lookup (is_at (nat_cmp id)) (insert_entry nat_cmp es other x) ≡ lookup (is_at (nat_cmp id)) es
  others_found [] other id x differ = lookup_tail (is_at (nat_cmp id)) (other, x) [] differ
  others_found (e ∷ es) other id x differ =
      past_by (nat_cmp other e.0) e es other id x refl differ (others_found es other id x differ)

  in_place_by : (r : Ordering) (e : ℕ × X) (es : List (ℕ × X)) (id : ℕ) (old x : X) →
      nat_cmp id e.0 ≡ r → Ascend (e ∷ es) → Some old ≡ lookup (is_at (nat_cmp id)) (e ∷ es)
      → (Some old ≡ lookup (is_at (nat_cmp id)) es → set_value (is_at (nat_cmp id)) es x ≡ insert_entry nat_cmp es id x)
      → cond (is_eq r) ((e.0, x) ∷ es) (e ∷ set_value (is_at (nat_cmp id)) es x) ≡
      match_ordering r ((id, x) ∷ e ∷ es) ((e.0, x) ∷ es) (e ∷ insert_entry nat_cmp es id x)
  in_place_by Less e es id old x p ascend known later =
      absurd (let none : Some old ≡ None = known ∙
      lookup-none (is_at (nat_cmp id)) (e ∷
      es) (none_below_head nat_cmp_total id e es ascend p) in cc)
  in_place_by Equal e es id old x p ascend known later = refl
  in_place_by Greater e es id old x p ascend known later =
      ap (λ (rest : List (ℕ × X)). e ∷ rest) (later (known ∙ lookup_tail (is_at (nat_cmp id)) e es (ap is_eq p)))

  -- where something stands under an id, the next takes its place
  pub in_place : (es : List (ℕ × X)) (id : ℕ) (old x : X) → Ascend es → Some old ≡ lookup (is_at (nat_cmp id)) es
      → set_value (is_at (nat_cmp id)) es x ≡ insert_entry nat_cmp es id x
  in_place [] id old x ascend known = absurd (let none : Some old ≡ None = known in cc)
  in_place (e ∷ es) id old x ascend known =
      in_place_by (nat_cmp id e.0) e es id old x refl ascend known
      (in_place es id old x (sorted_tail nat_cmp e.0 (keys_of es) ascend))

  -- ---- taken out

  left_by : (r : Ordering) (e : ℕ × X) (es : List (ℕ × X)) (other id : ℕ) → nat_cmp other e.0 ≡ r →
      is_at (nat_cmp id) other ≡ false
      → lookup (is_at (nat_cmp id)) (remove_entry (is_at (nat_cmp other)) es) ≡ lookup (is_at (nat_cmp id)) es
      → lookup (is_at (nat_cmp id))
      (cond (is_eq r) es (e ∷ remove_entry (is_at (nat_cmp other)) es)) ≡
      lookup (is_at (nat_cmp id)) (e ∷ es)
  left_by Equal e es other id p differ later =
      sym (lookup_tail (is_at (nat_cmp id)) e es (sym (ap is_eq (alike_right nat_cmp_total other e.0 id p)) ∙ differ))
  left_by Less e es other id p differ later =
      ap (λ (found : Option X). cond (is_at (nat_cmp id) e.0) (Some e.1) found) later
  left_by Greater e es other id p differ later =
      ap (λ (found : Option X). cond (is_at (nat_cmp id) e.0) (Some e.1) found) later

  -- behind one that is taken out what stood under another id is found as before
  pub others_left : (es : List (ℕ × X)) (other id : ℕ) → is_at (nat_cmp id) other ≡ false
      → lookup (is_at (nat_cmp id)) (remove_entry (is_at (nat_cmp other)) es) ≡ lookup (is_at (nat_cmp id)) es
  others_left [] other id differ = refl
  others_left (e ∷ es) other id differ =
      left_by (nat_cmp other e.0) e es other id refl differ (others_left es other id differ)

  -- ---- the ids ascend

  all_put_by : (P : ℕ → Type 0) (r : Ordering) (e : ℕ × X) (es : List (ℕ × X)) (id : ℕ) (x : X) →
      P id → AllByRecursion P (keys_of (e ∷ es))
      → AllByRecursion P (keys_of (insert_entry nat_cmp es id x))
      → AllByRecursion P (keys_of
      (match_ordering r ((id, x) ∷ e ∷ es) ((e.0, x) ∷ es) (e ∷ insert_entry nat_cmp es id x)))
  all_put_by P Less e es id x new all later = (new, all)
  all_put_by P Equal e es id x new all later = all
  all_put_by P Greater e es id x new all later = (all.0, later)

  all_put : (P : ℕ → Type 0) (es : List (ℕ × X)) (id : ℕ) (x : X) → P id →
      AllByRecursion P (keys_of es) → AllByRecursion P (keys_of (insert_entry nat_cmp es id x))
  all_put P [] id x new all = (new, tt)
  all_put P (e ∷ es) id x new all = all_put_by P (nat_cmp id e.0) e es id x new all (all_put P es id x new all.1)

  ascend_put_by : (r : Ordering) (e : ℕ × X) (es : List (ℕ × X)) (id : ℕ) (x : X) → nat_cmp id e.0 ≡
      r → Ascend (e ∷ es) → Ascend (insert_entry nat_cmp es id x)
      → Ascend (match_ordering r ((id, x) ∷ e ∷ es) ((e.0, x) ∷ es) (e ∷ insert_entry nat_cmp es id x))
  unfolding IsStrictlySortedBy
  ascend_put_by Less e es id x p ascend later = ((p, below_all id e.0 (keys_of es) p ascend.0), ascend)
    where
      below_all : (low k : ℕ) (ks : List ℕ) → nat_cmp low k ≡ Less →
          AllByRecursion (λ y. nat_cmp k y ≡ Less) ks →
          AllByRecursion (λ y. nat_cmp low y ≡ Less) ks
      below_all low k [] p all = tt
      below_all low k (y ∷ ks) p all = (nat_cmp_total.trans low k y p all.0, below_all low k ks p all.1)
  ascend_put_by Equal e es id x p ascend later = ascend
  ascend_put_by Greater e es id x p ascend later = (
    all_put (λ y. nat_cmp e.0 y ≡ Less) es id x (nat_cmp_total.antisymm e.0 id ∙
        ap ordering_reverse p) ascend.0,
    later,
  )

  pub ascend_put : (es : List (ℕ × X)) (id : ℕ) (x : X) → Ascend es → Ascend (insert_entry nat_cmp es id x)
  unfolding IsStrictlySortedBy
  ascend_put [] id x ascend = (tt, tt)
  ascend_put (e ∷ es) id x ascend = ascend_put_by (nat_cmp id e.0) e es id x refl ascend (ascend_put es id x ascend.1)

  all_left_by : (P : ℕ → Type 0) (test : Bool) (e : ℕ × X) (es rest : List (ℕ × X)) →
      AllByRecursion P (keys_of (e ∷ es)) → AllByRecursion P (keys_of rest)
      → AllByRecursion P (keys_of (cond test es (e ∷ rest)))
  all_left_by P true e es rest all later = all.1
  all_left_by P false e es rest all later = (all.0, later)

  all_left : (P : ℕ → Type 0) (es : List (ℕ × X)) (test : ℕ → Bool) →
      AllByRecursion P (keys_of es) → AllByRecursion P (keys_of (remove_entry test es))
  all_left P [] test all = tt
  all_left P (e ∷ es) test all = all_left_by P (test e.0) e es (remove_entry test es) all (all_left P es test all.1)

  ascend_left_by : (gone : Bool) (e : ℕ × X) (es : List (ℕ × X)) (test : ℕ → Bool) →
      Ascend (e ∷ es) → Ascend (remove_entry test es)
      → Ascend (cond gone es (e ∷ remove_entry test es))
  unfolding IsStrictlySortedBy
  ascend_left_by true e es test ascend later = ascend.1
  ascend_left_by false e es test ascend later = (all_left (λ y. nat_cmp e.0 y ≡ Less) es test ascend.0, later)

  pub ascend_left : (es : List (ℕ × X)) (test : ℕ → Bool) → Ascend es → Ascend (remove_entry test es)
  unfolding IsStrictlySortedBy
  ascend_left [] test ascend = tt
  ascend_left (e ∷ es) test ascend = ascend_left_by (test e.0) e es test ascend (ascend_left es test ascend.1)
