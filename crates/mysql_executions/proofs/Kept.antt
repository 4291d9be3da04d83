-- What is kept of a statement's parameters: types in front, and long data.
use Rattle.std.proofs.Common.{◌≡◌, ℕ, ◌+◌, cond, List, [], ◌∷◌, ◌++◌, Option, Some, None, refl, sym, ap, ◌∙◌, arith}
use Rattle.std.specs.Prelude.{OnErr, OnOk, Result, Ok, Err, nat_eq, unwrap_or}
use Rattle.std.specs.BTreeMap.{insert_entry, is_at}
use Rattle.std.specs.Cmp.{unsigned_tied}
use Rattle.std.specs.List.Sorted.{IsStrictlySortedBy}
use Rattle.std.specs.Map.{keys_of, lookup, set_value}
use Rattle.std.specs.Ordering.{is_eq, match_ordering, nat_cmp}
use Rattle.std.specs.declared.cmp.Ordering.{Ordering}
use Rattle.std.specs.declared.cmp.Ordering.TheVariants.{Equal, Greater, Less}
use Rattle.std.proofs.lemmas.Cmp.{nat_cmp_total}
use Rattle.std.proofs.lemmas.Map.Entries.{lookup_at_gap}
use Rattle.std.proofs.lemmas.Map.Steps.{set_value_same}
use Rattle.mysql_executions.specs.After.{more_data}

-- ---- long data

-- what is found by the order of places is found by places that are equal
pub found_same : (place : ℕ) (es : List (ℕ × List ℕ)) → lookup (is_at (nat_cmp place)) es ≡ lookup (nat_eq place) es
found_same place [] = refl
found_same place (e ∷ es) = λ i. cond (unsigned_tied place e.0 i) (Some e.1) (found_same place es i)

first_by : (o : Ordering) (place : ℕ) (e : ℕ × List ℕ) (es : List (ℕ × List ℕ)) (bytes : List ℕ) →
    (o ≡ Less → e ∷ set_value (is_at (nat_cmp place)) es bytes ≡ (place, bytes) ∷ e ∷ es)
    → (o ≡ Greater → set_value (is_at (nat_cmp place)) es bytes ≡ insert_entry nat_cmp es place bytes)
    → cond (is_eq o) ((e.0, bytes) ∷ es) (e ∷ set_value (is_at (nat_cmp place)) es bytes) ≡
    match_ordering o ((place, bytes) ∷ e ∷ es) ((e.0, bytes) ∷ es) (e ∷
    insert_entry nat_cmp es place bytes)
first_by Less place e es bytes before later = before refl
first_by Equal place e es bytes before later = refl
first_by Greater place e es bytes before later = ap (λ (l : List (ℕ × List ℕ)). e ∷ l) (later refl)

-- what is put in the place of what waits stands where an insertion puts it
pub put_is_insert : (es : List (ℕ × List ℕ)) (place : ℕ) (old bytes : List ℕ) →
    IsStrictlySortedBy nat_cmp (keys_of es) → Some old ≡ lookup (is_at (nat_cmp place)) es
    → set_value (is_at (nat_cmp place)) es bytes ≡ insert_entry nat_cmp es place bytes
unfolding IsStrictlySortedBy
put_is_insert [] place old bytes sorted known = absurd cc
put_is_insert (e ∷ es) place old bytes sorted known =
    first_by (nat_cmp place e.0) place e es bytes
    (λ less.
    let none : Some old ≡ None = known ∙
    lookup_at_gap nat_cmp_total place (e ∷
    es) 0 sorted (λ j x lt is. absurd (omega (arith, lt)))
    (λ x is. let same : e ≡ x = cc in ap (λ (y : ℕ × List ℕ). nat_cmp place y.0) (sym same) ∙ less) in
    absurd cc)
    (λ greater. put_is_insert es place old bytes sorted.1 (known ∙
    ap (λ (o : Ordering). cond (is_eq o) (Some e.1) (lookup (is_at (nat_cmp place)) es))
    greater))

-- data that goes behind what waits
pub more_behind : (es : List (ℕ × List ℕ)) (place : ℕ) (old bytes new : List ℕ) →
    IsStrictlySortedBy nat_cmp (keys_of es) → Some old ≡ lookup (is_at (nat_cmp place)) es → new ≡
    old ++ bytes
    → set_value (is_at (nat_cmp place)) es new ≡ more_data es place bytes
more_behind es place old bytes new sorted known grew =
    put_is_insert es place old new sorted known
    ∙ ap (λ (b : List ℕ). insert_entry nat_cmp es place b) (grew ∙
    ap (λ (o : Option (List ℕ)). unwrap_or o [] ++ bytes) (known ∙ found_same place es))

-- of data that can't grow what waits stays
pub stays_behind : (es : List (ℕ × List ℕ)) (place : ℕ) (old new : List ℕ) → Some old ≡
    lookup (is_at (nat_cmp place)) es → new ≡ old → set_value (is_at (nat_cmp place)) es new ≡ es
stays_behind es place old new known same =
    ap (λ (b : List ℕ). set_value (is_at (nat_cmp place)) es b) same ∙
    set_value_same (is_at (nat_cmp place)) es old (sym known)

-- what holds where a call succeeded follows from what it says there
pub on_ok : {T E P Q : Type 0} (r : Result T E) → (P → Q) → OnOk r P → OnOk r Q
on_ok (Ok x) so h = so h
on_ok (Err e) so h = tt

pub on_err : {T E P Q : Type 0} (r : Result T E) → (P → Q) → OnErr r P → OnErr r Q
on_err (Ok x) so h = tt
on_err (Err e) so h = so h
