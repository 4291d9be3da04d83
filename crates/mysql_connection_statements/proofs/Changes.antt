-- A statement that is changed in its place.
use Rattle.std.proofs.Common.{◌≡◌, ℕ, ◌+◌, ◌-◌, List, Option, Some, ap, arith, sym, ◌∙◌, ◌≢◌, ◌≤◌, OnErr, Result, Ok}
use Rattle.std.proofs.Common.{Err}
use Rattle.std.proofs.lemmas.Map.Steps.{set_value_same}
use Rattle.std.proofs.lemmas.Grind.{common_steps}
use Rattle.std.specs.BTreeMap.{insert_entry, is_at}
use Rattle.std.specs.Map.{set_value}
use Rattle.std.specs.Ordering.{nat_cmp}
use Rattle.mysql_connection_statements.proofs.Entries.{in_place}
use Rattle.mysql_connection_statements.specs.Statements.{IsOrdered, Statement, Statements, change_at, changed}
use Rattle.mysql_connection_statements.specs.Statements.{last_prepared, resolved, statement_at, statement_size}
use Rattle.mysql_connection_statements.specs.Statements.{stored_size, with_statement}

-- what stands then, by the map and the sum
pub changed_in_place : (s : Statements) (id : ℕ) (change : Statement →
    Statement) (old statement : Statement) (es : List (ℕ × Statement)) (sum : ℕ)
    → IsOrdered s → Some old ≡ statement_at s id → statement ≡ change old
    → es ≡ set_value (is_at (nat_cmp id)) s.by_id statement
    → sum ≡ s.stored - statement_size old + statement_size (change old)
    → (let made : Statements = record { by_id = es; last = s.last; stored = sum } in made) ≡ change_at id change s
changed_in_place s id change old statement es sum ordered known is_changed entries is_sum =
    let by_id : es ≡ insert_entry nat_cmp s.by_id id (change old) =
    entries ∙ in_place s.by_id id old statement ordered known ∙
    ap (λ (x : Statement). insert_entry nat_cmp s.by_id id x) is_changed in
    let stored : sum ≡ s.stored - stored_size (statement_at s id) + statement_size (change old) =
    is_sum ∙ ap (λ (x : Option Statement). s.stored - stored_size x + statement_size (change old)) known in
    (λ i. record { by_id = by_id i; last = s.last; stored = stored i })
    ∙ ap (λ (x : Option Statement). changed change id x s) known

-- an id that isn't that of the statement prepared last
pub own_id : (s : Statements) (id : ℕ) → id ≢ last_prepared → resolved s id ≡ Some id
own_id s id other = grind (arith, common_steps)

-- a statement that stays as it is, and so does what is kept of all
pub kept_in_place : (s : Statements) (id : ℕ) (statement : Statement) → IsOrdered s → Some statement ≡ statement_at s id
    → statement_size statement ≤ s.stored → with_statement id statement s ≡ s
kept_in_place s id statement ordered known small =
    let by_id : insert_entry nat_cmp s.by_id id statement ≡ s.by_id =
    sym (in_place s.by_id id statement statement ordered known) ∙
    set_value_same (is_at (nat_cmp id)) s.by_id statement (sym known) in
    let same : s.stored - statement_size statement + statement_size statement ≡ s.stored = omega arith in
    let stored : s.stored - stored_size (statement_at s id) + statement_size statement ≡ s.stored =
    ap (λ (found : Option Statement). s.stored - stored_size found + statement_size statement) (sym known) ∙ same in
    λ i. record { by_id = by_id i; last = s.last; stored = stored i }

on_err : {T E P : Type 0} (r : Result T E) → P → OnErr r P
on_err (Ok x) p = tt
on_err (Err e) p = p

-- what stands where a statement stays as it was
pub unchanged_in_place : {T E : Type 0} (r : Result T E) (s : Statements) (id : ℕ)
    (old statement : Statement) (es : List (ℕ × Statement))
    → Some old ≡ statement_at s id → statement ≡ old → es ≡ set_value (is_at (nat_cmp id)) s.by_id statement
    → OnErr r ((let made : Statements = record { by_id = es; last = s.last; stored = s.stored } in made) ≡ s)
unchanged_in_place r s id old statement es known same entries =
    let by_id : es ≡ s.by_id =
    entries ∙ ap (λ (x : Statement). set_value (is_at (nat_cmp id)) s.by_id x) same
    ∙ set_value_same (is_at (nat_cmp id)) s.by_id old (sym known) in
    on_err r (λ i. record { by_id = by_id i; last = s.last; stored = s.stored })
