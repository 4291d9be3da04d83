-- What is kept for all statements, behind each change of their list.
use Rattle.std.proofs.Common.{◌≡◌, ℕ, ◌+◌, List, Option, Some, None, refl, arith}
use Rattle.std.specs.BTreeMap.{insert_entry, is_at}
use Rattle.std.specs.List.{sum_by}
use Rattle.std.specs.List.Sorted.{IsStrictlySortedBy}
use Rattle.std.specs.Map.{keys_of, lookup, remove_entry, values_of}
use Rattle.std.specs.Option.{option_map, unwrap_or}
use Rattle.std.specs.Ordering.{nat_cmp}
use Rattle.std.proofs.lemmas.Cmp.{nat_cmp_total}
use Rattle.std.proofs.lemmas.Map.Entries.{sum_by-insert_entry, sum_by-remove_entry}
use Rattle.mysql_connection_statements.proofs.Entries.{ascend_left, ascend_put, none_ascend}
use Rattle.mysql_connection_statements.specs.Laws.{BeginsSummed, IsSummed}
use Rattle.mysql_connection_statements.specs.Statements.{Statement, Statements, after_close, change_at, changed}
use Rattle.mysql_connection_statements.specs.Statements.{statement_at, statement_size, stored_size, with_statement}

abbrev total : List (ℕ × Statement) → ℕ
total es = sum_by statement_size (values_of es)

counts : (found : Option Statement) → unwrap_or (option_map statement_size found) 0 ≡ stored_size found
counts None = refl
counts (Some statement) = refl

-- a statement takes the place of the one that stood under its id
pub inserted : (es : List (ℕ × Statement)) (id : ℕ) (statement : Statement) → IsStrictlySortedBy nat_cmp (keys_of es)
    → total (insert_entry nat_cmp es id statement) + stored_size (lookup (is_at (nat_cmp id)) es) ≡
    total es + statement_size statement
inserted es id statement ascend =
    omega (
      arith,
      counts (lookup (is_at (nat_cmp id)) es),
      sum_by-insert_entry statement_size nat_cmp_total es id statement ascend,
    )

-- one that is closed counts no more
pub closed : (es : List (ℕ × Statement)) (id : ℕ) →
    total (remove_entry (is_at (nat_cmp id)) es) + stored_size (lookup (is_at (nat_cmp id)) es) ≡
    total es
closed es id = omega (
  arith,
  counts (lookup (is_at (nat_cmp id)) es),
  sum_by-remove_entry statement_size (is_at (nat_cmp id)) es,
)

pub begins_summed : BeginsSummed
begins_summed = (none_ascend, refl)

module _ (s : Statements) (summed : IsSummed s) (id : ℕ) where
  pub closed_summed : IsSummed (after_close id s)
  closed_summed = (ascend_left s.by_id (is_at (nat_cmp id)) summed.0, omega (arith, summed.1, closed s.by_id id))

  pub put_summed : (statement : Statement) → IsSummed (with_statement id statement s)
  put_summed statement = (
    ascend_put s.by_id id statement summed.0,
    omega (arith, summed.1, closed s.by_id id, inserted s.by_id id statement summed.0),
  )

  pub changed_summed : (change : Statement → Statement) → IsSummed (change_at id change s)
  changed_summed change = by (statement_at s id)
    where
      by : (found : Option Statement) → IsSummed (changed change id found s)
      by None = summed
      by (Some statement) = put_summed (change statement)
