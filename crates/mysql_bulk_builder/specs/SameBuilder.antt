-- When builders of bulk execute requests are equal.
-- MariaDB: "COM_STMT_BULK_EXECUTE".
use Rattle.std.specs.Prelude.{Bool, List, length, map, nat_eq}
use Rattle.std.specs.Bool.{beq}
use Rattle.std.specs.Cmp.{IsPartialEquivalence, and_per, bool_eq_equiv, nat_eq_equiv, on_per, partial_equiv_from_equiv}
use Rattle.std.specs.Cmp.Lexicographic.{lists_per, options_equiv, pointwise}
use Rattle.std.specs.Option.{option_eq}
use Rattle.std.specs.Ordering.{eq_of_both, on}
use Rattle.mysql_bulk_builder.specs.Bulk.{all_values, param_value_of}
use Rattle.mysql_bulk_builder.specs.declared.param_value.StmtBulkExecuteParamValue.{StmtBulkExecuteParamValue}
use Rattle.mysql_bulk_builder.specs.Builder.{Builder}

-- the values of the rows held, one row after another, each as it is sent
abbrev pub values_held : Builder → List StmtBulkExecuteParamValue
values_held builder = map param_value_of (all_values builder.rows)

-- all but names and values: the statement, the limit, what requests ask for and carry, how many
-- values a row has, how many rows are held
abbrev pub same_settings : Builder → Builder → Bool
same_settings =
    eq_of_both
    (eq_of_both
    (eq_of_both
    (eq_of_both
    (eq_of_both (on (λ (b : Builder). b.id) nat_eq) (on (λ (b : Builder). b.room) nat_eq))
    (on (λ (b : Builder). b.results) beq))
    (on (λ (b : Builder). b.typed) beq))
    (on (λ (b : Builder). b.arity) (option_eq nat_eq)))
    (on (λ (b : Builder). length b.rows) nat_eq)

-- these, the names, and the values held by this test
abbrev pub same_builder : (StmtBulkExecuteParamValue → StmtBulkExecuteParamValue → Bool) → Builder → Builder → Bool
same_builder same_value =
    eq_of_both (eq_of_both same_settings
    (on (λ (b : Builder). b.names) (pointwise (pointwise nat_eq))))
    (on values_held (pointwise same_value))

numbers_per : IsPartialEquivalence nat_eq
numbers_per = partial_equiv_from_equiv nat_eq_equiv

flags_per : IsPartialEquivalence beq
flags_per = partial_equiv_from_equiv bool_eq_equiv

same_settings_per : IsPartialEquivalence same_settings
same_settings_per =
    and_per
    (and_per
    (and_per
    (and_per
    (and_per (on_per (λ (b : Builder). b.id) numbers_per) (on_per (λ (b : Builder). b.room) numbers_per))
    (on_per (λ (b : Builder). b.results) flags_per))
    (on_per (λ (b : Builder). b.typed) flags_per))
    (on_per (λ (b : Builder). b.arity) (partial_equiv_from_equiv (options_equiv nat_eq_equiv))))
    (on_per (λ (b : Builder). length b.rows) numbers_per)

-- equality is symmetric and transitive where the values' is
pub same_builder_per : (same_value : StmtBulkExecuteParamValue → StmtBulkExecuteParamValue → Bool) →
    IsPartialEquivalence same_value → IsPartialEquivalence (same_builder same_value)
same_builder_per same_value values_per =
    and_per (and_per same_settings_per
    (on_per (λ (b : Builder). b.names) (lists_per (lists_per numbers_per))))
    (on_per values_held (lists_per values_per))
