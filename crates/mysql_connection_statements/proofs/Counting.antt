-- What is kept of statements is counted for them.
use Rattle.std.proofs.Common.{◌≡◌, ◌≤◌, ℕ, suc, ◌+◌, ◌*◌, ◌==◌, Bool, true, false, if◌then◌else◌, List, [], ◌∷◌, ◌++◌}
use Rattle.std.proofs.Common.{length, Option, Some, None, IfSome, refl, sym, ap, subst, ◌∙◌, arith, length-append}
use Rattle.std.specs.Prelude.{◌||◌, nat_lt, not, unwrap_or}
use Rattle.std.specs.BTreeMap.{is_at}
use Rattle.std.proofs.lemmas.List.{length-map}
use Rattle.std.proofs.lemmas.List.Elements.{All-from_recursion, recursion_from_All}
use Rattle.std.specs.List.{AllByRecursion, sum_by}
use Rattle.std.specs.List.Sorted.{IsStrictlySortedBy}
use Rattle.std.specs.Map.{keys_of, lookup, values_of}
use Rattle.std.specs.Option.{option_map}
use Rattle.std.specs.Ordering.{nat_cmp}
use Rattle.std.proofs.lemmas.Bool.Decides.{nat_tests}
use Rattle.std.proofs.lemmas.Cmp.{nat_cmp_total}
use Rattle.std.proofs.lemmas.List.Sums.{sum_by-cons}
use Rattle.std.proofs.lemmas.Map.Entries.{sum_by-insert_entry}
use Rattle.std.proofs.lemmas.Map.Views.{All-map-remove_entry, All-values-insert_entry, IfSome-lookup_from_All}
use Rattle.mysql_columns.specs.Columns.{ColumnDefinition}
use Rattle.mysql_executions.proofs.Kept.{found_same}
use Rattle.mysql_executions.specs.After.{after_refusal, drops_data, malformed_packet, more_data, unsupported_command}
use Rattle.mysql_executions.specs.InForce.{InForce, data_for}
use Rattle.mysql_executions.specs.declared.refused.Refused.{Refused}
use Rattle.mysql_executions.specs.declared.refused.Refused.TheVariants.{Bulk, Execution}
use Rattle.mysql_executions.specs.declared.types.BoundType.{BoundType}
use Rattle.mysql_connection_statements.proofs.Entries.{ascend_put, none_ascend}
use Rattle.mysql_connection_statements.specs.Laws.{Counted, DataIsCounted, AllIsCounted, AreCounted, BeginsCounted}
use Rattle.mysql_connection_statements.specs.Laws.{StaysCountedAtAChange, StaysCountedAtAClose, StaysCountedAtAPrepare}
use Rattle.mysql_connection_statements.specs.Laws.{ColumnsAreCounted, ExecutedAreCounted, ListsAreCounted}
use Rattle.mysql_connection_statements.specs.Laws.{LongDataIsCounted, PendingAreCounted, PreparedAreCounted}
use Rattle.mysql_connection_statements.specs.Laws.{ResetsAreCounted, TakenBackAreCounted, column_size, columns_size}
use Rattle.mysql_connection_statements.specs.Laws.{data_size, kept_size}
use Rattle.mysql_connection_statements.specs.Statements.{Statement, changed, executed, has_nothing, sent_again}
use Rattle.mysql_connection_statements.specs.Statements.{statement_at, statement_size}
use Rattle.mysql_connection_statements.specs.declared.pending.Pending.{Pending}

-- ---- long data by the order of places

abbrev Waiting : Type 0
Waiting = List (ℕ × List ℕ)

-- more data counts at most its own payload
module _ (place : ℕ) (bytes : List ℕ) (es : Waiting) (sorted : IsStrictlySortedBy nat_cmp (keys_of es)) where
  more_by : (found : Option (List ℕ)) → lookup (is_at (nat_cmp place)) es ≡ found →
      data_size (more_data es place bytes) ≤ data_size es + (11 + length bytes)
  more_by None is =
      let v = unwrap_or (data_for es place) [] ++ bytes in
      let sum = sum_by-insert_entry (λ (b : List ℕ). 11 + length b) nat_cmp_total es place v sorted in
      let old = ap (λ (o : Option (List ℕ)). unwrap_or (option_map (λ (b : List ℕ). 11 + length b) o) 0) is in
      let len = ap (λ (o : Option (List ℕ)). length (unwrap_or o [] ++ bytes)) (sym (found_same place es) ∙ is) in
      omega (arith, sum, old, len)
  more_by (Some held) is =
      let v = unwrap_or (data_for es place) [] ++ bytes in
      let sum = sum_by-insert_entry (λ (b : List ℕ). 11 + length b) nat_cmp_total es place v sorted in
      let old = ap (λ (o : Option (List ℕ)). unwrap_or (option_map (λ (b : List ℕ). 11 + length b) o) 0) is in
      let len = ap (λ (o : Option (List ℕ)). length (unwrap_or o [] ++ bytes)) (sym (found_same place es) ∙ is) in
      omega (arith, sum, old, len, length-append held bytes)

  more_size : data_size (more_data es place bytes) ≤ data_size es + (11 + length bytes)
  more_size = more_by (lookup (is_at (nat_cmp place)) es) refl

none_counted : (sent : ℕ) → DataIsCounted [] sent
none_counted sent = record { in_order = none_ascend; size = omega arith }

-- ---- changes of a statement

data_by : (within : Bool) (place size : ℕ) (bytes : List ℕ) (waiting : Waiting) (sent : ℕ) →
    11 + length bytes ≤ size → DataIsCounted waiting sent
    → DataIsCounted (if within then more_data waiting place bytes else waiting) (if within then sent + size else sent)
data_by true place size bytes waiting sent enough is = record {
  in_order = ascend_put waiting place (unwrap_or (data_for waiting place) [] ++ bytes) is.in_order;
  size = omega (arith, enough, is.size, more_size place bytes waiting is.in_order);
}
data_by false place size bytes waiting sent enough is = is

executed_by : (broken : Bool) (waiting : Waiting) (sent : ℕ) → DataIsCounted waiting sent →
    DataIsCounted (if broken then waiting else []) (if broken then sent else 0)
executed_by true waiting sent is = is
executed_by false waiting sent is = none_counted 0

pub prepared_counted : PreparedAreCounted
prepared_counted text count size enough = record { text = enough; columns = omega arith; long_data = none_counted 0 }

pub executed_counted : ExecutedAreCounted
executed_counted types s is = record {
  text = is.text;
  columns = is.columns;
  long_data = executed_by s.parameters.broken s.parameters.long_data s.sent is.long_data;
}

pub long_data_counted : LongDataIsCounted
long_data_counted place bytes size s enough is = record {
  text = is.text;
  columns = is.columns;
  long_data = data_by (nat_lt place s.parameters.count) place size bytes s.parameters.long_data
      s.sent enough is.long_data;
}

pub reset_counted : ResetsAreCounted
reset_counted s is = record { text = is.text; columns = is.columns; long_data = none_counted 0 }

pub columns_counted : ColumnsAreCounted
columns_counted columns size s enough is = record { text = is.text; columns = enough; long_data = is.long_data }

-- ---- what an error takes back

not_either : (a b : Bool) → (a || b) ≡ false → a ≡ false
not_either true b e = absurd cc
not_either false b e = refl

abbrev TakesBack : List BoundType → Statement → Pending → Type 0
TakesBack types s p = DataIsCounted p.before.long_data p.sent × ((executed types s).parameters.long_data ≡ [])

pending_by : (types : List BoundType) (s : Statement) (made p : Pending) (nothing : Bool) →
    has_nothing types s ≡ nothing → DataIsCounted made.before.long_data made.sent →
    (if nothing then None else Some made) ≡ Some p → TakesBack types s p
unfolding has_nothing
pending_by types s made p true none is e = absurd cc
pending_by types s made p false none is e =
    let same : made ≡ p = cc in (
      subst (λ (q : Pending). DataIsCounted q.before.long_data q.sent) same is,
      ap (λ (b : Bool). if b then s.parameters.long_data else [])
          (not_either s.parameters.broken _ none),
    )

pub pending_counted : PendingAreCounted
pending_counted id refused types s p is e = pending_by types s _ p (has_nothing types s) refl is.long_data e

not_zero : (n : ℕ) → (suc n == 0) ≡ false
not_zero n = grind (arith, nat_tests)

again : (waiting : Waiting) (sent : ℕ) → DataIsCounted waiting sent →
    DataIsCounted waiting (if not (length waiting == 0) then sent else 0)
again [] sent is = none_counted 0
again (e ∷ es) sent is = subst (λ (b : Bool). DataIsCounted (e ∷ es) (if not b then sent else 0))
    (sym (not_zero (length es))) is

module _ (carried sent : ℕ) (before s : InForce) (is : DataIsCounted before.long_data sent)
    (none : s.long_data ≡ []) where
  abbrev Behind : InForce → Type 0
  Behind now = DataIsCounted now.long_data (sent_again sent now)

  abbrev Again : Waiting → Type 0
  Again waiting = DataIsCounted waiting (if not (length waiting == 0) then sent else 0)

  read : Again s.long_data
  read = subst Again (sym none) (none_counted 0)

  dropped : (drops : Bool) → Again (if drops then [] else before.long_data)
  dropped true = none_counted 0
  dropped false = again before.long_data sent is

  refused_by : (code : ℕ) (refused : Refused) (malformed unsupported : Bool) →
      (code == malformed_packet) ≡ malformed → (code == unsupported_command) ≡ unsupported →
      Behind (after_refusal code refused carried before s)
  refused_by code Execution true unsupported one two = rw one (again before.long_data sent is)
  refused_by code Execution false unsupported one two = rw one read
  refused_by code (Bulk flags) true unsupported one two = rw one (again before.long_data sent is)
  refused_by code (Bulk flags) false true one two = rw (one, two) (dropped (drops_data flags))
  refused_by code (Bulk flags) false false one two = rw (one, two) read

pub taken_back_counted : TakenBackAreCounted
taken_back_counted code p s before none is = record {
  text = is.text;
  columns = is.columns;
  long_data = refused_by p.carried p.sent p.before s.parameters before none code p.refused
      (code == malformed_packet) (code == unsupported_command) refl refl;
}

-- ---- the lists

each_counts : (es : Waiting) → 11 * length es ≤ data_size es
each_counts [] = omega arith
each_counts (e ∷ es) = omega (arith, each_counts es, sum_by-cons (λ (b : List ℕ). 11 + length b) e.1 (values_of es))

each_column_counts : (columns : List ColumnDefinition) → 26 * length columns ≤ sum_by column_size columns
each_column_counts [] = omega arith
each_column_counts (column ∷ columns) =
    omega (arith, each_column_counts columns, sum_by-cons column_size column columns)

columns_count : (columns : Option (List ColumnDefinition)) → 26 * length (unwrap_or columns []) ≤ columns_size columns
columns_count None = omega arith
columns_count (Some columns) = each_column_counts columns

kept_counted : (s : Statement) → Counted s → kept_size s ≤ statement_size s
kept_counted s is = omega (arith, is.text, is.columns, is.long_data.size)

pub lists_counted : ListsAreCounted
lists_counted s is = (
  omega (arith, each_counts s.parameters.long_data, is.long_data.size),
  omega (arith, columns_count s.columns, is.columns),
  kept_counted s is,
)

each_counted : (statements : List Statement) → AllByRecursion Counted statements
    → (21 * length statements ≤ sum_by statement_size statements) ×
    (sum_by kept_size statements ≤ sum_by statement_size statements)
each_counted [] all = (omega arith, omega arith)
each_counted (s ∷ statements) all =
    let more = each_counted statements all.1 in
    let one = kept_counted s all.0 in
    let size = sum_by-cons statement_size s statements in
    (omega (arith, more.0, all.0.text, size), omega (arith, more.1, one, size, sum_by-cons kept_size s statements))

pub all_counted : AllIsCounted
all_counted s summed all =
    let each = each_counted (values_of s.by_id) (recursion_from_All Counted (values_of s.by_id) all) in
    (omega (arith, summed.1, each.0, length-map s.by_id (λ e. e.1)), omega (arith, summed.1, each.1))

-- ---- all statements

pub begins_counted : BeginsCounted
begins_counted = All-from_recursion Counted [] tt

pub stays_counted_at_a_prepare : StaysCountedAtAPrepare
stays_counted_at_a_prepare id statement s is all = All-values-insert_entry nat_cmp id statement Counted s.by_id all is

pub stays_counted_at_a_change : StaysCountedAtAChange
stays_counted_at_a_change id change s stays all = by (statement_at s id) refl
  where
    by : (found : Option Statement) → statement_at s id ≡ found → AreCounted (changed change id found s)
    by None known = all
    by (Some statement) known =
        let was = subst (λ (found : Option Statement). IfSome found Counted) known
        (IfSome-lookup_from_All Counted (is_at (nat_cmp id)) s.by_id all) in
        All-values-insert_entry nat_cmp id (change statement) Counted s.by_id all (stays statement known was)

pub stays_counted_at_a_close : StaysCountedAtAClose
stays_counted_at_a_close id s all = All-map-remove_entry (is_at (nat_cmp id)) (λ e. e.1) Counted s.by_id all
