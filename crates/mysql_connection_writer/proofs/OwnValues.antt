-- Values that are read as themselves, and what their types hold.
use Rattle.std.proofs.Common.{◌≡◌, ◌<◌, ◌^◌, ℕ, Bool, true, false, ◌&&◌, nat_le, nat_lt, List, [], ◌∷◌, map, length}
use Rattle.std.proofs.Common.{◌+◌, ◌++◌, length-append, suc, refl, ap, subst, arith}
use Rattle.std.proofs.lemmas.Bool.{and_from, and_parts, le-ltb, leb-true}
use Rattle.std.proofs.lemmas.Bool.Decides.{nat_tests}
use Rattle.std.proofs.lemmas.List.Folds.{list_all-map}
use Rattle.std.specs.List.{AllByRecursion, list_all}
use Rattle.mysql_cells.specs.Values.{FitsFields}
use Rattle.mysql_cells.specs.declared.value.Value.{Value}
use Rattle.mysql_cells.specs.declared.value.Value.TheVariants.{UInt}
use Rattle.mysql_execution_writer.specs.Bulks.{bulk_as_read, bulk_value_as_read}
use Rattle.mysql_execution_writer.specs.Cells.{as_read as value_as_read}
use Rattle.mysql_execution_writer.specs.Laws.{FitsBulkValue, HaveLengths}
use Rattle.mysql_execution_writer.specs.Written.{attributes_as_read, execution_as_read, types_of_attributes, values_of}
use Rattle.mysql_executions.specs.Bulks.{BulkExecution}
use Rattle.mysql_executions.specs.Executions.{Execution}
use Rattle.mysql_executions.specs.Views.{rows_of}
use Rattle.mysql_executions.specs.declared.bulk.BulkValue.{BulkValue}
use Rattle.mysql_executions.specs.declared.bulk.BulkValue.TheVariants as bulk
use Rattle.mysql_executions.specs.declared.types.Attribute.{Attribute}
use Rattle.mysql_commands.specs.Commands.{BulkExecute, Command, Execute, Query}
use Rattle.mysql_command_writer.specs.Refusals.{as_read}
use Rattle.mysql_connection_writer.specs.Commands.{are_own_attributes, is_own, is_own_command, is_own_in_bulk}
use Rattle.mysql_connection_writer.specs.Fits.{FitsAttribute}
use Rattle.std.specs.declared.alloc.Global.{Global}
use Rattle.std.specs.declared.vec.Vec.{Vec}

-- VALUES

number_own : (n : ℕ) → nat_le (2 ^ 63) n ≡ true → value_as_read (UInt n) ≡ UInt n
number_own n h = rw (le-ltb n (2 ^ 63) (leb-true (2 ^ 63) n h)) refl

own_number : (n : ℕ) (less : Bool) → nat_lt n (2 ^ 63) ≡ less → value_as_read (UInt n) ≡ UInt n →
    nat_le (2 ^ 63) n ≡ true
own_number n true l e = absurd (cc (rw l at e))
own_number n false l e = grind (arith, nat_tests)

pub value_own : (v : Value) → is_own v ≡ true → value_as_read v ≡ v
value_own (UInt n) h = number_own n h
value_own v h = refl

pub own_value : (v : Value) → value_as_read v ≡ v → is_own v ≡ true
own_value (UInt n) e = own_number n (nat_lt n (2 ^ 63)) refl e
own_value v e = refl

-- LISTS

module _ {X : Type 0} (read : X → X) (own : X → Bool) where
  pub all_own : ((x : X) → own x ≡ true → read x ≡ x) → (xs : List X) → list_all own xs ≡ true → map read xs ≡ xs
  all_own one [] h = refl
  all_own one (x ∷ xs) h =
      let parts = and_parts (own x) (list_all own xs) h in
      let first : read x ≡ x = one x parts.0 in
      let rest : map read xs ≡ xs = all_own one xs parts.1 in cc

  pub own_all : ((x : X) → read x ≡ x → own x ≡ true) → (xs : List X) → map read xs ≡ xs → list_all own xs ≡ true
  own_all one [] e = refl
  own_all one (x ∷ xs) e =
      let first : read x ≡ x = cc in
      let rest : map read xs ≡ xs = cc in
      and_from (own x) (list_all own xs) (one x first) (own_all one xs rest)

-- ATTRIBUTES

abbrev read_attribute : Attribute → Attribute
read_attribute a = record { bound_type = a.bound_type; value = value_as_read a.value }

attribute_own : (a : Attribute) → is_own a.value ≡ true → read_attribute a ≡ a
attribute_own a h = ap (λ (v : Value). record { bound_type = a.bound_type; value = v }) (value_own a.value h)

own_attribute : (a : Attribute) → read_attribute a ≡ a → is_own a.value ≡ true
own_attribute a e = own_value a.value (ap (λ (b : Attribute). b.value) e)

pub attributes_own : (xs : List Attribute) → are_own_attributes xs ≡ true → attributes_as_read xs ≡ xs
attributes_own xs h = all_own read_attribute (λ a. is_own a.value) attribute_own xs h

pub own_attributes : (xs : List Attribute) → attributes_as_read xs ≡ xs → are_own_attributes xs ≡ true
own_attributes xs e = own_all read_attribute (λ a. is_own a.value) own_attribute xs e

-- BULK EXECUTIONS

in_bulk_own : (v : BulkValue) → is_own_in_bulk v ≡ true → bulk_value_as_read v ≡ v
in_bulk_own (bulk.Value v) h = ap (λ (x : Value). bulk.Value x) (value_own v h)
in_bulk_own v h = refl

same_in_bulk : (a b : Value) → bulk.Value a ≡ bulk.Value b → a ≡ b
same_in_bulk a b e = cc

own_in_bulk : (v : BulkValue) → bulk_value_as_read v ≡ v → is_own_in_bulk v ≡ true
own_in_bulk (bulk.Value v) e = own_value v (same_in_bulk (value_as_read v) v e)
own_in_bulk v e = refl

row_own : (row : List BulkValue) → list_all is_own_in_bulk row ≡ true → map bulk_value_as_read row ≡ row
row_own row h = all_own bulk_value_as_read is_own_in_bulk in_bulk_own row h

own_row : (row : List BulkValue) → map bulk_value_as_read row ≡ row → list_all is_own_in_bulk row ≡ true
own_row row e = own_all bulk_value_as_read is_own_in_bulk own_in_bulk row e

-- rows as they are held
pub all_rows : (rows : List (Vec BulkValue Global)) →
    list_all (λ row. list_all is_own_in_bulk row) (rows_of rows) ≡
    list_all (λ row. list_all is_own_in_bulk row.items) rows
all_rows rows = list_all-map (λ (row : List BulkValue). list_all is_own_in_bulk row) (λ row. row.items) rows

-- COMMANDS

execution_own : (e : Execution) → list_all is_own e.parameters && are_own_attributes e.attributes ≡ true →
    execution_as_read e ≡ e
execution_own e h =
    let parts = and_parts (list_all is_own e.parameters) (are_own_attributes e.attributes) h in
    let parameters : map value_as_read e.parameters ≡ e.parameters =
    all_own value_as_read is_own value_own e.parameters parts.0 in
    let attributes : attributes_as_read e.attributes ≡ e.attributes = attributes_own e.attributes parts.1 in
    λ i. record e { parameters = parameters i; attributes = attributes i }

own_execution : (e : Execution) → execution_as_read e ≡ e →
    list_all is_own e.parameters && are_own_attributes e.attributes ≡ true
own_execution e h = and_from (list_all is_own e.parameters) (are_own_attributes e.attributes)
    (own_all value_as_read is_own own_value e.parameters (ap (λ (x : Execution). x.parameters) h))
    (own_attributes e.attributes (ap (λ (x : Execution). x.attributes) h))

bulk_own : (e : BulkExecution) → list_all (λ row. list_all is_own_in_bulk row) e.rows ≡ true → bulk_as_read e ≡ e
bulk_own e h =
    let rows : map (λ row. map bulk_value_as_read row) e.rows ≡ e.rows =
    all_own (λ row. map bulk_value_as_read row) (λ row. list_all is_own_in_bulk row) row_own e.rows h in
    λ i. record e { rows = rows i }

own_bulk : (e : BulkExecution) → bulk_as_read e ≡ e → list_all (λ row. list_all is_own_in_bulk row) e.rows ≡ true
own_bulk e h = own_all (λ row. map bulk_value_as_read row) (λ row. list_all is_own_in_bulk row) own_row e.rows
    (ap (λ (x : BulkExecution). x.rows) h)

pub command_own : (c : Command) → is_own_command c ≡ true → as_read c ≡ c
command_own (Query attributes sql) h = ap (λ (xs : List Attribute). Query xs sql) (attributes_own attributes h)
command_own (Execute e) h = ap (λ (x : Execution). Execute x) (execution_own e h)
command_own (BulkExecute e) h = ap (λ (x : BulkExecution). BulkExecute x) (bulk_own e h)
command_own c h = refl

same_query : (a b : List Attribute) (x y : List ℕ) → Query a x ≡ Query b y → a ≡ b
same_query a b x y e = cc

same_execute : (a b : Execution) → Execute a ≡ Execute b → a ≡ b
same_execute a b e = cc

same_bulk : (a b : BulkExecution) → BulkExecute a ≡ BulkExecute b → a ≡ b
same_bulk a b e = cc

pub own_command : (c : Command) → as_read c ≡ c → is_own_command c ≡ true
own_command (Query attributes sql) e =
    own_attributes attributes (same_query (attributes_as_read attributes) attributes sql sql e)
own_command (Execute x) e = own_execution x (same_execute (execution_as_read x) x e)
own_command (BulkExecute x) e = own_bulk x (same_bulk (bulk_as_read x) x e)
own_command c e = refl

-- WHAT TYPES HOLD

pub attribute_values : (xs : List Attribute) → AllByRecursion (λ a. FitsAttribute a) xs →
    AllByRecursion (λ value. FitsFields value) (values_of xs)
attribute_values [] h = h
attribute_values (x ∷ xs) h = (h.0.0, attribute_values xs h.1)

pub attribute_names : (xs : List Attribute) → AllByRecursion (λ a. FitsAttribute a) xs →
    HaveLengths (types_of_attributes xs)
attribute_names [] h = h
attribute_names (x ∷ xs) h = (h.0.1, attribute_names xs h.1)

rows_held_so : (rows : List (Vec BulkValue Global)) →
    AllByRecursion (λ row. AllByRecursion (λ value. FitsBulkValue value) row.items) rows →
    AllByRecursion (λ row. AllByRecursion (λ value. FitsBulkValue value) row) (rows_of rows)
rows_held_so [] h = h
rows_held_so (row ∷ rows) h = (h.0, rows_held_so rows h.1)

pub rows_held : (held rows : List (Vec BulkValue Global)) → held ≡ rows →
    AllByRecursion (λ row. AllByRecursion (λ value. FitsBulkValue value) row.items) held →
    AllByRecursion (λ row. AllByRecursion (λ value. FitsBulkValue value) row) (rows_of rows)
rows_held held rows same h =
    rows_held_so rows (subst (λ (xs : List (Vec BulkValue Global)).
    AllByRecursion (λ row. AllByRecursion (λ value. FitsBulkValue value) row.items) xs) same h)

values_counted : (attributes : List Attribute) → length (values_of attributes) ≡ length attributes
values_counted [] = refl
values_counted (x ∷ xs) = ap (λ (n : ℕ). suc n) (values_counted xs)

pub all_counted : (parameters : List Value) (attributes : List Attribute) →
    length parameters + length attributes < 2 ^ 64 → length (parameters ++ values_of attributes) < 2 ^ 64
all_counted parameters attributes h =
    omega (arith, length-append parameters (values_of attributes), values_counted attributes)
