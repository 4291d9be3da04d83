-- The types of what was read are those that its body carries.
use Rattle.std.proofs.Common.{◌≡◌, ℕ, ◌-◌, ◌==◌, Bool, true, false, List, [], length, Option, Some, None, refl, ◌∙◌, ap}
use Rattle.std.specs.Prelude.{◌||◌, ◌%◌, if◌then◌else◌, nat_le, nat_lt, not, unwrap_or}
use Rattle.mysql_const.specs.FlagSets.{contains}
use Rattle.mysql_const.specs.declared.capabilities.Capabilities.{Capabilities}
use Rattle.mysql_cells.specs.declared.value.Value.{Value}
use Rattle.mysql_executions.specs.declared.types.Attribute.{Attribute}
use Rattle.mysql_executions.specs.declared.types.BoundType.{BoundType}
use Rattle.mysql_executions.specs.After.{bulk_types, execution_types, types_of_bulk, types_of_head}
use Rattle.mysql_executions.specs.Bulks.{BulkExecution, BulkHead, are_bulk_flags, bulk_execution_at, bulk_head, rows_at}
use Rattle.mysql_executions.specs.Bulks.{send_types_to_server, send_unit_results}
use Rattle.mysql_executions.specs.declared.bulk.BulkValue.{BulkValue}
use Rattle.mysql_executions.specs.Executions.{Execution, ExecutionHead, attributes_at, count_available, execution_at}
use Rattle.mysql_executions.specs.Executions.{execution_head, named_flags, parameters_at, readable_head}
use Rattle.mysql_executions.specs.Fields.{◌>>=◌, ◌>>◌, must}
use Rattle.mysql_executions.specs.InForce.{InForce, is_waiting, types_that_count}
use Rattle.mysql_executions.specs.Laws.{ReadBulkTypesAreCarried, ReadTypesAreCarried}
use Rattle.mysql_executions.specs.Types.{has_bulk_operations, has_query_attributes, own_types_at, types_at, types_read}

bind_some : {A B : Type 0} (r : Option A) (f : A → Option B) (y : B) → (r >>= f) ≡ Some y →
    (x : A) × (r ≡ Some x) × (f x ≡ Some y)
bind_some (Some x) f y e = (x, refl, e)
bind_some None f y e = absurd cc

must_then : {B : Type 0} (b : Bool) (next : Option B) (y : B) → (must b >> next) ≡ Some y → next ≡ Some y
must_then true next y e = e
must_then false next y e = absurd cc

some_is : {A : Type 0} (x y : A) → Some x ≡ Some y → x ≡ y
some_is x y e = cc

abbrev one : {X : Type 0} → X × List ℕ → Option (X × List ℕ)
one p = Some p

same_first : {X : Type 0} (p q : X × List ℕ) → one p ≡ one q → p.0 ≡ q.0
same_first {X = X} p q e = let same : p ≡ q = cc in ap (λ (r : X × List ℕ). r.0) same

-- the types that a command carries by itself are those that stand there
own_carried : (bound named : Bool) (n : ℕ) (bytes : List ℕ) (own : Option (List BoundType) ×
    List ℕ) → own_types_at bound named n bytes ≡ Some own
    → (if bound then (types_read named n bytes).found else []) ≡ unwrap_or own.0 []
own_carried false named n bytes own e =
    ap (λ (o : Option (List BoundType)). unwrap_or o []) (same_first (None, bytes) own e)
own_carried true named n bytes own e =
    let a = bind_some (types_at named n bytes) (λ types. one (Some types.0, types.1)) own e in
    let b = bind_some (types_read named n bytes).rest (λ rest. one ((types_read named n bytes).found, rest)) a.0 a.1 in
    same_first ((types_read named n bytes).found, b.0) a.0 b.2 ∙
    ap (λ (o : Option (List BoundType)). unwrap_or o [])
    (same_first (Some a.0.0, a.0.1) own a.2)

head_is : (c : Capabilities) (s : InForce) (body : List ℕ) (head : ExecutionHead) →
    readable_head c s body ≡ Some head → execution_head c s.count body ≡ Some head
unfolding readable_head
head_is c s body head e =
    let h = bind_some (execution_head c s.count body)
    (λ h. must (h.binding.bound || (h.count == s.count)) >> Some h) head
    (must_then (not s.broken) _ head e) in
    h.1 ∙ must_then (h.0.binding.bound || (h.0.count == s.count)) _ head h.2

abbrev types_in : Execution → List BoundType
types_in e = unwrap_or e.types []

abbrev made : Capabilities → ExecutionHead → Option (List BoundType) → List Value → List Attribute × List ℕ → Execution
made c head own parameters attributes = record {
  statement = head.statement;
  cursor = record { 0 = head.flags % 8 };
  count_available = nat_le count_available (named_flags c head.flags);
  nameless_flags = head.flags - named_flags c head.flags;
  iterations = head.iterations;
  types = own;
  parameters = parameters;
  attributes = attributes.0;
  rest = attributes.1;
}

module _ (c : Capabilities) (s : InForce) (e : Execution) (head : ExecutionHead) where
  ended : Option (List BoundType) → List Value × List ℕ → List Attribute × List ℕ → Option Execution
  ended own parameters attributes = Some (made c head own parameters.0 attributes)

  behind : Option (List BoundType) × List ℕ → Option Execution
  behind own = types_that_count s own.0 >>= λ types. types_at (has_query_attributes c)
      (head.count - s.count) own.1 >>= λ further.
      parameters_at s.long_data head.binding.nulls types further.1 >>= λ parameters. attributes_at
      head.binding.nulls s.count further.0 parameters.1 >>= λ attributes. ended own.0 parameters
      attributes

  types_behind : (own : Option (List BoundType) × List ℕ) → behind own ≡ Some e → unwrap_or own.0 [] ≡ types_in e
  unfolding ended behind
  types_behind own read =
      let t = bind_some (types_that_count s own.0)
      (λ types. types_at (has_query_attributes c) (head.count - s.count) own.1 >>= λ further.
      parameters_at s.long_data head.binding.nulls types further.1 >>= λ parameters. attributes_at
      head.binding.nulls s.count further.0 parameters.1 >>= λ attributes. ended own.0 parameters
      attributes) e read in
      let x = bind_some (types_at (has_query_attributes c) (head.count - s.count) own.1) (λ further.
      parameters_at s.long_data head.binding.nulls t.0 further.1 >>= λ parameters. attributes_at
      head.binding.nulls s.count further.0 parameters.1 >>= λ attributes. ended own.0 parameters
      attributes) e t.2 in
      let p = bind_some (parameters_at s.long_data head.binding.nulls t.0 x.0.1)
      (λ parameters. attributes_at head.binding.nulls s.count x.0.0 parameters.1 >>=
      λ attributes. ended own.0 parameters attributes) e x.2 in
      let a = bind_some (attributes_at head.binding.nulls s.count x.0.0 p.0.1)
      (λ attributes. ended own.0 p.0 attributes) e p.2 in
      ap types_in (some_is (made c head own.0 p.0.0 a.0) e a.2)

pub read_types_are_carried : ReadTypesAreCarried
unfolding execution_at execution_types behind ended
read_types_are_carried c s body e read =
    let h = bind_some (readable_head c s body)
    (λ head. own_types_at head.binding.bound (has_query_attributes c) s.count head.binding.rest
    >>= behind c s e head) e read in
    let o = bind_some (own_types_at h.0.binding.bound (has_query_attributes c) s.count
    h.0.binding.rest) (behind c s e h.0) e h.2 in
    ap (types_of_head c s.count) (head_is c s body h.0 h.1) ∙
    own_carried h.0.binding.bound (has_query_attributes c) s.count h.0.binding.rest o.0 o.1 ∙
    types_behind c s e h.0 o.0 o.2

-- ---- bulks

abbrev types_in_bulk : BulkExecution → List BoundType
types_in_bulk e = unwrap_or e.types []

module _ (s : InForce) (e : BulkExecution) (head : BulkHead) where
  bulk_made : Option (List BoundType) → List (List BulkValue) × List ℕ → BulkExecution
  bulk_made own rows = record {
    statement = head.statement;
    unit_results =
        contains head.flags send_unit_results;
    types = own;
    rows = rows.0;
    rest = rows.1;
  }

  bulk_ended : Option (List BoundType) → List (List BulkValue) × List ℕ → Option BulkExecution
  bulk_ended own rows = must (nat_lt 0 (length rows.0)) >> Some (bulk_made own rows)

  bulk_behind : Option (List BoundType) × List ℕ → Option BulkExecution
  bulk_behind own = types_that_count s own.0 >>= λ types. bulk_ended own.0 (rows_at (length own.1) types own.1)

  bulk_types_behind : (own : Option (List BoundType) × List ℕ) → bulk_behind own ≡ Some e →
      unwrap_or own.0 [] ≡ types_in_bulk e
  unfolding bulk_behind bulk_ended bulk_made
  bulk_types_behind own read =
      let t = bind_some (types_that_count s own.0)
      (λ types. bulk_ended own.0 (rows_at (length own.1) types own.1)) e read in
      let rows = rows_at (length own.1) t.0 own.1 in
      ap types_in_bulk (some_is (bulk_made own.0 rows) e
      (must_then (nat_lt 0 (length rows.0)) (Some (bulk_made own.0 rows)) e t.2))

pub read_bulk_types_are_carried : ReadBulkTypesAreCarried
unfolding bulk_execution_at bulk_types bulk_behind bulk_ended bulk_made
read_bulk_types_are_carried c s body e read =
    let whole = λ (head : BulkHead). must (are_bulk_flags head.flags) >>
    (own_types_at (contains head.flags send_types_to_server) false s.count head.rest >>=
    bulk_behind s e head) in
    let b4 = must_then (nat_lt 0 s.count) (bulk_head body >>= whole) e
    (must_then (not (is_waiting s)) _ e
    (must_then (not s.broken) _ e (must_then (has_bulk_operations c) _ e read))) in
    let h = bind_some (bulk_head body) whole e b4 in
    let o = bind_some (own_types_at (contains h.0.flags send_types_to_server) false s.count
    h.0.rest) (bulk_behind s e h.0) e (must_then (are_bulk_flags h.0.flags) _ e h.2) in
    ap (types_of_bulk s.count) h.1 ∙
    own_carried (contains h.0.flags send_types_to_server) false s.count h.0.rest o.0 o.1 ∙
    bulk_types_behind s e h.0 o.0 o.2
