-- Executions that were read can be written, and are read again as they are.
use Rattle.std.proofs.Common.{◌≡◌, ℕ, zero, suc, ◌+◌, ◌-◌, ◌%◌, ◌<◌, ◌≤◌, ◌==◌, Bool, true, false, List, [], ◌++◌}
use Rattle.std.proofs.Common.{length, Option, Some, None, refl, sym, subst, ◌∙◌, ap, length-append, arith}
use Rattle.std.specs.Prelude.{◌&&◌, ◌||◌, IfSome, if◌then◌else◌, is_some, nat_le, nat_lt, not, unwrap_or}
use Rattle.std.specs.List.{list_all}
use Rattle.std.proofs.lemmas.Bool.{eq-eqb, eqb-true, leb-false, leb-true, lt-leb, lt-ltb}
use Rattle.std.proofs.lemmas.List.{length-map}
use Rattle.mysql_buf.specs.Bytes.{AreBytes}
use Rattle.mysql_buf.specs.Reading.{bytes_at, lenenc_int_at}
use Rattle.mysql_const.specs.declared.capabilities.Capabilities.{Capabilities}
use Rattle.mysql_field_lists.specs.NullBitmap.{bitmap_len}
use Rattle.mysql_cells.specs.TypedCells.{ReadCellsAreWritten}
use Rattle.mysql_cells.specs.declared.value.Value.{Value}
use Rattle.mysql_executions.specs.declared.types.Attribute.{Attribute}
use Rattle.mysql_executions.specs.declared.types.BoundType.{BoundType}
use Rattle.mysql_executions.specs.declared.types.ParameterType.{ParameterType}
use Rattle.mysql_executions.specs.Executions.{Binding, Execution, ExecutionHead, attributes_at, binding_at, count_at}
use Rattle.mysql_executions.specs.Executions.{execution_at, execution_head, gives_count, named_flags, parameters_at}
use Rattle.mysql_executions.specs.Executions.{readable_head}
use Rattle.mysql_executions.specs.Fields.{◌>>=◌, ◌>>◌, must, number_at}
use Rattle.mysql_executions.specs.InForce.{InForce, types_that_count}
use Rattle.mysql_executions.specs.Types.{has_query_attributes, own_types_at, types_at, unnamed}
use Rattle.mysql_executions.specs.Views.{types_by}
use Rattle.mysql_execution_writer.specs.Cells.{are_attributes, are_parameters, fits_name}
use Rattle.mysql_execution_writer.specs.Written.{can_be_put, can_have_attributes, can_have_types, execution_as_read}
use Rattle.mysql_execution_writer.specs.Written.{flags_of, values_of}
use Rattle.mysql_execution_writer.proofs.ReadTypes.{all_types_left, and_both, bind_some, first_left, lenenc_left}
use Rattle.mysql_execution_writer.proofs.ReadTypes.{must_then, own_left, same_first, same_left, some_is}
use Rattle.mysql_execution_writer.proofs.ReadValues.{attributes_left, parameters_left}

-- ---- the head

abbrev bound_by : List ℕ → ℕ × List ℕ → Option Binding
bound_by nulls bound = Some (record { nulls = nulls; bound = bound.0 == 1; rest = bound.1 })

pub record IsBinding (count : ℕ) (b : Binding) : Type 0 where
  pub left : AreBytes b.rest
  pub none : count ≡ 0 → b.bound ≡ false

pub binding_left : (count : ℕ) (bytes : List ℕ) (b : Binding) → AreBytes bytes →
    binding_at count bytes ≡ Some b → IsBinding count b
unfolding binding_at
binding_left zero bytes b are e =
    subst (IsBinding 0) (some_is (record { nulls = []; bound = false; rest = bytes }) b e)
    (record { left = are; none = λ _. refl })
binding_left (suc n) bytes b are e =
    let f = bind_some (bytes_at (bitmap_len 0 (suc n)) bytes)
    (λ nulls. number_at 1 nulls.1 >>= λ bound. must (nat_le bound.0 1) >> bound_by nulls.0
    bound) b e in
    let g = bind_some (number_at 1 f.0.1) (λ bound. must (nat_le bound.0 1) >> bound_by f.0.0 bound) b f.2 in
    let h = must_then (nat_le g.0.0 1) (bound_by f.0.0 g.0) b g.2 in
    subst (IsBinding (suc n)) (some_is (record { nulls = f.0.0; bound = g.0.0 == 1; rest = g.0.1 }) b h.1)
    (record {
      left = first_left 1 _ f.0.1 g.0
          (first_left (bitmap_len 0 (suc n)) _ bytes f.0 are f.1) g.1;
      none =
          λ zero_is. absurd (omega (arith, zero_is));
    })

pub record IsCount (given : Bool) (n : ℕ) (count : ℕ) (rest : List ℕ) : Type 0 where
  pub left : AreBytes rest
  pub own : given ≡ false → count ≡ n

count_by : (given : Bool) (n : ℕ) (bytes : List ℕ) (count : ℕ × List ℕ) → AreBytes bytes →
    (if given then lenenc_int_at bytes else Some (n, bytes)) ≡ Some count →
    IsCount given n count.0 count.1
count_by true n bytes count are e = record { left = lenenc_left bytes count are e; own = λ h. absurd cc }
count_by false n bytes count are e =
    record {
      left = subst AreBytes (same_left (n, bytes) count e) are;
      own =
          λ _. sym (same_first (n, bytes) count e);
    }

pub record IsHead (c : Capabilities) (n : ℕ) (head : ExecutionHead) : Type 0 where
  pub left : AreBytes head.binding.rest
  pub none : head.count ≡ 0 → head.binding.bound ≡ false
  pub own : gives_count c head.flags n ≡ false → head.count ≡ n
  pub enough : n ≤ head.count

abbrev made : ℕ → ℕ → ℕ → ℕ → Binding → ExecutionHead
made statement flags iterations count binding =
    record {
      statement = statement;
      flags = flags;
      iterations = iterations;
      count = count;
      binding =
          binding;
    }

head_left : (c : Capabilities) (n : ℕ) (body : List ℕ) (head : ExecutionHead) → AreBytes body →
    execution_head c n body ≡ Some head → IsHead c n head
unfolding execution_head
head_left c n body head are e =
    let a = bind_some (number_at 4 body)
    (λ statement. number_at 1 statement.1 >>= λ flags. number_at 4 flags.1 >>= λ iterations.
    count_at c flags.0 n iterations.1 >>= λ count. must (nat_le n count.0) >>
    (binding_at count.0 count.1 >>= λ binding. Some (made statement.0 flags.0 iterations.0 count.0 binding))) head e in
    let b = bind_some (number_at 1 a.0.1)
    (λ flags. number_at 4 flags.1 >>= λ iterations. count_at c flags.0 n iterations.1 >>=
    λ count. must (nat_le n count.0) >>
    (binding_at count.0 count.1 >>= λ binding. Some (made a.0.0 flags.0 iterations.0 count.0 binding))) head a.2 in
    let d = bind_some (number_at 4 b.0.1)
    (λ iterations. count_at c b.0.0 n iterations.1 >>= λ count. must (nat_le n count.0) >>
    (binding_at count.0 count.1 >>= λ binding. Some (made a.0.0 b.0.0 iterations.0 count.0 binding))) head b.2 in
    let f = bind_some (count_at c b.0.0 n d.0.1)
    (λ count. must (nat_le n count.0) >>
    (binding_at count.0 count.1 >>= λ binding. Some (made a.0.0 b.0.0 d.0.0 count.0 binding)))
    head d.2 in
    let g = must_then (nat_le n f.0.0)
    (binding_at f.0.0 f.0.1 >>= λ binding. Some (made a.0.0 b.0.0 d.0.0 f.0.0 binding)) head
    f.2 in
    let h = bind_some (binding_at f.0.0 f.0.1) (λ binding. Some (made a.0.0 b.0.0 d.0.0 f.0.0 binding)) head g.1 in
    let left = first_left 4 _ b.0.1 d.0 (first_left 1 _ a.0.1 b.0 (first_left 4 _ body a.0 are a.1) b.1) d.1 in
    let count = count_by (gives_count c b.0.0 n) n d.0.1 f.0 left f.1 in
    let binding = binding_left f.0.0 f.0.1 h.0 count.left h.1 in
    subst (IsHead c n) (some_is (made a.0.0 b.0.0 d.0.0 f.0.0 h.0) head h.2)
    (record {
      left = binding.left;
      none = binding.none;
      own = count.own;
      enough =
          leb-true n f.0.0 g.0;
    })

pub record IsReadable (c : Capabilities) (s : InForce) (head : ExecutionHead) : Type 0 where
  pub whole : not s.broken ≡ true
  pub start : IsHead c s.count head
  pub types : (head.binding.bound || (head.count == s.count)) ≡ true

readable_left : (c : Capabilities) (s : InForce) (body : List ℕ) (head : ExecutionHead) →
    AreBytes body → readable_head c s body ≡ Some head → IsReadable c s head
unfolding readable_head
readable_left c s body head are e =
    let w = must_then (not s.broken)
    (execution_head c s.count body >>= λ h. must (h.binding.bound || (h.count == s.count)) >>
    Some h) head e in
    let h = bind_some (execution_head c s.count body)
    (λ h. must (h.binding.bound || (h.count == s.count)) >> Some h) head w.1 in
    let t = must_then (h.0.binding.bound || (h.0.count == s.count)) (Some h.0) head h.2 in
    subst (IsReadable c s) (some_is h.0 head t.1)
    (record { whole = w.0; start = head_left c s.count body h.0 are h.1; types = t.0 })

-- ---- what was read can be written

pub types_are : (s : InForce) (own : Option (List BoundType)) (types : List ParameterType) →
    types_that_count s own ≡ Some types → types ≡ types_by own s.types
types_are s (Some own) types e = sym (some_is (unnamed own) types e)
types_are s None types e = sym (some_is s.types types (must_then (length s.types == s.count) (Some s.types) types e).1)

types_are_many : (s : InForce) (own : Option (List BoundType)) (types : List ParameterType) →
    types_that_count s own ≡ Some types → IfSome own (λ ts. length ts ≡ s.count) →
    length (types_by own s.types) ≡ s.count
types_are_many s (Some own) types e many = length-map own (λ t. t.parameter_type) ∙ many
types_are_many s None types e many =
    eqb-true (length s.types) s.count
    (must_then (length s.types == s.count) (Some s.types) types e).0

flags_can : (attributed : Bool) (flags : ℕ)
    → (nat_lt (flags % 8) 8 &&
    (attributed || not (nat_le 8 (flags % (if attributed then 16 else 8)))) &&
    ((flags - flags % (if attributed then 16 else 8)) % (if attributed then 16 else 8) == 0)) ≡
    true
flags_can true flags =
    let none : (flags - flags % 16) % 16 ≡ 0 = omega arith in
    and_both _ _ (and_both (nat_lt (flags % 8) 8) true (lt-ltb (flags % 8) 8 (omega arith)) refl)
    (eq-eqb ((flags - flags % 16) % 16) 0 none)
flags_can false flags =
    let none : (flags - flags % 8) % 8 ≡ 0 = omega arith in
    and_both _ _ (and_both (nat_lt (flags % 8) 8) (not (nat_le 8 (flags % 8)))
    (lt-ltb (flags % 8) 8 (omega arith)) (ap not (lt-leb 8 (flags % 8) (omega arith))))
    (eq-eqb ((flags - flags % 8) % 8) 0 none)

flags_same : (attributed available : Bool) (flags : ℕ) → nat_le 8 (flags % (if attributed then 16 else 8)) ≡ available
    → flags % 8 + (if available then 8 else 0) + (flags - flags % (if attributed then 16 else 8)) ≡ flags
flags_same true true flags is = omega (arith, leb-true 8 (flags % 16) is)
flags_same true false flags is = omega (arith, leb-false 8 (flags % 16) is)
flags_same false true flags is = omega (arith, leb-true 8 (flags % 8) is)
flags_same false false flags is = omega (arith, leb-false 8 (flags % 8) is)

positive : (k : ℕ) → (k ≡ 0 → ⊥) → 0 < k
positive zero none = absurd (none refl)
positive (suc k) none = omega arith

or_eq : (b : Bool) (x y : ℕ) → (b || (x == y)) ≡ true → b ≡ false → x ≡ y
or_eq true x y e h = absurd cc
or_eq false x y e h = eqb-true x y e

-- what is known of an execution that was read
pub record Facts (c : Capabilities) (s : InForce) (flags count : ℕ) (bound : Bool)
    (own : Option (List BoundType)) (parameters : List Value) (attributes : List Attribute) : Type 0
  where
    whole : not s.broken ≡ true
    none : count ≡ 0 → bound ≡ false
    given : gives_count c flags s.count ≡ false → count ≡ s.count
    enough : s.count ≤ count
    bound_or_own : (bound || (count == s.count)) ≡ true
    some : is_some own ≡ bound
    own_count : IfSome own (λ ts. length ts ≡ s.count)
    names : list_all (fits_name (has_query_attributes c)) (unwrap_or own []) ≡ true
    kept : (own ≡ None) → (length s.types == s.count) ≡ true
    parameter_count : length parameters ≡ s.count
    attribute_count : length attributes ≡ count - s.count
    values : are_parameters s.long_data 0 (types_by own s.types) parameters ≡ true
    attributes_can : are_attributes (has_query_attributes c) attributes ≡ true

abbrev pub execution_by : Capabilities → (statement flags iterations : ℕ) →
    Option (List BoundType) → List Value → List Attribute → List ℕ → Execution
execution_by c statement flags iterations own parameters attributes rest = record {
  statement = statement;
  cursor = record { 0 = flags % 8 };
  count_available = nat_le 8 (named_flags c flags);
  nameless_flags = flags - named_flags c flags;
  iterations = iterations;
  types = own;
  parameters = parameters;
  attributes = attributes;
  rest = rest;
}

module _ (c : Capabilities) (s : InForce) (statement flags iterations count : ℕ) (bound : Bool)
    (own : Option (List BoundType)) (parameters : List Value) (attributes : List Attribute)
    (rest : List ℕ)
    (f : Facts c s flags count bound own parameters attributes) where
  all_count : length (parameters ++ values_of attributes) ≡ count
  all_count = omega (
    arith,
    length-append parameters (values_of attributes),
    length-map attributes (λ a. a.value),
    f.parameter_count,
    f.attribute_count,
    f.enough,
  )

  types_can : (types : Option (List BoundType)) → is_some types ≡ bound →
      IfSome types (λ ts. length ts ≡ s.count) →
      ((types ≡ None) → (length s.types == s.count) ≡ true) →
      can_have_types s (execution_by c statement flags iterations own parameters attributes rest)
      types ≡ true
  types_can None some many kept =
      let same : count ≡ s.count = or_eq bound count s.count f.bound_or_own (sym some) in
      and_both (length s.types == s.count) (length attributes == 0) (kept refl)
      (eq-eqb (length attributes) 0 (omega (arith, f.attribute_count, same)))
  types_can (Some ts) some many kept =
      and_both (length ts == s.count) (nat_lt 0 (length (parameters ++ values_of attributes)))
      (eq-eqb (length ts) s.count many)
      (lt-ltb 0 (length (parameters ++ values_of attributes))
      (omega (
        arith,
        all_count,
        positive count (λ zero_is. let no = f.none zero_is in absurd cc),
      )))

  room_by : (given : Bool) → gives_count c flags s.count ≡ given → (given || (length attributes == 0)) ≡ true
  room_by true is = refl
  room_by false is = eq-eqb (length attributes) 0 (omega (arith, f.attribute_count, f.given is))

  pub can : can_be_put c s (execution_by c statement flags iterations own parameters attributes rest) ≡ true
  unfolding can_be_put
  can =
      let same : flags_of (execution_by c statement flags iterations own parameters attributes
      rest) ≡ flags = flags_same (has_query_attributes c) (nat_le 8 (named_flags c flags)) flags
      refl in
      let room : can_have_attributes c s
      (execution_by c statement flags iterations own parameters attributes rest) ≡ true =
      ap (λ n. gives_count c n s.count || (length attributes == 0)) same ∙
      room_by (gives_count c flags s.count) refl in
      and_both _ _ (and_both _ _
      (and_both _ _ (and_both _ _
      (and_both _ _ (and_both _ _
      (and_both _ _ f.whole (flags_can (has_query_attributes c) flags))
      (eq-eqb (length parameters) s.count f.parameter_count))
      (types_can own f.some f.own_count f.kept)) room) f.names) f.values) f.attributes_can

types_kept : (s : InForce) (own : Option (List BoundType)) (types : List ParameterType) →
    types_that_count s own ≡ Some types → own ≡ None → (length s.types == s.count) ≡ true
types_kept s (Some own) types e none = absurd cc
types_kept s None types e none = (must_then (length s.types == s.count) (Some s.types) types e).0

module _ (written : ReadCellsAreWritten) (c : Capabilities) (s : InForce) (body : List ℕ)
    (e : Execution) (are : AreBytes body) where
  end_by : ExecutionHead → Option (List BoundType) → List Value → List Attribute × List ℕ → Option Execution
  end_by head own parameters attributes =
      Some (execution_by c head.statement head.flags head.iterations own parameters attributes.0
      attributes.1)

  pub read_can_be_put : execution_at c s body ≡ Some e → (can_be_put c s e ≡ true) × (execution_as_read e ≡ e)
  unfolding execution_at end_by
  read_can_be_put read =
      let h = bind_some (readable_head c s body)
      (λ head. own_types_at head.binding.bound (has_query_attributes c) s.count
      head.binding.rest >>= λ own. types_that_count s own.0 >>= λ types. types_at
      (has_query_attributes c) (head.count - s.count) own.1 >>= λ further.
      parameters_at s.long_data head.binding.nulls types further.1 >>= λ parameters. attributes_at
      head.binding.nulls s.count further.0 parameters.1 >>= λ attributes. end_by head own.0
      parameters.0 attributes) e read in
      let head = h.0 in
      let o = bind_some (own_types_at head.binding.bound (has_query_attributes c) s.count
      head.binding.rest) (λ own. types_that_count s own.0 >>= λ types. types_at
      (has_query_attributes c) (head.count - s.count) own.1 >>= λ further.
      parameters_at s.long_data head.binding.nulls types further.1 >>= λ parameters. attributes_at
      head.binding.nulls s.count further.0 parameters.1 >>= λ attributes. end_by head own.0
      parameters.0 attributes) e h.2 in
      let t = bind_some (types_that_count s o.0.0)
      (λ types. types_at (has_query_attributes c) (head.count - s.count) o.0.1 >>= λ further.
      parameters_at s.long_data head.binding.nulls types further.1 >>= λ parameters. attributes_at
      head.binding.nulls s.count further.0 parameters.1 >>= λ attributes. end_by head o.0.0
      parameters.0 attributes) e o.2 in
      let x = bind_some (types_at (has_query_attributes c) (head.count - s.count) o.0.1) (λ further.
      parameters_at s.long_data head.binding.nulls t.0 further.1 >>= λ parameters. attributes_at
      head.binding.nulls s.count further.0 parameters.1 >>= λ attributes. end_by head o.0.0
      parameters.0 attributes) e t.2 in
      let p = bind_some (parameters_at s.long_data head.binding.nulls t.0 x.0.1)
      (λ parameters. attributes_at head.binding.nulls s.count x.0.0 parameters.1 >>=
      λ attributes. end_by head o.0.0 parameters.0 attributes) e x.2 in
      let a = bind_some (attributes_at head.binding.nulls s.count x.0.0 p.0.1)
      (λ attributes. end_by head o.0.0 p.0.0 attributes) e p.2 in
      let r = readable_left c s body head are h.1 in
      let own = own_left head.binding.bound (has_query_attributes c) s.count head.binding.rest o.0 r.start.left o.1 in
      let further = all_types_left (has_query_attributes c) (head.count - s.count) o.0.1 x.0 own.left x.1 in
      let parameters = parameters_left written s.long_data head.binding.nulls 0 t.0 x.0.1 p.0.1
      p.0.0 further.left p.1 in
      let attributes = attributes_left written (has_query_attributes c) head.binding.nulls s.count
      x.0.0 p.0.1 a.0.1 a.0.0 parameters.left further.names a.1 in
      let types = types_are s o.0.0 t.0 t.1 in
      let facts : Facts c s head.flags head.count head.binding.bound o.0.0 p.0.0 a.0.0 = record {
        whole = r.whole;
        none = r.start.none;
        given = r.start.own;
        enough = r.start.enough;
        bound_or_own = r.types;
        some = own.some;
        own_count = own.count;
        names = own.names;
        kept = types_kept s o.0.0 t.0 t.1;
        parameter_count = parameters.count ∙ ap length types ∙ types_are_many s o.0.0 t.0 t.1 own.count;
        attribute_count = sym (length-map a.0.0 (λ a. a.bound_type)) ∙ ap length attributes.types_are ∙ further.count;
        values = ap (λ (ts : List ParameterType). are_parameters s.long_data 0 ts p.0.0) (sym types) ∙ parameters.can;
        attributes_can = attributes.can;
      } in
      subst (λ (e : Execution). (can_be_put c s e ≡ true) × (execution_as_read e ≡ e))
      (some_is (execution_by c head.statement head.flags head.iterations o.0.0 p.0.0 a.0.0
      a.0.1) e a.2) (
        can c s head.statement head.flags head.iterations head.count head.binding.bound o.0.0 p.0.0
            a.0.0 a.0.1 facts,
        λ i. record
            (execution_by c head.statement head.flags head.iterations o.0.0 p.0.0 a.0.0
            a.0.1) { parameters = parameters.same i; attributes = attributes.same i },
      )
