-- An execution, and a bulk execution, that `receive` reads are read by what is in force of its parameters.
use Rattle.std.proofs.Common.{◌≡◌, ℕ, ◌-◌, Bool, true, false, List, [], length, Option, Some, Ok, refl, sym, ap, subst}
use Rattle.std.proofs.Common.{◌∙◌, arith}
use Rattle.std.specs.Prelude.{map, not, nat_le, nat_lt, ◌%◌, ◌==◌, ◌||◌, if◌then◌else◌, unwrap_or}
use Rattle.std.specs.Option.{option_and_then, option_or}
use Rattle.std.specs.Result.{result_ok}
use Rattle.std.proofs.lemmas.Bool.Decides.{nat_tests}
use Rattle.mysql_cells.specs.declared.value.Value.{Value}
use Rattle.mysql_const.specs.ColumnTypes.{column_type_named, column_type_number}
use Rattle.mysql_const.specs.FlagSets.{contains}
use Rattle.mysql_const.specs.Tables.{IsTable}
use Rattle.mysql_const.specs.declared.capabilities.Capabilities.{Capabilities}
use Rattle.mysql_executions.specs.After.{bulk_types, execution_types, in_place_of, types_of_bulk, types_of_head}
use Rattle.mysql_executions.specs.Bulks.{BulkExecution, BulkHead, bulk_execution_at, bulk_head, rows_at}
use Rattle.mysql_executions.specs.Bulks.{send_types_to_server, send_unit_results}
use Rattle.mysql_executions.specs.Executions.{Binding, Execution, ExecutionHead, count_available, execution_at}
use Rattle.mysql_executions.specs.Executions.{execution_head, named_flags, parameters_at, readable_head}
use Rattle.mysql_executions.specs.Fields.{each_at}
use Rattle.mysql_executions.specs.InForce.{InForce, is_waiting, types_that_count}
use Rattle.mysql_executions.specs.Types.{has_bulk_operations, has_query_attributes, own_types_at, types_at, types_read}
use Rattle.mysql_executions.specs.Types.{unnamed}
use Rattle.mysql_executions.specs.declared.bulk.BulkValue.{BulkValue}
use Rattle.mysql_executions.specs.declared.types.BoundType.{BoundType}
use Rattle.mysql_executions.specs.declared.types.ParameterType.{ParameterType}
use Rattle.mysql_receive.specs.Fields.{◌>>◌, must}
use Rattle.mysql_receive.specs.InForce.{StatementState}
use Rattle.mysql_receive.specs.InForce as received
use Rattle.mysql_receive.specs.Layout.{BulkHead as ReceivedBulkHead, ExecuteHead, Types, are_bulk_flags}
use Rattle.mysql_receive.specs.Layout.{bulk_head as received_bulk_head, execute_head}
use Rattle.mysql_receive.specs.Query.{Statement, place_count}
use Rattle.mysql_receive.specs.Reading.{BulkReadsAs, RowsAt, Set, bulk_rows, execute_at, set_at, types_in_force}
use Rattle.mysql_receive.specs.declared.fault.StreamFault.{StreamFault}
use Rattle.mysql_receive.specs.declared.fault.StreamFault.TheVariants.{BadBulk, NoRows, NotPrepared, PiecesBeforeBulk}
use Rattle.mysql_wire.specs.Wire.{◌>>=◌}
use Rattle.mysql_connection_recoding.specs.Agreement.{Agree, SameTypes, bulk_meant, meant}
use Rattle.mysql_connection_recoding.proofs.Binds.{bind_ok, must_then, ok_is}
use Rattle.mysql_connection_recoding.proofs.Options.{must_so, rows_so, some_then}
use Rattle.mysql_connection_recoding.proofs.Values.{set_is}
use Rattle.mysql_connection_recoding.proofs.Heads.{BulkHeaded, Headed, bulk_head_is, head_is}
use Rattle.mysql_connection_recoding.proofs.InForce.{not_waiting, types_behind, types_count}
use Rattle.mysql_connection_recoding.proofs.Rows.{rows_are, some_rows, some_types}

-- ---- executions

or_true : (b : Bool) (n : ℕ) → (b || (n == n)) ≡ true
or_true true n = refl
or_true false n = grind (arith, nat_tests)

less_itself : (named : Bool) (n : ℕ) (bytes : List ℕ) → types_at named (n - n) bytes ≡ Some ([], bytes)
unfolding types_read
less_itself named n bytes = let none : n - n ≡ 0 = omega arith in ap (λ m. types_at named m bytes) none

abbrev headed : InForce → (id : ℕ) → Binding → ExecutionHead
headed s id binding = record { statement = id; flags = 0; iterations = 1; count = s.count; binding = binding }

abbrev made : Capabilities → (id : ℕ) → Option (List BoundType) → List Value → Execution
made c id own vs = record {
  statement = id;
  cursor = record { 0 = 0 % 8 };
  count_available = nat_le count_available (named_flags c 0);
  nameless_flags = 0 - named_flags c 0;
  iterations = 1;
  types = own;
  parameters = vs;
  attributes = [];
  rest = [];
}

module _ (c : Capabilities) (s : InForce) (none : has_query_attributes c ≡
    false) (whole : s.broken ≡ false) (body : List ℕ) (id : ℕ) (binding : Binding)
    (found : execution_head c s.count body ≡ Some (headed s id binding)) where
  head_readable : readable_head c s body ≡ Some (headed s id binding)
  unfolding readable_head
  head_readable =
      must_so (not s.broken) _ _ (ap not whole) (some_then _ _ (headed s id binding) _ found
      (must_so (binding.bound || (s.count == s.count)) _ _ (or_true binding.bound s.count) refl))

  execution_found : (own : Option (List BoundType)) (cells : List ℕ) (types : List ParameterType)
      (vs : List Value) → own_types_at binding.bound false s.count binding.rest ≡
      Some (own, cells) → types_that_count s own ≡ Some types
      → parameters_at s.long_data binding.nulls types cells ≡ Some (vs, []) →
      execution_at c s body ≡ Some (made c id own vs)
  unfolding execution_at each_at
  execution_found own cells types vs own_so types_so read =
      some_then _ _ (headed s id binding) _ head_readable
      (some_then _ _ (own, cells) _ (ap (λ b. own_types_at binding.bound b s.count binding.rest) none ∙ own_so)
      (some_then _ _ types _ types_so
      (some_then _ _ ([], cells) _ (less_itself (has_query_attributes c) s.count cells)
      (some_then _ _ (vs, []) _ read refl))))

  types_carried : (own : Option (List BoundType)) →
      (if binding.bound then (types_read false s.count binding.rest).found else []) ≡
      unwrap_or own [] → execution_types c s.count body ≡ unwrap_or own []
  unfolding execution_types
  types_carried own carried = ap (types_of_head c s.count) found ∙
      ap (λ b. if binding.bound then (types_read b s.count binding.rest).found else []) none ∙
      carried

-- an execution is found, with this set, and leaves the same types
pub record ExecutionIs (c : Capabilities) (statement : Statement) (state : StatementState)
    (s : InForce) (body : List ℕ) (set : Set) : Type 0 where
  pub execution : Execution
  pub found : execution_at c s body ≡ Some execution
  pub says : meant execution.parameters ≡ map Some set
  pub types : SameTypes (option_or (received.execute_types statement body) state.types)
      (in_place_of (unnamed (execution_types c s.count body)) s.types) s.count

module _ (named : IsTable column_type_number column_type_named) (c : Capabilities)
    (none : has_query_attributes c ≡ false) (statement : Statement) (state : StatementState)
    (s : InForce) (agree : Agree statement state s) (body : List ℕ) where
  execution_by : (set : Set) (head : ExecuteHead) (types : Types) → execute_head statement body ≡
      Ok head → Headed c s.count body statement.id head → types_in_force statement state head.own ≡
      Ok types
      → set_at state.long_data head.nulls 0 types head.cells ≡ Ok set → ExecutionIs c statement state s body set
  execution_by set head types is h counted read =
      let own = h.own.own in
      let counting = types_count statement state s agree own head.own types h.own.same counted in
      let values = set_is s.long_data state.long_data agree.long_data head.nulls 0 counting.0
      head.cells set (ap (λ ts. set_at state.long_data head.nulls 0 ts head.cells) counting.2 ∙
      read) in
      record {
        execution = made c statement.id own values.0;
        found = execution_found c s none agree.whole body statement.id h.binding h.found own
            head.cells counting.0 values.0 h.own.found counting.1
            (ap (λ ns. parameters_at s.long_data ns counting.0 head.cells) h.nulls ∙ values.1);
        says = values.2;
        types = subst (λ (o : Option Types). SameTypes (option_or o state.types)
            (in_place_of (unnamed (execution_types c s.count body)) s.types) s.count)
            (sym (ap (λ found. option_and_then (λ (x : ExecuteHead). x.own) (result_ok found)) is))
            (subst (λ (l : List BoundType). SameTypes (option_or head.own state.types)
            (in_place_of (unnamed l) s.types) s.count)
            (sym (types_carried c s none agree.whole body statement.id h.binding h.found own
            h.own.carried))
            (types_behind head.own own state.types s.types s.count h.own.same agree.types));
      }

  pub execution_is : (set : Set) → execute_at statement state body ≡ Ok set → ExecutionIs c statement state s body set
  unfolding execute_at
  execution_is set e =
      let valued = λ (head : ExecuteHead). types_in_force statement state head.own >>= λ types.
      set_at state.long_data head.nulls 0 types head.cells in
      let a = must_then NotPrepared state.prepared (execute_head statement body >>= valued) set e in
      let h = bind_ok (execute_head statement body) valued set a.1 in
      let t = bind_ok (types_in_force statement state h.0.own)
      (λ types. set_at state.long_data h.0.nulls 0 types h.0.cells) set h.2 in
      execution_by set h.0 t.0 h.1
      (subst (λ n. Headed c n body statement.id h.0) (sym agree.count)
      (head_is named c statement body h.0 none h.1)) t.1 t.2

-- ---- bulks

abbrev bulk_headed : (id flags : ℕ) → List ℕ → BulkHead
bulk_headed id flags rest = record { statement = id; flags = flags; rest = rest }

abbrev bulk_made : (id flags : ℕ) → Option (List BoundType) → List (List BulkValue) → BulkExecution
bulk_made id flags own rows =
    record {
      statement = id;
      unit_results = contains flags send_unit_results;
      types = own;
      rows =
          rows;
      rest = [];
    }

module _ (c : Capabilities) (s : InForce) (bulks : has_bulk_operations c ≡ true) (whole : s.broken ≡
    false) (waits : is_waiting s ≡ false) (some : nat_lt 0 s.count ≡ true) (body : List ℕ)
    (id flags : ℕ) (rest : List ℕ) (found : bulk_head body ≡ Some (bulk_headed id flags rest)) where
  bulk_found : (own : Option (List BoundType)) (left : List ℕ) (types : List ParameterType)
      (rows : List (List BulkValue)) → are_bulk_flags flags ≡ true →
      own_types_at (contains flags send_types_to_server) false s.count rest ≡ Some (own, left)
      → types_that_count s own ≡ Some types → rows_at (length left) types left ≡ (rows, []) →
      nat_lt 0 (length rows) ≡ true → bulk_execution_at c s body ≡
      Some (bulk_made id flags own rows)
  unfolding bulk_execution_at
  bulk_found own left types rows known own_so types_so read some_rows =
      must_so (has_bulk_operations c) _ _ bulks
      (must_so (not s.broken) _ _ (ap not whole)
      (must_so (not (is_waiting s)) _ _ (ap not waits) (must_so (nat_lt 0 s.count) _ _ some
      (some_then _ _ (bulk_headed id flags rest) _ found
      (must_so (are_bulk_flags flags) _ _ known
      (some_then _ _ (own, left) _ own_so (some_then _ _ types _ types_so
      (rows_so (λ (r : List (List BulkValue) × List ℕ). record (bulk_made id flags own r.0) {
        rest =
            r.1;
      }) (rows_at (length left) types left) rows [] read some_rows))))))))

  bulk_types_carried : (own : Option (List BoundType)) →
      (if contains flags send_types_to_server then (types_read false s.count rest).found else []) ≡
      unwrap_or own [] → bulk_types s.count body ≡ unwrap_or own []
  unfolding bulk_types
  bulk_types_carried own carried = ap (types_of_bulk s.count) found ∙ carried

-- a bulk execution is found, with these sets, and leaves the same types
pub record BulkIs (c : Capabilities) (statement : Statement) (state : StatementState) (s : InForce)
    (body : List ℕ) (sets : List Set) : Type 0 where
  pub execution : BulkExecution
  pub found : bulk_execution_at c s body ≡ Some execution
  pub says : map (λ row. map bulk_meant row) execution.rows ≡ map (λ set. map Some set) sets
  pub waits : received.is_waiting statement state ≡ false
  pub types : SameTypes (option_or (received.bulk_types statement body) state.types)
      (in_place_of (unnamed (bulk_types s.count body)) s.types) s.count

not_so : (b : Bool) → not b ≡ true → b ≡ false
not_so true e = absurd cc
not_so false e = refl

module _ (named : IsTable column_type_number column_type_named) (c : Capabilities)
    (bulks : has_bulk_operations c ≡ true) (statement : Statement) (state : StatementState)
    (s : InForce) (agree : Agree statement state s) (body : List ℕ) where
  bulk_by : (sets : List Set) (head : ReceivedBulkHead) (types : Types) →
      received.is_waiting statement state ≡ false → nat_lt 0 (place_count statement.query) ≡ true →
      received_bulk_head statement body ≡ Ok head
      → BulkHeaded s.count body statement.id head → types_in_force statement state head.own ≡
      Ok types → nat_lt 0 (length head.rows) ≡ true → RowsAt types head.rows sets [] →
      BulkIs c statement state s body sets
  bulk_by sets head types waits some is h counted some_left read =
      let own = h.own.own in
      let counting = types_count statement state s agree own head.own types h.own.same counted in
      let read_so = subst (λ (ts : Types). RowsAt ts head.rows sets []) (sym counting.2) read in
      let rows = rows_are (length head.rows) counting.0 head.rows sets
      (some_types counting.0 head.rows sets some_left read_so) (omega arith) read_so in
      record {
        execution = bulk_made statement.id h.flags own rows.0;
        found = bulk_found c s bulks agree.whole (not_waiting statement state s agree waits)
            (ap (nat_lt 0) agree.count ∙ some) body statement.id h.flags h.rest h.found own
            head.rows counting.0 rows.0 h.known h.own.found counting.1 rows.1
            (some_rows counting.0 head.rows sets rows.0 some_left read_so rows.2);
        says = rows.2;
        waits = waits;
        types = subst (λ (o : Option Types). SameTypes (option_or o state.types)
            (in_place_of (unnamed (bulk_types s.count body)) s.types) s.count)
            (sym (ap (λ found. option_and_then (λ (x : ReceivedBulkHead). x.own) (result_ok found))
            is))
            (subst (λ (l : List BoundType). SameTypes (option_or head.own state.types)
            (in_place_of (unnamed l) s.types) s.count)
            (sym (bulk_types_carried c s bulks agree.whole
            (not_waiting statement state s agree waits) (ap (nat_lt 0) agree.count ∙
            some) body statement.id h.flags h.rest h.found own h.own.carried))
            (types_behind head.own own state.types s.types s.count h.own.same agree.types));
      }

  pub bulk_is : (sets : List Set) → BulkReadsAs statement state body sets → BulkIs c statement state s body sets
  unfolding bulk_rows
  bulk_is sets reads =
      let found : Types × List ℕ = (reads.types, reads.bytes) in
      let rowed = λ (head : ReceivedBulkHead) (types : Types). must NoRows
      (nat_lt 0 (length head.rows)) >> Ok (types, head.rows) in
      let typed = λ (head : ReceivedBulkHead). types_in_force statement state head.own >>= rowed head in
      let headed_so = received_bulk_head statement body >>= typed in
      let a = must_then NotPrepared state.prepared
      (must PiecesBeforeBulk (not (received.is_waiting statement state)) >>
      (must BadBulk (nat_lt 0 (place_count statement.query)) >> headed_so)) found reads.found in
      let b = must_then PiecesBeforeBulk (not (received.is_waiting statement state))
      (must BadBulk (nat_lt 0 (place_count statement.query)) >> headed_so) found a.1 in
      let d = must_then BadBulk (nat_lt 0 (place_count statement.query)) headed_so found b.1 in
      let h = bind_ok (received_bulk_head statement body) typed found d.1 in
      let t = bind_ok (types_in_force statement state h.0.own) (rowed h.0) found h.2 in
      let r = must_then NoRows (nat_lt 0 (length h.0.rows)) (Ok (t.0, h.0.rows)) found t.2 in
      let same : (t.0, h.0.rows) ≡ found = ok_is {F = StreamFault} (t.0, h.0.rows) found r.1 in
      bulk_by sets h.0 t.0 (not_so (received.is_waiting statement state) b.0) d.0 h.1
      (subst (λ n. BulkHeaded n body statement.id h.0) (sym agree.count)
      (bulk_head_is named statement body h.0 h.1)) t.1 r.0
      (subst (λ (p : Types × List ℕ). RowsAt p.0 p.1 sets []) (sym same) reads.rows)
