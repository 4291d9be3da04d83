-- What stands before the values of an execution, and before the rows of a bulk.
use Rattle.std.proofs.Common.{◌≡◌, ℕ, zero, suc, ◌+◌, ◌/◌, ◌≤◌, Bool, true, false, List, [], Some, None, Result, Ok}
use Rattle.std.proofs.Common.{refl, sym, ap, subst, ◌∙◌, arith}
use Rattle.std.specs.Prelude.{not, nat_le, ◌==◌, if◌then◌else◌}
use Rattle.std.proofs.lemmas.Bool.Decides.{nat_tests}
use Rattle.mysql_const.specs.ColumnTypes.{column_type_named, column_type_number}
use Rattle.mysql_const.specs.FlagSets.{contains}
use Rattle.mysql_const.specs.Tables.{IsTable}
use Rattle.mysql_const.specs.declared.capabilities.Capabilities.{Capabilities}
use Rattle.mysql_executions.specs.Bulks.{bulk_head}
use Rattle.mysql_executions.specs.Executions.{Binding, binding_at, count_at, execution_head}
use Rattle.mysql_executions.specs.Types.{has_query_attributes}
use Rattle.mysql_receive.specs.Fields.{◌>>◌, bytes_or, must, number_or}
use Rattle.mysql_receive.specs.Layout.{BulkHead as ReceivedBulkHead, ExecuteHead, are_bulk_flags}
use Rattle.mysql_receive.specs.Layout.{binding_at as received_binding_at, bulk_head as received_bulk_head}
use Rattle.mysql_receive.specs.Layout.{execute_head, id_at, no_cursor, send_types_to_server, types_at}
use Rattle.mysql_receive.specs.Query.{Statement, place_count}
use Rattle.mysql_receive.specs.declared.fault.StreamFault.{StreamFault}
use Rattle.mysql_receive.specs.declared.fault.StreamFault.TheVariants.{BadBulk, BadExecute, WrongId}
use Rattle.mysql_buf.specs.Reading.{bytes_at, little_at}
use Rattle.mysql_wire.specs.Wire.{◌>>=◌}
use Rattle.mysql_connection_recoding.proofs.Binds.{bind_ok, found_is, must_then, ok_is}
use Rattle.mysql_connection_recoding.proofs.Options.{must_so, some_then}
use Rattle.mysql_connection_recoding.proofs.Values.{OwnAre, own_with, own_without}

same_number : (a b : ℕ) → (a == b) ≡ true → a ≡ b
same_number a b e = grind (arith, nat_tests)

-- the statement's id stands first, and these bytes behind it
pub id_is : (statement : Statement) (body rest : List ℕ) → id_at statement body ≡ Ok rest →
    little_at 4 body ≡ Some (statement.id, rest)
id_is statement body rest e =
    let a = bind_ok (number_or WrongId 4 body) (λ id. must WrongId (id.0 == statement.id) >> Ok id.1) rest e in
    let b = must_then WrongId (a.0.0 == statement.id) (Ok a.0.1) rest a.2 in
    let id = same_number a.0.0 statement.id b.0 in
    let left : a.0.1 ≡ rest = ok_is {F = StreamFault} a.0.1 rest b.1 in
    found_is (little_at 4 body) WrongId a.0 a.1 ∙ (λ i. Some (id i, left i))

-- ---- executions

-- the bitmap and whether types follow, and the types
record Bound (n : ℕ) (bytes : List ℕ) (head : ExecuteHead) : Type 0 where
  binding : Binding
  found : binding_at n bytes ≡ Some binding
  nulls : binding.nulls ≡ head.nulls
  own : OwnAre binding.bound n binding.rest head.own head.cells

small : (bound : ℕ) → nat_le bound 1 ≡ true → (bound == 0) ≡ not (bound == 1)
small zero e = refl
small (suc zero) e = refl
small (suc (suc n)) e = absurd (let h : suc (suc n) ≤ 1 = grind (arith, nat_tests) in omega arith)

module _ (named : IsTable column_type_number column_type_named) where
  types_bound : (n : ℕ) (bytes nulls rest : List ℕ) (head : ExecuteHead) (bound : Bool) →
      binding_at n bytes ≡ Some (record { nulls = nulls; bound = bound; rest = rest })
      → (if not bound then Ok (record { nulls = nulls; own = None; cells = rest }) else types_at
      BadExecute n rest >>= λ types. Ok
      (record { nulls = nulls; own = Some types.0; cells = types.1 })) ≡ Ok head →
      Bound n bytes head
  types_bound n bytes nulls rest head false found e =
      subst (Bound n bytes) (ok_is {F = StreamFault} _ head e)
      (record {
        binding = record { nulls = nulls; bound = false; rest = rest };
        found =
            found;
        nulls = refl;
        own = own_without n rest;
      })
  types_bound n bytes nulls rest head true found e =
      let a = bind_ok (types_at BadExecute n rest)
      (λ types. Ok (record { nulls = nulls; own = Some types.0; cells = types.1 })) head e in
      subst (Bound n bytes) (ok_is {F = StreamFault} _ head a.2)
      (record {
        binding = record { nulls = nulls; bound = true; rest = rest };
        found =
            found;
        nulls = refl;
        own = own_with named BadExecute n rest a.0 a.1;
      })

  bound_found : (n : ℕ) (bytes nulls left : List ℕ) (bound : ℕ) (rest : List ℕ) →
      bytes_at ((suc n + 7) / 8) bytes ≡ Some (nulls, left) → little_at 1 left ≡
      Some (bound, rest) → nat_le bound 1 ≡ true
      → binding_at (suc n) bytes ≡ Some (record { nulls = nulls; bound = bound == 1; rest = rest })
  unfolding binding_at
  bound_found n bytes nulls left bound rest here behind few =
      let size : (suc n + 7 + 0) / 8 ≡ (suc n + 7) / 8 = ap (λ m. m / 8) (omega arith) in
      some_then _ _ (nulls, left) _ (ap (λ m. bytes_at m bytes) size ∙
      here) (some_then _ _ (bound, rest) _ behind (must_so (nat_le bound 1) _ _ few refl))

  some_bound : (n : ℕ) (bytes : List ℕ) (head : ExecuteHead) → received_binding_at (suc n) bytes ≡
      Ok head → Bound (suc n) bytes head
  unfolding received_binding_at
  some_bound n bytes head e =
      let types = λ (nulls bound_rest : List ℕ). types_at BadExecute (suc n) bound_rest >>= λ types.
      Ok (record { nulls = nulls; own = Some types.0; cells = types.1 }) in
      let after_bound = λ (nulls : List ℕ) (bound : ℕ × List ℕ). if bound.0 == 0 then Ok
      (record { nulls = nulls; own = None; cells = bound.1 }) else types nulls bound.1 in
      let a = bind_ok (bytes_or BadExecute ((suc n + 7) / 8) bytes)
      (λ nulls. number_or BadExecute 1 nulls.1 >>= λ bound. must BadExecute (nat_le bound.0 1)
      >> after_bound nulls.0 bound) head e in
      let b = bind_ok (number_or BadExecute 1 a.0.1)
      (λ bound. must BadExecute (nat_le bound.0 1) >> after_bound a.0.0 bound) head a.2 in
      let c = must_then BadExecute (nat_le b.0.0 1) (after_bound a.0.0 b.0) head b.2 in
      types_bound (suc n) bytes a.0.0 b.0.1 head (b.0.0 == 1)
      (bound_found n bytes a.0.0 a.0.1 b.0.0 b.0.1
      (found_is (bytes_at ((suc n + 7) / 8) bytes) BadExecute a.0 a.1)
      (found_is (little_at 1 a.0.1) BadExecute b.0 b.1) c.0)
      (ap (λ t. if t then Ok (record { nulls = a.0.0; own = None; cells = b.0.1 }) else types a.0.0
      b.0.1) (sym (small b.0.0 c.0)) ∙ c.1)

  none_bound : (n : ℕ) (bytes : List ℕ) → n ≡ 0 → Bound n bytes (record { nulls = []; own = None; cells = bytes })
  unfolding binding_at
  none_bound zero bytes none =
      record {
        binding = record { nulls = []; bound = false; rest = bytes };
        found = refl;
        nulls =
            refl;
        own = own_without zero bytes;
      }
  none_bound (suc n) bytes none = absurd (omega arith)

  some_or : (n : ℕ) (bytes : List ℕ) (head : ExecuteHead) → (n == 0) ≡ false →
      received_binding_at n bytes ≡ Ok head → Bound n bytes head
  some_or zero bytes head some e = absurd cc
  some_or (suc n) bytes head some e = some_bound n bytes head e

  any_bound : (n : ℕ) (bytes : List ℕ) (head : ExecuteHead) (none : Bool) → (n == 0) ≡ none →
      (if none then Ok (record { nulls = []; own = None; cells = bytes }) else received_binding_at n
      bytes) ≡ Ok head → Bound n bytes head
  any_bound n bytes head true is e =
      subst (Bound n bytes) (ok_is {F =
      StreamFault} (record { nulls = []; own = None; cells = bytes }) head e)
      (none_bound n bytes (grind (arith, nat_tests)))
  any_bound n bytes head false is e = some_or n bytes head is e

-- without attributes a statement's parameters are all
count_is : (c : Capabilities) (flags n : ℕ) (bytes : List ℕ) → has_query_attributes c ≡ false →
    count_at c flags n bytes ≡ Some (n, bytes)
count_is c flags n bytes none = rw none refl

-- what stands before an execution's values is found
pub record Headed (c : Capabilities) (n : ℕ) (body : List ℕ) (id : ℕ) (head : ExecuteHead) : Type 0 where
  pub binding : Binding
  pub found : execution_head c n body ≡
      Some (record { statement = id; flags = 0; iterations = 1; count = n; binding = binding })
  pub nulls : binding.nulls ≡ head.nulls
  pub own : OwnAre binding.bound n binding.rest head.own head.cells

head_found : (c : Capabilities) (n : ℕ) (body : List ℕ) (id : ℕ) (rest after_flags bytes : List ℕ)
    (binding : Binding) → has_query_attributes c ≡ false → little_at 4 body ≡ Some (id, rest) →
    little_at 1 rest ≡ Some (0, after_flags)
    → little_at 4 after_flags ≡ Some (1, bytes) → binding_at n bytes ≡ Some binding →
    execution_head c n body ≡
    Some (record { statement = id; flags = 0; iterations = 1; count = n; binding = binding })
unfolding execution_head
head_found c n body id rest after_flags bytes binding none one two three four =
    some_then _ _ (id, rest) _ one
    (some_then _ _ (0, after_flags) _ two
    (some_then _ _ (1, bytes) _ three
    (some_then _ _ (n, bytes) _ (count_is c 0 n bytes none)
    (must_so (nat_le n n) _ _ (grind (arith, nat_tests)) (some_then _ _ binding _ four refl)))))

pub head_is : (named : IsTable column_type_number column_type_named) (c : Capabilities)
    (statement : Statement) (body : List ℕ) (head : ExecuteHead) → has_query_attributes c ≡ false →
    execute_head statement body ≡ Ok head
    → Headed c (place_count statement.query) body statement.id head
unfolding execute_head
head_is named c statement body head none e =
    let n = place_count statement.query in
    let bound = λ (bytes : List ℕ). if n == 0 then Ok
    (record { nulls = []; own = None; cells = bytes }) else received_binding_at n bytes in
    let counted = λ (rest : List ℕ). number_or BadExecute 4 rest >>= λ count. must BadExecute
    (count.0 == 1) >> bound count.1 in
    let flagged = λ (rest : List ℕ). number_or BadExecute 1 rest >>= λ cursor. must BadExecute
    (cursor.0 == no_cursor) >> counted cursor.1 in
    let a = bind_ok (id_at statement body) flagged head e in
    let b = bind_ok (number_or BadExecute 1 a.0)
    (λ cursor. must BadExecute (cursor.0 == no_cursor) >> counted cursor.1) head a.2 in
    let cursor = must_then BadExecute (b.0.0 == no_cursor) (counted b.0.1) head b.2 in
    let d = bind_ok (number_or BadExecute 4 b.0.1)
    (λ count. must BadExecute (count.0 == 1) >> bound count.1) head cursor.1 in
    let one = must_then BadExecute (d.0.0 == 1) (bound d.0.1) head d.2 in
    let here = any_bound named n d.0.1 head (n == 0) refl one.1 in
    record {
      binding = here.binding;
      found = head_found c n body statement.id a.0 b.0.1 d.0.1 here.binding none (id_is statement body a.0 a.1)
          (found_is (little_at 1 a.0) BadExecute b.0 b.1 ∙ ap (λ m. Some (m, b.0.1)) (same_number b.0.0 0 cursor.0))
          (found_is (little_at 4 b.0.1) BadExecute d.0 d.1 ∙
          ap (λ m. Some (m, d.0.1)) (same_number d.0.0 1 one.0)) here.found;
      nulls = here.nulls;
      own = here.own;
    }

-- ---- bulks

-- what stands before the rows of a bulk is found
pub record BulkHeaded (n : ℕ) (body : List ℕ) (id : ℕ) (head : ReceivedBulkHead) : Type 0 where
  pub flags : ℕ
  pub rest : List ℕ
  pub found : bulk_head body ≡ Some (record { statement = id; flags = flags; rest = rest })
  pub known : are_bulk_flags flags ≡ true
  pub own : OwnAre (contains flags send_types_to_server) n rest head.own head.rows

module _ (named : IsTable column_type_number column_type_named) (n : ℕ) where
  bulk_found : (body : List ℕ) (id flags : ℕ) (rest left : List ℕ) → little_at 4 body ≡
      Some (id, rest) → little_at 2 rest ≡ Some (flags, left) → bulk_head body ≡
      Some (record { statement = id; flags = flags; rest = left })
  unfolding bulk_head
  bulk_found body id flags rest left one two = some_then _ _ (id, rest) _ one (some_then _ _ (flags, left) _ two refl)

  abbrev bulk_types : List ℕ → Result ReceivedBulkHead StreamFault
  bulk_types left = types_at BadBulk n left >>= λ types. Ok (record { own = Some types.0; rows = types.1 })

  bulk_own : (left : List ℕ) (head : ReceivedBulkHead) (sent : Bool) →
      (if not sent then Ok (record { own = None; rows = left }) else bulk_types left) ≡ Ok head →
      OwnAre sent n left head.own head.rows
  bulk_own left head false e =
      subst (λ (h : ReceivedBulkHead). OwnAre false n left h.own h.rows)
      (ok_is {F = StreamFault} (record { own = None; rows = left }) head e) (own_without n left)
  bulk_own left head true e =
      let a = bind_ok (types_at BadBulk n left) (λ types. Ok (record { own = Some types.0; rows = types.1 })) head e in
      subst (λ (h : ReceivedBulkHead). OwnAre true n left h.own h.rows)
      (ok_is {F = StreamFault} (record { own = Some a.0.0; rows = a.0.1 }) head a.2)
      (own_with named BadBulk n left a.0 a.1)

pub bulk_head_is : (named : IsTable column_type_number column_type_named) (statement : Statement)
    (body : List ℕ) (head : ReceivedBulkHead) → received_bulk_head statement body ≡ Ok head →
    BulkHeaded (place_count statement.query) body statement.id head
unfolding received_bulk_head
bulk_head_is named statement body head e =
    let n = place_count statement.query in
    let behind = λ (flags : ℕ × List ℕ). if not (contains flags.0 send_types_to_server) then Ok
    (record { own = None; rows = flags.1 }) else bulk_types named n flags.1 in
    let a = bind_ok (id_at statement body)
    (λ rest. number_or BadBulk 2 rest >>= λ flags. must BadBulk (are_bulk_flags flags.0) >>
    behind flags) head e in
    let b = bind_ok (number_or BadBulk 2 a.0)
    (λ flags. must BadBulk (are_bulk_flags flags.0) >> behind flags) head a.2 in
    let c = must_then BadBulk (are_bulk_flags b.0.0) (behind b.0) head b.2 in
    record {
      flags = b.0.0;
      rest = b.0.1;
      found = bulk_found named n body statement.id b.0.0 a.0 b.0.1 (id_is statement body a.0 a.1)
          (found_is (little_at 2 a.0) BadBulk b.0 b.1);
      known = c.0;
      own = bulk_own named n b.0.1 head (contains b.0.0 send_types_to_server) c.1;
    }
