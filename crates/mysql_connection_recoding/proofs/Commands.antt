-- Each command about a prepared statement that `receive` reads says the same contents, and the same
-- is in force behind it.
use Rattle.std.proofs.Common.{◌≡◌, ℕ, ◌+◌, ◌<◌, Bool, true, false, List, [], ◌∷◌, length, Option, Some, None, Ok, refl}
use Rattle.std.proofs.Common.{sym, ap, subst, ◌∙◌, arith}
use Rattle.std.specs.Prelude.{map, nat_le, nat_lt, ◌==◌, ◌&&◌, ◌||◌, if◌then◌else◌}
use Rattle.std.specs.List.{list_all, list_any}
use Rattle.std.specs.Option.{option_map}
use Rattle.std.proofs.lemmas.Bool.Decides.{nat_tests}
use Rattle.mysql_buf.specs.Reading.{little_at}
use Rattle.mysql_commands.specs.Commands.{BulkExecute, Execute, LongData, ResetStatement, all_of, command_at}
use Rattle.mysql_commands.specs.Commands.{long_data_at as data_said_at, or_other}
use Rattle.mysql_const.specs.ColumnTypes.{column_type_named, column_type_number}
use Rattle.mysql_const.specs.Tables.{IsTable}
use Rattle.mysql_const.specs.declared.capabilities.Capabilities.{Capabilities}
use Rattle.mysql_executions.specs.After.{after_execution, after_long_data, after_reset, bulk_types, execution_types}
use Rattle.mysql_executions.specs.After.{in_place_of, more_data}
use Rattle.mysql_executions.specs.InForce.{InForce}
use Rattle.mysql_executions.specs.Types.{has_bulk_operations, has_query_attributes, unnamed}
use Rattle.mysql_executions.specs.declared.types.ParameterType.{ParameterType}
use Rattle.mysql_fields.specs.Forms.{fixed_number_at}
use Rattle.mysql_fields.specs.Wire.{or_end}
use Rattle.mysql_receive.specs.Audit.{Reads}
use Rattle.mysql_receive.specs.Audit.Reads.{next, nothing}
use Rattle.mysql_receive.specs.Fields.{◌>>◌, must, number_or}
use Rattle.mysql_receive.specs.InForce.{StatementState, after}
use Rattle.mysql_receive.specs.InForce as received
use Rattle.mysql_receive.specs.Layout.{PlaceData, Types, id_at, place_data_at}
use Rattle.mysql_receive.specs.Query.{Statement, place_count}
use Rattle.mysql_receive.specs.Reading.{BulkReadsAs, PayloadReadsAs, Set, execute_at, long_data_at, prepared_data}
use Rattle.mysql_receive.specs.Reading.{statement_alone_at}
use Rattle.mysql_receive.specs.declared.fault.StreamFault.{StreamFault}
use Rattle.mysql_receive.specs.declared.fault.StreamFault.TheVariants.{BadPlace, NotPrepared, WrongId}
use Rattle.mysql_wire.specs.Wire.{◌>>=◌}
use Rattle.mysql_connection_recoding.specs.Agreement.{Agree, BulksInForce, EachIsRead, ReceivedAreRead, SameTypes}
use Rattle.mysql_connection_recoding.specs.Agreement.{after_payload, all_there, is_about_parameters, is_bulk, sets_in}
use Rattle.mysql_connection_recoding.specs.Agreement.{sets_of, with_data}
use Rattle.mysql_connection_recoding.proofs.Binds.{bind_ok, found_is, must_then, ok_is}
use Rattle.mysql_connection_recoding.proofs.Values.{SameData}
use Rattle.mysql_connection_recoding.proofs.Heads.{id_is}
use Rattle.mysql_connection_recoding.proofs.InForce.{NonePast, data_more, more_within, nothing_kept}
use Rattle.mysql_connection_recoding.proofs.Executions.{bulk_is, execution_is}

-- the command says these sets, and behind it the same is in force
pub record StepIs (c : Capabilities) (statement : Statement) (state : StatementState) (s : InForce)
    (payload : List ℕ) (sets : List Set) : Type 0 where
  pub says : sets_of (command_at c (Some s) payload) ≡ map (λ set. map Some set) sets
  pub agree : Agree statement (after statement state payload) (after_payload c payload s)

-- ---- behind an execution

module _ (statement : Statement) (state : StatementState) (s : InForce) (agree : Agree statement state s) where
  executed : (sent : Option Types) (waiting : ℕ → Option (List ℕ)) (types : List ParameterType) →
      SameTypes sent (in_place_of types s.types) s.count → SameData [] waiting
      → Agree statement (record { prepared = state.prepared; types = sent; long_data = waiting })
      (after_execution types s)
  executed sent waiting types same none = record {
    prepared = agree.prepared;
    count = agree.count;
    types = subst (λ b. SameTypes sent (if b then s.types else in_place_of types s.types) s.count)
        (sym agree.whole) same;
    long_data = subst (λ b. SameData (if b then s.long_data else []) waiting) (sym agree.whole) none;
    places = subst (λ b. NonePast s.count (if b then s.long_data else [])) (sym agree.whole) (λ place past. refl);
    whole = agree.whole;
  }

module _ (named : IsTable column_type_number column_type_named) (c : Capabilities)
    (none : has_query_attributes c ≡ false) (statement : Statement) (state : StatementState)
    (s : InForce) (agree : Agree statement state s) (body : List ℕ) where
  abbrev Step : ℕ → List Set → Type 0
  Step number sets = StepIs c statement state s (number ∷ body) sets

  execution_step : (set : Set) → execute_at statement state body ≡ Ok set → Step 0x17 (set ∷ [])
  execution_step set e =
      let x = execution_is named c none statement state s agree body set e in
      record {
        says = ap (λ found. sets_of (or_other (0x17 ∷ body) (option_map Execute found))) x.found ∙
            ap (λ said. said ∷ []) x.says;
        agree = executed statement state s agree _ (λ place. None)
            (unnamed (execution_types c s.count body)) x.types (λ place. refl);
      }

  bulk_step : has_bulk_operations c ≡ true → (sets : List Set) → BulkReadsAs statement state body sets → Step 0xfa sets
  bulk_step bulks sets reads =
      let x = bulk_is named c bulks statement state s agree body sets reads in
      record {
        says = ap (λ found. sets_of (or_other (0xfa ∷ body) (option_map BulkExecute found))) x.found ∙ x.says;
        agree = subst (λ (b : Bool). Agree statement (after statement state (0xfa ∷ body))
            (if b then after_execution (unnamed (bulk_types s.count body)) s else s)) (sym bulks)
            (executed statement state s agree _ state.long_data (unnamed (bulk_types s.count body))
            x.types (nothing_kept statement state s agree x.waits));
      }

  -- ---- long data

  data_said : (id : ℕ) (rest : List ℕ) (place : ℕ) (bytes : List ℕ) → little_at 4 body ≡
      Some (id, rest) → little_at 2 rest ≡ Some (place, bytes) →
      command_at c (Some s) (0x18 ∷ body) ≡ LongData id place bytes
  data_said id rest place bytes one two =
      let both : data_said_at body ≡ Ok (LongData id place bytes, []) =
      ap (λ found. or_end found >>= λ x. fixed_number_at 2 x.1 >>= λ y. Ok
      (LongData x.0 y.0 y.1, [])) one ∙
      ap (λ found. or_end found >>= λ y. Ok (LongData id y.0 y.1, [])) two in
      ap (λ found. or_other (0x18 ∷ body) (option_map (λ x. x) (all_of found))) both

  data_behind : (place : ℕ) (bytes : List ℕ) → nat_lt place s.count ≡ true →
      Agree statement (received.with_data state (received.more_data state.long_data place bytes))
      (after_long_data place bytes s)
  data_behind place bytes within =
      let lt : place < s.count = grind (arith, nat_tests) in
      record {
        prepared = agree.prepared;
        count = agree.count;
        types = agree.types;
        long_data = subst (λ b. SameData
            (if b then more_data s.long_data place bytes else s.long_data)
            (received.more_data state.long_data place bytes)) (sym within)
            (data_more s.long_data state.long_data place bytes agree.long_data);
        places = subst (λ b. NonePast s.count
            (if b then more_data s.long_data place bytes else s.long_data)) (sym within)
            (more_within s.long_data place bytes s.count lt agree.places);
        whole = ap (λ b. b || nat_le s.count place) agree.whole ∙ grind (arith, nat_tests);
      }

  data_by : (id : ℕ) (rest : List ℕ) (sent : PlaceData) → little_at 4 body ≡ Some (id, rest) →
      little_at 2 rest ≡ Some (sent.place, sent.bytes) → nat_lt sent.place s.count ≡ true →
      place_data_at statement body ≡ Ok sent → Step 0x18 []
  data_by id rest sent one two within read =
      let said = data_said id rest sent.place sent.bytes one two in
      record {
        says = ap sets_of said;
        agree = subst (λ found. Agree statement (received.with_sent state found)
            (after_payload c (0x18 ∷ body) s)) (sym read)
            (subst (λ command. Agree statement
            (received.with_data state
            (received.more_data state.long_data sent.place sent.bytes)) (with_data command s))
            (sym said) (data_behind sent.place sent.bytes within));
      }

  data_step : (sets : List Set) → long_data_at statement state body ≡ Ok sets → Step 0x18 sets
  unfolding long_data_at prepared_data
  data_step sets e =
      let placed = λ (place : ℕ × List ℕ). must BadPlace
      (nat_lt place.0 (place_count statement.query)) >> Ok
      (record { place = place.0; bytes = place.1 }) in
      let a = bind_ok (must NotPrepared state.prepared >> place_data_at statement body) (λ sent. Ok []) sets e in
      let b = must_then NotPrepared state.prepared (place_data_at statement body) a.0 a.1 in
      let i = bind_ok (id_at statement body) (λ rest. number_or BadPlace 2 rest >>= placed) a.0 b.1 in
      let p = bind_ok (number_or BadPlace 2 i.0) placed a.0 i.2 in
      let w = must_then BadPlace (nat_lt p.0.0 (place_count statement.query))
      (Ok (record { place = p.0.0; bytes = p.0.1 })) a.0 p.2 in
      let sent : record { place = p.0.0; bytes = p.0.1 } ≡ a.0 =
      ok_is {F = StreamFault} (record { place = p.0.0; bytes = p.0.1 }) a.0 w.1 in
      subst (Step 0x18) (ok_is {F = StreamFault} [] sets a.2)
      (data_by statement.id i.0 (record { place = p.0.0; bytes = p.0.1 })
      (id_is statement body i.0 i.1) (found_is (little_at 2 i.0) BadPlace p.0 p.1)
      (ap (nat_lt p.0.0) agree.count ∙ w.0) (b.1 ∙ ap (λ (x : PlaceData). Ok x) (sym sent)))

  -- ---- resets

  reset_behind : Agree statement (received.without_data state) (after_reset s)
  reset_behind = record {
    prepared = agree.prepared;
    count = agree.count;
    types = agree.types;
    long_data = λ place. refl;
    places = λ place past. refl;
    whole = refl;
  }

  reset_said : (id : ℕ) (rest : List ℕ) → little_at 4 body ≡ Some (id, rest) → (length rest == 0) ≡
      true → sets_of (command_at c (Some s) (0x1a ∷ body)) ≡ []
  reset_said id rest one none_left =
      ap (λ found. sets_of (or_other (0x1a ∷ body) (option_map ResetStatement (all_of (or_end found))))) one
      ∙ ap (λ (b : Bool). sets_of
      (or_other (0x1a ∷ body) (option_map ResetStatement (if b then Some id else None))))
      none_left

  reset_step : (sets : List Set) → statement_alone_at statement state body ≡ Ok sets → Step 0x1a sets
  unfolding statement_alone_at
  reset_step sets e =
      let a = must_then NotPrepared state.prepared
      (id_at statement body >>= λ rest. must WrongId (length rest == 0) >> Ok []) sets e in
      let i = bind_ok (id_at statement body) (λ rest. must WrongId (length rest == 0) >> Ok []) sets a.1 in
      let m = must_then WrongId (length i.0 == 0) (Ok []) sets i.2 in
      subst (Step 0x1a) (ok_is {F = StreamFault} [] sets m.1)
      (record { says = reset_said statement.id i.0 (id_is statement body i.0 i.1) m.0; agree = reset_behind })

-- ---- one after another

-- commands about parameters have one of four numbers
pub about_by : (P : ℕ → Type 0) (number : ℕ) (a b d e : Bool) → (number == 0x17) ≡ a →
    (number == 0xfa) ≡ b → (number == 0x18) ≡ d → (number == 0x1a) ≡ e → (a || (b || (d || e))) ≡
    true → P 0x17 → P 0xfa → P 0x18 → P 0x1a → P number
about_by P number true b d e is_a is_b is_d is_e so p q r t = let same : 0x17 ≡ number =
    grind (arith, nat_tests) in subst P same p
about_by P number false true d e is_a is_b is_d is_e so p q r t = let same : 0xfa ≡ number =
    grind (arith, nat_tests) in subst P same q
about_by P number false false true e is_a is_b is_d is_e so p q r t = let same : 0x18 ≡ number =
    grind (arith, nat_tests) in subst P same r
about_by P number false false false true is_a is_b is_d is_e so p q r t = let same : 0x1a ≡ number =
    grind (arith, nat_tests) in subst P same t
about_by P number false false false false is_a is_b is_d is_e so p q r t = absurd cc

both_true : (a b : Bool) → (a && b) ≡ true → (a ≡ true) × (b ≡ true)
both_true true b e = (refl, e)
both_true false b e = absurd cc

or_left : (a b : Bool) → a ≡ true → (a || b) ≡ true
or_left true b e = refl
or_left false b e = absurd cc

or_right : (a b : Bool) → b ≡ true → (a || b) ≡ true
or_right true b e = refl
or_right false b e = e

module _ (named : IsTable column_type_number column_type_named) (c : Capabilities)
    (none : has_query_attributes c ≡ false) (statement : Statement) where
  step_is : (state : StatementState) (s : InForce) (agree : Agree statement state s)
      (payload : List ℕ) (sets : List Set) →
      (is_bulk payload ≡ true → has_bulk_operations c ≡ true) → is_about_parameters payload ≡ true
      → PayloadReadsAs statement state payload sets → StepIs c statement state s payload sets
  step_is state s agree [] sets bulks about reads = absurd reads
  step_is state s agree (number ∷ body) sets bulks about reads =
      about_by (λ n. (is_bulk (n ∷ body) ≡ true → has_bulk_operations c ≡ true) →
      PayloadReadsAs statement state (n ∷ body) sets →
      StepIs c statement state s (n ∷ body) sets) number (number == 0x17) (number == 0xfa)
      (number == 0x18) (number == 0x1a) refl refl refl refl about
      (λ b r. subst (StepIs c statement state s (0x17 ∷ body)) (sym r.2)
      (execution_step named c none statement state s agree body r.0 r.1))
      (λ b r. bulk_step named c none statement state s agree body (b refl) sets r)
      (λ b r. data_step named c none statement state s agree body sets r)
      (λ b r. reset_step named c none statement state s agree body sets r)
      bulks reads

  received_are_read : (state : StatementState) (s : InForce) (first : ℕ) (payloads : List (List ℕ))
      (reads : List (List Set)) → BulksInForce c payloads → Agree statement state s →
      list_all is_about_parameters payloads ≡ true
      → Reads statement state first payloads reads → sets_in c s payloads ≡ all_there reads
  received_are_read state s first [] [] bulks agree about nothing = refl
  received_are_read state s first [] (sets ∷ reads) bulks agree about read = elim read [ ]
  received_are_read state s first (payload ∷ payloads) [] bulks agree about read = elim read [ ]
  received_are_read state s first (payload ∷ payloads) (sets ∷ reads) bulks agree about (next here others) =
      let each = both_true (is_about_parameters payload) (list_all is_about_parameters payloads) about in
      let step = step_is state s agree payload sets
      (λ b. bulks (or_left (is_bulk payload) (list_any is_bulk payloads) b)) each.0 here.1 in
      ap (λ said. said ∷ sets_in c (after_payload c payload s) payloads) step.says
      ∙ ap (λ later. map (λ set. map Some set) sets ∷ later)
      (received_are_read (after statement state payload) (after_payload c payload s) (first + 1)
      payloads reads (λ b. bulks (or_right (is_bulk payload) (list_any is_bulk payloads) b))
      step.agree each.1 others)

pub received_commands_are_read : IsTable column_type_number column_type_named → EachIsRead
received_commands_are_read named c statement state s payload sets none bulks agree about reads =
    let step = step_is named c none statement state s agree payload sets
    (λ b. bulks (or_left (is_bulk payload) false b)) about reads in
    (step.says, step.agree)

pub received_executions_are_read : IsTable column_type_number column_type_named → ReceivedAreRead
received_executions_are_read named c statement state s first payloads reads none bulks agree about
    read = received_are_read named c none statement state s first payloads reads bulks agree about
    read
