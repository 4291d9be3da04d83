-- What is said of one statement on a connection, payload by payload.
use Rattle.std.proofs.Common.{◌≡◌, ℕ, ◌+◌, Bool, true, false, cond, List, [], ◌∷◌, Some, Ok, refl, sym, ap, subst, ◌∙◌}
use Rattle.std.specs.Prelude.{if◌then◌else◌, ◌||◌, map}
use Rattle.std.specs.List.{AllByRecursion, filter, list_any}
use Rattle.mysql_commands.specs.Commands.{command_at}
use Rattle.mysql_const.specs.declared.capabilities.Capabilities.{Capabilities}
use Rattle.mysql_connection_rules.specs.Standing.{Standing}
use Rattle.mysql_connection_rules.specs.Steps.{id_in_question, step}
use Rattle.mysql_connection_rules.specs.Streams.{numbered}
use Rattle.mysql_executions.specs.InForce.{InForce}
use Rattle.mysql_executions.specs.Types.{has_bulk_operations, has_query_attributes}
use Rattle.mysql_connection_recoding.specs.Agreement.{Agree, BulksInForce, EachIsRead, after_payload, all_there}
use Rattle.mysql_connection_recoding.specs.Agreement.{is_about_parameters, is_bulk, sets_of}
use Rattle.mysql_receive.specs.Audit.{Reads}
use Rattle.mysql_receive.specs.Audit.Reads.{next}
use Rattle.mysql_receive.specs.InForce.{StatementState}
use Rattle.mysql_receive.specs.Query.{Statement as ReceivedStatement}
use Rattle.mysql_receive.specs.Reading.{Set}
use Rattle.mysql_connection_contents.specs.Contents.{ConnectionExecutionsAreReceived, IsSettled, Leaves, Spoke, Spoken}
use Rattle.mysql_connection_contents.specs.Contents.{Stands, is_about, is_due, is_id, payloads_about, sets_about}
use Rattle.mysql_connection_contents.specs.Contents.{sets_said}
use Rattle.mysql_connection_contents.proofs.Ids.{step_ids}
use Rattle.mysql_connection_contents.proofs.Statements.{both}
use Rattle.mysql_connection_contents.proofs.Steps.{step_behaves}

first_or : (a b : Bool) → (a || false) ≡ true → (a || b) ≡ true
first_or true b e = refl
first_or false b e = absurd cc

or_right : (a b : Bool) → b ≡ true → (a || b) ≡ true
or_right true b e = refl
or_right false b e = e

module _ (each : EachIsRead) (statement : ReceivedStatement) (c : Capabilities)
    (none : has_query_attributes c ≡ false) where
  -- a payload that is about the statement is read as its first, and others leave what was read
  joined : (about : Bool) (x : Spoken) (xs : List Spoken) (p : InForce) (state : StatementState)
      (first : ℕ) (reads : List (List Set)) → Agree statement state p →
      (about ≡ true → is_about_parameters x.payload ≡ true)
      → (about ≡ true → sets_said x.event ≡ sets_of (command_at c (Some p) x.payload))
      → ((later : StatementState) (number : ℕ) (others : List (List Set)) →
      BulksInForce c (map (λ x. x.payload) xs) →
      Agree statement later (if about then after_payload c x.payload p else p) →
      Reads statement later number (map (λ x. x.payload) xs) others →
      map (λ x. sets_said x.event) xs ≡ all_there others)
      → BulksInForce c (map (λ x. x.payload) (cond about (x ∷ xs) xs)) →
      Reads statement state first (map (λ x. x.payload) (cond about (x ∷ xs) xs)) reads →
      map (λ x. sets_said x.event) (cond about (x ∷ xs) xs) ≡ all_there reads
  joined false x xs p state first reads agree is says later bulks read = later state first reads bulks agree read
  joined true x xs p state first [] agree is says later bulks read = elim read [ ]
  joined true x xs p state first (sets ∷ reads) agree is says later bulks (next here others) =
      let rest = list_any is_bulk (map (λ (y : Spoken). y.payload) xs) in
      let e = each c statement state p x.payload sets none
      (λ b. bulks (first_or (is_bulk x.payload) rest b)) agree (is refl) here.1 in
      ap (λ said. said ∷ map (λ x. sets_said x.event) xs) (says refl ∙ e.0) ∙
      ap (λ more. map (λ set. map Some set) sets ∷
      more) (later _ (first + 1) reads (λ b. bulks (or_right (is_bulk x.payload) rest b)) e.1
      others)

none_read : (statement : ReceivedStatement) (state : StatementState) (first : ℕ)
    (reads : List (List Set)) → Reads statement state first [] reads → [] ≡ all_there reads
none_read statement state first [] read = refl
none_read statement state first (sets ∷ reads) read = elim read [ ]

module _ (each : EachIsRead) (statement : ReceivedStatement) (id : ℕ) where
  said_of : (xs : List Spoken) (s last : Standing) (p : InForce) (state : StatementState)
      (first : ℕ) (reads : List (List Set)) → Spoke s xs last → IsSettled s →
      Stands s.statements id p → Agree statement state p
      → has_query_attributes s.capabilities ≡ false →
      BulksInForce s.capabilities (payloads_about id xs) → AllByRecursion (Leaves id) xs →
      Reads statement state first (payloads_about id xs) reads → sets_about id xs ≡
      all_there reads
  said_of [] s last p state first reads spoke settled stands agree none bulks leave read =
      none_read statement state first reads read
  said_of (x ∷ xs) s last p state first reads spoke settled stands agree none bulks leave read =
      let now = x.standing in
      let same : now ≡ s = spoke.0 in
      let mid = spoke.1.0 in
      let read_step : step now x.payload ≡ Ok (x.event, mid) = ap (λ t. step t x.payload) same ∙ spoke.1.1 in
      let settled_now = subst IsSettled (sym same) settled in
      let stands_now = subst (λ (t : Standing). Stands t.statements id p) (sym same) stands in
      let behaves = step_behaves now id p stands_now x.payload x.event mid settled_now leave.0 read_step in
      let c : mid.capabilities ≡ s.capabilities = behaves.goes.capabilities ∙
      ap (λ (t : Standing). t.capabilities) same in
      let settled_mid : IsSettled (numbered x.side x.number mid) =
      record {
        logged_in = behaves.goes.logged_in;
        own_ids =
            step_ids now x.payload x.event mid settled_now.own_ids read_step;
      } in
      let capabilities_now : now.capabilities ≡ s.capabilities = ap (λ (t : Standing). t.capabilities) same in
      joined each statement now.capabilities (ap has_query_attributes capabilities_now ∙ none)
      (is_about id x) x (filter (is_about id) xs) p state first reads agree
      (λ about. (both (is_about_parameters x.payload)
      (is_id (id_in_question now.statements x.payload) id)
      (both (is_due now.phase) _ about).1).0)
      behaves.says
      (λ later number others later_bulks agrees reading. said_of xs (numbered x.side x.number mid)
      last _ later number others spoke.1.2 settled_mid behaves.goes.stands agrees
      (ap has_query_attributes c ∙
      none) (λ b. ap has_bulk_operations behaves.goes.capabilities ∙ later_bulks b) leave.1
      reading)
      (λ b. ap has_bulk_operations capabilities_now ∙ bulks b) read

pub connection_executions_are_received : EachIsRead → ConnectionExecutionsAreReceived
connection_executions_are_received each s last xs id p statement state first reads spoke settled
    stands agree none bulks leave read =
    said_of each statement id xs s last p state first reads spoke settled stands agree none bulks leave read
