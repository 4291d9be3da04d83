-- As long as a statement stays it has as many parameters as the server's answer to its prepare said.
use Rattle.std.proofs.Common.{◌≡◌, ℕ, ◌<◌, Bool, true, false, List, [], ◌∷◌, ◌++◌, Option, Some, Ok, refl, sym, ap}
use Rattle.std.proofs.Common.{subst, ◌∙◌, arith}
use Rattle.std.specs.Prelude.{◌==◌, if◌then◌else◌}
use Rattle.std.specs.List.{AllByRecursion}
use Rattle.std.specs.Option.{option_and_then, option_map}
use Rattle.std.proofs.lemmas.Bool.Decides.{nat_tests}
use Rattle.mysql_commands.specs.Commands.{Command, LongData, command_at}
use Rattle.mysql_const.specs.declared.capabilities.Capabilities.{Capabilities}
use Rattle.mysql_connection_contents.specs.Contents.{IdsAreOwn, IsSettled, Leaves, Spoke, Spoken, Stands, is_about}
use Rattle.mysql_connection_contents.specs.PacketLaws.{CountsAreChecked}
use Rattle.mysql_connection_contents.specs.Records.{MachinesHearWhatTheyPut}
use Rattle.mysql_connection_contents.proofs.Commands.{either}
use Rattle.mysql_connection_contents.proofs.Ids.{step_ids}
use Rattle.mysql_connection_contents.proofs.Prepared.{ids_begin_own, prepared_goes}
use Rattle.mysql_connection_contents.proofs.Runs.{heard_spoken}
use Rattle.mysql_connection_contents.proofs.Steps.{step_behaves}
use Rattle.mysql_connection_contents.proofs.Streams.{heard_from}
use Rattle.mysql_connection_machine.specs.Machines.{statement_meant}
use Rattle.mysql_connection_recoding.specs.Agreement.{after_bulk, after_payload, with_data}
use Rattle.mysql_connection_rules.specs.Standing.{Standing}
use Rattle.mysql_connection_rules.specs.Steps.{step}
use Rattle.mysql_connection_rules.specs.Streams.{numbered, start}
use Rattle.mysql_connection_rules.specs.declared.side.Side.TheVariants.{Client, Server}
use Rattle.mysql_connection_statements.specs.Statements.{Statement, Statements, last_prepared, statement_at}
use Rattle.mysql_executions.specs.After.{after_execution, after_reset, bulk_types, execution_types}
use Rattle.mysql_executions.specs.After.{freshly_prepared}
use Rattle.mysql_executions.specs.InForce.{InForce}
use Rattle.mysql_executions.specs.Types.{has_bulk_operations, unnamed}

-- ---- a command leaves the number of parameters

abbrev Counts : ℕ → InForce → Type 0
Counts count p = p.count ≡ count

data_counts : (command : Command) (p : InForce) (count : ℕ) → Counts count p → Counts count (with_data command p)
data_counts (LongData id place bytes) p count is = is
data_counts command p count is = is

bulk_counts : (c : Capabilities) (body : List ℕ) (p : InForce) (count : ℕ) → Counts count p →
    Counts count (after_bulk c body p)
bulk_counts c body p count is =
    either (Counts count) (has_bulk_operations c) (after_execution (unnamed (bulk_types p.count body)) p) p
    (λ h. is) (λ h. is)

payload_counts : (c : Capabilities) (payload : List ℕ) (p : InForce) (count : ℕ) → Counts count p →
    Counts count (after_payload c payload p)
payload_counts c [] p count is = is
payload_counts c (number ∷ body) p count is =
    let command = command_at c (Some p) (number ∷ body) in
    let executed = after_execution (unnamed (execution_types c p.count body)) p in
    let reset = if number == 0x1a then after_reset p else p in
    let waiting = if number == 0x18 then with_data command p else reset in
    let bulk = if number == 0xfa then after_bulk c body p else waiting in
    either (Counts count) (number == 0x17) executed bulk (λ h. is)
    (λ h. either (Counts count) (number == 0xfa) (after_bulk c body p) waiting (λ h. bulk_counts c body p count is)
    (λ h. either (Counts count) (number == 0x18) (with_data command p) reset (λ h. data_counts command p count is)
    (λ h. either (Counts count) (number == 0x1a) (after_reset p) p (λ h. is) (λ h. is))))

-- ---- payloads by which the statement stays

record Counted (s : Standing) (id count : ℕ) : Type 0 where
  pub parameters : InForce
  pub stands : Stands s.statements id parameters
  pub counts : Counts count parameters

count_stays : (id count : ℕ) (xs : List Spoken) (s last : Standing) → Spoke s xs last → IsSettled s →
    Counted s id count → AllByRecursion (Leaves id) xs → Counted last id count
count_stays id count [] s last spoke settled counted leave = subst (λ (t : Standing). Counted t id count) spoke counted
count_stays id count (x ∷ xs) s last spoke settled counted leave =
    let now = x.standing in
    let p = counted.parameters in
    let same : now ≡ s = spoke.0 in
    let mid = spoke.1.0 in
    let read_step : step now x.payload ≡ Ok (x.event, mid) = ap (λ t. step t x.payload) same ∙ spoke.1.1 in
    let settled_now = subst IsSettled (sym same) settled in
    let stands_now = subst (λ (t : Standing). Stands t.statements id p) (sym same) counted.stands in
    let behaves = step_behaves now id p stands_now x.payload x.event mid settled_now leave.0 read_step in
    let behind = after_payload now.capabilities x.payload p in
    let next : Standing = numbered x.side x.number mid in
    let settled_next : IsSettled next = record {
      logged_in = behaves.goes.logged_in;
      own_ids = step_ids now x.payload x.event mid settled_now.own_ids read_step;
    } in
    let counted_next : Counted next id count = record {
      parameters = if is_about id x then behind else p;
      stands = behaves.goes.stands;
      counts = either (Counts count) (is_about id x) behind p
          (λ h. payload_counts now.capabilities x.payload p count counted.counts) (λ h. counted.counts);
    } in
    count_stays id count xs next last spoke.1.2 settled_next counted_next leave.1

-- ---- the number that is compared

meant_by : (s : Statements) (id : ℕ) (test : Bool) → (id == last_prepared) ≡ test → id < last_prepared →
    option_and_then (statement_at s) (if test then s.last else Some id) ≡ statement_at s id
meant_by s id true is small = absurd (grind (arith, nat_tests))
meant_by s id false is small = refl

abbrev count_of : Statement → ℕ
count_of s = s.parameters.count

number_in : (a b : ℕ) → ◌≡◌ {A = Option ℕ} (Some a) (Some b) → a ≡ b
number_in a b e = cc

counted_is : (s : Standing) (id count places : ℕ) → id < last_prepared → Counted s id count →
    option_map count_of (statement_meant s.statements id) ≡ Some places → count ≡ places
counted_is s id count places small counted compared =
    let found : statement_meant s.statements id ≡ Some counted.stands.statement =
    meant_by s.statements id (id == last_prepared) refl small ∙ counted.stands.found in
    let its : count_of counted.stands.statement ≡ count =
    ap (λ (p : InForce). p.count) counted.stands.parameters ∙ counted.counts in
    sym its ∙ number_in (count_of counted.stands.statement) places
    (sym (ap (option_map count_of) found) ∙ compared)

pub counts_are_checked : MachinesHearWhatTheyPut → CountsAreChecked
counts_are_checked hear begun streams before behind answer old new id count places used packets out appended
    small begins spoken prepares leave few puts =
    let heard = hear Client Server begun streams (before ++ answer ∷ behind) old.world small spoken in
    let from = heard_from before answer behind (start begun streams) old.world (ids_begin_own begun begins) heard in
    let v = from.0 in
    let spoke : Spoke v.standing (answer ∷ behind) old.world.standing =
    heard_spoken (answer ∷ behind) v old.world from.2 in
    let same : answer.standing ≡ v.standing = spoke.0 in
    let mid = spoke.1.0 in
    let read_step : step answer.standing answer.payload ≡ Ok (answer.event, mid) =
    ap (λ s. step s answer.payload) same ∙ spoke.1.1 in
    let own = subst (λ (s : Standing). IdsAreOwn s) (sym same) from.1 in
    let made = prepared_goes id count answer.standing answer.payload answer.event mid read_step prepares in
    let next : Standing = numbered answer.side answer.number mid in
    let settled : IsSettled next = record {
      logged_in = made.logged_in;
      own_ids = step_ids answer.standing answer.payload answer.event mid own read_step;
    } in
    let counted : Counted next id count =
    record { parameters = freshly_prepared count; stands = made.stands; counts = refl } in
    counted_is old.world.standing id count places few
    (count_stays id count behind next old.world.standing spoke.1.2 settled counted leave) puts.0
