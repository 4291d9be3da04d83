-- A prepare and executions, with long data before those that need it, read as the sets whose values they carry.
use Rattle.std.proofs.Common.{◌≡◌, ℕ, ◌-◌, ◌^◌, ◌<◌, ◌≤◌, Bool, true, false, List, [], ◌∷◌, length, map, None, Ok, refl}
use Rattle.std.proofs.Common.{sym, subst, arith, le_trans}
use Rattle.std.specs.List.{AllByRecursion, flat_map}
use Rattle.std.specs.Option.{option_or}
use Rattle.mysql_values.specs.Value.{Value}
use Rattle.mysql_stmt.specs.Executions.{execute_command, needs_long_data}
use Rattle.mysql_receive.specs.InForce.{StatementState, after, nothing_yet, state_after}
use Rattle.mysql_receive.specs.Laws.{WrittenCellsAreHeld}
use Rattle.mysql_receive.specs.Query.{Statement, place_count, statement_of}
use Rattle.mysql_command_rules.specs.declared.road.Road.TheVariants.{Execute}
use Rattle.mysql_command_rules.specs.Cause.{first_of_sets, max_places, prepare_cause, set_cause}
use Rattle.mysql_command_rules.specs.Commands.{pieces_from, prepare_command}
use Rattle.mysql_command_rules.specs.Laws.{SentPayloadsRead}
use Rattle.mysql_command_rules.specs.Sent.{SentPayload, as_execution, last_of, on_the_way, payloads_of, prepare_of}
use Rattle.mysql_command_rules.specs.Sent.{whole_command}
use Rattle.mysql_command_rules.proofs.Contents.{neither}
use Rattle.mysql_command_rules.proofs.Executable.{IsPreparable, IsSendable, all_sendable, preparable}
use Rattle.mysql_command_rules.proofs.ExecutionSizes.{Within, one_within, sent_as, within_append}
use Rattle.mysql_command_rules.proofs.Executions.{execution_reads, nothing_apart}
use Rattle.mysql_command_rules.proofs.Held.{held}
use Rattle.mysql_command_rules.proofs.LongData.{AfterPieces, after_pieces}
use Rattle.mysql_command_rules.proofs.Preparing.{FreshlyPrepared, prepare_leaves, prepare_reads}
use Rattle.mysql_command_rules.proofs.ReadEach.{ReadFrom, not_waiting, read_behind, read_each, state_behind}
use Rattle.mysql_command_rules.proofs.SentSets.{ReadsHeld, reads_contents}
use Rattle.mysql_command_rules.proofs.States.{IsReady, execution_leaves}

module _ (law : WrittenCellsAreHeld) (statement : Statement) (small : statement.id < 2 ^ 32)
    (room : ℕ) (few : place_count statement.query ≤ max_places) where
  -- a set reads, and leaves the statement as it was
  pub record ReadsOn (s : StatementState) (sent : List SentPayload) : Type 0 where
    pub reads : ReadFrom statement s sent
    pub ready : IsReady (state_after statement s (payloads_of sent))

  -- values of a set of the statement that may be sent
  abbrev pub MayBeSent : List Value → Type 0
  MayBeSent values = IsSendable (whole_command Execute statement) (place_count statement.query) room values

  -- a set as an execution reads on
  one_reads : (apart : Bool) (s : StatementState) (values : List Value) → IsReady s →
      MayBeSent values → ReadsOn s (sent_as apart statement.id values)
  one_reads false s values ready may = record {
    reads = (
      execution_reads law statement s false statement.id values (map held values)
          ready.prepared (nothing_apart s.long_data ready.none 0 values) small refl (sym may.count)
          may.fit may.each,
      tt,
    );
    ready = execution_leaves statement s statement.id values false ready.prepared;
  }
  one_reads true s values ready may =
      let pieces : List SentPayload = map on_the_way (pieces_from statement.id 0 values) in
      let last : List SentPayload = last_of values (execute_command statement.id values true) ∷ [] in
      let t : StatementState = state_after statement s (payloads_of pieces) in
      let count : place_count statement.query ≡ length values = sym may.count in
      let waiting : AfterPieces statement s 0 values pieces =
      after_pieces statement statement.id small refl s 0 values ready.prepared
      (λ k above. ready.none k) (omega (arith, count, few)) (omega (arith, count)) in
      record {
        reads = read_behind statement s pieces last waiting.reads (
          execution_reads law statement t true statement.id values (map held values)
              waiting.prepared waiting.waits small refl count may.fit may.each,
          tt,
        );
        ready = subst (λ (u : StatementState). IsReady u)
            (sym (state_behind statement s pieces last))
            (execution_leaves statement t statement.id values true waiting.prepared);
      }

  -- sets as executions read on
  pub all_read : (s : StatementState) (sets : List (List Value)) → IsReady s →
      AllByRecursion MayBeSent sets → ReadsOn s (flat_map (as_execution statement) sets)
  all_read s [] ready may = record { reads = tt; ready = ready }
  all_read s (values ∷ sets) ready may =
      let first : ReadsOn s (as_execution statement values) = one_reads (needs_long_data values) s values ready may.0 in
      let t : StatementState = state_after statement s (payloads_of (as_execution statement values)) in
      let later : ReadsOn t (flat_map (as_execution statement) sets) = all_read t sets first.ready may.1 in
      record {
        reads = read_behind statement s (as_execution statement values)
            (flat_map (as_execution statement) sets) first.reads later.reads;
        ready = subst (λ (u : StatementState). IsReady u)
            (sym (state_behind statement s (as_execution statement values)
            (flat_map (as_execution statement) sets))) later.ready;
      }

  -- the payloads of sets are within the limit
  all_within : (most : ℕ) (sets : List (List Value)) → room ≤ most → AllByRecursion MayBeSent sets →
      Within most (payloads_of (flat_map (as_execution statement) sets))
  all_within most [] enough may = tt
  all_within most (values ∷ sets) enough may =
      within_append most (as_execution statement values) (flat_map (as_execution statement) sets)
      (one_within most statement.id values (needs_long_data values) (le_trans may.0.short enough))
      (all_within most sets enough may.1)

  -- behind the prepare
  module _ (most : ℕ) (enough : room ≤ most) (short : length (prepare_command statement.query.parsed) ≤ room)
      (sets : List (List Value)) (may : AllByRecursion MayBeSent sets) where
    -- what is sent of sets: the prepare and the executions
    abbrev all_sent : List SentPayload
    all_sent = prepare_of statement ∷ flat_map (as_execution statement) sets

    -- it reads from the start on
    whole : ReadsOn nothing_yet all_sent
    whole =
        let t : StatementState = after statement nothing_yet (prepare_command statement.query.parsed) in
        let fresh : FreshlyPrepared t = prepare_leaves statement nothing_yet statement.query.parsed refl in
        let later : ReadsOn t (flat_map (as_execution statement) sets) =
        all_read t sets (record { prepared = fresh.prepared; none = fresh.long_data }) may in
        record {
          reads = (
            prepare_reads statement nothing_yet statement.query.parsed refl few,
            later.reads,
          );
          ready = later.ready;
        }

    -- and each payload as the sets that stand whole with it
    reads_each : ReadsHeld statement most all_sent
    reads_each = record {
      within = (le_trans short enough, all_within most sets enough may);
      each = λ bounded. read_each statement nothing_yet all_sent whole.reads bounded;
      ends = not_waiting statement (state_after statement nothing_yet (payloads_of all_sent)) whole.ready.none;
    }

-- what is sent of sets without a cause reads as these sets
pub executions_are_read : WrittenCellsAreHeld → SentPayloadsRead Execute
executions_are_read law query tokens id limit sets sent has small room none are fit =
    let statement : Statement = statement_of query tokens id in
    let places : ℕ = place_count statement.query in
    let first_cause = first_of_sets (set_cause (whole_command Execute statement) places (limit - 4)) 0 (map Ok sets) in
    let parts = neither (prepare_cause statement.query (limit - 4))
    (option_or first_cause (option_or None None)) none in
    let of_sets = neither first_cause (option_or None None) parts.1 in
    let may_prepare : IsPreparable statement.query (limit - 4) = preparable statement.query (limit - 4) parts.0 in
    let reads : ReadsHeld statement limit (prepare_of statement ∷ flat_map (as_execution statement) sets) =
    reads_each law statement small (limit - 4) may_prepare.few limit (sub_le limit 4) may_prepare.short sets
    (all_sendable (whole_command Execute statement) places (limit - 4) 0 sets of_sets.0 fit) in
    reads_contents Execute statement (limit - 4) sets sent are (whole_command Execute statement)
    places (limit - 4) of_sets.0 statement limit
    (subst (λ l. ReadsHeld statement limit l) (sym are) reads)
  where
    sub_le : (n k : ℕ) → n - k ≤ n
    sub_le n k = omega arith
