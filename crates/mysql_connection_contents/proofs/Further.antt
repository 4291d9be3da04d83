-- Executions of a prepared statement, with long data before those that need it, read behind its
-- prepare as the sets whose values they carry.
use Rattle.std.proofs.Common.{◌≡◌, ℕ, ◌^◌, ◌<◌, ◌≤◌, List, [], ◌∷◌, ◌++◌, length, map, refl, sym, ap, subst, ◌∙◌}
use Rattle.std.specs.Prelude.{if◌then◌else◌}
use Rattle.std.specs.List.{AllByRecursion, flat_map}
use Rattle.std.proofs.lemmas.List.{map-append}
use Rattle.mysql_command_rules.specs.Cause.{max_places}
use Rattle.mysql_command_rules.specs.Commands.{pieces_from}
use Rattle.mysql_command_rules.specs.Reading.{HaveContents}
use Rattle.mysql_command_rules.specs.Sent.{SentPayload, as_execution, last_of, on_the_way, payloads_of, prepare_of}
use Rattle.mysql_command_rules.specs.Sent.{sets_of}
use Rattle.mysql_command_rules.specs.declared.road.Road.TheVariants.{Execute}
use Rattle.mysql_command_rules.proofs.ExecutionStreams.{MayBeSent, all_read}
use Rattle.mysql_command_rules.proofs.Held.{HoldsAll, contents_each, contents_in_a_row, contents_of}
use Rattle.mysql_command_rules.proofs.ReadEach.{read_each}
use Rattle.mysql_command_rules.proofs.SentSets.{sets_are}
use Rattle.mysql_receive.specs.Audit.{Reads}
use Rattle.mysql_receive.specs.InForce.{freshly_prepared}
use Rattle.mysql_receive.specs.Laws.{WrittenCellsAreHeld}
use Rattle.mysql_receive.specs.Query.{Statement, place_count}
use Rattle.mysql_receive.specs.Reading.{Set}
use Rattle.mysql_send.specs.Executions.{execution_payloads}
use Rattle.mysql_send.proofs.FurtherSets.{on_the_way_of}
use Rattle.mysql_stmt.specs.Executions.{execute_command, needs_long_data}
use Rattle.mysql_values.specs.Value.{Value}

-- what is sent behind the prepare reads as its sets, from this number on
pub record ReadBehind (statement : Statement) (first : ℕ) (rest : List SentPayload) : Type 0 where
  pub reads : List (List Set)
  pub each : Reads statement freshly_prepared first (payloads_of rest) reads
  pub contents : HaveContents (sets_of rest) (flat_map (λ sets. sets) reads)

-- ---- payloads

payloads_of_one : (id : ℕ) (values : List Value) (pieces : List (List ℕ)) (last : List ℕ) →
    payloads_of (map on_the_way pieces ++ last_of values last ∷ []) ≡ pieces ++ last ∷ []
payloads_of_one id values pieces last =
    map-append (λ (s : SentPayload). s.payload) (map on_the_way pieces) (last_of values last ∷ []) ∙
    ap (λ l. l ++ last ∷ []) (on_the_way_of pieces)

pub payloads_are : (statement : Statement) (sets : List (List Value)) →
    payloads_of (flat_map (as_execution statement) sets) ≡
    flat_map (execution_payloads statement.id) sets
payloads_are statement [] = refl
payloads_are statement (values ∷ sets) =
    map-append (λ (s : SentPayload). s.payload) (as_execution statement values) (flat_map (as_execution statement) sets)
    ∙ ap (λ l. l ++ payloads_of (flat_map (as_execution statement) sets))
    (payloads_of_one statement.id values
    (if needs_long_data values then pieces_from statement.id 0 values else [])
    (execute_command statement.id values (needs_long_data values)))
    ∙ ap (λ l. execution_payloads statement.id values ++ l) (payloads_are statement sets)

-- ---- readings

module _ (law : WrittenCellsAreHeld) (statement : Statement) (small : statement.id < 2 ^ 32)
    (room : ℕ) (few : place_count statement.query ≤ max_places) where
  all_held : (sets : List (List Value)) →
      AllByRecursion (MayBeSent law statement small room few) sets → AllByRecursion HoldsAll sets
  all_held [] may = tt
  all_held (values ∷ sets) may = (may.0.each, all_held sets may.1)

  pub further_behind : (sets : List (List Value)) →
      AllByRecursion (MayBeSent law statement small room few) sets →
      length (flat_map (as_execution statement) sets) < 2 ^ 64 →
      ReadBehind statement 0 (flat_map (as_execution statement) sets)
  further_behind sets may short =
      let sent = flat_map (as_execution statement) sets in
      let its : sets_of sent ≡ sets = sets_are Execute statement room sets (prepare_of statement ∷ sent) refl in
      record {
        reads = contents_of sent;
        each = read_each statement freshly_prepared sent
            (all_read law statement small room few freshly_prepared sets
            (record { prepared = refl; none = λ place. refl }) may).reads short;
        contents = contents_in_a_row sent (contents_of sent)
            (contents_each sent (subst (AllByRecursion HoldsAll) (sym its) (all_held sets may)));
      }
