-- Each payload that is sent of sets without a cause is within the limit with its header.
use Rattle.std.proofs.Common.{◌≡◌, ℕ, ◌+◌, ◌-◌, ◌≤◌, ◌==◌, List, [], ◌∷◌, length, map, Option, None, Ok, sym, subst}
use Rattle.std.specs.List.{AllByRecursion, flat_map}
use Rattle.std.specs.Option.{option_or}
use Rattle.mysql_values.specs.Value.{Value}
use Rattle.mysql_bulk_builder.specs.TypedCut.{IsTightTyped, Part, placed}
use Rattle.mysql_receive.specs.Query.{Statement, place_count}
use Rattle.mysql_stmt.specs.Executions.{needs_long_data}
use Rattle.mysql_command_rules.specs.declared.refusal.Refusal.{Refusal}
use Rattle.mysql_command_rules.specs.declared.refusal.Refusal.TheVariants as refusals
use Rattle.mysql_command_rules.specs.declared.road.Road.{Road}
use Rattle.mysql_command_rules.specs.declared.road.Road.TheVariants.{Text, Execute, Bulk}
use Rattle.mysql_command_rules.specs.Cause.{cause_if, first_of_sets, prepare_cause, query_cause, set_cause, sets_cause}
use Rattle.mysql_command_rules.specs.Laws.{RequestsHaveTheirSize, SentPayloadsFit}
use Rattle.mysql_command_rules.specs.Sent.{AreSent, SentPayload, as_execution, payloads_of, prepare_of, whole_command}
use Rattle.mysql_command_rules.specs.Sets.{values_of}
use Rattle.mysql_command_rules.proofs.Contents.{good, neither, short_each}
use Rattle.mysql_command_rules.proofs.Executable.{preparable}
use Rattle.mysql_command_rules.proofs.ExecutionSizes.{Within, one_within, within_append}
use Rattle.mysql_command_rules.proofs.Queries.{payloads_are}
use Rattle.mysql_command_rules.proofs.RequestStreams.{all_fit, short_requests}

-- payloads that are short, with the sets beside them
beside_sets : (most : ℕ) (sent : List SentPayload) → Within most (payloads_of sent) →
    AllByRecursion (λ s. length s.payload ≤ most) sent
beside_sets most [] short = tt
beside_sets most (s ∷ sent) short = (short.0, beside_sets most sent short.1)

-- the executions of sets against which nothing speaks
executions_within : (most number : ℕ) (statement : Statement) (sets : List (List Value)) →
    first_of_sets (set_cause (whole_command Execute statement) (place_count statement.query) most)
    number (map Ok sets) ≡ None
    → Within most (payloads_of (flat_map (as_execution statement) sets))
executions_within most number statement [] none = tt
executions_within most number statement (values ∷ sets) none =
    let command : List Value → List ℕ = whole_command Execute statement in
    let places : ℕ = place_count statement.query in
    let parts = neither (set_cause command places most number (Ok values))
    (first_of_sets (set_cause command places most) (number + 1) (map Ok sets)) none in
    within_append most (as_execution statement values) (flat_map (as_execution statement) sets)
    (one_within most statement.id values (needs_long_data values)
    (good command places most number values parts.0).short)
    (executions_within most (number + 1) statement sets parts.1)

-- a prepare against which nothing speaks
prepare_within : (statement : Statement) (most : ℕ) → prepare_cause statement.query most ≡ None →
    length (prepare_of statement).payload ≤ most
prepare_within statement most none = (preparable statement.query most none).short

-- what is sent by each road
within : RequestsHaveTheirSize →
    (road : Road) (statement : Statement) (limit : ℕ) (values : List (List Value))
    (sent : List SentPayload) → query_cause road statement (limit - 4) ≡ None
    → first_of_sets (set_cause (whole_command road statement) (place_count statement.query)
    (limit - 4)) 0 (map Ok values) ≡ None → AreSent road statement (limit - 4) values sent →
    Within (limit - 4) (payloads_of sent)
within sizes Text statement limit values sent query none are =
    subst (λ (l : List SentPayload). Within (limit - 4) (payloads_of l)) (sym are)
    (subst (λ (l : List (List ℕ)). Within (limit - 4) l) (sym (payloads_are statement values))
    (short_each (whole_command Text statement) (place_count statement.query) (limit - 4) 0
    values none))
within sizes Execute statement limit values sent query none are =
    subst (λ (l : List SentPayload). Within (limit - 4) (payloads_of l)) (sym are) (
      prepare_within statement (limit - 4) query,
      executions_within (limit - 4) 0 statement values none,
    )
within sizes Bulk statement limit values sent query none are =
    let columns : ℕ = place_count statement.query in
    let cut : List Part = are.0 in
    let tight : IsTightTyped (limit - 4) columns values cut = are.1 in
    let prepare = neither (prepare_cause statement.query (limit - 4))
    (cause_if (columns == 0) refusals.NoPlaces) query in
    subst (λ (l : List SentPayload). Within (limit - 4) (payloads_of l)) (sym are.2) (
      prepare_within statement (limit - 4) prepare.0,
      short_requests (limit - 4) statement.id columns values sizes 0 cut
          (all_fit (limit - 4) statement.id columns values (placed cut) tight.parts_tight),
    )

pub sent_payloads_fit : RequestsHaveTheirSize → SentPayloadsFit
sent_payloads_fit sizes road statement limit values sent none are =
    let first : Option Refusal =
    first_of_sets (set_cause (whole_command road statement) (place_count statement.query)
    (limit - 4)) 0 (map Ok values) in
    let together : Option Refusal =
    option_or (sets_cause road statement (limit - 4) (values_of (map Ok values))) None in
    let parts = neither (query_cause road statement (limit - 4)) (option_or first together) none in
    let each = neither first together parts.1 in
    beside_sets (limit - 4) sent (within sizes road statement limit values sent parts.0 each.0 are)
