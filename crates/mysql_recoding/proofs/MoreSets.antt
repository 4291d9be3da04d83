-- Sets that are sent one behind the other: what is appended of them, and the first cause against them.
use Rattle.std.proofs.Common.{◌≡◌, ℕ, ◌+◌, ◌-◌, List, [], ◌∷◌, ◌++◌, length, map, Option, Some, None, Ok, refl, ◌∙◌, ap}
use Rattle.std.proofs.Common.{arith}
use Rattle.std.specs.List.{flat_map}
use Rattle.std.specs.Option.{option_or}
use Rattle.std.proofs.lemmas.Grind.{flat_map-append}
use Rattle.std.proofs.lemmas.List.{length-map, map-append}
use Rattle.mysql_wire.specs.Framing.{framing}
use Rattle.mysql_wire.specs.Stream.{framings}
use Rattle.mysql_wire.specs.Stream.Numbering.{EachFromZero}
use Rattle.mysql_values.specs.Contents.{content_value}
use Rattle.mysql_values.specs.Value.{Value}
use Rattle.mysql_receive.specs.Reading.{Set}
use Rattle.mysql_receive.specs.Query.{Statement}
use Rattle.mysql_command_rules.specs.declared.refusal.Refusal.{Refusal}
use Rattle.mysql_command_rules.specs.Cause.{first_of_sets, set_cause}
use Rattle.mysql_command_rules.specs.Commands.{prepare_command}
use Rattle.mysql_command_rules.specs.Sent.{SentPayload, as_execution, on_the_way, payloads_of, prepare_of}
use Rattle.mysql_command_rules.specs.Sets.{Given}
use Rattle.mysql_send.specs.Executions.{execution_payloads, whole_execution}
use Rattle.mysql_recoding.specs.AsItComes.{executions, executions_cause}
use Rattle.mysql_recoding.specs.Causes.{values_of_sets}
use Rattle.mysql_recoding.proofs.JoinedRecodings.{framings_joined, values_joined}

-- ---- causes

or_or : {X : Type 0} (first second third : Option X) → option_or first (option_or second third) ≡
    option_or (option_or first second) third
or_or None second third = refl
or_or (Some answer) second third = refl

-- the first cause over sets and others behind them
first_of_joined : (cause : ℕ → Given → Option Refusal) (number : ℕ) (sets others : List Given)
    → first_of_sets cause number (sets ++ others) ≡
    option_or (first_of_sets cause number sets)
    (first_of_sets cause (number + length sets) others)
first_of_joined cause number [] others = ap (λ (n : ℕ). first_of_sets cause n others) (omega arith)
first_of_joined cause number (set ∷ sets) others =
    ap (λ rest. option_or (cause number set) rest) (first_of_joined cause (number + 1) sets others)
    ∙ or_or (cause number set) (first_of_sets cause (number + 1) sets)
    (first_of_sets cause (number + 1 + length sets) others)
    ∙ ap (λ (n : ℕ). option_or
    (option_or (cause number set) (first_of_sets cause (number + 1) sets))
    (first_of_sets cause n others)) (omega arith)

-- what sets of values give
abbrev given : List Value → Given
given values = Ok values

given_joined : (sets others : List Set) → map given (values_of_sets (sets ++ others)) ≡
    map given (values_of_sets sets) ++ map given (values_of_sets others)
given_joined sets others = ap (map given) (values_joined sets others) ∙
    map-append given (values_of_sets sets) (values_of_sets others)

given_count : (sets : List Set) → length (map given (values_of_sets sets)) ≡ length sets
given_count sets = length-map (values_of_sets sets) given ∙ length-map sets (map content_value)

-- the first cause against sets and others behind them
pub cause_joined : (id places limit number : ℕ) (sets others : List Set)
    → executions_cause id places limit number (sets ++ others) ≡
    option_or (executions_cause id places limit number sets)
    (executions_cause id places limit (number + length sets) others)
cause_joined id places limit number sets others =
    let cause : ℕ → Given → Option Refusal = set_cause (whole_execution id) places (limit - 4) in
    ap (λ l. first_of_sets cause number l) (given_joined sets others)
    ∙ first_of_joined cause number (map given (values_of_sets sets)) (map given (values_of_sets others))
    ∙ ap (λ (n : ℕ). option_or (first_of_sets cause number (map given (values_of_sets sets)))
    (first_of_sets cause (number + n) (map given (values_of_sets others)))) (given_count sets)

-- ---- bytes

-- the executions of sets and of others behind them
pub executions_joined : (id : ℕ) (sets others : List Set) → executions id (sets ++ others) ≡
    executions id sets ++ executions id others
executions_joined id sets others =
    ap (λ l. framings (flat_map (execution_payloads id) l) EachFromZero) (values_joined sets others)
    ∙ ap (λ l. framings l EachFromZero)
    (flat_map-append (execution_payloads id) (values_of_sets sets) (values_of_sets others))
    ∙ framings_joined (flat_map (execution_payloads id) (values_of_sets sets))
    (flat_map (execution_payloads id) (values_of_sets others))

-- payloads that are no set's last
on_the_way_of : (pieces : List (List ℕ)) → payloads_of (map on_the_way pieces) ≡ pieces
on_the_way_of [] = refl
on_the_way_of (piece ∷ pieces) = ap (λ l. piece ∷ l) (on_the_way_of pieces)

-- the payloads of what is sent behind other payloads
payloads_joined : (first second : List SentPayload) → payloads_of (first ++ second) ≡
    payloads_of first ++ payloads_of second
payloads_joined first second = map-append (λ (s : SentPayload). s.payload) first second

-- the payloads of one set
payloads_of_one : (pieces : List (List ℕ)) (last : SentPayload) →
    payloads_of (map on_the_way pieces ++ last ∷ []) ≡ pieces ++ last.payload ∷ []
payloads_of_one pieces last = payloads_joined (map on_the_way pieces) (last ∷ []) ∙
    ap (λ l. l ++ last.payload ∷ []) (on_the_way_of pieces)

-- the payloads of all sets
pub execution_payloads_of : (statement : Statement) (sets : List (List Value)) →
    payloads_of (flat_map (as_execution statement) sets) ≡
    flat_map (execution_payloads statement.id) sets
execution_payloads_of statement [] = refl
execution_payloads_of statement (values ∷ sets) =
    payloads_joined (as_execution statement values) (flat_map (as_execution statement) sets)
    ∙ ap (λ l. l ++ payloads_of (flat_map (as_execution statement) sets)) (payloads_of_one _ _)
    ∙ ap (λ l. execution_payloads statement.id values ++ l) (execution_payloads_of statement sets)

-- the framings of the prepare and of the executions of sets
pub canonical_parts : (statement : Statement) (sets : List Set)
    → framings (payloads_of (prepare_of statement ∷
    flat_map (as_execution statement) (values_of_sets sets))) EachFromZero ≡
    framing (prepare_command statement.query.parsed) 0 ++ executions statement.id sets
canonical_parts statement sets =
    ap (λ l. framing (prepare_command statement.query.parsed) 0 ++ framings l EachFromZero)
    (execution_payloads_of statement (values_of_sets sets))
