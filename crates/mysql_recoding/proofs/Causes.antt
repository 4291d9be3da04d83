-- What it says that no cause speaks against recoding a stream: it is whole, and none speaks against
-- sending its sets by execute.
use Rattle.std.proofs.Common.{◌≡◌, ℕ, ◌+◌, ◌-◌, ◌==◌, nat_lt, Bool, true, false, List, [], ◌∷◌, length, map, Option}
use Rattle.std.proofs.Common.{Some, None, Ok, refl, sym, ◌∙◌, ap}
use Rattle.std.specs.Prelude.{if◌then◌else◌}
use Rattle.std.specs.List.{AllByRecursion}
use Rattle.std.specs.Option.{option_map, option_or}
use Rattle.mysql_values.specs.Queries.{is_mixed}
use Rattle.mysql_values.specs.Value.{Value}
use Rattle.mysql_values.specs.Values.{first_float}
use Rattle.mysql_stmt.specs.Executions.{execute_command}
use Rattle.mysql_bulk_builder.specs.Causes.{first_some}
use Rattle.mysql_receive.specs.Audit.{Audit}
use Rattle.mysql_receive.specs.declared.audit.End.{End}
use Rattle.mysql_receive.specs.declared.audit.End.TheVariants.{Fault, UnfinishedPacket, WaitingPieces, Whole}
use Rattle.mysql_receive.specs.Query.{Statement, place_count}
use Rattle.mysql_command_rules.specs.declared.refusal.Refusal.{Refusal}
use Rattle.mysql_command_rules.specs.declared.refusal.Refusal.TheVariants as refusals
use Rattle.mysql_command_rules.specs.declared.road.Road.TheVariants.{Execute}
use Rattle.mysql_command_rules.specs.Cause.{cause_if, cause_of, first_of_sets, max_places, query_cause, set_cause}
use Rattle.mysql_command_rules.specs.Commands.{prepare_command}
use Rattle.mysql_recoding.specs.declared.errors.RecodeError.TheVariants as errors
use Rattle.mysql_recoding.specs.Causes.{ending_cause, error_for, recoding_cause, values_of_sets}

-- where neither is an answer, neither is
pub neither : {X : Type 0} (first second : Option X) → option_or first second ≡ None → (first ≡ None) × (second ≡ None)
neither None second none = (refl, none)
neither (Some answer) second none = cc

pub or_none : {X : Type 0} (first : Option X) → option_or first None ≡ first
or_none None = refl
or_none (Some answer) = refl

-- ---- whole streams

-- both kinds of placeholder are the first cause against either
mixed_first : (mixed : Bool) (many long sets : Option Refusal)
    → first_some (
    (if mixed then Some errors.Mixed else None)
    ∷ None
    ∷ option_map error_for (first_some
    (first_some (cause_if mixed refusals.Mixed ∷ many ∷ long ∷ []) ∷ sets ∷ None ∷ [])) ∷ [])
    ≡ option_map error_for (first_some
    (first_some (cause_if mixed refusals.Mixed ∷ many ∷ long ∷ []) ∷ sets ∷ None ∷ []))
mixed_first true many long sets = refl
mixed_first false many long sets =
    or_none (option_map error_for
    (first_some (first_some (None ∷ many ∷ long ∷ []) ∷ sets ∷ None ∷ [])))

-- The cause against recoding a whole stream is the cause against sending its sets.
pub whole_cause : (statement : Statement) (limit : ℕ) (audit : Audit) → audit.ending ≡ Whole
    → recoding_cause statement limit audit ≡
    option_map error_for (cause_of Execute statement limit (map Ok (values_of_sets audit.sets)))
whole_cause statement limit audit whole =
    ap (λ ending. first_some (
    (if is_mixed statement.query.places then Some errors.Mixed else None)
    ∷ ending_cause ending
    ∷ option_map error_for (cause_of Execute statement limit (map Ok (values_of_sets audit.sets))) ∷ [])) whole
    ∙ mixed_first (is_mixed statement.query.places)
    (cause_if (nat_lt max_places (place_count statement.query)) refusals.TooManyPlaces)
    (cause_if (nat_lt (limit - 4) (length (prepare_command statement.query.parsed))) refusals.PrepareTooLarge)
    (first_of_sets (set_cause (λ values. execute_command statement.id values false)
    (place_count statement.query) (limit - 4)) 0 (map Ok (values_of_sets audit.sets)))

pub is_whole : (ending : End) → ending_cause ending ≡ None → ending ≡ Whole
is_whole (Fault payload fault) none = cc
is_whole WaitingPieces none = cc
is_whole UnfinishedPacket none = cc
is_whole Whole none = refl

pub no_error : (cause : Option Refusal) → option_map error_for cause ≡ None → cause ≡ None
no_error None none = refl
no_error (Some refusal) none = absurd (cc)

-- what can be recoded is whole, and its sets can be sent
pub recodable : (statement : Statement) (limit : ℕ) (audit : Audit) → recoding_cause statement limit audit ≡ None
    → (audit.ending ≡ Whole) × (cause_of Execute statement limit (map Ok (values_of_sets audit.sets)) ≡ None)
recodable statement limit audit none =
    let mixed = neither (if is_mixed statement.query.places then Some errors.Mixed else None) _ none in
    let ending = neither (ending_cause audit.ending) _ mixed.1 in
    let whole : audit.ending ≡ Whole = is_whole audit.ending ending.0 in
    (whole, no_error _ (sym (whole_cause statement limit audit whole) ∙ none))

pub no_cause : (statement : Statement) (limit : ℕ) (audit : Audit) → audit.ending ≡ Whole →
    cause_of Execute statement limit (map Ok (values_of_sets audit.sets)) ≡ None
    → recoding_cause statement limit audit ≡ None
no_cause statement limit audit whole none = whole_cause statement limit audit whole ∙ ap (option_map error_for) none

-- ---- sets that are sent

-- nothing speaks against a set's values: they are as many as the placeholders, none is a float, and
-- their execution has at most so many bytes
pub record IsFree (id places room : ℕ) (values : List Value) : Type 0 where
  pub counted : (length values == places) ≡ true
  pub no_float : first_float values ≡ None
  pub small : nat_lt room (length (execute_command id values false)) ≡ false

tests_fail : (counted large : Bool) (float : Option ℕ) (number : ℕ)
    → option_or (if counted then option_map (λ place. refusals.Float number place) float else Some
    (refusals.WrongCount number)) (cause_if large (refusals.PacketTooLarge number)) ≡ None
    → (counted ≡ true) × (float ≡ None) × (large ≡ false)
tests_fail true false None number none = (refl, refl, refl)
tests_fail true true None number none = absurd (cc)
tests_fail true large (Some place) number none = absurd (cc)
tests_fail false large float number none = absurd (cc)

none_where_tests_fail : (counted large : Bool) (float : Option ℕ) (number : ℕ) → counted ≡ true →
    float ≡ None → large ≡ false
    → option_or (if counted then option_map (λ place. refusals.Float number place) float else Some
    (refusals.WrongCount number)) (cause_if large (refusals.PacketTooLarge number)) ≡ None
none_where_tests_fail counted large float number is_counted no_float not_large =
    rw (is_counted, no_float, not_large) refl

abbrev one_cause : ℕ → ℕ → ℕ → ℕ → List Value → Option Refusal
one_cause id places room number values =
    set_cause (λ values. execute_command id values false) places room number (Ok values)

abbrev causes : ℕ → ℕ → ℕ → ℕ → List (List Value) → Option Refusal
causes id places room number sets =
    first_of_sets (set_cause (λ values. execute_command id values false) places room) number
    (map Ok sets)

each_free : (id places room number : ℕ) (sets : List (List Value)) →
    causes id places room number sets ≡ None → AllByRecursion (IsFree id places room) sets
each_free id places room number [] none = tt
each_free id places room number (values ∷ sets) none =
    let parts = neither (one_cause id places room number values) (causes id places room (number + 1) sets) none in
    let fail = tests_fail (length values == places)
    (nat_lt room (length (execute_command id values false))) (first_float values) number
    parts.0 in
    (record { counted = fail.0; no_float = fail.1; small = fail.2 }, each_free id places room (number + 1) sets parts.1)

none_of_free : (id places room number : ℕ) (sets : List (List Value)) →
    AllByRecursion (IsFree id places room) sets → causes id places room number sets ≡ None
none_of_free id places room number [] each = refl
none_of_free id places room number (values ∷ sets) each =
    ap (λ cause. option_or cause (causes id places room (number + 1) sets))
    (none_where_tests_fail (length values == places)
    (nat_lt room (length (execute_command id values false))) (first_float values) number
    each.0.counted each.0.no_float each.0.small)
    ∙ none_of_free id places room (number + 1) sets each.1

-- what can be sent: nothing speaks against the query, nor against a set
pub free_of_causes : (statement : Statement) (limit : ℕ) (sets : List (List Value)) →
    cause_of Execute statement limit (map Ok sets) ≡ None
    → (query_cause Execute statement (limit - 4) ≡ None) ×
    AllByRecursion (IsFree statement.id (place_count statement.query) (limit - 4)) sets
free_of_causes statement limit sets none =
    let query = neither (query_cause Execute statement (limit - 4)) _ none in
    let others = neither (causes statement.id (place_count statement.query) (limit - 4) 0 sets) _ query.1 in
    (query.0, each_free statement.id (place_count statement.query) (limit - 4) 0 sets others.0)

pub no_cause_of_free : (statement : Statement) (limit : ℕ) (sets : List (List Value)) →
    query_cause Execute statement (limit - 4) ≡ None
    → AllByRecursion (IsFree statement.id (place_count statement.query) (limit - 4)) sets →
    cause_of Execute statement limit (map Ok sets) ≡ None
no_cause_of_free statement limit sets query each =
    ap (λ cause. option_or cause
    (option_or (causes statement.id (place_count statement.query) (limit - 4) 0 sets) None))
    query
    ∙ ap (λ cause. option_or cause None)
    (none_of_free statement.id (place_count statement.query) (limit - 4) 0 sets each)
