-- What holds of a query and sets against which nothing speaks by execute.
use Rattle.std.proofs.Common.{◌≡◌, ℕ, ◌+◌, ◌≤◌, Bool, true, false, List, [], ◌∷◌, length, map, Some, None, Ok, refl}
use Rattle.std.proofs.Common.{nat_lt}
use Rattle.std.specs.List.{AllByRecursion}
use Rattle.std.specs.Option.{option_or}
use Rattle.std.proofs.lemmas.Bool.{ltb-false}
use Rattle.mysql_values.specs.Values.{FitsFields}
use Rattle.mysql_values.specs.Queries.{is_mixed}
use Rattle.mysql_values.specs.Value.{Value}
use Rattle.mysql_values.specs.Values.{content_of}
use Rattle.mysql_command_rules.specs.declared.refusal.Refusal.TheVariants as refusals
use Rattle.mysql_receive.specs.Query.{Query, place_count}
use Rattle.mysql_command_rules.specs.Cause.{cause_if, first_of_sets, max_places, prepare_cause, set_cause}
use Rattle.mysql_command_rules.specs.Commands.{prepare_command}
use Rattle.mysql_command_rules.proofs.Contents.{IsGood, all_held, good, neither}
use Rattle.mysql_command_rules.proofs.Held.{held}

-- ---- the query

-- of the three causes none is one
prepare_none : (mixed many long : Bool) →
    option_or (cause_if mixed refusals.Mixed)
    (option_or (cause_if many refusals.TooManyPlaces)
    (option_or (cause_if long refusals.PrepareTooLarge) None)) ≡ None → (many ≡ false) ×
    (long ≡ false)
prepare_none true many long none = cc
prepare_none false true long none = cc
prepare_none false false true none = cc
prepare_none false false false none = (refl, refl)

-- a statement that may be prepared has few placeholders, and its prepare is short
pub record IsPreparable (query : Query) (room : ℕ) : Type 0 where
  pub few : place_count query ≤ max_places
  pub short : length (prepare_command query.parsed) ≤ room

-- so has one against whose prepare nothing speaks
pub preparable : (query : Query) (room : ℕ) → prepare_cause query room ≡ None → IsPreparable query room
preparable query room none =
    let parts = prepare_none (is_mixed query.places) (nat_lt max_places (place_count query))
    (nat_lt room (length (prepare_command query.parsed))) none in
    record {
      few = ltb-false max_places (place_count query) parts.0;
      short = ltb-false room (length (prepare_command query.parsed)) parts.1;
    }

-- ---- sets

-- values that may be sent: as many as the places, within their fields, none a float, in a short command
pub record IsSendable (command : List Value → List ℕ) (places room : ℕ) (values : List Value) : Type 0 where
  pub count : length values ≡ places
  pub fit : AllByRecursion (λ value. FitsFields value) values
  pub each : map content_of values ≡ map Some (map held values)
  pub short : length (command values) ≤ room

-- so may each of the sets against which nothing speaks
pub all_sendable : (command : List Value → List ℕ) (places room number : ℕ)
    (sets : List (List Value)) →
    first_of_sets (set_cause command places room) number (map Ok sets) ≡ None
    → AllByRecursion (λ values. AllByRecursion (λ value. FitsFields value) values) sets →
    AllByRecursion (IsSendable command places room) sets
all_sendable command places room number [] none fit = tt
all_sendable command places room number (values ∷ sets) none fit =
    let parts = neither (set_cause command places room number (Ok values))
    (first_of_sets (set_cause command places room) (number + 1) (map Ok sets)) none in
    let g : IsGood command places room values = good command places room number values parts.0 in (
      record { count = g.count_is; fit = fit.0; each = all_held 0 values g.exact; short = g.short },
      all_sendable command places room (number + 1) sets parts.1 fit.1,
    )
