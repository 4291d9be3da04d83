-- What sets give a query: all that is sent of them, and all that speaks against them, is stated
-- over this. MySQL Reference Manual, "PREPARE Statement" (parameter markers); names as placeholders
-- are a form of client libraries.
use Rattle.std.specs.Prelude.{◌≡◌, ℕ, List, [], ◌∷◌, ◌++◌, map, Option, None, Some, Result, Err, Ok}
use Rattle.std.specs.List.{filter_map}
use Rattle.std.specs.Result.{result_map_both, result_ok}
use Rattle.mysql_values.specs.Value.{Value}
use Rattle.mysql_values.specs.Params.{values_over}
use Rattle.mysql_values.specs.declared.params.Params.{Params}
use Rattle.mysql_values.specs.declared.params.SetError.{SetError}
use Rattle.mysql_values.specs.declared.params.SetError.TheVariants as set_error

-- what a set gives a query: the values for its placeholders, or why it gives none
abbrev pub Given : Type 0
Given = Result (List Value) SetError

-- what a parameter set gives a query with these names
abbrev pub given_by : List (List ℕ) → Params → Given
given_by names params = result_map_both (λ values. values) (λ error. set_error.Params error) (values_over names params)

-- what each of the parameter sets gives it
abbrev pub all_given : List Params → List (List ℕ) → List Given
all_given sets names = map (given_by names) sets

-- the same, and behind them one more set that gives nothing for this reason, where there is one
abbrev pub given_up_to : List Params → Option SetError → List (List ℕ) → List Given
given_up_to sets None names = all_given sets names
given_up_to sets (Some error) names = all_given sets names ++ Err error ∷ []

-- sets that give every query the same
abbrev pub GiveTheSame : (List (List ℕ) → List Given) → (List (List ℕ) → List Given) → Type 0
GiveTheSame sets others = (names : List (List ℕ)) → sets names ≡ others names

-- the values of the sets that give any
abbrev pub values_of : List Given → List (List Value)
values_of given = filter_map (λ set. result_ok set) given

-- what each of the sets of values gives it, whatever its names: they stand in the order of the placeholders
abbrev pub all_given_in_places : List (List Value) → List (List ℕ) → List Given
all_given_in_places sets names = map Ok sets
