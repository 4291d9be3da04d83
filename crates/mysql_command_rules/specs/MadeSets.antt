-- Parameter sets that are made one at a time.
-- MySQL: Client/Server Protocol, "COM_QUERY", "COM_STMT_EXECUTE".
use Rattle.std.specs.Prelude.{◌≡◌, ℕ, Bool, true, false, List, slice_get, take, Some, Result, Err, Ok}
use Rattle.mysql_values.specs.declared.params.Params.{Params}
use Rattle.mysql_values.specs.declared.params.ParamsError.TheVariants as params_error
use Rattle.mysql_values.specs.declared.params.SetError.{SetError}
use Rattle.mysql_values.specs.declared.params.SetError.TheVariants as set_error
use Rattle.mysql_command_rules.specs.Sets.{Given, all_given, given_by}

-- whether an error of a set is want of memory, which a refusal tells as its own and never as a set's
abbrev pub is_want_of_memory : SetError → Bool
is_want_of_memory set_error.Memory = true
is_want_of_memory (set_error.Params params_error.Memory) = true
is_want_of_memory _ = false

-- what a set gives a query that is made, or that is refused
abbrev pub given_by_made : List (List ℕ) → Result Params SetError → Given
given_by_made names (Ok params) = given_by names params
given_by_made names (Err error) = Err error

-- the set of this number gives every query what is made of it
abbrev pub IsSetAt : (List (List ℕ) → List Given) → ℕ → Result Params SetError → Type 0
IsSetAt given number made = (names : List (List ℕ)) → slice_get (given names) number ≡ Some (given_by_made names made)

-- parameter sets that give every query what is given
pub record AllMade (given : List (List ℕ) → List Given) : Type 0 where
  pub sets : List Params
  pub give : (names : List (List ℕ)) → all_given sets names ≡ given names

-- parameter sets that give every query what is given by the first, so many
pub record MadeUpTo (given : List (List ℕ) → List Given) (count : ℕ) : Type 0 where
  pub sets : List Params
  pub give : (names : List (List ℕ)) → all_given sets names ≡ take count (given names)
