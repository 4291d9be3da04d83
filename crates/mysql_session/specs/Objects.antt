-- What lists of objects give a query: what is sent of them, and what speaks against them, is stated over this.
-- MySQL Reference Manual, "PREPARE Statement" (parameter markers).
use Rattle.std.specs.Prelude.{ℕ, List, [], ◌∷◌, map, Option, None, Some, Ok, Err}
use Rattle.std.specs.List.{AllZip, filter_map}
use Rattle.mysql_values.specs.Value.{Value}
use Rattle.mysql_values.specs.declared.params.Params.{Params}
use Rattle.mysql_values.specs.declared.params.ParamsError.TheVariants.{Confusion}
use Rattle.mysql_values.specs.declared.params.ParamsConfusionError.TheVariants.{PositionalParamsForNamedQuery}
use Rattle.mysql_values.specs.declared.params.SetError.{SetError}
use Rattle.mysql_values.specs.declared.params.SetError.TheVariants as set_error
use Rattle.mysql_convert.specs.Sets.{IsMadeOf, too_long}
use Rattle.mysql_convert.specs.Sets.Parts.{InOrder}
use Rattle.mysql_command_rules.specs.Sets.{Given}

-- what values in order give a query with these names: no values are the empty set, and a query with
-- names takes no others
abbrev pub given_in_order : List (List ℕ) → List Value → Given
given_in_order names [] = Ok []
given_in_order [] (value ∷ values) = Ok (value ∷ values)
given_in_order (name ∷ names) (value ∷ values) = Err (set_error.Params (Confusion PositionalParamsForNamedQuery))

-- the refusal, where there is one
abbrev pub unless_refused : Option SetError → Given → Given
unless_refused None given = given
unless_refused (Some error) given = Err error

-- what a list of objects with these values gives it; none stands for an object that is too long for
-- a value, and comes before all else
abbrev pub given_by_objects : List (List ℕ) → List (Option Value) → Given
given_by_objects names objects =
    unless_refused (too_long 0 objects)
    (given_in_order names (filter_map (λ object. object) objects))

-- what each of the lists of objects gives it
abbrev pub all_given_by_objects : List (List (Option Value)) → List (List ℕ) → List Given
all_given_by_objects sets names = map (given_by_objects names) sets

-- each of the sets is made of a list of objects with these values
abbrev pub AreMade : List (List (Option Value)) → List Params → Type 0
AreMade lists sets = AllZip (λ objects params. IsMadeOf (InOrder objects) params) lists sets
