-- What calls say of the parameter sets that a handle stands for, and what these hold.
use Rattle.std.specs.Prelude.{ℕ, List, Option, Some, None, slice_get}
use Rattle.std.specs.Option.{option_and_then}
use Rattle.mysql_values.specs.Value.{Value}
use Rattle.mysql_values.specs.declared.params.Params.{Params}
use Rattle.mysql_values.specs.declared.params.Params.TheVariants.{Positional}
use Rattle.mysql_c_handles.specs.declared.code.Code.{Code}
use Rattle.mysql_c_handles.specs.declared.code.Code.TheVariants.{OutOfRange}
use Rattle.mysql_c_handles.specs.declared.object.Object.{Object}
use Rattle.mysql_c_handles.specs.declared.object.Object.TheVariants as object
use Rattle.mysql_c_handles.specs.declared.object.ParameterSets.{ParameterSets}
use Rattle.mysql_c_handles.specs.Codes.{Stays, misuse}

-- the object is parameter sets of which this is said
abbrev pub IsSets : Object → (ParameterSets → Type 0) → Type 0
IsSets (object.Sets sets) Says = Says sets
IsSets held Says = ⊥

-- Of parameter sets what is said. Any other object stays, and the number says why.
abbrev pub OfSets : Object → ℕ → Object → (ParameterSets → Type 0) → Type 0
OfSets (object.Sets sets) number new Says = Says sets
OfSets held number new Says = Stays held number new

-- the set of a number
abbrev pub set_held : Object → ℕ → Option Params
set_held (object.Sets s) set = slice_get s.sets.items set
set_held held set = None

-- the values of a set by their order, as each set has them that was put together here
abbrev pub values_in : Params → Option (List Value)
values_in (Positional values) = Some values.items
values_in other = None

-- the values of the set of a number
abbrev pub values_held : Object → ℕ → Option (List Value)
values_held held set = option_and_then values_in (set_held held set)

-- the value at a place of the set of a number
abbrev pub value_held : Object → ℕ → ℕ → Option Value
value_held held set place = option_and_then (λ values. slice_get values place) (values_held held set)

-- why a set or a value isn't there
abbrev pub unheld_code : Object → Code
unheld_code (object.Sets s) = OutOfRange
unheld_code held = misuse held
