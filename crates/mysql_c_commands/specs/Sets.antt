-- What the calls on parameter sets say of the object that a handle stands for.
use Rattle.std.specs.Prelude.{◌≡◌, ◌⊎◌, ℕ, [], ◌∷◌, ◌++◌, Vec, length}
use Rattle.mysql_cells.specs.declared.value.Value.{Value}
use Rattle.std.specs.declared.alloc.Global.{Global}
use Rattle.mysql_values.specs.declared.params.Params.{Params}
use Rattle.mysql_values.specs.declared.params.Params.TheVariants.{Positional}
use Rattle.mysql_c_handles.specs.declared.object.ParameterSets.{ParameterSets}
use Rattle.mysql_c_handles.specs.declared.code.Code.TheVariants.{Done, Memory}
use Rattle.mysql_c_handles.specs.declared.object.Object.{Object}
use Rattle.mysql_c_handles.specs.declared.object.Object.TheVariants as object
use Rattle.mysql_c_handles.specs.Codes.{code_number, misuse}
use Rattle.mysql_c_handles.specs.Sets.{IsSets}

-- no sets, and no value of the next one
abbrev pub HasNone : ParameterSets → Type 0
HasNone s = (s.sets.items ≡ []) × (s.open.items ≡ [])

-- equal sets, and equal values of the next one
abbrev pub AreTheSame : ParameterSets → ParameterSets → Type 0
AreTheSame old new = (new.sets.items ≡ old.sets.items) × (new.open.items ≡ old.open.items)

-- A value stands behind those of the next set, or memory was refused and nothing changed.
abbrev pub TakesValue : Value → ℕ → ParameterSets → ParameterSets → Type 0
TakesValue value number old new =
    ((number ≡ code_number Done) × (new.sets.items ≡ old.sets.items) × (new.open.items ≡ old.open.items ++ value ∷ []))
    ⊎ ((number ≡ code_number Memory) × AreTheSame old new)

-- what taking a value does to the parameter sets that the handle stands for
abbrev pub TakesValueIn : Value → ℕ → Object → ParameterSets → Type 0
TakesValueIn value number new old = IsSets new (TakesValue value number old)

-- a set by its order has these values
abbrev pub HasValues : Params → Vec Value Global → Type 0
HasValues (Positional held) values = values ≡ held
HasValues other values = Unit {0}

-- A set of these values stands behind the other sets, and the values of the next one stay; or
-- memory was refused and nothing changed.
abbrev pub PutsSet : Vec Value Global → ℕ → ParameterSets → ParameterSets → Type 0
PutsSet values number old new =
    ((number ≡ code_number Done) × (new.sets.items ≡ old.sets.items ++ Positional values ∷ []) ×
    (new.open.items ≡ old.open.items))
    ⊎ ((number ≡ code_number Memory) × AreTheSame old new)

-- The next set is whole: its values, by their order, stand behind the other sets; or memory was
-- refused and nothing changed.
abbrev pub EndsSet : ℕ → ParameterSets → ParameterSets → Type 0
EndsSet number old new =
    ((number ≡ code_number Done) × (new.sets.items ≡ old.sets.items ++ Positional old.open ∷ []) ×
    (new.open.items ≡ []))
    ⊎ ((number ≡ code_number Memory) × AreTheSame old new)

-- what ending a set does to the parameter sets that the handle stands for
abbrev pub EndsSetIn : ℕ → Object → ParameterSets → Type 0
EndsSetIn number new old = IsSets new (EndsSet number old)

-- The whole sets are counted.
abbrev pub CountsSets : Object → ℕ → ℕ → Type 0
CountsSets (object.Sets s) number count = (number ≡ 0) × (count ≡ length s.sets.items)
CountsSets held number count = number ≡ code_number (misuse held)

-- All sets are let go, and the values of the next one.
abbrev pub LosesAll : ℕ → Object → ParameterSets → Type 0
LosesAll number new old = (number ≡ 0) × IsSets new HasNone
