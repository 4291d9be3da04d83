-- The text of a time, and a set of two values.
use Rattle.std.proofs.Common.{◌≡◌, List, [], ◌∷◌, Some, refl}
use Rattle.std.specs.Fmt.{digits}
use Rattle.std.specs.Prelude.{map}
use Rattle.mysql_cells.specs.declared.value.Value.{Value}
use Rattle.mysql_witnesses.specs.Values.{EachPlaceHasItsValue, ZeroTimesAreBoundWithoutSign}

pub zero_times_are_bound_without_sign : ZeroTimesAreBoundWithoutSign
unfolding digits
zero_times_are_bound_without_sign mode spelling = refl

both : (a b : Value) (values : List Value) → Some a ∷ Some b ∷ [] ≡ map Some values → values ≡ a ∷ b ∷ []
both a b [] e = cc
both a b (c ∷ []) e = cc
both a b (c ∷ d ∷ []) e = cc
both a b (c ∷ d ∷ f ∷ values) e = cc

pub each_place_has_its_value : EachPlaceHasItsValue
each_place_has_its_value list h = both _ _ list.items h.1
