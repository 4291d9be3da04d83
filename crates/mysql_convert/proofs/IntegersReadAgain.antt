-- A value that holds the same whole number is read as the same.
use Rattle.std.proofs.Common.{◌≡◌, ℤ, false, Option, Some, None, refl, sym, ap, ◌∙◌}
use Rattle.std.specs.Prelude.{IsSomeAnd}
use Rattle.std.specs.Option.{option_and_then}
use Rattle.mysql_cells.specs.declared.value.Value.{Value}
use Rattle.mysql_cells.specs.declared.value.Value.TheVariants.{NULL, Bytes, Int, UInt, Float, Double, Date, Time}
use Rattle.mysql_cells.specs.Values.{is_null}
use Rattle.mysql_convert.specs.Conversions.{ReadsAgain}
use Rattle.mysql_convert.specs.Numbers.{HoldsNumber, number_of, integer_of}

not_null : (value : Value) (z : ℤ) → number_of value ≡ Some z → is_null value ≡ false
not_null NULL z h = absurd (cc)
not_null (Bytes bytes) z h = refl
not_null (Int n) z h = refl
not_null (UInt n) z h = refl
not_null (Float bits) z h = refl
not_null (Double bits) z h = refl
not_null (Date year month day hour minute second micros) z h = refl
not_null (Time negative days hours minutes seconds micros) z h = refl

pub same_number : {N : Type 0} (narrowed : ℤ → Option N) (value : Value) (other : Option Value)
    (z : ℤ) → number_of value ≡ Some z → IsSomeAnd other (HoldsNumber z) →
    ReadsAgain (integer_of narrowed) value other
same_number narrowed value None z h c = absurd c
same_number narrowed value (Some other) z h c =
    (ap (option_and_then narrowed) (c.0 ∙ sym h), c.1 ∙ sym (not_null value z h))
