-- The values that contents are sent as are no floats.
use Rattle.std.proofs.Common.{◌≡◌, ℕ, ℤ, suc, pos, negsuc, ◌+◌, ◌^◌, ◌==◌, nat_lt, Bool, true, false, [], ◌∷◌, length}
use Rattle.std.proofs.Common.{map, Some, None, refl, ◌∙◌, ap, rules}
use Rattle.std.specs.Prelude.{is_none, if◌then◌else◌}
use Rattle.std.specs.List.{position_from}
use Rattle.std.specs.Option.{option_map}
use Rattle.std.specs.Fmt.{decimal}
use Rattle.std.proofs.lemmas.List.{length-map}
use Rattle.mysql_cells.specs.declared.value.Value.TheVariants as values
use Rattle.mysql_values.specs.Content.{Content}
use Rattle.mysql_values.specs.Content.TheVariants as content
use Rattle.mysql_values.specs.Contents.{content_value, integer_value}
use Rattle.mysql_values.specs.Value.{Value}
use Rattle.mysql_values.specs.Values.{content_of, first_float}
use Rattle.mysql_values.specs.Binding.{values_cause}
use Rattle.mysql_receive.specs.Reading.{Set}
use Rattle.mysql_command_rules.specs.declared.refusal.Refusal.{Refusal}

-- a value that is no float, whichever of two it is
either_is_no_float : (test : Bool) (a b : Value) → is_none (content_of a) ≡ false →
    is_none (content_of b) ≡ false → is_none (content_of (if test then a else b)) ≡ false
either_is_no_float true a b first second = first
either_is_no_float false a b first second = second

-- a whole number is sent as no float
whole_is_no_float : (number : ℤ) → is_none (content_of (integer_value number)) ≡ false
whole_is_no_float (pos n) =
    either_is_no_float (nat_lt n (2 ^ 63)) (values.Int (pos n))
    (if nat_lt n (2 ^ 64) then values.UInt n else values.Bytes (decimal n)) refl
    (either_is_no_float (nat_lt n (2 ^ 64)) (values.UInt n) (values.Bytes (decimal n)) refl refl)
whole_is_no_float (negsuc n) =
    either_is_no_float (nat_lt n (2 ^ 63)) (values.Int (negsuc n))
    (values.Bytes (0x2d ∷ decimal (suc n))) refl refl

-- a content is sent as no float
content_is_no_float : (c : Content) → is_none (content_of (content_value c)) ≡ false
content_is_no_float content.Null = refl
content_is_no_float (content.Number number) = whole_is_no_float number
content_is_no_float (content.Bytes bytes) = refl

-- no float is among the values of contents
no_float_from : (place : ℕ) (set : Set) →
    position_from (λ value. is_none (content_of value)) place (map content_value set) ≡ None
no_float_from place [] = refl
no_float_from place (content ∷ set) =
    ap (λ test. if test then Some place else position_from (λ value. is_none (content_of value))
    (place + 1) (map content_value set)) (content_is_no_float content)
    ∙ no_float_from (place + 1) set

-- nothing is wrong with the values of a set that has as many contents as placeholders
pub values_are_right : (wrong_count : Refusal) (float : ℕ → Refusal) (count : ℕ) (set : Set) →
    length set ≡ count → values_cause wrong_count float count (map content_value set) ≡ None
values_are_right wrong_count float count set fills =
    ap (λ test. if test then option_map (λ place. float place) (first_float (map content_value set))
    else Some wrong_count) (by_count (length (map content_value set)) count
    (length-map set content_value ∙ fills))
    ∙ ap (λ found. option_map (λ place. float place) found) (no_float_from 0 set)
  where
    by_count : (m n : ℕ) → m ≡ n → (m == n) ≡ true
    by_count m n same = search (rules, same)
