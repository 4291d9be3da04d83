-- The values that contents are sent as hold these contents, and their numbers fit their fields.
use Rattle.std.proofs.Common.{◌≡◌, ℕ, ℤ, suc, pos, negsuc, ◌<◌, ◌≤◌, ◌^◌, Bool, true, false, List, [], ◌∷◌, ◌++◌}
use Rattle.std.proofs.Common.{length, map, Some, refl, ◌∙◌, ap, arith, inl, inr, nat_lt, length-append}
use Rattle.std.specs.Prelude.{if◌then◌else◌}
use Rattle.std.specs.Fmt.{decimal}
use Rattle.std.specs.List.{AllByRecursion, sum_by}
use Rattle.std.proofs.lemmas.Bool.{ltb-false, ltb-true, lt-ltb}
use Rattle.std.proofs.lemmas.List.Sums.{sum_by-cons}
use Rattle.mysql_cells.specs.Values.{FitsFields}
use Rattle.mysql_cells.specs.Cells.{bin_len}
use Rattle.mysql_cells.specs.Values.{content_of}
use Rattle.mysql_cells.specs.declared.value.Value.{Value}
use Rattle.mysql_cells.specs.declared.value.Value.TheVariants as values
use Rattle.mysql_values.specs.Content.{Content}
use Rattle.mysql_values.specs.Content.TheVariants as content
use Rattle.mysql_values.specs.Place.{Place}
use Rattle.mysql_receive.specs.Reading.{Set}
use Rattle.mysql_stmt.specs.Executions.{execute_command}
use Rattle.mysql_stmt.specs.Statements.{ExecutionsHaveSizes}
use Rattle.mysql_command_rules.specs.Reading.{HaveContents}
use Rattle.mysql_values.specs.Contents.{content_value, integer_value}
use Rattle.mysql_wire.specs.Writing.{lenenc_int}
use Rattle.mysql_recoding.specs.Causes.{values_of_sets}
use Rattle.mysql_recoding.specs.Laws.{FillsPlaces, IsCarried}
use Rattle.mysql_recoding.proofs.Causes.{IsFree}

-- ---- numbers

-- a value holds a number, which fits its field
record Holds (number : ℤ) (value : Value) : Type 0 where
  pub is_held : content_of value ≡ Some (content.Number number)
  pub fits : FitsFields value

-- a number from 0 is sent as Int or as UInt
from_zero : (n : ℕ) (small all : Bool) → (small ≡ true → n < 2 ^ 63) → n < 2 ^ 64 → all ≡ true →
    Holds (pos n) (if small then values.Int (pos n) else
    (if all then values.UInt n else values.Bytes (decimal n)))
from_zero n true all less most is = record { is_held = refl; fits = record { sfits = less refl } }
from_zero n false true less most is = record { is_held = refl; fits = most }
from_zero n false false less most is = cc

-- a number below 0 is sent as Int
below_zero : (n : ℕ) (small : Bool) (digits : List ℕ) → n < 2 ^ 63 → small ≡ true →
    Holds (negsuc n) (if small then values.Int (negsuc n) else values.Bytes digits)
below_zero n true digits less is = record { is_held = refl; fits = record { sfits = less } }
below_zero n false digits less is = cc

-- a carried number is at most 2^64-1
at_most : (n : ℕ) → IsCarried (content.Number (pos n)) → n < 2 ^ 64
at_most n (inl fits) = omega (arith, fits.sfits)
at_most n (inr found) =
    let same : n ≡ found.0 = cc (found.1) in omega (arith, same, found.2)

-- and at least -2^63
at_least : (n : ℕ) → IsCarried (content.Number (negsuc n)) → n < 2 ^ 63
at_least n (inl fits) = fits.sfits
at_least n (inr found) = cc (found.1)

-- a carried number is held by the value that it is sent as
number_held : (number : ℤ) → IsCarried (content.Number number) → Holds number (integer_value number)
number_held (pos n) carried =
    let most : n < 2 ^ 64 = at_most n carried in
    from_zero n (nat_lt n (2 ^ 63)) (nat_lt n (2 ^ 64)) (ltb-true n (2 ^ 63)) most (lt-ltb n (2 ^ 64) most)
number_held (negsuc n) carried =
    let least : n < 2 ^ 63 = at_least n carried in
    below_zero n (nat_lt n (2 ^ 63)) (0x2d ∷ decimal (suc n)) least (lt-ltb n (2 ^ 63) least)

-- ---- contents

-- a carried content is what its value holds
pub content_held : (c : Content) → IsCarried c → content_of (content_value c) ≡ Some c
content_held content.Null carried = refl
content_held (content.Number number) carried = (number_held number carried).is_held
content_held (content.Bytes bytes) carried = refl

-- bytes are fewer than those that are counted for their cell
bytes_few : (count bytes : List ℕ) → length (count ++ bytes) < 2 ^ 64 → length bytes < 2 ^ 64
bytes_few count bytes short = omega (arith, short, length-append count bytes)

-- and the numbers of its value fit their fields, where its cell is short
content_fits : (c : Content) → IsCarried c → bin_len (content_value c) < 2 ^ 64 → FitsFields (content_value c)
content_fits content.Null carried short = tt
content_fits (content.Number number) carried short = (number_held number carried).fits
content_fits (content.Bytes bytes) carried short = (carried, bytes_few (lenenc_int (length bytes)) bytes short)

-- ---- sets

-- so with each content of a set
set_held : (set : Set) → AllByRecursion IsCarried set → map content_of (map content_value set) ≡ map Some set
set_held [] each = refl
set_held (c ∷ set) each =
    ap (λ o. o ∷ map content_of (map content_value set)) (content_held c each.0) ∙
    ap (λ l. Some c ∷ l) (set_held set each.1)

pub set_fits : (set : Set) → AllByRecursion IsCarried set →
    sum_by bin_len (map content_value set) < 2 ^ 64 →
    AllByRecursion (λ value. FitsFields value) (map content_value set)
set_fits [] each short = tt
set_fits (c ∷ set) each short =
    let all = sum_by-cons bin_len (content_value c) (map content_value set) in
    let here : bin_len (content_value c) < 2 ^ 64 = omega (arith, short, all) in
    let later : sum_by bin_len (map content_value set) < 2 ^ 64 = omega (arith, short, all) in
    (content_fits c each.0 here, set_fits set each.1 later)

-- and with each of several sets
pub sets_held : (places : List Place) (sets : List Set) → AllByRecursion (FillsPlaces places) sets →
    HaveContents (values_of_sets sets) sets
sets_held places [] each = refl
sets_held places (set ∷ sets) each =
    ap (λ l. l ∷ map (map content_of) (values_of_sets sets)) (set_held set each.0.each) ∙
    ap (λ l. map Some set ∷ l) (sets_held places sets each.1)

-- the cells of an execution are no longer than it
cells_short : ExecutionsHaveSizes → (id : ℕ) (values : List Value) →
    sum_by bin_len values ≤ length (execute_command id values false)
cells_short sizes id [] = omega arith
cells_short sizes id (value ∷ values) = omega (arith, sizes.1 id value values)

-- so the numbers of sets that can be sent fit their fields
pub sets_fit : ExecutionsHaveSizes → (id room : ℕ) (places : List Place) (sets : List Set) →
    room < 2 ^ 64 → AllByRecursion (FillsPlaces places) sets
    → AllByRecursion (IsFree id (length places) room) (values_of_sets sets) →
    AllByRecursion (λ values. AllByRecursion (λ value. FitsFields value) values)
    (values_of_sets sets)
sets_fit sizes id room places [] few each free = tt
sets_fit sizes id room places (set ∷ sets) few each free =
    let values : List Value = map content_value set in
    let within : length (execute_command id values false) ≤ room =
    ltb-false room (length (execute_command id values false)) free.0.small in
    let short : sum_by bin_len values < 2 ^ 64 = omega (arith, cells_short sizes id values) in
    (set_fits set each.0.each short, sets_fit sizes id room places sets few each.1 free.1)

-- ---- sets of values have one list of contents

one_set : (set other : Set) → map Some set ≡ map Some other → set ≡ other
one_set [] [] same = refl
one_set [] (d ∷ other) same = cc
one_set (c ∷ set) [] same = cc
one_set (c ∷ set) (d ∷ other) same =
    let first : c ≡ d = cc in
    let later : map Some set ≡ map Some other = cc in
    ap (λ e. e ∷ set) first ∙ ap (λ l. d ∷ l) (one_set set other later)

pub one_contents : (sets others : List Set) → map (map Some) sets ≡ map (map Some) others → sets ≡ others
one_contents [] [] same = refl
one_contents [] (other ∷ others) same = cc
one_contents (set ∷ sets) [] same = cc
one_contents (set ∷ sets) (other ∷ others) same =
    let first : map Some set ≡ map Some other = cc in
    let later : map (map Some) sets ≡ map (map Some) others = cc in
    ap (λ s. s ∷ sets) (one_set set other first) ∙ ap (λ l. other ∷ l) (one_contents sets others later)
