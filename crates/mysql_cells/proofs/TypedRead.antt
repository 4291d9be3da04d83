-- Values that were read by a type have cells by it.
use Rattle.std.proofs.Common.{◌≡◌, ℕ, pos, negsuc, suc, ◌+◌, ◌-◌, ◌*◌, ◌^◌, ◌<◌, ◌==◌, Bool, true, false, cond, List}
use Rattle.std.proofs.Common.{[], ◌∷◌, drop, Option, Some, None, Ok, refl, sym, subst, ◌∙◌, ap, arith}
use Rattle.std.specs.Prelude.{if◌then◌else◌, is_none, nat_lt}
use Rattle.std.specs.Int.{Width, w8, w16, w32, w64, cast_signed}
use Rattle.std.proofs.lemmas.Bool.{lt-ltb, ltb-false}
use Rattle.std.proofs.lemmas.List.{get_or-drop}
use Rattle.byteorder.specs.Endian.{little_number}
use Rattle.byteorder.specs.Numbers.{little_from-lt}
use mir.Val.{bits, hbits}
use Rattle.mysql_buf.specs.Bytes.{AreBytes}
use Rattle.mysql_buf.specs.FirstBytes.{first-some}
use Rattle.mysql_buf.specs.Reading.{bytes_at, first, lenenc_int_at, lenenc_str_at, little_at, then_at, u8_str_at}
use Rattle.mysql_fields.specs.Wire.{Reading, ◌>>=◌, or_end}
use Rattle.mysql_cells.specs.CellLaws.{read_back}
use Rattle.mysql_cells.specs.Cells.{cell_at, date_of, form, number_value_at, time_of, unsigned_value, value_at}
use Rattle.mysql_cells.specs.Cells.{whole_value}
use Rattle.mysql_cells.specs.TypedCells.{ReadCellsAreWritten, binary_cell, in_range, whole_cell}
use Rattle.mysql_cells.specs.Values.{is_null, without_zero_sign}
use Rattle.mysql_cells.specs.declared.cell_form.CellForm.{CellForm}
use Rattle.mysql_cells.specs.declared.cell_form.CellForm.TheVariants.{Nothing, Whole1, Whole2, Whole4, Whole8}
use Rattle.mysql_cells.specs.declared.cell_form.CellForm.TheVariants.{FloatBits, DoubleBits, Counted, DateAndTime}
use Rattle.mysql_cells.specs.declared.cell_form.CellForm.TheVariants.{Duration, Without}
use Rattle.mysql_cells.specs.declared.value.Value.{Value}
use Rattle.mysql_cells.specs.declared.value.Value.TheVariants.{NULL, Bytes, Int, UInt, Float, Double, Date, Time}
use Rattle.mysql_cells.proofs.TypedBack.{Has, eight_bytes, form_back, four_bytes, one_byte, two_bytes}

-- WHAT WAS READ

-- what was read, as a value
abbrev as_value : {X : Type 0} → (X → Value) → X × List ℕ → Reading Value
as_value made found = Ok (made found.0, found.1)

-- what was read is what was read, and what is left is what is left
abbrev read_as : {Y : Type 0} → Y × List ℕ → Reading Y
read_as found = Ok found

same_read : {Y : Type 0} (found wanted : Y × List ℕ) → read_as found ≡ read_as wanted → found ≡ wanted
same_read found wanted e = cc

read_is : {Y : Type 0} (x y : Y) (left rest : List ℕ) → read_as (x, left) ≡ read_as (y, rest) → x ≡ y
read_is {Y = Y} x y left rest e = ap (λ (found : Y × List ℕ). found.0) (same_read (x, left) (y, rest) e)

left_is : {Y : Type 0} (x y : Y) (left rest : List ℕ) → read_as (x, left) ≡ read_as (y, rest) → left ≡ rest
left_is {Y = Y} x y left rest e = ap (λ (found : Y × List ℕ). found.1) (same_read (x, left) (y, rest) e)

-- BYTES THAT ARE LEFT

dropped : (n : ℕ) (bytes : List ℕ) → AreBytes bytes → AreBytes (drop n bytes)
dropped n bytes are = λ i. subst (λ x. x < 256) (sym (get_or-drop n bytes i 0)) (are (n + i))

first_left : {X : Type 0} (n : ℕ) (value : List ℕ → X) (bytes : List ℕ) (found : X × List ℕ) →
    AreBytes bytes → first n value bytes ≡ Some found → AreBytes found.1
first_left n value bytes found are e =
    subst AreBytes (sym (ap (λ p. p.1) (first-some n value bytes found e).1)) (dropped n bytes are)

counted_left : (count : Option (ℕ × List ℕ)) (found : List ℕ × List ℕ) →
    ((p : ℕ × List ℕ) → count ≡ Some p → AreBytes p.1) → then_at count bytes_at ≡ Some found →
    AreBytes found.1
counted_left None found left e = absurd (cc)
counted_left (Some p) found left e = first_left p.0 _ p.1 found (left p refl) e

number_left : (bytes : List ℕ) (p : ℕ × List ℕ) → AreBytes bytes → lenenc_int_at bytes ≡ Some p → AreBytes p.1
number_left [] p are e = absurd (cc)
number_left (b ∷ bytes) p are e = by (nat_lt b 251) (b == 252) (b == 253) (b == 254) e
  where
    behind : AreBytes bytes
    behind = dropped 1 (b ∷ bytes) are

    by : (one two three eight : Bool) →
        (if one then Some (b, bytes) else if two then little_at 2 bytes else if three then little_at
        3 bytes else if eight then little_at 8 bytes else Some (0, bytes)) ≡ Some p → AreBytes p.1
    by true two three eight e = let is : bytes ≡ p.1 = cc in subst AreBytes is behind
    by false true three eight e = first_left 2 _ bytes p behind e
    by false false true eight e = first_left 3 _ bytes p behind e
    by false false false true e = first_left 8 _ bytes p behind e
    by false false false false e = let is : bytes ≡ p.1 = cc in subst AreBytes is behind

-- VALUES THAT ARE READ

-- what was read by a form has a cell of that form, and is read again as it is, but an all-zero time as positive
abbrev IsRead : CellForm → Bool → Value → List ℕ → Type 0
IsRead form unsigned value rest = (is_none (binary_cell form unsigned value) ≡ false) ×
    (read_back value ≡ without_zero_sign value) × AreBytes rest

number_read : (n : ℕ) (made : ℕ → Value) (bytes rest : List ℕ) (value : Value) →
    number_value_at n made bytes ≡ Ok (value, rest) → (made (little_number n bytes) ≡ value) ×
    (drop n bytes ≡ rest)
number_read n made bytes rest value e = by (first n (little_number n) bytes) refl e
  where
    by : (found : Option (ℕ × List ℕ)) → first n (little_number n) bytes ≡ found →
        (or_end found >>= as_value made) ≡ Ok (value, rest) →
        (made (little_number n bytes) ≡ value) × (drop n bytes ≡ rest)
    by None is e = absurd (cc)
    by (Some p) is e =
        let here = (first-some n (little_number n) bytes p is).1 in
        let number : p.0 ≡ little_number n bytes = ap (λ p. p.0) here in
        let left : p.1 ≡ drop n bytes = ap (λ p. p.1) here in
        let value_is : made p.0 ≡ value = read_is (made p.0) value p.1 rest e in
        let rest_is : p.1 ≡ rest = left_is (made p.0) value p.1 rest e in
        (ap made (sym number) ∙ value_is, sym left ∙ rest_is)

some_if : (b : Bool) (bytes : List ℕ) → b ≡ true → is_none (if b then Some bytes else None) ≡ false
some_if true bytes is = refl
some_if false bytes is = absurd (cc)

-- a whole number that was read
abbrev IsWhole : ℕ → Width → Bool → Value → Type 0
IsWhole n w unsigned value = (is_none (whole_cell n w unsigned value) ≡ false) ×
    (read_back value ≡ without_zero_sign value)

whole_unsigned : (n : ℕ) (w : Width) → Has n w → (x : ℕ) → x < 256 ^ n → IsWhole n w true (unsigned_value x)
whole_unsigned n w has x below = by (nat_lt x (2 ^ 63)) refl
  where
    inside : in_range (8 * n) true (pos x) ≡ true
    inside = lt-ltb x (2 ^ (8 * n)) (omega (arith, below, has.whole))

    by : (b : Bool) → nat_lt x (2 ^ 63) ≡ b → IsWhole n w true (if b then Int (pos x) else UInt x)
    by true is = (some_if (in_range (8 * n) true (pos x)) _ inside, refl)
    by false is = (
      some_if (in_range (8 * n) true (pos x)) _ inside,
      ap (λ (b : Bool). if b then Int (pos x) else UInt x) is,
    )

whole_signed : (n : ℕ) (w : Width) → Has n w → (x : ℕ) → x < 256 ^ n → IsWhole n w false (Int (cast_signed w x))
whole_signed n w has x below = by (nat_lt x (2 ^ hbits w)) refl
  where
    by : (b : Bool) → nat_lt x (2 ^ hbits w) ≡ b →
        IsWhole n w false (Int (cond b (pos x) (negsuc (2 ^ bits w - suc x))))
    by true is =
        let inside : in_range (8 * n) false (pos x) ≡ true = ap (nat_lt x) has.half ∙ is in
        (some_if (in_range (8 * n) false (pos x)) _ inside, refl)
    by false is =
        let inside : in_range (8 * n) false (negsuc (2 ^ bits w - suc x)) ≡ true =
        lt-ltb (2 ^ bits w - suc x) (2 ^ (8 * n - 1))
        (omega (
          arith,
          below,
          ltb-false x (2 ^ hbits w) is,
          has.same,
          has.half,
          has.double,
          has.some,
        )) in
        (some_if (in_range (8 * n) false (negsuc (2 ^ bits w - suc x))) _ inside, refl)

whole_read : (n : ℕ) (w : Width) → Has n w →
    (unsigned : Bool) (bytes rest : List ℕ) (value : Value) → AreBytes bytes →
    number_value_at n (whole_value w unsigned) bytes ≡ Ok (value, rest)
    → IsWhole n w unsigned value × AreBytes rest
whole_read n w has unsigned bytes rest value are e =
    let read = number_read n (whole_value w unsigned) bytes rest value e in
    let below : little_number n bytes < 256 ^ n = little_from-lt 0 n bytes are in (
      subst (IsWhole n w unsigned) read.0 (by unsigned (little_number n bytes) below),
      subst AreBytes read.1 (dropped n bytes are),
    )
  where
    by : (unsigned : Bool) (x : ℕ) → x < 256 ^ n → IsWhole n w unsigned (whole_value w unsigned x)
    by true x below = whole_unsigned n w has x below
    by false x below = whole_signed n w has x below

-- what is neither NULL nor without a cell
not_null : (n : ℕ) (w : Width) (unsigned : Bool) (value : Value) →
    is_none (whole_cell n w unsigned value) ≡ false →
    is_none (if is_null value then Some [] else whole_cell n w unsigned value) ≡ false
not_null n w unsigned NULL some = refl
not_null n w unsigned (Bytes bytes) some = some
not_null n w unsigned (Int z) some = some
not_null n w unsigned (UInt x) some = some
not_null n w unsigned (Float float) some = some
not_null n w unsigned (Double double) some = some
not_null n w unsigned (Date year month day hour minute second micros) some = some
not_null n w unsigned (Time negative days hours minutes seconds micros) some = some

text_read : (made : List ℕ → Value) (shape : CellForm) (unsigned : Bool) →
    ((held : List ℕ) → (is_none (binary_cell shape unsigned (made held)) ≡ false) ×
    (read_back (made held) ≡ without_zero_sign (made held)))
    → (read : Option (List ℕ × List ℕ)) (rest : List ℕ) (value : Value) →
    ((found : List ℕ × List ℕ) → read ≡ Some found → AreBytes found.1)
    → (or_end read >>= as_value made) ≡ Ok (value, rest) → IsRead shape unsigned value rest
text_read made shape unsigned known None rest value left e = absurd (cc)
text_read made shape unsigned known (Some found) rest value left e =
    let value_is : made found.0 ≡ value = read_is (made found.0) value found.1 rest e in
    let rest_is : found.1 ≡ rest = left_is (made found.0) value found.1 rest e in
    let own = known found.0 in (
      subst (λ value. is_none (binary_cell shape unsigned value) ≡ false) value_is own.0,
      subst (λ value. read_back value ≡ without_zero_sign value) value_is own.1,
      subst AreBytes rest_is (left found refl),
    )

as_read : (form : CellForm) (n : ℕ) (w : Width) (unsigned : Bool) (rest : List ℕ) (value : Value)
    → (is_none (if is_null value then Some [] else whole_cell n w unsigned value) ≡ false →
    is_none (binary_cell form unsigned value) ≡ false) → IsWhole n w unsigned value ×
    AreBytes rest → IsRead form unsigned value rest
as_read form n w unsigned rest value same read = (same (not_null n w unsigned value read.0.0), read.0.1, read.1)

read_form : (form : CellForm) (unsigned : Bool) (bytes rest : List ℕ) (value : Value) →
    AreBytes bytes → value_at form unsigned bytes ≡ Ok (value, rest) →
    IsRead form unsigned value rest
read_form Nothing unsigned bytes rest value are e =
    let value_is : NULL ≡ value = read_is NULL value bytes rest e in
    let rest_is : bytes ≡ rest = left_is NULL value bytes rest e in (
      subst (λ value. is_none (binary_cell Nothing unsigned value) ≡ false) value_is refl,
      subst (λ value. read_back value ≡ without_zero_sign value) value_is refl,
      subst AreBytes rest_is are,
    )
read_form Whole1 unsigned bytes rest value are e =
    as_read Whole1 1 w8 unsigned rest value (λ h. h)
    (whole_read 1 w8 one_byte unsigned bytes rest value are e)
read_form Whole2 unsigned bytes rest value are e =
    as_read Whole2 2 w16 unsigned rest value (λ h. h)
    (whole_read 2 w16 two_bytes unsigned bytes rest value are e)
read_form Whole4 unsigned bytes rest value are e =
    as_read Whole4 4 w32 unsigned rest value (λ h. h)
    (whole_read 4 w32 four_bytes unsigned bytes rest value are e)
read_form Whole8 unsigned bytes rest value are e =
    as_read Whole8 8 w64 unsigned rest value (λ h. h)
    (whole_read 8 w64 eight_bytes unsigned bytes rest value are e)
read_form FloatBits unsigned bytes rest value are e =
    let read = number_read 4 (λ n. Float n) bytes rest value e in (
      subst (λ value. is_none (binary_cell FloatBits unsigned value) ≡ false) read.0 refl,
      subst (λ value. read_back value ≡ without_zero_sign value) read.0 refl,
      subst AreBytes read.1 (dropped 4 bytes are),
    )
read_form DoubleBits unsigned bytes rest value are e =
    let read = number_read 8 (λ n. Double n) bytes rest value e in (
      subst (λ value. is_none (binary_cell DoubleBits unsigned value) ≡ false) read.0 refl,
      subst (λ value. read_back value ≡ without_zero_sign value) read.0 refl,
      subst AreBytes read.1 (dropped 8 bytes are),
    )
read_form Counted unsigned bytes rest value are e =
    text_read (λ held. Bytes held) Counted unsigned (λ held. (refl, refl)) (lenenc_str_at bytes)
    rest value (λ found is. counted_left (lenenc_int_at bytes) found
    (λ p some. number_left bytes p are some) is) e
read_form DateAndTime unsigned bytes rest value are e =
    text_read date_of DateAndTime unsigned (λ held. (refl, refl)) (u8_str_at bytes) rest value
    (λ found is. counted_left (little_at 1 bytes) found
    (λ p some. first_left 1 _ bytes p are some) is) e
read_form Duration unsigned bytes rest value are e =
    text_read time_of Duration unsigned (λ held. (refl, refl)) (u8_str_at bytes) rest value
    (λ found is. counted_left (little_at 1 bytes) found
    (λ p some. first_left 1 _ bytes p are some) is) e
read_form Without unsigned bytes rest value are e = absurd (cc)

-- BY A TYPE

pub read_cells_are_written : ReadCellsAreWritten
unfolding cell_at
read_cells_are_written t unsigned bytes rest value are e =
    read_form (form t) unsigned bytes rest value are
    (sym (ap (λ (shape : CellForm). value_at shape unsigned bytes) (form_back t)) ∙ e)
