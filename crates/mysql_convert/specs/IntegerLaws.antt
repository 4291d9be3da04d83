-- Lemmas: a whole number that was made a value is read again from it.
use Rattle.std.specs.Prelude.{◌≡◌, ◌==◌, ℕ, ℤ, pos, negsuc, ◌^◌, ◌-◌, ◌+◌, ◌*◌, ◌≤◌, ◌<◌, Bool, true, false, nat_lt}
use Rattle.std.specs.Prelude.{List, [], ◌∷◌, Option, Some, None, if◌then◌else◌, ◌&&◌, fold, unsigned_abs, refl, suc}
use Rattle.std.specs.Fmt.{decimal}
use Rattle.std.specs.Option.{option_map}
use Rattle.std.specs.List.{list_all}
use Rattle.std.specs.Str.Parse.{AllDigits, IsNumeral, digits_value, digits_value_after}
use Rattle.std.proofs.lemmas.Str.{digit_value_digit}
use Rattle.std.proofs.lemmas.Str.Parse.{digit_from_value}
use Rattle.std.specs.Char.{digit_value}
use Rattle.std.proofs.Common.{arith, sym, ap, ◌∙◌, subst}
use Rattle.std.proofs.lemmas.Bool.Decides.{nat_tests}
use Rattle.std.proofs.lemmas.Fmt.{decimal_is_IsNumeral_wide}
use Rattle.mysql_queries.specs.Literals.{is_digit}
use Rattle.mysql_cells.specs.declared.value.Value.TheVariants.{Int, UInt, Bytes}
use Rattle.mysql_convert.specs.Numbers.{HoldsNumber, signed, digits_number, signed_in, unsigned_in, text_number}
use Rattle.mysql_values.specs.Contents.{integer_value}

-- the number that digits write behind a number; none where another byte stands
abbrev pub digits_after : ℕ → List ℕ → Option ℕ
digits_after n [] = Some n
digits_after n (b ∷ bytes) = if is_digit b then digits_after (n * 10 + (b - 0x30)) bytes else None

-- the same, where all bytes are looked at first
abbrev pub number_behind : ℕ → List ℕ → Option ℕ
number_behind n bytes = if list_all is_digit bytes then Some (fold (λ m d. m * 10 + (d - 0x30)) n bytes) else None

first_digit : (t : Bool) (n : ℕ) (bytes : List ℕ) → digits_after n bytes ≡ number_behind n bytes
    → (if t then digits_after n bytes else None) ≡
    (if t && list_all is_digit bytes then Some (fold (λ m d. m * 10 + (d - 0x30)) n bytes) else
    None)
first_digit true n bytes h = h
first_digit false n bytes h = refl

one_by_one : (n : ℕ) (bytes : List ℕ) → digits_after n bytes ≡ number_behind n bytes
one_by_one n [] = refl
one_by_one n (b ∷ bytes) = first_digit (is_digit b) (n * 10 + (b - 0x30)) bytes (one_by_one (n * 10 + (b - 0x30)) bytes)

pub digits_number-after : (b : ℕ) (bytes : List ℕ) → digits_number (b ∷ bytes) ≡ digits_after 0 (b ∷ bytes)
digits_number-after b bytes = sym (one_by_one 0 (b ∷ bytes))

only_this : {A : Type 0} (t : Bool) (x y : A) → (if t then Some x else None) ≡ Some y → x ≡ y
only_this true x y e = cc
only_this false x y e = absurd (cc)

taken : {A : Type 0} (t : Bool) (x y : A) → (if t then Some x else None) ≡ Some y → t ≡ true
taken true x y e = refl
taken false x y e = absurd (cc)

not_below : {A : Type 0} (n m : ℕ) (x : A) → m ≤ n → (if nat_lt n m then Some x else None) ≡ None
not_below n m x h = let f : nat_lt n m ≡ false = grind (arith, nat_tests) in rw f refl

signed_in-same : (bits : ℕ) (z x : ℤ) → signed_in bits z ≡ Some x → x ≡ z
signed_in-same bits (pos n) x e = sym (only_this (nat_lt n (2 ^ (bits - 1))) (pos n) x e)
signed_in-same bits (negsuc n) x e = sym (only_this (nat_lt n (2 ^ (bits - 1))) (negsuc n) x e)

unsigned_in-same : (bits : ℕ) (z : ℤ) (n : ℕ) → unsigned_in bits z ≡ Some n → pos n ≡ z
unsigned_in-same bits (pos m) n e = ap pos (sym (only_this (nat_lt m (2 ^ bits)) m n e))
unsigned_in-same bits (negsuc m) n e = absurd (cc)

pub signed_in-holds : (bits : ℕ) (z x : ℤ) → signed_in bits z ≡ Some x → HoldsNumber z (Int x)
signed_in-holds bits z x e = (ap (λ y. Some y) (signed_in-same bits z x e), refl)

pub unsigned_in-held_signed : (bits : ℕ) (z : ℤ) (n : ℕ) → unsigned_in bits z ≡ Some n → HoldsNumber z (Int (pos n))
unsigned_in-held_signed bits z n e = (ap (λ y. Some y) (unsigned_in-same bits z n e), refl)

pub unsigned_in-holds : (bits : ℕ) (z : ℤ) (n : ℕ) → unsigned_in bits z ≡ Some n → HoldsNumber z (UInt n)
unsigned_in-holds bits z n e = (ap (λ y. Some y) (unsigned_in-same bits z n e), refl)

pub signed_in-small : (bits : ℕ) → 2 ^ (bits - 1) < 2 ^ 128 → (z : ℤ) → 2 ^ 128 ≤ unsigned_abs z →
    signed_in bits z ≡ None
signed_in-small bits b (pos n) h = not_below n (2 ^ (bits - 1)) (pos n) (omega (arith, b, h))
signed_in-small bits b (negsuc n) h = not_below n (2 ^ (bits - 1)) (negsuc n) (omega (arith, b, h))

pub unsigned_in-small : (bits : ℕ) → 2 ^ bits ≤ 2 ^ 128 → (z : ℤ) → 2 ^ 128 ≤ unsigned_abs z → unsigned_in bits z ≡ None
unsigned_in-small bits b (pos n) h = not_below n (2 ^ bits) n (omega (arith, b, h))
unsigned_in-small bits b (negsuc n) h = refl

digit_of : (b : ℕ) → digit_value b < 10 → (is_digit b ≡ true) × (digit_value b ≡ b - 0x30) × (48 ≤ b) × (b ≤ 57)
digit_of b h =
    let r : (48 ≤ b) × (b ≤ 57) = digit_from_value b h in
    let low : 48 ≤ b = r.0 in
    let high : b ≤ 57 = r.1 in
    let v : digit_value b + 48 ≡ b = digit_value_digit b r in
    (grind (arith, nat_tests, low, high), omega (arith, v, low), low, high)

all_digits : (n : ℕ) (bytes : List ℕ) → AllDigits 10 bytes → digits_after n bytes ≡ Some (digits_value_after 10 n bytes)
all_digits n [] h = refl
all_digits n (b ∷ bytes) h =
    let d : (is_digit b ≡ true) × (digit_value b ≡ b - 0x30) × (48 ≤ b) × (b ≤ 57) = digit_of b h.0 in
    rw (d.0, d.1) (all_digits (n * 10 + (b - 0x30)) bytes h.1)

of_digits : (bytes : List ℕ) → IsNumeral 10 bytes → digits_number bytes ≡ Some (digits_value_after 10 0 bytes)
of_digits [] h = absurd (omega (arith, h.0))
of_digits (b ∷ bytes) h = digits_number-after b bytes ∙ all_digits 0 (b ∷ bytes) h.1

of_text : (bytes : List ℕ) → IsNumeral 10 bytes → text_number bytes ≡ Some (pos (digits_value_after 10 0 bytes))
of_text [] h = absurd (omega (arith, h.0))
of_text (b ∷ bytes) h =
    let d : (is_digit b ≡ true) × (digit_value b ≡ b - 0x30) × (48 ≤ b) × (b ≤ 57) = digit_of b h.1.0 in
    let low : 48 ≤ b = d.2 in
    let minus : (b == 0x2d) ≡ false = grind (arith, nat_tests, low) in
    let plus : (b == 0x2b) ≡ false = grind (arith, nat_tests, low) in
    rw (minus, plus) (ap (option_map (signed false)) (of_digits (b ∷ bytes) h))

decimal_text : (n : ℕ) → n ≤ 2 ^ 128 → text_number (decimal n) ≡ Some (pos n)
decimal_text n h =
    let d : IsNumeral 10 (decimal n) × (digits_value 10 (decimal n) ≡ n) =
    decimal_is_IsNumeral_wide n (omega (arith, h)) in
    of_text (decimal n) d.0 ∙ ap (λ m. Some (pos m)) d.1

negative_text : (n : ℕ) → n < 2 ^ 128 → text_number (0x2d ∷ decimal (suc n)) ≡ Some (negsuc n)
negative_text n h =
    let d : IsNumeral 10 (decimal (suc n)) × (digits_value 10 (decimal (suc n)) ≡ suc n) =
    decimal_is_IsNumeral_wide (suc n) (omega (arith, h)) in
    ap (option_map (signed true)) (of_digits (decimal (suc n)) d.0 ∙ ap (λ m. Some m) d.1)

natural_held : (n : ℕ) → n ≤ 2 ^ 128 → (s t : Bool) →
    HoldsNumber (pos n) (if s then Int (pos n) else (if t then UInt n else Bytes (decimal n)))
natural_held n h true t = (refl, refl)
natural_held n h false true = (refl, refl)
natural_held n h false false = (decimal_text n h, refl)

negative_held : (n : ℕ) → n < 2 ^ 128 → (s : Bool) →
    HoldsNumber (negsuc n) (if s then Int (negsuc n) else Bytes (0x2d ∷ decimal (suc n)))
negative_held n h true = (refl, refl)
negative_held n h false = (negative_text n h, refl)

-- a number of at most 128 bits, with or without a sign, is read again from its value
integer_value-held : (z : ℤ) → unsigned_abs z ≤ 2 ^ 128 → HoldsNumber z (integer_value z)
integer_value-held (pos n) h = natural_held n h (nat_lt n (2 ^ 63)) (nat_lt n (2 ^ 64))
integer_value-held (negsuc n) h = negative_held n (omega (arith, h)) (nat_lt n (2 ^ 63))

below : (n m : ℕ) → nat_lt n m ≡ true → n < m
below n m h = grind (arith, nat_tests, h)

signed_in-fits : (z x : ℤ) → signed_in 128 z ≡ Some x → unsigned_abs z ≤ 2 ^ 128
signed_in-fits (pos n) x e = let l : n < 2 ^ 127 =
    below n (2 ^ 127) (taken (nat_lt n (2 ^ 127)) (pos n) x e) in omega (arith, l)
signed_in-fits (negsuc n) x e = let l : n < 2 ^ 127 =
    below n (2 ^ 127) (taken (nat_lt n (2 ^ 127)) (negsuc n) x e) in omega (arith, l)

unsigned_in-fits : (z : ℤ) (n : ℕ) → unsigned_in 128 z ≡ Some n → unsigned_abs z ≤ 2 ^ 128
unsigned_in-fits (pos m) n e = let l : m < 2 ^ 128 =
    below m (2 ^ 128) (taken (nat_lt m (2 ^ 128)) m n e) in omega (arith, l)
unsigned_in-fits (negsuc m) n e = absurd (cc)

pub signed_in-held_wide : (z x : ℤ) → signed_in 128 z ≡ Some x → HoldsNumber z (integer_value x)
signed_in-held_wide z x e =
    subst (λ y. HoldsNumber z (integer_value y)) (sym (signed_in-same 128 z x e))
    (integer_value-held z (signed_in-fits z x e))

pub unsigned_in-held_wide : (z : ℤ) (n : ℕ) → unsigned_in 128 z ≡ Some n → HoldsNumber z (integer_value (pos n))
unsigned_in-held_wide z n e =
    subst (λ y. HoldsNumber z (integer_value y)) (sym (unsigned_in-same 128 z n e))
    (integer_value-held z (unsigned_in-fits z n e))
