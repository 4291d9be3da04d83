-- The forms of constants have their sizes, and what is written in them reads back.
use Rattle.std.proofs.Common.{◌≡◌, ◌==◌, ◌^◌, ◌<◌, Bool, true, false, cond, ℕ, List, [], ◌∷◌, ◌++◌, length, take}
use Rattle.std.proofs.Common.{replicate, Option, Some, None, Ok, Err, refl, sym, ap, eq-eqb}
use Rattle.std.proofs.lemmas.List.{length-replicate}
use Rattle.std.specs.Str.{bytes_eq}
use Rattle.byteorder.specs.Endian.{little_bytes}
use Rattle.mysql_field_constants.specs.Constants.{constant_at, ignored, is_constant, is_text, named_at, or_unknown}
use Rattle.mysql_field_constants.specs.Constants.{text_constant_at, skipped_at}
use Rattle.mysql_fields.specs.Forms.{bytes_at, fixed_number_at}
use Rattle.mysql_fields.specs.Laws.{done, first-sized, fixed_number_at-back, fixed_number_at-sized, ok_same, sized-then}
use Rattle.mysql_fields.specs.Laws.{bytes-back}
use Rattle.mysql_fields.specs.Wire.{IsSized, Reading, or_end}
use Rattle.mysql_fields.specs.declared.error.WireError.TheVariants.{BadConstant}

constant_rest : (n : ℕ) (x y : ℕ × List ℕ) → is_constant n x ≡ Ok y → y.1 ≡ x.1
constant_rest n x y e = go (x.0 == n) e where
  go : (b : Bool) → cond b (done x) (Err BadConstant) ≡ done y → y.1 ≡ x.1
  go true e = sym (ap (λ (z : ℕ × List ℕ). z.1) (ok_same x y e))
  go false e = absurd cc

pub constant_at-sized : (size n : ℕ) → IsSized (Some size) (constant_at size n)
constant_at-sized size n =
    sized-then (Some size) (fixed_number_at size) (is_constant n) (fixed_number_at-sized size)
    (constant_rest n)

pub constant_at-back : (size n : ℕ) (rest : List ℕ) → n < 256 ^ size →
    constant_at size n (little_bytes size n ++ rest) ≡ Ok (n, rest)
constant_at-back size n rest h = rw (fixed_number_at-back size n rest h, eq-eqb n n refl) refl

ignored_rest : (x : List ℕ × List ℕ) (y : Unit {0} × List ℕ) → ignored x ≡ Ok y → y.1 ≡ x.1
ignored_rest x y e = sym (ap (λ (z : Unit {0} × List ℕ). z.1) (ok_same (tt, x.1) y e))

pub skipped_at-sized : (n : ℕ) → IsSized (Some n) (skipped_at n)
skipped_at-sized n = sized-then (Some n) (bytes_at n) ignored (first-sized n (take n)) ignored_rest

pub skipped_at-back : (n : ℕ) (rest : List ℕ) → skipped_at n (replicate n 0 ++ rest) ≡ Ok (tt, rest)
skipped_at-back n rest = rw (bytes-back n (replicate n 0) rest (sym (length-replicate n 0))) refl

same_bytes : (text : List ℕ) → bytes_eq text text ≡ true
same_bytes [] = refl
same_bytes (x ∷ xs) = rw (eq-eqb x x refl) (same_bytes xs)

text_rest : (text : List ℕ) (x : List ℕ × List ℕ) (y : Unit {0} × List ℕ) → is_text text x ≡ Ok y → y.1 ≡ x.1
text_rest text x y e = go (bytes_eq x.0 text) e where
  go : (b : Bool) → cond b (done (tt, x.1)) (Err BadConstant) ≡ done y → y.1 ≡ x.1
  go true e = sym (ap (λ (z : Unit {0} × List ℕ). z.1) (ok_same (tt, x.1) y e))
  go false e = absurd cc

pub text_constant_at-sized : (n : ℕ) (text : List ℕ) → IsSized (Some n) (text_constant_at n text)
text_constant_at-sized n text =
    sized-then (Some n) (bytes_at n) (is_text text) (first-sized n (take n)) (text_rest text)

pub text_constant_at-back : (n : ℕ) (text rest : List ℕ) → length text ≡ n →
    text_constant_at n text (text ++ rest) ≡ Ok (tt, rest)
text_constant_at-back n text rest h = rw (bytes-back n text rest (sym h), same_bytes text) refl

named_rest : {X Y : Type 0} (named : X → Option Y) (x : X × List ℕ) (y : Y × List ℕ) →
    or_unknown (named x.0) x.1 ≡ Ok y → y.1 ≡ x.1
named_rest {Y = Y} named x y e = go (named x.0) e where
  go : (o : Option Y) → or_unknown o x.1 ≡ Ok y → y.1 ≡ x.1
  go None e = absurd cc
  go (Some v) e = sym (ap (λ (z : Y × List ℕ). z.1) (ok_same (v, x.1) y e))

pub named_at-sized : {X Y : Type 0} (size : Option ℕ) (named : X → Option Y) (read_at : List ℕ →
    Reading X) → IsSized size read_at → IsSized size (named_at named read_at)
named_at-sized size named read_at h = sized-then size read_at (λ x. or_unknown (named x.0) x.1) h (named_rest named)

-- a value that was written by its number is read again
pub named_at-back : {X Y : Type 0} (named : X → Option Y) (number : Y → X) (read_at : List ℕ →
    Reading X) (written : X → List ℕ) (y : Y) (rest : List ℕ)
    → named (number y) ≡ Some y → read_at (written (number y) ++ rest) ≡ Ok (number y, rest) →
    named_at named read_at (written (number y) ++ rest) ≡ Ok (y, rest)
named_at-back named number read_at written y rest is back = rw (back, is) refl
