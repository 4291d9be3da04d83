-- Fields that were read: what their forms hold, and that bytes are left behind them.
use Rattle.std.proofs.Common.{◌≡◌, ◌<◌, ◌≤◌, ◌+◌, ◌^◌, ◌==◌, if◌then◌else◌, nat_lt, ℕ, suc, Bool, true, false, List, []}
use Rattle.std.proofs.Common.{◌∷◌, length}
use Rattle.std.proofs.Common.{take, drop, Option, None, Some, Ok, Err, inl, inr, refl, sym, ap, ◌∙◌, subst, arith, lit<}
use Rattle.std.proofs.Common.{length-append, length-drop}
use Rattle.std.proofs.lemmas.Bool.{cases_lt, eqb-true}
use Rattle.std.proofs.lemmas.List.{get_or-drop, get_or-take, get_or_past, length-take}
use Rattle.byteorder.specs.Endian.{little_number}
use Rattle.mysql_buf.specs.Bytes.{AreBytes}
use Rattle.mysql_buf.specs.FirstBytes.{first-some}
use Rattle.mysql_buf.specs.Reading as buffer
use Rattle.mysql_buf.specs.Reading.{lenenc_int_at, little_at}
use Rattle.mysql_buf.specs.TextLaws.{left-of, lenenc_int-shortest}
use Rattle.mysql_buf.specs.Writing.{lenenc_int, lenenc_str}
use Rattle.mysql_field_constants.specs.Constants.{constant_at, is_constant, is_text, skipped_at, text_constant_at}
use Rattle.mysql_fields.specs.Forms.{bytes_at, fixed_number_at, lenenc_number_at}
use Rattle.mysql_fields.specs.Laws.{bind_ok, done, ok_same}
use Rattle.mysql_fields.specs.Texts.{lenenc_text_at, u8_text_at}
use Rattle.mysql_fields.specs.Wire.{or_end}
use Rattle.mysql_fields.specs.declared.error.WireError.TheVariants.{BadConstant}

-- so many bytes stand there at least, and bytes are left
abbrev pub Takes : List ℕ → ℕ → List ℕ → Type 0
Takes bytes taken left = (taken + length left ≤ length bytes) × AreBytes left

pub stands : {X : Type 0} (o : Option X) (x : X) → or_end o ≡ Ok x → o ≡ Some x
stands None x h = absurd cc
stands (Some y) x h = cc

pub left_bytes : (n : ℕ) (bytes : List ℕ) → AreBytes bytes → AreBytes (drop n bytes)
left_bytes n bytes small i = rw (get_or-drop n bytes i 0) (small (n + i))

pub taken_bytes : (n : ℕ) (bytes : List ℕ) → AreBytes bytes → AreBytes (take n bytes)
taken_bytes n bytes small i = elim (cases_lt i n) [
  | inl lt ↦ rw (get_or-take n bytes i 0 lt) (small i)
  | inr le ↦ rw (get_or_past (take n bytes) i 0 (omega (arith, length-take n bytes))) (lit< tt)
]

-- a number of n bytes
pub number_read : (n : ℕ) (bytes : List ℕ) (x : ℕ × List ℕ) → AreBytes bytes → fixed_number_at n bytes ≡ Ok x →
    (x.0 < 256 ^ n) × Takes bytes n x.1
number_read n bytes x small h =
    let some = stands (little_at n bytes) x h in
    let part = first-some n (little_number n) bytes x some in
    let left : drop n bytes ≡ x.1 = sym (ap (λ (p : ℕ × List ℕ). p.1) part.1) in
    let own = left-of n bytes x.0 x.1 small some in
    (own.0, (omega (arith, own.1), subst AreBytes left (left_bytes n bytes small)))

-- it is what the bytes say, and those behind are left
pub number_own : (n : ℕ) (bytes : List ℕ) (x : ℕ × List ℕ) → fixed_number_at n bytes ≡ Ok x →
    (x.0 ≡ little_number n bytes) × (x.1 ≡ drop n bytes)
number_own n bytes x h =
    let part = first-some n (little_number n) bytes x (stands (little_at n bytes) x h) in
    (ap (λ (p : ℕ × List ℕ). p.0) part.1, ap (λ (p : ℕ × List ℕ). p.1) part.1)

-- n bytes
abbrev pub BlockRead : ℕ → List ℕ → List ℕ × List ℕ → Type 0
BlockRead n bytes x = (x.0 ≡ take n bytes) × (length x.0 ≡ n) × AreBytes x.0 × Takes bytes n x.1

pub block_read : (n : ℕ) (bytes : List ℕ) (x : List ℕ × List ℕ) → AreBytes bytes → bytes_at n bytes ≡ Ok x →
    BlockRead n bytes x
block_read n bytes x small h =
    let part = first-some n (take n) bytes x (stands (buffer.bytes_at n bytes) x h) in
    subst (BlockRead n bytes) (sym part.1) (
      refl,
      omega (arith, part.0, length-take n bytes),
      taken_bytes n bytes small,
      (omega (arith, part.0, length-drop n bytes), left_bytes n bytes small),
    )

constant_by : (b : Bool) (x y : ℕ × List ℕ) → (if b then done x else Err BadConstant) ≡ done y → (b ≡ true) × (x ≡ y)
constant_by true x y h = (refl, ok_same x y h)
constant_by false x y h = absurd cc

pub constant_own : (size n : ℕ) (bytes : List ℕ) (x : ℕ × List ℕ) → constant_at size n bytes ≡ Ok x →
    (little_number size bytes ≡ n) × (x.1 ≡ drop size bytes)
constant_own size n bytes x h =
    let number = bind_ok (fixed_number_at size bytes) (is_constant n) x h in
    let own = number_own size bytes number.0 number.1 in
    let by = constant_by (number.0.0 == n) number.0 x number.2 in
    (sym own.0 ∙ eqb-true number.0.0 n by.0, sym (ap (λ (p : ℕ × List ℕ). p.1) by.1) ∙ own.1)

pub constant_read : (size n : ℕ) (bytes : List ℕ) (x : ℕ × List ℕ) → AreBytes bytes → constant_at size n bytes ≡ Ok x →
    Takes bytes size x.1
constant_read size n bytes x small h =
    let number = bind_ok (fixed_number_at size bytes) (is_constant n) x h in
    subst (λ (y : ℕ × List ℕ). Takes bytes size y.1) (constant_by (number.0.0 == n) number.0 x number.2).1
    (number_read size bytes number.0 small number.1).1

text_by : (b : Bool) (rest : List ℕ) (y : Unit {0} × List ℕ) →
    (if b then done (tt, rest) else Err BadConstant) ≡ done y →
    rest ≡ y.1
text_by true rest y h = ap (λ (z : Unit {0} × List ℕ). z.1) (ok_same (tt, rest) y h)
text_by false rest y h = absurd cc

pub constant_text_read : (n : ℕ) (text bytes : List ℕ) (x : Unit {0} × List ℕ) → AreBytes bytes →
    text_constant_at n text bytes ≡ Ok x → Takes bytes n x.1
constant_text_read n text bytes x small h =
    let block = bind_ok (bytes_at n bytes) (is_text text) x h in
    let read = block_read n bytes block.0 small block.1 in
    subst (Takes bytes n) (text_by _ block.0.1 x block.2) read.3

pub skipped_read : (n : ℕ) (bytes : List ℕ) (x : Unit {0} × List ℕ) → AreBytes bytes → skipped_at n bytes ≡ Ok x →
    Takes bytes n x.1
skipped_read n bytes x small h =
    let block = bind_ok (bytes_at n bytes) _ x h in
    let read = block_read n bytes block.0 small block.1 in
    let made : Unit {0} × List ℕ = (tt, block.0.1) in
    subst (λ (y : Unit {0} × List ℕ). Takes bytes n y.1) (ok_same made x block.2) read.3

-- LENGTHS

-- a length that fits 64 bits
abbrev pub LengthRead : ℕ × List ℕ → Type 0
LengthRead x = (x.0 < 2 ^ 64) × AreBytes x.1

little_read : (n : ℕ) (bytes : List ℕ) (x : ℕ × List ℕ) → AreBytes bytes → little_at n bytes ≡ Some x →
    (x.0 < 256 ^ n) × AreBytes x.1
little_read n bytes x small h =
    let read = number_read n bytes x small (ap or_end h) in
    (read.0, read.1.1)

lenenc_read : (bytes : List ℕ) (x : ℕ × List ℕ) → AreBytes bytes → lenenc_int_at bytes ≡ Some x → LengthRead x
lenenc_read [] x small h = absurd cc
lenenc_read (b ∷ bs) x small h = go (nat_lt b 251) (b == 252) (b == 253) (b == 254) h where
  rest : AreBytes bs
  rest i = small (suc i)

  go : (one two three eight : Bool) →
      (if one then Some (b, bs) else if two then little_at 2 bs else if three then little_at 3 bs
      else if eight then little_at 8 bs else Some (0, bs)) ≡ Some x → LengthRead x
  go true two three eight e =
      let low : b < 256 = small 0 in
      let same : (b, bs) ≡ x = cc in subst LengthRead same (omega (arith, low), rest)
  go false true three eight e = let part = little_read 2 bs x rest e in (omega (arith, part.0), part.1)
  go false false true eight e = let part = little_read 3 bs x rest e in (omega (arith, part.0), part.1)
  go false false false true e = let part = little_read 8 bs x rest e in (omega (arith, part.0), part.1)
  go false false false false e = let same : (0, bs) ≡ x = cc in subst LengthRead same (omega arith, rest)

pub length_read : (bytes : List ℕ) (x : ℕ × List ℕ) → AreBytes bytes → lenenc_number_at bytes ≡ Ok x →
    (x.0 < 2 ^ 64) × Takes bytes (length (lenenc_int x.0)) x.1
length_read bytes x small h =
    let some = stands (lenenc_int_at bytes) x h in
    let read = lenenc_read bytes x small some in
    let short = lenenc_int-shortest x.0 bytes x.1 small some in
    (read.0, (omega (arith, short), read.1))

-- a text behind its length, which fits 64 bits
abbrev pub TextRead : List ℕ → List ℕ × List ℕ → Type 0
TextRead bytes x = (length x.0 < 2 ^ 64) × AreBytes x.0 × Takes bytes (length (lenenc_str x.0)) x.1

pub text_read : (bytes : List ℕ) (x : List ℕ × List ℕ) → AreBytes bytes → lenenc_text_at bytes ≡ Ok x → TextRead bytes x
text_read bytes x small h = go (lenenc_int_at bytes) refl h where
  go : (o : Option (ℕ × List ℕ)) → lenenc_int_at bytes ≡ o →
      or_end (buffer.then_at o buffer.bytes_at) ≡ Ok x → TextRead bytes x
  go None is e = absurd cc
  go (Some n) is e =
      let number = length_read bytes n small (ap or_end is) in
      let block = block_read n.0 n.1 x number.1.1 e in
      let len = block.1 in
      let bound : length (lenenc_int (length x.0)) + length x.0 + length x.1 ≤ length bytes =
      rw (len) (omega (arith, number.1.0, block.3.0)) in (
        omega (arith, len, number.0),
        block.2,
        (omega (arith, bound, length-append (lenenc_int (length x.0)) x.0), block.3.1),
      )

-- a text behind its length in one byte
pub short_text_read : (bytes : List ℕ) (x : List ℕ × List ℕ) → AreBytes bytes → u8_text_at bytes ≡ Ok x →
    AreBytes x.0 × AreBytes x.1
short_text_read bytes x small h = go (little_at 1 bytes) refl h where
  go : (o : Option (ℕ × List ℕ)) → little_at 1 bytes ≡ o →
      or_end (buffer.then_at o buffer.bytes_at) ≡ Ok x → AreBytes x.0 × AreBytes x.1
  go None is e = absurd cc
  go (Some n) is e =
      let number = number_read 1 bytes n small (ap or_end is) in
      let block = block_read n.0 n.1 x number.1.1 e in
      (block.2, block.3.1)
