-- Fields that were read: what their forms hold, and that bytes are left behind them.
use Rattle.std.proofs.Common.{◌≡◌, ◌<◌, ◌≤◌, ◌+◌, ◌^◌, ◌==◌, if◌then◌else◌, nat_lt, ℕ, Bool, true, false, List, length}
use Rattle.std.proofs.Common.{take, drop, Option, None, Some, Ok, Err}
use Rattle.std.proofs.Common.{refl, sym, ap, ◌∙◌, subst, arith}
use Rattle.std.proofs.lemmas.List.{get_or-drop, get_or-take, length-take}
use Rattle.std.proofs.lemmas.List.Sums.{fails_before_first, position_or_len_is}
use Rattle.std.proofs.Math.Seq.{take-length}
use Rattle.std.specs.List.{after_first, before_first, position_or_len}
use Rattle.byteorder.specs.Endian.{little_number}
use Rattle.mysql_buf.specs.Bytes.{AreBytes}
use Rattle.mysql_buf.specs.FirstBytes.{first-some}
use Rattle.mysql_buf.specs.Reading as buffer
use Rattle.mysql_buf.specs.Reading.{is_zero, little_at}
use Rattle.mysql_buf.specs.TextLaws.{left-of}
use Rattle.mysql_field_constants.specs.Constants.{constant_at, is_constant}
use Rattle.mysql_fields.specs.Forms.{fixed_number_at}
use Rattle.mysql_fields.specs.Laws.{bind_ok, done, ok_same}
use Rattle.mysql_fields.specs.Texts.{null_text_at, u8_text_at}
use Rattle.mysql_fields.specs.Wire.{or_end}
use Rattle.mysql_fields.specs.declared.error.WireError.TheVariants.{BadConstant, UnexpectedEof}

pub stands : {X : Type 0} (o : Option X) (x : X) → or_end o ≡ Ok x → o ≡ Some x
stands None x h = absurd cc
stands (Some y) x h = cc

pub left_bytes : (n : ℕ) (bytes : List ℕ) → AreBytes bytes → AreBytes (drop n bytes)
left_bytes n bytes small = λ i. rw (get_or-drop n bytes i 0) (small (n + i))

-- a number that was read fits its field
pub number_read : (n : ℕ) (bytes : List ℕ) (x : ℕ × List ℕ) → AreBytes bytes → fixed_number_at n bytes ≡ Ok x →
    (x.0 < 256 ^ n) × AreBytes x.1
number_read n bytes x small h =
    let some = stands (little_at n bytes) x h in
    let part = first-some n (little_number n) bytes x some in
    let left : drop n bytes ≡ x.1 = sym (ap (λ (p : ℕ × List ℕ). p.1) part.1) in (
      (left-of n bytes x.0 x.1 small some).0,
      subst AreBytes left (left_bytes n bytes small),
    )

constant_by : (b : Bool) (x y : ℕ × List ℕ) → (if b then done x else Err BadConstant) ≡ done y → x ≡ y
constant_by true x y h = ok_same x y h
constant_by false x y h = absurd cc

-- bytes left behind a constant
pub constant_read : (size n : ℕ) (bytes : List ℕ) (x : ℕ × List ℕ) → AreBytes bytes → constant_at size n bytes ≡ Ok x →
    AreBytes x.1
constant_read size n bytes x small h =
    let number = bind_ok (fixed_number_at size bytes) (is_constant n) x h in
    let rest = (number_read size bytes number.0 small number.1).1 in
    subst (λ (y : ℕ × List ℕ). AreBytes y.1) (constant_by (number.0.0 == n) number.0 x number.2) rest

text_by : (bytes : List ℕ) (x : List ℕ × List ℕ) (r : Option (ℕ × List ℕ)) → AreBytes bytes → little_at 1 bytes ≡ r →
    buffer.then_at r buffer.bytes_at ≡ Some x → (length x.0 ≤ 255) × AreBytes x.1
text_by bytes x None small e h = absurd cc
text_by bytes x (Some n) small e h =
    let read = number_read 1 bytes n small (ap or_end e) in
    let part = first-some n.0 (take n.0) n.1 x h in
    let text : x.0 ≡ take n.0 n.1 = ap (λ (p : List ℕ × List ℕ). p.0) part.1 in
    let left : drop n.0 n.1 ≡ x.1 = sym (ap (λ (p : List ℕ × List ℕ). p.1) part.1) in
    let low : n.0 < 256 ^ 1 = read.0 in (
      omega (arith, ap length text, length-take n.0 n.1),
      subst AreBytes left (left_bytes n.0 n.1 read.1),
    )

-- a text behind its length in one byte
pub text_read : (bytes : List ℕ) (x : List ℕ × List ℕ) → AreBytes bytes → u8_text_at bytes ≡ Ok x →
    (length x.0 ≤ 255) × AreBytes x.1
text_read bytes x small h =
    text_by bytes x (little_at 1 bytes) small refl (stands (buffer.then_at (little_at 1 bytes) buffer.bytes_at) x h)

-- the front before the first zero has none
pub front_again : (bytes : List ℕ) → before_first is_zero (before_first is_zero bytes) ≡ before_first is_zero bytes
front_again bytes =
    let place = position_or_len is_zero bytes in
    let short : length (before_first is_zero bytes) ≤ position_or_len is_zero bytes =
    omega (arith, length-take (position_or_len is_zero bytes) bytes) in
    let all : position_or_len is_zero (before_first is_zero bytes) ≡ length (before_first is_zero bytes) =
    position_or_len_is is_zero (before_first is_zero bytes) (length (before_first is_zero bytes)) 0 (omega arith)
    (λ k h. rw (get_or-take (position_or_len is_zero bytes) bytes k 0 (omega arith))
    (fails_before_first is_zero bytes k 0 (omega arith)))
    (λ h. absurd (omega arith)) in
    ap (λ (n : ℕ). take n (before_first is_zero bytes)) all ∙ take-length (before_first is_zero bytes)

-- a text that ends before a zero
abbrev pub NameRead : List ℕ → List ℕ × List ℕ → Type 0
NameRead bytes x = (before_first is_zero x.0 ≡ x.0) × (AreBytes bytes → AreBytes x.1)

pub name_read : (bytes : List ℕ) (x : List ℕ × List ℕ) → null_text_at bytes ≡ Ok x → NameRead bytes x
name_read bytes x h = go (nat_lt (position_or_len is_zero bytes) (length bytes)) h where
  go : (b : Bool) → (if b then done (before_first is_zero bytes, after_first is_zero bytes) else Err
      UnexpectedEof) ≡ done x
      → NameRead bytes x
  go true e =
      subst (NameRead bytes) (ok_same (before_first is_zero bytes, after_first is_zero bytes) x e)
      (front_again bytes, λ small. left_bytes (position_or_len is_zero bytes + 1) bytes small)
  go false e = absurd cc
