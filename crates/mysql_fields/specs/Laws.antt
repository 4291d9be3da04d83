-- The forms of numbers have their sizes, and what is written in them reads back.
use Rattle.std.proofs.Common.{◌≡◌, ◌+◌, ◌*◌, ◌/◌, ◌%◌, ◌^◌, ◌<◌, ◌≤◌, nat_lt, Bool, true, false, ℕ, ℤ, List, ◌++◌}
use Rattle.std.proofs.Common.{length, take, drop, Result, Ok, Err, Option, Some, None, refl, sym, ap, ◌∙◌, inl, inr}
use Rattle.std.proofs.Common.{arith}
use Rattle.std.proofs.lemmas.Bool.{cases_lt, le-ltb, lt-ltb, ltb-true}
use Rattle.std.proofs.lemmas.List.{drop-drop}
use Rattle.std.specs.Int.{Width, byte_len, cast_unsigned}
use Rattle.byteorder.specs.Endian.{little_bytes, little_number, twos_complement}
use Rattle.mysql_buf.specs.FirstBytes.{first-enough, first-short}
use Rattle.mysql_buf.specs.Laws.{FitsBytes}
use Rattle.mysql_buf.specs.NumberLaws.{little-reads_back, little-signed-reads_back, bytes_at-append}
use Rattle.mysql_buf.specs.Reading.{first}
use Rattle.mysql_buf.specs.Reading as buffer
use Rattle.mysql_buf.specs.TextLaws.{lenenc_int-reads_back}
use Rattle.mysql_buf.specs.VarlenLaws.{varlen-reads_back}
use Rattle.mysql_buf.specs.Varlen.{varlen}
use Rattle.mysql_buf.specs.Writing.{lenenc_int}
use Rattle.mysql_fields.specs.Forms.{bytes_at, lenenc_number_at, fixed_number_at, raised, signed_at, upper_half}
use Rattle.mysql_fields.specs.Forms.{upper_half_at, varlen_number_at}
use Rattle.mysql_fields.specs.Wire.{Answers, Gives, IsSized, Reading, from_block, or_end, ◌>>=◌}
use Rattle.mysql_fields.specs.declared.error.WireError.{WireError}
use Rattle.mysql_fields.specs.declared.error.WireError.TheVariants.{UnexpectedEof}

-- a reading that gave a value
abbrev pub done : {X : Type 0} → X × List ℕ → Reading X
done p = Ok p

pub ok_same : {X : Type 0} (p q : X × List ℕ) → done p ≡ done q → p ≡ q
ok_same p q e = cc

same_rest : {X : Type 0} {r : Reading X} {p q : X × List ℕ} → r ≡ Ok p → r ≡ Ok q → p.1 ≡ q.1
same_rest {X} {r} {p} {q} e f = ap (λ (z : X × List ℕ). z.1) (ok_same p q (sym e ∙ f))

needs : {X : Type 0} (n : ℕ) (value : List ℕ → X) (bytes : List ℕ) → nat_lt (length bytes) n ≡
    true → or_end (first n value bytes) ≡ Err UnexpectedEof
needs n value bytes h = ap or_end (first-short n value bytes (ltb-true (length bytes) n h))

eats : {X : Type 0} (n : ℕ) (value : List ℕ → X) (bytes rest : List ℕ) (x : X) →
    or_end (first n value bytes) ≡ Ok (x, rest) → rest ≡ drop n bytes
eats n value bytes rest x e =
    elim (cases_lt (length bytes) n) [
      | inl lt ↦ absurd (let no = ap or_end (first-short n value bytes lt) in cc)
      | inr le ↦ same_rest e (ap or_end (first-enough n value bytes le))
    ]

-- two sizes that are the same
pub size_is : (n m : ℕ) → Some m ≡ Some n → m ≡ n
size_is n m e = cc

-- n bytes are needed and eaten
pub first-sized : {X : Type 0} (n : ℕ) (value : List ℕ → X) → IsSized (Some n) (λ bytes. or_end (first n value bytes))
first-sized n value = record {
  needed = needs n value;
  eaten = λ m bytes rest x e h. let same = size_is m n e in eats n value bytes rest x h ∙
      ap (λ (k : ℕ). drop k bytes) same;
}

pub fixed_number_at-sized : (n : ℕ) → IsSized (Some n) (fixed_number_at n)
fixed_number_at-sized n = first-sized n (little_number n)

pub signed_at-sized : (n : ℕ) → IsSized (Some n) (signed_at n)
signed_at-sized n = first-sized n (λ b. twos_complement n (little_number n b))

pub bytes_at-sized : (n : ℕ) → IsSized (Some n) (bytes_at n)
bytes_at-sized n = first-sized n (take n)

-- the value of a step that did not fail
pub bind_ok : {A B : Type 0} (r : Result A WireError) (f : A → Result B WireError) (y : B) →
    (r >>= f) ≡ Ok y → (x : A) × (r ≡ Ok x) × (f x ≡ Ok y)
bind_ok (Ok x) f y e = (x, refl, e)
bind_ok (Err d) f y e = absurd cc

-- a step that eats nothing keeps the size
pub sized-then : {X Y : Type 0} (size : Option ℕ) (read_at : List ℕ → Reading X) (next : X ×
    List ℕ → Reading Y) → IsSized size read_at
    → ((x : X × List ℕ) (y : Y × List ℕ) → next x ≡ Ok y → y.1 ≡ x.1) → IsSized size (λ bytes. read_at bytes >>= next)
sized-then size read_at next h keeps = record {
  needed = λ bytes few. rw (h.needed bytes few) refl;
  eaten = λ n bytes rest y e whole. let part = bind_ok (read_at bytes) next (y, rest) whole in
      keeps part.0 (y, rest) part.2 ∙ h.eaten n bytes part.0.1 part.0.0 e part.1;
}

-- what one step eats and what the next eats
pub eats-then : {X Y : Type 0} (n m : ℕ) (bytes : List ℕ) (r : Reading X) (next : X × List ℕ →
    Reading Y) (rest : List ℕ) (y : Y) → ((x : X) (b : List ℕ) → r ≡ Ok (x, b) → b ≡ drop n bytes)
    → ((x : X) (b : List ℕ) → next (x, b) ≡ Ok (y, rest) → rest ≡ drop m b) → (r >>= next) ≡
    Ok (y, rest) → rest ≡ drop (n + m) bytes
eats-then n m bytes r next rest y one two e =
    let part = bind_ok r next (y, rest) e in
    two part.0.0 part.0.1 part.2 ∙ ap (λ (b : List ℕ). drop m b) (one part.0.0 part.0.1 part.1) ∙ drop-drop m n bytes

-- a step that has a size eats so many bytes
pub eaten_first : {X : Type 0} (n : ℕ) (read_at : List ℕ → Reading X) (bytes : List ℕ) →
    IsSized (Some n) read_at → (x : X) (b : List ℕ) → read_at bytes ≡ Ok (x, b) → b ≡ drop n bytes
eaten_first n read_at bytes h x b e = h.eaten n bytes b x refl e

-- the end of the steps eats nothing
pub done_rest : {X : Type 0} (x y : X) (b rest : List ℕ) → done (x, b) ≡ done (y, rest) → rest ≡ drop 0 b
done_rest {X = X} x y b rest e = sym (ap (λ (z : X × List ℕ). z.1) (ok_same (x, b) (y, rest) e))

-- where the block is there, it is read
pub from_block-enough : {X : Type 0} (n : ℕ) (read_at : List ℕ → Reading X) (bytes : List ℕ) →
    n ≤ length bytes → from_block n read_at bytes ≡ read_at bytes
from_block-enough n read_at bytes h = rw (le-ltb (length bytes) n h) refl

from_block-needs : {X : Type 0} (n : ℕ) (read_at : List ℕ → Reading X) (bytes : List ℕ) →
    nat_lt (length bytes) n ≡ true → from_block n read_at bytes ≡ Err UnexpectedEof
from_block-needs n read_at bytes few = rw few refl

from_block-eats : {X : Type 0} (n : ℕ) (read_at : List ℕ → Reading X) (bytes rest : List ℕ)
    (x : X) → (read_at bytes ≡ Ok (x, rest) → rest ≡ drop n bytes)
    → from_block n read_at bytes ≡ Ok (x, rest) → rest ≡ drop n bytes
from_block-eats n read_at bytes rest x eats e = elim (cases_lt (length bytes) n) [
  | inl lt ↦ absurd (let no = from_block-needs n read_at bytes (lt-ltb (length bytes) n lt) in cc)
  | inr le ↦ eats (sym (from_block-enough n read_at bytes le) ∙ e)
]

-- a block of which all is eaten has its size
pub from_block-sized : {X : Type 0} (n : ℕ) (read_at : List ℕ → Reading X) →
    ((bytes rest : List ℕ) (x : X) → read_at bytes ≡ Ok (x, rest) → rest ≡ drop n bytes) →
    IsSized (Some n) (from_block n read_at)
from_block-sized n read_at eats = record {
  needed = from_block-needs n read_at;
  eaten = λ m bytes rest x e h. from_block-eats n read_at bytes rest x (eats bytes rest x) h ∙
      ap (λ (k : ℕ). drop k bytes) (size_is m n e);
}

-- where there is no size, nothing is asked
pub unsized : {X : Type 0} (read_at : List ℕ → Reading X) → IsSized None read_at
unsized read_at = record { needed = λ bytes no. absurd cc; eaten = λ n bytes rest x no e. absurd cc }

raised_rest : (x y : ℕ × List ℕ) → raised x ≡ Ok y → y.1 ≡ x.1
raised_rest x y e = sym (ap (λ (z : ℕ × List ℕ). z.1) (ok_same (x.0 * 2 ^ 16, x.1) y e))

pub upper_half_at-sized : IsSized (Some 2) upper_half_at
upper_half_at-sized = sized-then (Some 2) (fixed_number_at 2) raised (fixed_number_at-sized 2) raised_rest

-- the slice of a text's length is the text
pub bytes-back : (n : ℕ) (text rest : List ℕ) → n ≡ length text → buffer.bytes_at n (text ++ rest) ≡ Some (text, rest)
bytes-back n text rest h = ap (λ (k : ℕ). buffer.bytes_at k (text ++ rest)) h ∙ bytes_at-append text rest

-- what a call answered is what reading gives, whether or not it asks for memory
pub gives : {X Y : Type 0} (asks : Bool) (view : X → Y) (old new : List ℕ)
    (result : Result X WireError) (reading : Reading Y) → Answers asks view old new result reading →
    Gives view old new result reading
gives true view old new result reading h = h
gives false view old new (Ok x) reading h = h
gives false view old new (Err e) reading h = (λ _. h.0, h.1)

-- a number that was written is read again, whatever follows
pub fixed_number_at-back : (n x : ℕ) (rest : List ℕ) → x < 256 ^ n →
    fixed_number_at n (little_bytes n x ++ rest) ≡ Ok (x, rest)
fixed_number_at-back n x rest h = ap or_end (little-reads_back n x rest h)

pub signed_at-back : (w : Width) (n : ℕ) (z : ℤ) (rest : List ℕ) → 1 ≤ n → n ≤ byte_len w →
    FitsBytes n z → signed_at n (little_bytes n (cast_unsigned w z) ++ rest) ≡ Ok (z, rest)
signed_at-back w n z rest low high fits = ap or_end (little-signed-reads_back w n z rest low high fits)

pub lenenc_number_at-back : (n : ℕ) (rest : List ℕ) → n < 2 ^ 64 →
    lenenc_number_at (lenenc_int n ++ rest) ≡ Ok (n, rest)
lenenc_number_at-back n rest h = ap or_end (lenenc_int-reads_back n rest h)

pub varlen_number_at-back : (n : ℕ) (rest : List ℕ) → n < 2 ^ 64 → varlen_number_at (varlen n ++ rest) ≡ Ok (n, rest)
varlen_number_at-back n rest h = ap or_end (varlen-reads_back n rest h)

-- a number whose low half is 0
pub upper_half_at-back : (n : ℕ) (rest : List ℕ) → (n < 2 ^ 32) × (n % 2 ^ 16 ≡ 0) →
    upper_half_at (upper_half n ++ rest) ≡ Ok (n, rest)
upper_half_at-back n rest h =
    let whole : n / 2 ^ 16 * 2 ^ 16 ≡ n = omega (arith, h.1) in
    rw (fixed_number_at-back 2 (n / 2 ^ 16) rest (omega (arith, h.0))) (ap (λ (k : ℕ). Ok (k, rest)) whole)

pub bytes_at-back : (n : ℕ) (bytes rest : List ℕ) → length bytes ≡ n → bytes_at n (bytes ++ rest) ≡ Ok (bytes, rest)
bytes_at-back n bytes rest len = ap or_end (bytes-back n bytes rest (sym len))
