-- The forms of texts have their sizes, and what is written in them reads back.
use Rattle.std.proofs.Common.{◌≡◌, Some, not, ◌^◌, ◌-◌, ◌<◌, ◌≤◌, ℕ, List, [], ◌∷◌, ◌++◌, length, take, replicate, Ok}
use Rattle.std.proofs.Common.{refl, sym, ap, ◌∙◌, arith, append-nil, append_assoc, length-append}
use Rattle.std.proofs.Math.Seq.{drop-append-add, get_or-append_seam, take-append_seam}
use Rattle.std.proofs.lemmas.Bool.{le-ltb, lt-ltb}
use Rattle.std.proofs.lemmas.List.{get_or-take, get_or_append_left, length-replicate, length-take}
use Rattle.std.proofs.lemmas.List.Folds.{length-prefix_len}
use Rattle.std.proofs.lemmas.List.Sums.{fails_before_first, position_or_len_is}
use Rattle.std.specs.List.{before_first, position_or_len}
use Rattle.mysql_buf.specs.NumberLaws.{bytes_at-append}
use Rattle.mysql_buf.specs.Reading.{is_zero}
use Rattle.mysql_buf.specs.TextLaws.{front-bound, lenenc_str-reads_back, u8_str-reads_back, u32_str-reads_back}
use Rattle.mysql_buf.specs.Varlen.{varlen}
use Rattle.mysql_buf.specs.VarlenLaws.{varlen-reads_back}
use Rattle.mysql_buf.specs.Writing.{front, lenenc_str, u8_str, u32_str}
use Rattle.mysql_fields.specs.Laws.{done, first-sized, bytes-back}
use Rattle.mysql_fields.specs.Texts.{bare_at, fixed_text, fixed_text_at, lenenc_text_at, null_text, null_text_at}
use Rattle.mysql_fields.specs.Texts.{u8_text_at, u32_text_at, varlen_text, varlen_text_at}
use Rattle.mysql_fields.specs.Wire.{IsSized, Reading, or_end}

pub fixed_text_at-sized : (n : ℕ) → IsSized (Some n) (fixed_text_at n)
fixed_text_at-sized n = first-sized n (take n)

pub all-back : (text rest : List ℕ) → rest ≡ [] → done (text ++ rest, []) ≡ done (text, rest)
all-back text rest h = rw (h, append-nil text) refl

pub lenenc_text_at-back : (text rest : List ℕ) → length text < 2 ^ 64 →
    lenenc_text_at (lenenc_str text ++ rest) ≡ Ok (text, rest)
lenenc_text_at-back text rest h = ap or_end (lenenc_str-reads_back text rest h)

pub u8_text_at-back : (text rest : List ℕ) → u8_text_at (u8_str text ++ rest) ≡ Ok (front text 255, rest)
u8_text_at-back text rest = ap or_end (u8_str-reads_back text rest)

pub u32_text_at-back : (text rest : List ℕ) → u32_text_at (u32_str text ++ rest) ≡ Ok (front text (2 ^ 32 - 1), rest)
u32_text_at-back text rest = ap or_end (u32_str-reads_back text rest)

pub varlen_text_at-back : (text rest : List ℕ) → varlen_text_at (varlen_text text ++ rest) ≡
    Ok (front text (2 ^ 32 - 1), rest)
varlen_text_at-back text rest =
    let part = front text (2 ^ 32 - 1) in
    let bound = front-bound text (2 ^ 32 - 1) in
    rw (
      append_assoc (varlen (length (front text (2 ^ 32 - 1)))) (front text (2 ^ 32 - 1)) rest,
      varlen-reads_back (length (front text (2 ^ 32 - 1))) (front text (2 ^ 32 - 1) ++
          rest) (omega arith),
      bytes_at-append (front text (2 ^ 32 - 1)) rest,
    ) refl

pub bare_at-back : (most n : ℕ) (text rest : List ℕ) → n ≡ length (front text most) →
    bare_at most n (front text most ++ rest) ≡ Ok (front text most, rest)
bare_at-back most n text rest h =
    let bound = front-bound text most in
    rw (le-ltb most n (omega arith), bytes-back n (front text most) rest h) refl

pub fixed_text_at-back : (n : ℕ) (text rest : List ℕ) →
    fixed_text_at n (fixed_text n text ++ rest) ≡ Ok (fixed_text n text, rest)
fixed_text_at-back n text rest =
    let len : n ≡ length (fixed_text n text) =
    omega (
      arith,
      length-take n (text ++ replicate n 0),
      length-append text (replicate n 0),
      length-replicate {A = ℕ} n 0,
    ) in
    rw (bytes-back n (fixed_text n text) rest len) refl

-- a zero behind bytes without one is the first
first_zero : (text rest : List ℕ) →
    position_or_len is_zero (before_first is_zero text ++ 0 ∷ rest) ≡
    length (before_first is_zero text)
first_zero text rest =
    let front = before_first is_zero text in
    let n : length front ≡ position_or_len is_zero text = length-prefix_len (λ x. not (is_zero x)) text in
    position_or_len_is is_zero (front ++ 0 ∷ rest) (length front) 0 (omega (arith, length-append front (0 ∷ rest)))
    (λ k h. rw (
      get_or_append_left front (0 ∷ rest) 0 k h,
      get_or-take (position_or_len is_zero text) text k 0 (omega arith),
    )
    (fails_before_first is_zero text k 0 (omega arith)))
    (λ _. ap is_zero (get_or-append_seam front 0 rest 0))

first_at : (front rest : List ℕ) → position_or_len is_zero (front ++ 0 ∷ rest) ≡ length front →
    null_text_at (front ++ 0 ∷ rest) ≡ Ok (front, rest)
first_at front rest place =
    let within : length front < length (front ++ 0 ∷ rest) = omega (arith, length-append front (0 ∷ rest)) in
    rw (
      place,
      lt-ltb (length front) (length (front ++ 0 ∷ rest)) within,
      take-append_seam front (0 ∷ rest),
      drop-append-add front (0 ∷ rest) 1,
    ) refl

pub null_text_at-back : (text rest : List ℕ) → null_text_at (null_text text ++ rest) ≡
    Ok (before_first is_zero text, rest)
null_text_at-back text rest =
    let front = before_first is_zero text in
    ap null_text_at (append_assoc front (0 ∷ []) rest) ∙ first_at front rest (first_zero text rest)
