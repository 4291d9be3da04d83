-- Text rows that are appended cell by cell.
use Rattle.std.proofs.Common.{◌≡◌, ℕ, ◌+◌, ◌-◌, ◌*◌, ◌^◌, ◌<◌, ◌≤◌, Bool, true, false, List, [], ◌∷◌, ◌++◌, length, map}
use Rattle.std.proofs.Common.{take, set, Result, Ok, Err, refl, sym, ap, ◌∙◌, append_assoc, length-append, arith}
use Rattle.std.specs.Prelude.{◌&&◌, ◌==◌, not, if◌then◌else◌, replicate, unwrap_or, is_err, flat_map}
use Rattle.std.specs.Fmt.{decimal, sign_text}
use Rattle.std.proofs.lemmas.Bool.{lt-ltb}
use Rattle.std.proofs.lemmas.Fmt.{length-decimal-le}
use Rattle.std.proofs.lemmas.List.{length-replicate, take_all}
use Rattle.mysql_buf.specs.Writing.{lenenc_str}
use Rattle.mysql_cells.specs.Values.{FitsFields, Puts}
use Rattle.mysql_cells.specs.Values.{clock_text, day_text, digits_in, is_zero_time, micros_text}
use Rattle.mysql_cells.specs.declared.value.Value.{Value}
use Rattle.mysql_cells.specs.declared.value.Value.TheVariants.{NULL, Bytes, Int, UInt, Float, Double, Date, Time}
use Rattle.mysql_rows.specs.CellsWritten.{temporal_text}

-- LENGTHS

filling : (n digit : ℕ) → length (replicate n digit) ≡ n
filling n digit = length-replicate n digit

digits_short : (width n : ℕ) → n < 2 ^ 64 → length (digits_in width n) ≤ width + 20
digits_short width n h =
    omega (
      arith,
      length-append (replicate (width - length (decimal n)) 0x30) (decimal n),
      filling (width - length (decimal n)) 0x30,
      length-decimal-le 20 n (omega arith) (omega arith) h,
    )

micros_short : (micros : ℕ) → micros < 2 ^ 64 → length (micros_text micros) ≤ 27
micros_short micros h = either (micros == 0) (digits_in 6 micros) (digits_short 6 micros h)
  where
    either : (b : Bool) (text : List ℕ) → length text ≤ 26 → length (if b then [] else 0x2e ∷ text) ≤ 27
    either true text short = omega arith
    either false text short = omega (arith, short)

three_short : (a b c : List ℕ) (x y : ℕ) → length a ≤ 24 → length b ≤ 24 → length c ≤ 24 →
    length (a ++ x ∷ (b ++ y ∷ c)) ≤ 74
three_short a b c x y p q r = omega (arith, length-append a (x ∷ (b ++ y ∷ c)), length-append b (y ∷ c), p, q, r)

clock_short : (width hours minutes seconds : ℕ) → width ≤ 4 → hours < 2 ^ 64 → minutes < 2 ^ 64 →
    seconds < 2 ^ 64 → length (clock_text width hours minutes seconds) ≤ 74
clock_short width hours minutes seconds w h m s =
    three_short (digits_in width hours) (digits_in 2 minutes) (digits_in 2 seconds) 0x3a 0x3a
    (omega (arith, digits_short width hours h, w)) (omega (arith, digits_short 2 minutes m))
    (omega (arith, digits_short 2 seconds s))

day_short : (year month day : ℕ) → year < 2 ^ 64 → month < 2 ^ 64 → day < 2 ^ 64 → length (day_text year month day) ≤ 74
day_short year month day y m d =
    three_short (digits_in 4 year) (digits_in 2 month) (digits_in 2 day) 0x2d 0x2d
    (omega (arith, digits_short 4 year y)) (omega (arith, digits_short 2 month m))
    (omega (arith, digits_short 2 day d))

with_clock : (b : Bool) (front clock micros : List ℕ) → length front ≤ 74 → length clock ≤ 74 →
    length micros ≤ 27 → length (front ++ (if b then [] else 0x20 ∷ (clock ++ micros))) < 251
with_clock true front clock micros p q r = omega (arith, length-append front [], p)
with_clock false front clock micros p q r =
    omega (
      arith,
      length-append front (0x20 ∷ (clock ++ micros)),
      length-append clock micros,
      p,
      q,
      r,
    )

behind_sign : (b : Bool) (clock micros : List ℕ) → length clock ≤ 74 → length micros ≤ 27 →
    length (sign_text b ++ (clock ++ micros)) < 251
behind_sign true clock micros q r = omega (arith, length-append clock micros, q, r)
behind_sign false clock micros q r = omega (arith, length-append clock micros, q, r)

-- the text of a date or a time is short
pub temporal_short : (value : Value) → FitsFields value → length (unwrap_or (temporal_text value) []) < 251
temporal_short NULL h = omega arith
temporal_short (Bytes bytes) h = omega arith
temporal_short (Int z) h = omega arith
temporal_short (UInt n) h = omega arith
temporal_short (Float bits) h = omega arith
temporal_short (Double bits) h = omega arith
temporal_short (Date year month day hour minute second micros) h =
    with_clock (is_zero_time 0 hour minute second micros) (day_text year month day)
    (clock_text 2 hour minute second) (micros_text micros)
    (day_short year month day (omega (arith, h.0)) (omega (arith, h.1)) (omega (arith, h.2)))
    (clock_short 2 hour minute second (omega arith) (omega (arith, h.3)) (omega (arith, h.4)) (omega (arith, h.5)))
    (micros_short micros (omega (arith, h.6)))
temporal_short (Time negative days hours minutes seconds micros) h =
    behind_sign (negative && not (is_zero_time days hours minutes seconds micros))
    (clock_text 3 (days * 24 + hours) minutes seconds) (micros_text micros)
    (clock_short 3 (days * 24 + hours) minutes seconds (omega arith) (omega (arith, h.0, h.1))
    (omega (arith, h.2)) (omega (arith, h.3)))
    (micros_short micros (omega (arith, h.4)))

-- DATES AND TIMES

set_behind : (old text : List ℕ) (q n : ℕ) → set (old ++ q ∷ text) (length old) n ≡ old ++ n ∷ text
set_behind [] text q n = refl
set_behind (b ∷ old) text q n = ap (λ (l : List ℕ). b ∷ l) (set_behind old text q n)

-- a short text stands behind its length in one byte
pub short_text : (text : List ℕ) → length text < 251 → lenenc_str text ≡ length text ∷ text
short_text text h = rw (lt-ltb (length text) 251 h) refl

-- what stands behind a list and a zero where nothing was refused
pub text_put : {E : Type 0} (text old zeroed put : List ℕ) (result : Result (Unit {0}) E) → zeroed ≡
    old ++ 0 ∷ [] → Puts text zeroed put result → is_err result ≡ false → put ≡ (old ++ 0 ∷ []) ++
    text
text_put text old zeroed put (Ok done) zero is kept = cc
text_put text old zeroed put (Err e) zero is kept = cc

-- how long what was put behind a list and a zero is
count_of : (old text put : List ℕ) (start end : ℕ) → put ≡ (old ++ 0 ∷ []) ++ text → start ≡
    length old → end ≡ length put → end - start - 1 ≡ length text
count_of old text put start end is from to =
    omega (arith, to, from, ap length is, length-append (old ++ 0 ∷ []) text, length-append old (0 ∷ []))

-- where the length takes the place of the zero before the text
pub length_set : (old text put new : List ℕ) (start end : ℕ) → length text < 251 → put ≡
    (old ++ 0 ∷ []) ++ text → start ≡ length old → end ≡ length put
    → new ≡ set put start (end - start - 1) → new ≡ old ++ lenenc_str text
length_set old text put new start end short is from to wrote =
    let whole : put ≡ old ++ 0 ∷ text = is ∙ append_assoc old (0 ∷ []) text in
    let count : end - start - 1 ≡ length text = count_of old text put start end is from to in
    wrote ∙ ap (λ (l : List ℕ). set l start (end - start - 1)) whole ∙
    ap (λ (k : ℕ). set (old ++ 0 ∷ text) k (end - start - 1)) from ∙
    ap (set (old ++ 0 ∷ text) (length old)) count
    ∙ set_behind old text 0 (length text) ∙ ap (λ (l : List ℕ). old ++ l) (sym (short_text text short))

-- that length is small
pub small_count : (old text put : List ℕ) (start end : ℕ) → length text < 251 → put ≡
    (old ++ 0 ∷ []) ++ text → start ≡ length old → end ≡ length put → end - start - 1 < 256
small_count old text put start end short is from to = omega (arith, short, count_of old text put start end is from to)

-- CELLS

-- what is made of what is held
pub over_held : {X Y : Type 0} (held : X → Y) (f : Y → List ℕ) (cells : List X) →
    flat_map (λ cell. f (held cell)) cells ≡ flat_map f (map held cells)
over_held held f [] = refl
over_held held f (cell ∷ cells) = ap (λ (later : List ℕ). f (held cell) ++ later) (over_held held f cells)

-- behind the last cell
pub all_held : {X Y : Type 0} (held : X → Y) (f : Y → List ℕ) (cells : List X) (old out : List ℕ)
    (i : ℕ) → length cells ≤ i
    → out ≡ old ++ flat_map (λ cell. f (held cell)) (take i cells) → out ≡ old ++ flat_map f (map held cells)
all_held {X = X} held f cells old out i all so_far =
    so_far ∙ ap (λ (l : List X). old ++ flat_map (λ cell. f (held cell)) l) (take_all i cells all) ∙
    ap (λ (l : List ℕ). old ++ l) (over_held held f cells)
