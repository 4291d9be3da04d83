-- Cells: their lengths, and reading back what was written.
use Rattle.std.proofs.Common.{◌≡◌, ℕ, ℤ, zero, suc, pos, ◌+◌, ◌^◌, ◌<◌, ◌==◌, Bool, true, false, cond, List, [], ◌∷◌}
use Rattle.std.proofs.Common.{◌++◌, length, take, refl, sym, ◌∙◌, ap, arith, Option, Ok}
use Rattle.std.specs.Prelude.{nat_lt, ◌&&◌, not}
use Rattle.std.specs.Int.{w64, cast_signed, cast_unsigned}
use Rattle.std.proofs.Math.Facts.{Fits-of_z}
use Rattle.std.proofs.lemmas.Bool.{eqb-true, lt-ltb, ltb-true}
use Rattle.std.proofs.lemmas.Int.{to_z-of_z}
use Rattle.byteorder.specs.Endian.{little_bytes, little_number}
use Rattle.byteorder.specs.Numbers.{little_number-reads_back}
use Rattle.mysql_buf.specs.FirstBytes.{first-enough}
use Rattle.mysql_buf.specs.NumberLaws.{bytes_at-append}
use Rattle.mysql_buf.specs.Reading.{u8_str_at}
use Rattle.mysql_buf.specs.TextLaws.{lenenc_str-reads_back}
use Rattle.mysql_fields.specs.Laws.{fixed_number_at-back}
use Rattle.mysql_fields.specs.Wire.{Reading, ◌>>=◌, or_end}
use Rattle.mysql_cells.specs.CellLaws.{CellsReadBack, ReadBackMeansTheSame}
use Rattle.mysql_cells.specs.Cells.{cell_at, date_of, date_size, time_of, time_size, unsigned_value}
use Rattle.mysql_cells.specs.Values.{content_of, is_zero_time, plain_content}
use Rattle.mysql_cells.specs.declared.value.Value.{Value}
use Rattle.mysql_cells.specs.declared.value.Value.TheVariants.{NULL, Bytes, Int, UInt, Float, Double, Date, Time}

-- LENGTHS

-- a date's fields
date_fields : (year month day hour minute second micros : ℕ) → List ℕ
date_fields year month day hour minute second micros = little_bytes 2 year ++ month ∷ day ∷ hour ∷
    minute ∷ second ∷ little_bytes 4 micros

-- a time's fields behind its sign
time_fields : (sign days hours minutes seconds micros : ℕ) → List ℕ
time_fields sign days hours minutes seconds micros = sign ∷ little_bytes 4 days ++ hours ∷ minutes ∷
    seconds ∷ little_bytes 4 micros

date_length : (year month day hour minute second micros : ℕ) →
    length (take (date_size year month day hour minute second micros)
    (date_fields year month day hour minute second micros)) ≡
    date_size year month day hour minute second micros
unfolding date_fields
date_length year month day hour minute second micros =
    by (nat_lt 0 micros) (nat_lt 0 (hour + minute + second)) (nat_lt 0 (year + month + day))
  where
    by : (a b c : Bool) → length
        (take (cond a 11 (cond b 7 (cond c 4 0))) (little_bytes 2 year ++ month ∷ day ∷ hour ∷
        minute ∷ second ∷ little_bytes 4 micros)) ≡ cond a 11 (cond b 7 (cond c 4 0))
    by true b c = refl
    by false true c = refl
    by false false true = refl
    by false false false = refl

time_length : (sign days hours minutes seconds micros : ℕ) →
    length (take (time_size days hours minutes seconds micros)
    (time_fields sign days hours minutes seconds micros)) ≡
    time_size days hours minutes seconds micros
unfolding time_fields
time_length sign days hours minutes seconds micros = by (nat_lt 0 micros) (nat_lt 0 (days + hours + minutes + seconds))
  where
    by : (a b : Bool) → length
        (take (cond a 12 (cond b 8 0)) (sign ∷ little_bytes 4 days ++ hours ∷ minutes ∷ seconds ∷
        little_bytes 4 micros)) ≡ cond a 12 (cond b 8 0)
    by true b = refl
    by false true = refl
    by false false = refl

-- NUMBERS

little_2 : (n : ℕ) → n < 2 ^ 16 → little_number 2 (little_bytes 2 n) ≡ n
little_2 n h = little_number-reads_back 2 n [] (omega arith)

little_4 : (n : ℕ) → n < 2 ^ 32 → little_number 4 (little_bytes 4 n) ≡ n
little_4 n h = little_number-reads_back 4 n [] (omega arith)

-- a length byte, and so many bytes
counted_back : (size : ℕ) (text rest : List ℕ) → length text ≡ size →
    or_end (u8_str_at (size ∷ (text ++ rest))) ≡ Ok (text, rest)
counted_back size text rest e =
    let one = first-enough 1 (little_number 1) (size ∷ (text ++ rest)) (omega arith) in
    let n : little_number 1 (size ∷ (text ++ rest)) ≡ length text = omega (arith, e) in
    rw (one, n) (ap or_end (bytes_at-append text rest))

-- DATES AND TIMES

one_byte : (b : ℕ) → little_number 1 (b ∷ []) ≡ b
one_byte b = omega arith

not_above : (n : ℕ) → nat_lt 0 n ≡ false → n ≡ 0
not_above zero e = refl
not_above (suc n) e = let above : nat_lt 0 (suc n) ≡ true = lt-ltb 0 (suc n) (omega arith) in absurd cc

date_back : (year month day hour minute second micros : ℕ) → year < 2 ^ 16 → micros < 2 ^ 32 →
    date_of (take (date_size year month day hour minute second micros)
    (date_fields year month day hour minute second micros)) ≡
    Date year month day hour minute second micros
unfolding date_fields
date_back year month day hour minute second micros hy hm =
    by (nat_lt 0 micros) (nat_lt 0 (hour + minute + second)) (nat_lt 0 (year + month + day)) refl
    refl refl
  where
    by : (a b c : Bool) → nat_lt 0 micros ≡ a → nat_lt 0 (hour + minute + second) ≡ b →
        nat_lt 0 (year + month + day) ≡ c →
        date_of (take (cond a 11 (cond b 7 (cond c 4 0))) (little_bytes 2 year ++ month ∷ day ∷
        hour ∷ minute ∷ second ∷ little_bytes 4 micros)) ≡
        Date year month day hour minute second micros
    by true b c e f g = λ i. Date (little_2 year hy i) (one_byte month i) (one_byte day i)
        (one_byte hour i) (one_byte minute i) (one_byte second i) (little_4 micros hm i)
    by false true c e f g =
        let m : 0 ≡ micros = sym (not_above micros e) in
        λ i. Date (little_2 year hy i) (one_byte month i) (one_byte day i) (one_byte hour i)
        (one_byte minute i) (one_byte second i) (m i)
    by false false true e f g =
        let m : 0 ≡ micros = sym (not_above micros e) in
        let all = not_above (hour + minute + second) f in
        let h : 0 ≡ hour = omega (arith, all) in
        let n : 0 ≡ minute = omega (arith, all) in
        let s : 0 ≡ second = omega (arith, all) in
        λ i. Date (little_2 year hy i) (one_byte month i) (one_byte day i) (h i) (n i) (s i) (m i)
    by false false false e f g =
        let m : 0 ≡ micros = sym (not_above micros e) in
        let all = not_above (hour + minute + second) f in
        let none = not_above (year + month + day) g in
        let y : 0 ≡ year = omega (arith, none) in
        let o : 0 ≡ month = omega (arith, none) in
        let d : 0 ≡ day = omega (arith, none) in
        let h : 0 ≡ hour = omega (arith, all) in
        let n : 0 ≡ minute = omega (arith, all) in
        let s : 0 ≡ second = omega (arith, all) in
        λ i. Date (y i) (o i) (d i) (h i) (n i) (s i) (m i)

some_part : (days hours minutes seconds micros : ℕ) →
    0 < days + hours + minutes + seconds + micros → is_zero_time days hours minutes seconds micros ≡
    false
some_part days hours minutes seconds micros some =
    by (days == 0) (hours == 0) (minutes == 0) (seconds == 0) (micros == 0) refl refl refl refl refl
  where
    by : (a b c d e : Bool) → (days == 0) ≡ a → (hours == 0) ≡ b → (minutes == 0) ≡ c →
        (seconds == 0) ≡ d → (micros == 0) ≡ e → (a && b && c && d && e) ≡ false
    by false b c d e p q r s t = refl
    by true false c d e p q r s t = refl
    by true true false d e p q r s t = refl
    by true true true false e p q r s t = refl
    by true true true true false p q r s t = refl
    by true true true true true p q r s t =
        absurd (omega (
          arith,
          eqb-true days 0 p,
          eqb-true hours 0 q,
          eqb-true minutes 0 r,
          eqb-true seconds 0 s,
          eqb-true micros 0 t,
          some,
        ))

sign_kept : (negative z : Bool) → z ≡ false → (little_number 1 (cond negative 1 0 ∷ []) == 1) ≡ (negative && not z)
sign_kept true z e = rw e refl
sign_kept false z e = refl

sign_dropped : (negative z : Bool) → z ≡ true → false ≡ (negative && not z)
sign_dropped true z e = rw e refl
sign_dropped false z e = refl

time_back : (negative : Bool) (days hours minutes seconds micros : ℕ) → days < 2 ^ 32 → micros < 2 ^ 32 →
    time_of (take (time_size days hours minutes seconds micros)
    (time_fields (cond negative 1 0) days hours minutes seconds micros)) ≡
    Time (negative && not (is_zero_time days hours minutes seconds micros)) days hours minutes
    seconds micros
unfolding time_fields
time_back negative days hours minutes seconds micros hd hm =
    by (nat_lt 0 micros) (nat_lt 0 (days + hours + minutes + seconds)) refl refl
  where
    zero_time : Bool
    zero_time = is_zero_time days hours minutes seconds micros

    by : (a b : Bool) → nat_lt 0 micros ≡ a → nat_lt 0 (days + hours + minutes + seconds) ≡ b →
        time_of (take (cond a 12 (cond b 8 0)) (cond negative 1 0 ∷ little_bytes 4 days ++ hours ∷
        minutes ∷ seconds ∷ little_bytes 4 micros)) ≡
        Time (negative && not (is_zero_time days hours minutes seconds micros)) days hours
        minutes seconds micros
    by true b e f =
        let z = some_part days hours minutes seconds micros (omega (arith, ltb-true 0 micros e)) in
        let sign = sign_kept negative (is_zero_time days hours minutes seconds micros) z in
        λ i. Time (sign i) (little_4 days hd i) (one_byte hours i) (one_byte minutes i)
        (one_byte seconds i) (little_4 micros hm i)
    by false true e f =
        let z = some_part days hours minutes seconds micros
        (omega (arith, ltb-true 0 (days + hours + minutes + seconds) f)) in
        let sign = sign_kept negative (is_zero_time days hours minutes seconds micros) z in
        let u : 0 ≡ micros = sym (not_above micros e) in
        λ i. Time (sign i) (little_4 days hd i) (one_byte hours i) (one_byte minutes i) (one_byte seconds i) (u i)
    by false false e f =
        let all = not_above (days + hours + minutes + seconds) f in
        let u : 0 ≡ micros = sym (not_above micros e) in
        let d : 0 ≡ days = omega (arith, all) in
        let h : 0 ≡ hours = omega (arith, all) in
        let m : 0 ≡ minutes = omega (arith, all) in
        let s : 0 ≡ seconds = omega (arith, all) in
        let z : is_zero_time days hours minutes seconds micros ≡ true =
        sym (λ i. is_zero_time (d i) (h i) (m i) (s i) (u i)) in
        let sign = sign_dropped negative (is_zero_time days hours minutes seconds micros) z in
        λ i. Time (sign i) (d i) (h i) (m i) (s i) (u i)

-- CELLS

pub cells_read_back : CellsReadBack
unfolding cell_at date_fields time_fields
cells_read_back NULL rest h = refl
cells_read_back (Bytes bytes) rest h =
    ap (λ (r : Option (List ℕ × List ℕ)). or_end r >>=
    (λ (x : List ℕ × List ℕ). Ok (Bytes x.0, x.1))) (lenenc_str-reads_back bytes rest h.1)
cells_read_back (Int z) rest h =
    let below : cast_unsigned w64 z < 256 ^ 8 = omega (arith, Fits-of_z {w = w64} {z = z} h) in
    ap (λ (r : Reading ℕ). r >>= (λ (x : ℕ × List ℕ). Ok (Int (cast_signed w64 x.0), x.1)))
    (fixed_number_at-back 8 (cast_unsigned w64 z) rest below)
    ∙ ap (λ (n : ℤ). Ok (Int n, rest)) (to_z-of_z w64 z h)
cells_read_back (UInt n) rest h =
    ap (λ (r : Reading ℕ). r >>= (λ (x : ℕ × List ℕ). Ok (unsigned_value x.0, x.1)))
    (fixed_number_at-back 8 n rest (omega (arith, h)))
cells_read_back (Float bits) rest h =
    ap (λ (r : Reading ℕ). r >>= (λ (x : ℕ × List ℕ). Ok (Float x.0, x.1)))
    (fixed_number_at-back 4 bits rest (omega (arith, h)))
cells_read_back (Double bits) rest h =
    ap (λ (r : Reading ℕ). r >>= (λ (x : ℕ × List ℕ). Ok (Double x.0, x.1)))
    (fixed_number_at-back 8 bits rest (omega (arith, h)))
cells_read_back (Date year month day hour minute second micros) rest h =
    ap (λ (r : Reading (List ℕ)). r >>= (λ (x : List ℕ × List ℕ). Ok (date_of x.0, x.1)))
    (counted_back (date_size year month day hour minute second micros)
    (take (date_size year month day hour minute second micros)
    (date_fields year month day hour minute second micros)) rest
    (date_length year month day hour minute second micros))
    ∙ ap (λ (v : Value). Ok (v, rest)) (date_back year month day hour minute second micros h.0 h.6)
cells_read_back (Time negative days hours minutes seconds micros) rest h =
    ap (λ (r : Reading (List ℕ)). r >>= (λ (x : List ℕ × List ℕ). Ok (time_of x.0, x.1)))
    (counted_back (time_size days hours minutes seconds micros)
    (take (time_size days hours minutes seconds micros)
    (time_fields (cond negative 1 0) days hours minutes seconds micros)) rest
    (time_length (cond negative 1 0) days hours minutes seconds micros))
    ∙ ap (λ (v : Value). Ok (v, rest)) (time_back negative days hours minutes seconds micros h.0 h.4)

without_sign : (n : ℕ) (b : Bool) → content_of (cond b (Int (pos n)) (UInt n)) ≡ content_of (UInt n)
without_sign n true = refl
without_sign n false = refl

twice : (negative z : Bool) → ((negative && not z) && not z) ≡ (negative && not z)
twice true true = refl
twice true false = refl
twice false z = refl

pub means_the_same : ReadBackMeansTheSame
means_the_same NULL = refl
means_the_same (Bytes bytes) = refl
means_the_same (Int z) = refl
means_the_same (UInt n) = without_sign n (nat_lt n (2 ^ 63))
means_the_same (Float bits) = refl
means_the_same (Double bits) = refl
means_the_same (Date year month day hour minute second micros) = refl
means_the_same (Time negative days hours minutes seconds micros) =
    ap (λ (sign : Bool). plain_content (Time sign days hours minutes seconds micros))
    (twice negative (is_zero_time days hours minutes seconds micros))
