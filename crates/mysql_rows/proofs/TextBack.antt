-- Text rows are read again, and how they begin.
use Rattle.std.proofs.Common.{◌≡◌, ◌≢◌, ℕ, ℤ, pos, negsuc, zero, suc, ◌+◌, ◌^◌, ◌<◌, ◌≤◌, ◌==◌, Bool, true, false, inl}
use Rattle.std.proofs.Common.{inr, List, [], ◌∷◌, ◌++◌, length, map, Option, Some, None, Ok, Err, refl, sym, subst, ◌∙◌}
use Rattle.std.proofs.Common.{ap, append_assoc, length-append, arith}
use Rattle.std.specs.Prelude.{◌&&◌, is_none, not, unwrap_or}
use Rattle.std.specs.Fmt.{decimal, signed_decimal}
use Rattle.std.specs.Int.{w64}
use Rattle.std.specs.List.{AllByRecursion, position_from}
use Rattle.std.specs.Option.{option_and_then}
use Rattle.std.specs.Prelude.{FitsSigned, if◌then◌else◌}
use Rattle.byteorder.specs.Endian.{little_bytes}
use Rattle.mysql_fields.specs.declared.error.WireError.TheVariants.{BadLength}
use Rattle.std.proofs.lemmas.Bool.{cases_lt, eqb-false, le-ltb, lt-ltb, ne_eqb}
use Rattle.std.proofs.lemmas.Fmt.{length-decimal-le}
use Rattle.mysql_buf.specs.Reading.{lenenc_str_at}
use Rattle.mysql_buf.specs.TextLaws.{lenenc_str-reads_back}
use Rattle.mysql_buf.specs.Writing.{lenenc_int, lenenc_str}
use Rattle.mysql_fields.specs.Wire.{Reading, ◌>>=◌, or_end}
use Rattle.mysql_field_lists.specs.Lists.{elements_at}
use Rattle.mysql_cells.specs.Values.{FitsFields}
use Rattle.mysql_cells.specs.Cells.{text_cell_at}
use Rattle.mysql_cells.specs.Values.{date_text, is_zero_time, time_text}
use Rattle.mysql_cells.specs.declared.value.Value.{Value}
use Rattle.mysql_cells.specs.declared.value.Value.TheVariants.{NULL, Bytes, Int, UInt, Float, Double, Date, Time}
use Rattle.mysql_rows.specs.Written.{as_text, text_cell, text_row}
use Rattle.mysql_rows.specs.WrittenLaws.{ReadTextRowsAreWritten, TextRowsBegin, TextRowsReadBack}
use Rattle.mysql_rows.proofs.TextWriting.{temporal_short}
use Rattle.mysql_rows.proofs.WholeRows.{as_value, first_has, not_first, read_is, speaks_not, with_value}

-- how a text after its length begins
record Begins (bytes : List ℕ) : Type 0 where
  first : ℕ
  others : List ℕ
  is : bytes ≡ first ∷ others
  no_null : (first == 251) ≡ false
  no_error : (first == 255) ≡ false
  long : first ≡ 254 → 2 ^ 24 ≤ length bytes

small_begins : (n : ℕ) → n < 251 → ((n == 251) ≡ false) × ((n == 255) ≡ false)
small_begins n h = (ne_eqb n 251 (λ e. absurd (omega (arith, e, h))), ne_eqb n 255 (λ e. absurd (omega (arith, e, h))))

begins : (text : List ℕ) → Begins (lenenc_str text)
begins text = elim (cases_lt (length text) 251) [
  | inl one ↦ let test = lt-ltb (length text) 251 one in
      record {
        first = length text;
        others = text;
        is = rw test refl;
        no_null = (small_begins (length text) one).0;
        no_error = (small_begins (length text) one).1;
        long = λ e. absurd (omega (arith, e, one));
      }
  | inr more ↦ elim (cases_lt (length text) (2 ^ 16)) [
    | inl two ↦ let a = le-ltb (length text) 251 more in let b = lt-ltb (length text) (2 ^ 16) two in
        record {
          first = 252;
          others = little_bytes 2 (length text) ++ text;
          is =
              rw (a, b) refl;
          no_null = refl;
          no_error = refl;
          long = λ e. absurd (omega (arith, e));
        }
    | inr more2 ↦ elim (cases_lt (length text) (2 ^ 24)) [
      | inl three ↦ let a = le-ltb (length text) 251 more in let b =
          le-ltb (length text) (2 ^ 16) more2 in let c = lt-ltb (length text) (2 ^ 24) three in
          record {
            first = 253;
            others = little_bytes 3 (length text) ++ text;
            is =
                rw (a, b, c) refl;
            no_null = refl;
            no_error = refl;
            long =
                λ e. absurd (omega (arith, e));
          }
      | inr more3 ↦ let a = le-ltb (length text) 251 more in let b =
          le-ltb (length text) (2 ^ 16) more2 in let c = le-ltb (length text) (2 ^ 24) more3 in
          record {
            first = 254;
            others = little_bytes 8 (length text) ++ text;
            is = rw (a, b, c) refl;
            no_null = refl;
            no_error = refl;
            long = λ e. omega (arith, more3, length-append (lenenc_int (length text)) text);
          }
    ]
  ]
]

-- ONE CELL

opened : (first : ℕ) (others : List ℕ) → (first == 251) ≡ false → (first == 255) ≡ false →
    text_cell_at (first ∷ others) ≡
    (or_end (lenenc_str_at (first ∷ others)) >>= λ held. Ok (Bytes held.0, held.1))
unfolding text_cell_at
opened first others a b = rw (a, b) refl

text_back : (text rest : List ℕ) → length text < 2 ^ 64 → text_cell_at (lenenc_str text ++ rest) ≡ Ok (Bytes text, rest)
text_back text rest h =
    let b = begins text in
    let front : lenenc_str text ++ rest ≡ b.first ∷ (b.others ++ rest) = ap (λ l. l ++ rest) b.is in
    ap text_cell_at front ∙ opened b.first (b.others ++ rest) b.no_null b.no_error
    ∙ ap (λ (l : List ℕ). or_end (lenenc_str_at l) >>= λ held. Ok (Bytes held.0, held.1)) (sym front)
    ∙ ap (λ (r : Option (List ℕ × List ℕ)). or_end r >>= λ held. Ok (Bytes held.0, held.1))
    (lenenc_str-reads_back text rest h)

null_back : (rest : List ℕ) → text_cell_at (251 ∷ rest) ≡ Ok (NULL, rest)
unfolding text_cell_at
null_back rest = refl

number_short : (z : ℤ) → FitsSigned w64 z → length (signed_decimal z) < 2 ^ 64
number_short (pos n) h = omega (
  arith,
  length-decimal-le 20 n (omega arith) (omega (arith, h.sfits)) (omega (arith, h.sfits)),
)
number_short (negsuc n) h =
    omega (
      arith,
      length-decimal-le 20 (suc n) (omega arith) (omega (arith, h.sfits))
          (omega (arith, h.sfits)),
    )

cell_back : (value : Value) (rest : List ℕ) → FitsFields value → is_none (text_cell value) ≡ false →
    text_cell_at (unwrap_or (text_cell value) [] ++ rest) ≡ Ok (as_text value, rest)
cell_back NULL rest h some = null_back rest
cell_back (Bytes bytes) rest h some = text_back bytes rest h.1
cell_back (Int z) rest h some = text_back (signed_decimal z) rest (number_short z h)
cell_back (UInt n) rest h some =
    text_back (decimal n) rest
    (omega (arith, length-decimal-le 20 n (omega arith) (omega (arith, h)) h))
cell_back (Float bits) rest h some = absurd (cc)
cell_back (Double bits) rest h some = absurd (cc)
cell_back (Date year month day hour minute second micros) rest h some =
    text_back _ rest (omega (
      arith,
      temporal_short (Date year month day hour minute second micros) h,
    ))
cell_back (Time negative days hours minutes seconds micros) rest h some =
    text_back _ rest (omega (
      arith,
      temporal_short (Time negative days hours minutes seconds micros) h,
    ))

-- ROWS

abbrev NoneSpeaks : List Value → ℕ → Type 0
NoneSpeaks values place =
    position_from (λ cell. is_none (option_and_then text_cell cell)) place (map Some values) ≡ None

cells_back : (values : List Value) (rest : List ℕ) (place : ℕ) →
    AllByRecursion (λ value. FitsFields value) values → NoneSpeaks values place
    → elements_at text_cell_at (length values) (text_row values ++ rest) ≡ Ok (map as_text values, rest)
unfolding elements_at
cells_back [] rest place fits none = refl
cells_back (value ∷ values) rest place fits none =
    let cell = unwrap_or (text_cell value) [] in
    let one = cell_back value (text_row values ++ rest) fits.0 (first_has (is_none (text_cell value)) place _ none) in
    let others = cells_back values rest (place + 1) fits.1 (not_first (is_none (text_cell value)) place _ none) in
    ap (λ (l : List ℕ). elements_at text_cell_at (suc (length values)) l) (append_assoc cell (text_row values) rest)
    ∙ ap (λ (r : Reading Value). r >>= λ first. elements_at text_cell_at (length values) first.1 >>=
    λ others. Ok (first.0 ∷ others.0, others.1)) one
    ∙ ap (λ (r : Reading (List Value)). r >>= λ others. Ok (as_text value ∷ others.0, others.1)) others

pub text_rows_read_back : TextRowsReadBack
text_rows_read_back columns values rest same fits none =
    ap (λ n. elements_at text_cell_at n (text_row values ++ rest)) same ∙
    cells_back values rest 0 fits none

-- HOW A ROW BEGINS

head_is : (a b : ℕ) (xs ys : List ℕ) → a ∷ xs ≡ b ∷ ys → a ≡ b
head_is a b xs ys e = cc

-- where a text stands first
text_first : (text later : List ℕ) (first : ℕ) (others : List ℕ) → lenenc_str text ++ later ≡
    first ∷ others → (first ≢ 255) × (first ≡ 254 → 2 ^ 24 ≤ length (lenenc_str text ++ later))
text_first text later first others e =
    let b = begins text in
    let same : b.first ≡ first =
    head_is b.first first (b.others ++ later) others (sym (ap (λ l. l ++ later) b.is) ∙ e) in (
      λ error. eqb-false b.first 255 b.no_error (same ∙ error),
      λ long. omega (arith, b.long (same ∙ long), length-append (lenenc_str text) later),
    )

pub text_rows_begin : TextRowsBegin
text_rows_begin [] first others e = absurd (cc)
text_rows_begin (NULL ∷ values) first others e =
    let same : 251 ≡ first = head_is 251 first (text_row values) others e in
    (λ error. absurd (omega (arith, same, error)), λ long. absurd (omega (arith, same, long)))
text_rows_begin (Bytes bytes ∷ values) first others e = text_first bytes (text_row values) first others e
text_rows_begin (Int z ∷ values) first others e = text_first (signed_decimal z) (text_row values) first others e
text_rows_begin (UInt n ∷ values) first others e = text_first (decimal n) (text_row values) first others e
text_rows_begin (Float bits ∷ values) first others e = text_rows_begin values first others e
text_rows_begin (Double bits ∷ values) first others e = text_rows_begin values first others e
text_rows_begin (Date year month day hour minute second micros ∷ values) first others e =
    text_first (date_text year month day hour minute second micros) (text_row values) first others e
text_rows_begin (Time negative days hours minutes seconds micros ∷ values) first others e =
    text_first (time_text (negative && not (is_zero_time days hours minutes seconds micros)) days
    hours minutes seconds micros) (text_row values) first others e

-- ROWS THAT WERE READ

-- NULL or bytes
abbrev IsText : Value → Type 0
IsText value = (is_none (text_cell value) ≡ false) × (as_text value ≡ value)

held_text : (found : Option (List ℕ × List ℕ)) (value : Value) (rest : List ℕ) →
    (or_end found >>= as_value (λ bytes. Bytes bytes)) ≡ Ok (value, rest) → IsText value
held_text None value rest e = absurd (cc)
held_text (Some held) value rest e =
    let is : Bytes held.0 ≡ value = read_is (Bytes held.0) value held.1 rest e in
    subst IsText is (refl, refl)

-- what is read where the first byte stands for NULL, for an error, or for neither
abbrev read_by : (null error : Bool) (first : ℕ) (bytes : List ℕ) → Reading Value
read_by null error first bytes =
    if null then Ok (NULL, bytes) else if error then Err BadLength else
    (or_end (lenenc_str_at (first ∷ bytes)) >>= as_value (λ bytes. Bytes bytes))

read_text : (bytes rest : List ℕ) (value : Value) → text_cell_at bytes ≡ Ok (value, rest) → IsText value
unfolding text_cell_at
read_text [] rest value e = absurd (cc)
read_text (b ∷ bytes) rest value e = by (b == 251) (b == 255) e
  where
    by : (null error : Bool) → read_by null error b bytes ≡ Ok (value, rest) → IsText value
    by true error e = let is : NULL ≡ value = read_is NULL value bytes rest e in subst IsText is (refl, refl)
    by false true e = absurd (cc)
    by false false e = held_text (lenenc_str_at (b ∷ bytes)) value rest e

abbrev AreTexts : ℕ → List Value → Type 0
AreTexts place values = NoneSpeaks values place × (map as_text values ≡ values)

others_read : (place : ℕ) (value : Value) (read : Reading (List Value)) (values : List Value)
    (rest : List ℕ) → IsText value →
    ((later : List Value) (left : List ℕ) → read ≡ Ok (later, left) → AreTexts (place + 1) later)
    → (read >>= with_value value) ≡ Ok (values, rest) → AreTexts place values
others_read place value (Err error) values rest text known e = absurd (cc)
others_read place value (Ok found) values rest text known e =
    let is : value ∷ found.0 ≡ values = read_is (value ∷ found.0) values found.1 rest e in
    let later = known found.0 found.1 refl in
    subst (AreTexts place) is (speaks_not (is_none (text_cell value)) place _ text.0 later.0, λ i. text.1 i ∷ later.1 i)

first_read : (count : ℕ) (bytes rest : List ℕ) (values : List Value) (place : ℕ)
    (read : Reading Value) → text_cell_at bytes ≡ read
    → ((after : List ℕ) (later : List Value) (left : List ℕ) →
    elements_at text_cell_at count after ≡ Ok (later, left) → AreTexts (place + 1) later)
    → (read >>= λ (first : Value × List ℕ). elements_at text_cell_at count first.1 >>= with_value
    first.0) ≡ Ok (values, rest) → AreTexts place values
first_read count bytes rest values place (Err error) is known e = absurd (cc)
first_read count bytes rest values place (Ok found) is known e =
    others_read place found.0 (elements_at text_cell_at count found.1) values rest
    (read_text bytes found.1 found.0 is) (known found.1) e

read_cells : (count : ℕ) (bytes rest : List ℕ) (values : List Value) (place : ℕ) →
    elements_at text_cell_at count bytes ≡ Ok (values, rest) → AreTexts place values
unfolding elements_at
read_cells zero bytes rest values place e = let is : [] ≡ values = read_is [] values bytes rest e in
    subst (AreTexts place) is (refl, refl)
read_cells (suc count) bytes rest values place e =
    first_read count bytes rest values place (text_cell_at bytes) refl
    (λ after later left h. read_cells count after left later (place + 1) h) e

pub read_text_rows_are_written : ReadTextRowsAreWritten
read_text_rows_are_written columns bytes rest values e = read_cells (length columns) bytes rest values 0 e
