-- The SQL text of a value is a literal of what it means, and UTF-8; in hexadecimal spelling it is
-- the same in each mode, of safe bytes.
use Rattle.std.proofs.Common.{◌≡◌, ◌≢◌, ℕ, zero, suc, ◌+◌, ◌-◌, ◌*◌, ◌/◌, ◌%◌, ◌^◌, ◌<◌, ◌≤◌, Bool, true, false, ◌&&◌}
use Rattle.std.proofs.Common.{◌||◌, ◌==◌, if◌then◌else◌, List, [], ◌∷◌, ◌++◌, length, get_or, flat_map, replicate}
use Rattle.std.proofs.Common.{codes, pos, negsuc, neg_ℤ, Option, Some, None, Ok, refl, sym, ap, ◌∙◌, subst, inl, inr}
use Rattle.std.proofs.Common.{arith, append-nil}
use Rattle.std.specs.Prelude.{◌⊎◌, fold, not, IsUtf8}
use Rattle.std.specs.Int.{IsInRange}
use Rattle.std.specs.List.{AllByRecursion}
use Rattle.std.specs.Fmt.{decimal, sign_text}
use Rattle.std.specs.Str.{IsAscii, is_utf8}
use Rattle.std.proofs.Math.Utf8.{scalars, scalar, encode, encodes}
use Rattle.std.proofs.lemmas.Bool.{cases_lt}
use Rattle.std.proofs.lemmas.Bool.Decides.{nat_tests}
use Rattle.std.proofs.lemmas.Fmt.{digits_decimal, digits_value-decimal, decimal_nonempty}
use Rattle.std.proofs.lemmas.List.Concat.{flat_map-append}
use Rattle.std.proofs.lemmas.Str.{IsUtf8-append, IsUtf8-nil, IsUtf8-encode, IsUtf8-from_ascii, IsUtf8-from_is_utf8}
use Rattle.std.proofs.lemmas.Str.{is_utf8-from_IsUtf8, encode_ascii, inside_one}
use Rattle.std.proofs.lemmas.Str.Parse.{IsNumeralModel, IsDigitsTest, FoldsDigits, numerals_by_fold}
use Rattle.mysql_cells.specs.Values.{FitsFields}
use Rattle.mysql_literals.specs.AsSql.{IsSafeByte, SqlIsLiteral, EachSqlIsLiteral, EachHexadecimalIsSafe}
use Rattle.mysql_literals.specs.AsSql.{OneHexadecimal, PutsSql, stands_in_quotes}
use Rattle.mysql_queries.specs.Laws.{PlainIsRead, WrittenIsRead}
use Rattle.mysql_queries.specs.Literals.{AreDigits, IsLiteral, IsNumber, binary_introducer, digits_value, is_digit}
use Rattle.mysql_queries.specs.Literals.{text_introducer}
use Rattle.mysql_queries.specs.Tokens.{single_quote, double_quote, backslash, slash, star}
use Rattle.mysql_literals.specs.Literals.{bytes_sql, hexadecimal_sql, in_quotes, quoted_sql, sql_of}
use Rattle.mysql_cells.specs.Values.{clock_text, date_text, day_text, digits_in, is_zero_time, micros_text, time_text}
use Rattle.mysql_cells.specs.Values.{with_zero_sign, without_zero_sign}
use Rattle.mysql_queries.specs.Written.{hex_digit, in_hexadecimal, quoted, written_byte}
use Rattle.mysql_bytes.specs.declared.content.Content.{Content}
use Rattle.mysql_bytes.specs.declared.content.Content.TheVariants as content
use Rattle.mysql_bytes.specs.declared.mode.Mode.{Mode}
use Rattle.mysql_bytes.specs.declared.spelling.Spelling.{Spelling}
use Rattle.mysql_bytes.specs.declared.spelling.Spelling.TheVariants.{Quoted, Hexadecimal}
use Rattle.mysql_cells.specs.declared.value.Value.{Value}
use Rattle.mysql_cells.specs.declared.value.Value.TheVariants.{NULL, Bytes, Int, UInt, Float, Double, Date, Time}

-- numbers

range_of : (b : ℕ) → is_digit b ≡ true → IsInRange 48 57 b
range_of b h = grind (arith, nat_tests)

digit_in : (b : ℕ) → IsInRange 48 57 b → is_digit b ≡ true
digit_in b h = grind (arith, nat_tests)

tells : IsDigitsTest (AllByRecursion (λ b. is_digit b ≡ true))
tells = record { empty = tt; parts = λ c cs h. (range_of c h.0, h.1); more = λ c cs r h. (digit_in c r, h) }

abbrev folded : ℕ → List ℕ → ℕ
folded n digits = fold (λ m d. m * 10 + (d - 0x30)) n digits

folds : FoldsDigits folded
folds = record { empty = λ n. refl; more = λ n c cs h. refl }

own : IsNumeralModel (AllByRecursion (λ b. is_digit b ≡ true)) digits_value
own = numerals_by_fold (AllByRecursion (λ b. is_digit b ≡ true)) tells folded folds

are_digits : (n : ℕ) → n < 2 ^ 64 → AreDigits (decimal n)
are_digits n h = record {
  each = digits_decimal own n h;
  some = λ e. let l : 0 < length (decimal n) = decimal_nonempty n h in let z : length (decimal n) ≡
      0 = ap length e in omega (arith, l, z);
}

unsigned_number : (n : ℕ) → n < 2 ^ 64 → IsNumber (decimal n) (pos n)
unsigned_number n h =
    let v : digits_value (decimal n) ≡ n = digits_value-decimal own n h in
    record { digits = decimal n; are = are_digits n h; value = inl (refl, ap pos (sym v), omega (arith, v, h)) }

negative_number : (n : ℕ) → n < 2 ^ 63 → IsNumber (0x2d ∷ decimal (suc n)) (negsuc n)
negative_number n h =
    let fits : suc n < 2 ^ 64 = omega arith in
    let v : digits_value (decimal (suc n)) ≡ suc n = digits_value-decimal own (suc n) fits in
    record {
      digits = decimal (suc n);
      are = are_digits (suc n) fits;
      value =
          inr (refl, sym (ap (λ m. neg_ℤ (pos m)) v), omega (arith, v, h));
    }

-- safe bytes

abbrev AreSafe : List ℕ → Type 0
AreSafe text = AllByRecursion IsSafeByte text

-- the marks from the plus on but the slash, digits and capital letters
safe_between : (b : ℕ) → 0x2b ≤ b → b < 0x5c → b ≢ slash → IsSafeByte b
safe_between b h k n = (
  omega arith,
  λ e. omega (arith, e),
  λ e. omega (arith, e),
  λ e. omega (arith, e),
  λ e. omega (arith, e),
  λ e. omega (arith, e),
  n,
)

-- the underscore and small letters
safe_above : (b : ℕ) → 0x5f ≤ b → b < 0x80 → b ≢ 0x60 → IsSafeByte b
safe_above b h k n = (
  k,
  λ e. omega (arith, e),
  λ e. omega (arith, e),
  n,
  λ e. omega (arith, e),
  λ e. omega (arith, e),
  λ e. omega (arith, e),
)

safe_space : IsSafeByte 0x20
safe_space = (
  omega arith,
  λ e. omega (arith, e),
  λ e. omega (arith, e),
  λ e. omega (arith, e),
  λ e. omega (arith, e),
  λ e. omega (arith, e),
  λ e. omega (arith, e),
)

safe_x : IsSafeByte 0x78
safe_x = (
  omega arith,
  λ e. omega (arith, e),
  λ e. omega (arith, e),
  λ e. omega (arith, e),
  λ e. omega (arith, e),
  λ e. omega (arith, e),
  λ e. omega (arith, e),
)

safe_append : (xs ys : List ℕ) → AreSafe xs → AreSafe ys → AreSafe (xs ++ ys)
safe_append [] ys h k = k
safe_append (x ∷ xs) ys h k = (h.0, safe_append xs ys h.1 k)

safe_choice : (test : Bool) (xs ys : List ℕ) → AreSafe xs → AreSafe ys → AreSafe (if test then xs else ys)
safe_choice true xs ys h k = h
safe_choice false xs ys h k = k

-- numbers

digit_is_safe : (b : ℕ) → IsInRange 48 57 b → IsSafeByte b
digit_is_safe b h = safe_between b (omega (arith, h.0)) (omega (arith, h.1)) (λ e. omega (arith, e, h.0))

safe_digits : (digits : List ℕ) → AllByRecursion (λ b. is_digit b ≡ true) digits → AreSafe digits
safe_digits [] h = tt
safe_digits (d ∷ digits) h = (digit_is_safe d (range_of d h.0), safe_digits digits h.1)

safe_decimal : (n : ℕ) → n < 2 ^ 64 → AreSafe (decimal n)
safe_decimal n h = safe_digits (decimal n) (digits_decimal own n h)

safe_negative : (n : ℕ) → n < 2 ^ 64 → AreSafe (0x2d ∷ decimal n)
safe_negative n h = (safe_between 0x2d (omega arith) (omega arith) (λ e. omega (arith, e)), safe_decimal n h)

-- dates and times

safe_zeros : (n : ℕ) → AreSafe (replicate n 0x30)
safe_zeros zero = tt
safe_zeros (suc n) = (safe_between 0x30 (omega arith) (omega arith) (λ e. omega (arith, e)), safe_zeros n)

safe_number : (width n : ℕ) → n < 2 ^ 64 → AreSafe (digits_in width n)
safe_number width n h = safe_append (replicate (width - length (decimal n)) 0x30) (decimal n)
    (safe_zeros (width - length (decimal n))) (safe_decimal n h)

-- a number behind a separator
safe_part : (separator width n : ℕ) → 0x2b ≤ separator → separator < 0x5c → separator ≢ slash →
    n < 2 ^ 64 → AreSafe (separator ∷ digits_in width n)
safe_part separator width n low high apart h = (safe_between separator low high apart, safe_number width n h)

safe_clock : (width hours minutes seconds micros : ℕ) → hours < 2 ^ 64 → minutes < 256 →
    seconds < 256 → micros < 2 ^ 32 →
    AreSafe (clock_text width hours minutes seconds ++ micros_text micros)
safe_clock width hours minutes seconds micros h m s u =
    let two : AreSafe (0x3a ∷ digits_in 2 seconds) =
    safe_part 0x3a 2 seconds (omega arith) (omega arith) (λ e. omega (arith, e))
    (omega arith) in
    let three : AreSafe (0x3a ∷ digits_in 2 minutes) =
    safe_part 0x3a 2 minutes (omega arith) (omega arith) (λ e. omega (arith, e))
    (omega arith) in
    let six : AreSafe (0x2e ∷ digits_in 6 micros) =
    safe_part 0x2e 6 micros (omega arith) (omega arith) (λ e. omega (arith, e)) (omega arith) in
    safe_append (clock_text width hours minutes seconds) (micros_text micros)
    (safe_append (digits_in width hours) _ (safe_number width hours h)
    (safe_append (0x3a ∷ digits_in 2 minutes) _ three two))
    (safe_choice _ [] (0x2e ∷ digits_in 6 micros) tt six)

safe_date : (year month day hour minute second micros : ℕ) → year < 2 ^ 16 → month < 256 →
    day < 256 → hour < 256 → minute < 256 → second < 256 → micros < 2 ^ 32 →
    AreSafe (date_text year month day hour minute second micros)
safe_date year month day hour minute second micros y m d h n s u =
    let two : AreSafe (0x2d ∷ digits_in 2 day) =
    safe_part 0x2d 2 day (omega arith) (omega arith) (λ e. omega (arith, e)) (omega arith) in
    let one : AreSafe (0x2d ∷ digits_in 2 month) =
    safe_part 0x2d 2 month (omega arith) (omega arith) (λ e. omega (arith, e)) (omega arith) in
    let clock : AreSafe (0x20 ∷ (clock_text 2 hour minute second ++ micros_text micros)) =
    (safe_space, safe_clock 2 hour minute second micros (omega arith) n s u) in
    safe_append (day_text year month day) _
    (safe_append (digits_in 4 year) _ (safe_number 4 year (omega arith))
    (safe_append (0x2d ∷ digits_in 2 month) _ one two))
    (safe_choice (is_zero_time 0 hour minute second micros) [] _ tt clock)

safe_time : (negative : Bool) (days hours minutes seconds micros : ℕ) → days < 2 ^ 32 →
    hours < 256 → minutes < 256 → seconds < 256 → micros < 2 ^ 32 →
    AreSafe (time_text negative days hours minutes seconds micros)
safe_time negative days hours minutes seconds micros d h m s u =
    safe_append (sign_text negative) _
    (safe_choice negative (0x2d ∷ []) [] (safe_between 0x2d (omega arith) (omega arith) (λ e. omega (arith, e)), tt) tt)
    (safe_clock 3 (days * 24 + hours) minutes seconds micros (omega arith) m s u)

unquoted : (text : List ℕ) → AreSafe text → AllByRecursion (λ b. (b ≢ single_quote) × (b ≢ backslash)) text
unquoted [] h = tt
unquoted (b ∷ text) h = ((h.0.1, h.0.4), unquoted text h.1)

-- bytes

-- each byte of a list whose bytes lie below 256
all_bytes : (bytes : List ℕ) → ((k : ℕ) → k < length bytes → get_or bytes k 0 < 256) →
    AllByRecursion (λ b. b < 256) bytes
all_bytes [] h = tt
all_bytes (b ∷ bytes) h = (h 0 (omega arith), all_bytes bytes (λ k l. h (suc k) (omega arith)))

digit_is_low : (n : ℕ) → n < 16 → IsInRange 0x30 0x46 (hex_digit n)
digit_is_low n h = grind (arith, nat_tests)

safe_hex_digit : (n : ℕ) → n < 16 → IsSafeByte (hex_digit n)
safe_hex_digit n h = let l : IsInRange 0x30 0x46 (hex_digit n) = digit_is_low n h in
    safe_between (hex_digit n) (omega (arith, l.0)) (omega (arith, l.1))
    (λ e. omega (arith, e, l.0))

safe_hex_digits : (bytes : List ℕ) → AllByRecursion (λ b. b < 256) bytes →
    AreSafe (flat_map (λ b. hex_digit (b / 16) ∷ hex_digit (b % 16) ∷ []) bytes)
safe_hex_digits [] h = tt
safe_hex_digits (b ∷ bytes) h =
    let high : b / 16 < 16 = omega (arith, h.0) in
    let low : b % 16 < 16 = omega arith in
    (safe_hex_digit (b / 16) high, (safe_hex_digit (b % 16) low, safe_hex_digits bytes h.1))

safe_hexadecimal : (bytes : List ℕ) → AllByRecursion (λ b. b < 256) bytes → AreSafe (in_hexadecimal bytes)
safe_hexadecimal bytes h = (
  safe_between 0x30 (omega arith) (omega arith) (λ e. omega (arith, e)),
  (safe_x, safe_hex_digits bytes h),
)

-- the introducers
safe_letters : (b : ℕ) → 0x61 ≤ b → b < 0x80 → IsSafeByte b
safe_letters b h k = safe_above b (omega arith) k (λ e. omega (arith, e, h))

safe_introducer : (text : Bool) → AreSafe (if text then text_introducer else binary_introducer)
safe_introducer true = (
  safe_above 0x5f (omega arith) (omega arith) (λ e. omega (arith, e)),
  (
    safe_letters 0x75 (omega arith) (omega arith),
    (
      safe_letters 0x74 (omega arith) (omega arith),
      (
        safe_letters 0x66 (omega arith) (omega arith),
        (
          safe_between 0x38 (omega arith) (omega arith) (λ e. omega (arith, e)),
          (
            safe_letters 0x6d (omega arith) (omega arith),
            (
              safe_letters 0x62 (omega arith) (omega arith),
              (safe_between 0x34 (omega arith) (omega arith) (λ e. omega (arith, e)), (safe_space, tt)),
            ),
          ),
        ),
      ),
    ),
  ),
)
safe_introducer false = (
  safe_above 0x5f (omega arith) (omega arith) (λ e. omega (arith, e)),
  (
    safe_letters 0x62 (omega arith) (omega arith),
    (
      safe_letters 0x69 (omega arith) (omega arith),
      (
        safe_letters 0x6e (omega arith) (omega arith),
        (
          safe_letters 0x61 (omega arith) (omega arith),
          (
            safe_letters 0x72 (omega arith) (omega arith),
            (safe_letters 0x79 (omega arith) (omega arith), (safe_space, tt)),
          ),
        ),
      ),
    ),
  ),
)

quoted_literal : WrittenIsRead → (mode : Mode) (sp : Spelling) (test : Bool) (bytes : List ℕ) →
    is_utf8 bytes ≡ test → AllByRecursion (λ b. b < 256) bytes
    → IsLiteral mode sp (if test then quoted mode.no_backslash_escapes bytes else in_hexadecimal
    bytes) (content.Bytes bytes)
quoted_literal written mode sp true bytes e h = written.quotes mode sp bytes
quoted_literal written mode sp false bytes e h =
    written.digits mode sp bytes h (λ none.
    let text : is_utf8 bytes ≡ true = ap is_utf8 none ∙ is_utf8-from_IsUtf8 [] IsUtf8-nil in
    let differs : true ≡ false = sym text ∙ e in cc)

hexadecimal_literal : WrittenIsRead → PlainIsRead → (mode : Mode) (bytes : List ℕ) →
    AllByRecursion (λ b. b < 256) bytes →
    IsLiteral mode Hexadecimal (hexadecimal_sql bytes) (content.Bytes bytes)
hexadecimal_literal written plain mode [] h = plain mode Hexadecimal [] tt
hexadecimal_literal written plain mode (b ∷ bytes) h = written.introducers mode (b ∷ bytes) h (λ e. cc)

bytes_literal : WrittenIsRead → PlainIsRead → (mode : Mode) (sp : Spelling) (bytes : List ℕ) →
    AllByRecursion (λ b. b < 256) bytes
    → IsLiteral mode sp (bytes_sql mode.no_backslash_escapes sp bytes) (content.Bytes bytes)
bytes_literal written plain mode Quoted bytes h = quoted_literal written mode Quoted (is_utf8 bytes) bytes refl h
bytes_literal written plain mode Hexadecimal bytes h = hexadecimal_literal written plain mode bytes h

-- values

at_both : (mode : Mode) (sp : Spelling) (a text : List ℕ) (c meaning : Content) → Some a ≡
    Some text → Some c ≡ Some meaning → IsLiteral mode sp a c → IsLiteral mode sp text meaning
at_both mode sp a text c meaning e f h =
    let same : a ≡ text = cc in
    let means : c ≡ meaning = cc in
    subst (λ t. IsLiteral mode sp t meaning) same (subst (λ k. IsLiteral mode sp a k) means h)

each_sql_is_literal : WrittenIsRead → PlainIsRead → (value : Value) → FitsFields value → SqlIsLiteral value
each_sql_is_literal written plain NULL h mode spelling text meaning e f =
    at_both mode spelling (codes "NULL") text content.Null meaning e f refl
each_sql_is_literal written plain (Bytes bytes) h mode spelling text meaning e f =
    at_both mode spelling (bytes_sql mode.no_backslash_escapes spelling bytes) text
    (content.Bytes bytes) meaning e f
    (bytes_literal written plain mode spelling bytes (all_bytes bytes (λ k l. h.0 k)))
each_sql_is_literal written plain (Int (pos n)) h mode spelling text meaning e f =
    at_both mode spelling (decimal n) text (content.Number (pos n)) meaning e f
    (unsigned_number n (omega (arith, h.sfits)))
each_sql_is_literal written plain (Int (negsuc n)) h mode spelling text meaning e f =
    at_both mode spelling (0x2d ∷ decimal (suc n)) text (content.Number (negsuc n)) meaning e f
    (negative_number n (omega (arith, h.sfits)))
each_sql_is_literal written plain (UInt n) h mode spelling text meaning e f =
    at_both mode spelling (decimal n) text (content.Number (pos n)) meaning e f
    (unsigned_number n h)
each_sql_is_literal written plain (Float bits) h mode spelling text meaning e f = cc
each_sql_is_literal written plain (Double bits) h mode spelling text meaning e f = cc
each_sql_is_literal written plain (Date year month day hour minute second micros) h mode spelling text meaning e f =
    let safe : AreSafe (date_text year month day hour minute second micros) =
    safe_date year month day hour minute second micros h.0 h.1 h.2 h.3 h.4 h.5 h.6 in
    at_both mode spelling _ text _ meaning e f
    (plain mode spelling (date_text year month day hour minute second micros) (unquoted _ safe))
each_sql_is_literal written plain (Time negative days hours minutes seconds micros) h mode spelling text meaning e f =
    let safe : AreSafe (time_text negative days hours minutes seconds micros) =
    safe_time negative days hours minutes seconds micros h.0 h.1 h.2 h.3 h.4 in
    at_both mode spelling _ text _ meaning e f
    (plain mode spelling (time_text negative days hours minutes seconds micros)
    (unquoted _ safe))

fits_without_sign : (value : Value) → FitsFields value → FitsFields (without_zero_sign value)
fits_without_sign NULL h = h
fits_without_sign (Bytes bytes) h = h
fits_without_sign (Int z) h = h
fits_without_sign (UInt n) h = h
fits_without_sign (Float bits) h = h
fits_without_sign (Double bits) h = h
fits_without_sign (Date year month day hour minute second micros) h = h
fits_without_sign (Time negative days hours minutes seconds micros) h = h

pub each_is_literal : WrittenIsRead → PlainIsRead → EachSqlIsLiteral
each_is_literal written plain value h = (
  each_sql_is_literal written plain value h,
  each_sql_is_literal written plain (without_zero_sign value) (fits_without_sign value h),
)

-- hexadecimal spelling

-- what stands for a value whose literal has no quotes, and for another
abbrev IsSafeText : Bool → List ℕ → Type 0
IsSafeText in_place text = ((in_place ≡ false) × AreSafe text) ⊎
    ((in_place ≡ true) × (inside : List ℕ) × (text ≡ in_quotes inside) × AreSafe inside)

safe_text : (a text : List ℕ) (in_place : Bool) → Some a ≡ Some text → IsSafeText in_place a → IsSafeText in_place text
safe_text a text in_place e h = let same : a ≡ text = cc in subst (IsSafeText in_place) same h

safe_bytes : (bytes : List ℕ) → AllByRecursion (λ b. b < 256) bytes →
    IsSafeText (stands_in_quotes (Bytes bytes)) (hexadecimal_sql bytes)
safe_bytes [] h = inr (refl, [], refl, tt)
safe_bytes (b ∷ bytes) h =
    inl (
      refl,
      safe_append _ (in_hexadecimal (b ∷ bytes)) (safe_introducer (is_utf8 (b ∷ bytes)))
          (safe_hexadecimal (b ∷ bytes) h),
    )

pub each_hexadecimal_is_safe : EachHexadecimalIsSafe
each_hexadecimal_is_safe NULL h mode text e =
    let letter : IsSafeByte 0x4c = safe_between 0x4c (omega arith) (omega arith) (λ e. omega (arith, e)) in
    safe_text (codes "NULL") text false e
    (inl (
      refl,
      (
        safe_between 0x4e (omega arith) (omega arith) (λ e. omega (arith, e)),
        (
          safe_between 0x55 (omega arith) (omega arith) (λ e. omega (arith, e)),
          (letter, (letter, tt)),
        ),
      ),
    ))
each_hexadecimal_is_safe (Bytes bytes) h mode text e =
    safe_text (hexadecimal_sql bytes) text (stands_in_quotes (Bytes bytes)) e
    (safe_bytes bytes (all_bytes bytes (λ k l. h.0 k)))
each_hexadecimal_is_safe (Int (pos n)) h mode text e =
    safe_text (decimal n) text false e (inl (refl, safe_decimal n (omega (arith, h.sfits))))
each_hexadecimal_is_safe (Int (negsuc n)) h mode text e =
    safe_text (0x2d ∷ decimal (suc n)) text false e
    (inl (refl, safe_negative (suc n) (omega (arith, h.sfits))))
each_hexadecimal_is_safe (UInt n) h mode text e = safe_text (decimal n) text false e (inl (refl, safe_decimal n h))
each_hexadecimal_is_safe (Float bits) h mode text e = cc
each_hexadecimal_is_safe (Double bits) h mode text e = cc
each_hexadecimal_is_safe (Date year month day hour minute second micros) h mode text e =
    safe_text _ text true e (inr (
      refl,
      date_text year month day hour minute second micros,
      refl,
      safe_date year month day hour minute second micros h.0 h.1 h.2 h.3 h.4 h.5 h.6,
    ))
each_hexadecimal_is_safe (Time negative days hours minutes seconds micros) h mode text e =
    let sign : Bool = negative && not (is_zero_time days hours minutes seconds micros) in
    safe_text _ text true e (inr (
      refl,
      time_text sign days hours minutes seconds micros,
      refl,
      safe_time sign days hours minutes seconds micros h.0 h.1 h.2 h.3 h.4,
    ))

pub one_hexadecimal : OneHexadecimal
one_hexadecimal NULL mode other = refl
one_hexadecimal (Bytes bytes) mode other = refl
one_hexadecimal (Int z) mode other = refl
one_hexadecimal (UInt n) mode other = refl
one_hexadecimal (Float bits) mode other = refl
one_hexadecimal (Double bits) mode other = refl
one_hexadecimal (Date year month day hour minute second micros) mode other = refl
one_hexadecimal (Time negative days hours minutes seconds micros) mode other = refl

-- UTF-8

ascii_at : (text : List ℕ) → AllByRecursion (λ b. b < 128) text → IsAscii text
ascii_at [] h i = omega arith
ascii_at (b ∷ text) h zero = h.0
ascii_at (b ∷ text) h (suc i) = ascii_at text h.1 i

ascii_is_utf8 : (text : List ℕ) → AllByRecursion (λ b. b < 128) text → IsUtf8 text
ascii_is_utf8 text h = IsUtf8-from_ascii text (ascii_at text h)

safe_is_ascii : (text : List ℕ) → AreSafe text → AllByRecursion (λ b. b < 128) text
safe_is_ascii [] h = tt
safe_is_ascii (b ∷ text) h = (h.0.0, safe_is_ascii text h.1)

safe_is_utf8 : (text : List ℕ) → AreSafe text → IsUtf8 text
safe_is_utf8 text h = ascii_is_utf8 text (safe_is_ascii text h)

quotes_are_utf8 : (text : List ℕ) → IsUtf8 text → IsUtf8 (in_quotes text)
quotes_are_utf8 text h =
    let quote : IsUtf8 (single_quote ∷ []) = ascii_is_utf8 (single_quote ∷ []) (omega arith, tt) in
    IsUtf8-append (single_quote ∷ []) (text ++ single_quote ∷ []) quote (IsUtf8-append text (single_quote ∷ []) h quote)

-- a byte from 128 on stands for itself
is_other : (b k : ℕ) → k < 128 → 128 ≤ b → (b == k) ≡ false
is_other b k l h = grind (arith, nat_tests)

high_byte : (m : Bool) (b : ℕ) → 128 ≤ b → written_byte m b ≡ b ∷ []
high_byte true b h =
    let e : (b == single_quote) ≡ false = is_other b single_quote (omega arith) h in rw e refl
high_byte false b h =
    let e0 : (b == 0x00) ≡ false = is_other b 0x00 (omega arith) h in
    let e1 : (b == 0x0a) ≡ false = is_other b 0x0a (omega arith) h in
    let e2 : (b == 0x0d) ≡ false = is_other b 0x0d (omega arith) h in
    let e3 : (b == 0x1a) ≡ false = is_other b 0x1a (omega arith) h in
    let e4 : (b == backslash) ≡ false = is_other b backslash (omega arith) h in
    let e5 : (b == single_quote) ≡ false = is_other b single_quote (omega arith) h in
    let e6 : (b == double_quote) ≡ false = is_other b double_quote (omega arith) h in
    rw (e0, e1, e2, e3, e4, e5, e6) refl

high_bytes : (m : Bool) (bytes : List ℕ) → ((k : ℕ) → k < length bytes → 128 ≤ get_or bytes k 0) →
    flat_map (written_byte m) bytes ≡ bytes
high_bytes m [] h = refl
high_bytes m (b ∷ bytes) h =
    ap (λ t. t ++ flat_map (written_byte m) bytes) (high_byte m b (h 0 (omega arith))) ∙
    ap (λ t. b ∷ t) (high_bytes m bytes (λ k l. h (suc k) (omega arith)))

ascii_choice : (test : Bool) (xs ys : List ℕ) → AllByRecursion (λ b. b < 128) xs →
    AllByRecursion (λ b. b < 128) ys → AllByRecursion (λ b. b < 128) (if test then xs else ys)
ascii_choice true xs ys h k = h
ascii_choice false xs ys h k = k

two : (a b : ℕ) → a < 128 → b < 128 → AllByRecursion (λ b. b < 128) (a ∷ b ∷ [])
two a b h k = (h, (k, tt))

low_byte : (m : Bool) (b : ℕ) → b < 128 → AllByRecursion (λ b. b < 128) (written_byte m b)
low_byte true b h = ascii_choice (b == single_quote) _ (b ∷
    []) (two single_quote single_quote (omega arith) (omega arith)) (h, tt)
low_byte false b h =
    ascii_choice (b == 0x00) _ _ (two backslash 0x30 (omega arith) (omega arith))
    (ascii_choice (b == 0x0a) _ _ (two backslash 0x6e (omega arith) (omega arith))
    (ascii_choice (b == 0x0d) _ _ (two backslash 0x72 (omega arith) (omega arith))
    (ascii_choice (b == 0x1a) _ _ (two backslash 0x5a (omega arith) (omega arith))
    (ascii_choice ((b == backslash) || (b == single_quote) || (b == double_quote)) (backslash ∷
    b ∷ []) (b ∷ []) (two backslash b (omega arith) h) (h, tt)))))

char_high : (c : ℕ) → 128 ≤ c → (k : ℕ) → k < length (encode c) → 128 ≤ get_or (encode c) k 0
char_high c h k l =
    elim (cases_lt (get_or (encode c) k 0) 128) [
      | inl small ↦ (let e : c ≡ get_or (encode c) k 0 =
          inside_one c [] (encode c) k (sym (append-nil (encode c))) l small in
          omega (arith, e, small, h))
      | inr large ↦ large
    ]

char_is_utf8 : (m : Bool) (c : ℕ) → scalar c ≡ true → IsUtf8 (flat_map (written_byte m) (encode c))
char_is_utf8 m c s =
    elim (cases_lt c 128) [
      | inl small ↦ subst (λ t. IsUtf8 (flat_map (written_byte m) t)) (sym (encode_ascii c small))
          (subst IsUtf8 (sym (append-nil (written_byte m c)))
          (ascii_is_utf8 (written_byte m c) (low_byte m c small)))
      | inr large ↦ subst IsUtf8 (sym (high_bytes m (encode c) (char_high c large))) (IsUtf8-encode c s)
    ]

first_of_both : (a b : Bool) → a && b ≡ true → a ≡ true
first_of_both true b e = refl
first_of_both false b e = e

second_of_both : (a b : Bool) → a && b ≡ true → b ≡ true
second_of_both true b e = e
second_of_both false b e = cc

chars_are_utf8 : (m : Bool) (cs : List ℕ) → scalars cs ≡ true → IsUtf8 (flat_map (written_byte m) (encodes cs))
chars_are_utf8 m [] e = IsUtf8-nil
chars_are_utf8 m (c ∷ cs) e =
    subst IsUtf8 (sym (flat_map-append (written_byte m) (encode c) (encodes cs)))
    (IsUtf8-append _ _ (char_is_utf8 m c (first_of_both (scalar c) (scalars cs) e))
    (chars_are_utf8 m cs (second_of_both (scalar c) (scalars cs) e)))

escaped_is_utf8 : (m : Bool) (bytes : List ℕ) → IsUtf8 bytes → IsUtf8 (flat_map (written_byte m) bytes)
escaped_is_utf8 m bytes u = subst (λ t. IsUtf8 (flat_map (written_byte m) t)) u.1.1 (chars_are_utf8 m u.0 u.1.0)

bytes_are_utf8 : (m test : Bool) (bytes : List ℕ) → is_utf8 bytes ≡ test →
    AllByRecursion (λ b. b < 256) bytes →
    IsUtf8 (if test then quoted m bytes else in_hexadecimal bytes)
bytes_are_utf8 m true bytes e h = quotes_are_utf8 _ (escaped_is_utf8 m bytes (IsUtf8-from_is_utf8 bytes e))
bytes_are_utf8 m false bytes e h = safe_is_utf8 (in_hexadecimal bytes) (safe_hexadecimal bytes h)

number_is_utf8 : (n : ℕ) → n < 2 ^ 64 → IsUtf8 (decimal n)
number_is_utf8 n h = safe_is_utf8 (decimal n) (safe_decimal n h)

pub sql_is_utf8 : (m : Bool) (value : Value) (text : List ℕ) → FitsFields value → sql_of m value ≡
    Some text → IsUtf8 text
sql_is_utf8 m NULL text h e = let same : codes "NULL" ≡ text = cc in
    subst IsUtf8 same (ascii_is_utf8 (codes "NULL") (
      omega arith,
      (omega arith, (omega arith, (omega arith, tt))),
    ))
sql_is_utf8 m (Bytes bytes) text h e = let same : quoted_sql m bytes ≡ text = cc in
    subst IsUtf8 same (bytes_are_utf8 m (is_utf8 bytes) bytes refl (all_bytes bytes (λ k l. h.0 k)))
sql_is_utf8 m (Int (pos n)) text h e = let same : decimal n ≡ text = cc in
    subst IsUtf8 same (number_is_utf8 n (omega (arith, h.sfits)))
sql_is_utf8 m (Int (negsuc n)) text h e =
    let same : 0x2d ∷ decimal (suc n) ≡ text = cc in
    subst IsUtf8 same (safe_is_utf8 (0x2d ∷ decimal (suc n)) (safe_negative (suc n) (omega (arith, h.sfits))))
sql_is_utf8 m (UInt n) text h e = let same : decimal n ≡ text = cc in subst IsUtf8 same (number_is_utf8 n h)
sql_is_utf8 m (Float bits) text h e = cc
sql_is_utf8 m (Double bits) text h e = cc
sql_is_utf8 m (Date year month day hour minute second micros) text h e =
    let safe : AreSafe (date_text year month day hour minute second micros) =
    safe_date year month day hour minute second micros h.0 h.1 h.2 h.3 h.4 h.5 h.6 in
    let same : in_quotes (date_text year month day hour minute second micros) ≡ text = cc in
    subst IsUtf8 same (quotes_are_utf8 _ (safe_is_utf8 _ safe))
sql_is_utf8 m (Time negative days hours minutes seconds micros) text h e =
    let safe : AreSafe (time_text negative days hours minutes seconds micros) =
    safe_time negative days hours minutes seconds micros h.0 h.1 h.2 h.3 h.4 in
    let same : in_quotes (time_text negative days hours minutes seconds micros) ≡ text = cc in
    subst IsUtf8 same (quotes_are_utf8 _ (safe_is_utf8 _ safe))

-- what was appended to nothing is the text
some_text : (o : Option (List ℕ)) (new : List ℕ) → PutsSql o [] new (Ok tt) → o ≡ Some new
some_text (Some text) new h = ap Some (sym h)
some_text None new h = absurd h

pub put_is_utf8 : (m : Bool) (value : Value) (new : List ℕ) → FitsFields value →
    PutsSql (sql_of m value) [] new (Ok tt) → IsUtf8 new
put_is_utf8 m value new h put = sql_is_utf8 m value new h (some_text (sql_of m value) new put)

kept : (b : Bool) → b && true ≡ b
kept true = refl
kept false = refl

-- where the sign of an all-zero time is kept, a value is as it is
pub sign_kept : (value : Value) → with_zero_sign true value ≡ value
sign_kept NULL = refl
sign_kept (Bytes bytes) = refl
sign_kept (Int z) = refl
sign_kept (UInt n) = refl
sign_kept (Float bits) = refl
sign_kept (Double bits) = refl
sign_kept (Date year month day hour minute second micros) = refl
sign_kept (Time negative days hours minutes seconds micros) =
    ap (λ b. Time b days hours minutes seconds micros) (kept negative)
