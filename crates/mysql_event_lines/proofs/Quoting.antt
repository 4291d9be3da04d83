-- A text in quotes is read back, and no line has a control character.
use Rattle.std.proofs.Common.{◌≡◌, ℕ, ◌+◌, ◌*◌, ◌/◌, ◌%◌, ◌<◌, Bool, true, false, cond, not, ◌&&◌, ◌==◌, nat_lt, ◌⊎◌}
use Rattle.std.proofs.Common.{inl, inr}
use Rattle.std.proofs.Common.{List, [], ◌∷◌, ◌++◌, fold, flat_map, refl, sym, ap, ◌∙◌, subst, arith, append-nil}
use Rattle.std.proofs.Common.{append_assoc}
use Rattle.std.specs.List.{list_all}
use Rattle.std.specs.Str.{IsUtf8, is_utf8}
use Rattle.std.proofs.lemmas.Bool.Decides.{nat_tests}
use Rattle.std.proofs.lemmas.List.Folds.{list_all-append}
use Rattle.std.proofs.lemmas.List.Sums.{fold-append}
use Rattle.std.proofs.lemmas.Str.{IsUtf8-from_is_utf8, is_utf8-from_IsUtf8}
use Rattle.mysql_event_lines.specs.Laws.{QuotedIsRead, ReadableHasNoControls}
use Rattle.mysql_event_lines.specs.Quoted.{Inside, First, Second}
use Rattle.mysql_event_lines.specs.Quoted.{backslash, digit_of, digit_value, digits_of, escaped, in_digits, is_control}
use Rattle.mysql_event_lines.specs.Quoted.{has_no_wide_control, is_between, quote, quoted, read_byte}
use Rattle.mysql_event_lines.specs.Quoted.{scan_byte, text_read}
use Rattle.mysql_event_lines.specs.declared.quoted.Scan.{Scan}
use Rattle.mysql_event_lines.specs.declared.quoted.Scan.TheVariants.{Begun, Between, Found}

bool_tells : (x : Bool) → (x ≡ true) ⊎ (x ≡ false)
bool_tells true = inl refl
bool_tells false = inr refl

pub is_text : (bytes : List ℕ) → IsUtf8 bytes → true ≡ is_utf8 bytes
is_text bytes h = sym (is_utf8-from_IsUtf8 bytes h)

pub is_no_text : (bytes : List ℕ) → (IsUtf8 bytes → ⊥) → false ≡ is_utf8 bytes
is_no_text bytes n = elim (bool_tells (is_utf8 bytes)) [
  | inl h ↦ absurd (n (IsUtf8-from_is_utf8 bytes h))
  | inr h ↦ sym h
]

false_is_not_true : false ≡ true → ⊥
false_is_not_true e = subst (λ x. cond x ⊥ (Unit {0})) e tt

both_hold : (x y : Bool) → (x && y) ≡ true → y ≡ true
both_hold true y h = h
both_hold false y h = absurd (false_is_not_true h)

first_below : (b : ℕ) (bytes : List ℕ) → list_all (λ c. nat_lt c 256) (b ∷ bytes) ≡ true → b < 256
first_below b bytes h = grind (arith, nat_tests, h)

others_below : (b : ℕ) (bytes : List ℕ) → list_all (λ c. nat_lt c 256) (b ∷ bytes) ≡ true →
    list_all (λ c. nat_lt c 256) bytes ≡ true
others_below b bytes h = both_hold (nat_lt b 256) (list_all (λ c. nat_lt c 256) bytes) h

same_number : (b c : ℕ) → (b == c) ≡ true → b ≡ c
same_number b c h = grind (arith, nat_tests)

-- DIGITS

value_of_digit : (n : ℕ) → n < 16 → digit_value (digit_of n) ≡ n
value_of_digit n h = grind (arith, nat_tests)

not_sixteen : (x n : ℕ) → digit_value x ≡ n → n < 16 → (digit_value x == 16) ≡ false
not_sixteen x n h l = grind (arith, nat_tests, h, l)

first_digit : (t : List ℕ) (x n : ℕ) → digit_value x ≡ n → n < 16 → read_byte (First t) x ≡ Second t n
first_digit t x n h l = rw (not_sixteen x n h l) (ap (Second t) h)

second_digit : (t : List ℕ) (d x n : ℕ) → digit_value x ≡ n → n < 16 →
    read_byte (Second t d) x ≡ Inside (t ++ (16 * d + n) ∷ [])
second_digit t d x n h l = rw (not_sixteen x n h l) (ap (λ y. Inside (t ++ (16 * d + y) ∷ [])) h)

two_digits : (t : List ℕ) (x y m n : ℕ) → digit_value x ≡ m → m < 16 → digit_value y ≡ n → n < 16 →
    fold read_byte (First t) (x ∷ y ∷ []) ≡ Inside (t ++ (16 * m + n) ∷ [])
two_digits t x y m n h l k o = ap (λ r. read_byte r y) (first_digit t x m h l) ∙ second_digit t m y n k o

sixteenths : (b : ℕ) → b < 256 → b / 16 < 16
sixteenths b h = grind arith

rest_below : (b : ℕ) → b % 16 < 16
rest_below b = grind arith

halves : (b : ℕ) → 16 * (b / 16) + b % 16 ≡ b
halves b = grind arith

digits_back : (t : List ℕ) (b : ℕ) → b < 256 → fold read_byte (First t) (digits_of b) ≡ Inside (t ++ b ∷ [])
digits_back t b h =
    two_digits t (digit_of (b / 16)) (digit_of (b % 16)) (b / 16) (b % 16)
    (value_of_digit (b / 16) (sixteenths b h)) (sixteenths b h)
    (value_of_digit (b % 16) (rest_below b)) (rest_below b)
    ∙ ap (λ n. Inside (t ++ n ∷ [])) (halves b)

-- A BYTE

small_control : (b : ℕ) → is_control b ≡ true → b < 256
small_control b h = grind (arith, nat_tests, h)

abbrev Back : List ℕ → ℕ → Type 0
Back t b = fold read_byte (Inside t) (escaped b) ≡ Inside (t ++ b ∷ [])

abbrev Above : ℕ → Type 0
Above b = list_all (λ c. not (is_control c)) (escaped b) ≡ true

at_number : (P : ℕ → Type 0) (b c : ℕ) → (b == c) ≡ true → P c → P b
at_number P b c h p = subst P (sym (same_number b c h)) p

-- Bytes with a letter of their own, control characters, and all others.
by_kind : (P : ℕ → Type 0) → P quote → P backslash → P 0x0a → P 0x0d → P 0x09 →
    ((b : ℕ) → (b == quote) ≡ false → (b == backslash) ≡ false → (b == 0x0a) ≡ false → (b == 0x0d) ≡ false →
    (b == 0x09) ≡ false → P b) → (b : ℕ) → P b
by_kind P q s n r t other b = elim (bool_tells (b == quote)) [
  | inl h ↦ at_number P b quote h q
  | inr h ↦ elim (bool_tells (b == backslash)) [
    | inl i ↦ at_number P b backslash i s
    | inr i ↦ elim (bool_tells (b == 0x0a)) [
      | inl j ↦ at_number P b 0x0a j n
      | inr j ↦ elim (bool_tells (b == 0x0d)) [
        | inl k ↦ at_number P b 0x0d k r
        | inr k ↦ elim (bool_tells (b == 0x09)) [
          | inl l ↦ at_number P b 0x09 l t
          | inr l ↦ other b h i j k l
        ]
      ]
    ]
  ]
]

escaped_control : (b : ℕ) → (b == quote) ≡ false → (b == backslash) ≡ false → (b == 0x0a) ≡ false →
    (b == 0x0d) ≡ false → (b == 0x09) ≡ false → is_control b ≡ true →
    escaped b ≡ backslash ∷ 0x78 ∷ digits_of b
escaped_control b h i j k l m = rw h (rw i (rw j (rw k (rw l (rw m refl)))))

escaped_plain : (b : ℕ) → (b == quote) ≡ false → (b == backslash) ≡ false → (b == 0x0a) ≡ false →
    (b == 0x0d) ≡ false → (b == 0x09) ≡ false → is_control b ≡ false → escaped b ≡ b ∷ []
escaped_plain b h i j k l m = rw h (rw i (rw j (rw k (rw l (rw m refl)))))

plain_back : (t : List ℕ) (b : ℕ) → (b == quote) ≡ false → (b == backslash) ≡ false →
    read_byte (Inside t) b ≡ Inside (t ++ b ∷ [])
plain_back t b h i = rw h (rw i refl)

one_back : (t : List ℕ) (b : ℕ) → Back t b
one_back t b = by_kind (Back t) refl refl refl refl refl other b
  where
    other : (b : ℕ) → (b == quote) ≡ false → (b == backslash) ≡ false → (b == 0x0a) ≡ false →
        (b == 0x0d) ≡ false → (b == 0x09) ≡ false → Back t b
    other b h i j k l = elim (bool_tells (is_control b)) [
      | inl m ↦ ap (fold read_byte (Inside t)) (escaped_control b h i j k l m) ∙ digits_back t b (small_control b m)
      | inr m ↦ ap (fold read_byte (Inside t)) (escaped_plain b h i j k l m) ∙ plain_back t b h i
    ]

-- A TEXT

all_back : (t text : List ℕ) → fold read_byte (Inside t) (flat_map escaped text) ≡ Inside (t ++ text)
all_back t [] = ap Inside (sym (append-nil t))
all_back t (b ∷ text) =
    fold-append read_byte (Inside t) (escaped b) (flat_map escaped text)
    ∙ ap (λ r. fold read_byte r (flat_map escaped text)) (one_back t b)
    ∙ all_back (t ++ b ∷ []) text
    ∙ ap Inside (append_assoc t (b ∷ []) text)

pub quoted_read : QuotedIsRead
quoted_read text = ap text_read
    (fold-append read_byte (Inside []) (flat_map escaped text) (quote ∷ [])
    ∙ ap (λ r. fold read_byte r (quote ∷ [])) (all_back [] text))

-- NO CONTROL CHARACTERS OF ASCII

digit_above : (n : ℕ) → n < 16 → not (is_control (digit_of n)) ≡ true
digit_above n h = grind (arith, nat_tests, h)

digits_above : (b : ℕ) → b < 256 → list_all (λ c. not (is_control c)) (digits_of b) ≡ true
digits_above b h = rw (digit_above (b / 16) (sixteenths b h)) (rw (digit_above (b % 16) (rest_below b)) refl)

one_above : (b : ℕ) → Above b
one_above b = by_kind Above refl refl refl refl refl other b
  where
    other : (b : ℕ) → (b == quote) ≡ false → (b == backslash) ≡ false → (b == 0x0a) ≡ false →
        (b == 0x0d) ≡ false → (b == 0x09) ≡ false → Above b
    other b h i j k l = elim (bool_tells (is_control b)) [
      | inl m ↦ ap (list_all (λ c. not (is_control c))) (escaped_control b h i j k l m)
          ∙ digits_above b (small_control b m)
      | inr m ↦ ap (list_all (λ c. not (is_control c))) (escaped_plain b h i j k l m) ∙ rw m refl
    ]

each_above : (bytes : List ℕ) → list_all (λ b. nat_lt b 256) bytes ≡ true →
    list_all (λ c. not (is_control c)) (flat_map digits_of bytes) ≡ true
each_above [] h = refl
each_above (b ∷ bytes) h =
    list_all-append (λ c. not (is_control c)) (digits_of b) (flat_map digits_of bytes)
    ∙ rw (digits_above b (first_below b bytes h)) (each_above bytes (others_below b bytes h))

text_above : (text : List ℕ) → list_all (λ c. not (is_control c)) (flat_map escaped text) ≡ true
text_above [] = refl
text_above (b ∷ text) =
    list_all-append (λ c. not (is_control c)) (escaped b) (flat_map escaped text)
    ∙ rw (one_above b) (text_above text)

quoted_above : (text : List ℕ) → list_all (λ c. not (is_control c)) (quoted text) ≡ true
quoted_above text =
    list_all-append (λ c. not (is_control c)) (flat_map escaped text) (quote ∷ [])
    ∙ rw (text_above text) refl

-- NO CONTROL CHARACTERS OF TWO BYTES

-- A byte below 0xc2 that isn't seen behind 0xc2.
abbrev Passes : List ℕ → Type 0
Passes bytes = fold scan_byte Between bytes ≡ Between

passes_digit : (n : ℕ) → n < 16 → scan_byte Between (digit_of n) ≡ Between
passes_digit n h = rw (not_begun n h) refl
  where
    not_begun : (n : ℕ) → n < 16 → (digit_of n == 0xc2) ≡ false
    not_begun n h = grind (arith, nat_tests, h)

passes_digits : (b : ℕ) → b < 256 → Passes (digits_of b)
passes_digits b h =
    ap (λ s. scan_byte s (digit_of (b % 16))) (passes_digit (b / 16) (sixteenths b h))
    ∙ passes_digit (b % 16) (rest_below b)

all_digits_pass : (bytes : List ℕ) → list_all (λ b. nat_lt b 256) bytes ≡ true → Passes (flat_map digits_of bytes)
all_digits_pass [] h = refl
all_digits_pass (b ∷ bytes) h =
    fold-append scan_byte Between (digits_of b) (flat_map digits_of bytes)
    ∙ ap (λ s. fold scan_byte s (flat_map digits_of bytes)) (passes_digits b (first_below b bytes h))
    ∙ all_digits_pass bytes (others_below b bytes h)

-- An escaped byte is passed as the byte is.
abbrev Same : Scan → ℕ → Type 0
Same s b = fold scan_byte s (escaped b) ≡ scan_byte s b

found_stays : (bytes : List ℕ) → fold scan_byte Found bytes ≡ Found
found_stays [] = refl
found_stays (b ∷ bytes) = found_stays bytes

control_passes : (s : Scan) (b : ℕ) → is_control b ≡ true →
    fold scan_byte s (backslash ∷ 0x78 ∷ digits_of b) ≡ scan_byte s b
control_passes Between b h =
    passes_digits b (small_control b h) ∙ sym (rw (control_begins_none b h) refl)
  where
    control_begins_none : (b : ℕ) → is_control b ≡ true → (b == 0xc2) ≡ false
    control_begins_none b h = grind (arith, nat_tests, h)
control_passes Begun b h = found_stays (0x78 ∷ digits_of b) ∙ sym (rw (control_is_low b h) refl)
  where
    control_is_low : (b : ℕ) → is_control b ≡ true → nat_lt b 0xa0 ≡ true
    control_is_low b h = grind (arith, nat_tests, h)
control_passes Found b h = found_stays (backslash ∷ 0x78 ∷ digits_of b)

letter_passes : (s : Scan) (b c : ℕ) → (b == 0xc2) ≡ false → nat_lt b 0xa0 ≡ true → (c == 0xc2) ≡ false →
    fold scan_byte s (backslash ∷ c ∷ []) ≡ scan_byte s b
letter_passes Between b c h i j = rw j (rw h refl)
letter_passes Begun b c h i j = rw i refl
letter_passes Found b c h i j = refl

one_passes : (s : Scan) (b : ℕ) → Same s b
one_passes s b = by_kind (Same s) (letter_passes s quote quote refl refl refl)
    (letter_passes s backslash backslash refl refl refl) (letter_passes s 0x0a 0x6e refl refl refl)
    (letter_passes s 0x0d 0x72 refl refl refl) (letter_passes s 0x09 0x74 refl refl refl) other b
  where
    other : (b : ℕ) → (b == quote) ≡ false → (b == backslash) ≡ false → (b == 0x0a) ≡ false →
        (b == 0x0d) ≡ false → (b == 0x09) ≡ false → Same s b
    other b h i j k l = elim (bool_tells (is_control b)) [
      | inl m ↦ ap (fold scan_byte s) (escaped_control b h i j k l m) ∙ control_passes s b m
      | inr m ↦ ap (fold scan_byte s) (escaped_plain b h i j k l m)
    ]

text_passes : (s : Scan) (text : List ℕ) → fold scan_byte s (flat_map escaped text) ≡ fold scan_byte s text
text_passes s [] = refl
text_passes s (b ∷ text) =
    fold-append scan_byte s (escaped b) (flat_map escaped text)
    ∙ ap (λ r. fold scan_byte r (flat_map escaped text)) (one_passes s b)
    ∙ text_passes (scan_byte s b) text

between : (s : Scan) → is_between s ≡ true → s ≡ Between
between Between h = refl
between Begun h = absurd (false_is_not_true h)
between Found h = absurd (false_is_not_true h)

quoted_passes : (text : List ℕ) → has_no_wide_control text ≡ true → has_no_wide_control (quoted text) ≡ true
quoted_passes text h = ap is_between
    (fold-append scan_byte Between (flat_map escaped text) (quote ∷ [])
    ∙ ap (λ s. scan_byte s quote)
    (text_passes Between text ∙ between (fold scan_byte Between text) h))

-- BOTH

abbrev HasNone : List ℕ → Type 0
HasNone line = (list_all (λ b. not (is_control b)) line ≡ true) × (has_no_wide_control line ≡ true)

quoted_has_none : (text : List ℕ) → has_no_wide_control text ≡ true → HasNone (quoted text)
quoted_has_none text h = (quoted_above text, quoted_passes text h)

digits_have_none : (bytes : List ℕ) → list_all (λ b. nat_lt b 256) bytes ≡ true → HasNone (in_digits bytes)
digits_have_none bytes h = (each_above bytes h, ap is_between (all_digits_pass bytes h))

pub no_controls : ReadableHasNoControls
no_controls bytes h = elim (bool_tells (is_utf8 bytes && has_no_wide_control bytes)) [
  | inl e ↦ rw e (quoted_has_none bytes (both_hold (is_utf8 bytes) (has_no_wide_control bytes) e))
  | inr e ↦ rw e (digits_have_none bytes h)
]
