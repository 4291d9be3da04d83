-- The content of a cell that is read of bytes is one that a command can carry, and bytes are left behind it.
use Rattle.std.proofs.Common.{◌≡◌, ℕ, pos, ◌+◌, ◌*◌, ◌-◌, ◌^◌, ◌<◌, ◌≤◌, Bool, true, false, List, [], ◌∷◌, ◌++◌, length}
use Rattle.std.proofs.Common.{take, drop, replicate, Option, Some, None, Result, Ok, Err, if◌then◌else◌, refl, sym}
use Rattle.std.proofs.Common.{subst, inl, inr, arith, length-drop}
use Rattle.std.proofs.Math.Facts.{sfits_to_z}
use Rattle.std.proofs.Math.Nat.{one-le-pow}
use Rattle.std.specs.Fmt.{decimal, sign_text}
use Rattle.std.specs.Prelude.{◌==◌, FitsSigned, nat_le, nat_lt, not}
use Rattle.std.specs.Int.{Width, w8, w16, w32, w64, cast_signed}
use mir.Val.{bits, hbits}
use Rattle.std.specs.Option.{ok_or}
use Rattle.std.proofs.lemmas.Bool.{cases_lt, le-ltb, lt-ltb}
use Rattle.std.proofs.lemmas.Fmt.{IsAscii-decimal}
use Rattle.mysql_buf.specs.FirstBytes.{first-enough, first-some}
use Rattle.mysql_buf.specs.TextLaws.{left-of}
use Rattle.mysql_wire.specs.Bytes.{AreBytes}
use Rattle.mysql_wire.specs.Forms as form
use Rattle.mysql_wire.specs.Reading as buffer
use Rattle.mysql_wire.specs.Wire.{◌>>=◌, or_end}
use Rattle.mysql_wire.specs.WireError.{WireError}
use Rattle.mysql_cells.specs.declared.cell_form.CellForm.{CellForm}
use Rattle.mysql_cells.specs.declared.cell_form.CellForm.TheVariants as cell_form
use Rattle.mysql_values.specs.Cells.{cell_at, date_of, form_of, is_float, number_value_at, part, time_of, value_at}
use Rattle.mysql_values.specs.Cells.{whole_value}
use Rattle.mysql_values.specs.Content.{Content}
use Rattle.mysql_values.specs.Content.TheVariants as content
use Rattle.mysql_values.specs.Value.{Value}
use Rattle.mysql_values.specs.Value.TheVariants as value
use Rattle.mysql_values.specs.Values.{clock_text, content_of, date_text, day_text, digits_in, is_zero_time, micros_text}
use Rattle.mysql_values.specs.Values.{time_text}
use Rattle.mysql_receive.specs.declared.fault.StreamFault.{StreamFault}
use Rattle.mysql_receive.specs.declared.fault.StreamFault.TheVariants.{BadBulk, Float, Indicator}
use Rattle.mysql_receive.specs.declared.param_type.ParamType.{ParamType}
use Rattle.mysql_receive.specs.Fields.{number_or, must}
use Rattle.mysql_receive.specs.Reading.{column_at, content_at, or_cell_fault}
use Rattle.mysql_recoding.specs.Laws.{IsCarried}
use Rattle.mysql_recoding.proofs.ByteLists.{ascii_bytes, bytes_append, bytes_cons, bytes_drop, bytes_if}
use Rattle.mysql_recoding.proofs.ByteLists.{bytes_replicate, bytes_tail, bytes_take, no_bytes, one_byte}

-- ---- readings

pub bind_ok : {A B F : Type 0} (r : Result A F) (f : A → Result B F) (y : B) → (r >>= f) ≡ Ok y →
    (x : A) × (r ≡ Ok x) × (f x ≡ Ok y)
bind_ok (Ok x) f y e = (x, refl, e)
bind_ok (Err d) f y e = absurd cc

end_is : {X : Type 0} (r : Option X) (x : X) → or_end r ≡ Ok x → r ≡ Some x
end_is (Some y) x e = cc
end_is None x e = absurd cc

pub some_is : {X F : Type 0} (r : Option X) (f : F) (x : X) → ok_or r f ≡ Ok x → r ≡ Some x
some_is (Some y) f x e = cc
some_is None f x e = absurd cc

cell_is : {X : Type 0} (short : StreamFault) (r : Result X WireError) (x : X) → or_cell_fault short r ≡ Ok x → r ≡ Ok x
cell_is short (Ok y) x e = cc
cell_is short (Err d) x e = absurd cc

-- what was read, where a reading may be refused
abbrev pub read : {X F : Type 0} → X → Result X F
read x = Ok x

pub ok_same : {X F : Type 0} (x y : X) → read {F = F} x ≡ read y → x ≡ y
ok_same x y e = cc

pub some_same : {X : Type 0} (x y : X) → Some x ≡ Some y → x ≡ y
some_same x y e = cc

-- what was read is such, and what is left are bytes
abbrev pub Leaves : {X : Type 0} → (X → Type 0) → X × List ℕ → Type 0
Leaves P p = P p.0 × AreBytes p.1

pub leaves : {X F : Type 0} (P : X → Type 0) (x : X) (rest : List ℕ) (p : X × List ℕ) → P x →
    AreBytes rest → read {F = F} (x, rest) ≡ read p → Leaves P p
leaves {F = F} P x rest p h k e = subst (Leaves P) (ok_same {F = F} (x, rest) p e) (h, k)

-- ---- fields

pub number_leaves : (n : ℕ) (bytes : List ℕ) (p : ℕ × List ℕ) → AreBytes bytes →
    buffer.little_at n bytes ≡ Some p → Leaves (λ x. x < 256 ^ n) p
number_leaves n bytes p h e = (
  (left-of n bytes p.0 p.1 h e).0,
  subst (λ (q : ℕ × List ℕ). AreBytes q.1) (sym (first-some n _ bytes p e).1)
      (bytes_drop n bytes h),
)

pub bytes_leave : (n : ℕ) (bytes : List ℕ) (p : List ℕ × List ℕ) → AreBytes bytes →
    buffer.bytes_at n bytes ≡ Some p → Leaves AreBytes p
bytes_leave n bytes p h e =
    subst (Leaves AreBytes) (sym (first-some n (take n) bytes p e).1) (
      bytes_take n bytes h,
      bytes_drop n bytes h,
    )

then_leaves : (r : Option (ℕ × List ℕ)) (p : List ℕ × List ℕ) →
    ((q : ℕ × List ℕ) → r ≡ Some q → AreBytes q.1) → buffer.then_at r buffer.bytes_at ≡ Some p →
    Leaves AreBytes p
then_leaves None p h e = absurd cc
then_leaves (Some q) p h e = bytes_leave q.0 q.1 p (h q refl) e

either : {P : Type 0} (t : Bool) (x y r : Option (ℕ × List ℕ)) → (x ≡ r → P) → (y ≡ r → P) →
    (if t then x else y) ≡ r → P
either true x y r p q e = p e
either false x y r p q e = q e

length_leaves : (bytes : List ℕ) (p : ℕ × List ℕ) → AreBytes bytes → buffer.lenenc_int_at bytes ≡ Some p → AreBytes p.1
length_leaves [] p h e = absurd cc
length_leaves (b ∷ bs) p h e =
    let tail : AreBytes bs = bytes_tail b bs h in
    let here : (n : ℕ) → Some (n, bs) ≡ Some p → AreBytes p.1 =
    λ n f. subst (λ (q : ℕ × List ℕ). AreBytes q.1) (some_same (n, bs) p f) tail in
    let further : (n : ℕ) → buffer.little_at n bs ≡ Some p → AreBytes p.1 = λ n f. (number_leaves n bs p tail f).1 in
    either (nat_lt b 251) (Some (b, bs))
    (if b == 252 then buffer.little_at 2 bs else if b == 253 then buffer.little_at 3 bs else
    if b == 254 then buffer.little_at 8 bs else Some (0, bs)) (Some p) (here b)
    (either (b == 252) (buffer.little_at 2 bs)
    (if b == 253 then buffer.little_at 3 bs else if b == 254 then buffer.little_at 8 bs else
    Some (0, bs)) (Some p) (further 2)
    (either (b == 253) (buffer.little_at 3 bs)
    (if b == 254 then buffer.little_at 8 bs else Some (0, bs)) (Some p) (further 3)
    (either (b == 254) (buffer.little_at 8 bs) (Some (0, bs)) (Some p) (further 8) (here 0)))) e

long_bytes_leave : (bytes : List ℕ) (p : List ℕ × List ℕ) → AreBytes bytes →
    buffer.lenenc_str_at bytes ≡ Some p → Leaves AreBytes p
long_bytes_leave bytes p h e = then_leaves (buffer.lenenc_int_at bytes) p (λ q f. length_leaves bytes q h f) e

short_bytes_leave : (bytes : List ℕ) (p : List ℕ × List ℕ) → AreBytes bytes →
    buffer.u8_str_at bytes ≡ Some p → Leaves AreBytes p
short_bytes_leave bytes p h e = then_leaves (buffer.little_at 1 bytes) p (λ q f. (number_leaves 1 bytes q h f).1) e

-- ---- values

-- the numbers of a value that is read fit, and its bytes are bytes
abbrev pub IsHeld : Value → Type 0
IsHeld value.NULL = Unit {0}
IsHeld (value.Bytes bytes) = AreBytes bytes
IsHeld (value.Int z) = FitsSigned w64 z
IsHeld (value.UInt n) = n < 2 ^ 64
IsHeld (value.Float bits) = Unit {0}
IsHeld (value.Double bits) = Unit {0}
IsHeld (value.Date year month day hour minute second micros) =
    (year < 2 ^ 32) × (month < 2 ^ 32) × (day < 2 ^ 32) × (hour < 2 ^ 32) × (minute < 2 ^ 32) ×
    (second < 2 ^ 32) × (micros < 2 ^ 32)
IsHeld (value.Time negative days hours minutes seconds micros) =
    (days < 2 ^ 32) × (hours < 2 ^ 32) × (minutes < 2 ^ 32) × (seconds < 2 ^ 32) × (micros < 2 ^ 32)

wider : (w : Width) (n : ℕ) → 2 ^ hbits w ≤ 2 ^ 63 → n < 2 ^ bits w → FitsSigned w64 (cast_signed w n)
wider w n few h =
    let narrow = (sfits_to_z {w = w} {n = n} (record { fits = h })).sfits in
    record { sfits = omega (arith, narrow, few) }

whole_held : (w : Width) (unsigned : Bool) (n : ℕ) → 2 ^ hbits w ≤ 2 ^ 63 → n < 2 ^ bits w →
    n < 2 ^ 64 → IsHeld (whole_value w unsigned n)
whole_held w false n few h top = wider w n few h
whole_held w true n few h top = elim (cases_lt n (2 ^ 63)) [
  | inl less ↦ (rw (lt-ltb n (2 ^ 63) less) (record { sfits = less }))
  | inr more ↦ (rw (le-ltb n (2 ^ 63) more) top)
]

part_small : (held : List ℕ) (least i n : ℕ) → i + n ≤ least → AreBytes held → part held least i n < 256 ^ n
part_small held least i n inside h = elim (cases_lt (length held) least) [
  | inl short ↦ (rw (lt-ltb (length held) least short) (one-le-pow n 256 (omega arith)))
  | inr long ↦
      let enough : n ≤ length (drop i held) = omega (arith, length-drop i held) in
      (rw (le-ltb (length held) least long)
      (left-of n (drop i held) _ _ (bytes_drop i held h)
      (first-enough n _ (drop i held) enough)).0)
]

date_held : (held : List ℕ) → AreBytes held → IsHeld (date_of held)
date_held held h = (
  omega (arith, part_small held 4 0 2 (omega arith) h),
  omega (arith, part_small held 4 2 1 (omega arith) h),
  omega (arith, part_small held 4 3 1 (omega arith) h),
  omega (arith, part_small held 7 4 1 (omega arith) h),
  omega (arith, part_small held 7 5 1 (omega arith) h),
  omega (arith, part_small held 7 6 1 (omega arith) h),
  omega (arith, part_small held 11 7 4 (omega arith) h),
)

time_held : (held : List ℕ) → AreBytes held → IsHeld (time_of held)
time_held held h = (
  omega (arith, part_small held 8 1 4 (omega arith) h),
  omega (arith, part_small held 8 5 1 (omega arith) h),
  omega (arith, part_small held 8 6 1 (omega arith) h),
  omega (arith, part_small held 8 7 1 (omega arith) h),
  omega (arith, part_small held 12 8 4 (omega arith) h),
)

number_held : (n : ℕ) (made : ℕ → Value) (bytes : List ℕ) (p : Value × List ℕ) → AreBytes bytes →
    ((x : ℕ) → x < 256 ^ n → IsHeld (made x)) → number_value_at n made bytes ≡ Ok p →
    Leaves IsHeld p
number_held n made bytes p h each e =
    let a = bind_ok (form.fixed_number_at n bytes) (λ x. Ok (made x.0, x.1)) p e in
    let b = number_leaves n bytes a.0 h (end_is (buffer.little_at n bytes) a.0 a.1) in
    leaves {F = WireError} IsHeld (made a.0.0) a.0.1 p (each a.0.0 b.0) b.1 a.2

counted_held : (r : Option (List ℕ × List ℕ)) (made : List ℕ → Value) (p : Value × List ℕ) →
    ((q : List ℕ × List ℕ) → r ≡ Some q → Leaves AreBytes q) →
    ((xs : List ℕ) → AreBytes xs → IsHeld (made xs))
    → (or_end r >>= λ held. Ok (made held.0, held.1)) ≡ Ok p → Leaves IsHeld p
counted_held r made p fields each e =
    let a = bind_ok (or_end r) (λ held. Ok (made held.0, held.1)) p e in
    let b = fields a.0 (end_is r a.0 a.1) in
    leaves {F = WireError} IsHeld (made a.0.0) a.0.1 p (each a.0.0 b.0) b.1 a.2

value_held : (f : CellForm) (unsigned : Bool) (bytes : List ℕ) (p : Value × List ℕ) →
    AreBytes bytes → value_at f unsigned bytes ≡ Ok p → Leaves IsHeld p
value_held cell_form.Nothing unsigned bytes p h e = leaves {F = WireError} IsHeld value.NULL bytes p tt h e
value_held cell_form.Whole1 unsigned bytes p h e =
    number_held 1 (whole_value w8 unsigned) bytes p h
    (λ x few. whole_held w8 unsigned x (omega arith) (omega (arith, few)) (omega (arith, few))) e
value_held cell_form.Whole2 unsigned bytes p h e =
    number_held 2 (whole_value w16 unsigned) bytes p h
    (λ x few. whole_held w16 unsigned x (omega arith) (omega (arith, few)) (omega (arith, few))) e
value_held cell_form.Whole4 unsigned bytes p h e =
    number_held 4 (whole_value w32 unsigned) bytes p h
    (λ x few. whole_held w32 unsigned x (omega arith) (omega (arith, few)) (omega (arith, few))) e
value_held cell_form.Whole8 unsigned bytes p h e =
    number_held 8 (whole_value w64 unsigned) bytes p h
    (λ x few. whole_held w64 unsigned x (omega arith) (omega (arith, few)) (omega (arith, few))) e
value_held cell_form.FloatBits unsigned bytes p h e = number_held 4 (λ n. value.Float n) bytes p h (λ x few. tt) e
value_held cell_form.DoubleBits unsigned bytes p h e = number_held 8 (λ n. value.Double n) bytes p h (λ x few. tt) e
value_held cell_form.Counted unsigned bytes p h e =
    counted_held (buffer.lenenc_str_at bytes) (λ held. value.Bytes held) p
    (λ q f. long_bytes_leave bytes q h f) (λ xs k. k) e
value_held cell_form.DateAndTime unsigned bytes p h e =
    counted_held (buffer.u8_str_at bytes) date_of p (λ q f. short_bytes_leave bytes q h f) date_held
    e
value_held cell_form.Duration unsigned bytes p h e =
    counted_held (buffer.u8_str_at bytes) time_of p (λ q f. short_bytes_leave bytes q h f) time_held
    e
value_held cell_form.Without unsigned bytes p h e = absurd cc

cell_held : (t : ℕ) (unsigned : Bool) (bytes : List ℕ) (p : Value × List ℕ) → AreBytes bytes →
    cell_at t unsigned bytes ≡ Ok p → Leaves IsHeld p
unfolding cell_at
cell_held t unsigned bytes p h e = value_held (form_of t) unsigned bytes p h e

-- ---- texts of dates and times

decimal_bytes : (n : ℕ) → n < 2 ^ 64 → AreBytes (decimal n)
decimal_bytes n h = ascii_bytes (decimal n) (IsAscii-decimal n h)

digits_bytes : (width n : ℕ) → n < 2 ^ 64 → AreBytes (digits_in width n)
digits_bytes width n h = bytes_append (replicate (width - length (decimal n)) 0x30) (decimal n)
    (bytes_replicate (width - length (decimal n)) 0x30 (omega arith)) (decimal_bytes n h)

micros_bytes : (micros : ℕ) → micros < 2 ^ 64 → AreBytes (micros_text micros)
micros_bytes micros h = bytes_if (micros == 0) [] (0x2e ∷ digits_in 6 micros) no_bytes
    (bytes_cons 0x2e (digits_in 6 micros) (omega arith) (digits_bytes 6 micros h))

-- two numbers with a byte between, and one more behind another
three_bytes : (separator : ℕ) (first second third : List ℕ) → separator < 256 → AreBytes first →
    AreBytes second → AreBytes third → AreBytes (first ++ separator ∷ (second ++ separator ∷ third))
three_bytes separator first second third small p q r =
    bytes_append first (separator ∷ (second ++ separator ∷ third)) p
    (bytes_cons separator (second ++ separator ∷
    third) small (bytes_append second (separator ∷
    third) q (bytes_cons separator third small r)))

clock_bytes : (width hours minutes seconds : ℕ) → hours < 2 ^ 64 → minutes < 2 ^ 64 →
    seconds < 2 ^ 64 → AreBytes (clock_text width hours minutes seconds)
clock_bytes width hours minutes seconds h m s =
    three_bytes 0x3a (digits_in width hours) (digits_in 2 minutes) (digits_in 2 seconds)
    (omega arith) (digits_bytes width hours h) (digits_bytes 2 minutes m)
    (digits_bytes 2 seconds s)

day_bytes : (year month day : ℕ) → year < 2 ^ 64 → month < 2 ^ 64 → day < 2 ^ 64 → AreBytes (day_text year month day)
day_bytes year month day y m d =
    three_bytes 0x2d (digits_in 4 year) (digits_in 2 month) (digits_in 2 day) (omega arith)
    (digits_bytes 4 year y) (digits_bytes 2 month m) (digits_bytes 2 day d)

date_carried : (year month day hour minute second micros : ℕ) →
    IsHeld (value.Date year month day hour minute second micros) →
    AreBytes (date_text year month day hour minute second micros)
date_carried year month day hour minute second micros h =
    let clock = clock_bytes 2 hour minute second (omega (arith, h.3)) (omega (arith, h.4)) (omega (arith, h.5)) in
    let behind = bytes_append (clock_text 2 hour minute second) (micros_text micros) clock
    (micros_bytes micros (omega (arith, h.6))) in
    let time : List ℕ = clock_text 2 hour minute second ++ micros_text micros in
    bytes_append (day_text year month day) (if is_zero_time 0 hour minute second micros then [] else 0x20 ∷ time)
    (day_bytes year month day (omega (arith, h.0)) (omega (arith, h.1)) (omega (arith, h.2)))
    (bytes_if (is_zero_time 0 hour minute second micros) [] (0x20 ∷
    time) no_bytes (bytes_cons 0x20 time (omega arith) behind))

sign_bytes : (negative : Bool) → AreBytes (sign_text negative)
sign_bytes true = one_byte 0x2d (omega arith)
sign_bytes false = no_bytes

time_carried : (negative : Bool) (days hours minutes seconds micros : ℕ) →
    IsHeld (value.Time negative days hours minutes seconds micros) →
    AreBytes (time_text negative days hours minutes seconds micros)
time_carried negative days hours minutes seconds micros h =
    let all = clock_bytes 3 (days * 24 + hours) minutes seconds (omega (arith, h.0, h.1))
    (omega (arith, h.2)) (omega (arith, h.3)) in
    bytes_append (sign_text negative) (clock_text 3 (days * 24 + hours) minutes seconds ++
    micros_text micros) (sign_bytes negative)
    (bytes_append (clock_text 3 (days * 24 + hours) minutes seconds) (micros_text micros) all
    (micros_bytes micros (omega (arith, h.4))))

-- ---- contents

value_carried : (held : Value) (meant : Content) → IsHeld held → content_of held ≡ Some meant → IsCarried meant
value_carried value.NULL meant h e = subst IsCarried (some_same content.Null meant e) tt
value_carried (value.Bytes bytes) meant h e = subst IsCarried (some_same (content.Bytes bytes) meant e) h
value_carried (value.Int z) meant h e = subst IsCarried (some_same (content.Number z) meant e) (inl h)
value_carried (value.UInt n) meant h e = subst IsCarried (some_same (content.Number (pos n)) meant e) (inr (n, refl, h))
value_carried (value.Float bits) meant h e = absurd cc
value_carried (value.Double bits) meant h e = absurd cc
value_carried (value.Date year month day hour minute second micros) meant h e =
    subst IsCarried (some_same (content.Bytes (date_text year month day hour minute second micros))
    meant e) (date_carried year month day hour minute second micros h)
value_carried (value.Time negative days hours minutes seconds micros) meant h e = by _ e
  where
    by : (sign : Bool) → Some (content.Bytes (time_text sign days hours minutes seconds micros)) ≡
        Some meant → IsCarried meant
    by sign f = subst IsCarried
        (some_same (content.Bytes (time_text sign days hours minutes seconds micros)) meant f)
        (time_carried sign days hours minutes seconds micros h)

pub content_carried : (short : StreamFault) (t : ParamType) (bytes : List ℕ) (p : Content ×
    List ℕ) → AreBytes bytes → content_at short t bytes ≡ Ok p → Leaves IsCarried p
unfolding content_at
content_carried short t bytes p h e =
    let a = bind_ok (must Float (not (is_float t.number)))
    (λ _. or_cell_fault short (cell_at t.number t.unsigned bytes) >>= λ v. ok_or
    (content_of v.0) Float >>= λ meant. Ok (meant, v.1)) p e in
    let b = bind_ok (or_cell_fault short (cell_at t.number t.unsigned bytes))
    (λ v. ok_or (content_of v.0) Float >>= λ meant. Ok (meant, v.1)) p a.2 in
    let d = bind_ok (ok_or (content_of b.0.0) Float) (λ meant. Ok (meant, b.0.1)) p b.2 in
    let held = cell_held t.number t.unsigned bytes b.0 h (cell_is short (cell_at t.number t.unsigned bytes) b.0 b.1) in
    leaves {F = StreamFault} IsCarried d.0 b.0.1 p
    (value_carried b.0.0 d.0 held.0 (some_is (content_of b.0.0) Float d.0 d.1)) held.1 d.2

pub column_carried : (t : ParamType) (bytes : List ℕ) (p : Content × List ℕ) → AreBytes bytes →
    column_at t bytes ≡ Ok p → Leaves IsCarried p
column_carried t bytes p h e =
    let a = bind_ok (number_or BadBulk 1 bytes)
    (λ indicator. must Indicator (nat_le indicator.0 1) >>= λ _. if indicator.0 == 1 then Ok
    (content.Null, indicator.1) else content_at BadBulk t indicator.1) p e in
    let b = bind_ok (must Indicator (nat_le a.0.0 1))
    (λ _. if a.0.0 == 1 then Ok (content.Null, a.0.1) else content_at BadBulk t a.0.1) p a.2 in
    let rest = (number_leaves 1 bytes a.0 h (some_is (buffer.little_at 1 bytes) BadBulk a.0 a.1)).1 in
    by (a.0.0 == 1) a.0.1 rest b.2
  where
    by : (null : Bool) (rest : List ℕ) → AreBytes rest →
        (if null then Ok (content.Null, rest) else content_at BadBulk t rest) ≡ Ok p →
        Leaves IsCarried p
    by true rest k f = leaves {F = StreamFault} IsCarried content.Null rest p tt k f
    by false rest k f = content_carried BadBulk t rest p k f
