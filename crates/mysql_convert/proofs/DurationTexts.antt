-- A text's duration is read exactly where the text is one of a duration.
use Rattle.std.proofs.Common.{◌≡◌, ◌⊎◌, ℕ, ◌+◌, ◌-◌, ◌*◌, ◌^◌, ◌≤◌, Bool, true, false, ◌&&◌, ◌==◌, nat_le, List, []}
use Rattle.std.proofs.Common.{◌∷◌, ◌++◌, length, codes, refl, sym, ap, ◌∙◌, arith, Option, Some, None, if◌then◌else◌}
use Rattle.std.proofs.Common.{suc, zero, inl, inr}
use Rattle.std.proofs.lemmas.Bool.Decides.{nat_tests}
use Rattle.std.specs.List.{AllByRecursion, list_all}
use Rattle.std.specs.Option.{option_map}
use Rattle.mysql_queries.specs.Literals.{AreDigits, digits_value, is_digit}
use Rattle.mysql_convert.specs.Numbers.{digits_number}
use Rattle.mysql_convert.specs.DurationReading.{clock_nanos, fraction_nanos, is_below_sixty, text_nanos, time_nanos}
use Rattle.mysql_convert.specs.DurationReading.{two_digits}
use Rattle.mysql_convert.specs.Durations.{IsDurationText, IsFraction, IsGroup, TextsHoldDurations}

if_some : {A : Type 0} (t : Bool) (o : Option A) (x : A) → (if t then o else None) ≡ Some x → (t ≡ true) × (o ≡ Some x)
if_some true o x e = (refl, e)
if_some false o x e = absurd (cc)

one_way : {A : Type 0} (t : Bool) (o p : Option A) (x : A) → (if t then o else p) ≡ Some x →
    ((t ≡ true) × (o ≡ Some x)) ⊎ (p ≡ Some x)
one_way true o p x e = inl (refl, e)
one_way false o p x e = inr e

map_some : {A B : Type 0} (f : A → B) (o : Option A) (y : B) → option_map f o ≡ Some y → (x : A) ×
    (o ≡ Some x) × (f x ≡ y)
map_some f None y e = absurd (cc)
map_some f (Some x) y e = (x, refl, cc)

two : (s t : Bool) → (s && t) ≡ true → (s ≡ true) × (t ≡ true)
two true t e = (refl, e)
two false t e = absurd (cc)

three : (r s t : Bool) → (r && s && t) ≡ true → (r ≡ true) × (s ≡ true) × (t ≡ true)
three true true t e = (refl, refl, e)
three true false t e = absurd (cc)
three false s t e = absurd (cc)

four : (q r s t : Bool) → (q && r && s && t) ≡ true → (q ≡ true) × (r ≡ true) × (s ≡ true) × (t ≡ true)
four true true true t e = (refl, refl, refl, e)
four true true false t e = absurd (cc)
four true false s t e = absurd (cc)
four false r s t e = absurd (cc)

digit_high : (d : ℕ) → is_digit d ≡ true → d ≤ 0x39
digit_high d h = grind (arith, nat_tests, h)

at_most : (a b : ℕ) → nat_le a b ≡ true → a ≤ b
at_most a b h = grind (arith, nat_tests, h)

at_most_test : (a b : ℕ) → a ≤ b → nat_le a b ≡ true
at_most_test a b h = grind (arith, nat_tests, h)

same : (a b : ℕ) → (a == b) ≡ true → a ≡ b
same a b h = grind (arith, nat_tests, h)

no_colon : (d : ℕ) → is_digit d ≡ true → (d == 0x3a) ≡ false
no_colon d h = let l : d ≤ 0x39 = digit_high d h in grind (arith, nat_tests, l)

all_true : (xs : List ℕ) → AllByRecursion (λ b. is_digit b ≡ true) xs → list_all is_digit xs ≡ true
all_true [] h = refl
all_true (b ∷ xs) h = rw h.0 (all_true xs h.1)

each_true : (xs : List ℕ) → list_all is_digit xs ≡ true → AllByRecursion (λ b. is_digit b ≡ true) xs
each_true [] e = tt
each_true (b ∷ xs) e = let r : (is_digit b ≡ true) × (list_all is_digit xs ≡ true) =
    two (is_digit b) (list_all is_digit xs) e in (r.0, each_true xs r.1)

number_of_digits : (xs : List ℕ) → AreDigits xs → digits_number xs ≡ Some (digits_value xs)
number_of_digits [] h = absurd (h.some refl)
number_of_digits (b ∷ xs) h = let t : list_all is_digit (b ∷ xs) ≡ true = all_true (b ∷ xs) h.each in rw t refl

digits_of_number : (xs : List ℕ) (n : ℕ) → digits_number xs ≡ Some n → AreDigits xs × (digits_value xs ≡ n)
digits_of_number [] n e = absurd (cc)
digits_of_number (b ∷ xs) n e =
    let r : (list_all is_digit (b ∷ xs) ≡ true) × (Some (digits_value (b ∷ xs)) ≡ Some n) =
    if_some (list_all is_digit (b ∷ xs)) (Some (digits_value (b ∷ xs))) n e in
    (record { each = each_true (b ∷ xs) r.0; some = λ s. absurd (cc) }, cc)

scaled : (n count : ℕ) → count ≤ 6 → n * 10 ^ (9 - count) * 10 ^ count ≡ n * 1_000_000_000
scaled n zero l = omega arith
scaled n (suc zero) l = omega arith
scaled n (suc (suc zero)) l = omega arith
scaled n (suc (suc (suc zero))) l = omega arith
scaled n (suc (suc (suc (suc zero)))) l = omega arith
scaled n (suc (suc (suc (suc (suc zero))))) l = omega arith
scaled n (suc (suc (suc (suc (suc (suc zero)))))) l = omega arith
scaled n (suc (suc (suc (suc (suc (suc (suc count))))))) l = absurd (omega (arith, l))

only_scaled : (m n count : ℕ) → count ≤ 6 → m * 10 ^ count ≡ n * 1_000_000_000 → m ≡ n * 10 ^ (9 - count)
only_scaled m n zero l h = omega (arith, h)
only_scaled m n (suc zero) l h = omega (arith, h)
only_scaled m n (suc (suc zero)) l h = omega (arith, h)
only_scaled m n (suc (suc (suc zero))) l h = omega (arith, h)
only_scaled m n (suc (suc (suc (suc zero)))) l h = omega (arith, h)
only_scaled m n (suc (suc (suc (suc (suc zero))))) l h = omega (arith, h)
only_scaled m n (suc (suc (suc (suc (suc (suc zero)))))) l h = omega (arith, h)
only_scaled m n (suc (suc (suc (suc (suc (suc (suc count))))))) l h = absurd (omega (arith, l))

fraction_is : (text : List ℕ) (nanos : ℕ) → fraction_nanos text ≡ Some nanos → IsFraction text nanos
fraction_is [] nanos e = inl (refl, cc)
fraction_is (p ∷ digits) nanos e =
    let r : (((p == 0x2e) && nat_le (length digits) 6) ≡ true) ×
    (option_map (λ n. n * 10 ^ (9 - length digits)) (digits_number digits) ≡ Some nanos) =
    if_some ((p == 0x2e) && nat_le (length digits) 6)
    (option_map (λ n. n * 10 ^ (9 - length digits)) (digits_number digits)) nanos e in
    let b : ((p == 0x2e) ≡ true) × (nat_le (length digits) 6 ≡ true) = two (p == 0x2e) (nat_le (length digits) 6) r.0 in
    let few : length digits ≤ 6 = at_most (length digits) 6 b.1 in
    let m : (n : ℕ) × (digits_number digits ≡ Some n) × (n * 10 ^ (9 - length digits) ≡ nanos) =
    map_some (λ n. n * 10 ^ (9 - length digits)) (digits_number digits) nanos r.1 in
    let d : AreDigits digits × (digits_value digits ≡ m.0) = digits_of_number digits m.0 m.1 in
    let scale : nanos * 10 ^ length digits ≡ digits_value digits * 1_000_000_000 =
    ap (λ y. y * 10 ^ length digits) (sym m.2) ∙ scaled m.0 (length digits) few ∙
    ap (λ y. y * 1_000_000_000) (sym d.1) in
    inr (digits, ap (λ q. q ∷ digits) (same p 0x2e b.0), d.0, few, scale)

fraction_read : (text : List ℕ) (nanos : ℕ) → IsFraction text nanos → fraction_nanos text ≡ Some nanos
fraction_read text nanos (inl h) = ap fraction_nanos h.0 ∙ ap (λ n. Some n) (sym h.1)
fraction_read text nanos (inr h) =
    let digits = h.0 in
    let few : nat_le (length digits) 6 ≡ true = at_most_test (length digits) 6 h.3 in
    let number : digits_number digits ≡ Some (digits_value digits) = number_of_digits digits h.2 in
    let read : fraction_nanos (0x2e ∷ digits) ≡
    Some (digits_value digits * 10 ^ (9 - length digits)) = rw (few, number) refl in
    ap fraction_nanos h.1 ∙ read ∙
    ap (λ n. Some n) (sym (only_scaled nanos (digits_value digits) (length digits) h.3 h.4))

sixty_is : (m n : ℕ) → is_below_sixty m n ≡ true → IsGroup 2 60 (m ∷ n ∷ [])
sixty_is m n e =
    let r : (is_digit m ≡ true) × (nat_le m 0x35 ≡ true) × (is_digit n ≡ true) =
    three (is_digit m) (nat_le m 0x35) (is_digit n) e in
    record { each = (r.0, (r.2, tt)); as_many = refl; below = omega (arith, at_most m 0x35 r.1, digit_high n r.2) }

sixty_read : (m n : ℕ) → IsGroup 2 60 (m ∷ n ∷ []) → is_below_sixty m n ≡ true
sixty_read m n h =
    let few : nat_le m 0x35 ≡ true = at_most_test m 0x35 (omega (arith, h.below)) in
    rw (h.each.0, few, h.each.1.0) refl

two_value : (m n : ℕ) → digits_value (m ∷ n ∷ []) ≡ two_digits m n
two_value m n = omega arith

three_value : (h i j : ℕ) → digits_value (h ∷ i ∷ j ∷ []) ≡ (h - 0x30) * 100 + two_digits i j
three_value h i j = omega arith

-- minutes, seconds and a fraction behind the hours
record IsClock (hours : ℕ) (clock : List ℕ) (nanos : ℕ) : Type 0 where
  pub minutes : List ℕ
  pub seconds : List ℕ
  pub fraction : List ℕ
  pub part : ℕ
  pub spelled : clock ≡ 0x3a ∷ (minutes ++ 0x3a ∷ (seconds ++ fraction))
  pub are_minutes : IsGroup 2 60 minutes
  pub are_seconds : IsGroup 2 60 seconds
  pub is_fraction : IsFraction fraction part
  pub value : nanos ≡ time_nanos 0 hours (digits_value minutes) (digits_value seconds) 0 + part

clock_is : (hours : ℕ) (clock : List ℕ) (nanos : ℕ) → clock_nanos hours clock ≡ Some nanos → IsClock hours clock nanos
clock_is hours [] nanos e = absurd (cc)
clock_is hours (a ∷ []) nanos e = absurd (cc)
clock_is hours (a ∷ m ∷ []) nanos e = absurd (cc)
clock_is hours (a ∷ m ∷ n ∷ []) nanos e = absurd (cc)
clock_is hours (a ∷ m ∷ n ∷ b ∷ []) nanos e = absurd (cc)
clock_is hours (a ∷ m ∷ n ∷ b ∷ s ∷ []) nanos e = absurd (cc)
clock_is hours (a ∷ m ∷ n ∷ b ∷ s ∷ t ∷ fraction) nanos e =
    let f = λ (part : ℕ). time_nanos 0 hours (two_digits m n) (two_digits s t) 0 + part in
    let r : (((a == 0x3a) && is_below_sixty m n && (b == 0x3a) && is_below_sixty s t) ≡ true) ×
    (option_map f (fraction_nanos fraction) ≡ Some nanos) =
    if_some ((a == 0x3a) && is_below_sixty m n && (b == 0x3a) && is_below_sixty s t)
    (option_map f (fraction_nanos fraction)) nanos e in
    let q = four (a == 0x3a) (is_below_sixty m n) (b == 0x3a) (is_below_sixty s t) r.0 in
    let p : (part : ℕ) × (fraction_nanos fraction ≡ Some part) × (f part ≡ nanos) =
    map_some f (fraction_nanos fraction) nanos r.1 in
    record {
      minutes = m ∷ n ∷ [];
      seconds = s ∷ t ∷ [];
      fraction = fraction;
      part = p.0;
      spelled = ap (λ c. c ∷ m ∷ n ∷ b ∷ s ∷ t ∷ fraction) (same a 0x3a q.0) ∙
          ap (λ c. 0x3a ∷ m ∷ n ∷ c ∷ s ∷ t ∷ fraction) (same b 0x3a q.2);
      are_minutes = sixty_is m n q.1;
      are_seconds = sixty_is s t q.3;
      is_fraction = fraction_is fraction p.0 p.1;
      value = sym p.2 ∙ rw (two_value m n, two_value s t) refl;
    }

clock_read : (hours : ℕ) (minutes seconds fraction : List ℕ) (part : ℕ) → IsGroup 2 60 minutes →
    IsGroup 2 60 seconds → IsFraction fraction part
    → clock_nanos hours (0x3a ∷ (minutes ++ 0x3a ∷ (seconds ++ fraction))) ≡
    Some (time_nanos 0 hours (digits_value minutes) (digits_value seconds) 0 + part)
clock_read hours [] seconds fraction part h k e = absurd (omega (arith, h.as_many))
clock_read hours (m ∷ []) seconds fraction part h k e = absurd (omega (arith, h.as_many))
clock_read hours (m ∷ n ∷ o ∷ ms) seconds fraction part h k e = absurd (omega (arith, h.as_many))
clock_read hours (m ∷ n ∷ []) [] fraction part h k e = absurd (omega (arith, k.as_many))
clock_read hours (m ∷ n ∷ []) (s ∷ []) fraction part h k e = absurd (omega (arith, k.as_many))
clock_read hours (m ∷ n ∷ []) (s ∷ t ∷ u ∷ ss) fraction part h k e = absurd (omega (arith, k.as_many))
clock_read hours (m ∷ n ∷ []) (s ∷ t ∷ []) fraction part h k e =
    let minutes : is_below_sixty m n ≡ true = sixty_read m n h in
    let seconds : is_below_sixty s t ≡ true = sixty_read s t k in
    rw (two_value m n, two_value s t, minutes, seconds, fraction_read fraction part e) refl

seam : (minutes seconds fraction : List ℕ) → minutes ++ codes ":" ++ seconds ++ fraction ≡
    minutes ++ 0x3a ∷ (seconds ++ fraction)
seam [] seconds fraction = refl
seam (b ∷ minutes) seconds fraction = ap (λ xs. b ∷ xs) (seam minutes seconds fraction)

joined : (hours minutes seconds fraction : List ℕ) → hours ++ codes ":" ++ minutes ++ codes ":" ++
    seconds ++ fraction ≡ hours ++ 0x3a ∷ (minutes ++ 0x3a ∷ (seconds ++ fraction))
joined [] minutes seconds fraction = ap (λ xs. 0x3a ∷ xs) (seam minutes seconds fraction)
joined (b ∷ hours) minutes seconds fraction = ap (λ xs. b ∷ xs) (joined hours minutes seconds fraction)

text_by : (text : List ℕ) (nanos : ℕ) (front clock : List ℕ) (hours : ℕ) → text ≡ front ++ clock →
    digits_value front ≡ hours → IsGroup 2 100 front ⊎ IsGroup 3 900 front
    → IsClock hours clock nanos → IsDurationText text nanos
text_by text nanos front clock hours e v g c = record {
  hours = front;
  minutes = c.minutes;
  seconds = c.seconds;
  fraction = c.fraction;
  part = c.part;
  spelled = e ∙ ap (λ xs. front ++ xs) c.spelled ∙ sym (joined front c.minutes c.seconds c.fraction);
  are_hours = g;
  are_minutes = c.are_minutes;
  are_seconds = c.are_seconds;
  is_fraction = c.is_fraction;
  value = c.value ∙ ap (λ n. time_nanos 0 n (digits_value c.minutes) (digits_value c.seconds) 0 + c.part) (sym v);
}

two_hours : (h i : ℕ) → is_digit h ≡ true → is_digit i ≡ true → IsGroup 2 100 (h ∷ i ∷ [])
two_hours h i a b = record {
  each = (a, (b, tt));
  as_many = refl;
  below =
      omega (arith, digit_high h a, digit_high i b);
}

three_hours : (h i j : ℕ) → is_digit h ≡ true → h ≤ 0x38 → is_digit i ≡ true → is_digit j ≡ true →
    IsGroup 3 900 (h ∷ i ∷ j ∷ [])
three_hours h i j a l b c =
    record {
      each = (a, (b, (c, tt)));
      as_many = refl;
      below =
          omega (arith, l, digit_high i b, digit_high j c);
    }

text_ways : (h i j : ℕ) (clock : List ℕ) (nanos : ℕ)
    → (((is_digit h && is_digit i && (j == 0x3a)) ≡ true) × (clock_nanos (two_digits h i) (j ∷ clock) ≡ Some nanos))
    ⊎ ((if is_digit h && nat_le h 0x38 && is_digit i &&
    is_digit j then clock_nanos ((h - 0x30) * 100 + two_digits i j) clock else None) ≡
    Some nanos)
    → IsDurationText (h ∷ i ∷ j ∷ clock) nanos
text_ways h i j clock nanos (inl r) =
    let d = three (is_digit h) (is_digit i) (j == 0x3a) r.0 in
    text_by (h ∷ i ∷ j ∷ clock) nanos (h ∷ i ∷ []) (j ∷ clock) (two_digits h i) refl (two_value h i)
    (inl (two_hours h i d.0 d.1)) (clock_is (two_digits h i) (j ∷ clock) nanos r.1)
text_ways h i j clock nanos (inr e) =
    let r = if_some (is_digit h && nat_le h 0x38 && is_digit i &&
    is_digit j) (clock_nanos ((h - 0x30) * 100 + two_digits i j) clock) nanos e in
    let d = four (is_digit h) (nat_le h 0x38) (is_digit i) (is_digit j) r.0 in
    text_by (h ∷ i ∷ j ∷ clock) nanos (h ∷ i ∷ j ∷ []) clock ((h - 0x30) * 100 + two_digits i j)
    refl (three_value h i j)
    (inr (three_hours h i j d.0 (at_most h 0x38 d.1) d.2 d.3))
    (clock_is ((h - 0x30) * 100 + two_digits i j) clock nanos r.1)

text_is : (text : List ℕ) (nanos : ℕ) → text_nanos text ≡ Some nanos → IsDurationText text nanos
text_is [] nanos e = absurd (cc)
text_is (h ∷ []) nanos e = absurd (cc)
text_is (h ∷ i ∷ []) nanos e = absurd (cc)
text_is (h ∷ i ∷ j ∷ clock) nanos e =
    text_ways h i j clock nanos
    (one_way (is_digit h && is_digit i &&
    (j == 0x3a)) (clock_nanos (two_digits h i) (j ∷ clock))
    (if is_digit h && nat_le h 0x38 && is_digit i &&
    is_digit j then clock_nanos ((h - 0x30) * 100 + two_digits i j) clock else None) nanos e)

hours_read : (hours minutes seconds fraction : List ℕ) (part : ℕ) → IsGroup 2 100 hours ⊎
    IsGroup 3 900 hours → IsGroup 2 60 minutes → IsGroup 2 60 seconds → IsFraction fraction part
    → text_nanos (hours ++ 0x3a ∷ (minutes ++ 0x3a ∷ (seconds ++ fraction))) ≡
    Some (time_nanos 0 (digits_value hours) (digits_value minutes) (digits_value seconds) 0 +
    part)
hours_read [] minutes seconds fraction part (inl g) h k e = absurd (omega (arith, g.as_many))
hours_read (a ∷ []) minutes seconds fraction part (inl g) h k e = absurd (omega (arith, g.as_many))
hours_read (a ∷ b ∷ c ∷ xs) minutes seconds fraction part (inl g) h k e = absurd (omega (arith, g.as_many))
hours_read (a ∷ b ∷ []) minutes seconds fraction part (inl g) h k e =
    rw (g.each.0, g.each.1.0, two_value a b) (clock_read (two_digits a b) minutes seconds fraction part h k e)
hours_read [] minutes seconds fraction part (inr g) h k e = absurd (omega (arith, g.as_many))
hours_read (a ∷ []) minutes seconds fraction part (inr g) h k e = absurd (omega (arith, g.as_many))
hours_read (a ∷ b ∷ []) minutes seconds fraction part (inr g) h k e = absurd (omega (arith, g.as_many))
hours_read (a ∷ b ∷ c ∷ d ∷ xs) minutes seconds fraction part (inr g) h k e = absurd (omega (arith, g.as_many))
hours_read (a ∷ b ∷ c ∷ []) minutes seconds fraction part (inr g) h k e =
    let few : nat_le a 0x38 ≡ true = at_most_test a 0x38 (omega (arith, g.below)) in
    rw (g.each.0, g.each.1.0, no_colon c g.each.1.1.0, few, g.each.1.1.0, three_value a b c)
    (clock_read ((a - 0x30) * 100 + two_digits b c) minutes seconds fraction part h k e)

text_read : (text : List ℕ) (nanos : ℕ) → IsDurationText text nanos → text_nanos text ≡ Some nanos
text_read text nanos t =
    ap text_nanos (t.spelled ∙ joined t.hours t.minutes t.seconds t.fraction) ∙
    hours_read t.hours t.minutes t.seconds t.fraction t.part t.are_hours t.are_minutes
    t.are_seconds t.is_fraction ∙ ap (λ n. Some n) (sym t.value)

pub durations_of_texts : TextsHoldDurations
durations_of_texts text nanos = (text_is text nanos, text_read text nanos)
