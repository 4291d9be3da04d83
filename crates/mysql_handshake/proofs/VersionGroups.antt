-- A version that is read is one that the text begins with, and the only one.
use Rattle.std.proofs.Common.{◌≡◌, ℕ, zero, suc, ◌+◌, ◌<◌, ◌≤◌, ◌==◌, Bool, true, false, if◌then◌else◌, cond, ◌⊎◌, inl}
use Rattle.std.proofs.Common.{inr, List, [], ◌∷◌, ◌++◌, take, drop, length, get_or, nat_eq, None, Some, append_assoc}
use Rattle.std.proofs.Common.{refl, sym, ap, ◌∙◌, subst, arith}
use Rattle.std.specs.Prelude.{codes, Option}
use Rattle.std.proofs.lemmas.Bool.{cases_lt, eqb-true, ne_eqb}
use Rattle.std.proofs.lemmas.Bool.Decides.{Decides-eqb}
use Rattle.std.proofs.lemmas.List.{length-take-le, take-append-drop, take_at, drop_at}
use Rattle.std.proofs.lemmas.Slice.Eq.{starts_is}
use Rattle.std.specs.List.{AllByRecursion, prefix_len, starts_with}
use Rattle.std.specs.Option.{option_map}
use Rattle.std.specs.Str.Parse.{digits_value}
use Rattle.mysql_handshake.specs.Versions.{BeginsWith, IsGroup, IsMariadbVersion, IsMarked, IsTheOne, IsVersion}
use Rattle.mysql_handshake.specs.Versions.{NoDigitFirst, is_digit}
use Rattle.mysql_handshake.specs.VersionReading.{Found, FoundVersion, ◌>>=◌, after_dot, digits_len, first_of, if_marked}
use Rattle.mysql_handshake.specs.VersionReading.{mariadb_version, marked_version, number_after_dot, number_at}
use Rattle.mysql_handshake.specs.VersionReading.{version_at, version_of, with_major, with_minor, with_patch}
use Rattle.mysql_handshake.proofs.Digits.{digits_are, digits_few, digits_within}

abbrev IsDigit : ℕ → Type 0
IsDigit c = is_digit c ≡ true

-- digits before others are counted with them
front_digits : (digits rest : List ℕ) → AllByRecursion IsDigit digits →
    prefix_len is_digit (digits ++ rest) ≡ length digits + prefix_len is_digit rest
front_digits [] rest h = omega arith
front_digits (d ∷ digits) rest h = let more = front_digits digits rest h.1 in rw h.0 (omega (arith, more))

no_digits : (rest : List ℕ) → NoDigitFirst rest → prefix_len is_digit rest ≡ 0
no_digits [] h = refl
no_digits (c ∷ rest) h = rw h refl

-- a group is read whole
abbrev IsWhole : ℕ → List ℕ → List ℕ → Type 0
IsWhole most digits rest = (length digits ≡ most) ⊎ NoDigitFirst rest

group_len : (most : ℕ) (digits rest : List ℕ) → IsGroup most digits → IsWhole most digits rest →
    digits_len most (digits ++ rest) ≡ length digits
unfolding digits_len
group_len most digits rest g whole =
    let front = front_digits digits rest g.each in
    let few = g.few in
    elim whole [
      | inl full ↦ omega (arith, front, few, full)
      | inr none ↦ (let stop = no_digits rest none in omega (arith, front, few, stop))
    ]

not_none : (n : ℕ) → 1 ≤ n → (n == 0) ≡ false
not_none n h = ne_eqb n 0 (λ e. absurd (omega (arith, e, h)))

not_zero : (n : ℕ) → (n == 0) ≡ false → 1 ≤ n
not_zero zero h = cc
not_zero (suc n) h = omega arith

group_read : (most : ℕ) (digits rest : List ℕ) → IsGroup most digits → IsWhole most digits rest
    → number_at most (digits ++ rest) ≡ Some (digits_value 10 digits, rest)
unfolding number_at
group_read most digits rest g whole =
    rw (
      group_len most digits rest g whole,
      not_none (length digits) g.some,
      take_at digits rest (length digits) refl,
      drop_at digits rest (length digits) refl,
    ) refl

-- the parts of a version, from the left or from the right
nested : (a b c d : List ℕ) → a ++ codes "." ++ b ++ codes "." ++ c ++ d ≡ a ++ 46 ∷ (b ++ 46 ∷ (c ++ d))
nested a b c d = append_assoc (a ++ codes "." ++ b ++ codes ".") c d ∙
    append_assoc (a ++ codes "." ++ b) (codes ".") (c ++ d)
    ∙ append_assoc (a ++ codes ".") b (46 ∷ (c ++ d)) ∙ append_assoc a (codes ".") (b ++ 46 ∷ (c ++ d))

-- a text with a version in front is read so
pub version_read : (text : List ℕ) (version : ℕ × ℕ × ℕ) (rest : List ℕ) →
    BeginsWith text version rest → version_at text ≡ Some (version, rest)
unfolding version_at
version_read text version rest h =
    let last : List ℕ = 46 ∷ (h.patch ++ rest) in
    let tail : List ℕ = 46 ∷ (h.minor ++ last) in
    let major : number_at 2 (h.major ++ tail) ≡ Some (digits_value 10 h.major, tail) =
    group_read 2 h.major tail h.is_major (inr refl) in
    let minor : number_at 2 (h.minor ++ last) ≡ Some (digits_value 10 h.minor, last) =
    group_read 2 h.minor last h.is_minor (inr refl) in
    let patch : number_at 3 (h.patch ++ rest) ≡ Some (digits_value 10 h.patch, rest) =
    group_read 3 h.patch rest h.is_patch h.whole in
    ap (λ t. number_at 2 t >>= with_major) (h.spelled ∙ nested h.major h.minor h.patch rest)
    ∙ ap (λ o. o >>= with_major) major
    ∙ ap (λ o. o >>= with_minor (digits_value 10 h.major, tail)) minor
    ∙ ap (λ o. o >>= with_patch (digits_value 10 h.major, tail) (digits_value 10 h.minor, last)) patch
    ∙ ap (λ v. Some (v, rest)) (sym h.numbers)

-- what was read first, and what then
bind_some : {A B : Type 0} → (o : Option A) (f : A → Option B) (y : B) → (o >>= f) ≡ Some y →
    (x : A) × (o ≡ Some x) × (f x ≡ Some y)
bind_some None f y h = cc
bind_some (Some x) f y h = (x, refl, h)

if_some : {X : Type 0} → (test : Bool) (x y : X) → (if test then None else Some x) ≡ Some y → (test ≡ false) × (x ≡ y)
if_some true x y h = cc
if_some false x y h = (refl, cc)

then_some : {X : Type 0} → (test : Bool) (x y : X) → (if test then Some x else None) ≡ Some y → (test ≡ true) × (x ≡ y)
then_some true x y h = (refl, cc)
then_some false x y h = cc

-- behind the digits that a text begins with stands no digit
stops_at : (c : ℕ) (text : List ℕ) (test : Bool) → is_digit c ≡ test →
    NoDigitFirst (drop (prefix_len is_digit text) text)
    → NoDigitFirst (drop (cond test (1 + prefix_len is_digit text) 0) (c ∷ text))
stops_at c text true e behind = let one : 1 + prefix_len is_digit text ≡
    suc (prefix_len is_digit text) = omega arith in rw one behind
stops_at c text false e behind = e

stops : (text : List ℕ) → NoDigitFirst (drop (prefix_len is_digit text) text)
stops [] = tt
stops (c ∷ text) = stops_at c text (is_digit c) refl (stops text)

all_digits : (xs : List ℕ) → ((k : ℕ) → k < length xs → is_digit (get_or xs k 0) ≡ true) → AllByRecursion IsDigit xs
all_digits [] h = tt
all_digits (x ∷ xs) h = (h 0 (omega arith), all_digits xs (λ k lt. h (suc k) (omega (arith, lt))))

-- a group that was read
record GroupAt (most : ℕ) (text : List ℕ) (found : Found) : Type 0 where
  digits : List ℕ
  spelled : text ≡ digits ++ found.1
  group : IsGroup most digits
  whole : IsWhole most digits found.1
  value : found.0 ≡ digits_value 10 digits

cut_whole : (most : ℕ) (text : List ℕ) →
    IsWhole most (take (digits_len most text) text) (drop (digits_len most text) text)
unfolding digits_len
cut_whole most text =
    let taken : length (take (digits_len most text) text) ≡ digits_len most text =
    length-take-le (digits_len most text) text (digits_within most text) in
    elim (cases_lt (prefix_len is_digit text) most) [
      | inl less ↦ (
          let all : digits_len most text ≡ prefix_len is_digit text = omega (arith, less) in
          inr (subst (λ n. NoDigitFirst (drop n text)) (sym all) (stops text)))
      | inr more ↦ inl (omega (arith, taken, more))
    ]

group_found : (most : ℕ) (text : List ℕ) (found : Found) → number_at most text ≡ Some found → GroupAt most text found
unfolding number_at
group_found most text found h =
    let n = digits_len most text in
    let p = if_some (n == 0) (digits_value 10 (take n text), drop n text) found h in
    let taken : length (take n text) ≡ n = length-take-le n text (digits_within most text) in
    let few : digits_len most text ≤ most = digits_few most text in
    let test : (n == 0) ≡ false = p.0 in
    let behind : drop n text ≡ found.1 = ap (λ y. y.1) p.1 in
    record {
      digits = take n text;
      spelled = sym (take-append-drop n text) ∙ ap (λ y. take n text ++ y) behind;
      group = record {
        some = omega (arith, taken, not_zero n test);
        few = omega (arith, taken, few);
        each = all_digits (take n text) (λ k lt. digits_are most text k (omega (arith, taken, lt)));
      };
      whole = subst (IsWhole most (take n text)) behind (cut_whole most text);
      value = sym (ap (λ y. y.0) p.1);
    }

dot_is : (c : ℕ) → (c == 46) ≡ true → c ≡ 46
dot_is c h = eqb-true c 46 h

dot_found : (text rest : List ℕ) → after_dot text ≡ Some rest → text ≡ 46 ∷ rest
dot_found [] rest h = cc
dot_found (c ∷ text) rest h = let p = then_some (c == 46) text rest h in rw (dot_is c p.0, p.1) refl

-- a number behind a dot that was read
record DotAt (most : ℕ) (text : List ℕ) (found : Found) : Type 0 where
  tail : List ℕ
  dot : text ≡ 46 ∷ tail
  number : GroupAt most tail found

dotted : (most : ℕ) (text : List ℕ) (found : Found) → number_after_dot most text ≡ Some found → DotAt most text found
dotted most text found h =
    let b = bind_some (after_dot text) (number_at most) found h in
    record { tail = b.0; dot = dot_found text b.0 b.1; number = group_found most b.0 found b.2 }

only_first : {A B : Type 0} {p q : A × B} → Some p ≡ Some q → p.0 ≡ q.0
only_first h = cc

only_second : {A B : Type 0} {p q : A × B} → Some p ≡ Some q → p.1 ≡ q.1
only_second h = cc

three : {a b c x y z : ℕ} → a ≡ x → b ≡ y → c ≡ z → ◌≡◌ {A = ℕ × ℕ × ℕ} (a, b, c) (x, y, z)
three h i j = rw (h, i, j) refl

numbers_found : (text : List ℕ) (version : ℕ × ℕ × ℕ) (rest : List ℕ) (a b c : Found)
    → number_at 2 text ≡ Some a → number_after_dot 2 a.1 ≡ Some b → number_after_dot 3 b.1 ≡ Some c
    → with_patch a b c ≡ Some (version, rest) → BeginsWith text version rest
numbers_found text version rest a b c at_a at_b at_c h =
    let major : GroupAt 2 text a = group_found 2 text a at_a in
    let minor : DotAt 2 a.1 b = dotted 2 a.1 b at_b in
    let patch : DotAt 3 b.1 c = dotted 3 b.1 c at_c in
    let same : (a.0, b.0, c.0) ≡ version = only_first h in
    let behind : c.1 ≡ rest = only_second h in
    let last : b.1 ≡ 46 ∷ (patch.number.digits ++ rest) = patch.dot ∙
    ap (λ y. 46 ∷ y) (patch.number.spelled ∙ ap (λ y. patch.number.digits ++ y) behind) in
    let tail : a.1 ≡ 46 ∷ (minor.number.digits ++ 46 ∷ (patch.number.digits ++ rest)) =
    minor.dot ∙ ap (λ y. 46 ∷ y) (minor.number.spelled ∙ ap (λ y. minor.number.digits ++ y) last) in
    record {
      major = major.digits;
      minor = minor.number.digits;
      patch = patch.number.digits;
      spelled = major.spelled ∙ ap (λ y. major.digits ++ y) tail ∙
          sym (nested major.digits minor.number.digits patch.number.digits rest);
      is_major = major.group;
      is_minor = minor.number.group;
      is_patch = patch.number.group;
      whole = subst (IsWhole 3 patch.number.digits) behind patch.number.whole;
      numbers = sym same ∙ three major.value minor.number.value patch.number.value;
    }

pub version_found : (text : List ℕ) (version : ℕ × ℕ × ℕ) (rest : List ℕ) → version_at text ≡
    Some (version, rest) → BeginsWith text version rest
unfolding version_at
version_found text version rest h =
    let a = bind_some (number_at 2 text) with_major (version, rest) h in
    let b = bind_some (number_after_dot 2 a.0.1) (with_minor a.0) (version, rest) a.2 in
    let c = bind_some (number_after_dot 3 b.0.1) (with_patch a.0 b.0) (version, rest) b.2 in
    numbers_found text version rest a.0 b.0 c.0 a.1 b.1 c.1 c.2

version_or_none : (text : List ℕ) (o : Option FoundVersion) → version_at text ≡ o →
    IsTheOne (IsVersion text) (option_map (λ p. p.0) o)
version_or_none text None e = λ version h. let read = version_read text version h.0 h.1 in cc
version_or_none text (Some p) e = (
  (p.1, version_found text p.0 p.1 e),
  λ version h. let read =
      version_read text version h.0 h.1 in cc,
)

pub is_version : (text : List ℕ) → IsTheOne (IsVersion text) (version_of text)
is_version text = version_or_none text (version_at text) refl

-- how a text begins with another
begins : (text front : List ℕ) → (starts_with nat_eq text front ≡ true → text ≡ front ++ drop (length front) text)
    × ((rest : List ℕ) → text ≡ front ++ rest → starts_with nat_eq text front ≡ true)
begins text front = starts_is Decides-eqb text front (starts_with nat_eq text front) refl

-- a version with MariaDB's name behind it
marked_read : (text : List ℕ) (version : ℕ × ℕ × ℕ) → IsMarked text version → marked_version text ≡ Some version
unfolding marked_version
marked_read text version h = ap (λ o. o >>= if_marked) (version_read text version (codes "-MariaDB" ++ h.0) h.1)

marked_found : (text : List ℕ) (version : ℕ × ℕ × ℕ) → marked_version text ≡ Some version → IsMarked text version
unfolding marked_version
marked_found text version h =
    let a = bind_some (version_at text) if_marked version h in
    let p = then_some (starts_with nat_eq a.0.1 (codes "-MariaDB")) a.0.0 version a.2 in
    let behind : a.0.1 ≡ codes "-MariaDB" ++ drop 8 a.0.1 = (begins a.0.1 (codes "-MariaDB")).0 p.0 in (
      drop 8 a.0.1,
      subst (λ v. BeginsWith text v (codes "-MariaDB" ++ drop 8 a.0.1)) p.1
          (subst (BeginsWith text a.0.0) behind (version_found text a.0.0 a.0.1 a.1)),
    )

five : (most : ℕ) → 1 ≤ most → IsGroup most (53 ∷ [])
five most h = record { some = omega arith; few = omega (arith, h); each = (refl, tt) }

-- what is read at `5.5.5-`, and at MariaDB's name
prefix_read : (tail : List ℕ) → version_at (codes "5.5.5-" ++ tail) ≡ Some ((5, 5, 5), 45 ∷ tail)
prefix_read tail = version_read (codes "5.5.5-" ++ tail) (5, 5, 5) (45 ∷ tail) (record {
  major = (53 ∷ []);
  minor = (53 ∷ []);
  patch = (53 ∷ []);
  spelled = refl;
  is_major = five 2 (omega arith);
  is_minor = five 2 (omega arith);
  is_patch = five 3 (omega arith);
  whole = inr refl;
  numbers = refl;
})

name_read : (tail : List ℕ) → version_at (codes "MariaDB" ++ tail) ≡ None
unfolding version_at number_at digits_len
name_read tail = refl

-- behind `5.5.5-` a version and MariaDB's name can't both stand
not_both : (text tail : List ℕ) (version other : ℕ × ℕ × ℕ) → text ≡ codes "5.5.5-" ++ tail →
    IsMarked tail version → ¬ (IsMarked text other)
not_both text tail version other split prefixed plain =
    let front : version_at text ≡ Some ((5, 5, 5), 45 ∷ tail) = ap version_at split ∙ prefix_read tail in
    let behind : version_at text ≡ Some (other, codes "-MariaDB" ++ plain.0) =
    version_read text other (codes "-MariaDB" ++ plain.0) plain.1 in
    let name : tail ≡ codes "MariaDB" ++ plain.0 = ap (λ t. drop 1 t) (only_second (sym front ∙ behind)) in
    let none : version_at tail ≡ None = ap version_at name ∙ name_read plain.0 in
    let read = version_read tail version (codes "-MariaDB" ++ prefixed.0) prefixed.1 in
    cc

-- two versions that are read are one
same_marked : (text : List ℕ) (version other : ℕ × ℕ × ℕ) → IsMarked text version →
    IsMarked text other → other ≡ version
same_marked text version other h k = let first = marked_read text version h in let second =
    marked_read text other k in cc

same_tail : (text a b : List ℕ) → text ≡ codes "5.5.5-" ++ a → text ≡ codes "5.5.5-" ++ b → b ≡ a
same_tail text a b h k = sym (ap (λ t. drop 6 t) k) ∙ ap (λ t. drop 6 t) h

same_mariadb : (text : List ℕ) (version other : ℕ × ℕ × ℕ) → IsMariadbVersion text version →
    IsMariadbVersion text other → other ≡ version
same_mariadb text version other h k = elim h [
  | inl p ↦ elim k [
    | inl q ↦ same_marked p.0 version other p.2 (subst (λ t. IsMarked t other) (same_tail text p.0 q.0 p.1 q.1) q.2)
    | inr m ↦ absurd (not_both text p.0 version other p.1 p.2 m)
  ]
  | inr n ↦ elim k [
    | inl q ↦ absurd (not_both text q.0 other version q.1 q.2 n)
    | inr m ↦ same_marked text version other n m
  ]
]

the_mariadb : (text : List ℕ) (version : ℕ × ℕ × ℕ) → IsMariadbVersion text version →
    IsTheOne (IsMariadbVersion text) (Some version)
the_mariadb text version h = (h, λ other k. same_mariadb text version other h k)

behind_prefix : (text : List ℕ) (a b : Option (ℕ × ℕ × ℕ)) → text ≡ codes "5.5.5-" ++ drop 6 text →
    marked_version (drop 6 text) ≡ a → marked_version text ≡ b
    → IsTheOne (IsMariadbVersion text) (first_of a b)
behind_prefix text (Some version) b split a_is b_is =
    the_mariadb text version (inl (drop 6 text, split, marked_found (drop 6 text) version a_is))
behind_prefix text None (Some version) split a_is b_is = the_mariadb text version (inr (marked_found text version b_is))
behind_prefix text None None split a_is b_is = λ version is. elim is [
  | inl p ↦ (let read : marked_version (drop 6 text) ≡ Some version =
      ap (λ t. marked_version (drop 6 t)) p.1 ∙ marked_read p.0 version p.2 in cc)
  | inr m ↦ (let read = marked_read text version m in cc)
]

without_prefix : (text : List ℕ) (b : Option (ℕ × ℕ × ℕ)) →
    starts_with nat_eq text (codes "5.5.5-") ≡ false → marked_version text ≡ b
    → IsTheOne (IsMariadbVersion text) b
without_prefix text (Some version) other b_is = the_mariadb text version (inr (marked_found text version b_is))
without_prefix text None other b_is = λ version is. elim is [
  | inl p ↦ (let begun = (begins text (codes "5.5.5-")).1 p.0 p.1 in cc)
  | inr m ↦ (let read = marked_read text version m in cc)
]

by_prefix : (text : List ℕ) (test : Bool) → starts_with nat_eq text (codes "5.5.5-") ≡ test
    → IsTheOne (IsMariadbVersion text)
    (if test then first_of (marked_version (drop 6 text)) (marked_version text) else
    marked_version text)
by_prefix text true e = behind_prefix text (marked_version (drop 6 text)) (marked_version text)
    ((begins text (codes "5.5.5-")).0 e) refl refl
by_prefix text false e = without_prefix text (marked_version text) e refl

pub is_mariadb_version : (text : List ℕ) → IsTheOne (IsMariadbVersion text) (mariadb_version text)
unfolding mariadb_version
is_mariadb_version text = by_prefix text (starts_with nat_eq text (codes "5.5.5-")) refl
