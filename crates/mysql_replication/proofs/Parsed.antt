-- What a text writes: a UUID of sixteen bytes, a valid tag, and intervals that run upward from above zero.
use Rattle.std.proofs.Common.{◌≡◌, ℕ, ◌+◌, ◌<◌, ◌^◌, inl, inr, Bool, true, false, true≢false, List, [], ◌∷◌, length}
use Rattle.std.proofs.Common.{drop, get_or, Option, Some, None, Result, Ok, Err, refl, sym, ◌∙◌, ap, subst, arith}
use Rattle.std.proofs.Common.{is_ok, is_none, ◌==◌, cond, not, nat_lt, nat_le}
use Rattle.std.specs.List.{after_first, before_first, position_or_len}
use Rattle.std.specs.Str.{IsUtf8}
use Rattle.std.proofs.lemmas.Bool.{cases_lt}
use Rattle.std.proofs.lemmas.Bool.Decides.{nat_tests}
use Rattle.std.proofs.lemmas.List.Splits.{slice_split_first}
use Rattle.std.proofs.lemmas.List.Sums.{prefix_len-le-length}
use Rattle.std.proofs.lemmas.Str.{IsCharBoundary-after_ascii, IsCharBoundary-before_ascii, IsUtf8-drop, IsUtf8-take}
use Rattle.mysql_fields.specs.Wire.{◌>>=◌}
use Rattle.mysql_replication.specs.Tags.{is_digit, tag_fault}
use Rattle.mysql_replication.specs.Intervals.{after, around_hyphen, ends_of, interval_of, intervals_of}
use Rattle.mysql_replication.specs.Sids.{SidParts, fields_of, sid_of, sid_of_fields, tag_and_intervals, tag_before}
use Rattle.mysql_replication.specs.Sids.{uuid_of}
use Rattle.mysql_replication.specs.declared.error.SidError.{SidError}
use Rattle.mysql_replication.specs.declared.error.SidError.TheVariants.{NoColon, BadTag, Empty, NoIntervals, Overflow}
use Rattle.mysql_replication.specs.declared.error.SidError.TheVariants.{StartNotBelowEnd, ZeroGno}
use Rattle.mysql_replication.specs.declared.tag.InvalidTag.{InvalidTag}
use Rattle.mysql_replication.specs.declared.interval.GnoInterval.{GnoInterval}
use Rattle.mysql_replication.proofs.Fields.{colon_at, fields_without_colon}
use Rattle.mysql_replication.proofs.IntervalTexts.{IsGood}
use Rattle.mysql_replication.proofs.UuidTexts.{IsUuid, uuid_is}

-- Each interval is one that a text may write.
abbrev pub AllGood : List GnoInterval → Type 0
AllGood [] = Unit {0}
AllGood (interval ∷ intervals) = IsGood interval × AllGood intervals

-- A tag that a text may write.
abbrev pub IsGoodTag : Option (List ℕ) → Type 0
IsGoodTag None = Unit {0}
IsGoodTag (Some tag) = IsUtf8 tag × (tag_fault tag ≡ None)

-- A set that a text may write.
pub record IsGoodSid (sid : SidParts) : Type 0 where
  pub uuid : IsUuid sid.uuid
  pub tag : IsGoodTag sid.tag
  pub intervals : AllGood sid.intervals
  pub some : 0 < length sid.intervals

refused_is_not_read : {A : Type 0} (e : SidError) (x : A) → Err e ≡ Ok x → ⊥
refused_is_not_read e x h = true≢false (sym (ap (λ r. is_ok r) h))

abbrev ok_else : {A : Type 0} → A → Result A SidError → A
ok_else d (Ok x) = x
ok_else d (Err e) = d

abbrev pub read_as : {A : Type 0} → A → Result A SidError
read_as x = Ok x

pub ok_same : {A : Type 0} (x y : A) → read_as x ≡ read_as y → x ≡ y
ok_same x y h = ap (λ r. ok_else x r) h

-- A reading in two steps that succeeds succeeds in each.
step_reads : {A B : Type 0} (r : Result A SidError) (f : A → Result B SidError) (y : B) →
    (r >>= f) ≡ Ok y → (x : A) × (r ≡ Ok x) × (f x ≡ Ok y)
step_reads (Ok x) f y h = (x, refl, h)
step_reads (Err e) f y h = absurd (refused_is_not_read e y h)

after_by : (b : Bool) (m end : ℕ) → nat_lt (m + 1) (2 ^ 64) ≡ b →
    cond b (Ok (m + 1)) (Err Overflow) ≡ Ok end → end < 2 ^ 64
after_by true m end e h =
    let same : m + 1 ≡ end = ok_same (m + 1) end h in
    grind (arith, nat_tests)
after_by false m end e h = absurd (refused_is_not_read Overflow end h)

between_by : (a b : Bool) (start end : ℕ) (interval : GnoInterval) → nat_le end start ≡ a →
    (start == 0) ≡ b → end < 2 ^ 64
    → cond a (Err StartNotBelowEnd)
    (cond b (Err ZeroGno) (Ok (record { start = start; end = end }))) ≡ Ok interval →
    IsGood interval
between_by true b start end interval e f fits h = absurd (refused_is_not_read StartNotBelowEnd interval h)
between_by false true start end interval e f fits h = absurd (refused_is_not_read ZeroGno interval h)
between_by false false start end interval e f fits h =
    let up : start < end = grind (arith, nat_tests) in
    let some : 0 < start = grind (arith, nat_tests) in
    subst IsGood (ok_same (record { start = start; end = end }) interval h)
    (record { some = some; up = up; fits = fits })

interval_is_good : (field : List ℕ) (interval : GnoInterval) → interval_of field ≡ Ok interval → IsGood interval
unfolding interval_of
interval_is_good field interval h =
    let ends = step_reads (ends_of field (around_hyphen field)) _ interval h in
    let last = step_reads (after ends.0.1) _ interval ends.2 in
    between_by (nat_le last.0 ends.0.0) (ends.0.0 == 0) ends.0.0 last.0 interval refl refl
    (after_by (nat_lt (ends.0.1 + 1) (2 ^ 64)) ends.0.1 last.0 refl last.1) last.2

intervals_are_good : (fields : List (List ℕ)) (intervals : List GnoInterval) → intervals_of fields ≡
    Ok intervals → AllGood intervals × (length intervals ≡ length fields)
intervals_are_good [] intervals h =
    subst (λ (l : List GnoInterval). AllGood l × (length l ≡ 0)) (ok_same [] intervals h) (tt, refl)
intervals_are_good (field ∷ fields) intervals h =
    let first = step_reads (interval_of field) _ intervals h in
    let others = step_reads (intervals_of fields) _ intervals first.2 in
    let good = intervals_are_good fields others.0 others.1 in
    let long : length (first.0 ∷ others.0) ≡ length (field ∷ fields) = let e = good.1 in omega arith in
    subst (λ (l : List GnoInterval). AllGood l × (length l ≡ length (field ∷ fields)))
    (ok_same (first.0 ∷ others.0) intervals others.2)
    ((interval_is_good field first.0 first.1, good.0), long)

-- A tag's text and the fields behind it, where they are read.
abbrev IsTagged : List ℕ → Option (List ℕ) × List (List ℕ) → Type 0
IsTagged field read = IsGoodTag read.0 × (0 < length read.1)

tag_by : (fault : Option InvalidTag) (field other : List ℕ) (others : List (List ℕ))
    (read : Option (List ℕ) × List (List ℕ)) → tag_fault field ≡ fault → IsUtf8 field
    → cond (is_none fault) (Ok (Some field, other ∷ others)) (Err BadTag) ≡ Ok read → IsTagged field read
tag_by None field other others read e valid h =
    let some : 0 < length (other ∷ others) = omega arith in
    subst (λ (p : Option (List ℕ) × List (List ℕ)). IsTagged field p)
    (ok_same (Some field, other ∷ others) read h) ((valid, e), some)
tag_by (Some fault) field other others read e valid h = absurd (refused_is_not_read BadTag read h)

before_is_good : (field : List ℕ) (fields : List (List ℕ)) (read : Option (List ℕ) ×
    List (List ℕ)) → (0 < length fields → IsUtf8 field) → tag_before field fields ≡ Ok read →
    IsTagged field read
before_is_good field [] read valid h = absurd (refused_is_not_read NoIntervals read h)
before_is_good field (other ∷ others) read valid h =
    tag_by (tag_fault field) field other others read refl (valid (omega arith)) h

digit_by : (b : Bool) (field : List ℕ) (fields : List (List ℕ)) (read : Option (List ℕ) ×
    List (List ℕ)) → (0 < length fields → IsUtf8 field)
    → cond b (Ok (None, field ∷ fields)) (tag_before field fields) ≡ Ok read → IsTagged field read
digit_by true field fields read valid h =
    let some : 0 < length (field ∷ fields) = omega arith in
    subst (λ (p : Option (List ℕ) × List (List ℕ)). IsTagged field p) (ok_same (None, field ∷ fields) read h) (tt, some)
digit_by false field fields read valid h = before_is_good field fields read valid h

tagged_is_good : (field : List ℕ) (fields : List (List ℕ)) (read : Option (List ℕ) ×
    List (List ℕ)) → (0 < length fields → IsUtf8 field)
    → tag_and_intervals (field ∷ fields) ≡ Ok read → IsTagged field read
tagged_is_good [] [] read valid h = absurd (refused_is_not_read Empty read h)
tagged_is_good [] (other ∷ others) read valid h = digit_by false [] (other ∷ others) read valid h
tagged_is_good (c ∷ field) fields read valid h = digit_by (is_digit c) (c ∷ field) fields read valid h

-- The first field of a text is a text, and so is what follows it.
first_field : (text field : List ℕ) (fields : List (List ℕ)) → IsUtf8 text → fields_of text ≡
    field ∷ fields → 0 < length fields
    → IsUtf8 field × ((rest : List ℕ) × IsUtf8 rest × (fields_of rest ≡ fields))
first_field text field fields valid cut some =
    elim (cases_lt (position_or_len (λ (c : ℕ). c == 58) text) (length text)) [
      | inl under ↦
          let place = position_or_len (λ (c : ℕ). c == 58) text in
          let ascii : get_or text place 0 < 128 = rw (colon_at text under) (omega arith) in
          let split = slice_split_first (λ (c : ℕ). c == 58) text 0 under in
          let same = sym split ∙ cut in
          let front : before_first (λ (c : ℕ). c == 58) text ≡ field = ap (λ (l : List (List ℕ)). get_or l 0 []) same in
          let others : fields_of (after_first (λ (c : ℕ). c == 58) text) ≡ fields =
          ap (λ (l : List (List ℕ)). drop 1 l) same in (
            subst IsUtf8 front (IsUtf8-take text place valid (IsCharBoundary-before_ascii text place under ascii)),
            (
              after_first (λ (c : ℕ). c == 58) text,
              IsUtf8-drop text (place + 1) valid
                  (IsCharBoundary-after_ascii text place valid under ascii),
              others,
            ),
          )
      | inr over ↦
          let all : position_or_len (λ (c : ℕ). c == 58) text ≡ length text = let le =
          prefix_len-le-length (λ (c : ℕ). not (c == 58)) text in omega arith in
          let same = sym (fields_without_colon text all) ∙ cut in
          let none : [] ≡ fields = ap (λ (l : List (List ℕ)). drop 1 l) same in
          let e = ap (λ (l : List (List ℕ)). length l) none in
          absurd (omega arith)
    ]

from_fields : (text : List ℕ) (all : List (List ℕ)) (sid : SidParts) → IsUtf8 text →
    fields_of text ≡ all → sid_of_fields all ≡ Ok sid → IsGoodSid sid
unfolding sid_of_fields
from_fields text [] sid valid cut h = absurd (refused_is_not_read NoColon sid h)
from_fields text (front ∷ []) sid valid cut h = absurd (refused_is_not_read NoColon sid h)
from_fields text (front ∷ field ∷ fields) sid valid cut h =
    let behind = (first_field text front (field ∷ fields) valid cut (omega arith)).1 in
    let uuid = step_reads (uuid_of front) _ sid h in
    let tagged = step_reads (tag_and_intervals (field ∷ fields)) _ sid uuid.2 in
    let read = step_reads (intervals_of tagged.0.1) _ sid tagged.2 in
    let good = tagged_is_good field fields tagged.0
    (λ some. (first_field behind.0 field fields behind.1 behind.2 some).0) tagged.1 in
    let intervals = intervals_are_good tagged.0.1 read.0 read.1 in
    let some : 0 < length read.0 = let g = good.1 in let e = intervals.1 in omega arith in
    subst IsGoodSid (ok_same (record { uuid = uuid.0; tag = tagged.0.0; intervals = read.0 }) sid read.2)
    (record { uuid = uuid_is front uuid.0 uuid.1; tag = good.0; intervals = intervals.0; some = some })

-- What a text writes.
pub parsed_is_good : (text : List ℕ) (sid : SidParts) → IsUtf8 text → sid_of text ≡ Ok sid → IsGoodSid sid
parsed_is_good text sid valid h = from_fields text (fields_of text) sid valid refl h
