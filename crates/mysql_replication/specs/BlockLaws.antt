-- Sets have their sizes as bytes, and what is written of them reads back.
use Rattle.std.proofs.Common.{◌≡◌, ℕ, ◌+◌, ◌-◌, ◌*◌, ◌/◌, ◌%◌, ◌^◌, ◌<◌, ◌≤◌, ◌==◌, ◌&&◌, ◌||◌, nat_lt, Bool, true}
use Rattle.std.proofs.Common.{false, true≢false, cond, List, [], ◌∷◌, ◌++◌, length, drop, take, Ok, Err, Option, Some}
use Rattle.std.proofs.Common.{None, is_some, is_none, refl, sym, ap, ◌∙◌, inl, inr, append_assoc, arith, length-append}
use Rattle.std.proofs.Common.{length-drop, eq-eqb}
use Rattle.std.proofs.Math.Seq.{take-length}
use Rattle.std.proofs.lemmas.Bool.{cases_lt, ltb-true}
use Rattle.std.proofs.lemmas.Bool.Decides.{nat_tests}
use Rattle.std.proofs.lemmas.List.{drop-drop, map-id, take_all}
use Rattle.std.specs.List.{AllByRecursion, flat_map}
use Rattle.std.specs.Str.{chars, is_utf8}
use Rattle.byteorder.specs.Endian.{little_bytes, little_number}
use Rattle.mysql_buf.specs.FirstBytes.{first-enough, first-short}
use Rattle.mysql_buf.specs.Reading.{first}
use Rattle.mysql_buf.specs.Writing.{front}
use Rattle.mysql_fields.specs.Forms.{fixed_number_at}
use Rattle.mysql_fields.specs.Laws.{fixed_number_at-back, ok_same, size_is, bytes-back}
use Rattle.mysql_fields.specs.Wire.{IsSized, Reading, or_end, ◌>>=◌}
use Rattle.mysql_fields.specs.declared.error.WireError.TheVariants.{UnexpectedEof}
use Rattle.mysql_fields.specs.TextLaws.{varlen_text_at-back}
use Rattle.mysql_fields.specs.Texts.{varlen_text, varlen_text_at}
use Rattle.mysql_field_lists.specs.ListLaws.{counted_numbers_at-back, elements_at-back}
use Rattle.mysql_field_lists.specs.Lists.{counted_at, elements_at}
use Rattle.mysql_replication.specs.Blocks.{IsBlock, IsInterval, IsSid, IsTagOrNone, any_tag, block_at, block_bytes}
use Rattle.mysql_replication.specs.Blocks.{block_number, count_said, interval_at, interval_bytes, is_tag, says_tagged}
use Rattle.mysql_replication.specs.Blocks.{sid_at}
use Rattle.mysql_replication.specs.Blocks.{sid_bytes, tag_at, tag_bytes, tag_named}
use Rattle.mysql_replication.specs.Sids.{SidParts}
use Rattle.mysql_replication.specs.Tags.{fault_of_chars}
use Rattle.mysql_replication.specs.declared.interval.GnoInterval.{GnoInterval}
use Rattle.mysql_replication.specs.declared.tag.InvalidTag.{InvalidTag}
use Rattle.mysql_replication.specs.declared.tag.InvalidTag.TheVariants.{Empty, TooLong}

-- two values, each of so many bytes
abbrev pub pair_at : {X Y Z : Type 0} → ℕ → ℕ → (List ℕ → X) → (List ℕ → Y) → (X → Y → Z) → List ℕ → Reading Z
pair_at n m f g make bytes = do
  x ← or_end (first n f bytes)
  y ← or_end (first m g x.1)
  Ok (make x.0 y.0, y.1)

no_first : {X Y Z : Type 0} (n m : ℕ) (f : List ℕ → X) (g : List ℕ → Y) (make : X → Y →
    Z) (bytes : List ℕ) → length bytes < n → pair_at n m f g make bytes ≡ Err UnexpectedEof
no_first n m f g make bytes h = rw (first-short n f bytes h) refl

no_second : {X Y Z : Type 0} (n m : ℕ) (f : List ℕ → X) (g : List ℕ → Y) (make : X → Y →
    Z) (bytes : List ℕ) → n ≤ length bytes → length (drop n bytes) < m →
    pair_at n m f g make bytes ≡ Err UnexpectedEof
no_second n m f g make bytes le h = rw (first-enough n f bytes le, first-short m g (drop n bytes) h) refl

both : {X Y Z : Type 0} (n m : ℕ) (f : List ℕ → X) (g : List ℕ → Y) (make : X → Y →
    Z) (bytes : List ℕ) → n ≤ length bytes → m ≤ length (drop n bytes)
    → pair_at n m f g make bytes ≡ Ok (make (f bytes) (g (drop n bytes)), drop m (drop n bytes))
both n m f g make bytes le h = rw (first-enough n f bytes le, first-enough m g (drop n bytes) h) refl

few_for_two : {X Y Z : Type 0} (n m : ℕ) (f : List ℕ → X) (g : List ℕ → Y) (make : X → Y →
    Z) (bytes : List ℕ) → length bytes < n + m → pair_at n m f g make bytes ≡ Err UnexpectedEof
few_for_two n m f g make bytes few = elim (cases_lt (length bytes) n) [
  | inl lt ↦ no_first n m f g make bytes lt
  | inr le ↦ no_second n m f g make bytes le (omega (arith, length-drop n bytes))
]

-- a pair that was read has left what is behind it
left_behind : {X Y Z : Type 0} (n m : ℕ) (f : List ℕ → X) (g : List ℕ → Y) (make : X → Y →
    Z) (bytes rest : List ℕ) (z : Z) → pair_at n m f g make bytes ≡ Ok (z, rest) → rest ≡
    drop (n + m) bytes
left_behind {Z = Z} n m f g make bytes rest z e = elim (cases_lt (length bytes) (n + m)) [
  | inl lt ↦ absurd (let no = few_for_two n m f g make bytes lt in cc)
  | inr le ↦ let yes = both n m f g make bytes (omega arith) (omega (arith, length-drop n bytes)) in
      let same = ok_same (z, rest) (make (f bytes) (g (drop n bytes)), drop m (drop n bytes)) (sym e ∙ yes) in
      ap (λ (p : Z × List ℕ). p.1) same ∙ drop-drop m n bytes
]

pair_at-sized : {X Y Z : Type 0} (n m : ℕ) (f : List ℕ → X) (g : List ℕ → Y) (make : X → Y → Z) →
    IsSized (Some (n + m)) (pair_at n m f g make)
pair_at-sized n m f g make = record {
  needed = λ bytes few. few_for_two n m f g make bytes (ltb-true (length bytes) (n + m) few);
  eaten = λ k bytes rest z e h. left_behind n m f g make bytes rest z h ∙
      ap (λ (i : ℕ). drop i bytes) (size_is k (n + m) e);
}

make_interval : ℕ → ℕ → GnoInterval
make_interval start end = record { start = start; end = end }

pub interval_at-sized : IsSized (Some 16) interval_at
unfolding interval_at make_interval
interval_at-sized = pair_at-sized 8 8 (little_number 8) (little_number 8) make_interval

pub interval_at-back : (interval : GnoInterval) (rest : List ℕ) → IsInterval interval →
    interval_at (interval_bytes interval ++ rest) ≡ Ok (interval, rest)
unfolding interval_at interval_bytes
interval_at-back interval rest h =
    let later = little_bytes 8 interval.end ++ rest in
    rw (fixed_number_at-back 8 interval.start later h.start, fixed_number_at-back 8 interval.end rest h.end) refl

short_text : (a b u : Bool) (x y : InvalidTag) (r : Option InvalidTag) →
    is_none (cond a (Some x) (cond b (Some y) r)) && u ≡ true → (b ≡ false) × (a ≡ false)
short_text true b u x y r e = absurd (true≢false (sym e))
short_text false true u x y r e = absurd (true≢false (sym e))
short_text false false u x y r e = (refl, refl)

-- a tag has at most 32 bytes
tag_is_short : (text : List ℕ) → is_tag text ≡ true → length text ≤ 32
tag_is_short text h =
    let small = (short_text (length text == 0) (nat_lt 32 (length text)) (is_utf8 text) Empty
    (TooLong (length text)) (fault_of_chars (chars text)) h).0 in
    grind (arith, nat_tests)

named-back : (text : List ℕ) → is_tag text ≡ true → tag_named text ≡ Ok (Some text)
unfolding tag_named
named-back [] h = absurd (true≢false (sym h))
named-back (c ∷ text) h = rw h refl

whole : (text : List ℕ) (most : ℕ) → length text ≤ most → front text most ≡ text
unfolding front
whole text most h = take_all most text h

text-back : (text rest : List ℕ) → length text ≤ 32 → varlen_text_at (varlen_text text ++ rest) ≡ Ok (text, rest)
text-back text rest h = varlen_text_at-back text rest ∙
    ap (λ (t : List ℕ). Ok (t, rest)) (whole text (2 ^ 32 - 1) (omega arith))

-- what a block keeps of a tag: all of it, or that there is none
abbrev pub Keeps : Bool → Option (List ℕ) → Type 0
Keeps false tag = tag ≡ None
Keeps true tag = Unit {0}

tag_at-back : (tagged : Bool) (tag : Option (List ℕ)) (rest : List ℕ) → IsTagOrNone tag →
    Keeps tagged tag → tag_at tagged (tag_bytes tagged tag ++ rest) ≡ Ok (tag, rest)
unfolding tag_named
tag_at-back false tag rest h none = ap (λ (t : Option (List ℕ)). Ok (t, rest)) (sym none)
tag_at-back true None rest h k = rw (text-back [] rest (omega arith)) refl
tag_at-back true (Some text) rest h k = rw (text-back text rest (tag_is_short text h), named-back text h) refl

counted-back : (intervals : List GnoInterval) (rest : List ℕ) → length intervals < 2 ^ 64 →
    AllByRecursion IsInterval intervals
    → counted_at (fixed_number_at 8) interval_at
    ((little_bytes 8 (length intervals) ++ flat_map interval_bytes intervals) ++ rest) ≡
    Ok (intervals, rest)
counted-back intervals rest few h =
    let all : take (length intervals) intervals ≡ intervals = take-length intervals in
    rw all at (counted_numbers_at-back IsInterval interval_bytes interval_at interval_at-back
    (little_bytes 8) (fixed_number_at 8) (length intervals) intervals rest
    (λ n after small is. fixed_number_at-back 8 n after (omega arith)) (rw all h))

pub sid_at-back : (tagged : Bool) (sid : SidParts) (rest : List ℕ) → IsSid sid →
    Keeps tagged sid.tag → sid_at tagged (sid_bytes tagged sid ++ rest) ≡ Ok (sid, rest)
unfolding sid_at sid_bytes
sid_at-back tagged sid rest h k =
    let counted = little_bytes 8 (length sid.intervals) ++ flat_map interval_bytes sid.intervals in
    let tag = tag_bytes tagged sid.tag in
    rw (
      append_assoc sid.uuid (tag ++ counted) rest,
      append_assoc tag counted rest,
      bytes-back 16 sid.uuid (tag ++ (counted ++ rest)) (sym h.uuid),
      tag_at-back tagged sid.tag (counted ++ rest) h.tag k,
      counted-back sid.intervals rest h.count h.intervals,
    ) refl

-- a set has at least one byte
sid_has_bytes : (tagged : Bool) (sid : SidParts) → 1 ≤ length (sid_bytes tagged sid)
unfolding sid_bytes
sid_has_bytes tagged sid =
    let intervals = flat_map interval_bytes sid.intervals in
    let counted = little_bytes 8 (length sid.intervals) ++ intervals in
    let tag = tag_bytes tagged sid.tag in
    omega (arith, length-append sid.uuid (tag ++ counted), length-append tag counted)

no_more_than_bytes : (tagged : Bool) (sids : List SidParts) → length sids ≤ length (flat_map (sid_bytes tagged) sids)
no_more_than_bytes tagged [] = omega arith
no_more_than_bytes tagged (sid ∷ sids) =
    let first = sid_bytes tagged sid in
    let others = flat_map (sid_bytes tagged) sids in
    omega (arith, sid_has_bytes tagged sid, no_more_than_bytes tagged sids, length-append first others)

neither : (a b : Bool) → a || b ≡ false → (a ≡ false) × (b ≡ false)
neither true b e = absurd (true≢false e)
neither false b e = (refl, e)

no_tag : (tag : Option (List ℕ)) → is_some tag ≡ false → tag ≡ None
no_tag None e = refl
no_tag (Some text) e = absurd (true≢false e)

-- where a block isn't tagged no set has a tag
kept_untagged : (sids : List SidParts) → any_tag sids ≡ false → AllByRecursion IsSid sids →
    AllByRecursion (λ sid. (after : List ℕ) → IsSid sid × Keeps false sid.tag) sids
kept_untagged [] e h = h
kept_untagged (sid ∷ sids) e h =
    let none = neither (is_some sid.tag) (any_tag sids) e in
    (λ after. (h.0, no_tag sid.tag none.0), kept_untagged sids none.1 h.1)

kept_tagged : (sids : List SidParts) → AllByRecursion IsSid sids →
    AllByRecursion (λ sid. (after : List ℕ) → IsSid sid × Keeps true sid.tag) sids
kept_tagged [] h = h
kept_tagged (sid ∷ sids) h = (λ after. (h.0, tt), kept_tagged sids h.1)

all_kept : (tagged : Bool) (sids : List SidParts) → any_tag sids ≡ tagged →
    AllByRecursion IsSid sids →
    AllByRecursion (λ sid. (after : List ℕ) → IsSid sid × Keeps tagged sid.tag) sids
all_kept true sids e h = kept_tagged sids h
all_kept false sids e h = kept_untagged sids e h

-- what the front of a block says
pub record Says (tagged : Bool) (count number : ℕ) : Type 0 where
  pub small : number < 2 ^ 64
  pub tag : says_tagged number ≡ tagged
  pub sets : count_said number ≡ count

says : (tagged : Bool) (count : ℕ) → count < 2 ^ 32 → Says tagged count (block_number tagged count)
unfolding block_number
says true count few =
    let low : count % 2 ^ 48 ≡ count = omega arith in
    let number = 2 ^ 56 + 256 * (count % 2 ^ 48) in
    let top : number / 2 ^ 56 ≡ 1 = omega arith in
    let tag : says_tagged number ≡ true = eq-eqb (number / 2 ^ 56) 1 top in
    let sets : number / 256 % 2 ^ 48 ≡ count = omega arith in
    record { small = omega arith; tag = tag; sets = rw tag sets }
says false count few =
    let top : count / 2 ^ 56 ≡ 0 = omega arith in
    let tag : says_tagged count ≡ false = rw top refl in
    let sets : count % 2 ^ 56 ≡ count = omega arith in
    record { small = omega arith; tag = tag; sets = rw tag sets }

-- a block behind its number
behind_number : (front sets : List ℕ) (number : ℕ) (tagged : Bool) (count : ℕ) →
    fixed_number_at 8 (front ++ sets) ≡ Ok (number, sets) → Says tagged count number
    → block_at (front ++ sets) ≡ elements_at (sid_at tagged) count sets
unfolding block_at
behind_number front sets number tagged count h s = rw (h, s.sets, s.tag) refl

pub block_at-back : (sids : List SidParts) (rest : List ℕ) → IsBlock sids →
    block_at (block_bytes sids ++ rest) ≡ Ok (sids, rest)
unfolding block_bytes
block_at-back sids rest h =
    let tagged = any_tag sids in
    let count = length sids in
    let number = block_number tagged count in
    let sets = flat_map (sid_bytes tagged) sids in
    let short : count < 2 ^ 32 =
    omega (
      arith,
      h.short,
      no_more_than_bytes tagged sids,
      length-append (little_bytes 8 number) sets,
    ) in
    let front = says tagged count short in
    let all = all_kept tagged sids refl h.sets in
    ap block_at (append_assoc (little_bytes 8 number) sets rest)
    ∙ behind_number (little_bytes 8 number) (sets ++ rest) number tagged count
    (fixed_number_at-back 8 number (sets ++ rest) front.small) front
    ∙ elements_at-back (λ sid after. IsSid sid × Keeps tagged sid.tag) (sid_bytes tagged)
    (sid_at tagged) (λ sid. sid) (λ sid after k. sid_at-back tagged sid after k.0 k.1) sids rest
    all
    ∙ ap (λ (all : List SidParts). Ok (all, rest)) (map-id sids)
