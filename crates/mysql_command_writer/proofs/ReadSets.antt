-- Sets of transactions that were read are such sets, and what is written of them has no more bytes.
use Rattle.std.proofs.Common.{◌≡◌, ◌≤◌, ◌<◌, ◌+◌, ◌^◌, ◌==◌, ◌&&◌, if◌then◌else◌, ℕ, zero, suc, Bool, true, false}
use Rattle.std.proofs.Common.{true≢false, List, [], ◌∷◌, ◌++◌}
use Rattle.std.proofs.Common.{length, take, drop, Option, Some, None, is_none, unwrap_or, Ok, Err, refl, sym, ap, ◌∙◌}
use Rattle.std.proofs.Common.{subst, arith}
use Rattle.std.proofs.Common.{length-append, length-drop}
use Rattle.std.proofs.lemmas.List.{length-take}
use Rattle.std.specs.List.{AllByRecursion, flat_map}
use Rattle.std.specs.Str.{is_utf8}
use Rattle.std.specs.Int.{w8, trailing_ones}
use Rattle.byteorder.specs.Endian.{little_bytes, little_number}
use Rattle.mysql_buf.specs.Bytes.{AreBytes}
use Rattle.mysql_buf.specs.FirstBytes.{first-some}
use Rattle.mysql_buf.specs.Reading as buffer
use Rattle.mysql_buf.specs.Reading.{little_at}
use Rattle.mysql_buf.specs.TextLaws.{left-of}
use Rattle.mysql_buf.specs.Varlen.{short_at, varlen, varlen_at}
use Rattle.mysql_buf.specs.VarlenLaws.{varlen-shortest}
use Rattle.mysql_field_lists.specs.Lists.{counted_at, elements_at}
use Rattle.mysql_fields.specs.Forms.{bytes_at, fixed_number_at}
use Rattle.mysql_fields.specs.Laws.{bind_ok, ok_same}
use Rattle.mysql_fields.specs.Texts.{varlen_text, varlen_text_at}
use Rattle.mysql_fields.specs.Wire.{Reading, or_end}
use Rattle.mysql_fields.specs.declared.error.WireError.TheVariants.{UnknownValue}
use Rattle.mysql_replication.proofs.Blocks.{tag_bytes_len, tag_is_short}
use Rattle.mysql_replication.specs.BlockLaws.{Keeps}
use Rattle.mysql_replication.specs.Blocks.{IsInterval, IsSid, IsTagOrNone, any_tag, block_at, block_bytes, block_number}
use Rattle.mysql_replication.specs.Blocks.{count_said, interval_at, interval_bytes, is_tag, says_tagged, sid_at}
use Rattle.mysql_replication.specs.Blocks.{sid_bytes}
use Rattle.mysql_replication.specs.Blocks.{tag_at, tag_bytes, tag_named}
use Rattle.mysql_replication.specs.Sids.{SidParts}
use Rattle.mysql_replication.specs.Tags.{tag_fault}
use Rattle.mysql_replication.specs.declared.interval.GnoInterval.{GnoInterval}
use Rattle.mysql_login.proofs.FieldsRead.{left_bytes, stands}

-- so many bytes are written at most of what was read, and bytes are left
abbrev pub Takes : List ℕ → ℕ → List ℕ → Type 0
Takes bytes written left = (written + length left ≤ length bytes) × AreBytes left

-- a number of n bytes
number_takes : (n : ℕ) (bytes : List ℕ) (x : ℕ × List ℕ) → AreBytes bytes → fixed_number_at n bytes ≡ Ok x →
    (x.0 < 256 ^ n) × Takes bytes n x.1
number_takes n bytes x small h =
    let some = stands (little_at n bytes) x h in
    let part = first-some n (little_number n) bytes x some in
    let left : drop n bytes ≡ x.1 = sym (ap (λ (p : ℕ × List ℕ). p.1) part.1) in
    let own = left-of n bytes x.0 x.1 small some in
    (own.0, (omega (arith, own.1), subst AreBytes left (left_bytes n bytes small)))

-- n bytes
block_takes : (n : ℕ) (bytes : List ℕ) (x : List ℕ × List ℕ) → AreBytes bytes → bytes_at n bytes ≡ Ok x →
    (length x.0 ≡ n) × Takes bytes n x.1
block_takes n bytes x small h =
    let part = first-some n (take n) bytes x (stands (buffer.bytes_at n bytes) x h) in
    subst (λ (y : List ℕ × List ℕ). (length y.0 ≡ n) × Takes bytes n y.1) (sym part.1) (
      omega (arith, part.0, length-take n bytes),
      (omega (arith, part.0, length-drop n bytes), left_bytes n bytes small),
    )

-- so many elements, one after another
module _ {X : Type 0} (P : X → Type 0) (written : X → List ℕ) (read_at : List ℕ → Reading X) where
  elements_take : ((bytes : List ℕ) (x : X × List ℕ) → AreBytes bytes → read_at bytes ≡ Ok x →
      P x.0 × Takes bytes (length (written x.0)) x.1) →
      (n : ℕ) (bytes : List ℕ) (x : List X × List ℕ) → AreBytes bytes →
      elements_at read_at n bytes ≡ Ok x →
      (length x.0 ≡ n) × AllByRecursion P x.0 × Takes bytes (length (flat_map written x.0)) x.1
  unfolding elements_at
  elements_take each zero bytes x small h =
      let made : List X × List ℕ = ([], bytes) in
      subst (λ (y : List X × List ℕ). (length y.0 ≡ 0) × AllByRecursion P y.0 ×
      Takes bytes (length (flat_map written y.0)) y.1)
      (ok_same made x h) (refl, tt, (omega arith, small))
  elements_take each (suc n) bytes x small h =
      let first = bind_ok (read_at bytes) _ x h in
      let one = each bytes first.0 small first.1 in
      let others = bind_ok (elements_at read_at n first.0.1) _ x first.2 in
      let more = elements_take each n first.0.1 others.0 one.1.1 others.1 in
      let made : List X × List ℕ = (first.0.0 ∷ others.0.0, others.0.1) in
      subst (λ (y : List X × List ℕ). (length y.0 ≡ suc n) × AllByRecursion P y.0 ×
      Takes bytes (length (flat_map written y.0)) y.1) (ok_same made x others.2) (
        omega (arith, more.0),
        (one.0, more.1),
        (omega (arith, one.1.0, more.2.0, length-append (written first.0.0) (flat_map written others.0.0)), more.2.1),
      )

-- INTERVALS

interval_takes : (bytes : List ℕ) (x : GnoInterval × List ℕ) → AreBytes bytes → interval_at bytes ≡ Ok x →
    IsInterval x.0 × Takes bytes (length (interval_bytes x.0)) x.1
unfolding interval_at interval_bytes
interval_takes bytes x small h =
    let start = bind_ok (fixed_number_at 8 bytes) _ x h in
    let one = number_takes 8 bytes start.0 small start.1 in
    let end = bind_ok (fixed_number_at 8 start.0.1) _ x start.2 in
    let two = number_takes 8 start.0.1 end.0 one.1.1 end.1 in
    let low : start.0.0 < 256 ^ 8 = one.0 in
    let high : end.0.0 < 256 ^ 8 = two.0 in
    let made : GnoInterval × List ℕ = (record { start = start.0.0; end = end.0.0 }, end.0.1) in
    subst (λ (y : GnoInterval × List ℕ). IsInterval y.0 × Takes bytes 16 y.1) (ok_same made x end.2)
    (record { start = omega arith; end = omega arith }, (omega (arith, one.1.0, two.1.0), two.1.1))

-- TAGS

short_left : (b : ℕ) (bytes : List ℕ) (x : ℕ × List ℕ) → AreBytes bytes → short_at b bytes ≡ Some x → AreBytes x.1
short_left b bytes x small h =
    let part = first-some (trailing_ones w8 b + 1) _ bytes x h in
    subst (λ (y : ℕ × List ℕ). AreBytes y.1) (sym part.1) (left_bytes (trailing_ones w8 b + 1) bytes small)

long_left : (bytes : List ℕ) (x : ℕ × List ℕ) → AreBytes bytes → little_at 8 bytes ≡ Some x → AreBytes x.1
long_left bytes x small h =
    let part = first-some 8 (little_number 8) bytes x h in
    subst (λ (y : ℕ × List ℕ). AreBytes y.1) (sym part.1) (left_bytes 8 bytes small)

varlen_left : (bytes : List ℕ) (x : ℕ × List ℕ) → AreBytes bytes → varlen_at bytes ≡ Some x → AreBytes x.1
varlen_left [] x small h = absurd cc
varlen_left (b ∷ bs) x small h = go (b == 255) h where
  go : (long : Bool) → (if long then little_at 8 bs else short_at b (b ∷ bs)) ≡ Some x → AreBytes x.1
  go true e = long_left bs x (λ i. small (suc i)) e
  go false e = short_left b (b ∷ bs) x small e

-- a text takes as many bytes at least as its shortest spelling and itself
text_takes : (bytes : List ℕ) (x : List ℕ × List ℕ) → AreBytes bytes → varlen_text_at bytes ≡ Ok x →
    Takes bytes (length (varlen (length x.0)) + length x.0) x.1
text_takes bytes x small h = go (varlen_at bytes) refl h where
  go : (o : Option (ℕ × List ℕ)) → varlen_at bytes ≡ o → or_end (buffer.then_at o buffer.bytes_at) ≡ Ok x →
      Takes bytes (length (varlen (length x.0)) + length x.0) x.1
  go None is e = absurd cc
  go (Some n) is e =
      let short = varlen-shortest n.0 bytes n.1 small is in
      let read = block_takes n.0 n.1 x (varlen_left bytes n small is) e in
      (rw (read.0) (omega (arith, short, read.1.0)), read.1.1)

and_parts : (a b : Bool) → a && b ≡ true → a ≡ true
and_parts true b h = refl
and_parts false b h = absurd (true≢false (sym h))

no_fault : {X : Type 0} (fault : Option X) → is_none fault ≡ true → fault ≡ None
no_fault None h = refl
no_fault (Some x) h = absurd (true≢false (sym h))

-- the tag that a text is, and the text of it
abbrev pub IsNamed : List ℕ → Option (List ℕ) → Type 0
IsNamed text tag = IsTagOrNone tag × (unwrap_or tag [] ≡ text) × (length text ≤ 32)

tag_read : (text : List ℕ) (tag : Option (List ℕ)) → tag_named text ≡ Ok tag → IsNamed text tag
unfolding tag_named
tag_read [] tag h = let same : None ≡ tag = cc in subst (IsNamed []) same (tt, refl, omega arith)
tag_read (c ∷ text) tag h = go (is_tag (c ∷ text)) refl h where
  go : (is : Bool) → is_tag (c ∷ text) ≡ is → (if is then Ok (Some (c ∷ text)) else Err UnknownValue) ≡ Ok tag →
      IsNamed (c ∷ text) tag
  go true is e =
      let same : Some (c ∷ text) ≡ tag = cc in
      let fault = no_fault (tag_fault (c ∷ text))
      (and_parts (is_none (tag_fault (c ∷ text))) (is_utf8 (c ∷ text)) is) in
      subst (IsNamed (c ∷ text)) same (is, refl, tag_is_short (c ∷ text) fault)
  go false is e = absurd cc

-- a tag that was read, where the block keeps tags
abbrev pub TagTakes : Bool → List ℕ → Option (List ℕ) × List ℕ → Type 0
TagTakes tagged bytes x = IsTagOrNone x.0 × Keeps tagged x.0 × Takes bytes (length (tag_bytes tagged x.0)) x.1

tag_takes : (tagged : Bool) (bytes : List ℕ) (x : Option (List ℕ) × List ℕ) → AreBytes bytes →
    tag_at tagged bytes ≡ Ok x →
    TagTakes tagged bytes x
tag_takes false bytes x small h =
    let made : Option (List ℕ) × List ℕ = (None, bytes) in
    subst (TagTakes false bytes) (ok_same made x h) (tt, refl, (omega arith, small))
tag_takes true bytes x small h =
    let text = bind_ok (varlen_text_at bytes) _ x h in
    let read = text_takes bytes text.0 small text.1 in
    let tag = bind_ok (tag_named text.0.0) _ x text.2 in
    let named = tag_read text.0.0 tag.0 tag.1 in
    let len : length (varlen_text (unwrap_or tag.0 [])) ≡ length (varlen (length text.0.0)) + length text.0.0 =
    ap (λ (t : List ℕ). length (varlen_text t)) named.1 ∙ tag_bytes_len text.0.0 named.2 in
    let made : Option (List ℕ) × List ℕ = (tag.0, text.0.1) in
    subst (TagTakes true bytes) (ok_same made x tag.2) (named.0, tt, (omega (arith, len, read.0), read.1))

-- SETS

-- a set that was read of a block
abbrev pub IsRead : Bool → SidParts → Type 0
IsRead tagged sid = IsSid sid × Keeps tagged sid.tag

sid_takes : (tagged : Bool) (bytes : List ℕ) (x : SidParts × List ℕ) → AreBytes bytes → sid_at tagged bytes ≡ Ok x →
    IsRead tagged x.0 × Takes bytes (length (sid_bytes tagged x.0)) x.1
unfolding sid_at sid_bytes counted_at
sid_takes tagged bytes x small h =
    let uuid = bind_ok (bytes_at 16 bytes) _ x h in
    let one = block_takes 16 bytes uuid.0 small uuid.1 in
    let tag = bind_ok (tag_at tagged uuid.0.1) _ x uuid.2 in
    let two = tag_takes tagged uuid.0.1 tag.0 one.1.1 tag.1 in
    let intervals = bind_ok (counted_at (fixed_number_at 8) interval_at tag.0.1) _ x tag.2 in
    let count = bind_ok (fixed_number_at 8 tag.0.1) _ intervals.0 intervals.1 in
    let three = number_takes 8 tag.0.1 count.0 two.2.1 count.1 in
    let four = elements_take IsInterval interval_bytes interval_at interval_takes count.0.0
    count.0.1 intervals.0 three.1.1 count.2 in
    let many : count.0.0 < 256 ^ 8 = three.0 in
    let text = length-append (tag_bytes tagged tag.0.0) (little_bytes 8 (length intervals.0.0) ++
    flat_map interval_bytes intervals.0.0) in
    let whole = length-append uuid.0.0 (tag_bytes tagged tag.0.0 ++
    (little_bytes 8 (length intervals.0.0) ++ flat_map interval_bytes intervals.0.0)) in
    let made : SidParts × List ℕ =
    (record { uuid = uuid.0.0; tag = tag.0.0; intervals = intervals.0.0 }, intervals.0.1) in
    let sid : IsSid made.0 = record { uuid = one.0; tag = two.0; intervals = four.1; count = omega (arith, four.0) } in
    subst (λ (y : SidParts × List ℕ). IsRead tagged y.0 ×
    Takes bytes (length (sid_bytes tagged y.0)) y.1) (ok_same made x intervals.2)
    ((sid, two.1), (omega (arith, one.0, one.1.0, two.2.0, three.1.0, four.2.0, text, whole), four.2.1))

-- BLOCKS

only_sids : (tagged : Bool) (sids : List SidParts) → AllByRecursion (IsRead tagged) sids → AllByRecursion IsSid sids
only_sids tagged [] all = tt
only_sids tagged (sid ∷ sids) all = (all.0.0, only_sids tagged sids all.1)

-- a block whose number says no tags has none
untagged : (sids : List SidParts) → AllByRecursion (IsRead false) sids → any_tag sids ≡ false
untagged [] all = refl
untagged (sid ∷ sids) all = rw (all.0.1) (untagged sids all.1)

sid_fewer : (sid : SidParts) → length (sid_bytes false sid) ≤ length (sid_bytes true sid)
unfolding sid_bytes
sid_fewer sid =
    let rest : List ℕ = little_bytes 8 (length sid.intervals) ++ flat_map interval_bytes sid.intervals in
    let one = length-append sid.uuid (tag_bytes false sid.tag ++
    (little_bytes 8 (length sid.intervals) ++ flat_map interval_bytes sid.intervals)) in
    let two = length-append sid.uuid (tag_bytes true sid.tag ++
    (little_bytes 8 (length sid.intervals) ++ flat_map interval_bytes sid.intervals)) in
    let three = length-append (tag_bytes true sid.tag) (little_bytes 8 (length sid.intervals) ++
    flat_map interval_bytes sid.intervals) in
    omega (arith, one, two, three)

fewer : (sids : List SidParts) → length (flat_map (sid_bytes false) sids) ≤ length (flat_map (sid_bytes true) sids)
fewer [] = omega arith
fewer (sid ∷ sids) =
    omega (
      arith,
      sid_fewer sid,
      fewer sids,
      length-append (sid_bytes false sid) (flat_map (sid_bytes false) sids),
      length-append (sid_bytes true sid) (flat_map (sid_bytes true) sids),
    )

-- what is written has no more bytes than what was read
abbrev pub Shorter : Bool → Bool → List SidParts → Type 0
Shorter tags tagged sids = length (flat_map (sid_bytes tags) sids) ≤ length (flat_map (sid_bytes tagged) sids)

not_longer : (tagged tags : Bool) (sids : List SidParts) → any_tag sids ≡ tags → AllByRecursion (IsRead tagged) sids →
    Shorter tags tagged sids
not_longer true true sids is all = omega arith
not_longer true false sids is all = fewer sids
not_longer false true sids is all = absurd (true≢false (sym is ∙ untagged sids all))
not_longer false false sids is all = omega arith

pub block_read : (bytes : List ℕ) (x : List SidParts × List ℕ) → AreBytes bytes → block_at bytes ≡ Ok x →
    AllByRecursion IsSid x.0 × (length (block_bytes x.0) ≤ length bytes)
unfolding block_at block_bytes
block_read bytes x small h =
    let number = bind_ok (fixed_number_at 8 bytes) _ x h in
    let one = number_takes 8 bytes number.0 small number.1 in
    let tagged = says_tagged number.0.0 in
    let sets = elements_take (IsRead (says_tagged number.0.0)) (sid_bytes (says_tagged number.0.0))
    (sid_at (says_tagged number.0.0))
    (sid_takes (says_tagged number.0.0)) (count_said number.0.0) number.0.1 x one.1.1 number.2 in
    let short = not_longer (says_tagged number.0.0) (any_tag x.0) x.0 refl sets.1 in
    let whole = length-append (little_bytes 8 (block_number (any_tag x.0) (length x.0)))
    (flat_map (sid_bytes (any_tag x.0)) x.0) in
    (only_sids (says_tagged number.0.0) x.0 sets.1, omega (arith, one.1.0, sets.2.0, short, whole))
