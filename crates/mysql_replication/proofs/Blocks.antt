-- Sets as bytes: what a text names, and how long sets are.
use Rattle.std.proofs.Common.{◌≡◌, ℕ, ◌+◌, ◌-◌, ◌*◌, ◌^◌, ◌≤◌, ◌==◌, ◌&&◌, Bool, true, false, true≢false, cond, nat_lt}
use Rattle.std.proofs.Common.{List, [], ◌∷◌, ◌++◌, length, drop, map, take, min, Ok, Err, Option, Some, None, is_none}
use Rattle.std.proofs.Common.{refl, sym, ap, ◌∙◌, inl, inr, arith, length-append}
use Rattle.std.proofs.lemmas.Bool.{cases_lt}
use Rattle.std.proofs.lemmas.Bool.Decides.{nat_tests}
use Rattle.std.proofs.lemmas.List.{length-take-le, take_all}
use Rattle.std.proofs.lemmas.List.Folds.{flat_map-map}
use Rattle.std.specs.List.{flat_map}
use Rattle.std.specs.Str.{IsUtf8, chars, is_utf8}
use Rattle.std.proofs.lemmas.Str.{IsUtf8-from_is_utf8, is_utf8-from_IsUtf8}
use Rattle.byteorder.specs.Endian.{little_bytes}
use Rattle.mysql_buf.specs.FirstBytes.{first-enough, first-short}
use Rattle.mysql_buf.specs.Varlen.{varlen}
use Rattle.mysql_buf.specs.Writing.{front}
use Rattle.mysql_fields.specs.Forms.{bytes_at}
use Rattle.mysql_fields.specs.Laws.{ok_same}
use Rattle.mysql_fields.specs.Wire.{or_end}
use Rattle.mysql_fields.specs.declared.error.WireError.TheVariants.{UnknownValue}
use Rattle.mysql_fields.specs.Texts.{varlen_text}
use Rattle.mysql_replication.specs.Blocks.{any_tag, block_bytes, block_number, interval_bytes, sid_bytes, tag_bytes}
use Rattle.mysql_replication.specs.Blocks.{tag_named}
use Rattle.mysql_replication.specs.Sids.{SidParts, sid_view}
use Rattle.mysql_replication.specs.Tags.{fault_of_chars, tag_fault}
use Rattle.mysql_replication.specs.declared.interval.GnoInterval.{GnoInterval}
use Rattle.mysql_replication.specs.declared.sid.Sid.{Sid}
use Rattle.mysql_replication.specs.declared.tag.InvalidTag.{InvalidTag}
use Rattle.mysql_replication.specs.declared.tag.InvalidTag.TheVariants.{Empty, TooLong}

-- no text names no tag
of_no_bytes : (text : List ℕ) → length text ≡ 0 → Ok None ≡ tag_named text
unfolding tag_named
of_no_bytes [] h = refl
of_no_bytes (c ∷ text) h = absurd (omega arith)

pub no_text : (text : List ℕ) → true ≡ (length text == 0) → Ok None ≡ tag_named text
no_text text h = of_no_bytes text (grind (arith, nat_tests))

-- a tag's text names it
pub tag_text : (text : List ℕ) → IsUtf8 text → tag_fault text ≡ None → false ≡ (length text == 0) →
    Ok (Some text) ≡ tag_named text
unfolding tag_named
tag_text [] valid h some = absurd (true≢false (sym some))
tag_text (c ∷ text) valid h some = rw (h, is_utf8-from_IsUtf8 (c ∷ text) valid) refl

-- a text at fault is refused
pub text_at_fault : (text : List ℕ) (fault : InvalidTag) → tag_fault text ≡ Some fault → false ≡
    (length text == 0) → Err UnknownValue ≡ tag_named text
unfolding tag_named
text_at_fault [] fault h some = absurd (true≢false (sym some))
text_at_fault (c ∷ text) fault h some = rw h refl

not_utf8 : (b : Bool) (text : List ℕ) → is_utf8 text ≡ b → (IsUtf8 text → ⊥) → b ≡ false
not_utf8 true text e invalid = absurd (invalid (IsUtf8-from_is_utf8 text e))
not_utf8 false text e invalid = refl

and_false : (a b : Bool) → b ≡ false → a && b ≡ false
and_false true b e = e
and_false false b e = refl

-- so are bytes that are no text
pub no_utf8 : (text : List ℕ) → (IsUtf8 text → ⊥) → false ≡ (length text == 0) → Err UnknownValue ≡ tag_named text
unfolding tag_named
no_utf8 [] invalid some = absurd (true≢false (sym some))
no_utf8 (c ∷ text) invalid some =
    let bad : is_utf8 (c ∷ text) ≡ false = not_utf8 (is_utf8 (c ∷ text)) (c ∷ text) refl invalid in
    rw (and_false (is_none (tag_fault (c ∷ text))) (is_utf8 (c ∷ text)) bad) refl

-- so many bytes that stand first are so many
pub taken_len : (n : ℕ) (bytes text rest : List ℕ) → bytes_at n bytes ≡ Ok (text, rest) → length text ≡ n
taken_len n bytes text rest h = elim (cases_lt (length bytes) n) [
  | inl lt ↦ absurd (let none = ap or_end (first-short n (take n) bytes lt) in cc)
  | inr le ↦ let some = ap or_end (first-enough n (take n) bytes le) in
      let same = ok_same (text, rest) (take n bytes, drop n bytes) (sym h ∙ some) in
      ap (λ (p : List ℕ × List ℕ). length p.0) same ∙ length-take-le n bytes le
]

short_text : (a b : Bool) (x y : InvalidTag) (r : Option InvalidTag) →
    cond a (Some x) (cond b (Some y) r) ≡ None → b ≡ false
short_text true b x y r e = absurd cc
short_text false true x y r e = absurd cc
short_text false false x y r e = refl

-- a tag has at most 32 bytes
pub tag_is_short : (text : List ℕ) → tag_fault text ≡ None → length text ≤ 32
tag_is_short text h =
    let small = short_text (length text == 0) (nat_lt 32 (length text)) Empty
    (TooLong (length text)) (fault_of_chars (chars text)) h in
    grind (arith, nat_tests)

whole : (text : List ℕ) (most : ℕ) → length text ≤ most → front text most ≡ text
unfolding front
whole text most h = take_all most text h

-- how long a tag is as bytes
pub tag_bytes_len : (text : List ℕ) → length text ≤ 32 → length (varlen_text text) ≡
    length (varlen (length text)) + length text
tag_bytes_len text h =
    let same = whole text (2 ^ 32 - 1) (omega arith) in
    rw same (length-append (varlen (length text)) text)

intervals_len : (intervals : List GnoInterval) → length (flat_map interval_bytes intervals) ≡ 16 * length intervals
unfolding interval_bytes
intervals_len [] = refl
intervals_len (interval ∷ intervals) =
    omega (
      arith,
      intervals_len intervals,
      length-append (interval_bytes interval) (flat_map interval_bytes intervals),
    )

-- how long a set is as bytes
pub sid_bytes_len : (tagged : Bool) (sid : SidParts) → length (sid_bytes tagged sid) ≡
    length sid.uuid + 8 + length (tag_bytes tagged sid.tag) + 16 * length sid.intervals
unfolding sid_bytes
sid_bytes_len tagged sid =
    let intervals = flat_map interval_bytes sid.intervals in
    let counted = little_bytes 8 (length sid.intervals) ++ intervals in
    let tag = tag_bytes tagged sid.tag in
    omega (arith, intervals_len sid.intervals, length-append sid.uuid (tag ++ counted), length-append tag counted)

-- all sets, as a loop goes over them
pub all_sids : (written : SidParts → List ℕ) (sids : List Sid) (i : ℕ) → length sids ≤ i →
    flat_map (λ sid. written (sid_view sid)) (take i sids) ≡ flat_map written (map sid_view sids)
all_sids written sids i h = rw (take_all i sids h) (sym (flat_map-map written sid_view sids))

-- how long a block is
pub block_len : (sids : List SidParts) (tagged : Bool) (sum len : ℕ) → tagged ≡ any_tag sids → sum ≡
    min (length (flat_map (sid_bytes tagged) sids)) (2 ^ 32 - 1)
    → len ≡ min (sum + 8) (2 ^ 32 - 1) → len ≡ min (length (block_bytes sids)) (2 ^ 32 - 1)
unfolding block_bytes
block_len sids tagged sum len same s l =
    let first = little_bytes 8 (block_number (any_tag sids) (length sids)) in
    let total : sum ≡ min (length (flat_map (sid_bytes (any_tag sids)) sids)) (2 ^ 32 - 1) = rw same at s in
    omega (arith, length-append first (flat_map (sid_bytes (any_tag sids)) sids))
