-- The fields of a text, and the tag at their front.
use Rattle.std.proofs.Common.{◌≡◌, ℕ, ◌<◌, true, false, true≢false, List, [], ◌∷◌, ◌++◌, length, Option, Some, None, Ok}
use Rattle.std.proofs.Common.{Err, refl, sym, ◌∙◌, ap, arith, get_or, not, Bor, MatchOption, ◌==◌}
use Rattle.std.specs.List.{after_first, before_first, onto_first, position_or_len}
use Rattle.std.proofs.lemmas.Bool.Decides.{nat_tests}
use Rattle.std.proofs.lemmas.List.Splits.{length-slice_split, slice_split_first, slice_split_none, slice_split-cons_no}
use Rattle.std.proofs.lemmas.List.Sums.{fails_before_first, prefix_len_stops, split_at_first}
use Rattle.mysql_replication.specs.Tags.{is_digit, tag_fault}
use Rattle.mysql_replication.specs.Sids.{begins_with_digit, fields_of, tag_and_intervals, tag_before}
use Rattle.mysql_replication.specs.declared.tag.InvalidTag.{InvalidTag}
use Rattle.mysql_replication.specs.declared.error.SidError.TheVariants.{BadTag}

-- A text has a field.
pub fields_some : (text : List ℕ) → 0 < length (fields_of text)
fields_some text = omega (arith, length-slice_split (λ (c : ℕ). c == 58) text)

-- A text without a colon is its own field.
pub fields_without_colon : (text : List ℕ) → position_or_len (λ (c : ℕ). c == 58) text ≡
    length text → fields_of text ≡ text ∷ []
fields_without_colon text e =
    slice_split_none (λ (c : ℕ). c == 58) text
    (λ k d within. fails_before_first (λ (c : ℕ). c == 58) text k d (omega arith))

digit_is_no_colon : (c : ℕ) → is_digit c ≡ true → (c == 58) ≡ false
digit_is_no_colon c h = grind (arith, nat_tests)

digit_ahead : (c : ℕ) (fields : List (List ℕ)) → is_digit c ≡ true →
    tag_and_intervals (onto_first c fields) ≡ Ok (None, onto_first c fields)
digit_ahead c [] h = rw h refl
digit_ahead c (field ∷ fields) h = rw h refl

-- Where a text begins with a digit, all of its fields are intervals.
pub fields_after_digit : (text : List ℕ) → begins_with_digit text ≡ true →
    tag_and_intervals (fields_of text) ≡ Ok (None, fields_of text)
fields_after_digit [] h = absurd (true≢false (sym h))
fields_after_digit (c ∷ text) h =
    rw (slice_split-cons_no (λ (b : ℕ). b == 58) c text (digit_is_no_colon c h)) (digit_ahead c (fields_of text) h)

-- Where it doesn't and has one, a tag stands before it.
pub fields_before_colon : (text front other : List ℕ) (fields : List (List ℕ)) →
    begins_with_digit text ≡ false → text ≡ front ++ 58 ∷ other
    → 0 < length fields → tag_and_intervals (front ∷ fields) ≡ tag_before front fields
fields_before_colon text front other [] h splits some = absurd (omega arith)
fields_before_colon text [] other (field ∷ fields) h splits some = refl
fields_before_colon text (c ∷ front) other (field ∷ fields) h splits some =
    let e : is_digit c ≡ false = rw splits at h in
    rw e refl

pub tag_before_some : (front : List ℕ) (fields : List (List ℕ)) → 0 < length fields →
    tag_fault front ≡ None → tag_before front fields ≡ Ok (Some front, fields)
tag_before_some front [] some h = absurd (omega arith)
tag_before_some front (field ∷ fields) some h = rw h refl

pub tag_before_none : (front : List ℕ) (fields : List (List ℕ)) (fault : InvalidTag) →
    0 < length fields → tag_fault front ≡ Some fault → tag_before front fields ≡ Err BadTag
tag_before_none front [] fault some h = absurd (omega arith)
tag_before_none front (field ∷ fields) fault some h = rw h refl

is_colon : (c : ℕ) → not (c == 58) ≡ false → c ≡ 58
is_colon c h = grind (arith, nat_tests)

pub colon_at : (text : List ℕ) → position_or_len (λ (c : ℕ). c == 58) text < length text →
    get_or text (position_or_len (λ (c : ℕ). c == 58) text) 0 ≡ 58
colon_at text within =
    let stops = prefix_len_stops (λ (c : ℕ). not (c == 58)) text 0 within in
    is_colon _ stops

-- The two parts around the first colon are the first field and the text of the others.
pub around_colon_is : (text : List ℕ) (r : Option (Bor (List ℕ) × Bor (List ℕ)))
    → MatchOption r (position_or_len (λ (c : ℕ). c == 58) text ≡
    length text) (λ x. (x.0.now ≡ before_first (λ (c : ℕ). c == 58) text) ×
    (x.1.now ≡ after_first (λ (c : ℕ). c == 58) text) ×
    (position_or_len (λ (c : ℕ). c == 58) text < length text))
    → MatchOption r (fields_of text ≡ text ∷
    []) (λ x. (fields_of text ≡ x.0.now ∷ fields_of x.1.now) × (text ≡ x.0.now ++ 58 ∷ x.1.now))
around_colon_is text None e = fields_without_colon text e
around_colon_is text (Some x) e =
    let within : position_or_len (λ (c : ℕ). c == 58) text < length text = e.2 in
    let at_colon : get_or text (position_or_len (λ (c : ℕ). c == 58) text) 0 ≡ 58 = colon_at text within in (
      slice_split_first (λ (c : ℕ). c == 58) text 0 within ∙ rw (e.0, e.1) refl,
      split_at_first (λ (c : ℕ). c == 58) text 0 within ∙ rw (e.0, e.1, at_colon) refl,
    )

-- A tag is read before the colon where the text begins with no digit.
pub tag_read : (text front other tag : List ℕ) → begins_with_digit text ≡ false → text ≡ front ++
    58 ∷ other → fields_of text ≡ front ∷ fields_of other
    → tag ≡ front → tag_fault tag ≡ None → tag_and_intervals (fields_of text) ≡ Ok (Some tag, fields_of other)
tag_read text front other tag h splits cut same valid =
    ap tag_and_intervals cut ∙ fields_before_colon text front other (fields_of other) h splits (fields_some other)
    ∙ tag_before_some front (fields_of other) (fields_some other) (rw same at valid) ∙ rw same refl

pub tag_refused : (text front other : List ℕ) (fault : InvalidTag) → begins_with_digit text ≡
    false → text ≡ front ++ 58 ∷ other
    → fields_of text ≡ front ∷ fields_of other → tag_fault front ≡ Some fault →
    tag_and_intervals (fields_of text) ≡ Err BadTag
tag_refused text front other fault h splits cut invalid =
    ap tag_and_intervals cut ∙ fields_before_colon text front other (fields_of other) h splits (fields_some other)
    ∙ tag_before_none front (fields_of other) fault (fields_some other) invalid
