-- A set that a text writes is read from its own text.
use Rattle.std.proofs.Common.{◌≡◌, ℕ, ◌+◌, ◌-◌, ◌<◌, ◌^◌, Bool, true, false, true≢false, List, [], ◌∷◌, ◌++◌, length}
use Rattle.std.proofs.Common.{map, Option, Some, None, Ok, refl, sym, ◌∙◌, ap, arith, append_assoc, append-nil, ◌==◌}
use Rattle.std.proofs.Common.{◌||◌, ◌&&◌}
use Rattle.std.specs.Fmt.{decimal}
use Rattle.std.specs.List.{flat_map, list_all}
use Rattle.std.proofs.lemmas.Bool.Decides.{nat_tests}
use Rattle.std.proofs.lemmas.List.Folds.{list_all-append}
use Rattle.std.proofs.lemmas.List.Splits.{slice_split_at, slice_split_none}
use Rattle.uuid.specs.Text.{hyphenated_text, lower}
use Rattle.mysql_replication.specs.Tags.{is_digit}
use Rattle.mysql_replication.specs.Intervals.{interval_text, intervals_of}
use Rattle.mysql_replication.specs.Sids.{begins_with_digit, fields_of, sid_of, sid_text}
use Rattle.mysql_replication.specs.Laws.{ParsedEqualByText, ParsedReadsBack}
use Rattle.mysql_replication.specs.declared.interval.GnoInterval.{GnoInterval}
use Rattle.mysql_replication.proofs.Fields.{fields_after_digit, tag_read}
use Rattle.mysql_replication.proofs.Whole.{sid_read}
use Rattle.mysql_replication.proofs.Parsed.{AllGood, IsGoodTag, ok_same, parsed_is_good}
use Rattle.std.proofs.lemmas.Fmt.{decimal_is_IsNumeral}
use Rattle.mysql_replication.proofs.IntervalTexts.{IsGood, decimal_digits, interval_reads_back}
use Rattle.mysql_replication.proofs.Lacking.{Lacks, lacks_from}
use Rattle.mysql_replication.proofs.TagTexts.{tag_begins_with_no_digit, tag_lacks_colon}
use Rattle.mysql_replication.proofs.UuidTexts.{IsUuid, uuid_lacks_colon, uuid_reads_back}

digit_or_hyphen : ℕ → Bool
digit_or_hyphen c = is_digit c || (c == 45)

digit_or_hyphen_is_no_colon : (c : ℕ) → digit_or_hyphen c ≡ true → (c == 58) ≡ false
unfolding digit_or_hyphen
digit_or_hyphen_is_no_colon c h = grind (arith, nat_tests)

both : (a b : Bool) → (a && b) ≡ true → (a ≡ true) × (b ≡ true)
both true b h = (refl, h)
both false b h = absurd (true≢false (sym h))

with_hyphen : (xs : List ℕ) → list_all digit_or_hyphen xs ≡ true → list_all digit_or_hyphen (45 ∷ xs) ≡ true
unfolding digit_or_hyphen
with_hyphen xs h = h

digits_are : (ds : List ℕ) → list_all is_digit ds ≡ true → list_all digit_or_hyphen ds ≡ true
unfolding digit_or_hyphen
digits_are [] h = refl
digits_are (c ∷ ds) h = let p = both (is_digit c) (list_all is_digit ds) h in rw (p.0, digits_are ds p.1) refl

both_at : (b : Bool) (interval : GnoInterval) → (interval.end == interval.start + 1) ≡ b →
    IsGood interval → list_all digit_or_hyphen (interval_text interval) ≡ true
both_at true interval e good =
    let f = good.fits in
    let u = good.up in
    rw e (digits_are (decimal interval.start) (decimal_digits interval.start (omega arith)))
both_at false interval e good =
    let f = good.fits in
    let u = good.up in
    let first = digits_are (decimal interval.start) (decimal_digits interval.start (omega arith)) in
    let last = digits_are (decimal (interval.end - 1)) (decimal_digits (interval.end - 1) (omega arith)) in
    rw (
      e,
      list_all-append digit_or_hyphen (decimal interval.start) (45 ∷
          decimal (interval.end - 1)),
      first,
    ) (with_hyphen (decimal (interval.end - 1)) last)

interval_lacks_colon : (interval : GnoInterval) → IsGood interval → Lacks 58 (interval_text interval)
interval_lacks_colon interval good =
    lacks_from digit_or_hyphen 58 digit_or_hyphen_is_no_colon (interval_text interval)
    (both_at (interval.end == interval.start + 1) interval refl good)

cut_field : (xs ys : List ℕ) → Lacks 58 xs → fields_of (xs ++ 58 ∷ ys) ≡ xs ∷ fields_of ys
cut_field xs ys lacks = slice_split_at (λ (c : ℕ). c == 58) xs 58 ys lacks refl

last_field : (xs : List ℕ) → Lacks 58 xs → fields_of xs ≡ xs ∷ []
last_field xs lacks = slice_split_none (λ (c : ℕ). c == 58) xs lacks

-- The fields of intervals' texts, with colons between, are these texts.
fields_of_intervals : (interval : GnoInterval) (others : List GnoInterval) → IsGood interval → AllGood others
    → fields_of (interval_text interval ++ flat_map (λ other. 58 ∷ interval_text other) others) ≡
    interval_text interval ∷ map interval_text others
fields_of_intervals interval [] good all =
    ap fields_of (append-nil (interval_text interval)) ∙
    last_field (interval_text interval) (interval_lacks_colon interval good)
fields_of_intervals interval (other ∷ others) good all =
    cut_field (interval_text interval) (interval_text other ++
    flat_map (λ more. 58 ∷ interval_text more) others) (interval_lacks_colon interval good)
    ∙ ap (λ (fields : List (List ℕ)). interval_text interval ∷ fields) (fields_of_intervals other others all.0 all.1)

read_all : (intervals : List GnoInterval) → AllGood intervals →
    intervals_of (map interval_text intervals) ≡ Ok intervals
read_all [] all = refl
read_all (interval ∷ intervals) all = rw (interval_reads_back interval all.0, read_all intervals all.1) refl

starts : (xs rest : List ℕ) → 0 < length xs → list_all is_digit xs ≡ true → begins_with_digit (xs ++ rest) ≡ true
starts [] rest some h = absurd (omega arith)
starts (c ∷ xs) rest some h = (both (is_digit c) (list_all is_digit xs) h).0

first_at : (b : Bool) (interval : GnoInterval) (rest : List ℕ) →
    (interval.end == interval.start + 1) ≡ b → interval.start < 2 ^ 64 →
    begins_with_digit (interval_text interval ++ rest) ≡ true
first_at true interval rest e small =
    rw e (starts (decimal interval.start) rest (decimal_is_IsNumeral interval.start small).0.0
    (decimal_digits interval.start small))
first_at false interval rest e small =
    rw (e, append_assoc (decimal interval.start) (45 ∷ decimal (interval.end - 1)) rest)
    (starts (decimal interval.start) ((45 ∷ decimal (interval.end - 1)) ++
    rest) (decimal_is_IsNumeral interval.start small).0.0 (decimal_digits interval.start small))

first_digit : (interval : GnoInterval) (rest : List ℕ) → IsGood interval →
    begins_with_digit (interval_text interval ++ rest) ≡ true
first_digit interval rest good =
    let f = good.fits in
    let u = good.up in
    first_at (interval.end == interval.start + 1) interval rest refl (omega arith)

no_digit : (tag rest : List ℕ) → begins_with_digit tag ≡ false → begins_with_digit (tag ++ 58 ∷ rest) ≡ false
no_digit [] rest h = refl
no_digit (c ∷ tag) rest h = h

-- A set that a text may write is read from its own text.
good_reads_back : (uuid : List ℕ) (tag : Option (List ℕ)) (intervals : List GnoInterval) →
    IsUuid uuid → IsGoodTag tag → AllGood intervals → 0 < length intervals
    → sid_of (sid_text (record { uuid = uuid; tag = tag; intervals = intervals })) ≡
    Ok (record { uuid = uuid; tag = tag; intervals = intervals })
good_reads_back uuid tag [] is valid all some = absurd (omega arith)
good_reads_back uuid None (interval ∷ intervals) is valid all some =
    let front = hyphenated_text lower uuid in
    let rest = interval_text interval ++ flat_map (λ other. 58 ∷ interval_text other) intervals in
    let text : front ++ [] ++ 58 ∷ rest ≡ front ++ 58 ∷ rest = ap (λ (l : List ℕ). l ++ 58 ∷ rest) (append-nil front) in
    let fields : fields_of rest ≡ interval_text interval ∷ map interval_text intervals =
    fields_of_intervals interval intervals all.0 all.1 in
    ap sid_of text
    ∙ sid_read (front ++ 58 ∷ rest) front rest uuid None (fields_of rest) (interval ∷
    intervals) (cut_field front rest (uuid_lacks_colon uuid)) (uuid_reads_back uuid is)
    (fields_after_digit rest (first_digit interval (flat_map (λ other. 58 ∷ interval_text other) intervals) all.0))
    (ap intervals_of fields ∙ read_all (interval ∷ intervals) all)
good_reads_back uuid (Some tag) (interval ∷ intervals) is valid all some =
    let front = hyphenated_text lower uuid in
    let rest = interval_text interval ++ flat_map (λ other. 58 ∷ interval_text other) intervals in
    let text : front ++ 58 ∷ tag ++ 58 ∷ rest ≡ front ++ 58 ∷ (tag ++ 58 ∷ rest) =
    append_assoc front (58 ∷ tag) (58 ∷ rest) in
    let fields : fields_of rest ≡ interval_text interval ∷ map interval_text intervals =
    fields_of_intervals interval intervals all.0 all.1 in
    ap sid_of text
    ∙ sid_read (front ++ 58 ∷ (tag ++ 58 ∷ rest)) front (tag ++ 58 ∷ rest) uuid (Some tag)
    (fields_of rest) (interval ∷ intervals)
    (cut_field front (tag ++ 58 ∷ rest) (uuid_lacks_colon uuid)) (uuid_reads_back uuid is)
    (tag_read (tag ++ 58 ∷ rest) tag rest tag
    (no_digit tag rest (tag_begins_with_no_digit tag valid.0 valid.1)) refl
    (cut_field tag rest (tag_lacks_colon tag valid.0 valid.1)) refl valid.1)
    (ap intervals_of fields ∙ read_all (interval ∷ intervals) all)

pub parsed_reads_back : ParsedReadsBack
parsed_reads_back text sid valid reads =
    let good = parsed_is_good text sid valid reads in
    good_reads_back sid.uuid sid.tag sid.intervals good.uuid good.tag good.intervals good.some

pub parsed_equal_by_text : ParsedEqualByText
parsed_equal_by_text text other a b valid also reads rereads = (
  λ same. ap sid_text same,
  λ same. ok_same a b (sym (parsed_reads_back text a valid reads) ∙ ap sid_of same ∙
      parsed_reads_back other b also rereads),
)
