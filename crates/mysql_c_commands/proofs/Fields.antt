-- The fields of a text between commas, and the sets that they name, one after another.
use Rattle.std.proofs.Common.{◌≡◌, ℕ, ◌<◌, List, [], ◌∷◌, ◌++◌, length, Option, Some, None, Result, Ok, Err, refl, ◌∙◌}
use Rattle.std.proofs.Common.{ap, arith, length-append, Bor, MatchOption}
use Rattle.std.specs.List.{after_first, before_first, position_or_len}
use Rattle.std.proofs.lemmas.List.Splits.{slice_split_first, slice_split_none}
use Rattle.std.proofs.lemmas.List.Sums.{fails_before_first, split_at_first}
use Rattle.mysql_replication.specs.Sids.{SidParts}
use Rattle.mysql_replication.specs.declared.error.SidError.{SidError}
use Rattle.mysql_c_commands.specs.Gtids.{fields_of, is_comma}

-- A text without a comma is its own field.
fields_without_comma : (text : List ℕ) → position_or_len is_comma text ≡ length text → fields_of text ≡ text ∷ []
fields_without_comma text e =
    slice_split_none is_comma text (λ k d within. fails_before_first is_comma text k d (omega arith))

-- What stands behind the first comma is shorter.
after_comma_shorter : (text : List ℕ) → position_or_len is_comma text < length text →
    length (after_first is_comma text) < length text
after_comma_shorter text within =
    let e = ap length (split_at_first is_comma text 0 within) in
    omega (arith, simp length-append at e)

-- The two parts around the first comma are the first field and the text of the others.
pub around_comma_is : (text : List ℕ) (r : Option (Bor (List ℕ) × Bor (List ℕ)))
    → MatchOption r (position_or_len is_comma text ≡
    length text) (λ x. (x.0.now ≡ before_first is_comma text) ×
    (x.1.now ≡ after_first is_comma text) × (position_or_len is_comma text < length text))
    → MatchOption r (fields_of text ≡ text ∷
    []) (λ x. (fields_of text ≡ x.0.now ∷ fields_of x.1.now) × (length x.1.now < length text))
around_comma_is text None e = fields_without_comma text e
around_comma_is text (Some x) e =
    let within : position_or_len is_comma text < length text = e.2 in (
      slice_split_first is_comma text 0 within ∙ rw (e.0, e.1) refl,
      rw e.1 (after_comma_shorter text within),
    )

-- Sets behind others, unless they are refused.
abbrev pub behind : List SidParts → Result (List SidParts) SidError → Result (List SidParts) SidError
behind sids (Ok others) = Ok (sids ++ others)
behind sids (Err e) = Err e
