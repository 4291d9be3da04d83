-- Rows that one request holds.
use Rattle.std.proofs.Common.{◌≡◌, ℕ, ◌-◌, ◌+◌, ◌*◌, ◌<◌, ◌≤◌, List, [], ◌∷◌, ◌++◌, length, take, get_or, below_more}
use Rattle.std.proofs.Common.{None, refl, sym, ◌∙◌, ap, arith, length-append}
use Rattle.std.proofs.lemmas.List.{get_or_append_left, take-append-le, take_at}
use Rattle.std.proofs.lemmas.List.Sums.{sum_by-cons}
use Rattle.std.proofs.Math.Seq.{get_or-append_seam}
use Rattle.mysql_bulk_builder.specs.Causes.{is_of_other_kind, place_where}
use Rattle.mysql_bulk_builder.specs.Cut.{Row, row_size, rows_size}
use Rattle.mysql_bulk_builder.specs.KindLaws.{OneMoreMixesNone, WholeHasNoneTooLarge}
use Rattle.mysql_bulk_builder.specs.TypedCut.{Part, Typed}
use Rattle.mysql_bulk_builder.specs.TypedCutLaws.{WholeIsTight}
use Rattle.mysql_bulk_builder.proofs.LongestPart.{one_row}
use Rattle.mysql_bulk_builder.proofs.MixedKinds.{none_mixed}
use Rattle.mysql_bulk_builder.proofs.OneKindLemmas.{none_before}
use Rattle.mysql_bulk_builder.proofs.Sizes.{sum_within}
use Rattle.mysql_bulk_builder.proofs.TooLarge.{none_past}

-- the part that takes all rows is the tight cut where it fits
pub whole_is_tight : WholeIsTight
whole_is_tight room columns rows some fits =
    let whole : Part = record { typing = Typed; count = length rows } in
    record {
      is_cut = ((some, tt), omega (arith, sum_by-cons (λ (p : Part). p.count) whole []));
      parts_tight = (
        record {
          fits = fits;
          longest = λ typing count more within fit. omega (arith, more, within);
          typed_at_need = λ typed fit. omega (arith, fit.0);
        },
        tt,
      );
    }

-- no row is too large for one
pub none_too_large_within : WholeHasNoneTooLarge
none_too_large_within room columns rows fits =
    none_past room columns (room - (7 + 2 * columns)) rows (omega (arith, fits)) (λ k lt.
    let within : rows_size rows k 1 ≤ rows_size rows 0 (length rows) =
    sum_within row_size rows 0 (length rows) k 1 (omega arith) (omega (arith, lt)) in
    omega (arith, within, one_row rows k lt, fits))

-- no row mixes kinds, and neither does one more
pub one_more_mixes_none : OneMoreMixesNone
one_more_mixes_none rows row none here =
    let all : List Row = rows ++ row ∷ [] in
    let before : (j : ℕ) → j < length rows → place_where (is_of_other_kind (take j all)) (get_or all j []) ≡ None =
    λ j less. ap (λ (l : List Row). place_where (is_of_other_kind l) (get_or all j []))
    (take-append-le j rows (row ∷ []) (omega (arith, less)))
    ∙ ap (λ (r : Row). place_where (is_of_other_kind (take j rows)) r)
    (get_or_append_left rows (row ∷ []) [] j less) ∙ none_before rows none j less in
    let last : place_where (is_of_other_kind (take (length rows) all)) (get_or all (length rows) []) ≡ None =
    ap (λ (l : List Row). place_where (is_of_other_kind l) (get_or all (length rows) []))
    (take_at rows (row ∷ []) (length rows) refl)
    ∙ ap (λ (r : Row). place_where (is_of_other_kind rows) r) (get_or-append_seam rows row [] []) ∙ here in
    sym (none_mixed all (λ k lt. below_more
    (λ j. place_where (is_of_other_kind (take j all)) (get_or all j []) ≡ None) (length rows)
    before last k (omega (arith, lt, length-append rows (row ∷ [])))))
