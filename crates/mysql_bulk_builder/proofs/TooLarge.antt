-- The first row that fits no typed request.
use Rattle.std.proofs.Common.{◌≡◌, ℕ, ◌+◌, ◌*◌, ◌<◌, ◌≤◌, List, [], ◌∷◌, length, get_or, cond, Option, Some, None}
use Rattle.std.proofs.Common.{Result, Ok, Err, refl, sym, ap, arith}
use Rattle.std.specs.Prelude.{IfOk, IfErr, MatchOption, nat_lt}
use Rattle.std.proofs.lemmas.Bool.{lt-ltb, le-ltb}
use Rattle.mysql_bulk_builder.specs.Cut.{Row, row_size}
use Rattle.mysql_bulk_builder.specs.RowSizes.{EachIsWithin, IsPast}
use Rattle.mysql_bulk_builder.specs.TypedRequests.{HasNoTypedCut}
use Rattle.mysql_bulk_builder.specs.declared.search.BulkCutError.{BulkCutError}
use Rattle.mysql_bulk_builder.specs.declared.search.BulkCutError.TheVariants.{RowTooLarge, Memory}
use Rattle.mysql_bulk_builder.specs.Causes.{row_too_large}
use Rattle.mysql_bulk_builder.proofs.FirstAt.{first_at_none, first_at_some}

-- by the room that a row has
pub too_large_from_past : (room columns left n : ℕ) (rows : List Row) (o : Option ℕ) →
    left + (7 + 2 * columns) ≡ room → n ≡ length rows →
    MatchOption o ((k : ℕ) → k < n → row_size (get_or rows k []) ≤ left) (λ k. (k < n) ×
    (left < row_size (get_or rows k [])) ×
    ((j : ℕ) → j < k → row_size (get_or rows j []) ≤ left)) →
    o ≡ row_too_large room columns rows
too_large_from_past room columns left n rows None e same all =
    sym (first_at_none (λ k row. cond (nat_lt room (7 + 2 * columns + row_size row)) (Some k) None) rows [] (λ k lt.
    ap (λ b. cond b (Some k) None)
    (le-ltb room (7 + 2 * columns + row_size (get_or rows k []))
    (omega (arith, e, all k (omega (arith, lt, same)))))))
too_large_from_past room columns left n rows (Some k) e same found =
    sym (first_at_some (λ k row. cond (nat_lt room (7 + 2 * columns + row_size row)) (Some k) None)
    rows [] k k (omega (arith, found.0, same))
    (ap (λ b. cond b (Some k) None)
    (lt-ltb room (7 + 2 * columns + row_size (get_or rows k [])) (omega (arith, e, found.1))))
    (λ j less. ap (λ b. cond b (Some j) None)
    (le-ltb room (7 + 2 * columns + row_size (get_or rows j []))
    (omega (arith, e, found.2 j less)))))

-- types that leave no room
pub first_of_some : (room columns : ℕ) (rows : List Row) → room < 7 + 2 * columns →
    0 < length rows → Some 0 ≡ row_too_large room columns rows
first_of_some room columns [] past some = absurd (omega arith)
first_of_some room columns (row ∷ rows) past some =
    sym (first_at_some (λ k row. cond (nat_lt room (7 + 2 * columns + row_size row)) (Some k) None)
    (row ∷ rows) [] 0 0 (omega arith)
    (ap (λ b. cond b (Some 0) None)
    (lt-ltb room (7 + 2 * columns + row_size row) (omega (arith, past))))
    (λ j less. absurd (omega arith)))

-- each row has the room that one has
pub none_past : (room columns left : ℕ) (rows : List Row) → left + (7 + 2 * columns) ≡ room →
    EachIsWithin left rows → row_too_large room columns rows ≡ None
none_past room columns left rows e each =
    sym (too_large_from_past room columns left (length rows) rows None e refl each)

-- the first that has not
pub no_cut : (room columns left : ℕ) (rows : List Row) (error : BulkCutError) →
    left + (7 + 2 * columns) ≡ room → IsPast left rows error → HasNoTypedCut room columns rows error
no_cut room columns left rows (RowTooLarge k) e past =
    sym (too_large_from_past room columns left (length rows) rows (Some k) e refl past)
no_cut room columns left rows Memory e past = tt

module _ (room columns left : ℕ) (rows : List Row) (e : left + (7 + 2 * columns) ≡ room) where
  -- the same of the answers
  pub none_by : {X : Type 0} (P : X → Type 0) (answer : Result X BulkCutError) →
      IfOk answer (λ x. P x × EachIsWithin left rows) →
      IfOk answer (λ x. row_too_large room columns rows ≡ None)
  none_by P (Ok x) p = none_past room columns left rows e p.1
  none_by P (Err error) p = tt

  pub refused_by : {X : Type 0} (answer : Result X BulkCutError) → IfErr answer (IsPast left rows) →
      IfErr answer (HasNoTypedCut room columns rows)
  refused_by (Ok x) p = tt
  refused_by (Err error) p = no_cut room columns left rows error e p
