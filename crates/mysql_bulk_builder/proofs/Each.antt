-- Reading something for each column, as a loop does.
use Rattle.std.proofs.Common.{◌≡◌, ℕ, zero, suc, ◌+◌, ◌≤◌, ◌<◌, List, [], ◌∷◌, ◌++◌, length, get_or, drop, Ok, Err}
use Rattle.std.proofs.Common.{refl, sym, ap, ◌∙◌, append_assoc, append-nil, arith}
use Rattle.std.proofs.lemmas.List.{drop_more}
use Rattle.mysql_fields.specs.declared.error.WireError.{WireError}
use Rattle.mysql_fields.specs.Wire.{Reading, Refuses, ◌>>=◌}
use Rattle.mysql_field_lists.specs.ElementLaws.{with_front}
use Rattle.mysql_bulk_builder.specs.Reading.{each_at}

regroup : {Y : Type 0} (front : List Y) (y : Y) (read : Reading (List Y)) →
    with_front front (read >>= λ x. Ok (y ∷ x.0, x.1)) ≡ with_front (front ++ y ∷ []) read
regroup {Y = Y} front y (Ok x) = ap (λ (ys : List Y). Ok (ys, x.1)) (simp append_assoc)
regroup front y (Err f) = refl

module _ {C Y : Type 0} (read_at : C → List ℕ → Reading Y) (front : List Y) (columns : List C)
    (i : ℕ) (bytes : List ℕ) (total : Reading (List Y)) where
  pub goes_on : (column other : C) (y : Y) (after : List ℕ) → i < length columns → column ≡
      get_or columns i other → read_at column bytes ≡ Ok (y, after)
      → with_front front (each_at read_at (drop i columns) bytes) ≡ total →
      with_front (front ++ y ∷ []) (each_at read_at (drop (i + 1) columns) after) ≡ total
  unfolding each_at
  goes_on column other y after inside here h so_far =
      let one : with_front front (each_at read_at (drop i columns) bytes) ≡
      with_front (front ++ y ∷ []) (each_at read_at (drop (i + 1) columns) after) =
      rw (
        drop_more columns i other inside,
        sym here,
        h,
      ) (regroup front y (each_at read_at (drop (i + 1) columns) after)) in
      sym one ∙ so_far

  pub ends : (e : WireError) (column other : C) → i < length columns → column ≡
      get_or columns i other → Refuses e (read_at column bytes) →
      with_front front (each_at read_at (drop i columns) bytes) ≡ total → Refuses e total
  unfolding each_at
  ends e column other inside here h so_far ne =
      let one : with_front front (each_at read_at (drop i columns) bytes) ≡ Err e =
      rw (drop_more columns i other inside, sym here, h ne) refl in
      sym so_far ∙ one

none_left : {C : Type 0} (columns : List C) (i : ℕ) → length columns ≤ i → drop i columns ≡ []
none_left [] zero h = refl
none_left [] (suc i) h = refl
none_left (column ∷ columns) zero h = absurd (omega arith)
none_left (column ∷ columns) (suc i) h = none_left columns i (omega arith)

pub is_done : {C Y : Type 0} (read_at : C → List ℕ → Reading Y) (front : List Y) (columns : List C)
    (i : ℕ) (bytes : List ℕ) (total : Reading (List Y)) → length columns ≤ i
    → with_front front (each_at read_at (drop i columns) bytes) ≡ total → total ≡ Ok (front, bytes)
unfolding each_at
is_done {Y = Y} read_at front columns i bytes total over so_far =
    let one : with_front front (each_at read_at (drop i columns) bytes) ≡ Ok (front, bytes) =
    rw (none_left columns i over) (ap (λ (ys : List Y). Ok (ys, bytes)) (append-nil front)) in
    sym so_far ∙ one
