-- Filling a builder with the rows given.
use Rattle.std.proofs.Common.{◌≡◌, ℕ, ◌+◌, List, [], ◌∷◌, ◌++◌, length, map, Option, Some, Result, Ok, refl, sym, ◌∙◌}
use Rattle.std.proofs.Common.{ap}
use Rattle.std.proofs.lemmas.List.{append_assoc, map-append}
use Rattle.mysql_values.specs.declared.params.ParamsError.{ParamsError}
use Rattle.mysql_bulk_builder.specs.Builder.{Builder, with_row}
use Rattle.mysql_bulk_builder.specs.Cut.{Row}
use Rattle.mysql_bulk_builder.specs.Given.{Giving}
use Rattle.mysql_bulk_builder.specs.Iteration.{arity_after, with_rows, Took}

arity_push : (arity : Option ℕ) (rows : List Row) (row : Row) → arity_after arity (rows ++ row ∷ []) ≡ Some (length row)
arity_push arity [] row = refl
arity_push arity (first ∷ rows) row = arity_push (Some (length first)) rows row

with_rows_push : (builder : Builder) (rows : List Row) (row : Row) →
    with_row (with_rows builder rows) row ≡ with_rows builder (rows ++ row ∷ [])
with_rows_push builder rows row =
    ap (λ (rs : List Row). let b : Builder =
    record builder { arity = Some (length row); rows = rs } in
    b) (append_assoc builder.rows rows (row ∷ [])) ∙
    ap (λ (a : Option ℕ). let b : Builder =
    record builder { arity = a; rows = builder.rows ++ (rows ++ row ∷ []) } in
    b) (sym (arity_push builder.arity rows row))

pub took_more : (first : Builder) (given : Giving) (old new : Builder) (row : Row) (rest : Giving) →
    Took first given old (Ok row ∷ rest) → new ≡ with_row old row → Took first given new rest
took_more first given old new row rest t e = (
  t.0 ++ row ∷ [],
  t.1 ∙ sym (ap (λ (g : Giving). g ++
      rest) (map-append (λ (r : Row). let o : Result Row ParamsError = Ok r in o) t.0 (row ∷ [])) ∙
      append_assoc (map (λ (r : Row). let o : Result Row ParamsError = Ok r in o) t.0) (Ok row ∷
      []) rest),
  e ∙ ap (λ (b : Builder). with_row b row) t.2 ∙ with_rows_push first t.0 row,
)
