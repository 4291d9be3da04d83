-- Loops over the rows of a bulk.
use Rattle.std.proofs.Common.{◌≡◌, ℕ, ◌+◌, ◌<◌, Bool, true, false, List, [], ◌∷◌, ◌++◌, length, get_or, drop, Option}
use Rattle.std.proofs.Common.{Some, None, refl, sym, ap, ◌∙◌, append_assoc, append-nil}
use Rattle.std.specs.Prelude.{◌&&◌, IfNone, IfSome, is_some, not, unwrap_or}
use Rattle.std.specs.Global.{Vec}
use Rattle.mysql_executions.specs.declared.bulk.BulkValue.{BulkValue}
use Rattle.mysql_executions.specs.declared.types.ParameterType.{ParameterType}
use Rattle.mysql_executions.specs.Views.{rows_of}
use Rattle.mysql_execution_writer.specs.Bulks.{bulk_value_bytes, is_row, row_bytes}
use Rattle.mysql_execution_writer.proofs.Loops.{at_place, none_of, some_of}

module _ (types : List ParameterType) (values : List BulkValue) where
  pub row_goes_on : (out new total : List ℕ) (t : ParameterType) (value : BulkValue)
      (later : List ParameterType) (others : List BulkValue) → types ≡ t ∷ later → values ≡ value ∷
      others
      → new ≡ out ++ unwrap_or (bulk_value_bytes t value) []
      → out ++ row_bytes types values ≡ total → new ++ row_bytes later others ≡ total
  unfolding row_bytes
  row_goes_on out new total t value later others e h put so_far =
      let own = unwrap_or (bulk_value_bytes t value) [] in
      let one : out ++ row_bytes types values ≡ out ++ (own ++ row_bytes later others) = rw (e, h) refl in
      ap (λ (l : List ℕ). l ++ row_bytes later others) put ∙
      append_assoc out own (row_bytes later others) ∙ sym one ∙ so_far

  pub row_ends : (out total : List ℕ) → types ≡ [] → out ++ row_bytes types values ≡ total → out ≡ total
  unfolding row_bytes
  row_ends out total none so_far =
      let one : out ++ row_bytes types values ≡ out = rw none (append-nil out) in
      sym one ∙ so_far

  pub row_done : (out total : List ℕ) → values ≡ [] → out ++ row_bytes types values ≡ total → out ≡ total
  unfolding row_bytes
  row_done out total none so_far = by types so_far
    where
      by : (ts : List ParameterType) → out ++ row_bytes ts values ≡ total → out ≡ total
      by [] h = sym (append-nil out) ∙ h
      by (t ∷ ts) h =
          let one : out ++ row_bytes (t ∷ ts) values ≡ out = rw none (append-nil out) in
          sym one ∙ h

  pub row_fits_on : (total : Bool) (t : ParameterType) (value : BulkValue)
      (later : List ParameterType) (others : List BulkValue) → types ≡ t ∷ later → values ≡ value ∷
      others
      → is_some (bulk_value_bytes t value) ≡ true → is_row types values ≡ total → is_row later others ≡ total
  unfolding is_row
  row_fits_on total t value later others e h fits so_far =
      let one : is_row types values ≡ is_row later others = rw (e, h) (ap (λ b. b && is_row later others) fits) in
      sym one ∙ so_far

  pub row_fails : (total : Bool) (t : ParameterType) (value : BulkValue)
      (later : List ParameterType) (others : List BulkValue) → types ≡ t ∷ later → values ≡ value ∷
      others
      → is_some (bulk_value_bytes t value) ≡ false → is_row types values ≡ total → false ≡ total
  unfolding is_row
  row_fails total t value later others e h fits so_far =
      let one : is_row types values ≡ false = rw (e, h) (ap (λ b. b && is_row later others) fits) in
      sym one ∙ so_far

  pub row_lacks : (total : Bool) (value : BulkValue) (others : List BulkValue) → types ≡ [] →
      values ≡ value ∷ others → is_row types values ≡ total → false ≡ total
  unfolding is_row
  row_lacks total value others none h so_far =
      let one : is_row types values ≡ false = rw (none, h) refl in
      sym one ∙ so_far

  pub row_fit_at_end : (later : List ParameterType) (total none : Bool)
      (found : Option ParameterType) → is_some found ≡ not none
      → IfSome found (λ t. types ≡ t ∷ later) → IfNone found (types ≡ []) → values ≡ [] →
      is_row types values ≡ total → none ≡ total
  unfolding is_row
  row_fit_at_end later total none (Some t) is some nothing all so_far =
      let one : is_row types values ≡ false = rw (some, all) refl in
      none_of none is ∙ sym one ∙ so_far
  row_fit_at_end later total none None is some nothing all so_far =
      let one : is_row types values ≡ true = rw (nothing, all) refl in
      some_of none is ∙ sym one ∙ so_far

-- ---- rows

module _ (types : List ParameterType) (rows : List (Vec BulkValue)) (i : ℕ) (row : Vec BulkValue)
    (lt : i < length rows) (is : row ≡ get_or rows i row) where
  here : rows_of (drop i rows) ≡ row.items ∷ rows_of (drop (i + 1) rows)
  here = ap rows_of (at_place rows i row lt is)
