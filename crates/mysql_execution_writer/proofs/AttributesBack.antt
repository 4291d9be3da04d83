-- Attributes of a query that were written are read again.
use Rattle.std.proofs.Common.{◌≡◌, ℕ, true, List, [], ◌∷◌, ◌++◌, length, Some, refl, sym, ◌∙◌, ap, append_assoc, arith}
use Rattle.std.proofs.lemmas.List.{length-map}
use Rattle.mysql_buf.specs.TextLaws.{lenenc_int-reads_back}
use Rattle.mysql_buf.specs.Writing.{lenenc_int}
use Rattle.mysql_field_lists.specs.NullBitmap.{is_null_at}
use Rattle.mysql_cells.specs.TypedCells.{TypedCellsReadBack}
use Rattle.mysql_stmt.specs.Executions.{null_bitmap}
use Rattle.mysql_stmt.specs.Statements.{BitmapsSayWhichAreNull}
use Rattle.mysql_executions.specs.declared.types.Attribute.{Attribute}
use Rattle.mysql_executions.specs.Attributes.{query_attributes_at}
use Rattle.mysql_executions.specs.Executions.{binding_at}
use Rattle.mysql_executions.specs.Fields.{each_at}
use Rattle.mysql_executions.specs.Types.{types_read}
use Rattle.mysql_execution_writer.specs.Cells.{are_attributes, attributes_bytes, types_bytes}
use Rattle.mysql_execution_writer.specs.Laws.{AttributesReadBack, FitsAttributes}
use Rattle.mysql_execution_writer.specs.Written.{attributes_as_read, binding_bytes, query_attributes_bytes}
use Rattle.mysql_execution_writer.specs.Written.{types_of_attributes, values_of}
use Rattle.mysql_execution_writer.proofs.ExecutionsBack.{binding_back}
use Rattle.mysql_execution_writer.proofs.TypesBack.{all_types_back}
use Rattle.mysql_execution_writer.proofs.ValuesBack.{SayNulls, attributes_back, names_fit}

module _ (law : BitmapsSayWhichAreNull) (back : TypedCellsReadBack) where
  same_length : (attributes : List Attribute) → length attributes ≡ length (values_of attributes)
  same_length attributes = sym (length-map attributes (λ a. a.value))

  says : (attributes : List Attribute) → SayNulls (null_bitmap (values_of attributes)) 0 (values_of attributes)
  says attributes k lt = ap (λ n. is_null_at 0 (null_bitmap (values_of attributes)) n)
      (omega arith) ∙ law.1 (values_of attributes) k lt

  regrouped : (a b d e f text : List ℕ) → (a ++ (b ++ (d ++ (e ++ f)))) ++ text ≡ a ++ (b ++ (d ++ (e ++ (f ++ text))))
  regrouped a b d e f text = simp append_assoc

  none_back : (text : List ℕ) → query_attributes_at (query_attributes_bytes [] ++ text) ≡
      Some (attributes_as_read [], text)
  unfolding query_attributes_at query_attributes_bytes binding_at types_read each_at
  none_back text = refl

  pub some_back : (a : Attribute) (attributes : List Attribute) (text : List ℕ) →
      FitsAttributes (a ∷ attributes) → are_attributes true (a ∷ attributes) ≡ true
      → query_attributes_at (query_attributes_bytes (a ∷ attributes) ++ text) ≡
      Some (attributes_as_read (a ∷ attributes), text)
  unfolding query_attributes_at query_attributes_bytes
  some_back a attributes text fits can =
      let all = a ∷ attributes in
      let n = length (a ∷ attributes) in
      let types = types_bytes true (types_of_attributes all) in
      let bits = binding_bytes (values_of all) true in
      let values = attributes_bytes all ++ text in
      ap query_attributes_at (regrouped (lenenc_int n) (lenenc_int 1) bits types (attributes_bytes all) text)
      ∙ rw (
        lenenc_int-reads_back n (lenenc_int 1 ++ (bits ++ (types ++ values))) fits.count,
        same_length all,
        binding_back law (values_of all) true (types ++
            values) (λ zero_is. absurd (omega (arith, zero_is, length-map all (λ a. a.value)))),
        all_types_back true (length (values_of all)) (types_of_attributes all) values
            (sym (same_length all) ∙ sym (length-map all (λ a. a.bound_type))) fits.names
            (names_fit true all can),
      )
      (attributes_back back true (null_bitmap (values_of all)) 0 all text fits.values (says all) can)

  pub read_back : AttributesReadBack
  read_back [] text fits can = none_back text
  read_back (a ∷ attributes) text fits can = some_back a attributes text fits can
