-- What was written of a column is read back.
use Rattle.std.proofs.Common.{◌≡◌, ℕ, ◌<◌, List, [], ◌∷◌, ◌++◌, length, replicate, Ok, refl, ap, ◌∙◌, append_assoc}
use Rattle.std.proofs.Common.{lit<}
use Rattle.std.specs.List.{concat}
use Rattle.byteorder.specs.Endian.{little_bytes}
use Rattle.mysql_buf.specs.Writing.{lenenc_str}
use Rattle.mysql_const.specs.ColumnTypes.{column_type_named, column_type_number}
use Rattle.mysql_const.specs.NamedLaws.{column_type-names_back}
use Rattle.mysql_const.specs.declared.column_type.ColumnType.{ColumnType}
use Rattle.mysql_fields.specs.Forms.{fixed_number_at}
use Rattle.mysql_fields.specs.Laws.{bytes_at-back, fixed_number_at-back}
use Rattle.mysql_fields.specs.TextLaws.{lenenc_text_at-back}
use Rattle.mysql_field_constants.specs.TypeNumberLaws.{type_number-bound}
use Rattle.mysql_field_constants.specs.ConstantLaws.{constant_at-back, named_at-back, text_constant_at-back}
use Rattle.mysql_field_constants.specs.Constants.{named_at}
use Rattle.mysql_columns.specs.Columns.{ColumnDefinition, ColumnFields, IsColumn, catalog, column, column_at}
use Rattle.mysql_columns.specs.Columns.{column_fields, column_fields_at, column_names, column_names_at, fields_in}
use Rattle.mysql_columns.specs.Columns.{names_in}

-- fields, and what follows them
abbrev pub before : List (List ℕ) → List ℕ → List ℕ
before [] rest = rest
before (field ∷ fields) rest = field ++ before fields rest

pub joined_before : (fields : List (List ℕ)) (rest : List ℕ) → concat fields ++ rest ≡ before fields rest
joined_before [] rest = refl
joined_before (field ∷ fields) rest = append_assoc field (concat fields) rest ∙
    ap (λ (later : List ℕ). field ++ later) (joined_before fields rest)

type-back : (t : ColumnType) (rest : List ℕ) →
    named_at column_type_named (fixed_number_at 1) (little_bytes 1 (column_type_number t) ++ rest) ≡
    Ok (t, rest)
type-back t rest =
    named_at-back column_type_named column_type_number (fixed_number_at 1) (little_bytes 1) t rest
    (column_type-names_back t)
    (fixed_number_at-back 1 (column_type_number t) rest (type_number-bound t))

pub names-back : (p : ColumnDefinition) (rest : List ℕ) → IsColumn p →
    column_names_at (column_names (names_in p) ++ rest) ≡ Ok (names_in p, rest)
unfolding column_names column_names_at
names-back p rest h =
    let org_name = lenenc_str p.org_name ++ rest in
    let name = lenenc_str p.name ++ org_name in
    let org_table = lenenc_str p.org_table ++ name in
    let table = lenenc_str p.table ++ org_table in
    let fields = lenenc_str p.schema ∷ lenenc_str p.table ∷ lenenc_str p.org_table ∷
    lenenc_str p.name ∷ lenenc_str p.org_name ∷ [] in
    ap column_names_at (joined_before fields rest) ∙ rw (
      lenenc_text_at-back p.schema table h.schema,
      lenenc_text_at-back p.table org_table h.table,
      lenenc_text_at-back p.org_table name h.org_table,
      lenenc_text_at-back p.name org_name h.name,
      lenenc_text_at-back p.org_name rest h.org_name,
    ) refl

pub fields-back : (p : ColumnDefinition) → IsColumn p → column_fields_at (column_fields (fields_in p)) ≡
    Ok (fields_in p, replicate 2 0)
unfolding column_fields column_fields_at
fields-back p h =
    let filler : List ℕ = replicate 2 0 in
    let decimals = little_bytes 1 p.decimals ++ filler in
    let flags = little_bytes 2 p.flags.0 ++ decimals in
    let type = little_bytes 1 (column_type_number p.column_type) ++ flags in
    let len = little_bytes 4 p.column_length ++ type in
    let set = little_bytes 2 p.character_set ++ len in
    rw (
      constant_at-back 1 12 set (lit< tt),
      fixed_number_at-back 2 p.character_set len h.character_set,
      fixed_number_at-back 4 p.column_length type h.column_length,
      type-back p.column_type flags,
      fixed_number_at-back 2 p.flags.0 decimals h.flags,
      fixed_number_at-back 1 p.decimals filler h.decimals,
    ) refl

-- there are thirteen bytes
pub fields-length : (f : ColumnFields) → length (column_fields f) ≡ 13
unfolding column_fields
fields-length f = refl

pub column_at-back : (p : ColumnDefinition) (rest : List ℕ) → IsColumn p → column_at (column p ++ rest) ≡ Ok (p, rest)
unfolding column column_at
column_at-back p rest h =
    let fields = column_fields (fields_in p) ++ rest in
    let names = column_names (names_in p) ++ fields in
    ap column_at (joined_before (catalog ∷ column_names (names_in p) ∷ column_fields (fields_in p) ∷ []) rest) ∙ rw (
      text_constant_at-back 4 catalog names refl,
      names-back p fields h,
      bytes_at-back 13 (column_fields (fields_in p)) rest (fields-length (fields_in p)),
      fields-back p h,
    ) refl
