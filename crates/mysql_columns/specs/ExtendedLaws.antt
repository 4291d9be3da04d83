-- What was written of a column with its metadata and its default is read back.
use Rattle.std.proofs.Common.{◌≡◌, ◌≢◌, ◌==◌, ◌<◌, ◌≤◌, ◌^◌, ◌%◌, nat_lt, ℕ, zero, suc, Bool, true, false}
use Rattle.std.proofs.Common.{if◌then◌else◌, List, [], ◌∷◌}
use Rattle.std.proofs.Common.{◌++◌, length, Option, Some, None, Result, Ok, Err, refl, sym, ap, ◌∙◌, append_assoc}
use Rattle.std.proofs.Common.{arith, length-append}
use Rattle.std.specs.Prelude.{is_some}
use Rattle.std.specs.Option.{IfSome}
use Rattle.std.specs.List.{AllByRecursion, flat_map}
use Rattle.std.proofs.lemmas.Bool.{ltb-true, ne_eqb}
use Rattle.byteorder.specs.Endian.{little_bytes}
use Rattle.mysql_buf.specs.Reading.{first}
use Rattle.mysql_buf.specs.Writing.{lenenc_int, lenenc_str}
use Rattle.mysql_fields.specs.Forms.{bytes_at}
use Rattle.mysql_fields.specs.Laws.{bytes_at-back, fixed_number_at-back}
use Rattle.mysql_fields.specs.TextLaws.{lenenc_text_at-back}
use Rattle.mysql_fields.specs.Texts.{lenenc_text_at}
use Rattle.mysql_fields.specs.Wire.{◌>>=◌}
use Rattle.mysql_fields.specs.declared.error.WireError.{WireError}
use Rattle.mysql_field_constants.specs.ConstantLaws.{text_constant_at-back}
use Rattle.mysql_field_constants.specs.Constants.{text_constant_at}
use Rattle.mysql_columns.specs.ColumnLaws.{fields-back, fields-length, joined_before, names-back}
use Rattle.mysql_columns.specs.Columns.{catalog, column_at, column_fields, column_fields_at}
use Rattle.mysql_columns.specs.Columns.{column_names, column_names_at, column_with, fields_in, names_in}
use Rattle.mysql_columns.specs.Extended.{ExtendedDefinition, IsExtended, IsListed, ListedDefinition, default_at}
use Rattle.mysql_columns.specs.Extended.{default_bytes, extended_column, extended_column_at, extended_metadata}
use Rattle.mysql_columns.specs.Extended.{first_of_kind, listed_column, listed_column_at, metadata_at, metadata_bytes}
use Rattle.mysql_columns.specs.Extended.{if_of_kind, metadata_value, metadata_value_at, value_of_kind}
use Rattle.mysql_columns.specs.Statements.{IsValue, first_text}

metadata_at-back : (in_force : Bool) (metadata : Option (List ℕ)) (rest : List ℕ) → is_some metadata ≡ in_force →
    IfSome metadata (λ bytes. length bytes < 2 ^ 64) → metadata_at in_force (metadata_bytes metadata ++ rest) ≡
    Ok (metadata, rest)
metadata_at-back true (Some bytes) rest is small = rw (lenenc_text_at-back bytes rest small) refl
metadata_at-back true None rest is small = absurd cc
metadata_at-back false (Some bytes) rest is small = absurd cc
metadata_at-back false None rest is small = refl

pub extended_column_at-back : (capabilities : ℕ) (p : ExtendedDefinition) (rest : List ℕ) → IsExtended capabilities p →
    extended_column_at capabilities (extended_column p ++ rest) ≡ Ok (p, rest)
unfolding extended_column extended_column_at
extended_column_at-back capabilities p rest h =
    let fields = column_fields (fields_in p.column) ++ rest in
    let metadata = metadata_bytes p.metadata ++ fields in
    let names = column_names (names_in p.column) ++ metadata in
    let parts = catalog ∷ column_names (names_in p.column) ∷ metadata_bytes p.metadata ∷
    column_fields (fields_in p.column) ∷ [] in
    ap (extended_column_at capabilities) (joined_before parts rest) ∙ rw (
      text_constant_at-back 4 catalog names refl,
      names-back p.column metadata h.column,
      metadata_at-back (extended_metadata capabilities) p.metadata fields h.in_force h.metadata,
      bytes_at-back 13 (column_fields (fields_in p.column)) rest (fields-length (fields_in p.column)),
      fields-back p.column h.column,
    ) refl

-- a length's first byte isn't fb
lenenc_first : (n : ℕ) → (b : ℕ) × (bytes : List ℕ) × (lenenc_int n ≡ b ∷ bytes) × (b ≢ 251)
lenenc_first n = by (nat_lt n 251) (nat_lt n (2 ^ 16)) (nat_lt n (2 ^ 24)) refl where
  by : (one two three : Bool) → nat_lt n 251 ≡ one → (b : ℕ) × (bytes : List ℕ) ×
      ((if one then n ∷ [] else if two then 252 ∷ little_bytes 2 n else if three then 253 ∷ little_bytes 3 n
      else 254 ∷ little_bytes 8 n) ≡ b ∷ bytes) × (b ≢ 251)
  by true two three is = (n, [], refl, λ same. let small = ltb-true n 251 is in absurd (omega arith))
  by false true three is = (252, little_bytes 2 n, refl, λ same. absurd (omega arith))
  by false false true is = (253, little_bytes 3 n, refl, λ same. absurd (omega arith))
  by false false false is = (254, little_bytes 8 n, refl, λ same. absurd (omega arith))

-- what begins with another byte than fb is a text
default_read : (b : ℕ) (bytes : List ℕ) → b ≢ 251 →
    default_at (b ∷ bytes) ≡ (lenenc_text_at (b ∷ bytes) >>= λ text. Ok (Some text.0, text.1))
default_read b bytes other = rw (ne_eqb b 251 other) refl

default_at-text : (text rest : List ℕ) → length text < 2 ^ 64 →
    default_at (lenenc_str text ++ rest) ≡ Ok (Some text, rest)
default_at-text text rest small =
    let first = lenenc_first (length text) in
    let front : lenenc_str text ++ rest ≡ first.0 ∷ (first.1 ++ (text ++ rest)) =
    append_assoc (lenenc_int (length text)) text rest ∙ ap (λ l. l ++ (text ++ rest)) first.2 in
    ap default_at front
    ∙ default_read first.0 (first.1 ++ (text ++ rest)) first.3
    ∙ ap (λ l. lenenc_text_at l >>= λ text. Ok (Some text.0, text.1)) (sym front)
    ∙ rw (lenenc_text_at-back text rest small) refl

default_at-back : (value : Option (List ℕ)) (rest : List ℕ) → IfSome value (λ text. length text < 2 ^ 64) →
    default_at (default_bytes value ++ rest) ≡ Ok (value, rest)
default_at-back None rest small = refl
default_at-back (Some text) rest small = default_at-text text rest small

pub listed_column_at-back : (capabilities : ℕ) (p : ListedDefinition) (rest : List ℕ) → IsListed capabilities p →
    listed_column_at capabilities (listed_column p ++ rest) ≡ Ok (p, rest)
unfolding listed_column listed_column_at
listed_column_at-back capabilities p rest h =
    ap (listed_column_at capabilities)
    (append_assoc (extended_column p.column) (default_bytes p.default_value) rest) ∙ rw (
      extended_column_at-back capabilities p.column (default_bytes p.default_value ++ rest) h.column,
      default_at-back p.default_value rest h.default_value,
    ) refl

-- a step and what is made of it are one
bind_after : {A B C : Type 0} (r : Result A WireError) (f : A → Result B WireError) (g : B → Result C WireError)
    (h : A → Result C WireError) → ((x : A) → h x ≡ (f x >>= g)) → (r >>= h) ≡ ((r >>= f) >>= g)
bind_after (Ok x) f g h same = same x
bind_after (Err e) f g h same = refl

pub plain_columns : (capabilities : ℕ) (bytes : List ℕ) → extended_metadata capabilities ≡ false →
    extended_column_at capabilities bytes ≡
    (column_at bytes >>= λ column. Ok (record { column = column.0; metadata = None }, column.1))
unfolding column_at extended_column_at
plain_columns capabilities bytes off =
    bind_after (text_constant_at 4 catalog bytes) _ _ _ (λ def.
    bind_after (column_names_at def.1) _ _ _ (λ names.
    ap (λ in_force. metadata_at in_force names.1 >>= λ metadata. bytes_at 13 metadata.1 >>= λ block.
    column_fields_at block.0 >>= λ fields.
    Ok (record { column = column_with names.0 fields.0; metadata = metadata.0 }, block.1)) off
    ∙ bind_after (bytes_at 13 names.1) _ _ _ (λ block.
    bind_after (column_fields_at block.0) _ _ _ (λ fields. refl))))

metadata_value-back : (kind : ℕ) (text rest : List ℕ) → kind < 256 → length text < 2 ^ 64 →
    metadata_value_at (metadata_value kind text ++ rest) ≡ Ok ((kind, text), rest)
metadata_value-back kind text rest byte small =
    let same : kind ≡ kind % 256 = omega (arith, byte) in
    ap (λ (k : ℕ). metadata_value_at (k ∷ (lenenc_str text ++ rest))) same ∙ rw (
      fixed_number_at-back 1 kind (lenenc_str text ++ rest) byte,
      lenenc_text_at-back text rest small,
    ) refl

found_among : (kind most : ℕ) (values : List (ℕ × List ℕ)) →
    length (flat_map (λ value. metadata_value value.0 value.1) values) ≤ most →
    AllByRecursion IsValue values →
    first_of_kind kind most (flat_map (λ value. metadata_value value.0 value.1) values) ≡
    first_text kind values
unfolding first_of_kind first
found_among kind zero [] room are = refl
found_among kind (suc most) [] room are = refl
found_among kind zero (value ∷ values) room are = absurd (omega arith)
found_among kind (suc most) (value ∷ values) room are =
    let others = flat_map (λ value. metadata_value value.0 value.1) values in
    let text = lenenc_str value.1 in
    let first : metadata_value_at ((value.0 ∷ text) ++ others) ≡ Ok ((value.0, value.1), others) =
    metadata_value-back value.0 value.1 others are.0.0 are.0.1 in
    let less : length others ≤ most = omega (arith, length-append text others) in
    ap (λ r. if_of_kind kind r (first_of_kind kind most)) first
    ∙ ap (λ o. if value.0 == kind then Some value.1 else o) (found_among kind most values less are.1)

pub values_found : (kind : ℕ) (values : List (ℕ × List ℕ)) → AllByRecursion IsValue values →
    value_of_kind kind (Some (flat_map (λ value. metadata_value value.0 value.1) values)) ≡ first_text kind values
values_found kind values are =
    found_among kind (length (flat_map (λ value. metadata_value value.0 value.1) values)) values
    (omega arith) are
