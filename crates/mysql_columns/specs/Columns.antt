-- The column packet as bytes: what is written of its fields, and what is read of any bytes.
-- MySQL: Client/Server Protocol, "Column Definition".
-- A reading takes bytes from the front: x.0 is what was read and x.1 the bytes left; the first refusal counts.
use Rattle.std.specs.Prelude.{ℕ, ◌^◌, ◌<◌, List, [], ◌∷◌, length, replicate, Ok}
use Rattle.std.specs.List.{concat}
use Rattle.byteorder.specs.Endian.{little_bytes}
use Rattle.mysql_buf.specs.Writing.{lenenc_str}
use Rattle.mysql_const.specs.declared.column_flags.ColumnFlags.{ColumnFlags}
use Rattle.mysql_const.specs.declared.column_type.ColumnType.{ColumnType}
use Rattle.mysql_const.specs.ColumnTypes.{column_type_named, column_type_number}
use Rattle.mysql_fields.specs.Wire.{Reading, ◌>>=◌}
use Rattle.mysql_fields.specs.Forms.{bytes_at, fixed_number_at}
use Rattle.mysql_fields.specs.Texts.{lenenc_text_at}
use Rattle.mysql_field_constants.specs.Constants.{constant_at, named_at, text_constant_at}

-- What a column packet says.
pub record ColumnDefinition : Type 0 where
  pub schema : List ℕ
  pub table : List ℕ
  pub org_table : List ℕ
  pub name : List ℕ
  pub org_name : List ℕ
  pub character_set : ℕ
  pub column_length : ℕ
  pub column_type : ColumnType
  pub flags : ColumnFlags
  pub decimals : ℕ

-- The catalog, which is always "def", after its length.
abbrev pub catalog : List ℕ
catalog = 3 ∷ 100 ∷ 101 ∷ 102 ∷ []

-- The names of a column: of its schema, of its table in the query and in the schema, and its own in
-- the query and in the table.
pub record ColumnNames : Type 0 where
  pub schema : List ℕ
  pub table : List ℕ
  pub org_table : List ℕ
  pub name : List ℕ
  pub org_name : List ℕ

-- Each name after its length.
unfoldable pub column_names : ColumnNames → List ℕ
column_names n =
    concat (lenenc_str n.schema ∷ lenenc_str n.table ∷ lenenc_str n.org_table ∷ lenenc_str n.name ∷
    lenenc_str n.org_name ∷ [])

unfoldable pub column_names_at : List ℕ → Reading ColumnNames
column_names_at bytes = do
  schema ← lenenc_text_at bytes
  table ← lenenc_text_at schema.1
  org_table ← lenenc_text_at table.1
  name ← lenenc_text_at org_table.1
  org_name ← lenenc_text_at name.1
  Ok (
    record { schema = schema.0; table = table.0; org_table = org_table.0; name = name.0; org_name = org_name.0 },
    org_name.1,
  )

-- The fields of a column that have a fixed length.
pub record ColumnFields : Type 0 where
  pub character_set : ℕ
  pub column_length : ℕ
  pub column_type : ColumnType
  pub flags : ColumnFlags
  pub decimals : ℕ

-- The fixed fields: 0c, which counts the bytes behind it, each field, and two filler bytes.
unfoldable pub column_fields : ColumnFields → List ℕ
column_fields f =
    concat (
    little_bytes 1 12 ∷ little_bytes 2 f.character_set ∷ little_bytes 4 f.column_length ∷
    little_bytes 1 (column_type_number f.column_type)
    ∷ little_bytes 2 f.flags.0 ∷ little_bytes 1 f.decimals ∷ replicate 2 0 ∷ [])

-- The filler bytes are not looked at.
unfoldable pub column_fields_at : List ℕ → Reading ColumnFields
column_fields_at bytes = do
  size ← constant_at 1 12 bytes
  character_set ← fixed_number_at 2 size.1
  column_length ← fixed_number_at 4 character_set.1
  column_type ← named_at column_type_named (fixed_number_at 1) column_length.1
  flags ← fixed_number_at 2 column_type.1
  decimals ← fixed_number_at 1 flags.1
  Ok (
    record {
      character_set = character_set.0;
      column_length = column_length.0;
      column_type = column_type.0;
      flags = record { 0 = flags.0 };
      decimals = decimals.0;
    },
    decimals.1,
  )

-- A column of these names and fields.
abbrev pub column_with : ColumnNames → ColumnFields → ColumnDefinition
column_with names fields = record {
  schema = names.schema;
  table = names.table;
  org_table = names.org_table;
  name = names.name;
  org_name = names.org_name;
  character_set = fields.character_set;
  column_length = fields.column_length;
  column_type = fields.column_type;
  flags = fields.flags;
  decimals = fields.decimals;
}

-- The names of a column, and its fields of a fixed length.
abbrev pub names_in : ColumnDefinition → ColumnNames
names_in p = record {
  schema = p.schema;
  table = p.table;
  org_table = p.org_table;
  name =
      p.name;
  org_name = p.org_name;
}

abbrev pub fields_in : ColumnDefinition → ColumnFields
fields_in p = record {
  character_set = p.character_set;
  column_length = p.column_length;
  column_type = p.column_type;
  flags = p.flags;
  decimals = p.decimals;
}

-- A column packet: the catalog, the names and the fixed fields.
unfoldable pub column : ColumnDefinition → List ℕ
column p = concat (catalog ∷ column_names (names_in p) ∷ column_fields (fields_in p) ∷ [])

-- What the types of the fields hold.
pub record IsColumn (p : ColumnDefinition) : Type 0 where
  pub schema : length p.schema < 2 ^ 64
  pub table : length p.table < 2 ^ 64
  pub org_table : length p.org_table < 2 ^ 64
  pub name : length p.name < 2 ^ 64
  pub org_name : length p.org_name < 2 ^ 64
  pub character_set : p.character_set < 2 ^ 16
  pub column_length : p.column_length < 2 ^ 32
  pub flags : p.flags.0 < 2 ^ 16
  pub decimals : p.decimals < 2 ^ 8

-- A column packet; its last 13 bytes are there together or not at all.
unfoldable pub column_at : List ℕ → Reading ColumnDefinition
column_at bytes = do
  def ← text_constant_at 4 catalog bytes
  names ← column_names_at def.1
  block ← bytes_at 13 names.1
  fields ← column_fields_at block.0
  Ok (column_with names.0 fields.0, block.1)
