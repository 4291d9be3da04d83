-- What a column packet has beside the column: MariaDB's extended metadata, and the default of a
-- column in an answer to COM_FIELD_LIST.
-- (MariaDB: Client/Server Protocol, "Result Set Packets", 'Column Definition Packet'; MySQL:
-- Client/Server Protocol, "COM_FIELD_LIST" and "Column Definition".)
-- A reading takes bytes from the front: x.0 is what was read and x.1 the bytes left; the first refusal counts.
use Rattle.std.specs.Prelude.{◌≡◌, ℕ, zero, suc, ◌^◌, ◌<◌, ◌==◌, Bool, true, false, if◌then◌else◌, List, [], ◌∷◌, ◌++◌}
use Rattle.std.specs.Prelude.{length, Option, Some, None, is_some, option_and_then, Ok, Err}
use Rattle.std.specs.Option.{IfSome}
use Rattle.std.specs.List.{concat}
use Rattle.mysql_buf.specs.Writing.{lenenc_str}
use Rattle.mysql_const.specs.FlagSets.{contains}
use Rattle.mysql_fields.specs.Wire.{Reading, ◌>>=◌}
use Rattle.mysql_fields.specs.Forms.{bytes_at, fixed_number_at}
use Rattle.mysql_fields.specs.Texts.{lenenc_text_at}
use Rattle.mysql_field_constants.specs.Constants.{text_constant_at}
use Rattle.mysql_columns.specs.Columns.{ColumnDefinition, IsColumn, catalog, column_fields, column_fields_at}
use Rattle.mysql_columns.specs.Columns.{column_names, column_names_at, column_with, fields_in, names_in}

-- MARIADB_CLIENT_EXTENDED_METADATA, of MariaDB's own capabilities.
abbrev pub extended_metadata : ℕ → Bool
extended_metadata capabilities = contains capabilities 8

-- A column, and its metadata where the packet has some.
pub record ExtendedDefinition : Type 0 where
  pub column : ColumnDefinition
  pub metadata : Option (List ℕ)

-- Metadata stand after their length.
abbrev pub metadata_bytes : Option (List ℕ) → List ℕ
metadata_bytes None = []
metadata_bytes (Some metadata) = lenenc_str metadata

-- They are there where the capability is in force.
abbrev pub metadata_at : Bool → List ℕ → Reading (Option (List ℕ))
metadata_at false bytes = Ok (None, bytes)
metadata_at true bytes = lenenc_text_at bytes >>= λ metadata. Ok (Some metadata.0, metadata.1)

-- A column packet: the catalog, the names, the metadata and the fixed fields.
unfoldable pub extended_column : ExtendedDefinition → List ℕ
extended_column p = concat (
    catalog
    ∷ column_names (names_in p.column)
    ∷ metadata_bytes p.metadata
    ∷ column_fields (fields_in p.column)
    ∷ []
    )

-- Its last 13 bytes are there together or not at all.
unfoldable pub extended_column_at : ℕ → List ℕ → Reading ExtendedDefinition
extended_column_at capabilities bytes = do
  def ← text_constant_at 4 catalog bytes
  names ← column_names_at def.1
  metadata ← metadata_at (extended_metadata capabilities) names.1
  block ← bytes_at 13 metadata.1
  fields ← column_fields_at block.0
  Ok (record { column = column_with names.0 fields.0; metadata = metadata.0 }, block.1)

-- What the types of the fields hold, of a packet by these capabilities.
pub record IsExtended (capabilities : ℕ) (p : ExtendedDefinition) : Type 0 where
  pub column : IsColumn p.column
  pub in_force : is_some p.metadata ≡ extended_metadata capabilities
  pub metadata : IfSome p.metadata (λ metadata. length metadata < 2 ^ 64)

-- A column of an answer to COM_FIELD_LIST: with its default, where it has one.
pub record ListedDefinition : Type 0 where
  pub column : ExtendedDefinition
  pub default_value : Option (List ℕ)

-- The default stands after its length; fb says that there is none.
abbrev pub default_bytes : Option (List ℕ) → List ℕ
default_bytes None = 0xfb ∷ []
default_bytes (Some text) = lenenc_str text

-- None is read of no bytes too.
abbrev pub default_at : List ℕ → Reading (Option (List ℕ))
default_at [] = Ok (None, [])
default_at (b ∷ bytes) =
    if b == 0xfb then Ok (None, bytes)
    else lenenc_text_at (b ∷ bytes) >>= λ text. Ok (Some text.0, text.1)

-- The column packet, and then the default.
unfoldable pub listed_column : ListedDefinition → List ℕ
listed_column p = extended_column p.column ++ default_bytes p.default_value

unfoldable pub listed_column_at : ℕ → List ℕ → Reading ListedDefinition
listed_column_at capabilities bytes = do
  column ← extended_column_at capabilities bytes
  default ← default_at column.1
  Ok (record { column = column.0; default_value = default.0 }, default.1)

pub record IsListed (capabilities : ℕ) (p : ListedDefinition) : Type 0 where
  pub column : IsExtended capabilities p.column
  pub default_value : IfSome p.default_value (λ text. length text < 2 ^ 64)

-- A value of the metadata: its kind (0 the name of the type, 1 the format of the text), and its text.
abbrev pub metadata_value : ℕ → List ℕ → List ℕ
metadata_value kind text = kind ∷ lenenc_str text

abbrev pub metadata_value_at : List ℕ → Reading (ℕ × List ℕ)
metadata_value_at bytes = do
  kind ← fixed_number_at 1 bytes
  text ← lenenc_text_at kind.1
  Ok ((kind.0, text.0), text.1)

-- This value, where it is of the kind, else what the others give; nothing where it is cut off.
abbrev pub if_of_kind : ℕ → Reading (ℕ × List ℕ) → (List ℕ → Option (List ℕ)) → Option (List ℕ)
if_of_kind kind (Err e) others = None
if_of_kind kind (Ok value) others = if value.0.0 == kind then Some value.0.1 else others value.1

-- The text of the first value of a kind, among so many at most that stand one after another.
unfoldable pub first_of_kind : ℕ → ℕ → List ℕ → Option (List ℕ)
first_of_kind kind zero bytes = None
first_of_kind kind (suc most) bytes = if_of_kind kind (metadata_value_at bytes) (first_of_kind kind most)

-- Among all of them, each of which has a byte at least.
abbrev pub value_of_kind : ℕ → Option (List ℕ) → Option (List ℕ)
value_of_kind kind metadata = option_and_then (λ bytes. first_of_kind kind (length bytes) bytes) metadata
