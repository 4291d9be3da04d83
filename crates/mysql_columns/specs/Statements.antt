-- The laws of columns: what was written is read again.
use Rattle.std.specs.Prelude.{◌≡◌, ◌<◌, ◌^◌, ◌==◌, ℕ, List, [], ◌∷◌, ◌++◌, length, false, Ok, Some, None, Option}
use Rattle.std.specs.Prelude.{if◌then◌else◌}
use Rattle.std.specs.List.{AllByRecursion, flat_map}
use Rattle.mysql_fields.specs.Wire.{◌>>=◌}
use Rattle.mysql_columns.specs.Columns.{ColumnDefinition, IsColumn, column, column_at}
use Rattle.mysql_columns.specs.Extended.{ExtendedDefinition, IsExtended, IsListed, ListedDefinition, extended_column}
use Rattle.mysql_columns.specs.Extended.{extended_column_at, extended_metadata, listed_column, listed_column_at}
use Rattle.mysql_columns.specs.Extended.{metadata_value, value_of_kind}

-- whatever follows
abbrev pub ColumnsReadBack : Type 0
ColumnsReadBack = (p : ColumnDefinition) (rest : List ℕ) → IsColumn p → column_at (column p ++ rest) ≡ Ok (p, rest)

-- by the capabilities that they are written for, whatever follows
abbrev pub ExtendedColumnsReadBack : Type 0
ExtendedColumnsReadBack = (capabilities : ℕ) (p : ExtendedDefinition) (rest : List ℕ) → IsExtended capabilities p →
    extended_column_at capabilities (extended_column p ++ rest) ≡ Ok (p, rest)

abbrev pub ListedColumnsReadBack : Type 0
ListedColumnsReadBack = (capabilities : ℕ) (p : ListedDefinition) (rest : List ℕ) → IsListed capabilities p →
    listed_column_at capabilities (listed_column p ++ rest) ≡ Ok (p, rest)

-- where no metadata are in force, a column alone is read
abbrev pub PlainColumnsAreColumns : Type 0
PlainColumnsAreColumns = (capabilities : ℕ) (bytes : List ℕ) → extended_metadata capabilities ≡ false →
    extended_column_at capabilities bytes ≡
    (column_at bytes >>= λ column. Ok (record { column = column.0; metadata = None }, column.1))

-- a value of metadata fits its fields
abbrev pub IsValue : ℕ × List ℕ → Type 0
IsValue value = (value.0 < 256) × (length value.1 < 2 ^ 64)

-- of values the text of the first one of a kind
abbrev pub first_text : ℕ → List (ℕ × List ℕ) → Option (List ℕ)
first_text kind [] = None
first_text kind (value ∷ values) = if value.0 == kind then Some value.1 else first_text kind values

abbrev pub ValuesAreFound : Type 0
ValuesAreFound = (kind : ℕ) (values : List (ℕ × List ℕ)) → AllByRecursion IsValue values →
    value_of_kind kind (Some (flat_map (λ value. metadata_value value.0 value.1) values)) ≡ first_text kind values
