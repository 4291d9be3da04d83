-- Types of columns and values by their numbers.
-- MySQL: Client/Server Protocol, "Column Definition" and "Binary Protocol Resultset" (enum_field_types).
use Rattle.std.specs.Prelude.{◌∷◌, [], List, Option, Bool, false, ◌==◌, ◌||◌, ℕ, nat_eq}
use Rattle.mysql_const.specs.Tables.{numbered, entry_of}
use Rattle.mysql_const.specs.declared.column_type.ColumnType.{ColumnType}
use Rattle.mysql_const.specs.declared.column_type.ColumnType.TheVariants.{MYSQL_TYPE_DECIMAL, MYSQL_TYPE_TINY}
use Rattle.mysql_const.specs.declared.column_type.ColumnType.TheVariants.{MYSQL_TYPE_SHORT, MYSQL_TYPE_LONG}
use Rattle.mysql_const.specs.declared.column_type.ColumnType.TheVariants.{MYSQL_TYPE_FLOAT, MYSQL_TYPE_DOUBLE}
use Rattle.mysql_const.specs.declared.column_type.ColumnType.TheVariants.{MYSQL_TYPE_NULL, MYSQL_TYPE_TIMESTAMP}
use Rattle.mysql_const.specs.declared.column_type.ColumnType.TheVariants.{MYSQL_TYPE_LONGLONG, MYSQL_TYPE_INT24}
use Rattle.mysql_const.specs.declared.column_type.ColumnType.TheVariants.{MYSQL_TYPE_DATE, MYSQL_TYPE_TIME}
use Rattle.mysql_const.specs.declared.column_type.ColumnType.TheVariants.{MYSQL_TYPE_DATETIME, MYSQL_TYPE_YEAR}
use Rattle.mysql_const.specs.declared.column_type.ColumnType.TheVariants.{MYSQL_TYPE_NEWDATE, MYSQL_TYPE_VARCHAR}
use Rattle.mysql_const.specs.declared.column_type.ColumnType.TheVariants.{MYSQL_TYPE_BIT, MYSQL_TYPE_TIMESTAMP2}
use Rattle.mysql_const.specs.declared.column_type.ColumnType.TheVariants.{MYSQL_TYPE_DATETIME2, MYSQL_TYPE_TIME2}
use Rattle.mysql_const.specs.declared.column_type.ColumnType.TheVariants.{MYSQL_TYPE_TYPED_ARRAY, MYSQL_TYPE_VECTOR}
use Rattle.mysql_const.specs.declared.column_type.ColumnType.TheVariants.{MYSQL_TYPE_UNKNOWN, MYSQL_TYPE_JSON}
use Rattle.mysql_const.specs.declared.column_type.ColumnType.TheVariants.{MYSQL_TYPE_NEWDECIMAL, MYSQL_TYPE_ENUM}
use Rattle.mysql_const.specs.declared.column_type.ColumnType.TheVariants.{MYSQL_TYPE_SET, MYSQL_TYPE_TINY_BLOB}
use Rattle.mysql_const.specs.declared.column_type.ColumnType.TheVariants.{MYSQL_TYPE_MEDIUM_BLOB, MYSQL_TYPE_LONG_BLOB}
use Rattle.mysql_const.specs.declared.column_type.ColumnType.TheVariants.{MYSQL_TYPE_BLOB, MYSQL_TYPE_VAR_STRING}
use Rattle.mysql_const.specs.declared.column_type.ColumnType.TheVariants.{MYSQL_TYPE_STRING, MYSQL_TYPE_GEOMETRY}

-- each name's number
abbrev pub column_type_number : ColumnType → ℕ
column_type_number MYSQL_TYPE_DECIMAL = 0
column_type_number MYSQL_TYPE_TINY = 1
column_type_number MYSQL_TYPE_SHORT = 2
column_type_number MYSQL_TYPE_LONG = 3
column_type_number MYSQL_TYPE_FLOAT = 4
column_type_number MYSQL_TYPE_DOUBLE = 5
column_type_number MYSQL_TYPE_NULL = 6
column_type_number MYSQL_TYPE_TIMESTAMP = 7
column_type_number MYSQL_TYPE_LONGLONG = 8
column_type_number MYSQL_TYPE_INT24 = 9
column_type_number MYSQL_TYPE_DATE = 10
column_type_number MYSQL_TYPE_TIME = 11
column_type_number MYSQL_TYPE_DATETIME = 12
column_type_number MYSQL_TYPE_YEAR = 13
column_type_number MYSQL_TYPE_NEWDATE = 14
column_type_number MYSQL_TYPE_VARCHAR = 15
column_type_number MYSQL_TYPE_BIT = 16
column_type_number MYSQL_TYPE_TIMESTAMP2 = 17
column_type_number MYSQL_TYPE_DATETIME2 = 18
column_type_number MYSQL_TYPE_TIME2 = 19
column_type_number MYSQL_TYPE_TYPED_ARRAY = 20
column_type_number MYSQL_TYPE_VECTOR = 242
column_type_number MYSQL_TYPE_UNKNOWN = 243
column_type_number MYSQL_TYPE_JSON = 245
column_type_number MYSQL_TYPE_NEWDECIMAL = 246
column_type_number MYSQL_TYPE_ENUM = 247
column_type_number MYSQL_TYPE_SET = 248
column_type_number MYSQL_TYPE_TINY_BLOB = 249
column_type_number MYSQL_TYPE_MEDIUM_BLOB = 250
column_type_number MYSQL_TYPE_LONG_BLOB = 251
column_type_number MYSQL_TYPE_BLOB = 252
column_type_number MYSQL_TYPE_VAR_STRING = 253
column_type_number MYSQL_TYPE_STRING = 254
column_type_number MYSQL_TYPE_GEOMETRY = 255

-- the table: each number and its name
abbrev pub column_types : List (ℕ × ColumnType)
column_types =
    numbered column_type_number (
    MYSQL_TYPE_DECIMAL ∷ MYSQL_TYPE_TINY ∷ MYSQL_TYPE_SHORT ∷ MYSQL_TYPE_LONG ∷ MYSQL_TYPE_FLOAT
    ∷ MYSQL_TYPE_DOUBLE ∷ MYSQL_TYPE_NULL ∷ MYSQL_TYPE_TIMESTAMP ∷ MYSQL_TYPE_LONGLONG ∷ MYSQL_TYPE_INT24
    ∷ MYSQL_TYPE_DATE ∷ MYSQL_TYPE_TIME ∷ MYSQL_TYPE_DATETIME ∷ MYSQL_TYPE_YEAR ∷ MYSQL_TYPE_NEWDATE
    ∷ MYSQL_TYPE_VARCHAR ∷ MYSQL_TYPE_BIT ∷ MYSQL_TYPE_TIMESTAMP2 ∷ MYSQL_TYPE_DATETIME2 ∷ MYSQL_TYPE_TIME2
    ∷ MYSQL_TYPE_TYPED_ARRAY ∷ MYSQL_TYPE_VECTOR ∷ MYSQL_TYPE_UNKNOWN ∷ MYSQL_TYPE_JSON ∷ MYSQL_TYPE_NEWDECIMAL
    ∷ MYSQL_TYPE_ENUM ∷ MYSQL_TYPE_SET ∷ MYSQL_TYPE_TINY_BLOB ∷ MYSQL_TYPE_MEDIUM_BLOB ∷ MYSQL_TYPE_LONG_BLOB
    ∷ MYSQL_TYPE_BLOB ∷ MYSQL_TYPE_VAR_STRING ∷ MYSQL_TYPE_STRING ∷ MYSQL_TYPE_GEOMETRY ∷ [])

-- the name of a number, where it has one
abbrev pub column_type_named : ℕ → Option ColumnType
column_type_named number = entry_of nat_eq column_types number

-- whether a type stands in a list of types
abbrev pub is_among : List ColumnType → ColumnType → Bool
is_among [] column_type = false
is_among (first ∷ others) column_type =
    column_type_number first == column_type_number column_type || is_among others column_type

-- the types of numbers
abbrev pub numeric_types : List ColumnType
numeric_types = MYSQL_TYPE_TINY ∷ MYSQL_TYPE_SHORT ∷ MYSQL_TYPE_INT24 ∷ MYSQL_TYPE_LONG ∷
    MYSQL_TYPE_LONGLONG ∷ MYSQL_TYPE_NEWDECIMAL ∷ MYSQL_TYPE_FLOAT ∷ MYSQL_TYPE_DOUBLE ∷ []

-- the types of texts
abbrev pub character_types : List ColumnType
character_types = MYSQL_TYPE_STRING ∷ MYSQL_TYPE_VAR_STRING ∷ MYSQL_TYPE_VARCHAR ∷ MYSQL_TYPE_BLOB ∷ []
