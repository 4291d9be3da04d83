-- Cells of the binary protocol, as they are written and read, and cells of the text protocol.
-- MySQL: Client/Server Protocol, "Binary Protocol Value", "Protocol::LengthEncodedInteger", "Text
-- Resultset Row", "Column Definition Flags". A reading takes bytes from the front: x.0 is what was
-- read and x.1 the bytes left; the first refusal counts.
use Rattle.std.specs.Prelude.{ℕ, pos, ◌+◌, ◌^◌, Bool, true, false, List, [], ◌∷◌, ◌++◌, length, take, drop, Ok, Err}
use Rattle.std.specs.Prelude.{nat_lt, ◌==◌, ◌||◌, if◌then◌else◌, unwrap_or}
use Rattle.std.specs.Int.{Width, w8, w16, w32, w64, cast_signed, cast_unsigned}
use Rattle.std.specs.Option.{option_map}
use Rattle.byteorder.specs.Endian.{little_bytes, little_number}
use Rattle.mysql_buf.specs.Reading.{lenenc_str_at, u8_str_at}
use Rattle.mysql_buf.specs.Writing.{lenenc_str}
use Rattle.mysql_const.specs.ColumnTypes.{column_type_named, column_type_number}
use Rattle.mysql_const.specs.declared.column_flags.ColumnFlags.{ColumnFlags}
use Rattle.mysql_const.specs.declared.column_type.ColumnType.{ColumnType}
use Rattle.mysql_const.specs.declared.column_type.ColumnType.TheVariants.{MYSQL_TYPE_NULL, MYSQL_TYPE_TINY}
use Rattle.mysql_const.specs.declared.column_type.ColumnType.TheVariants.{MYSQL_TYPE_SHORT, MYSQL_TYPE_YEAR}
use Rattle.mysql_const.specs.declared.column_type.ColumnType.TheVariants.{MYSQL_TYPE_LONG, MYSQL_TYPE_INT24}
use Rattle.mysql_const.specs.declared.column_type.ColumnType.TheVariants.{MYSQL_TYPE_LONGLONG, MYSQL_TYPE_FLOAT}
use Rattle.mysql_const.specs.declared.column_type.ColumnType.TheVariants.{MYSQL_TYPE_DOUBLE, MYSQL_TYPE_DECIMAL}
use Rattle.mysql_const.specs.declared.column_type.ColumnType.TheVariants.{MYSQL_TYPE_NEWDECIMAL, MYSQL_TYPE_VARCHAR}
use Rattle.mysql_const.specs.declared.column_type.ColumnType.TheVariants.{MYSQL_TYPE_VAR_STRING, MYSQL_TYPE_STRING}
use Rattle.mysql_const.specs.declared.column_type.ColumnType.TheVariants.{MYSQL_TYPE_TINY_BLOB, MYSQL_TYPE_MEDIUM_BLOB}
use Rattle.mysql_const.specs.declared.column_type.ColumnType.TheVariants.{MYSQL_TYPE_LONG_BLOB, MYSQL_TYPE_BLOB}
use Rattle.mysql_const.specs.declared.column_type.ColumnType.TheVariants.{MYSQL_TYPE_ENUM, MYSQL_TYPE_SET}
use Rattle.mysql_const.specs.declared.column_type.ColumnType.TheVariants.{MYSQL_TYPE_BIT, MYSQL_TYPE_JSON}
use Rattle.mysql_const.specs.declared.column_type.ColumnType.TheVariants.{MYSQL_TYPE_GEOMETRY, MYSQL_TYPE_VECTOR}
use Rattle.mysql_const.specs.declared.column_type.ColumnType.TheVariants.{MYSQL_TYPE_DATE, MYSQL_TYPE_DATETIME}
use Rattle.mysql_const.specs.declared.column_type.ColumnType.TheVariants.{MYSQL_TYPE_TIMESTAMP, MYSQL_TYPE_TIME}
use Rattle.mysql_const.specs.declared.column_type.ColumnType.TheVariants.{MYSQL_TYPE_NEWDATE, MYSQL_TYPE_TIMESTAMP2}
use Rattle.mysql_const.specs.declared.column_type.ColumnType.TheVariants.{MYSQL_TYPE_DATETIME2, MYSQL_TYPE_TIME2}
use Rattle.mysql_const.specs.declared.column_type.ColumnType.TheVariants.{MYSQL_TYPE_TYPED_ARRAY, MYSQL_TYPE_UNKNOWN}
use Rattle.mysql_fields.specs.Forms.{fixed_number_at}
use Rattle.mysql_const.specs.FlagSets.{contains}
use Rattle.mysql_fields.specs.Wire.{Reading, ◌>>=◌, or_end}
use Rattle.mysql_fields.specs.declared.error.WireError.TheVariants.{UnexpectedEof, BadLength, UnsupportedType}
use Rattle.mysql_cells.specs.declared.value.Value.{Value}
use Rattle.mysql_cells.specs.declared.value.Value.TheVariants.{NULL, Bytes, Int, UInt, Float, Double, Date, Time}
use Rattle.mysql_cells.specs.declared.cell_form.CellForm.{CellForm}
use Rattle.mysql_cells.specs.declared.cell_form.CellForm.TheVariants.{Nothing, Whole1, Whole2, Whole4, Whole8}
use Rattle.mysql_cells.specs.declared.cell_form.CellForm.TheVariants.{FloatBits, DoubleBits, Counted, DateAndTime}
use Rattle.mysql_cells.specs.declared.cell_form.CellForm.TheVariants.{Duration, Without}

-- WRITING

-- the fewest bytes that keep a date: none for all zeros, 4 for a day, 7 with a time of day, 11 with microseconds
abbrev pub date_size : (year month day hour minute second micros : ℕ) → ℕ
date_size year month day hour minute second micros =
    if nat_lt 0 micros then 11
    else if nat_lt 0 (hour + minute + second) then 7
    else if nat_lt 0 (year + month + day) then 4
    else 0

-- the fewest bytes that keep a time: none for all zeros, 8 for whole seconds, 12 with microseconds
abbrev pub time_size : (days hours minutes seconds micros : ℕ) → ℕ
time_size days hours minutes seconds micros =
    if nat_lt 0 micros then 12
    else if nat_lt 0 (days + hours + minutes + seconds) then 8
    else 0

-- the cell of a date: how many bytes follow, and so many of its fields
abbrev pub date_cell : (year month day hour minute second micros : ℕ) → List ℕ
date_cell year month day hour minute second micros =
    let size = date_size year month day hour minute second micros in
    size ∷ take size (little_bytes 2 year ++ month ∷ day ∷ hour ∷ minute ∷ second ∷ little_bytes 4 micros)

-- the cell of a time: how many bytes follow, and so many of its fields, of which the first is 1 for a negative one
abbrev pub time_cell : Bool → (days hours minutes seconds micros : ℕ) → List ℕ
time_cell negative days hours minutes seconds micros =
    let size = time_size days hours minutes seconds micros in
    size ∷ take size ((if negative then 1 else 0) ∷ little_bytes 4 days ++ hours ∷ minutes ∷
    seconds ∷ little_bytes 4 micros)

-- the cell of a value by its own type
abbrev pub cell : Value → List ℕ
cell NULL = []
cell (Bytes bytes) = lenenc_str bytes
cell (Int z) = little_bytes 8 (cast_unsigned w64 z)
cell (UInt n) = little_bytes 8 n
cell (Float bits) = little_bytes 4 bits
cell (Double bits) = little_bytes 8 bits
cell (Date year month day hour minute second micros) = date_cell year month day hour minute second micros
cell (Time negative days hours minutes seconds micros) = time_cell negative days hours minutes seconds micros

-- the bytes of a value's cell
abbrev pub bin_len : Value → ℕ
bin_len NULL = 0
bin_len (Bytes bytes) = length (lenenc_str bytes)
bin_len (Int z) = 8
bin_len (UInt n) = 8
bin_len (Float bits) = 4
bin_len (Double bits) = 8
bin_len (Date year month day hour minute second micros) = 1 + date_size year month day hour minute second micros
bin_len (Time negative days hours minutes seconds micros) = 1 + time_size days hours minutes seconds micros

-- the type that a value is sent by
abbrev pub type_of : Value → ColumnType
type_of NULL = MYSQL_TYPE_NULL
type_of (Bytes bytes) = MYSQL_TYPE_VAR_STRING
type_of (Int z) = MYSQL_TYPE_LONGLONG
type_of (UInt n) = MYSQL_TYPE_LONGLONG
type_of (Float bits) = MYSQL_TYPE_FLOAT
type_of (Double bits) = MYSQL_TYPE_DOUBLE
type_of (Date year month day hour minute second micros) = MYSQL_TYPE_DATETIME
type_of (Time negative days hours minutes seconds micros) = MYSQL_TYPE_TIME

-- its number
abbrev pub type_number : Value → ℕ
type_number value = column_type_number (type_of value)

-- whether a value is sent by a type without a sign
abbrev pub is_unsigned : Value → Bool
is_unsigned NULL = false
is_unsigned (Bytes bytes) = false
is_unsigned (Int z) = false
is_unsigned (UInt n) = true
is_unsigned (Float bits) = false
is_unsigned (Double bits) = false
is_unsigned (Date year month day hour minute second micros) = false
is_unsigned (Time negative days hours minutes seconds micros) = false

-- READING

-- the form of a type's cells
abbrev pub form : ColumnType → CellForm
form MYSQL_TYPE_NULL = Nothing
form MYSQL_TYPE_TINY = Whole1
form MYSQL_TYPE_SHORT = Whole2
form MYSQL_TYPE_YEAR = Whole2
form MYSQL_TYPE_LONG = Whole4
form MYSQL_TYPE_INT24 = Whole4
form MYSQL_TYPE_LONGLONG = Whole8
form MYSQL_TYPE_FLOAT = FloatBits
form MYSQL_TYPE_DOUBLE = DoubleBits
form MYSQL_TYPE_DECIMAL = Counted
form MYSQL_TYPE_NEWDECIMAL = Counted
form MYSQL_TYPE_VARCHAR = Counted
form MYSQL_TYPE_VAR_STRING = Counted
form MYSQL_TYPE_STRING = Counted
form MYSQL_TYPE_TINY_BLOB = Counted
form MYSQL_TYPE_MEDIUM_BLOB = Counted
form MYSQL_TYPE_LONG_BLOB = Counted
form MYSQL_TYPE_BLOB = Counted
form MYSQL_TYPE_ENUM = Counted
form MYSQL_TYPE_SET = Counted
form MYSQL_TYPE_BIT = Counted
form MYSQL_TYPE_JSON = Counted
form MYSQL_TYPE_GEOMETRY = Counted
form MYSQL_TYPE_VECTOR = Counted
form MYSQL_TYPE_DATE = DateAndTime
form MYSQL_TYPE_DATETIME = DateAndTime
form MYSQL_TYPE_TIMESTAMP = DateAndTime
form MYSQL_TYPE_TIME = Duration
form MYSQL_TYPE_NEWDATE = Without
form MYSQL_TYPE_TIMESTAMP2 = Without
form MYSQL_TYPE_DATETIME2 = Without
form MYSQL_TYPE_TIME2 = Without
form MYSQL_TYPE_TYPED_ARRAY = Without
form MYSQL_TYPE_UNKNOWN = Without

-- the form by a type's number; a number without a name has no cells
abbrev pub form_of : ℕ → CellForm
form_of t = unwrap_or (option_map form (column_type_named t)) Without

-- whether a number is the type of a float
abbrev pub is_float : ℕ → Bool
is_float t = t == column_type_number MYSQL_TYPE_FLOAT || t == column_type_number MYSQL_TYPE_DOUBLE

-- Int where it fits, else UInt
abbrev pub unsigned_value : ℕ → Value
unsigned_value n = if nat_lt n (2 ^ 63) then Int (pos n) else UInt n

-- a whole number of this width, with or without a sign
abbrev pub whole_value : Width → Bool → ℕ → Value
whole_value w unsigned n = if unsigned then unsigned_value n else Int (cast_signed w n)

-- the n bytes from i on, as a number; 0 where the cell has fewer bytes than a part of this kind asks for
abbrev pub part : List ℕ → ℕ → ℕ → ℕ → ℕ
part held least i n = if nat_lt (length held) least then 0 else little_number n (drop i held)

-- a date from 4 bytes on, with a time of day from 7 on and microseconds from 11 on
abbrev pub date_of : List ℕ → Value
date_of held = Date (part held 4 0 2) (part held 4 2 1) (part held 4 3 1) (part held 7 4 1)
    (part held 7 5 1) (part held 7 6 1) (part held 11 7 4)

-- a time from 8 bytes on, with microseconds from 12 on; a sign of 1 is negative
abbrev pub time_of : List ℕ → Value
time_of held = Time (part held 8 0 1 == 1) (part held 8 1 4) (part held 8 5 1) (part held 8 6 1)
    (part held 8 7 1) (part held 12 8 4)

-- a number of so many bytes, as a value
abbrev pub number_value_at : ℕ → (ℕ → Value) → List ℕ → Reading Value
number_value_at n made bytes = do
  x ← fixed_number_at n bytes
  Ok (made x.0, x.1)

-- the value that a form's cell holds, and the bytes after it
abbrev pub value_at : CellForm → Bool → List ℕ → Reading Value
value_at Nothing unsigned bytes = Ok (NULL, bytes)
value_at Whole1 unsigned bytes = number_value_at 1 (whole_value w8 unsigned) bytes
value_at Whole2 unsigned bytes = number_value_at 2 (whole_value w16 unsigned) bytes
value_at Whole4 unsigned bytes = number_value_at 4 (whole_value w32 unsigned) bytes
value_at Whole8 unsigned bytes = number_value_at 8 (whole_value w64 unsigned) bytes
value_at FloatBits unsigned bytes = number_value_at 4 (λ n. Float n) bytes
value_at DoubleBits unsigned bytes = number_value_at 8 (λ n. Double n) bytes
value_at Counted unsigned bytes = do
  held ← or_end (lenenc_str_at bytes)
  Ok (Bytes held.0, held.1)
value_at DateAndTime unsigned bytes = do
  held ← or_end (u8_str_at bytes)
  Ok (date_of held.0, held.1)
value_at Duration unsigned bytes = do
  held ← or_end (u8_str_at bytes)
  Ok (time_of held.0, held.1)
value_at Without unsigned bytes = Err UnsupportedType

-- By a type's number and whether it is unsigned, the value of the cell that stands first, and the bytes after it.
unfoldable pub cell_at : ℕ → Bool → List ℕ → Reading Value
cell_at t unsigned bytes = value_at (form_of t) unsigned bytes

-- whether a column's whole numbers have no sign
abbrev pub has_no_sign : ColumnFlags → Bool
has_no_sign flags = contains flags.0 0x20

-- the value of the cell that stands first, by its column's type and flags
abbrev pub column_cell_at : ColumnType × ColumnFlags → List ℕ → Reading Value
column_cell_at column bytes = cell_at (column_type_number column.0) (has_no_sign column.1) bytes

-- The value of the text protocol's cell that stands first: fb for NULL, else length-encoded bytes,
-- whose length ff can't begin.
unfoldable pub text_cell_at : List ℕ → Reading Value
text_cell_at [] = Err UnexpectedEof
text_cell_at (b ∷ bytes) =
    if b == 251 then Ok (NULL, bytes)
    else if b == 255 then Err BadLength
    else do
      held ← or_end (lenenc_str_at (b ∷ bytes))
      Ok (Bytes held.0, held.1)
