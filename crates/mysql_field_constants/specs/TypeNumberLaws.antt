-- The number of a column's type fits a byte.
-- MySQL: Client/Server Protocol, "Column Definition".
use Rattle.std.proofs.Common.{◌^◌, ◌<◌, lit<}
use Rattle.mysql_const.specs.ColumnTypes.{column_type_number}
use Rattle.mysql_const.specs.declared.column_type.ColumnType.{ColumnType}
use Rattle.mysql_const.specs.declared.column_type.ColumnType.TheVariants.{MYSQL_TYPE_DECIMAL, MYSQL_TYPE_TINY}
use Rattle.mysql_const.specs.declared.column_type.ColumnType.TheVariants.{MYSQL_TYPE_SHORT, MYSQL_TYPE_LONG}
use Rattle.mysql_const.specs.declared.column_type.ColumnType.TheVariants.{MYSQL_TYPE_FLOAT, MYSQL_TYPE_DOUBLE}
use Rattle.mysql_const.specs.declared.column_type.ColumnType.TheVariants.{MYSQL_TYPE_NULL, MYSQL_TYPE_TIMESTAMP}
use Rattle.mysql_const.specs.declared.column_type.ColumnType.TheVariants.{MYSQL_TYPE_LONGLONG, MYSQL_TYPE_INT24}
use Rattle.mysql_const.specs.declared.column_type.ColumnType.TheVariants.{MYSQL_TYPE_DATE, MYSQL_TYPE_TIME}
use Rattle.mysql_const.specs.declared.column_type.ColumnType.TheVariants.{MYSQL_TYPE_DATETIME, MYSQL_TYPE_YEAR}
use Rattle.mysql_const.specs.declared.column_type.ColumnType.TheVariants.{MYSQL_TYPE_NEWDATE, MYSQL_TYPE_VARCHAR}
use Rattle.mysql_const.specs.declared.column_type.ColumnType.TheVariants.{MYSQL_TYPE_BIT, MYSQL_TYPE_TIMESTAMP2}
use Rattle.mysql_const.specs.declared.column_type.ColumnType.TheVariants.{MYSQL_TYPE_DATETIME2, MYSQL_TYPE_TIME2}
use Rattle.mysql_const.specs.declared.column_type.ColumnType.TheVariants.{MYSQL_TYPE_TYPED_ARRAY, MYSQL_TYPE_VECTOR}
use Rattle.mysql_const.specs.declared.column_type.ColumnType.TheVariants.{MYSQL_TYPE_UNKNOWN, MYSQL_TYPE_JSON}
use Rattle.mysql_const.specs.declared.column_type.ColumnType.TheVariants.{MYSQL_TYPE_NEWDECIMAL, MYSQL_TYPE_ENUM}
use Rattle.mysql_const.specs.declared.column_type.ColumnType.TheVariants.{MYSQL_TYPE_SET, MYSQL_TYPE_TINY_BLOB}
use Rattle.mysql_const.specs.declared.column_type.ColumnType.TheVariants.{MYSQL_TYPE_MEDIUM_BLOB, MYSQL_TYPE_LONG_BLOB}
use Rattle.mysql_const.specs.declared.column_type.ColumnType.TheVariants.{MYSQL_TYPE_BLOB, MYSQL_TYPE_VAR_STRING}
use Rattle.mysql_const.specs.declared.column_type.ColumnType.TheVariants.{MYSQL_TYPE_STRING, MYSQL_TYPE_GEOMETRY}

pub type_number-bound : (t : ColumnType) → column_type_number t < 2 ^ 8
type_number-bound MYSQL_TYPE_DECIMAL = lit< tt
type_number-bound MYSQL_TYPE_TINY = lit< tt
type_number-bound MYSQL_TYPE_SHORT = lit< tt
type_number-bound MYSQL_TYPE_LONG = lit< tt
type_number-bound MYSQL_TYPE_FLOAT = lit< tt
type_number-bound MYSQL_TYPE_DOUBLE = lit< tt
type_number-bound MYSQL_TYPE_NULL = lit< tt
type_number-bound MYSQL_TYPE_TIMESTAMP = lit< tt
type_number-bound MYSQL_TYPE_LONGLONG = lit< tt
type_number-bound MYSQL_TYPE_INT24 = lit< tt
type_number-bound MYSQL_TYPE_DATE = lit< tt
type_number-bound MYSQL_TYPE_TIME = lit< tt
type_number-bound MYSQL_TYPE_DATETIME = lit< tt
type_number-bound MYSQL_TYPE_YEAR = lit< tt
type_number-bound MYSQL_TYPE_NEWDATE = lit< tt
type_number-bound MYSQL_TYPE_VARCHAR = lit< tt
type_number-bound MYSQL_TYPE_BIT = lit< tt
type_number-bound MYSQL_TYPE_TIMESTAMP2 = lit< tt
type_number-bound MYSQL_TYPE_DATETIME2 = lit< tt
type_number-bound MYSQL_TYPE_TIME2 = lit< tt
type_number-bound MYSQL_TYPE_TYPED_ARRAY = lit< tt
type_number-bound MYSQL_TYPE_VECTOR = lit< tt
type_number-bound MYSQL_TYPE_UNKNOWN = lit< tt
type_number-bound MYSQL_TYPE_JSON = lit< tt
type_number-bound MYSQL_TYPE_NEWDECIMAL = lit< tt
type_number-bound MYSQL_TYPE_ENUM = lit< tt
type_number-bound MYSQL_TYPE_SET = lit< tt
type_number-bound MYSQL_TYPE_TINY_BLOB = lit< tt
type_number-bound MYSQL_TYPE_MEDIUM_BLOB = lit< tt
type_number-bound MYSQL_TYPE_LONG_BLOB = lit< tt
type_number-bound MYSQL_TYPE_BLOB = lit< tt
type_number-bound MYSQL_TYPE_VAR_STRING = lit< tt
type_number-bound MYSQL_TYPE_STRING = lit< tt
type_number-bound MYSQL_TYPE_GEOMETRY = lit< tt
