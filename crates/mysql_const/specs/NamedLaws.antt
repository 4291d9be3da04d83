-- Every name of an enumeration of the protocol is read back from its number.
use Rattle.std.proofs.Common.{◌≡◌, Some, refl}
use Rattle.mysql_const.specs.declared.command.Command.{Command}
use Rattle.mysql_const.specs.declared.command.Command.TheVariants.{COM_SLEEP, COM_QUIT, COM_INIT_DB, COM_QUERY}
use Rattle.mysql_const.specs.declared.command.Command.TheVariants.{COM_FIELD_LIST, COM_CREATE_DB, COM_DROP_DB}
use Rattle.mysql_const.specs.declared.command.Command.TheVariants.{COM_REFRESH, COM_DEPRECATED_1, COM_STATISTICS}
use Rattle.mysql_const.specs.declared.command.Command.TheVariants.{COM_PROCESS_INFO, COM_CONNECT, COM_PROCESS_KILL}
use Rattle.mysql_const.specs.declared.command.Command.TheVariants.{COM_DEBUG, COM_PING, COM_TIME, COM_DELAYED_INSERT}
use Rattle.mysql_const.specs.declared.command.Command.TheVariants.{COM_CHANGE_USER, COM_BINLOG_DUMP, COM_TABLE_DUMP}
use Rattle.mysql_const.specs.declared.command.Command.TheVariants.{COM_CONNECT_OUT, COM_REGISTER_SLAVE}
use Rattle.mysql_const.specs.declared.command.Command.TheVariants.{COM_STMT_PREPARE, COM_STMT_EXECUTE}
use Rattle.mysql_const.specs.declared.command.Command.TheVariants.{COM_STMT_SEND_LONG_DATA, COM_STMT_CLOSE}
use Rattle.mysql_const.specs.declared.command.Command.TheVariants.{COM_STMT_RESET, COM_SET_OPTION, COM_STMT_FETCH}
use Rattle.mysql_const.specs.declared.command.Command.TheVariants.{COM_DAEMON, COM_BINLOG_DUMP_GTID}
use Rattle.mysql_const.specs.declared.command.Command.TheVariants.{COM_RESET_CONNECTION, COM_END, COM_STMT_BULK_EXECUTE}
use Rattle.mysql_const.specs.Commands.{command_named, command_number}
use Rattle.mysql_const.specs.declared.column_type.ColumnType.{ColumnType}
use Rattle.mysql_const.specs.declared.column_type.ColumnType.TheVariants.{MYSQL_TYPE_DECIMAL, MYSQL_TYPE_TINY}
use Rattle.mysql_const.specs.declared.column_type.ColumnType.TheVariants.{MYSQL_TYPE_SHORT, MYSQL_TYPE_LONG}
use Rattle.mysql_const.specs.declared.column_type.ColumnType.TheVariants.{MYSQL_TYPE_FLOAT, MYSQL_TYPE_DOUBLE}
use Rattle.mysql_const.specs.declared.column_type.ColumnType.TheVariants.{MYSQL_TYPE_NULL, MYSQL_TYPE_TIMESTAMP}
use Rattle.mysql_const.specs.declared.column_type.ColumnType.TheVariants.{MYSQL_TYPE_LONGLONG, MYSQL_TYPE_INT24}
use Rattle.mysql_const.specs.declared.column_type.ColumnType.TheVariants.{MYSQL_TYPE_DATE, MYSQL_TYPE_TIME}
use Rattle.mysql_const.specs.declared.column_type.ColumnType.TheVariants.{MYSQL_TYPE_DATETIME, MYSQL_TYPE_YEAR}
use Rattle.mysql_const.specs.declared.column_type.ColumnType.TheVariants.{MYSQL_TYPE_NEWDATE, MYSQL_TYPE_VARCHAR}
use Rattle.mysql_const.specs.declared.column_type.ColumnType.TheVariants.{MYSQL_TYPE_BIT, MYSQL_TYPE_TIMESTAMP2}
use Rattle.mysql_const.specs.declared.column_type.ColumnType.TheVariants.{MYSQL_TYPE_DATETIME2, MYSQL_TYPE_TIME2}
use Rattle.mysql_const.specs.declared.column_type.ColumnType.TheVariants.{MYSQL_TYPE_TYPED_ARRAY, MYSQL_TYPE_VECTOR}
use Rattle.mysql_const.specs.declared.column_type.ColumnType.TheVariants.{MYSQL_TYPE_UNKNOWN, MYSQL_TYPE_JSON}
use Rattle.mysql_const.specs.declared.column_type.ColumnType.TheVariants.{MYSQL_TYPE_NEWDECIMAL, MYSQL_TYPE_ENUM}
use Rattle.mysql_const.specs.declared.column_type.ColumnType.TheVariants.{MYSQL_TYPE_SET, MYSQL_TYPE_TINY_BLOB}
use Rattle.mysql_const.specs.declared.column_type.ColumnType.TheVariants.{MYSQL_TYPE_MEDIUM_BLOB, MYSQL_TYPE_LONG_BLOB}
use Rattle.mysql_const.specs.declared.column_type.ColumnType.TheVariants.{MYSQL_TYPE_BLOB, MYSQL_TYPE_VAR_STRING}
use Rattle.mysql_const.specs.declared.column_type.ColumnType.TheVariants.{MYSQL_TYPE_STRING, MYSQL_TYPE_GEOMETRY}
use Rattle.mysql_const.specs.ColumnTypes.{column_type_named, column_type_number}
use Rattle.mysql_const.specs.declared.bulk.MariadbBulkIndicator.{MariadbBulkIndicator}
use Rattle.mysql_const.specs.declared.bulk.MariadbBulkIndicator.TheVariants.{BULK_INDICATOR_NONE, BULK_INDICATOR_NULL}
use Rattle.mysql_const.specs.declared.bulk.MariadbBulkIndicator.TheVariants.{BULK_INDICATOR_DEFAULT}
use Rattle.mysql_const.specs.declared.bulk.MariadbBulkIndicator.TheVariants.{BULK_INDICATOR_IGNORE}
use Rattle.mysql_const.specs.BulkIndicators.{bulk_indicator_named, bulk_indicator_number}
use Rattle.mysql_const.specs.declared.session_state.SessionStateType.{SessionStateType}
use Rattle.mysql_const.specs.declared.session_state.SessionStateType.TheVariants.{SESSION_TRACK_SYSTEM_VARIABLES}
use Rattle.mysql_const.specs.declared.session_state.SessionStateType.TheVariants.{SESSION_TRACK_SCHEMA}
use Rattle.mysql_const.specs.declared.session_state.SessionStateType.TheVariants.{SESSION_TRACK_STATE_CHANGE}
use Rattle.mysql_const.specs.declared.session_state.SessionStateType.TheVariants.{SESSION_TRACK_GTIDS}
use Rattle.mysql_const.specs.declared.session_state.SessionStateType.TheVariants.{
  SESSION_TRACK_TRANSACTION_CHARACTERISTICS,
}
use Rattle.mysql_const.specs.declared.session_state.SessionStateType.TheVariants.{SESSION_TRACK_TRANSACTION_STATE}
use Rattle.mysql_const.specs.SessionStates.{session_state_named, session_state_number}
use Rattle.mysql_const.specs.declared.geometry.GeometryType.{GeometryType}
use Rattle.mysql_const.specs.declared.geometry.GeometryType.TheVariants.{GEOM_GEOMETRY, GEOM_POINT, GEOM_LINESTRING}
use Rattle.mysql_const.specs.declared.geometry.GeometryType.TheVariants.{GEOM_POLYGON, GEOM_MULTIPOINT}
use Rattle.mysql_const.specs.declared.geometry.GeometryType.TheVariants.{GEOM_MULTILINESTRING, GEOM_MULTIPOLYGON}
use Rattle.mysql_const.specs.declared.geometry.GeometryType.TheVariants.{GEOM_GEOMETRYCOLLECTION}
use Rattle.mysql_const.specs.Geometries.{geometry_named, geometry_number}
use Rattle.mysql_const.specs.declared.item_result.ItemResult.{ItemResult}
use Rattle.mysql_const.specs.declared.item_result.ItemResult.TheVariants.{INVALID_RESULT, STRING_RESULT, REAL_RESULT}
use Rattle.mysql_const.specs.declared.item_result.ItemResult.TheVariants.{INT_RESULT, ROW_RESULT, DECIMAL_RESULT}
use Rattle.mysql_const.specs.ItemResults.{item_result_named, item_result_number}

pub command-names_back : (x : Command) → command_named (command_number x) ≡ Some x
command-names_back COM_SLEEP = refl
command-names_back COM_QUIT = refl
command-names_back COM_INIT_DB = refl
command-names_back COM_QUERY = refl
command-names_back COM_FIELD_LIST = refl
command-names_back COM_CREATE_DB = refl
command-names_back COM_DROP_DB = refl
command-names_back COM_REFRESH = refl
command-names_back COM_DEPRECATED_1 = refl
command-names_back COM_STATISTICS = refl
command-names_back COM_PROCESS_INFO = refl
command-names_back COM_CONNECT = refl
command-names_back COM_PROCESS_KILL = refl
command-names_back COM_DEBUG = refl
command-names_back COM_PING = refl
command-names_back COM_TIME = refl
command-names_back COM_DELAYED_INSERT = refl
command-names_back COM_CHANGE_USER = refl
command-names_back COM_BINLOG_DUMP = refl
command-names_back COM_TABLE_DUMP = refl
command-names_back COM_CONNECT_OUT = refl
command-names_back COM_REGISTER_SLAVE = refl
command-names_back COM_STMT_PREPARE = refl
command-names_back COM_STMT_EXECUTE = refl
command-names_back COM_STMT_SEND_LONG_DATA = refl
command-names_back COM_STMT_CLOSE = refl
command-names_back COM_STMT_RESET = refl
command-names_back COM_SET_OPTION = refl
command-names_back COM_STMT_FETCH = refl
command-names_back COM_DAEMON = refl
command-names_back COM_BINLOG_DUMP_GTID = refl
command-names_back COM_RESET_CONNECTION = refl
command-names_back COM_END = refl
command-names_back COM_STMT_BULK_EXECUTE = refl

pub column_type-names_back : (x : ColumnType) → column_type_named (column_type_number x) ≡ Some x
column_type-names_back MYSQL_TYPE_DECIMAL = refl
column_type-names_back MYSQL_TYPE_TINY = refl
column_type-names_back MYSQL_TYPE_SHORT = refl
column_type-names_back MYSQL_TYPE_LONG = refl
column_type-names_back MYSQL_TYPE_FLOAT = refl
column_type-names_back MYSQL_TYPE_DOUBLE = refl
column_type-names_back MYSQL_TYPE_NULL = refl
column_type-names_back MYSQL_TYPE_TIMESTAMP = refl
column_type-names_back MYSQL_TYPE_LONGLONG = refl
column_type-names_back MYSQL_TYPE_INT24 = refl
column_type-names_back MYSQL_TYPE_DATE = refl
column_type-names_back MYSQL_TYPE_TIME = refl
column_type-names_back MYSQL_TYPE_DATETIME = refl
column_type-names_back MYSQL_TYPE_YEAR = refl
column_type-names_back MYSQL_TYPE_NEWDATE = refl
column_type-names_back MYSQL_TYPE_VARCHAR = refl
column_type-names_back MYSQL_TYPE_BIT = refl
column_type-names_back MYSQL_TYPE_TIMESTAMP2 = refl
column_type-names_back MYSQL_TYPE_DATETIME2 = refl
column_type-names_back MYSQL_TYPE_TIME2 = refl
column_type-names_back MYSQL_TYPE_TYPED_ARRAY = refl
column_type-names_back MYSQL_TYPE_VECTOR = refl
column_type-names_back MYSQL_TYPE_UNKNOWN = refl
column_type-names_back MYSQL_TYPE_JSON = refl
column_type-names_back MYSQL_TYPE_NEWDECIMAL = refl
column_type-names_back MYSQL_TYPE_ENUM = refl
column_type-names_back MYSQL_TYPE_SET = refl
column_type-names_back MYSQL_TYPE_TINY_BLOB = refl
column_type-names_back MYSQL_TYPE_MEDIUM_BLOB = refl
column_type-names_back MYSQL_TYPE_LONG_BLOB = refl
column_type-names_back MYSQL_TYPE_BLOB = refl
column_type-names_back MYSQL_TYPE_VAR_STRING = refl
column_type-names_back MYSQL_TYPE_STRING = refl
column_type-names_back MYSQL_TYPE_GEOMETRY = refl

pub bulk_indicator-names_back : (x : MariadbBulkIndicator) → bulk_indicator_named (bulk_indicator_number x) ≡ Some x
bulk_indicator-names_back BULK_INDICATOR_NONE = refl
bulk_indicator-names_back BULK_INDICATOR_NULL = refl
bulk_indicator-names_back BULK_INDICATOR_DEFAULT = refl
bulk_indicator-names_back BULK_INDICATOR_IGNORE = refl

pub session_state-names_back : (x : SessionStateType) → session_state_named (session_state_number x) ≡ Some x
session_state-names_back SESSION_TRACK_SYSTEM_VARIABLES = refl
session_state-names_back SESSION_TRACK_SCHEMA = refl
session_state-names_back SESSION_TRACK_STATE_CHANGE = refl
session_state-names_back SESSION_TRACK_GTIDS = refl
session_state-names_back SESSION_TRACK_TRANSACTION_CHARACTERISTICS = refl
session_state-names_back SESSION_TRACK_TRANSACTION_STATE = refl

pub geometry-names_back : (x : GeometryType) → geometry_named (geometry_number x) ≡ Some x
geometry-names_back GEOM_GEOMETRY = refl
geometry-names_back GEOM_POINT = refl
geometry-names_back GEOM_LINESTRING = refl
geometry-names_back GEOM_POLYGON = refl
geometry-names_back GEOM_MULTIPOINT = refl
geometry-names_back GEOM_MULTILINESTRING = refl
geometry-names_back GEOM_MULTIPOLYGON = refl
geometry-names_back GEOM_GEOMETRYCOLLECTION = refl

pub item_result-names_back : (x : ItemResult) → item_result_named (item_result_number x) ≡ Some x
item_result-names_back INVALID_RESULT = refl
item_result-names_back STRING_RESULT = refl
item_result-names_back REAL_RESULT = refl
item_result-names_back INT_RESULT = refl
item_result-names_back ROW_RESULT = refl
item_result-names_back DECIMAL_RESULT = refl
