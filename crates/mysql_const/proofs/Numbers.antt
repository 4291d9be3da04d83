-- Names are read back from their numbers.
use Rattle.std.proofs.Common.{◌≡◌, List, [], ◌∷◌, Option, Some, refl, ap, ◌∙◌}
use Rattle.std.specs.Prelude.{Bool, true, false, nat_eq, if◌then◌else◌}
use Rattle.std.specs.Ordering.{int_eq}
use Rattle.std.specs.Bool.{Decides}
use Rattle.std.proofs.lemmas.Bool.Decides.{Decides-eqb, Decides-int_eq}
use Rattle.std.proofs.lemmas.Option.{none-some, cond_some}
use Rattle.mysql_const.specs.NamedLaws.{bulk_indicator-names_back, column_type-names_back, command-names_back}
use Rattle.mysql_const.specs.NamedLaws.{geometry-names_back, item_result-names_back, session_state-names_back}
use Rattle.mysql_const.specs.Tables.{numbered, entry_of, IsTable}
use Rattle.mysql_const.specs.Commands.{command_number, command_named}
use Rattle.mysql_const.specs.declared.command.Command.TheVariants.{COM_SLEEP, COM_QUIT, COM_INIT_DB, COM_QUERY}
use Rattle.mysql_const.specs.declared.command.Command.TheVariants.{COM_FIELD_LIST, COM_CREATE_DB, COM_DROP_DB}
use Rattle.mysql_const.specs.declared.command.Command.TheVariants.{COM_REFRESH, COM_DEPRECATED_1, COM_STATISTICS}
use Rattle.mysql_const.specs.declared.command.Command.TheVariants.{COM_PROCESS_INFO, COM_CONNECT, COM_PROCESS_KILL}
use Rattle.mysql_const.specs.declared.command.Command.TheVariants.{COM_DEBUG, COM_PING, COM_TIME, COM_DELAYED_INSERT}
use Rattle.mysql_const.specs.declared.command.Command.TheVariants.{COM_CHANGE_USER, COM_BINLOG_DUMP, COM_TABLE_DUMP}
use Rattle.mysql_const.specs.declared.command.Command.TheVariants.{COM_CONNECT_OUT, COM_REGISTER_SLAVE}
use Rattle.mysql_const.specs.declared.command.Command.TheVariants.{COM_STMT_PREPARE, COM_STMT_EXECUTE}
use Rattle.mysql_const.specs.declared.command.Command.TheVariants.{COM_STMT_SEND_LONG_DATA, COM_STMT_CLOSE}
use Rattle.mysql_const.specs.declared.command.Command.TheVariants.{COM_STMT_RESET, COM_SET_OPTION, COM_STMT_FETCH}
use Rattle.mysql_const.specs.declared.command.Command.TheVariants.{COM_DAEMON, COM_BINLOG_DUMP_GTID}
use Rattle.mysql_const.specs.declared.command.Command.TheVariants.{COM_RESET_CONNECTION, COM_END, COM_STMT_BULK_EXECUTE}
use Rattle.mysql_const.specs.ColumnTypes.{column_type_number, column_type_named}
use Rattle.mysql_const.specs.declared.column_type.ColumnType.TheVariants.{MYSQL_TYPE_DECIMAL, MYSQL_TYPE_TINY}
use Rattle.mysql_const.specs.declared.column_type.ColumnType.TheVariants.{MYSQL_TYPE_SHORT, MYSQL_TYPE_LONG}
use Rattle.mysql_const.specs.declared.column_type.ColumnType.TheVariants.{MYSQL_TYPE_FLOAT, MYSQL_TYPE_DOUBLE}
use Rattle.mysql_const.specs.declared.column_type.ColumnType.TheVariants.{MYSQL_TYPE_NULL, MYSQL_TYPE_TIMESTAMP}
use Rattle.mysql_const.specs.declared.column_type.ColumnType.TheVariants.{MYSQL_TYPE_LONGLONG, MYSQL_TYPE_INT24}
use Rattle.mysql_const.specs.declared.column_type.ColumnType.TheVariants.{MYSQL_TYPE_DATE, MYSQL_TYPE_TIME}
use Rattle.mysql_const.specs.declared.column_type.ColumnType.TheVariants.{MYSQL_TYPE_DATETIME, MYSQL_TYPE_YEAR}
use Rattle.mysql_const.specs.declared.column_type.ColumnType.TheVariants.{MYSQL_TYPE_NEWDATE, MYSQL_TYPE_VARCHAR}
use Rattle.mysql_const.specs.declared.column_type.ColumnType.TheVariants.{MYSQL_TYPE_BIT, MYSQL_TYPE_TIMESTAMP2}
use Rattle.mysql_const.specs.declared.column_type.ColumnType.TheVariants.{MYSQL_TYPE_DATETIME2, MYSQL_TYPE_TIME2}
use Rattle.mysql_const.specs.declared.column_type.ColumnType.TheVariants.{MYSQL_TYPE_TYPED_ARRAY, MYSQL_TYPE_VECTOR}
use Rattle.mysql_const.specs.declared.column_type.ColumnType.TheVariants.{MYSQL_TYPE_UNKNOWN, MYSQL_TYPE_JSON}
use Rattle.mysql_const.specs.declared.column_type.ColumnType.TheVariants.{MYSQL_TYPE_NEWDECIMAL, MYSQL_TYPE_ENUM}
use Rattle.mysql_const.specs.declared.column_type.ColumnType.TheVariants.{MYSQL_TYPE_SET, MYSQL_TYPE_TINY_BLOB}
use Rattle.mysql_const.specs.declared.column_type.ColumnType.TheVariants.{MYSQL_TYPE_MEDIUM_BLOB, MYSQL_TYPE_LONG_BLOB}
use Rattle.mysql_const.specs.declared.column_type.ColumnType.TheVariants.{MYSQL_TYPE_BLOB, MYSQL_TYPE_VAR_STRING}
use Rattle.mysql_const.specs.declared.column_type.ColumnType.TheVariants.{MYSQL_TYPE_STRING, MYSQL_TYPE_GEOMETRY}
use Rattle.mysql_const.specs.BulkIndicators.{bulk_indicator_number, bulk_indicator_named}
use Rattle.mysql_const.specs.declared.bulk.MariadbBulkIndicator.TheVariants.{BULK_INDICATOR_NONE, BULK_INDICATOR_NULL}
use Rattle.mysql_const.specs.declared.bulk.MariadbBulkIndicator.TheVariants.{BULK_INDICATOR_DEFAULT}
use Rattle.mysql_const.specs.declared.bulk.MariadbBulkIndicator.TheVariants.{BULK_INDICATOR_IGNORE}
use Rattle.mysql_const.specs.SessionStates.{session_state_number, session_state_named}
use Rattle.mysql_const.specs.declared.session_state.SessionStateType.TheVariants.{SESSION_TRACK_SYSTEM_VARIABLES}
use Rattle.mysql_const.specs.declared.session_state.SessionStateType.TheVariants.{SESSION_TRACK_SCHEMA}
use Rattle.mysql_const.specs.declared.session_state.SessionStateType.TheVariants.{SESSION_TRACK_STATE_CHANGE}
use Rattle.mysql_const.specs.declared.session_state.SessionStateType.TheVariants.{SESSION_TRACK_GTIDS}
use Rattle.mysql_const.specs.declared.session_state.SessionStateType.TheVariants.{
  SESSION_TRACK_TRANSACTION_CHARACTERISTICS,
}
use Rattle.mysql_const.specs.declared.session_state.SessionStateType.TheVariants.{SESSION_TRACK_TRANSACTION_STATE}
use Rattle.mysql_const.specs.Geometries.{geometry_number, geometry_named}
use Rattle.mysql_const.specs.declared.geometry.GeometryType.TheVariants.{GEOM_GEOMETRY, GEOM_POINT, GEOM_LINESTRING}
use Rattle.mysql_const.specs.declared.geometry.GeometryType.TheVariants.{GEOM_POLYGON, GEOM_MULTIPOINT}
use Rattle.mysql_const.specs.declared.geometry.GeometryType.TheVariants.{GEOM_MULTILINESTRING, GEOM_MULTIPOLYGON}
use Rattle.mysql_const.specs.declared.geometry.GeometryType.TheVariants.{GEOM_GEOMETRYCOLLECTION}
use Rattle.mysql_const.specs.ItemResults.{item_result_number, item_result_named}
use Rattle.mysql_const.specs.declared.item_result.ItemResult.TheVariants.{INVALID_RESULT, STRING_RESULT, REAL_RESULT}
use Rattle.mysql_const.specs.declared.item_result.ItemResult.TheVariants.{INT_RESULT, ROW_RESULT, DECIMAL_RESULT}

-- What is found stands in the first row, or in those behind it.
in_first_or_others : {X : Type 0} (P : Type 0) (found : Bool) (first name : X) (others : Option X) →
    (found ≡ true → first ≡ name → P) → (others ≡ Some name → P) →
    (if found then Some first else others) ≡ Some name → P
in_first_or_others P true first name others in_first in_others h = in_first refl (cond_some true first name h).1
in_first_or_others P false first name others in_first in_others h = in_others h

-- A number that a table of numbered names reads as a name is this name's number.
only_its_number : {N X : Type 0} (same : N → N → Bool) (tells : (a b : N) →
    Decides (same a b) (a ≡ b)) (number : X → N) (names : List X) (n : N) (name : X) →
    entry_of same (numbered number names) n ≡ Some name → n ≡ number name
only_its_number same tells number [] n name h = elim (none-some name h) [ ]
only_its_number same tells number (first ∷ others) n name h =
    in_first_or_others (n ≡ number name) (same n (number first)) first name (entry_of same (numbered number others) n)
    (λ found is. (tells n (number first)).0 found ∙ ap number is)
    (only_its_number same tells number others n name)
    h

pub commands_are_a_table : IsTable command_number command_named
commands_are_a_table = (
  command-names_back,
  only_its_number nat_eq Decides-eqb command_number (COM_SLEEP ∷ COM_QUIT ∷ COM_INIT_DB ∷
      COM_QUERY ∷ COM_FIELD_LIST ∷ COM_CREATE_DB ∷ COM_DROP_DB ∷ COM_REFRESH ∷ COM_DEPRECATED_1 ∷
      COM_STATISTICS ∷ COM_PROCESS_INFO ∷ COM_CONNECT ∷ COM_PROCESS_KILL ∷ COM_DEBUG ∷ COM_PING ∷
      COM_TIME ∷ COM_DELAYED_INSERT ∷ COM_CHANGE_USER ∷ COM_BINLOG_DUMP ∷ COM_TABLE_DUMP ∷
      COM_CONNECT_OUT ∷ COM_REGISTER_SLAVE ∷ COM_STMT_PREPARE ∷ COM_STMT_EXECUTE ∷
      COM_STMT_SEND_LONG_DATA ∷ COM_STMT_CLOSE ∷ COM_STMT_RESET ∷ COM_SET_OPTION ∷ COM_STMT_FETCH ∷
      COM_DAEMON ∷ COM_BINLOG_DUMP_GTID ∷ COM_RESET_CONNECTION ∷ COM_END ∷ COM_STMT_BULK_EXECUTE ∷
      []),
)

pub column_types_are_a_table : IsTable column_type_number column_type_named
column_types_are_a_table = (
  column_type-names_back,
  only_its_number nat_eq Decides-eqb column_type_number
      (MYSQL_TYPE_DECIMAL ∷ MYSQL_TYPE_TINY ∷ MYSQL_TYPE_SHORT ∷ MYSQL_TYPE_LONG ∷ MYSQL_TYPE_FLOAT ∷
      MYSQL_TYPE_DOUBLE ∷ MYSQL_TYPE_NULL ∷ MYSQL_TYPE_TIMESTAMP ∷ MYSQL_TYPE_LONGLONG ∷
      MYSQL_TYPE_INT24 ∷ MYSQL_TYPE_DATE ∷ MYSQL_TYPE_TIME ∷ MYSQL_TYPE_DATETIME ∷ MYSQL_TYPE_YEAR ∷
      MYSQL_TYPE_NEWDATE ∷ MYSQL_TYPE_VARCHAR ∷ MYSQL_TYPE_BIT ∷ MYSQL_TYPE_TIMESTAMP2 ∷
      MYSQL_TYPE_DATETIME2 ∷ MYSQL_TYPE_TIME2 ∷ MYSQL_TYPE_TYPED_ARRAY ∷ MYSQL_TYPE_VECTOR ∷
      MYSQL_TYPE_UNKNOWN ∷ MYSQL_TYPE_JSON ∷ MYSQL_TYPE_NEWDECIMAL ∷ MYSQL_TYPE_ENUM ∷
      MYSQL_TYPE_SET ∷ MYSQL_TYPE_TINY_BLOB ∷ MYSQL_TYPE_MEDIUM_BLOB ∷ MYSQL_TYPE_LONG_BLOB ∷
      MYSQL_TYPE_BLOB ∷ MYSQL_TYPE_VAR_STRING ∷ MYSQL_TYPE_STRING ∷ MYSQL_TYPE_GEOMETRY ∷ []),
)

pub bulk_indicators_are_a_table : IsTable bulk_indicator_number bulk_indicator_named
bulk_indicators_are_a_table = (
  bulk_indicator-names_back,
  only_its_number nat_eq Decides-eqb bulk_indicator_number (BULK_INDICATOR_NONE ∷
      BULK_INDICATOR_NULL ∷ BULK_INDICATOR_DEFAULT ∷ BULK_INDICATOR_IGNORE ∷ []),
)

pub session_states_are_a_table : IsTable session_state_number session_state_named
session_states_are_a_table = (
  session_state-names_back,
  only_its_number nat_eq Decides-eqb session_state_number (SESSION_TRACK_SYSTEM_VARIABLES ∷
      SESSION_TRACK_SCHEMA ∷ SESSION_TRACK_STATE_CHANGE ∷ SESSION_TRACK_GTIDS ∷
      SESSION_TRACK_TRANSACTION_CHARACTERISTICS ∷ SESSION_TRACK_TRANSACTION_STATE ∷ []),
)

pub geometries_are_a_table : IsTable geometry_number geometry_named
geometries_are_a_table = (
  geometry-names_back,
  only_its_number nat_eq Decides-eqb geometry_number (GEOM_GEOMETRY ∷ GEOM_POINT ∷
      GEOM_LINESTRING ∷ GEOM_POLYGON ∷ GEOM_MULTIPOINT ∷ GEOM_MULTILINESTRING ∷ GEOM_MULTIPOLYGON ∷
      GEOM_GEOMETRYCOLLECTION ∷ []),
)

pub item_results_are_a_table : IsTable item_result_number item_result_named
item_results_are_a_table = (
  item_result-names_back,
  only_its_number int_eq Decides-int_eq item_result_number
      (INVALID_RESULT ∷ STRING_RESULT ∷ REAL_RESULT ∷ INT_RESULT ∷ ROW_RESULT ∷ DECIMAL_RESULT ∷ []),
)
