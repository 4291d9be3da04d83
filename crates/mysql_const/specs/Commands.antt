-- Commands by their numbers.
-- MySQL: Client/Server Protocol, "Command Phase" (enum_server_command); MariaDB: Client/Server Protocol,
-- "COM_STMT_BULK_EXECUTE".
use Rattle.std.specs.Prelude.{◌∷◌, [], List, Option, ℕ, nat_eq}
use Rattle.mysql_const.specs.Tables.{numbered, entry_of}
use Rattle.mysql_const.specs.declared.command.Command.{Command}
use Rattle.mysql_const.specs.declared.command.Command.TheVariants.{COM_SLEEP, COM_QUIT, COM_INIT_DB, COM_QUERY}
use Rattle.mysql_const.specs.declared.command.Command.TheVariants.{COM_FIELD_LIST, COM_CREATE_DB, COM_DROP_DB}
use Rattle.mysql_const.specs.declared.command.Command.TheVariants.{COM_REFRESH, COM_DEPRECATED_1, COM_STATISTICS}
use Rattle.mysql_const.specs.declared.command.Command.TheVariants.{COM_PROCESS_INFO, COM_CONNECT, COM_PROCESS_KILL}
use Rattle.mysql_const.specs.declared.command.Command.TheVariants.{COM_DEBUG, COM_PING, COM_TIME, COM_DELAYED_INSERT}
use Rattle.mysql_const.specs.declared.command.Command.TheVariants.{COM_CHANGE_USER, COM_BINLOG_DUMP, COM_TABLE_DUMP}
use Rattle.mysql_const.specs.declared.command.Command.TheVariants.{COM_CONNECT_OUT, COM_REGISTER_SLAVE}
use Rattle.mysql_const.specs.declared.command.Command.TheVariants.{COM_STMT_PREPARE, COM_STMT_EXECUTE}
use Rattle.mysql_const.specs.declared.command.Command.TheVariants.{COM_STMT_SEND_LONG_DATA, COM_STMT_CLOSE}
use Rattle.mysql_const.specs.declared.command.Command.TheVariants.{COM_STMT_RESET, COM_SET_OPTION, COM_STMT_FETCH}
use Rattle.mysql_const.specs.declared.command.Command.TheVariants.{COM_DAEMON, COM_BINLOG_DUMP_GTID}
use Rattle.mysql_const.specs.declared.command.Command.TheVariants.{COM_RESET_CONNECTION, COM_END, COM_STMT_BULK_EXECUTE}

-- each name's number
abbrev pub command_number : Command → ℕ
command_number COM_SLEEP = 0
command_number COM_QUIT = 1
command_number COM_INIT_DB = 2
command_number COM_QUERY = 3
command_number COM_FIELD_LIST = 4
command_number COM_CREATE_DB = 5
command_number COM_DROP_DB = 6
command_number COM_REFRESH = 7
command_number COM_DEPRECATED_1 = 8
command_number COM_STATISTICS = 9
command_number COM_PROCESS_INFO = 10
command_number COM_CONNECT = 11
command_number COM_PROCESS_KILL = 12
command_number COM_DEBUG = 13
command_number COM_PING = 14
command_number COM_TIME = 15
command_number COM_DELAYED_INSERT = 16
command_number COM_CHANGE_USER = 17
command_number COM_BINLOG_DUMP = 18
command_number COM_TABLE_DUMP = 19
command_number COM_CONNECT_OUT = 20
command_number COM_REGISTER_SLAVE = 21
command_number COM_STMT_PREPARE = 22
command_number COM_STMT_EXECUTE = 23
command_number COM_STMT_SEND_LONG_DATA = 24
command_number COM_STMT_CLOSE = 25
command_number COM_STMT_RESET = 26
command_number COM_SET_OPTION = 27
command_number COM_STMT_FETCH = 28
command_number COM_DAEMON = 29
command_number COM_BINLOG_DUMP_GTID = 30
command_number COM_RESET_CONNECTION = 31
command_number COM_END = 32
command_number COM_STMT_BULK_EXECUTE = 0xfa

-- the table: each number and its name
abbrev pub commands : List (ℕ × Command)
commands =
    numbered command_number (
    COM_SLEEP ∷ COM_QUIT ∷ COM_INIT_DB ∷ COM_QUERY ∷ COM_FIELD_LIST ∷ COM_CREATE_DB ∷ COM_DROP_DB ∷ COM_REFRESH
    ∷ COM_DEPRECATED_1 ∷ COM_STATISTICS ∷ COM_PROCESS_INFO ∷ COM_CONNECT ∷ COM_PROCESS_KILL ∷ COM_DEBUG
    ∷ COM_PING ∷ COM_TIME ∷ COM_DELAYED_INSERT ∷ COM_CHANGE_USER ∷ COM_BINLOG_DUMP ∷ COM_TABLE_DUMP
    ∷ COM_CONNECT_OUT ∷ COM_REGISTER_SLAVE ∷ COM_STMT_PREPARE ∷ COM_STMT_EXECUTE ∷ COM_STMT_SEND_LONG_DATA
    ∷ COM_STMT_CLOSE ∷ COM_STMT_RESET ∷ COM_SET_OPTION ∷ COM_STMT_FETCH ∷ COM_DAEMON ∷ COM_BINLOG_DUMP_GTID
    ∷ COM_RESET_CONNECTION ∷ COM_END ∷ COM_STMT_BULK_EXECUTE ∷ [])

-- the name of a number, where it has one
abbrev pub command_named : ℕ → Option Command
command_named number = entry_of nat_eq commands number
