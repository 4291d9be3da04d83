-- The capabilities that say which parts a packet has, and those in force.
-- (MySQL: Client/Server Protocol, "Capabilities Flags"; MariaDB: "Connecting", 'Capabilities'.)
use Rattle.std.specs.Prelude.{ℕ, if◌then◌else◌}
use Rattle.std.specs.Int.RustNames.{bit_and}
use Rattle.mysql_const.specs.declared.capabilities.Capabilities.{Capabilities}
use Rattle.mysql_field_constants.specs.Flags.{contains}

-- at MariaDB CLIENT_MYSQL: a side that sets it has none of MariaDB's own capabilities
abbrev pub long_password : ℕ
long_password = 1

abbrev pub connect_with_db : ℕ
connect_with_db = 8

abbrev pub secure_connection : ℕ
secure_connection = 0x8000

abbrev pub plugin_auth : ℕ
plugin_auth = 0x80000

abbrev pub connect_attrs : ℕ
connect_attrs = 0x100000

abbrev pub plugin_auth_lenenc_client_data : ℕ
plugin_auth_lenenc_client_data = 0x200000

abbrev pub protocol_41 : ℕ
protocol_41 = 0x200

abbrev pub ssl : ℕ
ssl = 0x800

-- the capabilities of these two words
abbrev pub both_words : ℕ → ℕ → Capabilities
both_words protocol mariadb = record { protocol = record { 0 = protocol }; mariadb = record { 0 = mariadb } }

-- what a side can do that says so by these two words
abbrev pub offered : ℕ → ℕ → Capabilities
offered protocol mariadb = both_words protocol (if contains protocol long_password then 0 else mariadb)

-- the capabilities in force: those that both sides have
abbrev pub in_force : Capabilities → Capabilities → Capabilities
in_force server client = both_words (bit_and server.protocol.0 client.protocol.0)
    (bit_and server.mariadb.0 client.mariadb.0)
