-- A client's answer to the handshake. (MySQL: Client/Server Protocol,
-- "Protocol::HandshakeResponse41"; MariaDB: Client/Server Protocol, "Connecting", "Handshake
-- Response Packet".) A reading takes bytes from the front: x.0 is what was read and x.1 the bytes
-- left; the first refusal counts.
use Rattle.std.specs.Prelude.{◌==◌, ◌&&◌, ◌||◌, ℕ, nat_le, nat_lt, Bool, is_some, not, if◌then◌else◌, List, [], ◌∷◌}
use Rattle.std.specs.Prelude.{Option, Ok}
use Rattle.std.specs.Int.RustNames.{bit_and}
use Rattle.std.specs.List.{concat}
use Rattle.mysql_auth.specs.Plugins.{Plugin}
use Rattle.mysql_buf.specs.Writing.{front, lenenc_str, u8_str}
use Rattle.mysql_fields.specs.Wire.{Reading, ◌>>=◌}
use Rattle.mysql_fields.specs.Texts.{lenenc_text_at, null_text, null_text_at, u8_text_at}
use Rattle.mysql_field_constants.specs.Flags.{contains}
use Rattle.mysql_handshake_response.specs.Attributes.{Attribute, attributes, attributes_at}
use Rattle.mysql_handshake.specs.Capabilities.{connect_attrs, connect_with_db, plugin_auth}
use Rattle.mysql_handshake.specs.Capabilities.{plugin_auth_lenenc_client_data, secure_connection}
use Rattle.mysql_handshake_response.specs.Parts.{if_held, if_there, marked, plugin_text, plugin_to_zero_at}
use Rattle.mysql_handshake_response.specs.SslRequests.{SslRequestFields, ssl_request, ssl_request_at}

-- what stands first in it, the user, the answer to the scramble, the database, the plugin, the attributes
pub record ResponseFields : Type 0 where
  pub request : SslRequestFields
  pub user : List ℕ
  pub scramble : List ℕ
  pub database : Option (List ℕ)
  pub plugin : Option Plugin
  pub attributes : Option (List Attribute)

-- the answer to the scramble: after its length as a length-encoded number, after its length in one
-- byte, or before a zero
unfoldable pub scramble : ℕ → List ℕ → List ℕ
scramble capabilities text =
    if contains capabilities plugin_auth_lenenc_client_data then lenenc_str text
    else if contains capabilities secure_connection then u8_str text
    else null_text text

unfoldable pub scramble_at : ℕ → List ℕ → Reading (List ℕ)
scramble_at capabilities bytes =
    if contains capabilities plugin_auth_lenenc_client_data then lenenc_text_at bytes
    else if contains capabilities secure_connection then u8_text_at bytes
    else null_text_at bytes

-- whether its length is written in one byte
abbrev pub has_counted_scramble : ℕ → Bool
has_counted_scramble capabilities = not (contains capabilities plugin_auth_lenenc_client_data) &&
    contains capabilities secure_connection

-- as much of the answer to the scramble as its length can say
abbrev pub counted_scramble : ℕ → List ℕ → List ℕ
counted_scramble capabilities text = if has_counted_scramble capabilities then front text 255 else text

-- the fields in that order; these capabilities say in which form the answer to the scramble stands
unfoldable pub response_by : ℕ → ResponseFields → List ℕ
response_by capabilities p = concat (
    ssl_request p.request ∷ null_text p.user ∷ scramble capabilities p.scramble ∷ if_held null_text p.database
    ∷ if_held plugin_text p.plugin ∷ if_held attributes p.attributes ∷ []
    )

-- by the capabilities that it names itself
abbrev pub response : ResponseFields → List ℕ
response p = response_by p.request.capabilities p

-- by those of the server that it names too, which are in force
abbrev pub response_to : ℕ → ResponseFields → List ℕ
response_to server p = response_by (bit_and server p.request.capabilities) p

-- a database, a plugin and attributes, each where the capabilities name it
unfoldable pub named_parts_at : ℕ → List ℕ → Reading (Option (List ℕ) × Option Plugin × Option (List Attribute))
named_parts_at capabilities bytes = do
  database ← if_there (contains capabilities connect_with_db) null_text_at bytes
  plugin ← if_there (contains capabilities plugin_auth) plugin_to_zero_at database.1
  attributes ← if_there (contains capabilities connect_attrs) attributes_at plugin.1
  Ok ((database.0, plugin.0, attributes.0), attributes.1)

-- the fields behind the first 32 bytes; these capabilities say which of the last three stand there
unfoldable pub fields_by_at : ℕ → SslRequestFields → List ℕ → Reading ResponseFields
fields_by_at capabilities request bytes = do
  user ← null_text_at bytes
  scramble ← scramble_at capabilities user.1
  parts ← named_parts_at capabilities scramble.1
  Ok (
    record {
      request = request;
      user = user.0;
      scramble = scramble.0;
      database = parts.0.0;
      plugin = parts.0.1;
      attributes = parts.0.2;
    },
    parts.1,
  )

-- all fields, by the capabilities that it names itself
unfoldable pub response_at : List ℕ → Reading ResponseFields
response_at bytes = do
  request ← ssl_request_at bytes
  fields_by_at request.0.capabilities request.0 request.1

-- by those of the server that it names too, which are in force
unfoldable pub response_to_at : ℕ → List ℕ → Reading ResponseFields
response_to_at server bytes = do
  request ← ssl_request_at bytes
  fields_by_at (bit_and server request.0.capabilities) request.0 request.1

-- a server's version is 5.5.3 or later
abbrev pub knows_utf8mb4 : ℕ × ℕ × ℕ → Bool
knows_utf8mb4 version = nat_lt 5 version.0 ||
    ((version.0 == 5) && (nat_lt 5 version.1 || ((version.1 == 5) && nat_le 3 version.2)))

-- the collation of four-byte characters where the server knows it, else that of three-byte ones
abbrev pub collation_for : ℕ × ℕ × ℕ → ℕ
collation_for version = if knows_utf8mb4 version then 45 else 33

-- the capabilities say which parts are held
abbrev pub marked_capabilities : {A B C : Type 0} → Option A → Option B → Option C → ℕ → ℕ
marked_capabilities database plugin attributes capabilities =
    marked connect_attrs (is_some attributes)
    (marked plugin_auth (is_some plugin)
    (marked connect_with_db (is_some database) capabilities))
