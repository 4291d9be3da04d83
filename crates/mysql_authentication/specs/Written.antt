-- What is written of each event, and why one isn't: its payload would be read as another one.
-- (MySQL: Client/Server Protocol, "Connection Phase"; MariaDB: Client/Server Protocol, "Connecting".)
use Rattle.std.specs.Prelude.{◌≡◌, ◌≢◌, ◌==◌, ◌&&◌, ◌||◌, ℕ, nat_le, Bool, true, false, not, if◌then◌else◌, List, []}
use Rattle.std.specs.Prelude.{◌∷◌}
use Rattle.std.specs.Prelude.{◌++◌, length, replicate, slice_index_or, Option, None, Some, is_some, Result, Ok, Err}
use Rattle.std.specs.Int.RustNames.{bit_and}
use Rattle.std.specs.List.{before_first}
use Rattle.std.specs.Str.{bytes_eq}
use Rattle.byteorder.specs.Endian.{little_bytes}
use Rattle.mysql_auth.specs.Packets.{headed, next_factor, switch}
use Rattle.mysql_auth.specs.Plugins.{Other, Parsec, Plugin}
use Rattle.mysql_auth.specs.Plugins.{plugin_named, without_zero}
use Rattle.mysql_authentication.specs.Events.{Accepted, AuthMore, AuthSwitch, Authentication, CutOff, Denied, Greeted}
use Rattle.mysql_authentication.specs.Events.{Greeting, LoggedIn, NextFactor, OldAuthSwitch, PluginData}
use Rattle.mysql_authentication.specs.Events.{Rejected, Response, SecureRequest, Whole}
use Rattle.mysql_authentication.specs.Readings.{multi_factor}
use Rattle.mysql_authentication.specs.declared.refusal.LoginRefusal.{LoginRefusal}
use Rattle.mysql_authentication.specs.declared.refusal.LoginRefusal.TheVariants.{Memory, NamelessFlags, NotAgreed}
use Rattle.mysql_authentication.specs.declared.refusal.LoginRefusal.TheVariants.{ReadsOtherwise, TooLong, ZeroByte}
use Rattle.mysql_buf.specs.Reading.{is_zero}
use Rattle.mysql_const.specs.MariadbCapabilities.{mariadb_capabilities}
use Rattle.mysql_field_constants.specs.Flags.{all_status_flags, are_named, contains}
use Rattle.mysql_handshake.specs.Capabilities.{connect_attrs, connect_with_db, plugin_auth}
use Rattle.mysql_handshake.specs.Capabilities.{plugin_auth_lenenc_client_data, protocol_41, secure_connection, ssl}
use Rattle.mysql_handshake.specs.Handshakes.{HandshakeFields, greeting, scramble_fits}
use Rattle.mysql_handshake_response.specs.Responses.{ResponseFields, response_to}
use Rattle.mysql_handshake_response.specs.SslRequests.{SslRequestFields, ssl_request}
use Rattle.mysql_ok_packets.specs.OkPackets.{OkPacket}
use Rattle.mysql_ok_packets.specs.Written.{is_named_status, ok_packet_bytes, tells_state}
use Rattle.mysql_server_packets.specs.Packets.{Error, err_packet}

-- PAYLOADS

abbrev pub greeting_bytes : Greeting → List ℕ
greeting_bytes (Rejected error) = err_packet (Error error)
greeting_bytes (Greeted packet) = greeting packet

-- to a server of these capabilities
abbrev pub response_bytes : ℕ → Response → List ℕ
response_bytes server (SecureRequest request) = ssl_request request
response_bytes server (LoggedIn (Whole p)) = response_to server p
response_bytes server (LoggedIn (CutOff request)) = ssl_request request

-- by the capabilities in force
abbrev pub authentication_bytes : ℕ → Authentication → List ℕ
authentication_bytes capabilities (Accepted packet) = ok_packet_bytes 0 capabilities packet
authentication_bytes capabilities (Denied error) = err_packet (Error error)
authentication_bytes capabilities (AuthSwitch request) = switch request
authentication_bytes capabilities OldAuthSwitch = little_bytes 1 254
authentication_bytes capabilities (AuthMore bytes) = headed 1 bytes
authentication_bytes capabilities (NextFactor request) = next_factor request
authentication_bytes capabilities (PluginData bytes) = bytes

-- CAUSES

-- this cause, unless the test holds
abbrev pub unless : Bool → LoginRefusal → Option LoginRefusal
unless true cause = None
unless false cause = Some cause

-- both tests say the same
abbrev pub same : Bool → Bool → Bool
same true b = b
same false b = not b

-- the first cause that there is
abbrev pub first_cause : List (Option LoginRefusal) → Option LoginRefusal
first_cause [] = None
first_cause (None ∷ causes) = first_cause causes
first_cause (Some cause ∷ causes) = Some cause

-- a text that ends at its first zero has none inside
abbrev pub has_no_zero : List ℕ → Bool
has_no_zero text = length (before_first is_zero text) == length text

-- the test of a part that may not be held
abbrev pub if_some : {X : Type 0} → (X → Bool) → Option X → Bool
if_some test None = true
if_some test (Some x) = test x

-- a greeting is of version 10, and has exactly the parts that its capabilities name
abbrev pub greeted_cause : HandshakeFields → Option LoginRefusal
greeted_cause p = first_cause (
    unless (p.protocol_version == 10) ReadsOtherwise
    ∷ unless (has_no_zero p.server_version) ZeroByte
    ∷ unless (are_named all_status_flags p.status_flags) NamelessFlags
    ∷ unless (are_named mariadb_capabilities p.mariadb_ext_capabilities) NamelessFlags
    ∷ unless (same (is_some p.scramble_2) (contains p.capabilities secure_connection)) NotAgreed
    ∷ unless (same (is_some p.auth_plugin_name) (contains p.capabilities plugin_auth)) NotAgreed
    ∷ unless (scramble_fits p.data_length p.scramble_2) ReadsOtherwise
    ∷ []
    )

-- the text of an error without an SQL state doesn't begin with `#`
abbrev pub greeting_cause : Greeting → Option LoginRefusal
greeting_cause (Rejected error) =
    unless (is_some error.sql_state || not (slice_index_or error.error_message 0 0 == 35)) ReadsOtherwise
greeting_cause (Greeted p) = greeted_cause p

-- both sides have PROTOCOL_41, and SSL exactly where it is asked for
abbrev pub request_cause : ℕ → Bool → SslRequestFields → Option LoginRefusal
request_cause server asks request = first_cause (
    unless (contains (bit_and server request.capabilities) protocol_41) NotAgreed
    ∷ unless (same (contains (bit_and server request.capabilities) ssl) asks) NotAgreed
    ∷ unless (are_named mariadb_capabilities request.mariadb_capabilities) NamelessFlags
    ∷ []
    )

-- the answer to a scramble fits its form
abbrev pub scramble_cause : ℕ → List ℕ → Option LoginRefusal
scramble_cause capabilities text =
    if contains capabilities plugin_auth_lenenc_client_data then None
    else if contains capabilities secure_connection then unless (nat_le (length text) 255) TooLong
    else unless (has_no_zero text) ZeroByte

-- a plugin is the one that its name is read as
abbrev pub is_other : Plugin → Bool
is_other (Other name) = true
is_other _ = false

abbrev pub names_itself : Plugin → Bool
names_itself (Parsec iterations salt) = (iterations == 0) && bytes_eq salt (replicate 18 0)
names_itself (Other name) = has_no_zero name && is_other (plugin_named (without_zero name))
names_itself _ = true

-- the fields fit their forms, and exactly those are held that the capabilities in force name
abbrev pub fields_cause : ℕ → ResponseFields → Option LoginRefusal
fields_cause capabilities p = first_cause (
    unless (has_no_zero p.user) ZeroByte
    ∷ scramble_cause capabilities p.scramble
    ∷ unless (same (is_some p.database) (contains capabilities connect_with_db)) NotAgreed
    ∷ unless (if_some has_no_zero p.database) ZeroByte
    ∷ unless (same (is_some p.plugin) (contains capabilities plugin_auth)) NotAgreed
    ∷ unless (if_some names_itself p.plugin) ReadsOtherwise
    ∷ unless (same (is_some p.attributes) (contains capabilities connect_attrs)) NotAgreed
    ∷ []
    )

abbrev pub response_cause : ℕ → Response → Option LoginRefusal
response_cause server (SecureRequest request) = request_cause server true request
response_cause server (LoggedIn (CutOff request)) = request_cause server false request
response_cause server (LoggedIn (Whole p)) = first_cause (
    request_cause server false p.request
    ∷ fields_cause (bit_and server p.request.capabilities) p
    ∷ []
    )

-- an id of 0, an empty info and an empty session state are none
abbrev pub is_normal : OkPacket → Bool
is_normal p = if_some (λ id. not (id == 0)) p.last_insert_id && (if_some (λ info. not (length info == 0)) p.info &&
    if_some (λ state. not (length state == 0)) p.session_state_info)

-- each bit of the status has a name, and a session state is held only where the packet tells one
abbrev pub accepted_cause : ℕ → OkPacket → Option LoginRefusal
accepted_cause capabilities p = first_cause (
    unless (is_named_status p.status_flags) NamelessFlags
    ∷ unless (not (is_some p.session_state_info) || tells_state capabilities p.status_flags) NotAgreed
    ∷ unless (is_normal p) ReadsOtherwise
    ∷ []
    )

-- a plugin's data begins with no byte that has another meaning
abbrev pub is_bare : ℕ → List ℕ → Bool
is_bare capabilities [] = false
is_bare capabilities (b ∷ bytes) = not (b == 0) && (not (b == 0xff) && (not (b == 0xfe) && (not (b == 1) &&
    not (b == 2 && contains capabilities multi_factor))))

abbrev pub authentication_cause : ℕ → Authentication → Option LoginRefusal
authentication_cause capabilities (Accepted p) = accepted_cause capabilities p
authentication_cause capabilities (Denied error) =
    unless (same (is_some error.sql_state) (contains capabilities protocol_41)) NotAgreed
authentication_cause capabilities (AuthSwitch request) = unless (has_no_zero request.auth_plugin) ZeroByte
authentication_cause capabilities OldAuthSwitch = None
authentication_cause capabilities (AuthMore bytes) = None
authentication_cause capabilities (NextFactor request) = first_cause (
    unless (contains capabilities multi_factor) NotAgreed
    ∷ unless (has_no_zero request.auth_plugin) ZeroByte
    ∷ []
    )
authentication_cause capabilities (PluginData bytes) = unless (is_bare capabilities bytes) ReadsOtherwise

-- PUTTING

-- the payload was appended where there is no cause against it, or nothing for the cause; want of memory may stand
-- in place of any answer
abbrev pub Puts : Option LoginRefusal → List ℕ → List ℕ → List ℕ → Result (Unit {0}) LoginRefusal → Type 0
Puts cause payload old new (Ok done) = (cause ≡ None) × (new ≡ old ++ payload)
Puts cause payload old new (Err e) = (e ≢ Memory → cause ≡ Some e) × (new ≡ old)

-- what there is to answer
abbrev pub IsCause : Option LoginRefusal → Result (Unit {0}) LoginRefusal → Type 0
IsCause cause (Ok done) = cause ≡ None
IsCause cause (Err e) = cause ≡ Some e
