-- The laws of logging in: what is put is read as it was, and what was read is put.
use Rattle.std.specs.Prelude.{◌≡◌, ◌≢◌, ◌<◌, ◌^◌, ℕ, List, length, Option, None, Some, ⊤, Ok}
use Rattle.std.specs.List.{flat_map}
use Rattle.mysql_authentication.specs.Events.{Accepted, Authentication, Denied}
use Rattle.mysql_authentication.specs.Events.{CutOff, Greeted, Greeting, LoggedIn, Rejected}
use Rattle.mysql_authentication.specs.Events.{Response, SecureRequest, Whole}
use Rattle.mysql_authentication.specs.Readings.{authentication_at, greeting_at, response_at}
use Rattle.mysql_authentication.specs.Written.{authentication_bytes, authentication_cause, greeting_bytes}
use Rattle.mysql_authentication.specs.Written.{greeting_cause, response_bytes, response_cause}
use Rattle.mysql_authentication.specs.declared.refusal.LoginRefusal.{LoginRefusal}
use Rattle.mysql_buf.specs.Bytes.{AreBytes}
use Rattle.mysql_handshake_response.specs.Attributes.{Attribute, attribute}
use Rattle.mysql_handshake.specs.Handshakes.{HandshakeFields}
use Rattle.mysql_handshake_response.specs.Responses.{ResponseFields}
use Rattle.mysql_handshake_response.specs.SslRequests.{SslRequestFields}
use Rattle.mysql_ok_packets.specs.OkPackets.{OkPacket}
use Rattle.mysql_ok_packets.specs.Written.{or_empty, or_zero}
use Rattle.mysql_server_packets.specs.Packets.{ServerError}

-- what the types of an OK packet's fields hold
pub record HoldsOk (p : OkPacket) : Type 0 where
  pub affected_rows : p.affected_rows < 2 ^ 64
  pub last_insert_id : or_zero p.last_insert_id < 2 ^ 64
  pub status_flags : p.status_flags < 2 ^ 16
  pub warnings : p.warnings < 2 ^ 16
  pub info : length (or_empty p.info) < 2 ^ 64
  pub session_state_info : length (or_empty p.session_state_info) < 2 ^ 64

-- what the types of an error's fields hold
abbrev pub HoldsState : Option (List ℕ) → Type 0
HoldsState None = ⊤
HoldsState (Some state) = length state ≡ 5

pub record HoldsError (e : ServerError) : Type 0 where
  pub error_code : e.error_code < 2 ^ 16
  pub sql_state : HoldsState e.sql_state

-- what the types of an event's fields hold
abbrev pub HoldsAuthentication : Authentication → Type 0
HoldsAuthentication (Accepted p) = HoldsOk p
HoldsAuthentication (Denied error) = HoldsError error
HoldsAuthentication _ = ⊤

-- what the types of a greeting's fields hold
pub record HoldsHandshake (p : HandshakeFields) : Type 0 where
  pub protocol_version : p.protocol_version < 2 ^ 8
  pub connection_id : p.connection_id < 2 ^ 32
  pub scramble_1 : length p.scramble_1 ≡ 8
  pub capabilities : p.capabilities < 2 ^ 32
  pub default_collation : p.default_collation < 2 ^ 8
  pub status_flags : p.status_flags < 2 ^ 16
  pub data_length : p.data_length < 2 ^ 8
  pub mariadb_ext_capabilities : p.mariadb_ext_capabilities < 2 ^ 32

abbrev pub HoldsGreeting : Greeting → Type 0
HoldsGreeting (Rejected error) = HoldsError error
HoldsGreeting (Greeted p) = HoldsHandshake p

-- what the types of the 32 bytes' fields hold
pub record HoldsRequest (p : SslRequestFields) : Type 0 where
  pub capabilities : p.capabilities < 2 ^ 32
  pub max_packet_size : p.max_packet_size < 2 ^ 32
  pub character_set : p.character_set < 2 ^ 8
  pub mariadb_capabilities : p.mariadb_capabilities < 2 ^ 32

-- all texts together are no longer than a length can say
abbrev pub HoldsAttributes : Option (List Attribute) → Type 0
HoldsAttributes None = ⊤
HoldsAttributes (Some all) = length (flat_map attribute all) < 2 ^ 64

pub record HoldsLogin (p : ResponseFields) : Type 0 where
  pub request : HoldsRequest p.request
  pub scramble : length p.scramble < 2 ^ 64
  pub attributes : HoldsAttributes p.attributes

abbrev pub HoldsResponse : Response → Type 0
HoldsResponse (SecureRequest request) = HoldsRequest request
HoldsResponse (LoggedIn (CutOff request)) = HoldsRequest request
HoldsResponse (LoggedIn (Whole p)) = HoldsLogin p

-- A CLIENT'S FIRST PAYLOAD

-- a payload that is put is read as the event
abbrev pub ResponsesReadBack : Type 0
ResponsesReadBack = (server : ℕ) (event : Response) → HoldsResponse event → response_cause server event ≡ None →
    response_at server (response_bytes server event) ≡ Ok event

-- an event that a payload was read as is put
abbrev pub ResponsesArePut : Type 0
ResponsesArePut = (server : ℕ) (payload : List ℕ) (event : Response) → AreBytes payload →
    response_at server payload ≡ Ok event → response_cause server event ≡ None

-- an event that isn't put would be read otherwise
abbrev pub RefusedResponsesReadOtherwise : Type 0
RefusedResponsesReadOtherwise = (server : ℕ) (event : Response) (cause : LoginRefusal) →
    AreBytes (response_bytes server event) → response_cause server event ≡ Some cause →
    response_at server (response_bytes server event) ≢ Ok event

-- an event that a payload was read as is read again of what is put
abbrev pub ResponsesReadAgain : Type 0
ResponsesReadAgain = (server : ℕ) (payload : List ℕ) (event : Response) → AreBytes payload → length payload < 2 ^ 64 →
    response_at server payload ≡ Ok event → response_at server (response_bytes server event) ≡ Ok event

-- A SERVER'S FIRST PAYLOAD

-- a payload that is put is read as the event
abbrev pub GreetingsReadBack : Type 0
GreetingsReadBack = (event : Greeting) → HoldsGreeting event → greeting_cause event ≡ None →
    greeting_at (greeting_bytes event) ≡ Ok event

-- an event that a payload was read as is put
abbrev pub GreetingsArePut : Type 0
GreetingsArePut = (payload : List ℕ) (event : Greeting) → greeting_at payload ≡ Ok event → greeting_cause event ≡ None

-- an event that isn't put would be read otherwise
abbrev pub RefusedGreetingsReadOtherwise : Type 0
RefusedGreetingsReadOtherwise = (event : Greeting) (cause : LoginRefusal) → greeting_cause event ≡ Some cause →
    greeting_at (greeting_bytes event) ≢ Ok event

-- an event that a payload was read as is read again of what is put
abbrev pub GreetingsReadAgain : Type 0
GreetingsReadAgain = (payload : List ℕ) (event : Greeting) → AreBytes payload →
    greeting_at payload ≡ Ok event → greeting_at (greeting_bytes event) ≡ Ok event

-- A SERVER'S PAYLOADS OF AN AUTHENTICATION

-- a payload that is put is read as the event
abbrev pub AuthenticationsReadBack : Type 0
AuthenticationsReadBack = (capabilities : ℕ) (event : Authentication) → HoldsAuthentication event →
    authentication_cause capabilities event ≡ None →
    authentication_at capabilities (authentication_bytes capabilities event) ≡ Ok event

-- an event that a payload was read as is put
abbrev pub AuthenticationsArePut : Type 0
AuthenticationsArePut = (capabilities : ℕ) (payload : List ℕ) (event : Authentication) → AreBytes payload →
    length payload < 2 ^ 64 → authentication_at capabilities payload ≡ Ok event →
    authentication_cause capabilities event ≡ None

-- an event that isn't put would be read otherwise
abbrev pub RefusedAuthenticationsReadOtherwise : Type 0
RefusedAuthenticationsReadOtherwise = (capabilities : ℕ) (event : Authentication) (cause : LoginRefusal) →
    AreBytes (authentication_bytes capabilities event) → length (authentication_bytes capabilities event) < 2 ^ 64 →
    authentication_cause capabilities event ≡ Some cause →
    authentication_at capabilities (authentication_bytes capabilities event) ≢ Ok event

-- an event that a payload was read as is read again of what is put
abbrev pub AuthenticationsReadAgain : Type 0
AuthenticationsReadAgain = (capabilities : ℕ) (payload : List ℕ) (event : Authentication) → AreBytes payload →
    length payload < 2 ^ 64 → authentication_at capabilities payload ≡ Ok event →
    authentication_at capabilities (authentication_bytes capabilities event) ≡ Ok event
