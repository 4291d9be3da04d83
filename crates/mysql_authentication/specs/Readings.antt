-- What each payload of logging in is read as. Each is a function of the payload and of the capabilities alone.
-- (MySQL: Client/Server Protocol, "Connection Phase", "Protocol::HandshakeV10",
-- "Protocol::HandshakeResponse41", "Protocol::SSLRequest", "Protocol::AuthSwitchRequest",
-- "Protocol::AuthMoreData", "Protocol::AuthNextFactor"; MariaDB: Client/Server Protocol, "Connecting".)
use Rattle.std.specs.Prelude.{◌≡◌, ◌≢◌, ◌==◌, ◌&&◌, ℕ, Bool, false, if◌then◌else◌, List, [], ◌∷◌, slice_index_or}
use Rattle.std.specs.Prelude.{Result, Ok, Err}
use Rattle.std.specs.Int.RustNames.{bit_and}
use Rattle.mysql_auth.specs.Packets.{next_factor_at, switch_at}
use Rattle.mysql_authentication.specs.Events.{Accepted, AuthMore, AuthSwitch, Authentication, CutOff, Denied, Greeted}
use Rattle.mysql_authentication.specs.Events.{Greeting, LoggedIn, Login, NextFactor, OldAuthSwitch, PluginData}
use Rattle.mysql_authentication.specs.Events.{Rejected, Response, SecureRequest, Whole}
use Rattle.mysql_authentication.specs.declared.fault.LoginFault.{LoginFault}
use Rattle.mysql_authentication.specs.declared.fault.LoginFault.TheVariants.{BadError, BadGreeting, BadHeader, BadLogin}
use Rattle.mysql_authentication.specs.declared.fault.LoginFault.TheVariants.{BadOk, BadSwitch, Memory, OldProtocol}
use Rattle.mysql_field_constants.specs.Flags.{contains}
use Rattle.mysql_fields.specs.Forms.{fixed_number_at}
use Rattle.mysql_fields.specs.Wire.{Reading}
use Rattle.mysql_handshake.specs.Capabilities.{protocol_41, ssl}
use Rattle.mysql_handshake.specs.Handshakes.{handshake_at}
use Rattle.mysql_handshake_response.specs.Responses.{ResponseFields, response_to_at}
use Rattle.mysql_handshake_response.specs.SslRequests.{SslRequestFields, ssl_request_at}
use Rattle.mysql_ok_packets.specs.OkPackets.{ok_packet_at}
use Rattle.mysql_server_packets.specs.Packets.{ServerError, error_at}

-- what was read, as an event, or this fault; bytes that are left over are passed over
abbrev pub or_fault : {X Y : Type 0} → LoginFault → (X → Y) → Reading X → Result Y LoginFault
or_fault fault event (Ok x) = Ok (event x.0)
or_fault fault event (Err e) = Err fault

-- a call answered what reading gives: the event, seen by view, or the fault
abbrev pub Answers : {X Y : Type 0} → (X → Y) → Result X LoginFault → Result Y LoginFault → Type 0
Answers view (Ok x) reading = reading ≡ Ok (view x)
Answers view (Err e) reading = reading ≡ Err e

-- the same, where want of memory may stand in place of any answer
abbrev pub AnswersOrMemory : {X Y : Type 0} → (X → Y) → Result X LoginFault → Result Y LoginFault → Type 0
AnswersOrMemory view (Ok x) reading = reading ≡ Ok (view x)
AnswersOrMemory view (Err e) reading = e ≢ Memory → reading ≡ Err e

-- THE SERVER'S FIRST PAYLOAD

-- an error of a server that no capabilities are known of: `#` behind its code says that it has an SQL state
unfoldable pub early_error_at : List ℕ → Reading ServerError
early_error_at bytes = error_at (if slice_index_or bytes 3 0 == 35 then protocol_41 else 0) bytes

-- ff begins an error, 0a (10) a greeting of the protocol that is spoken today
unfoldable pub greeting_at : List ℕ → Result Greeting LoginFault
greeting_at [] = Err BadGreeting
greeting_at (b ∷ bytes) =
    if b == 0xff then or_fault BadError Rejected (early_error_at (b ∷ bytes))
    else if b == 10 then or_fault BadGreeting Greeted (handshake_at (b ∷ bytes))
    else Err OldProtocol

-- THE CLIENT'S FIRST PAYLOAD

-- PROTOCOL_41 stands in its first two bytes, and the server has it too
abbrev pub agrees_41 : ℕ → Reading ℕ → Bool
agrees_41 server (Ok word) = contains (bit_and server word.0) protocol_41
agrees_41 server (Err e) = false

-- all fields, or the first 32 bytes alone where no fields can be read behind them
abbrev pub login_of : SslRequestFields → Reading ResponseFields → Login
login_of request (Ok response) = Whole response.0
login_of request (Err e) = CutOff request

-- nothing behind the 32 bytes counts where SSL is in force; else the fields by the capabilities in force
abbrev pub response_of : ℕ → SslRequestFields → List ℕ → Response
response_of server request bytes =
    if contains (bit_and server request.capabilities) ssl then SecureRequest request
    else LoggedIn (login_of request (response_to_at server bytes))

-- the 32 bytes that stand first
abbrev pub by_request : ℕ → List ℕ → Reading SslRequestFields → Result Response LoginFault
by_request server bytes (Ok request) = Ok (response_of server request.0 bytes)
by_request server bytes (Err e) = Err BadLogin

-- the answer to a server of these capabilities
unfoldable pub response_at : ℕ → List ℕ → Result Response LoginFault
response_at server bytes =
    if agrees_41 server (fixed_number_at 2 bytes) then by_request server bytes (ssl_request_at bytes)
    else Err OldProtocol

-- A SERVER'S PAYLOADS BEHIND IT

abbrev pub multi_factor : ℕ
multi_factor = 0x10000000

-- fe alone asks for the plugin of old passwords
abbrev pub switch_of : List ℕ → Result Authentication LoginFault
switch_of [] = Err BadSwitch
switch_of (b ∷ []) = Ok OldAuthSwitch
switch_of (b ∷ c ∷ bytes) = or_fault BadSwitch AuthSwitch (switch_at (b ∷ c ∷ bytes))

-- by the capabilities in force; data of a plugin may have no byte before it
unfoldable pub authentication_at : ℕ → List ℕ → Result Authentication LoginFault
authentication_at capabilities [] = Err BadHeader
authentication_at capabilities (b ∷ bytes) =
    if b == 0 then or_fault BadOk Accepted (ok_packet_at capabilities (b ∷ bytes))
    else if b == 0xff then or_fault BadError Denied (error_at capabilities (b ∷ bytes))
    else if b == 0xfe then switch_of (b ∷ bytes)
    else if b == 1 then Ok (AuthMore bytes)
    else if b == 2 && contains capabilities multi_factor
    then or_fault BadSwitch NextFactor (next_factor_at (b ∷ bytes))
    else Ok (PluginData (b ∷ bytes))
