-- What was read is read again of what is put.
use Rattle.std.proofs.Common.{◌≡◌, ◌<◌, ◌^◌, ◌==◌, ◌&&◌, if◌then◌else◌, ℕ, Bool, true, false, List, [], ◌∷◌, length}
use Rattle.std.proofs.Common.{drop, Ok, Err}
use Rattle.std.proofs.Common.{refl, sym, ap, ◌∙◌, subst, length-drop, arith}
use Rattle.std.specs.Int.RustNames.{bit_and}
use Rattle.mysql_authentication.proofs.AuthenticationsBack.{authentications_read_back}
use Rattle.mysql_authentication.proofs.AuthenticationsPut.{authentications_are_put}
use Rattle.mysql_authentication.proofs.GreetingsBack.{greetings_read_back}
use Rattle.mysql_authentication.proofs.GreetingsPut.{greetings_are_put}
use Rattle.mysql_authentication.proofs.Held.{behind_held, error_held, handshake_held, request_held}
use Rattle.mysql_authentication.proofs.Read.{read_as}
use Rattle.mysql_authentication.proofs.ResponsesBack.{responses_read_back}
use Rattle.mysql_authentication.proofs.ResponsesPut.{responses_are_put}
use Rattle.mysql_authentication.specs.Events.{Accepted, AuthMore, AuthSwitch, Authentication, Denied, Greeted, Greeting}
use Rattle.mysql_authentication.specs.Events.{LoggedIn, NextFactor, OldAuthSwitch, PluginData, Rejected, Response}
use Rattle.mysql_authentication.specs.Events.{SecureRequest}
use Rattle.mysql_authentication.specs.Readings.{agrees_41, authentication_at, by_request, early_error_at, greeting_at}
use Rattle.mysql_authentication.specs.Readings.{login_of, multi_factor, or_fault, response_at, response_of, switch_of}
use Rattle.mysql_authentication.specs.Statements.{AuthenticationsReadAgain, GreetingsReadAgain, HoldsAuthentication}
use Rattle.mysql_authentication.specs.Statements.{HoldsGreeting, HoldsLogin, HoldsOk, HoldsRequest, HoldsResponse}
use Rattle.mysql_authentication.specs.Statements.{ResponsesReadAgain}
use Rattle.mysql_authentication.specs.declared.fault.LoginFault.TheVariants.{BadError, BadGreeting, BadOk, BadSwitch}
use Rattle.mysql_authentication.specs.declared.fault.LoginFault.TheVariants.{OldProtocol}
use Rattle.mysql_auth.specs.Packets.{next_factor_at, switch_at}
use Rattle.mysql_buf.specs.Bytes.{AreBytes}
use Rattle.mysql_handshake_response.proofs.AttributesHeld.{bytes_behind}
use Rattle.mysql_field_constants.specs.Flags.{contains}
use Rattle.mysql_fields.specs.Forms.{fixed_number_at}
use Rattle.mysql_fields.specs.Laws.{bind_ok, eaten_first, ok_same}
use Rattle.mysql_fields.specs.Wire.{Reading}
use Rattle.mysql_handshake.specs.Capabilities.{ssl}
use Rattle.mysql_handshake.specs.Handshakes.{handshake_at}
use Rattle.mysql_handshake_response.specs.Responses.{ResponseFields, fields_by_at, response_to_at}
use Rattle.mysql_handshake_response.specs.SslRequestLaws.{ssl_request_at-sized}
use Rattle.mysql_handshake_response.specs.SslRequests.{SslRequestFields, ssl_request_at}
use Rattle.mysql_ok_packets.specs.OkPackets.{OkPacket, ok_packet_at}
use Rattle.mysql_ok_packets.specs.OwnLaws.{ok_packet_own}
use Rattle.mysql_server_packets.specs.Packets.{error_at}

-- GREETINGS

greeting_holds : (b : ℕ) (bytes : List ℕ) (event : Greeting) (err ten : Bool) → AreBytes (b ∷ bytes)
    → (if err then or_fault BadError Rejected (early_error_at (b ∷ bytes)) else if ten then or_fault
    BadGreeting Greeted (handshake_at (b ∷ bytes)) else Err OldProtocol) ≡ Ok event
    → HoldsGreeting event
unfolding early_error_at
greeting_holds b bytes event true ten all h =
    let read = read_as BadError Rejected (early_error_at (b ∷ bytes)) event h in
    subst HoldsGreeting read.2 (error_held _ (b ∷ bytes) read.0 all read.1)
greeting_holds b bytes event false true all h =
    let read = read_as BadGreeting Greeted (handshake_at (b ∷ bytes)) event h in
    subst HoldsGreeting read.2 (handshake_held (b ∷ bytes) read.0 all read.1)
greeting_holds b bytes event false false all h = absurd cc

greeting_held : (bytes : List ℕ) (event : Greeting) → AreBytes bytes → greeting_at bytes ≡
    Ok event → HoldsGreeting event
unfolding greeting_at
greeting_held [] event all h = absurd cc
greeting_held (b ∷ bytes) event all h = greeting_holds b bytes event (b == 0xff) (b == 10) all h

pub greetings_read_again : GreetingsReadAgain
greetings_read_again payload event all h =
    greetings_read_back event (greeting_held payload event all h)
    (greetings_are_put payload event h)

-- ANSWERS

whole_holds : (server : ℕ) (bytes : List ℕ) (r : SslRequestFields) (rest : List ℕ)
    (x : ResponseFields × List ℕ) → AreBytes rest → length rest < 2 ^ 64
    → HoldsRequest r → ssl_request_at bytes ≡ Ok (r, rest) → response_to_at server bytes ≡ Ok x → HoldsLogin x.0
unfolding response_to_at
whole_holds server bytes r rest x all few request is h =
    let read = bind_ok (ssl_request_at bytes) _ x h in
    let same : read.0 ≡ (r, rest) = ok_same read.0 (r, rest) (sym read.1 ∙ is) in
    let fields : fields_by_at (bit_and server r.capabilities) r rest ≡ Ok x =
    subst (λ (y : SslRequestFields × List ℕ). fields_by_at (bit_and server y.0.capabilities) y.0
    y.1 ≡ Ok x) same read.2 in
    behind_held (bit_and server r.capabilities) r rest x all few request fields

login_holds : (r : SslRequestFields) (response : Reading ResponseFields) → HoldsRequest r →
    ((x : ResponseFields × List ℕ) → response ≡ Ok x → HoldsLogin x.0)
    → HoldsResponse (LoggedIn (login_of r response))
login_holds r (Ok x) request own = own x refl
login_holds r (Err e) request own = request

response_holds : (with_ssl : Bool) (server : ℕ) (bytes : List ℕ) (r : SslRequestFields)
    (rest : List ℕ) → AreBytes rest → length rest < 2 ^ 64
    → HoldsRequest r → ssl_request_at bytes ≡ Ok (r, rest)
    → HoldsResponse (if with_ssl then SecureRequest r else LoggedIn (login_of r (response_to_at server bytes)))
response_holds true server bytes r rest all few request is = request
response_holds false server bytes r rest all few request is =
    login_holds r (response_to_at server bytes) request (λ x h. whole_holds server bytes r rest x all few request is h)

request_holds : (server : ℕ) (bytes : List ℕ) (event : Response)
    (request : Reading SslRequestFields) → ssl_request_at bytes ≡ request → AreBytes bytes
    → length bytes < 2 ^ 64 → by_request server bytes request ≡ Ok event → HoldsResponse event
request_holds server bytes event (Err e) is all few h = absurd cc
request_holds server bytes event (Ok x) is all few h =
    let rest : x.1 ≡ drop 32 bytes = eaten_first 32 ssl_request_at bytes ssl_request_at-sized x.0 x.1 is in
    let left : length x.1 < 2 ^ 64 = omega (arith, ap length rest, length-drop 32 bytes) in
    let same : response_of server x.0 bytes ≡ event = cc in
    subst HoldsResponse same (response_holds (contains (bit_and server x.0.capabilities) ssl) server bytes x.0 x.1
    (subst AreBytes (sym rest) (bytes_behind 32 bytes all)) left (request_held bytes x all is) is)

response_held : (server : ℕ) (bytes : List ℕ) (event : Response) → AreBytes bytes →
    length bytes < 2 ^ 64 → response_at server bytes ≡ Ok event → HoldsResponse event
unfolding response_at
response_held server bytes event all few h = go (agrees_41 server (fixed_number_at 2 bytes)) h where
  go : (agrees : Bool) → (if agrees then by_request server bytes (ssl_request_at bytes) else Err
      OldProtocol) ≡ Ok event → HoldsResponse event
  go true e = request_holds server bytes event (ssl_request_at bytes) refl all few e
  go false e = absurd cc

pub responses_read_again : ResponsesReadAgain
responses_read_again server payload event all few h =
    responses_read_back server event (response_held server payload event all few h)
    (responses_are_put server payload event all h)

-- AUTHENTICATIONS

ok_holds : (capabilities : ℕ) (bytes : List ℕ) (x : OkPacket × List ℕ) → AreBytes bytes →
    length bytes < 2 ^ 64 → ok_packet_at capabilities bytes ≡ Ok x → HoldsOk x.0
ok_holds capabilities bytes x all few h =
    let own = ok_packet_own capabilities bytes x.1 x.0 all few h in
    record {
      affected_rows = own.0.affected_rows;
      last_insert_id = own.0.last_insert_id;
      status_flags = own.0.status_flags;
      warnings = own.0.warnings;
      info = own.0.info;
      session_state_info = own.0.session_state_info;
    }

switch_holds : (b : ℕ) (bytes : List ℕ) (event : Authentication) → switch_of (b ∷ bytes) ≡
    Ok event → HoldsAuthentication event
switch_holds b [] event h = let same : OldAuthSwitch ≡ event = cc in subst HoldsAuthentication same tt
switch_holds b (c ∷ bytes) event h =
    let read = read_as BadSwitch AuthSwitch (switch_at (b ∷ c ∷ bytes)) event h in subst HoldsAuthentication read.2 tt

authentication_holds : (capabilities b : ℕ) (bytes : List ℕ) (event : Authentication)
    (ok err switch more factor : Bool) → AreBytes (b ∷ bytes)
    → length (b ∷ bytes) < 2 ^ 64
    → (if ok then or_fault BadOk Accepted (ok_packet_at capabilities (b ∷ bytes))
    else if err then or_fault BadError Denied (error_at capabilities (b ∷ bytes))
    else if switch then switch_of (b ∷ bytes)
    else if more then Ok (AuthMore bytes)
    else if factor then or_fault BadSwitch NextFactor (next_factor_at (b ∷ bytes))
    else Ok (PluginData (b ∷ bytes))) ≡ Ok event
    → HoldsAuthentication event
authentication_holds capabilities b bytes event true err switch more factor all few h =
    let read = read_as BadOk Accepted (ok_packet_at capabilities (b ∷ bytes)) event h in
    subst HoldsAuthentication read.2 (ok_holds capabilities (b ∷ bytes) read.0 all few read.1)
authentication_holds capabilities b bytes event false true switch more factor all few h =
    let read = read_as BadError Denied (error_at capabilities (b ∷ bytes)) event h in
    subst HoldsAuthentication read.2 (error_held capabilities (b ∷ bytes) read.0 all read.1)
authentication_holds capabilities b bytes event false false true more factor all few h = switch_holds b bytes event h
authentication_holds capabilities b bytes event false false false true factor all few h =
    let same : AuthMore bytes ≡ event = cc in subst HoldsAuthentication same tt
authentication_holds capabilities b bytes event false false false false true all few h =
    let read = read_as BadSwitch NextFactor (next_factor_at (b ∷ bytes)) event h in subst HoldsAuthentication read.2 tt
authentication_holds capabilities b bytes event false false false false false all few h =
    let same : PluginData (b ∷ bytes) ≡ event = cc in subst HoldsAuthentication same tt

authentication_held : (capabilities : ℕ) (bytes : List ℕ) (event : Authentication) →
    AreBytes bytes → length bytes < 2 ^ 64
    → authentication_at capabilities bytes ≡ Ok event → HoldsAuthentication event
unfolding authentication_at
authentication_held capabilities [] event all few h = absurd cc
authentication_held capabilities (b ∷ bytes) event all few h =
    authentication_holds capabilities b bytes event (b == 0) (b == 0xff) (b == 0xfe) (b == 1)
    (b == 2 && contains capabilities multi_factor) all few h

pub authentications_read_again : AuthenticationsReadAgain
authentications_read_again capabilities payload event all few h =
    authentications_read_back capabilities event (authentication_held capabilities payload event all few h)
    (authentications_are_put capabilities payload event all few h)
