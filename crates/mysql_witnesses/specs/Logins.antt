-- What the definitions of logging in exclude. MySQL: Client/Server Protocol, "Connection Phase",
-- "Protocol::SSLRequest", "Protocol::HandshakeResponse41", "Protocol::AuthNextFactor", "Capabilities Flags".
use Rattle.std.specs.Prelude.{◌≡◌, ℕ, List, [], ◌∷◌, length, replicate, Some, Ok}
use Rattle.mysql_authentication.specs.Events.{CutOff, LoggedIn, PluginData, SecureRequest}
use Rattle.mysql_authentication.specs.Readings.{authentication_at, response_at}
use Rattle.mysql_authentication.specs.Written.{scramble_cause}
use Rattle.mysql_authentication.specs.declared.refusal.LoginRefusal.TheVariants.{TooLong}
use Rattle.mysql_handshake_response.specs.SslRequests.{SslRequestFields}

-- An answer with SSL (0800) to a server that has PROTOCOL_41 (0200) alone goes on without TLS. Excluded: a reader that
-- takes it for a request of TLS. MySQL: Client/Server Protocol, "Protocol::SSLRequest".
abbrev pub TlsIsOfferedByBoth : Type 0
TlsIsOfferedByBoth = (request : SslRequestFields) →
    response_at 0x200 (0 ∷ 0x0a ∷ replicate 30 0) ≡ Ok (SecureRequest request) → ⊥

-- Of an answer with CONNECT_WITH_DB (08) to such a server all fields are read, and no database is
-- looked for. Excluded: a reader that goes by the answer's own capabilities, for which it is cut off.
-- MySQL: Client/Server Protocol, "Protocol::HandshakeResponse41".
abbrev pub FieldsStandByBothCapabilities : Type 0
FieldsStandByBothCapabilities = (request : SslRequestFields) →
    response_at 0x200 (8 ∷ 2 ∷ replicate 32 0) ≡ Ok (LoggedIn (CutOff request)) → ⊥

-- An answer to the scramble of 256 bytes is too long for its length of one byte. Excluded: one that
-- is put cut. MySQL: Client/Server Protocol, "Protocol::HandshakeResponse41" (SECURE_CONNECTION).
abbrev pub LongAnswersAreNotPut : Type 0
LongAnswersAreNotPut = (text : List ℕ) → length text ≡ 256 → scramble_cause 0x8000 text ≡ Some TooLong

-- Without MULTI_FACTOR_AUTHENTICATION 02 begins a plugin's data. Excluded: a request for one more
-- plugin. MySQL: Client/Server Protocol, "Protocol::AuthNextFactor".
abbrev pub FactorsAreAgreed : Type 0
FactorsAreAgreed = authentication_at 0 (2 ∷ []) ≡ Ok (PluginData (2 ∷ []))
