-- Answers of 32 bytes and more.
use Rattle.std.proofs.Common.{◌≡◌, Bool, true, false, Result, Ok, Err, ap}
use Rattle.std.specs.Prelude.{nat_le}
use Rattle.bitflags.proofs.OnLiterals.{bitflags_on_literals}
use Rattle.mysql_authentication.specs.Events.{CutOff, LoggedIn, Response, SecureRequest}
use Rattle.mysql_authentication.specs.Readings.{response_at}
use Rattle.mysql_authentication.specs.declared.fault.LoginFault.{LoginFault}
use Rattle.mysql_authentication.specs.Written.{unless}
use Rattle.mysql_authentication.specs.declared.refusal.LoginRefusal.TheVariants.{TooLong}
use Rattle.mysql_buf.specs.Reading.{first}
use Rattle.mysql_handshake_response.specs.Responses.{fields_by_at, named_parts_at, response_to_at, scramble_at}
use Rattle.mysql_handshake_response.specs.SslRequests.{ssl_fields_at, ssl_request_at}
use Rattle.mysql_witnesses.specs.Logins.{FieldsStandByBothCapabilities, LongAnswersAreNotPut, TlsIsOfferedByBoth}

is_secure : Response → Bool
is_secure (SecureRequest request) = true
is_secure response = false

is_cut_off : Response → Bool
is_cut_off (LoggedIn (CutOff request)) = true
is_cut_off response = false

tells : (Response → Bool) → Result Response LoginFault → Bool
tells test (Ok response) = test response
tells test (Err fault) = false

pub tls_is_offered_by_both : TlsIsOfferedByBoth
unfolding is_secure tells response_at ssl_request_at ssl_fields_at first bitflags_on_literals
tls_is_offered_by_both request e = let f : false ≡ true = ap (tells is_secure) e in cc

pub fields_stand_by_both_capabilities : FieldsStandByBothCapabilities
unfolding is_cut_off tells response_at response_to_at ssl_request_at ssl_fields_at fields_by_at
    scramble_at named_parts_at first bitflags_on_literals
fields_stand_by_both_capabilities request e = let f : false ≡ true = ap (tells is_cut_off) e in cc

pub long_answers_are_not_put : LongAnswersAreNotPut
long_answers_are_not_put text e = ap (λ n. unless (nat_le n 255) TooLong) e
