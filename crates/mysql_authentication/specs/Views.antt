-- What contracts see of the events, apart from where their bytes lie.
-- (MySQL: Client/Server Protocol, "Connection Phase".)
use Rattle.std.specs.Cow.{cow_slice_items}
use Rattle.mysql_auth.specs.Views.{more_data_view, next_factor_view, switch_view}
use Rattle.mysql_authentication.specs.Events.{Accepted, AuthMore, AuthSwitch, Authentication, CutOff, Denied, Greeted}
use Rattle.mysql_authentication.specs.Events.{Greeting, LoggedIn, Login, NextFactor, OldAuthSwitch, PluginData}
use Rattle.mysql_authentication.specs.Events.{Rejected, Response, SecureRequest, Whole}
use Rattle.mysql_authentication.specs.declared.events.AuthenticationEvent.{AuthenticationEvent}
use Rattle.mysql_authentication.specs.declared.events.AuthenticationEvent.TheVariants as authentication
use Rattle.mysql_authentication.specs.declared.events.GreetingEvent.{GreetingEvent}
use Rattle.mysql_authentication.specs.declared.events.GreetingEvent.TheVariants as greeting
use Rattle.mysql_authentication.specs.declared.events.LoginResponse.{LoginResponse}
use Rattle.mysql_authentication.specs.declared.events.LoginResponse.TheVariants as login
use Rattle.mysql_authentication.specs.declared.events.ResponseEvent.{ResponseEvent}
use Rattle.mysql_authentication.specs.declared.events.ResponseEvent.TheVariants as response
use Rattle.mysql_handshake.specs.HandshakeViews.{handshake_view}
use Rattle.mysql_handshake_response.specs.ResponseViews.{response_view}
use Rattle.mysql_handshake_response.specs.SslRequestViews.{ssl_request_view}
use Rattle.mysql_ok_packets.specs.Views.{ok_packet_view}
use Rattle.mysql_server_packets.specs.Views.{server_error_view}

abbrev pub greeting_view : GreetingEvent → Greeting
greeting_view (greeting.Rejected error) = Rejected (server_error_view error)
greeting_view (greeting.Greeting packet) = Greeted (handshake_view packet)

abbrev pub login_view : LoginResponse → Login
login_view (login.Whole answer) = Whole (response_view answer)
login_view (login.CutOff request) = CutOff (ssl_request_view request)

abbrev pub response_event_view : ResponseEvent → Response
response_event_view (response.SecureRequest request) = SecureRequest (ssl_request_view request)
response_event_view (response.Login answer) = LoggedIn (login_view answer)

abbrev pub authentication_view : AuthenticationEvent → Authentication
authentication_view (authentication.Accepted packet) = Accepted (ok_packet_view packet)
authentication_view (authentication.Denied error) = Denied (server_error_view error)
authentication_view (authentication.AuthSwitch request) = AuthSwitch (switch_view request)
authentication_view (authentication.OldAuthSwitch request) = OldAuthSwitch
authentication_view (authentication.AuthMore more) = AuthMore (more_data_view more)
authentication_view (authentication.NextFactor request) = NextFactor (next_factor_view request)
authentication_view (authentication.PluginData bytes) = PluginData (cow_slice_items bytes)
