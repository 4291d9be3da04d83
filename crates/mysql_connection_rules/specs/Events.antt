-- What the payloads of a connection say, one event each, and whose they are.
-- MySQL: Client/Server Protocol, "Connection Lifecycle", "Connection Phase" and "Command Phase".
use Rattle.std.specs.Prelude.{ℕ, List}
use Rattle.mysql_authentication.specs.Events.{Authentication as AuthenticationSaid}
use Rattle.mysql_authentication.specs.Events.{Greeting as GreetingSaid}
use Rattle.mysql_authentication.specs.Events.{Response as ResponseSaid}
use Rattle.mysql_commands.specs.Commands.{Command}
use Rattle.mysql_reply_events.specs.Events.{Event as ReplySaid}
use Rattle.mysql_server_packets.specs.Packets.{ServerError}
use Rattle.mysql_connection_rules.specs.declared.side.Side.{Side}
use Rattle.mysql_connection_rules.specs.declared.side.Side.TheVariants.{Client, Server}

pub data Event : Type 0 where
  -- The server's first payload.
  Greeting : GreetingSaid → Event
  -- The client's answer to it.
  Response : ResponseSaid → Event
  -- The server's payloads while a user is logged in or changed.
  Authentication : AuthenticationSaid → Event
  -- What the client answers to them.
  Answer : List ℕ → Event
  -- What the client asks for.
  Asked : Command → Event
  -- What the server replies.
  Replied : ReplySaid → Event
  -- Bytes of a file of the client's that the server asked for.
  FileData : List ℕ → Event
  -- The server's last words: an error that answers nothing.
  Farewell : ServerError → Event

-- The side that says an event.
abbrev pub side_of : Event → Side
side_of (Greeting said) = Server
side_of (Response said) = Client
side_of (Authentication said) = Server
side_of (Answer bytes) = Client
side_of (Asked command) = Client
side_of (Replied said) = Server
side_of (FileData bytes) = Client
side_of (Farewell error) = Server
