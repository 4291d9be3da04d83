-- What stands of a connection between two payloads: what is due, and what is known of it.
-- MySQL: Client/Server Protocol, "Connection Phase", "Prepared Statements" and "Sequence ID".
use Rattle.std.specs.Prelude.{ℕ, ◌+◌, Bool, false, List, Option, None, Some}
use Rattle.std.specs.Option.{option_and_then}
use Rattle.mysql_auth.specs.Plugins.{Plugin}
use Rattle.mysql_connection_statements.specs.Statements.{Statement, Statements, no_statements, pending_size}
use Rattle.mysql_connection_statements.specs.Statements.{statement_at}
use Rattle.mysql_connection_statements.specs.declared.pending.Pending.{Pending}
use Rattle.mysql_const.specs.declared.capabilities.Capabilities.{Capabilities}
use Rattle.mysql_handshake.specs.Capabilities.{both_words}
use Rattle.mysql_reply_events.specs.Events.{ReplySoFar}
use Rattle.mysql_reply_events.specs.declared.context.ReplyKind.{ReplyKind}
use Rattle.mysql_connection_rules.specs.declared.reason.Reason.{Reason}
use Rattle.mysql_connection_rules.specs.declared.exchange.Exchange.{Exchange}

-- WHAT A REPLY IS ABOUT

pub data About : Type 0 where
  -- No statement.
  Nothing : About
  -- A statement that is being prepared: its text, and what is kept of the command.
  Preparing : List ℕ → ℕ → About
  -- The statement of this id.
  OfStatement : ℕ → About
  -- An execution of which no payload of the reply came.
  Executing : Pending → About
  -- The session begins anew.
  Resetting : About
  -- Behind one payload that is no error the connection goes on in a form of its own.
  Streaming : Reason → About

-- A reply: its kind, how far it came, what it is about, and the columns that are kept for it: those
-- of its result before this one, those of this one, and how many of its parameters are still to
-- come, which aren't kept.
pub record InReply : Type 0 where
  pub kind : ReplyKind
  pub so_far : ReplySoFar
  pub about : About
  pub earlier : ℕ
  pub coming : ℕ
  pub parameters : ℕ

-- THE CONNECTION

-- What is due.
pub data Phase : Type 0 where
  -- The server's first payload.
  Greeting : Phase
  -- The client's answer to it.
  Response : Phase
  -- A payload of the server's by which a user is logged in or changed.
  Authentication : Exchange → Phase
  -- The client's answer to such a one.
  Answer : Exchange → Phase
  -- A command.
  Command : Phase
  -- A payload of a reply, or of a file that it asks for.
  Reply : InReply → Phase
  -- Nothing: what follows isn't read here.
  Over : Reason → Phase

-- The phase; the number that is due of the next packet; whether the payload that came last is the
-- client's; the capabilities that the server offers, and those in force; the plugin in force; the
-- prepared statements.
pub record Standing : Type 0 where
  pub phase : Phase
  pub number : ℕ
  pub answers : Bool
  pub offered : Capabilities
  pub capabilities : Capabilities
  pub plugin : Option Plugin
  pub statements : Statements

abbrev pub no_capabilities : Capabilities
no_capabilities = both_words 0 0

-- Of a connection of which no byte came the server's greeting is due.
abbrev pub at_first : Standing
at_first = record {
  phase = Greeting;
  number = 0;
  answers = false;
  offered = no_capabilities;
  capabilities = no_capabilities;
  plugin = None;
  statements = no_statements;
}

-- Behind a login by which these capabilities are in force a command is due, and no statement is
-- prepared.
abbrev pub logged_in : Capabilities → Standing
logged_in capabilities = record {
  phase = Command;
  number = 0;
  answers = false;
  offered = capabilities;
  capabilities = capabilities;
  plugin = None;
  statements = no_statements;
}

-- THE STATEMENT OF A REPLY

abbrev pub id_about : About → Option ℕ
id_about (OfStatement id) = Some id
id_about (Executing pending) = Some pending.id
id_about about = None

abbrev pub id_due : Phase → Option ℕ
id_due (Reply r) = id_about r.about
id_due phase = None

-- The statement that the reply is about that is due, where it is known.
abbrev pub statement_due : Standing → Option Statement
statement_due s = option_and_then (statement_at s.statements) (id_due s.phase)

-- WHAT IS KEPT

abbrev pub about_size : Statements → About → ℕ
about_size s (Preparing text size) = size
about_size s (Executing pending) = pending_size s pending
about_size s about = 0

abbrev pub phase_size : Statements → Phase → ℕ
phase_size s (Reply r) = r.earlier + (r.coming + about_size s r.about)
phase_size s phase = 0

-- Each payload of which something is kept, by 4 and its length, and 2 for each type in force; where
-- a reply may bring back types and long data, the larger sum.
abbrev pub kept : Standing → ℕ
kept s = s.statements.stored + phase_size s.statements s.phase
