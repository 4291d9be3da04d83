-- What C sees of how a connection stands.
-- MySQL: Client/Server Protocol, "Connection Lifecycle" and "Prepared Statements".
use Rattle.std.specs.Prelude.{◌≡◌, ◌^◌, ◌-◌, ℕ, Option, Some, None, MatchOption, length, min}
use Rattle.mysql_connection_machine.specs.Machines.{Machine, room_left, statement_meant, stream_in, turn_in}
use Rattle.mysql_connection_rules.specs.Streams.{Failure, held}
use Rattle.mysql_connection_rules.specs.declared.side.Side.{Side}
use Rattle.mysql_connection_rules.specs.declared.side.Side.TheVariants.{Client, Server}
use Rattle.mysql_connection_state.specs.Views.{plain_phase}
use Rattle.mysql_connection_state.specs.declared.phase.Phase.{Phase}
use Rattle.mysql_connection_state.specs.declared.phase.Phase.TheVariants as phase
use Rattle.mysql_connection_statements.specs.Statements.{Statement}
use Rattle.mysql_session_modes.specs.SessionModes.{unknown_mode}
use Rattle.mysql_session_modes.specs.declared.session_mode.SessionMode.{SessionMode}
use Rattle.mysql_c_connection.specs.declared.code.ConnectionCode.TheVariants as code
use Rattle.mysql_c_connection.specs.declared.object.Object.{Object}
use Rattle.mysql_c_connection.specs.declared.object.Object.TheVariants as object
use Rattle.mysql_c_connection.specs.declared.shown.ShownStanding.{ShownStanding}
use Rattle.mysql_c_connection.specs.Codes.{code_number, fault_number, reason_number, side_number}

-- the number of whose turn it is: 2 where it is nobody's
abbrev pub turn_number : Option Side → ℕ
turn_number None = 2
turn_number (Some side) = side_number side

-- the number of what is due
abbrev pub phase_number : Phase → ℕ
phase_number phase.Greeting = 0
phase_number phase.Response = 1
phase_number phase.Authentication = 2
phase_number phase.Answer = 3
phase_number phase.Command = 4
phase_number phase.Reply = 5
phase_number phase.FileData = 6
phase_number (phase.Over reason) = 7

-- the number of why nothing is due, or 0
abbrev pub over_number : Phase → ℕ
over_number (phase.Over reason) = reason_number reason
over_number other = 0

-- the fault that was found: its number, its side and its byte; or 0
pub record ShowsFault (failure : Option Failure) (shown : ShownStanding) : Type 0 where
  pub fault : MatchOption failure (shown.fault ≡ 0) (λ f. shown.fault ≡ fault_number f.fault)
  pub side : MatchOption failure (shown.fault_side ≡ 0) (λ f. shown.fault_side ≡ side_number f.side)
  pub byte : MatchOption failure (shown.fault_byte ≡ 0) (λ f. shown.fault_byte ≡ f.byte)

-- each number is that of the connection
pub record ShowsStanding (m : Machine) (shown : ShownStanding) : Type 0 where
  pub turn : shown.turn ≡ turn_number (turn_in m)
  pub phase : shown.phase ≡ phase_number (plain_phase m.world.standing.phase)
  pub reason : shown.reason ≡ over_number (plain_phase m.world.standing.phase)
  pub capabilities : shown.capabilities ≡ m.world.standing.capabilities.protocol.0
  pub mariadb_capabilities : shown.mariadb_capabilities ≡ m.world.standing.capabilities.mariadb.0
  pub client_room : shown.client_room ≡ min (room_left Client m) (2 ^ 64 - 1)
  pub server_room : shown.server_room ≡ min (room_left Server m) (2 ^ 64 - 1)
  pub held : shown.held ≡ min (held m.world) (2 ^ 64 - 1)
  pub failure : ShowsFault m.failure shown

-- what is shown of how an object stands
abbrev pub StandingIn : Object → ℕ → ShownStanding → Type 0
StandingIn object.Empty number shown = number ≡ code_number code.EmptyHandle
StandingIn (object.Open c) number shown = (number ≡ 0) × ShowsStanding c.connection shown

-- what is known of the session's mode and character set: of no connection nothing
abbrev pub session_in : Object → SessionMode
session_in object.Empty = unknown_mode
session_in (object.Open c) = c.connection.mode

-- what is shown of a statement: its text's length, and how many parameters it has
abbrev pub ShowsStatement : Option Statement → (number len params : ℕ) → Type 0
ShowsStatement None number len params = number ≡ code_number code.OutOfRange
ShowsStatement (Some s) number len params =
    (number ≡ 0) × (len ≡ length s.text) × (params ≡ s.parameters.count)

abbrev pub StatementIn : Object → ℕ → (number len params : ℕ) → Type 0
StatementIn object.Empty id number len params = number ≡ code_number code.EmptyHandle
StatementIn (object.Open c) id number len params =
    ShowsStatement (statement_meant c.connection.world.standing.statements id) number len params

-- how much of a side's stream is unread
abbrev pub RestIn : Object → Side → (number len : ℕ) → Type 0
RestIn object.Empty side number len = number ≡ code_number code.EmptyHandle
RestIn (object.Open c) side number len =
    (number ≡ 0) × (len ≡ length (stream_in side c.connection).bytes)

-- the same of a side's number
abbrev pub RestOf : Option Side → Object → (number len : ℕ) → Type 0
RestOf None held number len = number ≡ code_number code.NoSuchSide
RestOf (Some side) held number len = RestIn held side number len
