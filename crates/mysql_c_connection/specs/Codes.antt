-- The numbers of what calls about a connection answer, and of sides and reasons.
use Rattle.std.specs.Prelude.{ℕ, ◌==◌, Option, Some, None, if◌then◌else◌}
use Rattle.mysql_connection_machine.specs.declared.payload_refusal.PayloadRefusal.{PayloadRefusal}
use Rattle.mysql_connection_machine.specs.declared.payload_refusal.PayloadRefusal.TheVariants as payload
use Rattle.mysql_connection_machine.specs.declared.sets_refusal.SetsRefusal.{SetsRefusal}
use Rattle.mysql_connection_machine.specs.declared.sets_refusal.SetsRefusal.TheVariants as sets
use Rattle.mysql_connection_rules.specs.declared.fault.Fault.{Fault}
use Rattle.mysql_connection_rules.specs.declared.fault.Fault.TheVariants as fault
use Rattle.mysql_connection_rules.specs.declared.reason.Reason.{Reason}
use Rattle.mysql_connection_rules.specs.declared.reason.Reason.TheVariants as reason
use Rattle.mysql_connection_rules.specs.declared.side.Side.{Side}
use Rattle.mysql_connection_rules.specs.declared.side.Side.TheVariants.{Client, Server}
use Rattle.mysql_reply_events.specs.declared.fault.ReplyFault.{ReplyFault}
use Rattle.mysql_reply_events.specs.declared.fault.ReplyFault.TheVariants as reply
use Rattle.mysql_c_connection.specs.declared.code.ConnectionCode.{ConnectionCode}
use Rattle.mysql_c_connection.specs.declared.code.ConnectionCode.TheVariants as code

-- the number of why a reply's payload has no place there: that of a reply by itself
abbrev pub reply_fault_number : ReplyFault → ℕ
reply_fault_number reply.BadHeader = 302
reply_fault_number reply.BadCount = 303
reply_fault_number reply.BadColumn = 304
reply_fault_number reply.BadOk = 305
reply_fault_number reply.BadError = 306
reply_fault_number reply.BadRow = 307
reply_fault_number reply.BadTerminator = 308
reply_fault_number reply.BadPrepare = 309
reply_fault_number reply.NotDue = 519
reply_fault_number reply.Memory = 1

-- the number of a fault; that memory ran out has the number that it has everywhere
abbrev pub fault_number : Fault → ℕ
fault_number fault.TooLarge = 510
fault_number (fault.OutOfSync number) = 511
fault_number fault.OldProtocol = 512
fault_number fault.BadGreeting = 513
fault_number fault.BadLogin = 514
fault_number fault.BadSwitch = 515
fault_number fault.Unasked = 516
fault_number fault.Held = 517
fault_number fault.AfterQuit = 518
fault_number (fault.BadReply why) = reply_fault_number why
fault_number fault.Memory = 1

-- the number of an answer
abbrev pub code_number : ConnectionCode → ℕ
code_number code.Done = 0
code_number code.Memory = 1
code_number code.EmptyHandle = 2
code_number code.OtherKind = 3
code_number code.OutOfRange = 4
code_number code.NoSuchSide = 8
code_number code.Closed = 500
code_number code.Held = 501
code_number code.NotDue = 520
code_number code.UnknownStatement = 521
code_number code.WrongCount = 522
code_number (code.Fault why) = fault_number why

-- the number of why a payload isn't put: where it would be a fault of what comes, that fault's
abbrev pub payload_refusal_number : PayloadRefusal → ℕ
payload_refusal_number payload.NotDue = code_number code.NotDue
payload_refusal_number payload.TooLarge = fault_number fault.TooLarge
payload_refusal_number (payload.BadPayload why) = fault_number why
payload_refusal_number payload.Held = fault_number fault.Held
payload_refusal_number payload.Memory = code_number code.Memory

-- the number of why sets of a query aren't put
abbrev pub sets_refusal_number : SetsRefusal → ℕ
sets_refusal_number sets.UnknownStatement = code_number code.UnknownStatement
sets_refusal_number (sets.WrongCount count) = code_number code.WrongCount
sets_refusal_number (sets.Packets refusal) = payload_refusal_number refusal.cause

-- the number of a side
abbrev pub side_number : Side → ℕ
side_number Client = 0
side_number Server = 1

-- the side of a number
abbrev pub side_numbered : ℕ → Option Side
side_numbered number = if number == 0 then Some Client else (if number == 1 then Some Server else None)

-- the number of why a connection is over
abbrev pub reason_number : Reason → ℕ
reason_number reason.Rejected = 0
reason_number reason.Secure = 1
reason_number reason.Denied = 2
reason_number reason.Compressed = 3
reason_number reason.Quit = 4
reason_number reason.Dump = 5
reason_number reason.Clone = 6
reason_number reason.Farewell = 7
