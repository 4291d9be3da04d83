-- What a payload leads to by what is due alone: whatever columns of a group came before, its event is the same.
-- MySQL: Client/Server Protocol, "COM_QUERY Response" and "COM_STMT_PREPARE Response".
use Rattle.std.specs.Prelude.{ℕ, zero, suc, [], true, None, Result, Ok, Err}
use Rattle.mysql_reply_events.specs.declared.awaited.Due.{Due}
use Rattle.mysql_reply_events.specs.declared.context.Context.{Context}
use Rattle.mysql_reply_events.specs.declared.fault.ReplyFault.{ReplyFault}
use Rattle.mysql_reply_events.specs.Events.{Awaited, Event, Group, ReplySoFar}
use Rattle.mysql_reply_events.specs.Events.Awaited.{Columns}
use Rattle.mysql_reply_events.specs.Table.{Step, after_columns}
use Rattle.mysql_reply_events.specs.Views.{due_view}

-- What is awaited, without the columns of a group that came before.
abbrev pub bare : Awaited → Awaited
bare (Columns group n earlier) = Columns group n []
bare awaited = awaited

-- A reply of which that is due: no columns stand, and none came before.
abbrev pub due_reply : Due → ReplySoFar
due_reply due = record { awaited = due_view due; columns = None }

-- What a step tells: its event, and what is due behind it.
abbrev pub told : Step → Result (Event × Awaited) ReplyFault
told (Ok x) = Ok (x.0, bare x.1.awaited)
told (Err fault) = Err fault

-- What is due behind a column of a group, of which n more are left.
abbrev pub column_due : Context → Group → ℕ → Awaited
column_due c group zero = bare (after_columns c group true)
column_due c group (suc n) = Columns group n []
