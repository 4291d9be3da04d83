-- What a command's number and the first fields behind it tell, whatever follows: how the reply reads, and which
-- statement it is about. MySQL: Client/Server Protocol, "Command Phase"; MariaDB: Client/Server Protocol,
-- "COM_STMT_BULK_EXECUTE".
use Rattle.std.specs.Prelude.{ℕ, nat_eq, if◌then◌else◌, List, [], ◌∷◌, Option, None, Some, unwrap_or}
use Rattle.std.specs.List.{list_any}
use Rattle.std.specs.Option.{option_map}
use Rattle.mysql_buf.specs.Reading.{little_at}
use Rattle.mysql_const.specs.Tables.{entry_of}
use Rattle.mysql_commands.specs.declared.reply.Reply.{Reply}
use Rattle.mysql_commands.specs.declared.reply.Reply.TheVariants.{Authentication, Binary, Columns, First, Line, Missing}
use Rattle.mysql_commands.specs.declared.reply.Reply.TheVariants.{Plain, Prepared, Rows, Text}

-- the numbers whose reply isn't plain
abbrev pub replies : List (ℕ × Reply)
replies =
    (0x01, Missing)
    ∷ (0x03, Text)
    ∷ (0x04, Columns)
    ∷ (0x09, Line)
    ∷ (0x0a, Text)
    ∷ (0x11, Authentication)
    ∷ (0x12, First)
    ∷ (0x13, First)
    ∷ (0x16, Prepared)
    ∷ (0x17, Binary)
    ∷ (0x18, Missing)
    ∷ (0x19, Missing)
    ∷ (0x1c, Rows)
    ∷ (0x1e, First)
    ∷ (0x20, First)
    ∷ (0xfa, Binary)
    ∷ []

-- the reply to a payload
abbrev pub reply_to : List ℕ → Reply
reply_to [] = Plain
reply_to (number ∷ bytes) = unwrap_or (entry_of nat_eq replies number) Plain

-- the numbers behind which a statement's id stands: executions, long data, closing, resetting, fetching
abbrev pub of_statements : List ℕ
of_statements = 0x17 ∷ 0x18 ∷ 0x19 ∷ 0x1a ∷ 0x1c ∷ 0xfa ∷ []

-- a statement's id, where all of it stands there
abbrev pub id_at : List ℕ → Option ℕ
id_at bytes = option_map (λ id. id.0) (little_at 4 bytes)

-- the statement that a payload is about
abbrev pub statement_of : List ℕ → Option ℕ
statement_of [] = None
statement_of (number ∷ bytes) = if list_any (nat_eq number) of_statements then id_at bytes else None
