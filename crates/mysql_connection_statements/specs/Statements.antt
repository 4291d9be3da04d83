-- The prepared statements of a connection: what stands of each, and what a command and its reply
-- change. MySQL: Client/Server Protocol, "Prepared Statements"; MariaDB: Client/Server Protocol,
-- "3 - Binary Protocol (Prepared Statements)".
use Rattle.std.specs.Prelude.{ℕ, ◌+◌, ◌*◌, ◌-◌, ◌==◌, ◌&&◌, ◌||◌, Bool, not, if◌then◌else◌, nat_lt}
use Rattle.std.specs.Prelude.{List, []}
use Rattle.std.specs.Prelude.{length, Option, Some, None}
use Rattle.std.specs.BTreeMap.{insert_entry, is_at}
use Rattle.std.specs.List.Sorted.{IsStrictlySortedBy}
use Rattle.std.specs.Map.{keys_of, lookup, remove_entry}
use Rattle.std.specs.Ordering.{nat_cmp}
use Rattle.mysql_columns.specs.Columns.{ColumnDefinition}
use Rattle.mysql_executions.specs.After.{after_execution, after_long_data, after_refusal}
use Rattle.mysql_executions.specs.After.{after_reset, freshly_prepared}
use Rattle.mysql_executions.specs.InForce.{InForce, is_waiting}
use Rattle.mysql_executions.specs.Types.{unnamed}
use Rattle.mysql_executions.specs.declared.refused.Refused.{Refused}
use Rattle.mysql_executions.specs.declared.types.BoundType.{BoundType}
use Rattle.mysql_connection_statements.specs.declared.pending.Pending.{Pending}

-- A statement: its text, what is in force of its parameters, and the columns that it last had.
-- Three sums say how many bytes of payloads are kept for it, each payload with 4 more: of its
-- prepare and its statement packet, of its columns, of the long data that waits.
pub record Statement : Type 0 where
  pub text : List ℕ
  pub parameters : InForce
  pub columns : Option (List ColumnDefinition)
  pub prepared : ℕ
  pub described : ℕ
  pub sent : ℕ

-- The statements by their ids, in the order of the ids, the id that was prepared last, and what is kept
-- for all of them.
pub record Statements : Type 0 where
  pub by_id : List (ℕ × Statement)
  pub last : Option ℕ
  pub stored : ℕ

abbrev pub no_statements : Statements
no_statements = record { by_id = []; last = None; stored = 0 }

-- The ids ascend, so that each statement has one of its own.
abbrev pub IsOrdered : Statements → Type 0
IsOrdered s = IsStrictlySortedBy nat_cmp (keys_of s.by_id)

abbrev pub statement_at : Statements → ℕ → Option Statement
statement_at s id = lookup (is_at (nat_cmp id)) s.by_id

-- This id stands for the one that was prepared last. (MariaDB: "COM_STMT_EXECUTE", 'Statement id'.)
abbrev pub last_prepared : ℕ
last_prepared = 0xffffffff

abbrev pub resolved : Statements → ℕ → Option ℕ
resolved s id = if id == last_prepared then s.last else Some id

-- WHAT IS KEPT

-- A payload of which something is kept counts so much.
abbrev pub counted : List ℕ → ℕ
counted payload = 4 + length payload

-- Of parameters: two for each type, and the long data.
abbrev pub bound : InForce → ℕ → ℕ
bound parameters sent = 2 * length parameters.types + sent

abbrev pub statement_size : Statement → ℕ
statement_size s = s.prepared + (s.described + bound s.parameters s.sent)

abbrev pub stored_size : Option Statement → ℕ
stored_size None = 0
stored_size (Some statement) = statement_size statement

-- CHANGES

-- A statement stands under this id, in the place of one that stood there.
abbrev pub with_statement : ℕ → Statement → Statements → Statements
with_statement id statement s = record {
  by_id = insert_entry nat_cmp s.by_id id statement;
  last = s.last;
  stored = s.stored - stored_size (statement_at s id) + statement_size statement;
}

-- The statement of this id changes, where it is known.
abbrev pub changed : (Statement → Statement) → ℕ → Option Statement → Statements → Statements
changed change id None s = s
changed change id (Some statement) s = with_statement id (change statement) s

abbrev pub change_at : ℕ → (Statement → Statement) → Statements → Statements
change_at id change s = changed change id (statement_at s id) s

-- At a prepare none was prepared last; by its reply the statement of this id is.
abbrev pub forgetting_last : Statements → Statements
forgetting_last s = record { by_id = s.by_id; last = None; stored = s.stored }

abbrev pub prepared_as : (text : List ℕ) → (count size : ℕ) → Statement
prepared_as text count size = record {
  text = text;
  parameters = freshly_prepared count;
  columns = None;
  prepared = size;
  described = 0;
  sent = 0;
}

abbrev pub after_prepared : (id : ℕ) → Statement → Statements → Statements
after_prepared id statement s = record {
  by_id = (with_statement id statement s).by_id;
  last = Some id;
  stored = (with_statement id statement s).stored;
}

-- A statement is closed; where it was prepared last, none was.
abbrev pub unless_it : ℕ → Option ℕ → Option ℕ
unless_it id None = None
unless_it id (Some last) = if id == last then None else Some last

abbrev pub after_close : ℕ → Statements → Statements
after_close id s = record {
  by_id = remove_entry (is_at (nat_cmp id)) s.by_id;
  last = unless_it id s.last;
  stored = s.stored - stored_size (statement_at s id);
}

-- An execution came: the types that it carries are in force, and no long data waits; of a broken
-- statement nothing changes.
abbrev pub executed : List BoundType → Statement → Statement
executed types statement = record {
  text = statement.text;
  parameters = after_execution (unnamed types) statement.parameters;
  columns = statement.columns;
  prepared = statement.prepared;
  described = statement.described;
  sent = if statement.parameters.broken then statement.sent else 0;
}

-- Long data waits for the next execution; of a parameter that the statement hasn't nothing is kept.
abbrev pub with_long_data : (place : ℕ) → List ℕ → (size : ℕ) → Statement → Statement
with_long_data place bytes size statement = record {
  text = statement.text;
  parameters = after_long_data place bytes statement.parameters;
  columns = statement.columns;
  prepared = statement.prepared;
  described = statement.described;
  sent = if nat_lt place statement.parameters.count then statement.sent + size else statement.sent;
}

abbrev pub is_reset : Statement → Statement
is_reset statement = record {
  text = statement.text;
  parameters = after_reset statement.parameters;
  columns = statement.columns;
  prepared = statement.prepared;
  described = statement.described;
  sent = 0;
}

-- The columns of a result or of the statement came: these it has now, of so many bytes; of none the
-- ones before count.
abbrev pub described_behind : (size : ℕ) → Statement → ℕ
described_behind size statement = if size == 0 then statement.described else size

abbrev pub having_columns : Option (List ColumnDefinition) → (size : ℕ) → Statement → Statement
having_columns columns size statement = record {
  text = statement.text;
  parameters = statement.parameters;
  columns = columns;
  prepared = statement.prepared;
  described = described_behind size statement;
  sent = statement.sent;
}

-- WHAT AN ERROR TAKES BACK

-- An execution has nothing that an error takes back: it carries no types, and no long data waits for
-- it; or it is of a broken statement.
unfoldable pub has_nothing : List BoundType → Statement → Bool
has_nothing types statement =
    statement.parameters.broken || ((length types == 0) && not (is_waiting statement.parameters))

-- An execution that isn't answered: its statement, how it is refused, how many types it carried,
-- and what was in force before it, with the long data that waited then.
abbrev pub pending_of : ℕ → Refused → List BoundType → Statement → Option Pending
pending_of id refused types statement =
    if has_nothing types statement then None
    else Some (record {
      id = id;
      refused = refused;
      carried = length types;
      before = statement.parameters;
      sent = statement.sent;
    })

-- It was answered by an error of this code: what was in force before it may be so again, and its
-- long data wait.
abbrev pub sent_again : ℕ → InForce → ℕ
sent_again sent now = if is_waiting now then sent else 0

abbrev pub taken_back : (code : ℕ) → Pending → Statement → Statement
taken_back code p statement =
    let now = after_refusal code p.refused p.carried p.before statement.parameters in
    record {
      text = statement.text;
      parameters = now;
      columns = statement.columns;
      prepared = statement.prepared;
      described = statement.described;
      sent = sent_again p.sent now;
    }

-- What is kept for that beside the statement: what was in force before, where that is more.
abbrev pub more_before : Pending → Option Statement → ℕ
more_before p None = 0
more_before p (Some s) = bound p.before p.sent - bound s.parameters s.sent

abbrev pub pending_size : Statements → Pending → ℕ
pending_size s p = more_before p (statement_at s p.id)

-- What is kept of a statement until an execution of it is answered.
abbrev pub executing_size : Option Pending → Statement → ℕ
executing_size None s = statement_size s
executing_size (Some p) s = statement_size s + more_before p (Some s)

-- What is kept beside all statements until an execution is answered.
abbrev pub waiting_size : Statements → Option Pending → ℕ
waiting_size s None = 0
waiting_size s (Some p) = pending_size s p
