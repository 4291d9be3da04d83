-- The laws of the commands in the manual's words.
-- MySQL: Client/Server Protocol, "Command Phase"; MariaDB: "COM_STMT_BULK_EXECUTE".
use Rattle.std.specs.Prelude.{◌≡◌, ℕ, ◌<◌, ◌-◌, ◌^◌, List, [], ◌∷◌}
use Rattle.mysql_const.specs.Commands.{command_number}
use Rattle.mysql_const.specs.declared.command.Command.TheVariants.{COM_QUERY}
use Rattle.mysql_wire.specs.Bytes.{AreBytes}
use Rattle.mysql_receive.specs.declared.audit.End.TheVariants.{Whole}
use Rattle.mysql_receive.specs.Query.{IsQuery, Statement}
use Rattle.mysql_receive.specs.InForce.{StatementState, after}
use Rattle.mysql_receive.specs.Reading.{Set, ReadsAs}
use Rattle.mysql_receive.specs.Audit.{Audit, Audited}
use Rattle.mysql_command_rules.specs.Manual.{IsCommand, IsFilled, IsFramed}

-- Of a statement of a query, each payload that is laid out as a command by what is in force, and
-- not too late to be numbered, reads as the sets that it carries, and leaves in force what the
-- command does.
abbrev pub EachLaidOutCommandReads : Type 0
EachLaidOutCommandReads =
    (statement : Statement) (state behind : StatementState) (number : ℕ) (payload : List ℕ)
    (sets : List Set) →
    IsQuery statement.query → number < 2 ^ 64 - 1 → IsCommand statement state payload sets behind →
    ReadsAs statement state number payload sets × (after statement state payload ≡ behind)

-- No other payload reads as any sets.
abbrev pub OnlyLaidOutCommandsRead : Type 0
OnlyLaidOutCommandsRead =
    (statement : Statement) (state : StatementState) (number : ℕ) (payload : List ℕ)
    (sets : List Set) →
    IsQuery statement.query → AreBytes payload → ReadsAs statement state number payload sets →
    IsCommand statement state payload sets (after statement state payload)

-- A COM_QUERY whose text is the query filled with a set reads as that set.
abbrev pub EachFilledQueryReads : Type 0
EachFilledQueryReads =
    (statement : Statement) (state : StatementState) (number : ℕ) (text : List ℕ) (set : Set) →
    IsQuery statement.query → number < 2 ^ 64 - 1 → IsFilled statement.query text set →
    ReadsAs statement state number (command_number COM_QUERY ∷ text) (set ∷ [])

-- A COM_QUERY reads as one set alone, and its text is the query filled with it.
abbrev pub OnlyFilledQueriesRead : Type 0
OnlyFilledQueriesRead =
    (statement : Statement) (state : StatementState) (number : ℕ) (text : List ℕ) (sets : List Set) →
    IsQuery statement.query → ReadsAs statement state number (command_number COM_QUERY ∷ text) sets →
    (set : Set) × IsFilled statement.query text set × (sets ≡ set ∷ [])

-- The framings of commands one after another audit as whole, with the sets that these carry.
abbrev pub EachFramedStreamIsWhole : Type 0
EachFramedStreamIsWhole = (statement : Statement) (limit : ℕ) (bytes : List ℕ) (sets : List Set) →
    IsQuery statement.query → IsFramed statement limit bytes sets →
    Audited statement limit bytes (record { sets = sets; ending = Whole })

-- No other bytes audit as whole.
abbrev pub OnlyFramedStreamsAreWhole : Type 0
OnlyFramedStreamsAreWhole = (statement : Statement) (limit : ℕ) (bytes : List ℕ) (audit : Audit) →
    IsQuery statement.query → AreBytes bytes → Audited statement limit bytes audit → audit.ending ≡ Whole →
    IsFramed statement limit bytes audit.sets
