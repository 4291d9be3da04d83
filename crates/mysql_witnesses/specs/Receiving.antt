-- What the definitions of streams of commands exclude. MySQL: Client/Server Protocol, "COM_STMT_PREPARE",
-- "COM_STMT_SEND_LONG_DATA", "COM_STMT_RESET", "MySQL Packets", "Command Phase"; MariaDB: Client/Server Protocol,
-- "COM_STMT_BULK_EXECUTE".
use Rattle.std.specs.Prelude.{◌≡◌, ℕ, List, [], ◌∷◌, length, None}
use Rattle.mysql_receive.specs.Audit.{Audit, end_by_rest}
use Rattle.mysql_receive.specs.GoingOn.{ReceiverDecides, ReceiverState, RunsShort, fresh_receiver}
use Rattle.mysql_receive.specs.InForce.{StatementState, after, nothing_yet}
use Rattle.mysql_receive.specs.Query.{Query, Statement}
use Rattle.mysql_receive.specs.Reading.{PayloadReadsAs, RowsAt, Set}
use Rattle.mysql_receive.specs.declared.audit.End.TheVariants.{UnfinishedPacket, Whole}
use Rattle.mysql_receive.specs.declared.param_type.ParamType.{ParamType}
use Rattle.mysql_wire.specs.Stream.Rest.{Open}

-- Behind a reset the types stay. Excluded: a statement without types.
-- MySQL: Client/Server Protocol, "COM_STMT_RESET".
abbrev pub ResetsLeaveTheTypes : Type 0
ResetsLeaveTheTypes = (statement : Statement) (state : StatementState) (body : List ℕ) →
    (after statement state (0x1a ∷ body)).types ≡ state.types

-- Behind a prepare no types are in force. Excluded: those of the statement that was prepared before.
-- MySQL: Client/Server Protocol, "COM_STMT_PREPARE".
abbrev pub PreparesDropTheTypes : Type 0
PreparesDropTheTypes = (statement : Statement) (state : StatementState) (body : List ℕ) →
    (after statement state (0x16 ∷ body)).types ≡ None

-- Long data is no set. Excluded: a set at its first piece.
-- MySQL: Client/Server Protocol, "COM_STMT_SEND_LONG_DATA".
abbrev pub LongDataIsNoSet : Type 0
LongDataIsNoSet = (statement : Statement) (state : StatementState) (body : List ℕ) (sets : List Set) →
    PayloadReadsAs statement state (0x18 ∷ body) sets → sets ≡ []

-- Two rows of a bulk request, each of one NULL, are two sets. Excluded: the first row alone.
-- MariaDB: Client/Server Protocol, "COM_STMT_BULK_EXECUTE".
abbrev pub EachRowIsASet : Type 0
EachRowIsASet = (t : ParamType) (sets : List Set) → RowsAt (t ∷ []) (1 ∷ 1 ∷ []) sets [] → length sets ≡ 2

-- a statement without placeholders
abbrev pub without_places : Query → (id : ℕ) → Statement
without_places query id = record { query = record query { places = [] }; id = id }

-- A stream that ends within a packet has no fault. Excluded: a fault at each front.
-- MySQL: Client/Server Protocol, "MySQL Packets".
abbrev pub FrontsAreNoFaults : Type 0
FrontsAreNoFaults = (query : Query) (id : ℕ) →
    end_by_rest (without_places query id) nothing_yet 0 Open ≡ UnfinishedPacket

-- A stream of no bytes is whole. Excluded: any other end, as that memory ran out where it didn't.
-- MySQL: Client/Server Protocol, "MySQL Packets".
abbrev pub EmptyStreamsAreWhole : Type 0
EmptyStreamsAreWhole = (query : Query) (id limit : ℕ) (audit : Audit) →
    ReceiverDecides (without_places query id) limit fresh_receiver [] audit → audit.ending ≡ Whole

-- A set that was read stays, as the first, where memory runs out. Excluded: a receiver that drops its sets
-- there. MySQL: Client/Server Protocol, "Command Phase".
abbrev pub SetsThatWereReadStay : Type 0
SetsThatWereReadStay = (statement : Statement) (limit : ℕ) (old new : ReceiverState) (piece : List ℕ) (set : Set) →
    old.sets ≡ set ∷ [] → RunsShort statement limit old piece new → (later : List Set) × (new.sets ≡ set ∷ later)
