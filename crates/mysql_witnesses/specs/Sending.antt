-- What the definitions of sending exclude: bulk requests, streams of commands, recodings, and what
-- stands after a refusal. MySQL: Client/Server Protocol, "COM_QUERY", "COM_STMT_PREPARE",
-- "COM_STMT_SEND_LONG_DATA", "COM_STMT_EXECUTE"; MariaDB: Client/Server Protocol, "COM_STMT_BULK_EXECUTE".
use Rattle.std.specs.Prelude.{◌≡◌, ◌++◌, ℕ, pos, List, [], ◌∷◌, Some, None, Ok, Err}
use Rattle.mysql_bulk_builder.specs.Causes.{mixed_kinds}
use Rattle.mysql_bulk_builder.specs.Cut.{Row}
use Rattle.mysql_bulk_builder.specs.TypedCut.{IsTightTyped, Part, PartFits, Typed, Untyped}
use Rattle.mysql_cells.specs.declared.value.Value.TheVariants.{Bytes, Int, NULL, UInt}
use Rattle.mysql_command_rules.specs.Buffering.{StopsAt, TakesFront}
use Rattle.mysql_command_rules.specs.Cause.{cause_of}
use Rattle.mysql_command_rules.specs.Commands.{bulk_request, pieces_from}
use Rattle.mysql_command_rules.specs.Sent.{last_of, stream_of}
use Rattle.mysql_command_rules.specs.declared.road.Road.TheVariants.{Execute, Text}
use Rattle.mysql_command_rules.specs.declared.refusal.Refusal.{Refusal}
use Rattle.mysql_command_rules.specs.declared.refusal.Refusal.TheVariants.{NotAlone, PacketTooLarge, WrongCount}
use Rattle.mysql_command_rules.specs.declared.send_to_error.SendToError.TheVariants.{Refused}
use Rattle.mysql_queries.specs.Sql.{Sql, read_by_default}
use Rattle.mysql_bytes.specs.declared.content.Content.TheVariants.{Number}
use Rattle.mysql_receive.specs.Query.{Statement}
use Rattle.mysql_receive.specs.Reading.{Set}
use Rattle.mysql_recoding.specs.AsItComes.{RecoderState, RecodesPiece, Terms}
use Rattle.mysql_recoding.specs.Causes.{values_of_sets}
use Rattle.mysql_recoding.specs.Recoding.{Recodes}
use Rattle.mysql_send.specs.Executions.{RefusesMore}
use Rattle.mysql_session.specs.Kept.{IsNotKept}
use Rattle.mysql_session.specs.WritingTo.{StopsSending}
use Rattle.mysql_values.specs.declared.params.Params.{Params}
use Rattle.mysql_wire.specs.Framing.{framing}

-- BULK REQUESTS

abbrev pub typed : ℕ → Part
typed count = record { typing = Typed; count = count }

-- two rows of one NULL each: two bytes; with a request's head and the type of their column eleven
abbrev pub two_nulls : List Row
two_nulls = (NULL ∷ []) ∷ (NULL ∷ []) ∷ []

-- Where a request has room for both rows, it alone is sent. Excluded: a request for each row.
-- MariaDB: Client/Server Protocol, "COM_STMT_BULK_EXECUTE".
abbrev pub OneRequestHoldsBothRows : Type 0
OneRequestHoldsBothRows = (cut : List Part) → IsTightTyped 11 1 two_nulls cut → cut ≡ typed 2 ∷ []

-- With room for ten bytes it doesn't hold both. Excluded: a request of one byte more than there is room.
-- MySQL Reference Manual, "Server System Variables" (max_allowed_packet).
abbrev pub RequestsKeepToTheRoom : Type 0
RequestsKeepToTheRoom = IsTightTyped 10 1 two_nulls (typed 2 ∷ []) → ⊥

-- The second request has no types, as no new column has a value. Excluded: types in each request.
-- MariaDB: Client/Server Protocol, "COM_STMT_BULK_EXECUTE" (send types to server).
abbrev pub TypesAreNotRepeated : Type 0
TypesAreNotRepeated = IsTightTyped 10 1 two_nulls (typed 1 ∷ typed 1 ∷ []) → ⊥

-- A request without types doesn't bring the first value of a column that was NULL before. Excluded:
-- a row that is read by the type of NULL. MariaDB: Client/Server Protocol, "COM_STMT_BULK_EXECUTE".
abbrev pub FirstValuesBringTheirType : Type 0
FirstValuesBringTheirType = (room : ℕ) →
    PartFits room 1 ((NULL ∷ []) ∷ (Int (pos 1) ∷ []) ∷ []) 1 Untyped 1 → ⊥

-- Numbers with a sign and without are two kinds: the second row has the first place of another kind.
-- Excluded: both in one column, where the one type is wrong for one of them.
-- MariaDB: Client/Server Protocol, "COM_STMT_BULK_EXECUTE" (parameter types).
abbrev pub SignsAreKinds : Type 0
SignsAreKinds = mixed_kinds ((Int (pos 1) ∷ []) ∷ (UInt 1 ∷ []) ∷ []) ≡ Some (1, 0)

-- NULL gives way to the first value of its column, by which later ones are compared. Excluded: a
-- column whose first value stays NULL, in which kinds may mix. Likewise the type that is sent.
-- MariaDB: Client/Server Protocol, "COM_STMT_BULK_EXECUTE" (parameter types).
abbrev pub NullGivesWayInItsColumn : Type 0
NullGivesWayInItsColumn = mixed_kinds ((NULL ∷ []) ∷ (Int (pos 1) ∷ []) ∷ (UInt 1 ∷ []) ∷ []) ≡ Some (2, 0)

-- Of NULL and `a` the request carries the type fd (VAR_STRING), an indicator for NULL, and `a`. Excluded: 06,
-- the type of NULL. MariaDB: Client/Server Protocol, "COM_STMT_BULK_EXECUTE".
abbrev pub NullGivesWayInTheTypes : Type 0
NullGivesWayInTheTypes =
    bulk_request 1 1 ((NULL ∷ []) ∷ (Bytes (0x61 ∷ []) ∷ []) ∷ []) 0 Typed 2
    ≡ 0xfa ∷ 1 ∷ 0 ∷ 0 ∷ 0 ∷ 0x80 ∷ 0 ∷ 0xfd ∷ 0 ∷ 1 ∷ 0 ∷ 1 ∷ 0x61 ∷ []

-- No front of the packet that carries both rows begins with 0a, as one that carries the first does. So what a
-- failed writer took is of the request of all sets, and not of another cut. MySQL: Client/Server
-- Protocol, "MySQL Packets".
abbrev pub FrontsAreOfTheTightCut : Type 0
FrontsAreOfTheTightCut = (front back : List ℕ) →
    framing (bulk_request 1 1 two_nulls 0 Typed 2) 0 ≡ (0x0a ∷ front) ++ back → ⊥

-- STREAMS

-- Of two queries each is numbered from 0. Excluded: a stream that numbers them on.
-- MySQL: Client/Server Protocol, "Sequence ID".
abbrev pub CommandsBeginAtZero : Type 0
CommandsBeginAtZero = stream_of (last_of [] (3 ∷ []) ∷ last_of [] (3 ∷ []) ∷ [])
    ≡ 1 ∷ 0 ∷ 0 ∷ 0 ∷ 3 ∷ 1 ∷ 0 ∷ 0 ∷ 0 ∷ 3 ∷ []

-- a query of no bytes
abbrev pub no_query : Statement
no_query = record { query = record { sql = read_by_default []; parsed = []; places = [] }; id = 0 }

-- A limit counts the four bytes of a packet's header: the packet of a query of no bytes has five.
-- Excluded: a payload of four bytes more. MySQL Reference Manual, "Server System Variables" (max_allowed_packet).
abbrev pub LimitsCountTheHeader : Type 0
LimitsCountTheHeader = (cause_of Text no_query 4 (Ok [] ∷ []) ≡ Some (PacketTooLarge 0)) ×
    (cause_of Text no_query 5 (Ok [] ∷ []) ≡ None)

-- A byte string of no bytes is a piece of long data too. Excluded: none for it, so that the server
-- looks for its cell. MySQL: Client/Server Protocol, "COM_STMT_SEND_LONG_DATA".
abbrev pub EmptyStringsHaveAPiece : Type 0
EmptyStringsHaveAPiece = pieces_from 1 0 (Bytes [] ∷ []) ≡ (0x18 ∷ 1 ∷ 0 ∷ 0 ∷ 0 ∷ 0 ∷ 0 ∷ []) ∷ []

-- Of further sets the first has the number that is given: behind three sets it isn't refused as the first of
-- all. Excluded: numbers from 0. MySQL: Client/Server Protocol, "COM_STMT_EXECUTE".
abbrev pub FurtherSetsAreNumberedOn : Type 0
FurtherSetsAreNumberedOn =
    RefusesMore 1 (record { places = 0; bytes = 100 }) 3 ((NULL ∷ []) ∷ []) (WrongCount 0) → ⊥

-- WRITERS

-- A writer that took all fails within nothing. Excluded: a failure once all is taken.
abbrev pub FailuresLeaveSomeUntaken : Type 0
FailuresLeaveSomeUntaken = TakesFront (Some []) (Some (7 ∷ [])) (7 ∷ []) → ⊥

-- Of a refused set no byte is written: what it began behind is. Excluded: a buffer that is flushed with them.
abbrev pub RefusedSetsAreNotFlushed : Type 0
RefusedSetsAreNotFlushed = (refusal : Refusal) (set : ℕ) (new : List ℕ) →
    StopsAt (Some []) (Some new) (Err refusal) set 1 (7 ∷ 8 ∷ []) (Refused refusal set) → new ≡ 7 ∷ []

-- One set isn't refused once it is written. Excluded: a refusal that counts it.
abbrev pub RefusalsComeBeforeTheirSet : Type 0
RefusalsComeBeforeTheirSet = (query : Sql) (set : Params) (id limit : ℕ) (old new : List ℕ) (refusal : Refusal) →
    StopsSending Execute query (set ∷ []) id limit (Some old) (Some new) (Refused refusal 1) → ⊥

-- A kept query's placeholders needn't stand alone, since by execute and by bulk they don't count. Excluded: a
-- query that isn't kept for that. MySQL Reference Manual, "PREPARE Statement" (parameter markers).
abbrev pub KeptQueriesMayRunTogether : Type 0
KeptQueriesMayRunTogether = (sql : Sql) (id place : ℕ) → IsNotKept sql id (NotAlone place) → ⊥

-- RECODINGS

-- An empty stream over a query of no bytes is recoded as its prepare. Excluded: the stream as it came.
-- MySQL: Client/Server Protocol, "COM_STMT_PREPARE".
abbrev pub StreamsAreNotCopied : Type 0
StreamsAreNotCopied = (id limit : ℕ) (old : List ℕ) → Recodes (read_by_default []) id limit [] old old → ⊥

-- A set of 1 and 2 is sent as 1 and 2, also where one name stands at both places. Excluded: one of
-- them at both, out of a map by names. MySQL: Client/Server Protocol, "COM_STMT_EXECUTE".
abbrev pub ContentsStayInTheirPlaces : Type 0
ContentsStayInTheirPlaces = values_of_sets ((Number (pos 1) ∷ Number (pos 2) ∷ []) ∷ [])
    ≡ (Int (pos 1) ∷ Int (pos 2) ∷ []) ∷ []

-- Behind a piece with a set no prepare is left to append. Excluded: one with each piece.
-- MySQL: Client/Server Protocol, "COM_STMT_PREPARE".
abbrev pub StreamsArePreparedOnce : Type 0
StreamsArePreparedOnce = (terms : Terms) (old new : RecoderState) (piece appended : List ℕ) (set : Set)
    (sets : List Set) (recodes : RecodesPiece terms old piece appended new) →
    recodes.sets ≡ set ∷ sets → new.prepare ≡ []
