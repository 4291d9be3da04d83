-- Recoding as the bytes come: what a recoder holds, what a piece of the stream makes it append, and
-- why it refuses. MySQL: Client/Server Protocol, "Protocol Basics: MySQL Packets", "Command Phase",
-- "COM_STMT_PREPARE", "COM_STMT_EXECUTE".
use Rattle.std.specs.Prelude.{◌≡◌, ◌⊎◌, ℕ, ◌+◌, ◌-◌, List, [], ◌∷◌, ◌++◌, length, map, Option, None, Some, Result, Ok}
use Rattle.std.specs.Prelude.{Err}
use Rattle.std.specs.List.{concat, flat_map}
use Rattle.std.specs.Option.{option_map}
use Rattle.mysql_wire.specs.Bytes.{AreBytes}
use Rattle.mysql_wire.specs.Framing.{framing}
use Rattle.mysql_wire.specs.Stream.{framings}
use Rattle.mysql_wire.specs.Stream.Numbering.{EachFromZero}
use Rattle.mysql_values.specs.Sql.{Sql}
use Rattle.mysql_values.specs.Queries.{places_of}
use Rattle.mysql_values.specs.Tokens.{HasTokens}
use Rattle.mysql_bulk_builder.specs.Causes.{first_some}
use Rattle.mysql_receive.specs.declared.audit.End.TheVariants.{Whole}
use Rattle.mysql_receive.specs.Audit.{Audit, AuditOf, IsAbout}
use Rattle.mysql_receive.specs.GoingOn.{ReceiverDecides, ReceiverState, TakesAll, fresh_receiver}
use Rattle.mysql_receive.specs.Query.{Statement, statement_of}
use Rattle.mysql_receive.specs.Reading.{Set}
use Rattle.mysql_receive.specs.Received.{Received, receiver_state}
use Rattle.mysql_receive.specs.Taking.{with_sets}
use Rattle.mysql_command_rules.specs.Cause.{cause_of, first_of_sets, query_cause, set_cause}
use Rattle.mysql_command_rules.specs.Commands.{prepare_command}
use Rattle.mysql_command_rules.specs.Sent.{as_execution, payloads_of, prepare_of}
use Rattle.mysql_command_rules.specs.declared.refusal.Refusal.{Refusal}
use Rattle.mysql_command_rules.specs.declared.road.Road.TheVariants.{Execute}
use Rattle.mysql_send.specs.Executions.{execution_payloads, whole_execution}
use Rattle.mysql_recoding.specs.declared.errors.RecodeError.{RecodeError}
use Rattle.mysql_recoding.specs.declared.errors.RecodeError.TheVariants as recode_error
use Rattle.mysql_recoding.specs.Causes.{ending_cause, error_for, recoding_cause, values_of_sets}
use Rattle.mysql_recoding.specs.Recoding.{Recodes, RefusesRecoding}

-- ---- what a recoder holds

-- what it recodes by: the statement, the limit of payloads, and how many placeholders the statement has
pub record Terms : Type 0 where
  pub statement : Statement
  pub limit : ℕ
  pub places : ℕ

-- what its receiver holds, how many sets were recoded, the framed prepare while it is not appended, and the refusal
pub record RecoderState : Type 0 where
  pub terms : Terms
  pub received : ReceiverState
  pub count : ℕ
  pub prepare : List ℕ
  pub refused : Option RecodeError

-- the same as plain data: its receiver's, and the recoder's own
pub record Recoded : Type 0 where
  pub receiver : Received
  pub places : ℕ
  pub count : ℕ
  pub prepare : List ℕ
  pub refused : Option RecodeError

abbrev pub recoder_state : Recoded → RecoderState
recoder_state r =
    record {
      terms = record { statement = r.receiver.statement; limit = r.receiver.limit; places = r.places };
      received = receiver_state r.receiver;
      count = r.count;
      prepare = r.prepare;
      refused = r.refused;
    }

-- what the receiver holds with these sets that were taken
abbrev pub with_taken : ReceiverState → List Set → ReceiverState
with_taken state sets = record state { sets = sets }

-- the answer of a feed, by the refusal that is held after it
abbrev pub answer_by : Option RecodeError → Result (Unit {0}) RecodeError
answer_by None = Ok tt
answer_by (Some error) = Err error

-- ---- a new recoder

-- A recoder of streams about a query that can be prepared: it has read and recoded nothing, and holds the prepare.
pub record IsNewRecoder (query : Sql) (id limit : ℕ) (r : RecoderState) : Type 0 where
  pub tokens : List (List ℕ)
  pub has : HasTokens query.mode query.text tokens
  pub about : IsAbout r.terms.statement query id
  pub limit_is : r.terms.limit ≡ limit
  pub places : r.terms.places ≡ length (places_of query tokens)
  pub none : query_cause Execute (statement_of query tokens id) (limit - 4) ≡ None
  pub received : r.received ≡ fresh_receiver
  pub count : r.count ≡ 0
  pub prepare : r.prepare ≡ framing (prepare_command (statement_of query tokens id).query.parsed) 0
  pub refused : r.refused ≡ None

-- the error for the first cause for which the query can't be prepared
pub record IsQueryCause (query : Sql) (id limit : ℕ) (error : RecodeError) : Type 0 where
  pub tokens : List (List ℕ)
  pub has : HasTokens query.mode query.text tokens
  pub first : option_map error_for (query_cause Execute (statement_of query tokens id) (limit - 4)) ≡ Some error

-- why none is made: Memory, or that cause
abbrev pub RefusesQuery : Sql → ℕ → ℕ → RecodeError → Type 0
RefusesQuery query id limit error = (error ≡ recode_error.Memory) ⊎ IsQueryCause query id limit error

-- ---- pieces

-- the bytes of the executions of sets
abbrev pub executions : ℕ → List Set → List ℕ
executions id sets = framings (flat_map (execution_payloads id) (values_of_sets sets)) EachFromZero

-- what sets append: their executions, and before the first set of all the prepare
abbrev pub appended_of : RecoderState → List Set → List ℕ
appended_of r [] = []
appended_of r (set ∷ sets) = r.prepare ++ executions r.terms.statement.id (set ∷ sets)

-- what is left of the prepare behind sets
abbrev pub prepare_behind : RecoderState → List Set → List ℕ
prepare_behind r [] = r.prepare
prepare_behind r (set ∷ sets) = []

-- the first cause against the executions of sets by a statement with this id and so many
-- placeholders, of which the first has this number
abbrev pub executions_cause : ℕ → ℕ → ℕ → ℕ → List Set → Option Refusal
executions_cause id places limit number sets =
    first_of_sets (set_cause (whole_execution id) places (limit - 4)) number (map Ok (values_of_sets sets))

abbrev pub sets_cause : Terms → ℕ → List Set → Option Refusal
sets_cause terms number sets = executions_cause terms.statement.id terms.places terms.limit number sets

-- the first cause, in the order of the stream, against what it says from here on: against one of
-- its sets, else how it ends
abbrev pub cause_from : RecoderState → Audit → Option RecodeError
cause_from r audit = first_some (option_map error_for (sets_cause r.terms r.count audit.sets) ∷
    ending_cause audit.ending ∷ [])

-- what is decided of the bytes to come
abbrev pub Decides : Terms → ReceiverState → List ℕ → Audit → Type 0
Decides terms state z audit = ReceiverDecides terms.statement terms.limit state z audit

-- A piece was recoded: nothing speaks against the sets of the payloads that stand whole with it,
-- and they are appended. What is held then decides, over the bytes to come, what was decided before
-- it over the piece and them, but for these sets.
pub record RecodesPiece (terms : Terms) (old : RecoderState) (piece appended : List ℕ)
    (new : RecoderState) : Type 0 where
  pub sets : List Set
  pub takes : TakesAll terms.statement terms.limit old.received piece (with_taken new.received sets)
  pub goes_on : (z : List ℕ) (audit : Audit) → AreBytes z → Decides terms new.received z audit →
      Decides terms old.received (piece ++ z) (with_sets sets audit)
  pub none : sets_cause terms old.count sets ≡ None
  pub appended_is : appended ≡ appended_of old sets
  pub prepare : new.prepare ≡ prepare_behind old sets
  pub count : new.count ≡ old.count + length sets
  pub none_held : new.received.sets ≡ []
  pub no_fault : new.received.fault ≡ None

-- why a piece is refused: Memory, or the first cause in the order of the stream, whatever comes behind the piece
abbrev pub RefusesPiece : RecoderState → List ℕ → RecodeError → Type 0
RefusesPiece old piece error =
    (error ≡ recode_error.Memory)
    ⊎ ((z : List ℕ) → AreBytes z → (audit : Audit) ×
    Decides old.terms old.received (piece ++ z) audit × (cause_from old audit ≡ Some error))

-- at the end the stream is whole, and a prepare that no set followed is appended
pub record Finishes (r : RecoderState) (appended : List ℕ) : Type 0 where
  pub audit : Audit
  pub decided : Decides r.terms r.received [] audit
  pub whole : audit.ending ≡ Whole
  pub appended_is : appended ≡ r.prepare

-- why the end is refused: Memory, or how the stream ends
abbrev pub RefusesEnd : RecoderState → RecodeError → Type 0
RefusesEnd r error =
    (error ≡ recode_error.Memory) ⊎
    ((audit : Audit) × Decides r.terms r.received [] audit ×
    (ending_cause audit.ending ≡ Some error))

-- ---- the whole stream

-- the first cause against a stream in its own order: against preparing the query, then against its
-- sets as they come, then how it ends
abbrev pub cause_as_it_comes : Statement → ℕ → Audit → Option RecodeError
cause_as_it_comes statement limit audit = first_some (
    option_map error_for (cause_of Execute statement limit (map Ok (values_of_sets audit.sets))) ∷
    ending_cause audit.ending ∷ [])

-- the first cause in that order for which the stream is not recoded
pub record IsCauseAsItComes (query : Sql) (id limit : ℕ) (stream : List ℕ) (error : RecodeError) : Type 0 where
  pub tokens : List (List ℕ)
  pub has : HasTokens query.mode query.text tokens
  pub audit : Audit
  pub says : AuditOf query id limit stream audit
  pub first : cause_as_it_comes (statement_of query tokens id) limit audit ≡ Some error

-- the recoding of sets that are not all yet: nothing before the first, else the prepare and their executions
abbrev pub recoded_front : Statement → List Set → List ℕ
recoded_front statement [] = []
recoded_front statement (set ∷ sets) =
    framings (payloads_of (prepare_of statement ∷
    flat_map (as_execution statement) (values_of_sets (set ∷ sets)))) EachFromZero

-- pieces were recoded one after another, and this was appended
abbrev pub RecodesPieces : RecoderState → List (List ℕ) → List ℕ → RecoderState → Type 0
RecodesPieces old [] appended new = (appended ≡ []) × (new ≡ old)
RecodesPieces old (piece ∷ pieces) appended new =
    (first : List ℕ) × (rest : List ℕ) × (between : RecoderState) ×
    RecodesPiece old.terms old piece first between × (between.terms ≡ old.terms)
    × RecodesPieces between pieces rest new × (appended ≡ first ++ rest)

-- What pieces append, however the stream is cut into them, is the recoding of what they carry.
-- Where the stream is whole, the prepare follows if it wasn't appended, and all of it is what
-- recoding appends; where it isn't, the end is refused as recoding it is. A piece is refused for
-- the first cause, in the order of the stream, against the pieces before it, it and whatever comes
-- behind it.
pub record RecodesTheSame (query : Sql) (id limit : ℕ) (pieces : List (List ℕ))
    (appended : List ℕ) (now : RecoderState) : Type 0 where
  pub tokens : List (List ℕ)
  pub has : HasTokens query.mode query.text tokens
  pub audit : Audit
  pub says : AuditOf query id limit (concat pieces) audit
  pub front : appended ≡ recoded_front (statement_of query tokens id) audit.sets
  pub whole : (last old : List ℕ) → Finishes now last →
      Recodes query id limit (concat pieces) old (old ++ (appended ++ last))
  pub ended : (error : RecodeError) → RefusesEnd now error → RefusesRecoding query id limit (concat pieces) error
  pub refused : (piece behind : List ℕ) (error : RecodeError) → AreBytes piece → AreBytes behind →
      RefusesPiece now piece error
      → (error ≡ recode_error.Memory) ⊎ IsCauseAsItComes query id limit (concat pieces ++ (piece ++ behind)) error

-- How the first causes in the two orders agree: where the stream is whole, and where nothing speaks
-- against its sets, they are one; there is none in the one order exactly where there is none in the
-- other.
pub record CausesAgree (statement : Statement) (limit : ℕ) (audit : Audit) : Type 0 where
  pub whole : audit.ending ≡ Whole → cause_as_it_comes statement limit audit ≡ recoding_cause statement limit audit
  pub sets_free : cause_of Execute statement limit (map Ok (values_of_sets audit.sets)) ≡ None →
      cause_as_it_comes statement limit audit ≡ recoding_cause statement limit audit
  pub none : recoding_cause statement limit audit ≡ None → cause_as_it_comes statement limit audit ≡ None
  pub none_back : cause_as_it_comes statement limit audit ≡ None → recoding_cause statement limit audit ≡ None

-- Recoding as the bytes come is recoding: pieces are recoded as the whole stream is, what can't be
-- prepared is the first cause against any stream, and against a stream that can be recoded there is
-- none.
pub record RecodedAsItComes : Type 0 where
  pub pieces_recode : (query : Sql) (id limit : ℕ) (start now : RecoderState)
      (pieces : List (List ℕ)) (appended : List ℕ) → IsNewRecoder query id limit start
      → AreBytes (concat pieces) → RecodesPieces start pieces appended now →
      RecodesTheSame query id limit pieces appended now
  pub queries_refuse : (query : Sql) (id limit : ℕ) (stream : List ℕ) (error : RecodeError) →
      AreBytes stream → RefusesQuery query id limit error
      → (error ≡ recode_error.Memory) ⊎ IsCauseAsItComes query id limit stream error
  pub recoded_pass : (query : Sql) (id limit : ℕ) (stream old new : List ℕ)
      (error : RecodeError) → AreBytes stream → Recodes query id limit stream old new
      → IsCauseAsItComes query id limit stream error → ⊥
  pub causes_agree : (statement : Statement) (limit : ℕ) (audit : Audit) → CausesAgree statement limit audit
