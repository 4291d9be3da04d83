-- Words of the recoder's own body, which no public call's clause has: what its steps promise.
-- MySQL: Client/Server Protocol, "COM_STMT_PREPARE", "COM_STMT_EXECUTE".
use Rattle.std.specs.Prelude.{◌≡◌, ◌⊎◌, ℕ, ◌+◌, ◌-◌, List, ◌++◌, [], length, Option, None, Some}
use Rattle.std.specs.Option.{option_map}
use Rattle.mysql_wire.specs.Bytes.{AreBytes}
use Rattle.mysql_wire.specs.Framing.{framing}
use Rattle.mysql_values.specs.Sql.{Sql}
use Rattle.mysql_values.specs.Queries.{places_of}
use Rattle.mysql_values.specs.Tokens.{HasTokens}
use Rattle.mysql_receive.specs.declared.fault.StreamFault.{StreamFault}
use Rattle.mysql_receive.specs.Audit.{Audit}
use Rattle.mysql_receive.specs.GoingOn.{ReceiverDecides, TakesAll}
use Rattle.mysql_receive.specs.Reading.{Set}
use Rattle.mysql_receive.specs.Received.{Received, receiver_state}
use Rattle.mysql_receive.specs.Taking.{with_sets}
use Rattle.mysql_receive.specs.Query.{statement_of}
use Rattle.mysql_command_rules.specs.Cause.{query_cause}
use Rattle.mysql_command_rules.specs.Commands.{prepare_command}
use Rattle.mysql_command_rules.specs.declared.road.Road.TheVariants.{Execute}
use Rattle.mysql_recoding.specs.declared.errors.RecodeError.{RecodeError}
use Rattle.mysql_recoding.specs.declared.errors.RecodeError.TheVariants as recode_error
use Rattle.mysql_recoding.specs.Causes.{error_for}
use Rattle.mysql_recoding.specs.AsItComes.{Recoded, appended_of, executions, executions_cause, prepare_behind}
use Rattle.mysql_recoding.specs.AsItComes.{recoder_state, sets_cause, with_taken}

-- a query that can be prepared, with so many placeholders, and its framed prepare
pub record CanBePrepared (query : Sql) (id limit places : ℕ) (prepare : List ℕ) : Type 0 where
  pub tokens : List (List ℕ)
  pub has : HasTokens query.mode query.text tokens
  pub places_are : places ≡ length (places_of query tokens)
  pub none : query_cause Execute (statement_of query tokens id) (limit - 4) ≡ None
  pub prepare_is : prepare ≡ framing (prepare_command (statement_of query tokens id).query.parsed) 0

-- what a receiver holds behind a piece whose sets were taken: each payload that stands whole was
-- read, or this is the error for its fault
abbrev pub EndsPiece : Received → List ℕ → List Set → Received → Option RecodeError → Type 0
EndsPiece old piece sets new None =
    (new.fault ≡ None) × AreBytes new.partial ×
    TakesAll old.statement old.limit (receiver_state old) piece
    (with_taken (receiver_state new) sets)
EndsPiece old piece sets new (Some error) = (fault : StreamFault) × (new.fault ≡ Some fault) ×
    (error ≡ recode_error.Stream new.count fault)

-- a piece was read, its sets were taken, and what is held decides what was decided before but for these sets
pub record ReadsPiece (old : Received) (piece : List ℕ) (sets : List Set)
    (error : Option RecodeError) (new : Received) : Type 0 where
  pub goes_on : (z : List ℕ) (audit : Audit) → AreBytes z →
      ReceiverDecides old.statement old.limit (receiver_state new) z audit
      → ReceiverDecides old.statement old.limit (receiver_state old) (piece ++ z) (with_sets sets audit)
  pub none_held : new.sets ≡ []
  pub ends : EndsPiece old piece sets new error

-- the executions of sets from this number on were appended, behind the prepare, and this is the number behind them
pub record AppendsTo (id places limit first : ℕ) (prepare : List ℕ) (sets : List Set)
    (old new : List ℕ) (count : ℕ) : Type 0 where
  pub none : executions_cause id places limit first sets ≡ None
  pub appended : new ≡ old ++ (prepare ++ executions id sets)
  pub count_is : count ≡ first + length sets

-- why they were not: Memory, or the first cause against one of them
abbrev pub RefusesSetsFrom : ℕ → ℕ → ℕ → ℕ → List Set → RecodeError → Type 0
RefusesSetsFrom id places limit first sets error =
    (error ≡ recode_error.Memory) ⊎ (option_map error_for (executions_cause id places limit first sets) ≡ Some error)

-- a recoder appended sets
pub record PutsSets (old : Recoded) (sets : List Set) (before behind : List ℕ) (new : Recoded) : Type 0 where
  pub none : sets_cause (recoder_state old).terms old.count sets ≡ None
  pub appended : behind ≡ before ++ appended_of (recoder_state old) sets
  pub held : new ≡ record old { count = old.count + length sets; prepare = prepare_behind (recoder_state old) sets }
