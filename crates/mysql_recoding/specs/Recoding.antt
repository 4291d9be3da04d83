-- What recoding a stream appends, and why nothing is. MySQL: Client/Server Protocol, "Protocol
-- Basics: MySQL Packets", "Command Phase", "COM_STMT_PREPARE", "COM_STMT_EXECUTE".
use Rattle.std.specs.Prelude.{◌≡◌, ◌⊎◌, ◌-◌, ℕ, List, ◌++◌, None, Some}
use Rattle.mysql_wire.specs.Stream.{framings}
use Rattle.mysql_wire.specs.Stream.Numbering.{EachFromZero}
use Rattle.mysql_values.specs.Sql.{Sql}
use Rattle.mysql_values.specs.Tokens.{HasTokens}
use Rattle.mysql_receive.specs.Audit.{Audit, AuditOf}
use Rattle.mysql_receive.specs.Query.{statement_of}
use Rattle.mysql_command_rules.specs.Sent.{AreSent, SentPayload, payloads_of}
use Rattle.mysql_command_rules.specs.declared.road.Road.TheVariants.{Execute}
use Rattle.mysql_recoding.specs.declared.errors.RecodeError.{RecodeError}
use Rattle.mysql_recoding.specs.declared.errors.RecodeError.TheVariants as recode_error
use Rattle.mysql_recoding.specs.Causes.{recoding_cause, values_of_sets}

-- no cause speaks against recoding the stream, and the framings of what is sent by execute of the
-- sets that it carries are appended
pub record Recodes (query : Sql) (id limit : ℕ) (stream old new : List ℕ) : Type 0 where
  pub tokens : List (List ℕ)
  pub has : HasTokens query.mode query.text tokens
  pub audit : Audit
  pub says : AuditOf query id limit stream audit
  pub none : recoding_cause (statement_of query tokens id) limit audit ≡ None
  pub sent : List SentPayload
  pub are_sent : AreSent Execute (statement_of query tokens id) (limit - 4) (values_of_sets audit.sets) sent
  pub appended : new ≡ old ++ framings (payloads_of sent) EachFromZero

-- the first cause for which the stream is not recoded
pub record IsRecodingCause (query : Sql) (id limit : ℕ) (stream : List ℕ) (error : RecodeError) : Type 0 where
  pub tokens : List (List ℕ)
  pub has : HasTokens query.mode query.text tokens
  pub audit : Audit
  pub says : AuditOf query id limit stream audit
  pub first : recoding_cause (statement_of query tokens id) limit audit ≡ Some error

-- why it is refused: Memory may stand in place of any answer; each other refusal is the first cause
abbrev pub RefusesRecoding : Sql → ℕ → ℕ → List ℕ → RecodeError → Type 0
RefusesRecoding query id limit stream error = (error ≡ recode_error.Memory) ⊎
    IsRecodingCause query id limit stream error
