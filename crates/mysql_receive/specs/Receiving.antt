-- What a receiver answers.
-- MySQL: Client/Server Protocol, "MySQL Packets" and "Command Phase".
use Rattle.std.specs.Prelude.{◌≡◌, ℕ, List, Option, Some, None, Result, Ok, Err}
use Rattle.std.specs.List.{concat}
use Rattle.mysql_values.specs.Sql.{Sql}
use Rattle.mysql_receive.specs.declared.fault.StreamFault.{StreamFault}
use Rattle.mysql_receive.specs.declared.fault.StreamFault.TheVariants.{Memory}
use Rattle.mysql_receive.specs.declared.audit.End.{End}
use Rattle.mysql_receive.specs.declared.audit.End.TheVariants as ends
use Rattle.mysql_receive.specs.declared.audit.Audit.{Audit as CodeAudit}
use Rattle.mysql_receive.specs.Audit.{Audit, AuditOf, OutOfMemoryIn}
use Rattle.mysql_receive.specs.Views.{sets_of}

-- the answer of a feed, by the fault that is held after it
abbrev pub answer_by : Option StreamFault → Result (Unit {0}) StreamFault
answer_by None = Ok tt
answer_by (Some f) = Err f

-- memory ran out
abbrev pub IsMemory : End → Type 0
IsMemory ending = (count : ℕ) × (ending ≡ ends.Fault count Memory)

abbrev pub audit_of : CodeAudit → Audit
audit_of a = record { sets = sets_of a.sets.items; ending = a.end }

-- What is answered of a stream that came in these pieces: the audit of its bytes, but where its end
-- says that memory ran out; then as much of it as was read.
pub record IsReceived (query : Sql) (id limit : ℕ) (pieces : List (List ℕ)) (answer : Audit) : Type 0 where
  pub audit : (IsMemory answer.ending → ⊥) → AuditOf query id limit (concat pieces) answer
  pub memory : IsMemory answer.ending → OutOfMemoryIn query id limit pieces answer
