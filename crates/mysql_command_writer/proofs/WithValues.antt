-- Commands with values read as they were put, by the laws of their values.
use Rattle.std.proofs.Common.{◌≡◌, ◌==◌, ℕ, List, length, Option, true, false, refl}
use Rattle.std.proofs.Common.{Result, Ok, Err}
use Rattle.mysql_const.specs.declared.capabilities.Capabilities.{Capabilities}
use Rattle.mysql_execution_writer.specs.Cells.{are_attributes}
use Rattle.mysql_execution_writer.specs.Laws.{AttributesReadBack}
use Rattle.mysql_executions.specs.InForce.{InForce}
use Rattle.mysql_executions.specs.Types.{has_query_attributes}
use Rattle.mysql_executions.specs.declared.types.Attribute.{Attribute}
use Rattle.mysql_commands.specs.Commands.{Query}
use Rattle.mysql_command_writer.specs.Plain.{PutsAttributed}
use Rattle.mysql_command_writer.specs.Refusals.{Puts, Reads, can_have_attributes}
use Rattle.mysql_command_writer.specs.declared.refusal.CommandRefusal.{CommandRefusal}

pub attributed_reads : AttributesReadBack → (capabilities : Capabilities) (parameters : Option InForce)
    (attributes : List Attribute) (sql : List ℕ) → has_query_attributes capabilities ≡ true →
    are_attributes true attributes ≡ true → Reads capabilities parameters (Query attributes sql)
attributed_reads law capabilities parameters attributes sql asks can fits =
    rw (asks, law attributes sql fits can) refl

-- attributes that a query can't have
pub not_agreed : (capabilities : Capabilities) (attributes : List Attribute) →
    has_query_attributes capabilities ≡ false → (length attributes == 0) ≡ false →
    can_have_attributes capabilities attributes ≡ false
not_agreed capabilities attributes asks some = rw (asks, some) refl

pub no_cells : (capabilities : Capabilities) (attributes : List Attribute) → has_query_attributes capabilities ≡ true →
    are_attributes true attributes ≡ false → can_have_attributes capabilities attributes ≡ false
no_cells capabilities attributes asks none = rw (asks, none) refl

-- a query that was put behind its attributes, where they are in force
pub attributed : AttributesReadBack → (capabilities : Capabilities) (parameters : Option InForce)
    (attributes : List Attribute) (sql old new : List ℕ) (result : Result (Unit {0}) CommandRefusal) →
    has_query_attributes capabilities ≡ true → PutsAttributed attributes sql old new result →
    Puts capabilities parameters (Query attributes sql) old new result
attributed law capabilities parameters attributes sql old new (Ok done) asks h =
    (rw asks h.0, attributed_reads law capabilities parameters attributes sql asks h.1)
attributed law capabilities parameters attributes sql old new (Err e) asks h =
    (h.0, λ other. (rw asks (h.1 other).0, no_cells capabilities attributes asks (h.1 other).1))
