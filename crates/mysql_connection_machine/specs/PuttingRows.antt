-- Rows that are put under the columns that are due.
-- MySQL: Client/Server Protocol, "Text Resultset Row" and "Binary Protocol Resultset Row".
use Rattle.std.specs.Prelude.{◌≡◌, ◌≤◌, ℕ, Bool, true, false, List, ◌++◌, length, take, Option, Some, None, Result, Ok}
use Rattle.std.specs.Prelude.{Err}
use Rattle.std.specs.declared.alloc.AllocError.{AllocError}
use Rattle.mysql_connection_rules.specs.Puts.{step_for}
use Rattle.mysql_connection_rules.specs.Events.{Event}
use Rattle.mysql_connection_rules.specs.Standing.{Standing}
use Rattle.mysql_connection_writer.specs.NextRows.{row_said}
use Rattle.mysql_connection_writer.specs.Payloads.{payload_of}
use Rattle.mysql_rows.specs.Rows.{Row}
use Rattle.mysql_wire.specs.Framing.{framing, number_after}
use Rattle.mysql_connection_machine.specs.Machines.{LendingWorld, Machine}
use Rattle.mysql_connection_machine.specs.Writing.{AppendsEvent, PutsOn}
use Rattle.mysql_connection_machine.specs.declared.put_refusal.PutRefusal.{PutRefusal}

-- The packets of a row under the columns that are due were appended, behind which this number is due, where it changes
-- nothing of what stands; or the buffer begins as it did.
abbrev pub AppendsRow : Standing → (limit : ℕ) → Row → List ℕ → Result (Option ℕ) AllocError → List ℕ → Type 0
AppendsRow s limit row before (Ok (Some next)) behind = (payload : List ℕ) ×
    (payload_of s (row_said s row) ≡ Some payload) × (step_for (row_said s row) s payload ≡ Ok (row_said s row, s)) ×
    (length payload ≤ limit) × (behind ≡ before ++ framing payload s.number) × (next ≡ number_after payload s.number)
AppendsRow s limit row before (Ok None) behind = take (length before) behind ≡ before
AppendsRow s limit row before (Err refused) behind = take (length before) behind ≡ before

-- An event was put; or nothing has changed.
abbrev pub PutsOrStays : LendingWorld → Event → List ℕ → Bool → LendingWorld → List ℕ → Type 0
PutsOrStays old event before true new behind = AppendsEvent old.world event new.world before behind × (new.row ≡ None)
PutsOrStays old event before false new behind = (new ≡ old) × (behind ≡ before)

-- A row's cells under the columns that are due are put on a machine that has found no fault.
abbrev pub PutsRowOn : Machine → Row → List ℕ → Result (Unit {0}) PutRefusal → Machine → List ℕ → Type 0
PutsRowOn old row before result new behind =
    PutsOn old (row_said old.world.standing row) before result new behind
