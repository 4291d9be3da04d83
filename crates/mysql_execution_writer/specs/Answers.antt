-- What the crate's calls answer.
use Rattle.std.specs.Prelude.{◌≡◌, ◌++◌, Bool, true, false, List, ℕ, Result, Ok, Err}
use Rattle.mysql_execution_writer.specs.declared.refusal.PutRefusal.{PutRefusal}
use Rattle.mysql_execution_writer.specs.declared.refusal.PutRefusal.TheVariants.{Unreadable, Memory}

-- A call appended bytes that can be written; or it was refused, for want of memory or since they
-- can't be, and nothing changed.
abbrev pub PutsIf : Bool → List ℕ → List ℕ → List ℕ → Result (Unit {0}) PutRefusal → Type 0
PutsIf can bytes old new (Ok done) = (can ≡ true) × (new ≡ old ++ bytes)
PutsIf can bytes old new (Err Unreadable) = (can ≡ false) × (new ≡ old)
PutsIf can bytes old new (Err Memory) = (can ≡ true) × (new ≡ old)

-- What is written fits; or it doesn't, where it is refused as unreadable. Where memory runs out that
-- isn't known.
abbrev pub FitsIf : Bool → Result (Unit {0}) PutRefusal → Type 0
FitsIf can (Ok done) = can ≡ true
FitsIf can (Err Unreadable) = can ≡ false
FitsIf can (Err Memory) = Unit {0}
