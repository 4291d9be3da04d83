-- Words of the receiver's own body, which no public call's clause has: what the reading of one
-- payload leaves. MySQL: Client/Server Protocol, "Command Phase".
use Rattle.std.specs.Prelude.{◌≡◌, ℕ, ◌+◌, List, ◌++◌, Result, Ok, Err}
use Rattle.mysql_receive.specs.declared.read_error.ReadError.{ReadError}
use Rattle.mysql_receive.specs.declared.read_error.ReadError.TheVariants as read_error
use Rattle.mysql_receive.specs.declared.progress.Progress.{Progress}
use Rattle.mysql_receive.specs.Query.{Statement}
use Rattle.mysql_receive.specs.InForce.{after}
use Rattle.mysql_receive.specs.Reading.{Set, ReadsAs, Faulty}
use Rattle.mysql_receive.specs.Views.{state_of, sets_of}

-- behind one payload that reads
pub record ReadOne (statement : Statement) (old : Progress) (payload : List ℕ) (new : Progress) : Type 0 where
  pub sets : List Set
  pub reads : ReadsAs statement (state_of old.state) old.count payload sets
  pub more : sets_of new.sets.items ≡ sets_of old.sets.items ++ sets
  pub count : new.count ≡ old.count + 1
  pub state : state_of new.state ≡ after statement (state_of old.state) payload

abbrev pub OneBy : Statement → Progress → List ℕ → Progress → Result (Unit {0}) ReadError → Type 0
OneBy statement old payload new (Ok done) = ReadOne statement old payload new
OneBy statement old payload new (Err read_error.Memory) = Unit {0}
OneBy statement old payload new (Err (read_error.Fault f)) = Faulty statement (state_of old.state) old.count payload f
