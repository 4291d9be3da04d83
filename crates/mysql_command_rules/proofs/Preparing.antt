-- The prepare of a statement's own query: it reads as no set, and leaves the statement prepared,
-- with no types and no long data.
use Rattle.std.proofs.Common.{◌≡◌, ℕ, ◌≤◌, true, List, [], None, refl, sym}
use Rattle.std.proofs.lemmas.Slice.Eq.{bytes_eq-Decides}
use Rattle.mysql_receive.specs.InForce.{StatementState, after}
use Rattle.mysql_receive.specs.Query.{Statement, max_places, place_count}
use Rattle.mysql_receive.specs.Reading.{PayloadReadsAs}
use Rattle.mysql_command_rules.specs.Commands.{prepare_command}

-- behind a prepare of the query it is prepared, and no types and no long data are in force
pub record FreshlyPrepared (s : StatementState) : Type 0 where
  pub prepared : s.prepared ≡ true
  pub types : s.types ≡ None
  pub long_data : (place : ℕ) → s.long_data place ≡ None

pub prepare_reads : (c : Statement) (s : StatementState) (parsed : List ℕ) → c.query.parsed ≡
    parsed → place_count c.query ≤ max_places → PayloadReadsAs c s (prepare_command parsed) []
prepare_reads c s parsed is few = (sym is, few, refl)

pub prepare_leaves : (c : Statement) (s : StatementState) (parsed : List ℕ) → c.query.parsed ≡
    parsed → FreshlyPrepared (after c s (prepare_command parsed))
prepare_leaves c s parsed is = record {
  prepared = rw ((bytes_eq-Decides parsed c.query.parsed).1 (sym is)) refl;
  types = refl;
  long_data = λ place. refl;
}
