use Rattle.mysql_queries.proofs.QuerySlices.{names_are_slices, pieces_are_slices, places_in_order}
use Rattle.mysql_queries.proofs.laws.pieces_of_a_query.Goals as goal

pub returns-clause-pieces : goal.returns-clause-pieces
returns-clause-pieces c = pieces_are_slices

pub returns-clause-names : goal.returns-clause-names
returns-clause-names c = names_are_slices

pub returns-clause-order : goal.returns-clause-order
returns-clause-order c = places_in_order
