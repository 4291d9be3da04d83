use Rattle.std.proofs.Common.{length}
use Rattle.mysql_bulk_builder.specs.Given.{giving}
use Rattle.mysql_bulk_builder.specs.Iteration.{Took}
use Rattle.mysql_bulk_builder.proofs.requests.fill.Given as goal

-- the rows so far were taken from the front of those given
abbrev pub invariant-loop-row : goal.invariant-loop-row
invariant-loop-row l = Took l.initial.builder (giving l.initial.builder.names l.initial.given)
    l.builder (giving l.builder.names l.given)

abbrev pub decreases-loop-row : goal.decreases-loop-row
decreases-loop-row l = length (giving l.builder.names l.given)
