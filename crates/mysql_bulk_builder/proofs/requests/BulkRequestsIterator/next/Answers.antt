use Rattle.std.proofs.Common.{refl, rules}
use Rattle.mysql_bulk_builder.specs.Builder.{request_of}
use Rattle.mysql_bulk_builder.proofs.requests.BulkRequestsIterator.next.Goals as goal

pub returns-in-Ok-clause-steps : goal.returns-in-Ok-clause-steps
returns-in-Ok-clause-steps c = (refl, (request_of c.fill.new.builder, search rules, search rules))
