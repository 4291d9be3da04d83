-- What an iterator's fields stand for.
use Rattle.mysql_bulk_builder.specs.declared.requests.BulkRequests.{BulkRequests}
use Rattle.mysql_bulk_builder.specs.Given.{giving}
use Rattle.mysql_bulk_builder.specs.Iteration.{Iteration}

abbrev pub iteration : BulkRequests → Iteration
iteration it = record { builder = it.builder.now; given = giving it.builder.now.names it.given; ended = it.ended }
