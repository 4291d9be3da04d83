use Rattle.mysql_bulk_builder.proofs.OneKindLemmas.{one_kind, untyped_run_adds_no_column, first_value_is_there}
use Rattle.mysql_bulk_builder.proofs.laws.types_serve.Goals as goal

pub returns : goal.returns
returns c = record { one_kind = one_kind; run = untyped_run_adds_no_column; there = first_value_is_there }
