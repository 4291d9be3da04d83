use Rattle.mysql_bulk_builder.proofs.TypedTight.{tight_typed_exists, tight_typed_exists_where, fitting_cut_where}
use Rattle.mysql_bulk_builder.proofs.TypedTight.{tight_typed_is_unique}
use Rattle.mysql_bulk_builder.proofs.laws.one_tight_typed_cut.Goals as goal

pub returns : goal.returns
returns c = record {
  typed = tight_typed_exists;
  exists = tight_typed_exists_where;
  none_else =
      fitting_cut_where;
  unique = tight_typed_is_unique;
}
