use Rattle.mysql_bulk_builder.proofs.Tight.{tight_exists, tight_is_unique, tight_fits, tight_parts_come_first}
use Rattle.mysql_bulk_builder.proofs.laws.one_tight_cut.Goals as goal

pub returns : goal.returns
returns c = record {
  exists = tight_exists;
  unique = tight_is_unique;
  fits = tight_fits;
  first =
      tight_parts_come_first;
}
