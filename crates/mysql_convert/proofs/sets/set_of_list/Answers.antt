use Rattle.std.proofs.Common.{map}
use Rattle.mysql_convert.proofs.Places.{none_long}
use Rattle.mysql_convert.proofs.sets.set_of_list.Goals as goal

pub returns-clause-none : goal.returns-clause-none
returns-clause-none g c =
    none_long 0 (map g.T.ToValue.as_value c.args.list.now) c.in_ok-values_of_list.field-0.items
    c.in_ok-values_of_list.ensures.ok
