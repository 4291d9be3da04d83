use Rattle.std.proofs.Common.{Ok, sym, ap, ◌∙◌}
use Rattle.std.specs.Str.Parse.{without_leading_plus}
use Rattle.mysql_replication.specs.Intervals.{number_of}
use Rattle.mysql_replication.proofs.Numbers.{digits_number, digits_no_number}
use Rattle.mysql_replication.proofs.interval.number_of.Goals as goal

pub returns-in-Ok : goal.returns-in-Ok
unfolding number_of
returns-in-Ok c =
    let value = c.in-Ok.ensures.value.0 in
    ap Ok value.1 ∙ sym (digits_number (without_leading_plus c.args.text.now) value.0.0 value.0.1)

pub returns-in-Err : goal.returns-in-Err
unfolding number_of
returns-in-Err c = sym (digits_no_number (without_leading_plus c.args.text.now) c.in-Err.ensures.value.0)
