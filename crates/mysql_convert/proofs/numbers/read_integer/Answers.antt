use Rattle.std.proofs.Common.{◌≡◌, Some, rules}
use Rattle.mysql_convert.specs.Numbers.{signed}
use Rattle.mysql_convert.proofs.IntegersReadAgain.{same_number}
use Rattle.mysql_convert.proofs.numbers.read_integer.Goals as goal

pub returns-in_default-value-clause-again : goal.returns-in_default-value-clause-again
returns-in_default-value-clause-again g c =
    let number = signed c.in-Some.number.negative c.in-Some.number.magnitude in
    let narrowed : g.T.Integer.narrowed number ≡ Some c.in-Some-narrow.x = search rules in
    same_number g.T.Integer.narrowed c.args.value (g.T.ToValue.as_value c.in-Some-narrow.x) number (search rules)
    (g.met.T.Integer.holds number c.in-Some-narrow.x narrowed)
