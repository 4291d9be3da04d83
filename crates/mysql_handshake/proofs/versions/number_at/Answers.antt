use Rattle.std.proofs.Common.{◌≡◌, ◌<◌, ◌∙◌, arith, ap, take, get_or}
use Rattle.mysql_handshake.specs.VersionReading.{digits_len}
use Rattle.mysql_handshake.specs.Versions.{is_digit}
use Rattle.mysql_handshake.proofs.Digits.{digits_are, digits_few, digits_within}
use Rattle.mysql_handshake.proofs.versions.number_at.Goals as goal

pub split_at-requires : goal.split_at-requires
split_at-requires c = let within = digits_within c.args.most c.args.text.now in omega arith

pub value_of-requires-clause-few : goal.value_of-requires-clause-few
value_of-requires-clause-few c = let few = digits_few c.args.most c.args.text.now in omega arith

pub value_of-requires-clause-digits : goal.value_of-requires-clause-digits
value_of-requires-clause-digits c k lt =
    let front : c.split_at.result.0.now ≡ take (digits_len c.args.most c.args.text.now) c.args.text.now = cc in
    let below : k < digits_len c.args.most c.args.text.now = omega arith in
    ap (λ xs. is_digit (get_or xs k 0)) front ∙ digits_are c.args.most c.args.text.now k below
