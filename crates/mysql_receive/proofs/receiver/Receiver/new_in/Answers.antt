use Rattle.std.proofs.Common.{false, subst}
use Rattle.mysql_values.specs.Queries.{HasMixed}
use Rattle.mysql_receive.proofs.receiver.Receiver.new_in.Goals as goal

pub returns-clause-one_kind : goal.returns-clause-one_kind
returns-clause-one_kind c =
    subst (λ sql. HasMixed sql false) c.in_ok-query.ensures.text
    (subst (λ mixed. HasMixed c.in_ok-query.query.sql mixed) c.if-is_mixed.false c.is_mixed.ensures.of_text)
