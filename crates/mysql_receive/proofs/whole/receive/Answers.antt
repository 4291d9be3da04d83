use Rattle.std.proofs.Common.{subst}
use Rattle.std.specs.Prelude.{IfErr, OnOk, false}
use Rattle.mysql_values.specs.Queries.{HasMixed}
use Rattle.mysql_values.specs.Sql.{read_in}
use Rattle.mysql_receive.specs.Making.{IsReceiverError}
use Rattle.mysql_receive.proofs.Making.{is_default}
use Rattle.mysql_receive.proofs.whole.receive.Goals as goal

pub returns-clause-one_kind : goal.returns-clause-one_kind
returns-clause-one_kind c =
    subst (λ mode. OnOk c.receive_in.result (HasMixed (read_in mode c.args.query.now) false))
    (is_default c.default.result c.default.ensures) c.receive_in.ensures.one_kind

pub returns-clause-mixed : goal.returns-clause-mixed
returns-clause-mixed c =
    subst (λ mode. IfErr c.receive_in.result (IsReceiverError (read_in mode c.args.query.now)))
    (is_default c.default.result c.default.ensures) c.receive_in.ensures.mixed
