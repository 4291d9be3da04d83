use Rattle.std.proofs.Common.{subst}
use Rattle.std.specs.Prelude.{IfErr, IfOk}
use Rattle.mysql_values.specs.Sql.{read_in}
use Rattle.mysql_session.specs.Kept.{IsNotKept, KeepsQuery}
use Rattle.mysql_session.proofs.Modes.{is_default}
use Rattle.mysql_session.proofs.query.Query.new.Goals as goal

pub returns-clause-kept : goal.returns-clause-kept
returns-clause-kept c =
    subst (λ mode. IfOk c.new_in.result (KeepsQuery (read_in mode c.args.text.now) c.args.stmt_id))
    (is_default c.default.result c.default.ensures) c.new_in.ensures.kept

pub returns-clause-refused : goal.returns-clause-refused
returns-clause-refused c =
    subst (λ mode. IfErr c.new_in.result (IsNotKept (read_in mode c.args.text.now) c.args.stmt_id))
    (is_default c.default.result c.default.ensures) c.new_in.ensures.refused
