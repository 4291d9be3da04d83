-- A recoder for a server in the default mode is made in that mode.
use Rattle.std.proofs.Common.{subst}
use Rattle.std.specs.Prelude.{IfErr, IfOk}
use Rattle.mysql_values.specs.Sql.{read_in}
use Rattle.mysql_recoding.specs.AsItComes.{IsNewRecoder, RefusesQuery, recoder_state}
use Rattle.mysql_recoding.proofs.Modes.{is_default}
use Rattle.mysql_recoding.proofs.recoder.Recoder.new.Goals as goal

pub returns-clause-new : goal.returns-clause-new
returns-clause-new c =
    subst (λ m. IfOk c.new_in.result
    (λ recoder. IsNewRecoder (read_in m c.args.query.now) c.args.stmt_id c.args.limit
    (recoder_state recoder)))
    (is_default c.default.result c.default.ensures) c.new_in.ensures.new

pub returns-clause-refused : goal.returns-clause-refused
returns-clause-refused c =
    subst (λ m. IfErr c.new_in.result (RefusesQuery (read_in m c.args.query.now) c.args.stmt_id c.args.limit))
    (is_default c.default.result c.default.ensures) c.new_in.ensures.refused
