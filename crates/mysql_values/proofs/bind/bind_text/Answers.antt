use Rattle.std.proofs.Common.{IfErr, OnOk, subst}
use Rattle.mysql_queries.specs.Sql.{read_in}
use Rattle.mysql_bytes.specs.declared.mode.Mode.{Mode}
use Rattle.mysql_values.specs.Binding.{Binds, RefusesBinding}
use Rattle.mysql_values.proofs.BindCauses.{is_default}
use Rattle.mysql_values.proofs.bind.bind_text.Goals as goal

pub returns-clause-ok : goal.returns-clause-ok
returns-clause-ok c = subst
    (λ (mode : Mode). OnOk c.bind_text_in.result
    (Binds (read_in mode c.args.query.now) c.args.params.now c.args.out.now.items
    c.bind_text_in.new.out.items))
    (is_default c.default.result c.default.ensures) c.bind_text_in.ensures.ok

pub returns-clause-err : goal.returns-clause-err
returns-clause-err c = subst
    (λ (mode : Mode). IfErr c.bind_text_in.result
    (RefusesBinding (read_in mode c.args.query.now) c.args.params.now))
    (is_default c.default.result c.default.ensures) c.bind_text_in.ensures.err
