use Rattle.std.proofs.Common.{IfErr, OnOk, subst, sym}
use Rattle.mysql_queries.specs.Queries.{HasPlaces}
use Rattle.mysql_queries.specs.Sql.{read_in}
use Rattle.mysql_bytes.specs.declared.mode.Mode.{Mode}
use Rattle.mysql_values.specs.Binding.{Binds, RefusesBinding}
use Rattle.mysql_values.proofs.BindCauses.{is_default}
use Rattle.mysql_values.proofs.bind.put_default_text.Goals as goal

pub put_text-requires-clause-places : goal.put_text-requires-clause-places
put_text-requires-clause-places c =
    subst (λ (mode : Mode). HasPlaces (read_in mode c.args.query.now) c.args.places.now)
    (sym (is_default c.default.result c.default.ensures)) c.requires.places

pub returns-clause-ok : goal.returns-clause-ok
returns-clause-ok c = subst
    (λ (mode : Mode). OnOk c.put_text.result
    (Binds (read_in mode c.args.query.now) c.args.params.now c.args.out.now.items
    c.put_text.new.out.items))
    (is_default c.default.result c.default.ensures) c.put_text.ensures.ok

pub returns-clause-err : goal.returns-clause-err
returns-clause-err c = subst
    (λ (mode : Mode). IfErr c.put_text.result
    (RefusesBinding (read_in mode c.args.query.now) c.args.params.now))
    (is_default c.default.result c.default.ensures) c.put_text.ensures.err
