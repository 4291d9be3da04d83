use Rattle.std.proofs.Common.{◌≡◌, OnOk, ap, ◌∙◌, subst}
use Rattle.std.specs.Prelude.{IfErr}
use Rattle.mysql_queries.specs.Sql.{Sql, read_by}
use Rattle.mysql_values.specs.Binding.{Binds, RefusesBinding}
use Rattle.mysql_values.proofs.bind.bind_query_onto.Goals as goal

pub returns-clause-ok : goal.returns-clause-ok
returns-clause-ok c =
    let sql : Sql = c.args.query.now.sql in
    let same : read_by c.mode.result c.spelling.result c.text.result.now ≡ sql =
    ap (λ mode. read_by mode c.spelling.result c.text.result.now) c.mode.ensures ∙
    ap (λ spelling. read_by sql.mode spelling c.text.result.now) c.spelling.ensures ∙
    ap (read_by sql.mode sql.spelling) c.text.ensures in
    subst (λ (sql : Sql). OnOk c.put_text.result
    (Binds sql c.args.params.now c.args.out.now.items c.put_text.new.out.items)) same
    c.put_text.ensures.ok

pub returns-clause-err : goal.returns-clause-err
returns-clause-err c =
    let sql : Sql = c.args.query.now.sql in
    let same : read_by c.mode.result c.spelling.result c.text.result.now ≡ sql =
    ap (λ mode. read_by mode c.spelling.result c.text.result.now) c.mode.ensures ∙
    ap (λ spelling. read_by sql.mode spelling c.text.result.now) c.spelling.ensures ∙
    ap (read_by sql.mode sql.spelling) c.text.ensures in
    subst (λ (sql : Sql). IfErr c.put_text.result (RefusesBinding sql c.args.params.now)) same c.put_text.ensures.err
