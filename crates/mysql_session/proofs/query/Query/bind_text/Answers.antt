use Rattle.std.proofs.Common.{◌≡◌, ◌∙◌, ap, inr, subst, sym}
use Rattle.std.specs.Prelude.{IfErr, OnOk}
use Rattle.mysql_values.specs.Binding.{Binds, RefusesBinding}
use Rattle.mysql_values.specs.Queries.{HasPlaces}
use Rattle.mysql_values.specs.Sql.{Sql}
use Rattle.mysql_session.specs.Kept.{KeptQuery}
use Rattle.mysql_session.proofs.OnAnswers.{on_err}
use Rattle.mysql_session.proofs.OneKind.{never_mixed_text, not_alone, one_kind_of}
use Rattle.mysql_session.proofs.query.Query.bind_text.Goals as goal

pub returns-in-Some-clause-err : goal.returns-in-Some-clause-err
returns-in-Some-clause-err c =
    let q = c.query-query.result.now in
    let sql : q.sql ≡ c.args.self.now.sql = c.query-query.ensures.text ∙ ap (λ (k : KeptQuery). k.sql) c.self.view_is in
    let has : HasPlaces c.args.self.now.sql q.places =
    subst (λ (s : Sql). HasPlaces s q.places) sql c.places-places.ensures.of_text in
    let one = one_kind_of c.tokens_of_a_text.ensures.one c.args.self.now.sql q.places has
    c.text-text.ensures.one_kind in
    inr (not_alone c.args.self.now.sql q.places c.args.params.now c.in-Some.place has one
    (sym c.first_not_alone.ensures.first ∙ c.in-Some.is))

pub bind_query-requires-clause-one_kind : goal.bind_query-requires-clause-one_kind
bind_query-requires-clause-one_kind c =
    let q = c.query-query.result.now in
    let sql : q.sql ≡ c.args.self.now.sql = c.query-query.ensures.text ∙ ap (λ (k : KeptQuery). k.sql) c.self.view_is in
    let has : HasPlaces c.args.self.now.sql q.places =
    subst (λ (s : Sql). HasPlaces s q.places) sql c.places-places.ensures.of_text in
    one_kind_of c.tokens_of_a_text.ensures.one c.args.self.now.sql q.places has c.text-text.ensures.one_kind

pub returns-clause-ok : goal.returns-clause-ok
returns-clause-ok c =
    let new = c.bind_query.new.out.items in
    subst (λ (k : KeptQuery). OnOk c.bind_query.result
    (Binds k.sql c.args.params.now c.args.out.now.items new)) c.self.view_is
    (subst (λ (s : Sql). OnOk c.bind_query.result
    (Binds s c.args.params.now c.args.out.now.items new)) c.query-query.ensures.text
    c.bind_query.ensures.ok)

pub returns-clause-err : goal.returns-clause-err
returns-clause-err c =
    subst (λ (s : Sql). IfErr c.bind_query.result (RefusesBinding s c.args.params.now))
    (c.query-query.ensures.text ∙ ap (λ (k : KeptQuery). k.sql) c.self.view_is) c.bind_query.ensures.err

pub returns-clause-never_mixed : goal.returns-clause-never_mixed
returns-clause-never_mixed c =
    on_err c.bind_query.result
    (λ error why. never_mixed_text c.tokens_of_a_text.ensures.one c.args.self.now.sql
    c.args.params.now error c.text-text.ensures.one_kind why)
    (returns-clause-err c)
