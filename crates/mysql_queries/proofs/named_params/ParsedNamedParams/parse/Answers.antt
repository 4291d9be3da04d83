use Rattle.std.proofs.Common.{refl, sym, subst, inl}
use Rattle.std.proofs.lemmas.Result.{err_from_is_err_and}
use Rattle.mysql_queries.specs.Queries.{HasPlaces}
use Rattle.mysql_queries.specs.Sql.{read_by_default}
use Rattle.mysql_queries.proofs.named_params.ParsedNamedParams.parse.Goals as goal

pub returns-in_err-places-clause-mixed : goal.returns-in_err-places-clause-mixed
returns-in_err-places-clause-mixed c = let p =
    err_from_is_err_and c.from_residual.result c.from_residual.ensures.1 in rw (p.1, p.2) (inl refl)

pub parse_at-requires : goal.parse_at-requires
parse_at-requires c = subst (HasPlaces (read_by_default c.args.query.now))
    (sym c.deref.ensures.value) c.in_ok-places.ensures
