use Rattle.std.proofs.Common.{IfOk, subst, sym}
use Rattle.mysql_queries.specs.Queries.{HasPlaces}
use Rattle.mysql_queries.specs.Sql.{read_in}
use Rattle.mysql_queries.specs.TextViews.{TellsContents}
use Rattle.mysql_queries.proofs.Modes.{is_default}
use Rattle.mysql_queries.proofs.texts.read_text.Goals as goal

pub read_text_in-requires-clause-places : goal.read_text_in-requires-clause-places
read_text_in-requires-clause-places c =
    subst (λ m. HasPlaces (read_in m c.args.query.now) c.args.places.now)
    (sym (is_default c.default.result c.default.ensures)) c.requires.places

pub returns : goal.returns
returns c = subst (λ m. IfOk c.read_text_in.result
    (λ found. TellsContents (read_in m c.args.query.now) c.args.text.now found))
    (is_default c.default.result c.default.ensures) c.read_text_in.ensures
