use Rattle.std.proofs.Common.{IfOk, IfNone, subst}
use Rattle.mysql_queries.specs.LiteralViews.{IsNoLiteral}
use Rattle.mysql_queries.proofs.Modes.{is_default}
use Rattle.mysql_bytes.specs.declared.spelling.Spelling.TheVariants.{Quoted}
use Rattle.mysql_queries.proofs.literals.read_literal.Goals as goal

pub returns-clause-none : goal.returns-clause-none
returns-clause-none c =
    subst (λ mode. IfOk c.read_literal_in.result
    (λ found. IfNone found (IsNoLiteral mode Quoted c.args.text.now)))
    (is_default c.default.result c.default.ensures) c.read_literal_in.ensures.none
