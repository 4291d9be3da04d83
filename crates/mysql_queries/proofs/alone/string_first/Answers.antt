use Rattle.std.proofs.Common.{arith, not, ap, sym, ◌∙◌}
use Rattle.mysql_queries.specs.Alone.{meets_string}
use Rattle.mysql_queries.proofs.TokenWalks.{meets_none, meets_standing, walk_first}
use Rattle.mysql_queries.proofs.alone.string_first.Goals as goal

pub returns-in-empty : goal.returns-in-empty
returns-in-empty c = λ tokens h. meets_none c.args.mode c.args.text.now 0 (omega (arith, c.in-empty.len_below))
    (walk_first c.args.mode (meets_string c.args.mode) c.args.text.now) tokens h

pub returns-else-not-standing : goal.returns-else-not-standing
returns-else-not-standing c = λ tokens h. ap not c.if-not-standing.false ∙
    meets_standing c.args.mode c.args.text.now tokens (omega (arith, c.in-len1-up.len_at_least))
    (sym c.if-not-standing.ensures) h
