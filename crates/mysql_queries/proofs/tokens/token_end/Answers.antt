use Rattle.std.proofs.Common.{◌≡◌, sym, ap, ◌∙◌}
use Rattle.mysql_queries.specs.Tokens.{Kind, LineComment}
use Rattle.mysql_queries.specs.TokenKinds.{kind_view}
use Rattle.mysql_queries.specs.declared.tokens.TokenKind.{TokenKind}
use Rattle.mysql_queries.proofs.FirstTokens.{token_of, token_some, quote_first}
use Rattle.mysql_queries.proofs.tokens.token_end.Goals as goal

kind_is : {kind other : TokenKind} {k : Kind} → kind_view kind ≡ k → kind ≡ other → kind_view other ≡ k
kind_is h e = sym (ap kind_view e) ∙ h

pub quoted_end-requires-clause-begins : goal.quoted_end-requires-clause-begins
quoted_end-requires-clause-begins c =
    quote_first c.args.text.now c.in-Quoted.quote c.requires.some
    (kind_is c.requires.kind c.in-Quoted.is)

pub returns-in-LineComment-clause-some : goal.returns-in-LineComment-clause-some
returns-in-LineComment-clause-some c =
    token_some c.args.mode c.args.text.now c.line_end.result
    (token_of c.args.mode LineComment c.args.text.now c.line_end.result
    (kind_is c.requires.kind c.in-LineComment.is) (c.line_end.ensures.run, c.line_end.ensures.end))
