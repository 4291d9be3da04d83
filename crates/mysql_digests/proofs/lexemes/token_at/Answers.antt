use Rattle.std.proofs.Common.{◌≡◌, true, false, sym, ap, ◌∙◌, refl}
use Rattle.mysql_queries.specs.Tokens.{LineComment, BlockComment, Opening, Closing, Name, Mark, Plain, Kind}
use Rattle.mysql_digests.specs.Digest.{Gap, Value}
use Rattle.mysql_queries.specs.TokenKinds.{kind_view}
use Rattle.mysql_queries.specs.declared.tokens.TokenKind.{TokenKind}
use Rattle.mysql_digests.proofs.Lexing.{plain_begins, quoted_begins, token_begins}
use Rattle.mysql_digests.proofs.lexemes.token_at.Goals as goal

-- the kind of the text, by the arm
kind_is : {kind other : TokenKind} {k : Kind} → kind_view kind ≡ k → kind ≡ other → kind_view other ≡ k
kind_is h e = sym (ap kind_view e) ∙ h

pub returns-then-is_identifier-clause-lexeme : goal.returns-then-is_identifier-clause-lexeme
returns-then-is_identifier-clause-lexeme c last d =
    quoted_begins c.args.mode c.in-Quoted.quote last c.args.text.now c.token_end-end.result true
    c.token_end-end.ensures.some c.token_end-end.ensures.in_range c.token_end-end.ensures.token
    (kind_is c.kind_at-kind.ensures c.in-Quoted.is) c.if-is_identifier.ensures d

pub returns-else-is_identifier-clause-lexeme : goal.returns-else-is_identifier-clause-lexeme
returns-else-is_identifier-clause-lexeme c last d =
    quoted_begins c.args.mode c.in-Quoted.quote last c.args.text.now c.token_end-end.result false
    c.token_end-end.ensures.some c.token_end-end.ensures.in_range c.token_end-end.ensures.token
    (kind_is c.kind_at-kind.ensures c.in-Quoted.is) c.if-is_identifier.ensures d

pub returns-in-LineComment-clause-lexeme : goal.returns-in-LineComment-clause-lexeme
returns-in-LineComment-clause-lexeme c last d =
    token_begins c.args.mode LineComment last c.args.text.now c.token_end-end.result Gap
    c.token_end-end.ensures.some c.token_end-end.ensures.in_range c.token_end-end.ensures.token
    (kind_is c.kind_at-kind.ensures c.in-LineComment.is) (λ ls. refl) d

pub returns-in-BlockComment-clause-lexeme : goal.returns-in-BlockComment-clause-lexeme
returns-in-BlockComment-clause-lexeme c last d =
    token_begins c.args.mode BlockComment last c.args.text.now c.token_end-end.result Gap
    c.token_end-end.ensures.some c.token_end-end.ensures.in_range c.token_end-end.ensures.token
    (kind_is c.kind_at-kind.ensures c.in-BlockComment.is) (λ ls. refl) d

pub returns-in-Opening-clause-lexeme : goal.returns-in-Opening-clause-lexeme
returns-in-Opening-clause-lexeme c last d =
    token_begins c.args.mode Opening last c.args.text.now c.token_end-end.result Gap
    c.token_end-end.ensures.some c.token_end-end.ensures.in_range c.token_end-end.ensures.token
    (kind_is c.kind_at-kind.ensures c.in-Opening.is) (λ ls. refl) d

pub returns-in-Closing-clause-lexeme : goal.returns-in-Closing-clause-lexeme
returns-in-Closing-clause-lexeme c last d =
    token_begins c.args.mode Closing last c.args.text.now c.token_end-end.result Gap
    c.token_end-end.ensures.some c.token_end-end.ensures.in_range c.token_end-end.ensures.token
    (kind_is c.kind_at-kind.ensures c.in-Closing.is) (λ ls. refl) d

pub returns-in-Name-clause-lexeme : goal.returns-in-Name-clause-lexeme
returns-in-Name-clause-lexeme c last d =
    token_begins c.args.mode Name last c.args.text.now c.token_end-end.result Value
    c.token_end-end.ensures.some c.token_end-end.ensures.in_range c.token_end-end.ensures.token
    (kind_is c.kind_at-kind.ensures c.in-Name.is) (λ ls. refl) d

pub returns-in-Mark-clause-lexeme : goal.returns-in-Mark-clause-lexeme
returns-in-Mark-clause-lexeme c last d =
    token_begins c.args.mode Mark last c.args.text.now c.token_end-end.result Value
    c.token_end-end.ensures.some c.token_end-end.ensures.in_range c.token_end-end.ensures.token
    (kind_is c.kind_at-kind.ensures c.in-Mark.is) (λ ls. refl) d

pub returns-in-Plain-clause-lexeme : goal.returns-in-Plain-clause-lexeme
returns-in-Plain-clause-lexeme c last d =
    plain_begins c.args.mode last c.args.text.now c.token_end-end.result c.requires.some
    c.token_end-end.ensures.some c.token_end-end.ensures.in_range d
    c.token_end-end.ensures.token (kind_is c.kind_at-kind.ensures c.in-Plain.is)
    c.requires.no_word c.requires.no_operator c.requires.no_blank
