-- The code's kinds of token as the definitions have them.
-- MySQL Reference Manual, "Comments", "String Literals".
use Rattle.mysql_queries.specs.Tokens.{Kind}
use Rattle.mysql_queries.specs.Tokens as tokens
use Rattle.mysql_queries.specs.declared.tokens.TokenKind.{TokenKind}
use Rattle.mysql_queries.specs.declared.tokens.TokenKind.TheVariants.{Quoted, LineComment, BlockComment, Opening}
use Rattle.mysql_queries.specs.declared.tokens.TokenKind.TheVariants.{Closing, Name, Mark, Plain}

abbrev pub kind_view : TokenKind → Kind
kind_view (Quoted quote) = tokens.Quoted quote
kind_view LineComment = tokens.LineComment
kind_view BlockComment = tokens.BlockComment
kind_view Opening = tokens.Opening
kind_view Closing = tokens.Closing
kind_view Name = tokens.Name
kind_view Mark = tokens.Mark
kind_view Plain = tokens.Plain
