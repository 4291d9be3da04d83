use Rattle.mysql_literals.proofs.SqlTexts.{each_is_literal}
use Rattle.mysql_literals.proofs.as_sql.sql_text_is_a_literal.Goals as goal

pub returns : goal.returns
returns c = each_is_literal c.content_of_a_spelling.ensures.written c.content_of_a_spelling.ensures.plain
