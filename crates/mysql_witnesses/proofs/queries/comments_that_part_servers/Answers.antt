use Rattle.mysql_witnesses.proofs.AboutQueries.{hints_are_comments, others_part_servers, quotes_make_no_simple_comment}
use Rattle.mysql_witnesses.proofs.AboutQueries.{simple_comments_part_none}
use Rattle.mysql_witnesses.proofs.queries.comments_that_part_servers.Goals as goal

pub returns-clause-hints : goal.returns-clause-hints
returns-clause-hints c = hints_are_comments c.tokens_of_a_text.ensures.places

pub returns-clause-quotes : goal.returns-clause-quotes
returns-clause-quotes c = quotes_make_no_simple_comment c.tokens_of_a_text.ensures.places

pub returns-clause-others : goal.returns-clause-others
returns-clause-others c = others_part_servers c.tokens_of_a_text.ensures.places

pub returns-clause-simple : goal.returns-clause-simple
returns-clause-simple c = simple_comments_part_none c.tokens_of_a_text.ensures.places
