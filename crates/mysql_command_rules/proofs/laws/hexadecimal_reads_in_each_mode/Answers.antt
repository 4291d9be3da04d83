use Rattle.mysql_command_rules.proofs.EachMode.{in_each_mode}
use Rattle.mysql_command_rules.proofs.laws.hexadecimal_reads_in_each_mode.Goals as goal

pub returns : goal.returns
returns c = in_each_mode c.hexadecimal_is_safe.ensures.one c.sql_text_is_a_literal.ensures
    c.filled_text_is_read.ensures c.pieces_of_a_query.ensures.pieces
