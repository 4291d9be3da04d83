use Rattle.mysql_literals.proofs.SqlTexts.{each_hexadecimal_is_safe, one_hexadecimal}
use Rattle.mysql_literals.proofs.as_sql.hexadecimal_is_safe.Goals as goal

pub returns : goal.returns
returns c = record { one = one_hexadecimal; safe = each_hexadecimal_is_safe }
