use Rattle.std.proofs.Common.{◌≤◌, ◌-◌, vec_len}
use Rattle.mysql_c_replies.proofs.writing.blank_columns.Given as goal

abbrev pub invariant-columns : goal.invariant-columns
invariant-columns l = vec_len l.columns ≤ l.count

abbrev pub decreases-columns : goal.decreases-columns
decreases-columns l = l.count - vec_len l.columns
