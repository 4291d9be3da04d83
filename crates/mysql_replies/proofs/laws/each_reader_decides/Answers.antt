use Rattle.mysql_replies.proofs.Fed.{each_reader_decides, readers_agree, fresh_reader_decides}
use Rattle.mysql_replies.proofs.laws.each_reader_decides.Goals as goal

pub returns-clause-some : goal.returns-clause-some
returns-clause-some c = each_reader_decides c.one_split.ensures

pub returns-clause-only : goal.returns-clause-only
returns-clause-only c = readers_agree c.one_split.ensures

pub returns-clause-fresh : goal.returns-clause-fresh
returns-clause-fresh c = fresh_reader_decides
