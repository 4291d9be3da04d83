use Rattle.mysql_queries.proofs.Readings.{content_once, runs_are_read}
use Rattle.mysql_queries.proofs.Worked.{worked_spellings}
use Rattle.mysql_queries.proofs.OneRead.{one_read}
use Rattle.mysql_queries.proofs.Writing.{plain_is_read, written_is_read}
use Rattle.mysql_queries.proofs.laws.content_of_a_spelling.Goals as goal

pub returns-clause-one : goal.returns-clause-one
returns-clause-one c = content_once

pub returns-clause-run : goal.returns-clause-run
returns-clause-run c = runs_are_read

pub returns-clause-worked : goal.returns-clause-worked
returns-clause-worked c = worked_spellings

pub returns-clause-read : goal.returns-clause-read
returns-clause-read c = λ mode sp run rest other after content another e i l j m. one_read mode sp
    run rest other after content another e i l j m

pub returns-clause-written : goal.returns-clause-written
returns-clause-written c = written_is_read

pub returns-clause-plain : goal.returns-clause-plain
returns-clause-plain c = plain_is_read
