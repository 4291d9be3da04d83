use Rattle.mysql_event_lines.proofs.Quoting.{no_controls, quoted_read}
use Rattle.mysql_event_lines.proofs.quoted.readable_bytes.Goals as goal

pub returns-clause-read : goal.returns-clause-read
returns-clause-read c = quoted_read

pub returns-clause-no_controls : goal.returns-clause-no_controls
returns-clause-no_controls c = no_controls
