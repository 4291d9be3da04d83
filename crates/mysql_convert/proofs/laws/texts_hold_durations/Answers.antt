use Rattle.mysql_convert.proofs.DurationTexts.{durations_of_texts}
use Rattle.mysql_convert.proofs.laws.texts_hold_durations.Goals as goal

pub returns : goal.returns
returns c = durations_of_texts
