use Rattle.mysql_session_modes.proofs.Skipping.{no_steps_short}
use Rattle.mysql_session_modes.proofs.words.has_rare_word.Goals as goal

pub has_word-requires-clause-short : goal.has_word-requires-clause-short
has_word-requires-clause-short c = no_steps_short c.args.word.now
