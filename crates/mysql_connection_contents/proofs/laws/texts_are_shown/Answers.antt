use Rattle.mysql_connection_contents.proofs.Texts.{texts_are_shown}
use Rattle.mysql_connection_contents.proofs.laws.texts_are_shown.Goals as goal

pub returns : goal.returns
returns c = texts_are_shown
