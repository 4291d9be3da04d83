use Rattle.mysql_witnesses.proofs.AboutReceiving.{empty_streams_are_whole}
use Rattle.mysql_witnesses.proofs.receiving.empty_streams_are_whole.Goals as goal

pub returns : goal.returns
returns c = empty_streams_are_whole c.reader_laws.ensures
