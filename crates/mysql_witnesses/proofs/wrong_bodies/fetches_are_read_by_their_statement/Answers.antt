use Rattle.mysql_witnesses.proofs.AboutWrongBodies.{fetches_are_read_by_their_statement}
use Rattle.mysql_witnesses.proofs.wrong_bodies.fetches_are_read_by_their_statement.Goals as goal

pub returns : goal.returns
returns c = fetches_are_read_by_their_statement
