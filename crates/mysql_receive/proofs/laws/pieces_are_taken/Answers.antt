use Rattle.mysql_receive.proofs.Feeding.{takes_append, short_append, short_longer}
use Rattle.mysql_receive.proofs.laws.pieces_are_taken.Goals as goal

pub returns : goal.returns
returns a c limit old mid new front back =
    let wire = a.reader_laws.ensures in
    record {
      both_whole = takes_append wire c limit old mid new front back;
      second_short = short_append wire c limit old mid new front back;
      first_short = short_longer wire c limit old new front back;
    }
