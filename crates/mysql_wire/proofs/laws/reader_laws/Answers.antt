use Rattle.mysql_wire.proofs.Exists.{some_split}
use Rattle.mysql_wire.proofs.Unique.{at_most_one}
use Rattle.mysql_wire.proofs.GoingOn.{split_goes_on, fault_stays, framed_come_first}
use Rattle.mysql_wire.proofs.Rests.{framing_takes_bytes, rests_are_told}
use Rattle.mysql_wire.proofs.Decides.{between_holds_src, piece_is_held, reader_feeds, reader_takes}
use Rattle.mysql_wire.proofs.laws.reader_laws.Goals as goal

pub returns : goal.returns
returns c = record {
  one_split = λ limit numbering bytes h. let found = some_split limit numbering bytes h in
      (found.0, found.1, λ other s. at_most_one limit numbering bytes other found.0 s found.1);
  goes_on = split_goes_on;
  fault_stays = fault_stays;
  come_first = framed_come_first;
  takes_bytes = framing_takes_bytes;
  rests = rests_are_told;
  between = between_holds_src;
  held = piece_is_held;
  feeds = reader_feeds;
  takes = reader_takes;
}
