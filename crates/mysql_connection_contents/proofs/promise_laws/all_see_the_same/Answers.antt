use Rattle.mysql_connection_contents.proofs.Agreed.{all_see_the_same}
use Rattle.mysql_connection_contents.proofs.promise_laws.all_see_the_same.Goals as goal

pub returns : goal.returns
returns c = all_see_the_same (record {
  packets = record {
    stay = c.packets_stay.ensures;
    take = c.packets_take_bytes.ensures;
    follow =
        c.rests_follow.ensures;
  };
  fronts = c.fronts_read_on.ensures;
  positions = c.positions_stay.ensures;
  reads = c.puts_are_read.ensures;
  numbers = c.numbers_are_bytes.ensures;
  agree = c.three_agree.ensures;
  found = c.framings_are_found.ensures;
  hear = c.runs_are_heard.ensures.heard;
  say = c.delivered_sets_are_said.ensures;
})
