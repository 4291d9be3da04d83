use Rattle.mysql_connection_contents.proofs.Promise.{put_payloads_are_read}
use Rattle.mysql_connection_contents.proofs.delivery_laws.put_payloads_are_read.Goals as goal

pub returns : goal.returns
returns c = put_payloads_are_read c.three_agree.ensures c.packets_stay.ensures
    c.framings_are_found.ensures c.puts_are_read.ensures c.numbers_are_bytes.ensures
    c.delivered_sets_are_said.ensures
