use Rattle.mysql_server_packets.specs.Views.{server_error_view}
use Rattle.mysql_connection_writer.proofs.Words.{words_written}
use Rattle.mysql_connection_writer.proofs.plain.write_farewell.Goals as goal

pub returns : goal.returns
returns c = λ s.
    words_written s (server_error_view c.in_ok-clone.field-0) (server_error_view c.args.error.now)
    c.args.out.now.items c.put_first.new.out.items c.put_first.result c.in_ok-clone.ensures c.put_first.ensures
