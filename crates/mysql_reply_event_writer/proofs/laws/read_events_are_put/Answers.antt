use Rattle.mysql_reply_event_writer.proofs.ReadEvents.{events_are_put}
use Rattle.mysql_reply_event_writer.proofs.laws.read_events_are_put.Goals as goal

pub returns : goal.returns
returns c = events_are_put (record {
  text_back = c.text_rows_read_back.ensures;
  text_written = c.read_text_rows_are_written.ensures;
  text_begins = c.text_rows_begin.ensures;
  binary_back = c.binary_rows_read_back.ensures;
  binary_written = c.read_binary_rows_are_written.ensures;
})
