-- What came of a side's stream and isn't read yet, beside what is lent of it.
-- MySQL: Client/Server Protocol, "MySQL Packets".
use Rattle.std.specs.Prelude.{ℕ, List}
use Rattle.mysql_connection_rules.specs.Streams.{Stream}

-- A side's stream, and the payload that was lent last: its packet is read already, and stands
-- before the unread bytes until these change.
pub record Buffer : Type 0 where
  pub stream : Stream
  pub lent : List ℕ
