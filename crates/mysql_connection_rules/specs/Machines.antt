-- What a machine that reads a connection has had of both streams.
-- MySQL: Client/Server Protocol, "Connection Lifecycle".
use Rattle.std.specs.Prelude.{◌≡◌, false, List, [], ◌∷◌, ◌++◌, Option, Some, None}
use Rattle.mysql_connection_rules.specs.declared.side.Side.{Side}
use Rattle.mysql_connection_rules.specs.Events.{Event}
use Rattle.mysql_connection_rules.specs.Streams.{Beginning, Coming, Says, Streams, Waits, World, come, grow}
use Rattle.mysql_connection_rules.specs.Streams.{next}
use Rattle.mysql_connection_rules.specs.Streams.{no_bytes, start, stream_of}

-- The side's stream has not ended.
abbrev pub IsOpen : World → Side → Type 0
IsOpen w side = (stream_of side w.unread).closed ≡ false

-- What a take hands out, and what is held then.
abbrev pub Takes : World → Option Event → World → Type 0
Takes old None new = (next old ≡ Waits) × (new ≡ old)
Takes old (Some event) new = next old ≡ Says event new

-- A machine that was new has had these bytes and ends of both streams, in any pieces and any order,
-- has handed out these events in between, and holds this.
pub data Had (begun : Beginning) : Streams → List Event → World → Type 0 where
  fresh : Had begun no_bytes [] (start begun no_bytes)
  comes : {streams : Streams} {events : List Event} {old new : World} (side : Side)
      (coming : Coming) →
      Had begun streams events old → IsOpen old side → new ≡ come side coming old →
      Had begun (grow side coming streams) events new
  takes : {streams : Streams} {events : List Event} {old new : World} {event : Event} →
      Had begun streams events old → Takes old (Some event) new →
      Had begun streams (events ++ event ∷ []) new
