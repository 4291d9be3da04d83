-- What a machine that reads and writes a connection has had of both streams.
-- MySQL: Client/Server Protocol, "Connection Lifecycle".
use Rattle.std.specs.Prelude.{◌≡◌, List, [], ◌∷◌, ◌++◌, Some}
use Rattle.mysql_connection_rules.specs.declared.side.Side.{Side}
use Rattle.mysql_connection_rules.specs.Events.{Event, side_of}
use Rattle.mysql_connection_rules.specs.Machines.{IsOpen, Takes}
use Rattle.mysql_connection_rules.specs.Streams.{Beginning, Coming, End, Piece, Says, Streams, World, come}
use Rattle.mysql_connection_rules.specs.Streams.{grow, next, no_bytes, start, stream_of}
use Rattle.std.specs.Prelude.{ℕ}

-- Bytes were put for an event of this side: once they have come of it, the event is the next, and
-- none of them is left. Nothing of the side waited unread.
pub record Puts (old : World) (event : Event) (side : Side) (bytes : List ℕ) (new : World) : Type 0
  where
    pub is_open : IsOpen old side
    pub none_waits : (stream_of side old.unread).bytes ≡ []
    pub its_own : side_of event ≡ side
    pub read : next (come side (Piece bytes) old) ≡ Says event new
    pub used : (stream_of side new.unread).bytes ≡ []

-- A machine that was new has had these bytes and ends of both streams, fed or put, in any pieces
-- and any order, has handed out or put these events in between, and holds this.
pub data HadOrPut (begun : Beginning) : Streams → List Event → World → Type 0 where
  fresh : HadOrPut begun no_bytes [] (start begun no_bytes)
  comes : {streams : Streams} {events : List Event} {old new : World} (side : Side)
      (coming : Coming) →
      HadOrPut begun streams events old → IsOpen old side → new ≡ come side coming old →
      HadOrPut begun (grow side coming streams) events new
  takes : {streams : Streams} {events : List Event} {old new : World} {event : Event} →
      HadOrPut begun streams events old → Takes old (Some event) new →
      HadOrPut begun streams (events ++ event ∷ []) new
  puts : {streams : Streams} {events : List Event} {old new : World} {event : Event} (side : Side)
      (bytes : List ℕ) →
      HadOrPut begun streams events old → Puts old event side bytes new →
      HadOrPut begun (grow side (Piece bytes) streams) (events ++ event ∷ []) new

-- A machine of one side: of the other side bytes and the end came, and of its own it put these
-- events, and then the end where it ended it.
pub data HadAs (own other : Side) (begun : Beginning) :
    List Event → Streams → List Event → World → Type 0 where
  fresh_as : HadAs own other begun [] no_bytes [] (start begun no_bytes)
  comes_as : {put : List Event} {streams : Streams} {events : List Event} {old new : World}
      (coming : Coming) →
      HadAs own other begun put streams events old → IsOpen old other →
      new ≡ come other coming old →
      HadAs own other begun put (grow other coming streams) events new
  ends_as : {put : List Event} {streams : Streams} {events : List Event} {old new : World} →
      HadAs own other begun put streams events old → IsOpen old own → new ≡ come own End old →
      HadAs own other begun put (grow own End streams) events new
  takes_as : {put : List Event} {streams : Streams} {events : List Event} {old new : World}
      {event : Event} →
      HadAs own other begun put streams events old → Takes old (Some event) new →
      HadAs own other begun put streams (events ++ event ∷ []) new
  puts_as : {put : List Event} {streams : Streams} {events : List Event} {old new : World}
      {event : Event} (bytes : List ℕ) →
      HadAs own other begun put streams events old → Puts old event own bytes new →
      HadAs own other begun (put ++ event ∷ []) (grow own (Piece bytes) streams)
      (events ++ event ∷ []) new
