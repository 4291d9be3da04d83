-- What a machine had and put of both streams of a connection, payload by payload.
-- MySQL: Client/Server Protocol, "Connection Lifecycle" and "MySQL Packets".
use Rattle.std.specs.Prelude.{◌≡◌, ◌⊎◌, ◌<◌, ℕ, List, [], ◌∷◌, ◌++◌, Ok, Some}
use Rattle.mysql_connection_rules.specs.PuttingMachines.{HadOrPut}
use Rattle.mysql_connection_rules.specs.Puts.{MayBePut, packets_for, put_on}
use Rattle.mysql_connection_contents.specs.Contents.{Ends, Heard, Spoken}
use Rattle.mysql_connection_rules.specs.declared.side.Side.{Side}
use Rattle.mysql_connection_rules.specs.Events.{Event, side_of}
use Rattle.mysql_connection_rules.specs.Events.Event.{Farewell}
use Rattle.mysql_connection_rules.specs.Machines.{IsOpen, Takes}
use Rattle.mysql_connection_rules.specs.Runs.{IsLast}
use Rattle.mysql_connection_rules.specs.Standing.{Standing}
use Rattle.mysql_connection_rules.specs.Steps.{step}
use Rattle.mysql_connection_rules.specs.Streams.{Beginning, Coming, End, Piece, Streams, World, come}
use Rattle.mysql_connection_rules.specs.Streams.{grow, next, no_bytes, start}
use Rattle.mysql_server_packets.specs.Packets.{ServerError}
use Rattle.mysql_wire.specs.Framing.{number_after}

-- WHAT A MACHINE HEARD

-- The payloads of both sides that were read of these streams, one after another; a machine's events
-- are what they say, and last words of the server at most behind them.
pub record HasHeard (begun : Beginning) (streams : Streams) (events : List Event) (held : World) :
    Type 0 where
  pub payloads : List Spoken
  pub last : World
  pub heard : Heard (start begun streams) payloads last
  pub ends : Ends last payloads events held

-- Whatever pieces of both streams came to a machine, in whatever order, and whatever it put in
-- between: once no event is left to take, it has heard the payloads of both.
abbrev pub MachinesHear : Type 0
MachinesHear = (begun : Beginning) (streams : Streams) (events : List Event) (held : World) →
    HadOrPut begun streams events held → IsLast (next held) → HasHeard begun streams events held

-- WHAT A MACHINE PUT, PAYLOAD BY PAYLOAD

-- A payload of a side was put, which says this event by the table of steps.
pub record PutsSpoken (old : World) (x : Spoken) (new : World) : Type 0 where
  pub after : Standing
  pub standing : x.standing ≡ old.standing
  pub its_own : x.side ≡ side_of x.event
  pub number : x.number ≡ number_after x.payload old.standing.number
  pub says : step old.standing x.payload ≡ Ok (x.event, after)
  pub may : MayBePut old x.event x.payload after
  pub goes : new ≡ put_on old x.event x.payload after

-- The next event was taken, which this payload says.
pub record TakesSpoken (old : World) (x : Spoken) (new : World) : Type 0 where
  pub takes : Takes old (Some x.event) new
  pub heard : Heard old (x ∷ []) new

-- A machine of one side, that was new: of the other side bytes and the end came, whose payloads it
-- took, and of its own it put payloads, and then the end where it ended it.
pub data HasSpoken (own other : Side) (begun : Beginning) : Streams → List Spoken → World → Type 0
  where
    fresh : HasSpoken own other begun no_bytes [] (start begun no_bytes)
    comes : {streams : Streams} {xs : List Spoken} {old new : World} (coming : Coming) →
        HasSpoken own other begun streams xs old → IsOpen old other → new ≡ come other coming old →
        HasSpoken own other begun (grow other coming streams) xs new
    ends : {streams : Streams} {xs : List Spoken} {old new : World} →
        HasSpoken own other begun streams xs old → IsOpen old own → new ≡ come own End old →
        HasSpoken own other begun (grow own End streams) xs new
    takes : {streams : Streams} {xs : List Spoken} {old new : World} (x : Spoken) →
        HasSpoken own other begun streams xs old → TakesSpoken old x new →
        HasSpoken own other begun streams (xs ++ x ∷ []) new
    puts : {streams : Streams} {xs : List Spoken} {old new : World} (x : Spoken) →
        HasSpoken own other begun streams xs old → x.side ≡ own → PutsSpoken old x new →
        HasSpoken own other begun
        (grow own (Piece (packets_for x.event old.standing x.payload)) streams) (xs ++ x ∷ []) new

-- What it put and took is what is heard of its streams, payload by payload.
abbrev pub MachinesHearWhatTheyPut : Type 0
MachinesHearWhatTheyPut = (own other : Side) (begun : Beginning) (streams : Streams)
    (xs : List Spoken) (held : World) → begun.first.number < 256 →
    HasSpoken own other begun streams xs held → Heard (start begun streams) xs held

-- Each event that is taken or put is what a payload says, but for last words, with which a
-- connection ends.
abbrev pub IsLastWords : Event → Type 0
IsLastWords event = (error : ServerError) × (event ≡ Farewell error)

abbrev pub TakenEventsAreSpoken : Type 0
TakenEventsAreSpoken = (old new : World) (event : Event) → Takes old (Some event) new →
    ((x : Spoken) × (x.event ≡ event) × TakesSpoken old x new) ⊎ IsLastWords event

-- An event that is put by this payload.
abbrev pub spoken_by : World → Event → List ℕ → Spoken
spoken_by w event payload = record {
  side = side_of event;
  number = number_after payload w.standing.number;
  standing = w.standing;
  payload = payload;
  event = event;
}

abbrev pub PutEventsAreSpoken : Type 0
PutEventsAreSpoken = (old : World) (event : Event) (payload : List ℕ) (after : Standing) →
    MayBePut old event payload after →
    PutsSpoken old (spoken_by old event payload) (put_on old event payload after) ⊎
    IsLastWords event
