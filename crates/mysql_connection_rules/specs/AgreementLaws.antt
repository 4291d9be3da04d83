-- The laws. Each is the contract of a function in src/laws.rt.
-- MySQL: Client/Server Protocol, "Connection Lifecycle", "MySQL Packets" and "Sequence ID".
use Rattle.std.specs.Prelude.{◌≡◌, ◌⊎◌, ℕ, ◌<◌, List, ◌++◌, Option, Some}
use Rattle.std.specs.List.{filter}
use Rattle.mysql_connection_rules.specs.declared.side.Side.TheVariants.{Client, Server}
use Rattle.mysql_connection_rules.specs.Events.{Event, side_of}
use Rattle.mysql_connection_rules.specs.Machines.{Had}
use Rattle.mysql_connection_rules.specs.Runs.{HasCome, HasComeOf, IsFront, IsLast, IsRun, Runs}
use Rattle.mysql_connection_rules.specs.Standing.{Standing}
use Rattle.mysql_connection_rules.specs.Streams.{Beginning, Streams, World, next}
use Rattle.mysql_connection_rules.specs.PuttingMachines.{HadAs, HadOrPut, Puts}
use Rattle.mysql_connection_rules.specs.Puts.{MayBePut, is_of, packets_for, put_on}
use Rattle.mysql_connection_rules.specs.Refusals.{IsPutBy, IsSaidBy, IsUnsaid, PutRefusal}
use Rattle.mysql_connection_rules.specs.Refusals.{Refuses}

-- WHAT IS PUT

-- What a put appends is read as the event that was put, and nothing of it is left.
abbrev pub PutsAreRead : Type 0
PutsAreRead = (old : World) (event : Event) (payload : List ℕ) (after : Standing) →
    old.standing.number < 256 → MayBePut old event payload after →
    Puts old event (side_of event) (packets_for event old.standing payload)
    (put_on old event payload after)

-- Of any machine that was new the number that is due is a byte's.
abbrev pub NumbersAreBytes : Type 0
NumbersAreBytes = (begun : Beginning) (streams : Streams) (events : List Event) (held : World) →
    begun.first.number < 256 → HadOrPut begun streams events held → held.standing.number < 256

-- An event that can be put isn't refused.
abbrev pub PutsAreNotRefused : Type 0
PutsAreNotRefused = (w : World) (event : Event) (payload : List ℕ) (after : Standing)
    (cause : PutRefusal) → MayBePut w event payload after →
    Refuses w event (Some payload) cause → ⊥

-- And refused for one cause.
abbrev pub RefusalsAreOne : Type 0
RefusalsAreOne = (w : World) (event : Event) (written : Option (List ℕ))
    (cause other : PutRefusal) → Refuses w event written cause → Refuses w event written other →
    cause ≡ other

-- One of both, once it is told whether the payload that was written says the event.
abbrev pub PutOrRefused : Type 0
PutOrRefused = (w : World) (event : Event) (written : Option (List ℕ)) →
    IsSaidBy w event written ⊎ IsUnsaid w event written →
    IsPutBy w event written ⊎ ((cause : PutRefusal) × Refuses w event written cause)

-- Whatever pieces and ends of two streams came to a machine, and whatever events it put: those that
-- were taken or put and those that are still there to take are the events of the one run over the
-- two streams.
abbrev pub PutsAreTheRun : Type 0
PutsAreTheRun = (begun : Beginning) (streams : Streams) (taken left events : List Event)
    (now last end : World) → HadOrPut begun streams taken now → Runs now left last →
    IsLast (next last) →
    IsRun begun streams events end → (taken ++ left ≡ events) × (last ≡ end)

-- AGREEMENT

-- What a machine has had: the bytes and ends of both streams, the events that it took or put, and
-- what it holds.
pub record Member : Type 0 where
  pub streams : Streams
  pub events : List Event
  pub held : World

-- Its events are a front of these; and all of them once all bytes and ends have come and no event
-- is left to take: what it holds is this then.
pub record AgreesOn (sent : Streams) (events : List Event) (last : World) (member : Member) : Type 0
  where
    pub front : IsFront member.events events
    pub all : member.streams ≡ sent → IsLast (next member.held) →
        (member.events ≡ events) × (member.held ≡ last)

-- What the client sent, and what the server did.
abbrev pub sent_by : Member → Member → Streams
sent_by client server =
    record { client = client.streams.client; server = server.streams.server }

-- One list of events, the run over all that was sent: its client's events are those that the client
-- put, its server's those that the server put, and each of the three has a front of it.
pub record Agreement (begun : Beginning) (asked answered : List Event)
    (client server auditor : Member) : Type 0 where
  pub events : List Event
  pub last : World
  pub run : IsRun begun (sent_by client server) events last
  pub asked_all : filter (is_of Client) events ≡ asked
  pub answered_all : filter (is_of Server) events ≡ answered
  pub client_agrees : AgreesOn (sent_by client server) events last client
  pub server_agrees : AgreesOn (sent_by client server) events last server
  pub auditor_agrees : AgreesOn (sent_by client server) events last auditor

-- The client's machine put what was asked, and had what came of the server.
abbrev pub IsClient : Beginning → List Event → Member → Type 0
IsClient begun asked member =
    HadAs Client Server begun asked member.streams member.events member.held

-- The server's machine put what was answered, and had what came of the client.
abbrev pub IsServer : Beginning → List Event → Member → Type 0
IsServer begun answered member =
    HadAs Server Client begun answered member.streams member.events member.held

-- The auditor's machine had what came of both.
abbrev pub IsAuditor : Beginning → Member → Type 0
IsAuditor begun member = Had begun member.streams member.events member.held

-- A client and a server that put their events and read the other's, and an auditor between them,
-- agree: at each moment, whatever has come so far, in whatever pieces and order.
abbrev pub ThreeAgree : Type 0
ThreeAgree = (begun : Beginning) (asked answered : List Event) (client server auditor : Member) →
    IsClient begun asked client → IsServer begun answered server → IsAuditor begun auditor →
    HasComeOf client.streams.server server.streams.server →
    HasComeOf server.streams.client client.streams.client →
    HasCome auditor.streams (sent_by client server) →
    Agreement begun asked answered client server auditor
