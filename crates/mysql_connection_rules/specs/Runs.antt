-- The run of the table over two streams.
-- MySQL: Client/Server Protocol, "Connection Lifecycle".
use Rattle.std.specs.Prelude.{◌≡◌, true, List, [], ◌∷◌, ◌++◌}
use Rattle.mysql_connection_rules.specs.Events.{Event}
use Rattle.mysql_connection_rules.specs.Streams.{Beginning, Fails, Next, Says, Stream, Streams, Waits, World}
use Rattle.mysql_connection_rules.specs.Streams.{next, start}

-- These events, one after another, lead from the one to the other.
abbrev pub Runs : World → List Event → World → Type 0
Runs w [] last = w ≡ last
Runs w (event ∷ events) last = (mid : World) × (next w ≡ Says event mid) × Runs mid events last

-- No event comes next.
abbrev pub IsLast : Next → Type 0
IsLast Waits = Unit {0}
IsLast (Says event mid) = ⊥
IsLast (Fails failure) = Unit {0}

-- The run over two streams: all events, up to where more bytes are waited for, the connection is
-- over, or it can't be read further.
pub record IsRun (begun : Beginning) (streams : Streams) (events : List Event) (last : World) : Type 0
  where
    pub runs : Runs (start begun streams) events last
    pub ends : IsLast (next last)

-- The one is a front of the other.
abbrev pub IsFront : {A : Type 0} → List A → List A → Type 0
IsFront {A = A} xs ys = (more : List A) × (xs ++ more ≡ ys)

-- What has come of a stream, of which nothing was read: a front of it, and where its end has come,
-- all of it.
pub record HasComeOf (front whole : Stream) : Type 0 where
  pub read : front.read ≡ whole.read
  pub bytes : IsFront front.bytes whole.bytes
  pub all : front.closed ≡ true → front ≡ whole

pub record HasCome (front whole : Streams) : Type 0 where
  pub client : HasComeOf front.client whole.client
  pub server : HasComeOf front.server whole.server
