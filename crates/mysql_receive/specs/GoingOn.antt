-- What a receiver holds in place of the bytes that it was fed, and what that decides over the bytes still to come.
-- MySQL: Client/Server Protocol, "MySQL Packets" and "Command Phase".
use Rattle.std.specs.Prelude.{◌≡◌, ℕ, ◌+◌, List, [], ◌∷◌, ◌++◌, length, Option, Some, None}
use Rattle.std.specs.List.{flat_map}
use Rattle.mysql_receive.specs.declared.fault.StreamFault.{StreamFault}
use Rattle.mysql_receive.specs.declared.fault.StreamFault.TheVariants.{Memory, TooLarge, OutOfSync}
use Rattle.mysql_receive.specs.Query.{Statement}
use Rattle.mysql_receive.specs.InForce.{StatementState, nothing_yet, state_after}
use Rattle.mysql_receive.specs.Reading.{Set, Faulty}
use Rattle.mysql_wire.specs.Bytes.{AreBytes}
use Rattle.mysql_wire.specs.Stream.{Rest, Split, IsSplit}
use Rattle.mysql_wire.specs.Stream.Rest.{Empty as EmptyRest, TooLarge as TooLargeRest, OutOfSync as OutOfSyncRest}
use Rattle.mysql_wire.specs.Stream.Rest.{Open as OpenRest}
use Rattle.mysql_wire.specs.Stream.Numbering.{EachFromZero}
use Rattle.mysql_receive.specs.Audit.{Audit, Audits, FrontReads, Reads, IsNoFault}
use Rattle.mysql_receive.specs.declared.audit.End.TheVariants as ends

-- the payloads read, what is in force behind them, the bytes of the packet that isn't whole, the sets so far, the fault
pub record ReceiverState : Type 0 where
  pub count : ℕ
  pub state : StatementState
  pub partial : List ℕ
  pub sets : List Set
  pub fault : Option StreamFault

-- what a receiver holds when it is new
abbrev pub fresh_receiver : ReceiverState
fresh_receiver = record { count = 0; state = nothing_yet; partial = []; sets = []; fault = None }

-- The audit that is decided over the bytes still to come: that of the fault, else the sets so far and the audit of the
-- open bytes with those to come, by what is in force.
abbrev pub ReceiverDecidesBy : Statement → ℕ → ReceiverState → Option StreamFault → List ℕ → Audit → Type 0
ReceiverDecidesBy statement limit held (Some f) z a =
    (a.sets ≡ held.sets) × (a.ending ≡ ends.Fault held.count f)
ReceiverDecidesBy statement limit held None z a =
    (split : Split) × (sets : List Set) × IsSplit limit EachFromZero (held.partial ++ z) split
    × (a.sets ≡ held.sets ++ sets) ×
    Audits statement held.state held.count split.payloads split.rest
    (record { sets = sets; ending = a.ending })

abbrev pub ReceiverDecides : Statement → ℕ → ReceiverState → List ℕ → Audit → Type 0
ReceiverDecides statement limit held z a = ReceiverDecidesBy statement limit held held.fault z a

-- Over no more bytes it decides an end that is no fault.
abbrev pub HasFoundNoFault : Statement → ℕ → ReceiverState → Type 0
HasFoundNoFault statement limit held =
    (a : Audit) → ReceiverDecides statement limit held [] a → IsNoFault a.ending

-- What the one decides over bytes still to come, the other decides over the piece and them.
abbrev pub ReceiverGoesOn : Statement → ℕ → ReceiverState → List ℕ → ReceiverState → Type 0
ReceiverGoesOn statement limit old piece new = (z : List ℕ) (a : Audit) → AreBytes z →
    ReceiverDecides statement limit new z a → ReceiverDecides statement limit old (piece ++ z) a

-- how a rest decides the fault: none, where bytes to come can still make it whole
abbrev pub fault_of_rest : Rest → Option StreamFault
fault_of_rest EmptyRest = None
fault_of_rest OpenRest = None
fault_of_rest TooLargeRest = Some TooLarge
fault_of_rest OutOfSyncRest = Some OutOfSync

-- Why a reading of payloads stopped, where these are left, this is in force and so many were read.
pub data WhyStopped (statement : Statement) (state : StatementState) (split : Split)
    (new : ReceiverState) : List (List ℕ) → Type 0 where
  -- the first that is left is refused
  fault : {payload : List ℕ} {payloads : List (List ℕ)} (f : StreamFault) →
      Faulty statement state new.count payload f → new.fault ≡ Some f →
      WhyStopped statement state split new (payload ∷ payloads)
  -- memory ran out
  memory : {left : List (List ℕ)} → new.fault ≡ Some Memory → WhyStopped statement state split new left
  -- none is left, and the rest decides
  all_read : new.fault ≡ fault_of_rest split.rest →
      (new.fault ≡ None → (new.partial ≡ split.rest_bytes) × (new.state ≡ state)) →
      WhyStopped statement state split new []

-- What is held after a piece, where no fault was held before it: the sets of the payloads that were
-- read, and why no more.
pub record Fed (statement : Statement) (limit : ℕ) (old : ReceiverState) (piece : List ℕ)
    (new : ReceiverState) : Type 0 where
  pub split : Split
  pub is_split : IsSplit limit EachFromZero (old.partial ++ piece) split
  pub reads : List (List Set)
  pub each : FrontReads statement old.state old.count split.payloads reads
  pub sets : new.sets ≡ old.sets ++ flat_map (λ sets. sets) reads
  pub count : new.count ≡ old.count + length reads
  pub stopped : WhyStopped statement (state_after statement old.state each.front) split new each.left

-- Each payload that stands whole in what was held of a packet followed by the piece was read; what
-- is held then is their sets behind those before, what is in force behind them, what is left of the
-- bytes, and no fault.
pub record TakesAll (statement : Statement) (limit : ℕ) (old : ReceiverState) (piece : List ℕ)
    (new : ReceiverState) : Type 0 where
  pub split : Split
  pub is_split : IsSplit limit EachFromZero (old.partial ++ piece) split
  pub no_fault : fault_of_rest split.rest ≡ None
  pub partial : new.partial ≡ split.rest_bytes
  pub count : new.count ≡ old.count + length split.payloads
  pub reads : List (List Set)
  pub each : Reads statement old.state old.count split.payloads reads
  pub sets : new.sets ≡ old.sets ++ flat_map (λ sets. sets) reads
  pub state : new.state ≡ state_after statement old.state split.payloads

-- Memory ran out over the piece: what is held then has the sets of the payloads read before and of
-- the first payloads of what was held of a packet followed by the piece, however many were read,
-- and their number.
pub record RunsShort (statement : Statement) (limit : ℕ) (old : ReceiverState) (piece : List ℕ)
    (new : ReceiverState) : Type 0 where
  pub split : Split
  pub is_split : IsSplit limit EachFromZero (old.partial ++ piece) split
  pub reads : List (List Set)
  pub each : FrontReads statement old.state old.count split.payloads reads
  pub sets : new.sets ≡ old.sets ++ flat_map (λ sets. sets) reads
  pub count : new.count ≡ old.count + length reads
  pub fault : new.fault ≡ Some Memory
