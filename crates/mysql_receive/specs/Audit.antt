-- What a stream of commands says: its parameter sets, and how it ends.
-- MySQL: Client/Server Protocol, "MySQL Packets" and "Command Phase".
use Rattle.std.specs.Prelude.{◌≡◌, ℕ, ◌+◌, ◌≤◌, List, [], ◌∷◌, ◌++◌, length}
use Rattle.std.specs.Prelude.{if◌then◌else◌}
use Rattle.std.specs.List.{concat, flat_map}
use Rattle.mysql_values.specs.Sql.{Sql}
use Rattle.mysql_values.specs.Tokens.{HasTokens}
use Rattle.mysql_receive.specs.declared.fault.StreamFault.{StreamFault}
use Rattle.mysql_receive.specs.declared.fault.StreamFault.TheVariants.{TooLarge, OutOfSync, Memory}
use Rattle.mysql_receive.specs.declared.audit.End.{End}
use Rattle.mysql_receive.specs.declared.audit.End.TheVariants.{Fault, WaitingPieces, UnfinishedPacket, Whole}
use Rattle.mysql_receive.specs.Query.{Statement, statement_of}
use Rattle.mysql_receive.specs.InForce.{StatementState, nothing_yet, after, state_after, is_waiting}
use Rattle.mysql_receive.specs.Reading.{Set, ReadsAs, Faulty}
use Rattle.mysql_wire.specs.Stream.{Rest, Split, IsSplit, IsFault}
use Rattle.mysql_wire.specs.Stream.Rest.{Empty as EmptyRest, TooLarge as TooLargeRest, OutOfSync as OutOfSyncRest}
use Rattle.mysql_wire.specs.Stream.Rest.{Open as OpenRest}
use Rattle.mysql_wire.specs.Stream.Numbering.{EachFromZero}

pub record Audit : Type 0 where
  pub sets : List Set
  pub ending : End

-- the end where no payload is faulty: by the rest, and by whether long data waits
abbrev pub end_by_rest : Statement → StatementState → ℕ → Rest → End
end_by_rest statement state count TooLargeRest = Fault count TooLarge
end_by_rest statement state count OutOfSyncRest = Fault count OutOfSync
end_by_rest statement state count OpenRest = if is_waiting statement state then WaitingPieces else UnfinishedPacket
end_by_rest statement state count EmptyRest = if is_waiting statement state then WaitingPieces else Whole

-- The payloads read as these sets, one after another from this number on, each by what those before
-- it leave in force.
pub data Reads (statement : Statement) : StatementState → ℕ → List (List ℕ) → List (List Set) → Type 0 where
  nothing : {state : StatementState} {number : ℕ} → Reads statement state number [] []
  next : {state : StatementState} {number : ℕ} {payload : List ℕ} {payloads : List (List ℕ)}
      {sets : List Set} {reads : List (List Set)} → ReadsAs statement state number payload sets →
      Reads statement (after statement state payload) (number + 1) payloads reads →
      Reads statement state number (payload ∷ payloads) (sets ∷ reads)

-- the first of the payloads read as these sets, however many are left
pub record FrontReads (statement : Statement) (state : StatementState) (first : ℕ)
    (payloads : List (List ℕ)) (reads : List (List Set)) : Type 0 where
  pub front : List (List ℕ)
  pub left : List (List ℕ)
  pub cut : payloads ≡ front ++ left
  pub each : Reads statement state first front reads

-- The end, where these payloads are left from this number on: the fault of the first of them, or
-- none is left and the rest decides.
pub data Ends (statement : Statement) (state : StatementState) (number : ℕ) (rest : Rest)
    (ending : End) : List (List ℕ) → Type 0 where
  faulty : {payload : List ℕ} {payloads : List (List ℕ)} (f : StreamFault) →
      Faulty statement state number payload f → ending ≡ Fault number f →
      Ends statement state number rest ending (payload ∷ payloads)
  all_read : ending ≡ end_by_rest statement state number rest → Ends statement state number rest ending []

-- The audit of payloads and a rest, where this is in force before them: the sets of all payloads
-- before the least faulty one, and the end.
pub record Audits (statement : Statement) (state : StatementState) (first : ℕ) (payloads : List (List ℕ))
    (rest : Rest) (audit : Audit) : Type 0 where
  pub reads : List (List Set)
  pub each : FrontReads statement state first payloads reads
  pub sets : audit.sets ≡ flat_map (λ sets. sets) reads
  pub ending : Ends statement (state_after statement state each.front) (first + length reads) rest
      audit.ending each.left

-- Want of memory stopped the reading: the sets of the first payloads, as many as the end counts.
pub record Stopped (statement : Statement) (state : StatementState) (first : ℕ) (payloads : List (List ℕ))
    (audit : Audit) : Type 0 where
  pub reads : List (List Set)
  pub each : FrontReads statement state first payloads reads
  pub sets : audit.sets ≡ flat_map (λ sets. sets) reads
  pub ending : audit.ending ≡ Fault (first + length reads) Memory

-- the audit of a whole stream of commands
abbrev pub Audited : Statement → ℕ → List ℕ → Audit → Type 0
Audited statement limit bytes audit = (split : Split) × IsSplit limit EachFromZero bytes split ×
    Audits statement nothing_yet 0 split.payloads split.rest audit

-- Memory ran out over one of the pieces that the stream came in, and no bytes before it are a
-- fault: of the bytes up to its end the first payloads were read, and at least those that stand
-- whole before it.
pub record OutOfMemory (statement : Statement) (limit : ℕ) (pieces : List (List ℕ)) (audit : Audit) : Type 0 where
  pub before : List (List ℕ)
  pub piece : List ℕ
  pub after : List (List ℕ)
  pub cut : pieces ≡ before ++ piece ∷ after
  pub earlier : Split
  pub is_earlier : IsSplit limit EachFromZero (concat before) earlier
  pub no_fault : ¬ IsFault earlier.rest
  pub split : Split
  pub is_split : IsSplit limit EachFromZero (concat before ++ piece) split
  pub stopped : Stopped statement nothing_yet 0 split.payloads audit
  pub at_least : length earlier.payloads ≤ length stopped.reads

-- an end that is no fault
abbrev pub IsNoFault : End → Type 0
IsNoFault (Fault n f) = ⊥
IsNoFault WaitingPieces = Unit {0}
IsNoFault UnfinishedPacket = Unit {0}
IsNoFault Whole = Unit {0}

-- the statement is the query's, with this id
abbrev pub IsAbout : Statement → Sql → ℕ → Type 0
IsAbout statement query id = (tokens : List (List ℕ)) × HasTokens query.mode query.text tokens ×
    (statement ≡ statement_of query tokens id)

-- The audit of a stream of commands: what the bytes say of the query's parameter sets, with packets up to the limit.
abbrev pub AuditOf : Sql → ℕ → ℕ → List ℕ → Audit → Type 0
AuditOf query id limit bytes audit = (tokens : List (List ℕ)) × HasTokens query.mode query.text tokens ×
    Audited (statement_of query tokens id) limit bytes audit

-- as much of it as was read of the pieces that the stream came in, where memory ran out over one of them
abbrev pub OutOfMemoryIn : Sql → ℕ → ℕ → List (List ℕ) → Audit → Type 0
OutOfMemoryIn query id limit pieces audit =
    (tokens : List (List ℕ)) × HasTokens query.mode query.text tokens ×
    OutOfMemory (statement_of query tokens id) limit pieces audit
