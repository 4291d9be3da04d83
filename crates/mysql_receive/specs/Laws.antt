-- The laws of reading a command stream.
-- MySQL: Client/Server Protocol, "MySQL Packets" and "Command Phase".
use Rattle.std.specs.Prelude.{◌≡◌, ◌≢◌, ◌⊎◌, ℕ, ◌+◌, ◌<◌, ◌≤◌, ◌^◌, List, [], ◌∷◌, ◌++◌, length, take, Option, Some}
use Rattle.std.specs.Prelude.{None, Ok}
use Rattle.std.specs.List.{All, AllByRecursion, flat_map, concat}
use Rattle.mysql_values.specs.Sql.{Sql}
use Rattle.mysql_receive.specs.declared.fault.StreamFault.{StreamFault}
use Rattle.mysql_receive.specs.Query.{IsQuery, Statement}
use Rattle.mysql_receive.specs.Layout.{Types}
use Rattle.mysql_receive.specs.InForce.{StatementState, nothing_yet, state_after}
use Rattle.mysql_receive.specs.LookingBack.{last_said, looking_back}
use Rattle.mysql_receive.specs.Reading.{Set, ReadsAs, Faulty, content_at}
use Rattle.mysql_values.specs.Values.{FitsFields}
use Rattle.mysql_values.specs.Cells.{cell, is_unsigned, type_number}
use Rattle.mysql_values.specs.Values.{content_of}
use Rattle.mysql_values.specs.Content.{Content}
use Rattle.mysql_values.specs.Value.{Value}
use Rattle.mysql_wire.specs.Bytes.{AreBytes}
use Rattle.mysql_wire.specs.Stream.{IsSplit, Rest, Split, StandWhole, framings}
use Rattle.mysql_wire.specs.Stream.Numbering.{EachFromZero}
use Rattle.mysql_receive.specs.declared.audit.End.TheVariants.{Whole}
use Rattle.mysql_receive.specs.Audit.{Audit, Reads, Audits, Audited, AuditOf, IsAbout, IsNoFault, OutOfMemoryIn}
use Rattle.mysql_receive.specs.GoingOn.{ReceiverState, fresh_receiver, ReceiverDecides, ReceiverGoesOn, Fed, TakesAll}
use Rattle.mysql_receive.specs.GoingOn.{RunsShort}
use Rattle.mysql_receive.specs.Receiving.{IsMemory}
use Rattle.mysql_receive.specs.Taking.{Run, with_sets}
use Rattle.mysql_receive.specs.declared.fault.StreamFault.TheVariants.{Memory}

-- What is in force behind two lists of payloads is what is in force behind the second, from the first on.
abbrev pub LookingBackGoesOn : Type 0
LookingBackGoesOn = (statement : Statement) (state : StatementState) (xs ys : List (List ℕ)) →
    state_after statement state (xs ++ ys) ≡ state_after statement (state_after statement state xs) ys

-- What is in force can be found by looking back: a payload that says something, with none behind it
-- that says anything, decides.
pub record LastWordCounts : Type 0 where
  pub word : (says : List ℕ → Option (Option Types)) (before word : Option Types)
      (earlier later : List (List ℕ)) (payload : List ℕ)
      → says payload ≡ Some word → All (λ other. says other ≡ None) later →
      last_said says before (earlier ++ payload ∷ later) ≡ word
  pub back : (statement : Statement) (state : StatementState) (payloads : List (List ℕ)) →
      state_after statement state payloads ≡ looking_back statement state payloads

-- A payload reads as one list of sets and has no fault, or has one fault and reads as nothing.
pub record IsJudged (statement : Statement) (state : StatementState) (number : ℕ)
    (payload : List ℕ) : Type 0 where
  pub judged : ((sets : List Set) × ReadsAs statement state number payload sets) ⊎
      ((f : StreamFault) × Faulty statement state number payload f)
  pub not_both : (sets : List Set) (f : StreamFault) → ReadsAs statement state number payload sets →
      Faulty statement state number payload f → ⊥
  pub sets_one : (xs ys : List Set) → ReadsAs statement state number payload xs →
      ReadsAs statement state number payload ys → xs ≡ ys
  pub fault_one : (f g : StreamFault) → Faulty statement state number payload f →
      Faulty statement state number payload g → f ≡ g

abbrev pub EachPayloadIsJudged : Type 0
EachPayloadIsJudged =
    (statement : Statement) (state : StatementState) (number : ℕ) (payload : List ℕ) →
    IsQuery statement.query → IsJudged statement state number payload

-- Of any payloads and rest, whatever is in force before them, there is an audit, and no other.
abbrev pub ThereIsOneAudit : Type 0
ThereIsOneAudit =
    (statement : Statement) (state : StatementState) (first : ℕ) (payloads : List (List ℕ))
    (rest : Rest) → IsQuery statement.query
    → (a : Audit) × Audits statement state first payloads rest a ×
    ((b : Audit) → Audits statement state first payloads rest b → b ≡ a)

-- Behind payloads that all read, the audit goes on by what they leave in force.
abbrev pub AuditGoesOn : Type 0
AuditGoesOn =
    (statement : Statement) (state : StatementState) (first : ℕ) (xs ys : List (List ℕ)) (rest : Rest)
    (reads : List (List Set)) (a : Audit)
    → Reads statement state first xs reads →
    Audits statement (state_after statement state xs) (first + length xs) ys rest a
    → Audits statement state first (xs ++ ys) rest
    (record { sets = flat_map (λ sets. sets) reads ++ a.sets; ending = a.ending })

-- Of any bytes there is an audit, and no other.
abbrev pub StreamHasOneAudit : Type 0
StreamHasOneAudit =
    (statement : Statement) (limit : ℕ) (bytes : List ℕ) → IsQuery statement.query → AreBytes bytes
    → (a : Audit) × Audited statement limit bytes a × ((b : Audit) → Audited statement limit bytes b → b ≡ a)

-- Two cuttings of the same bytes have equal audits.
abbrev pub CuttingsAgree : Type 0
CuttingsAgree =
    (query : Sql) (id limit : ℕ) (pieces others : List (List ℕ)) (a b : Audit) →
    AreBytes (concat pieces) → concat pieces ≡ concat others
    → AuditOf query id limit (concat pieces) a → AuditOf query id limit (concat others) b → a ≡ b

-- What a new receiver holds decides the audit of the bytes to come.
abbrev pub StartDecidesTheAudit : Type 0
StartDecidesTheAudit =
    (statement : Statement) (limit : ℕ) (z : List ℕ) (a : Audit)
    → (ReceiverDecides statement limit fresh_receiver z a → Audited statement limit z a) ×
    (Audited statement limit z a → ReceiverDecides statement limit fresh_receiver z a)

-- What is held after a piece decides, over all bytes still to come, what was decided before it over
-- the piece and them, or memory ran out over the piece.
abbrev pub FeedingGoesOn : Type 0
FeedingGoesOn =
    (statement : Statement) (limit : ℕ) (old new : ReceiverState) (piece : List ℕ) → AreBytes (old.partial ++ piece)
    → old.fault ≡ None → Fed statement limit old piece new
    → (new.fault ≢ Some Memory → ReceiverGoesOn statement limit old piece new) ×
    (new.fault ≡ Some Memory → RunsShort statement limit old piece new)

-- Pieces one after another are one piece.
abbrev pub PiecesGoOn : Type 0
PiecesGoOn =
    (statement : Statement) (limit : ℕ) (old mid new : ReceiverState) (front back : List ℕ) → AreBytes back
    → ReceiverGoesOn statement limit old front mid → ReceiverGoesOn statement limit mid back new →
    ReceiverGoesOn statement limit old (front ++ back) new

-- What was read of pieces one after another was read of one piece. Where memory ran out over a
-- piece, it ran out over the pieces before, this one and those behind it.
pub record ArePiecesTaken (statement : Statement) (limit : ℕ) (old mid new : ReceiverState)
    (front back : List ℕ) : Type 0 where
  -- all of both was read
  pub both_whole : TakesAll statement limit old front mid → TakesAll statement limit mid back new →
      TakesAll statement limit old (front ++ back) new
  -- memory ran out over the second
  pub second_short : TakesAll statement limit old front mid → RunsShort statement limit mid back new →
      RunsShort statement limit old (front ++ back) new
  -- memory ran out over the first
  pub first_short : AreBytes (old.partial ++ front) → AreBytes back →
      RunsShort statement limit old front new → RunsShort statement limit old (front ++ back) new

abbrev pub PiecesAreTaken : Type 0
PiecesAreTaken =
    (statement : Statement) (limit : ℕ) (old mid new : ReceiverState) (front back : List ℕ) →
    ArePiecesTaken statement limit old mid new front back

-- Over any feeds and takes between them, all sets that were taken, and behind them those of the
-- end, are the audit of all bytes that were fed; where memory ran out, they are those of the
-- stream's first payloads, as many as the end counts.
abbrev pub TakenSetsAreTheAudit : Type 0
TakenSetsAreTheAudit =
    (query : Sql) (id : ℕ) (statement : Statement) (limit : ℕ) (pieces : List (List ℕ))
    (taken : List Set) (state : ReceiverState) (a : Audit)
    → IsAbout statement query id → Run statement limit pieces taken state → ReceiverDecides statement limit state [] a
    → ((IsMemory a.ending → ⊥) → AuditOf query id limit (concat pieces) (with_sets taken a))
    × (IsMemory a.ending → OutOfMemoryIn query id limit pieces (with_sets taken a))

-- A front of a stream whose payloads all read has no fault, and the sets of exactly those payloads
-- that stand whole in it.
abbrev pub FrontsReadOn : Type 0
FrontsReadOn =
    (statement : Statement) (limit : ℕ) (payloads : List (List ℕ)) (reads : List (List Set))
    (front back : List ℕ) (a : Audit) → IsQuery statement.query
    → AllByRecursion (λ payload. length payload ≤ limit) payloads → framings payloads EachFromZero ≡ front ++ back
    → Reads statement nothing_yet 0 payloads reads → Audited statement limit front a
    → (k : ℕ) × StandWhole EachFromZero payloads front k ×
    (a.sets ≡ flat_map (λ sets. sets) (take k reads)) × IsNoFault a.ending

-- Two streams whose payloads, fewer than 2 ^ 64 together, audit whole make one that audits whole,
-- with their sets joined.
abbrev pub WholeStreamsJoin : Type 0
WholeStreamsJoin =
    (statement : Statement) (limit : ℕ) (xs ys : List ℕ) (front back : Split) (a b : Audit) →
    IsSplit limit EachFromZero xs front → IsSplit limit EachFromZero ys back
    → Audits statement nothing_yet 0 front.payloads front.rest a →
    Audits statement nothing_yet 0 back.payloads back.rest b
    → length front.payloads + length back.payloads < 2 ^ 64 → a.ending ≡ Whole → b.ending ≡ Whole
    → Audited statement limit (xs ++ ys) (record { sets = a.sets ++ b.sets; ending = Whole })

-- The cell that is written for a value, read by the type that the value is sent by, holds what the
-- value means, whatever follows it.
abbrev pub WrittenCellsAreHeld : Type 0
WrittenCellsAreHeld =
    (short : StreamFault) (value : Value) (meant : Content) (rest : List ℕ) → FitsFields value →
    content_of value ≡ Some meant
    → content_at short (record { number = type_number value; unsigned = is_unsigned value })
    (cell value ++ rest) ≡ Ok (meant, rest)
