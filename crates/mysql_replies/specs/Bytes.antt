-- A reply over the bytes of a connection, which split into payloads numbered on from the reply's first id.
-- MySQL: Client/Server Protocol, "MySQL Packets" and "Text Resultset".
use Rattle.std.specs.Prelude.{◌≡◌, ℕ, ◌-◌, ◌≤◌, List, ◌∷◌, ◌++◌, length, take, nat_le, if◌then◌else◌}
use Rattle.std.specs.List.{flat_map}
use Rattle.mysql_wire.specs.Bytes.{AreBytes}
use Rattle.mysql_wire.specs.Reader.{StandFirst}
use Rattle.mysql_wire.specs.Stream as stream
use Rattle.mysql_wire.specs.Stream.{Rest, Split, IsSplit, IsFault}
use Rattle.mysql_wire.specs.Stream.Numbering.{OnFrom}
use Rattle.mysql_wire.specs.Stream.Rest.{TooLarge}
use Rattle.mysql_reply_events.specs.declared.context.Context.{Context}
use Rattle.mysql_replies.specs.declared.fault.ReplyFault.TheVariants.{Memory}
use Rattle.mysql_replies.specs.Reply.{Answer, Answered, FaultAt, GoingOn, IsReply, Payload, PayloadsDecide, ReplySoFar}
use Rattle.mysql_replies.specs.Reply.{Unfinished}

-- Payloads are counted in 64 bits: the numbers of payloads are below 2^64 - 1.
abbrev pub number_bound : ℕ
number_bound = 18446744073709551615

-- How many more payloads can be numbered after so many.
abbrev pub numbers_left : ℕ → ℕ
numbers_left count = number_bound - count

-- The payloads that can be numbered, where so many came before them.
abbrev pub numbered : ℕ → List Payload → List Payload
numbered count payloads = take (numbers_left count) payloads

-- What follows those: where there are more payloads, a packet that is too large.
abbrev pub after_numbered : ℕ → List Payload → Rest → Rest
after_numbered count payloads rest = if nat_le (length payloads) (numbers_left count) then rest else TooLarge

-- The answer of some bytes: that of the payloads that they split into.
pub record IsReplyOf (c : Context) (first_id limit : ℕ) (bytes : List ℕ) (answer : Answer) : Type 0 where
  pub split : Split
  pub splits : IsSplit limit (OnFrom first_id) bytes split
  pub reply : IsReply c (numbered 0 split.payloads) (after_numbered 0 split.payloads split.rest) answer

-- The answer that stops for want of memory after these payloads, which come first in the bytes: their results and
-- reports, and their number. Each of them has its place, and the reply goes on behind them.
pub record StopsAfter (c : Context) (first_id limit : ℕ) (bytes : List ℕ) (read : List Payload)
    (answer : Answer) : Type 0 where
  pub first : StandFirst limit (OnFrom first_id) bytes read
  pub whole : Answer
  pub reply : IsReply c (numbered 0 read) (after_numbered 0 read stream.Open) whole
  pub unfinished : whole.end ≡ Unfinished
  pub results : answer.results ≡ whole.results
  pub progress : answer.progress ≡ whole.progress
  pub end : answer.end ≡ FaultAt (length read) Memory

-- The answer where memory ran out over one of the pieces: the pieces before it have no fault, and
-- the answer stops after the payloads that stand whole in them or after more, within that piece.
pub record IsShortReplyOf (c : Context) (first_id limit : ℕ) (pieces : List (List ℕ)) (answer : Answer) : Type 0 where
  pub before : List (List ℕ)
  pub piece : List ℕ
  pub after : List (List ℕ)
  pub parts : pieces ≡ before ++ piece ∷ after
  pub came : Split
  pub splits : IsSplit limit (OnFrom first_id) (flat_map (λ piece. piece) before) came
  pub no_fault : ¬ IsFault came.rest
  pub read : List Payload
  pub at_least : length came.payloads ≤ length read
  pub stops : StopsAfter c first_id limit (flat_map (λ piece. piece) before ++ piece) read answer

-- Behind what was read, the payloads still to come and the rest after them decide this answer, as far
-- as they can be numbered.
abbrev pub NumberedPayloadsDecide : ReplySoFar → List Payload → Rest → Answer → Type 0
NumberedPayloadsDecide (GoingOn s) payloads rest answer =
    PayloadsDecide (GoingOn s) (numbered s.count payloads) (after_numbered s.count payloads rest) answer
NumberedPayloadsDecide (Answered known) payloads rest answer = answer ≡ known

-- Any bytes have an answer.
abbrev pub AnyBytesHaveAnswer : Type 0
AnyBytesHaveAnswer = (c : Context) (first_id limit : ℕ) (bytes : List ℕ) → AreBytes bytes →
    (answer : Answer) × IsReplyOf c first_id limit bytes answer

-- Two cuttings of the same bytes have equal answers.
abbrev pub CuttingsAgree : Type 0
CuttingsAgree = (c : Context) (first_id limit : ℕ) (pieces others : List (List ℕ)) (a b : Answer) →
    AreBytes (flat_map (λ piece. piece) pieces) →
    flat_map (λ piece. piece) pieces ≡ flat_map (λ piece. piece) others →
    IsReplyOf c first_id limit (flat_map (λ piece. piece) pieces) a →
    IsReplyOf c first_id limit (flat_map (λ piece. piece) others) b → a ≡ b
