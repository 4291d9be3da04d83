-- What a reader of a reply holds, and what that decides over the bytes still to come.
-- MySQL: Client/Server Protocol, "MySQL Packets" and "COM_QUERY Response".
use Rattle.std.specs.Prelude.{◌≡◌, ℕ, ◌+◌, List, [], ◌++◌, length, Option, Some, None}
use Rattle.mysql_wire.specs.Bytes.{AreBytes}
use Rattle.mysql_wire.specs.Reader.{StandFirst}
use Rattle.mysql_wire.specs.Stream as stream
use Rattle.mysql_wire.specs.Stream.{Rest, Split, IsSplit, IsFault, first_number, after_all}
use Rattle.mysql_wire.specs.Stream.Numbering.{OnFrom}
use Rattle.mysql_reply_events.specs.declared.context.Context.{Context}
use Rattle.mysql_replies.specs.declared.fault.ReplyFault.{ReplyFault}
use Rattle.mysql_replies.specs.declared.fault.ReplyFault.TheVariants.{Memory}
use Rattle.mysql_replies.specs.Reply.{Answer, End, FaultAt, Payload, Unfinished, ReplySoFar, GoingOn, Answered, fresh}
use Rattle.mysql_replies.specs.Bytes.{NumberedPayloadsDecide, IsReplyOf}

-- What is held: the reply so far, and the bytes of the packet that hasn't come whole, with the number
-- of its first chunk and the limit.
pub record ReaderState : Type 0 where
  pub so_far : ReplySoFar
  pub limit : ℕ
  pub number : ℕ
  pub bytes : List ℕ

-- What a fresh reader holds.
abbrev pub fresh_reader : Context → ℕ → ℕ → ReaderState
fresh_reader c first_id limit = record { so_far = fresh c; limit = limit; number = first_id; bytes = [] }

-- Behind what was read, these bytes, numbered on from this number, decide this answer.
pub record BytesDecide (s : ReplySoFar) (limit number : ℕ) (bytes : List ℕ) (answer : Answer) : Type 0 where
  pub split : Split
  pub splits : IsSplit limit (OnFrom number) bytes split
  pub decides : NumberedPayloadsDecide s split.payloads split.rest answer

abbrev pub ReaderDecidesFrom : ReplySoFar → ReaderState → List ℕ → Answer → Type 0
ReaderDecidesFrom (GoingOn s) reader more answer =
    BytesDecide (GoingOn s) reader.limit reader.number (reader.bytes ++ more) answer
ReaderDecidesFrom (Answered known) reader more answer = answer ≡ known

-- What is held and the bytes still to come decide this answer.
abbrev pub ReaderDecides : ReaderState → List ℕ → Answer → Type 0
ReaderDecides reader more answer = ReaderDecidesFrom reader.so_far reader more answer

-- What is held after a piece decides, over all bytes still to come, what was decided before over the piece and these.
abbrev pub ReaderGoesOn : ReaderState → List ℕ → ReaderState → Type 0
ReaderGoesOn old piece new = (more : List ℕ) (answer : Answer) → AreBytes more →
    ReaderDecides new more answer → ReaderDecides old (piece ++ more) answer

-- The fault that was met.
abbrev pub fault_of_end : End → Option ReplyFault
fault_of_end (FaultAt count fault) = Some fault
fault_of_end end = None

abbrev pub fault_of : ReplySoFar → Option ReplyFault
fault_of (GoingOn s) = None
fault_of (Answered answer) = fault_of_end answer.end

-- No fault was found in what is held: the answer that it decides over no more bytes ends without one.
abbrev pub HasFoundNoFault : ReaderState → Type 0
HasFoundNoFault reader = (answer : Answer) → ReaderDecides reader [] answer → fault_of_end answer.end ≡ None

-- How many payloads were read.
abbrev pub count_of_end : End → ℕ
count_of_end (FaultAt count fault) = count
count_of_end end = 0

abbrev pub count_of : ReplySoFar → ℕ
count_of (GoingOn s) = s.count
count_of (Answered answer) = count_of_end answer.end

-- Once these bytes are held: each payload of theirs that stands whole was read, and what is held then is what is left
-- of them, no whole payload and no fault.
pub record TakesAll (old : ReaderState) (bytes : List ℕ) (new : ReaderState) : Type 0 where
  pub split : Split
  pub splits : IsSplit old.limit (OnFrom old.number) bytes split
  pub no_fault : ¬ IsFault split.rest
  pub left : new.bytes ≡ split.rest_bytes
  pub number : new.number ≡ first_number (after_all split.payloads (OnFrom old.number))
  pub limit : new.limit ≡ old.limit
  pub count : count_of new.so_far ≡ count_of old.so_far + length split.payloads
  pub goes_on : (payloads : List Payload) (rest : Rest) (answer : Answer) →
      NumberedPayloadsDecide new.so_far payloads rest answer →
      NumberedPayloadsDecide old.so_far (split.payloads ++ payloads) rest answer

-- Memory ran out over these bytes: the answer has the results and the reports of the payloads read
-- before and of the first payloads of the bytes, however many were read, and their number. Each of
-- them has its place, and the reply goes on behind them.
pub record RunsShort (old : ReaderState) (bytes : List ℕ) (answer : Answer) : Type 0 where
  pub read : List Payload
  pub first : StandFirst old.limit (OnFrom old.number) bytes read
  pub whole : Answer
  pub decided : NumberedPayloadsDecide old.so_far read stream.Open whole
  pub unfinished : whole.end ≡ Unfinished
  pub results : answer.results ≡ whole.results
  pub progress : answer.progress ≡ whole.progress
  pub end : answer.end ≡ FaultAt (count_of old.so_far + length read) Memory

-- Where memory ran out over these bytes, such an answer stands.
abbrev pub StandsShort : ReaderState → List ℕ → ReaderState → Type 0
StandsShort old bytes new = (answer : Answer) × (new.so_far ≡ Answered answer) × RunsShort old bytes answer

-- Whatever is held decides an answer over any bytes, and only one.
abbrev pub EachReaderDecides : Type 0
EachReaderDecides = (reader : ReaderState) (more : List ℕ) → AreBytes (reader.bytes ++ more) →
    (answer : Answer) × ReaderDecides reader more answer

abbrev pub ReadersAgree : Type 0
ReadersAgree = (reader : ReaderState) (more : List ℕ) (a b : Answer) →
    AreBytes (reader.bytes ++ more) → ReaderDecides reader more a → ReaderDecides reader more b →
    a ≡ b

-- A fresh reader decides the reply's answer.
abbrev pub FreshReaderDecides : Type 0
FreshReaderDecides = (c : Context) (first_id limit : ℕ) (bytes : List ℕ) (answer : Answer) →
    ReaderDecides (fresh_reader c first_id limit) bytes answer → IsReplyOf c first_id limit bytes answer
