-- Words of the reader's own body, which no public call's clause has: what the code holds of a
-- reply, as the reply so far. MySQL: Client/Server Protocol, "COM_QUERY Response" and "MySQL
-- Packets".
use Rattle.std.specs.Prelude.{◌≡◌, ℕ, ◌<◌, ◌+◌, List, [], ◌∷◌, ◌++◌, length, map, Bool, true, false, Option, Some, None}
use Rattle.std.specs.Prelude.{Result, Err, Vec}
use Rattle.std.specs.Prelude.{vec_len, vec_capacity}
use Rattle.std.specs.declared.alloc.Global.{Global}
use Rattle.mysql_server_packets.specs.Views.{progress_report_view}
use Rattle.mysql_wire.specs.Codec.{Codec, CanGoOn, IsBetween, held, packet_number}
use Rattle.mysql_wire.specs.Incoming.{Incoming, codec_by}
use Rattle.mysql_wire.specs.Stream.{Rest, IsRest, IsFault}
use Rattle.mysql_wire.specs.Stream.Rest.{Empty}
use Rattle.mysql_wire.specs.Bytes.{AreBytes}
use Rattle.mysql_wire.specs.Laws.{FramingComesFirst, HasOneSplit}
use Rattle.mysql_wire.specs.GoingOn.{BetweenHoldsSrc, PieceIsHeld, ReaderTakes, ReaderWaits, RefusalWasDecided}
use Rattle.mysql_wire.specs.declared.codec.PacketCodecError.{PacketCodecError}
use Rattle.mysql_wire.specs.declared.codec.PacketCodecError.TheVariants.{PacketTooLarge, PacketsOutOfSync}
use Rattle.mysql_replies.specs.declared.fault.ReplyFault.{ReplyFault}
use Rattle.mysql_replies.specs.declared.fault.ReplyFault.TheVariants.{TooLarge, OutOfSync, Memory}
use Rattle.mysql_replies.specs.declared.results.ReplyResult.{ReplyResult}
use Rattle.mysql_columns.specs.Columns.{ColumnDefinition}
use Rattle.mysql_reply_events.specs.Events as events
use Rattle.mysql_reply_events.specs.declared.context.ReplyKind.{ReplyKind}
use Rattle.mysql_reply_events.specs.declared.context.ReplyKind.TheVariants.{FieldList, Fetch}
use Rattle.mysql_replies.specs.declared.state.ReplyState.{ReplyState}
use Rattle.mysql_replies.specs.Together as together
use Rattle.mysql_replies.specs.Together.{NoPart, RowsPart, SetPart, listed}
use Rattle.mysql_replies.specs.Reply.{Answer, PayloadsDecide, OpenReply, Payload, ReplySoFar, GoingOn, Answered}
use Rattle.mysql_replies.specs.Reply.{End, FaultAt, end_behind, faulted_at, is_over}
use Rattle.mysql_replies.specs.Bytes.{NumberedPayloadsDecide}
use Rattle.mysql_replies.specs.Holding.{ReaderState}
use Rattle.mysql_replies.specs.Taking.{rows_awaited}
use Rattle.mysql_replies.specs.Views.{outcome_views, part_view}

-- The reply so far, as its parts hold it.
abbrev pub open_reply : ReplyState → OpenReply
open_reply s = record {
  context = s.events.context;
  so_far = s.events.so_far;
  results = outcome_views s.results.items;
  progress = map progress_report_view s.progress.items;
  part = part_view s.part;
  count = s.count;
}

abbrev pub faulted : OpenReply → Option ReplyFault → ReplySoFar
faulted s None = GoingOn s
faulted s (Some fault) = Answered (faulted_at s fault)

-- The reply so far: it goes on, or has its answer with a fault.
abbrev pub reply_so_far : ReplyState → ReplySoFar
reply_so_far s = faulted (open_reply s) s.fault

-- What there is of a result can be listed without growing the list.
abbrev pub HasRoom : together.Part → Vec ReplyResult Global → Type 0
HasRoom part results = 0 < length (listed part) → vec_len results < vec_capacity results

-- Where there is anything to hand out, a list with room can take its place.
abbrev pub HasSpare : together.Part → Vec ReplyResult Global → Vec ReplyResult Global → Type 0
HasSpare part results spare =
    0 < length (listed part) → 0 < length results.items + length (rows_awaited part) →
    vec_len spare < vec_capacity spare

-- There are rows so far under these columns.
abbrev pub IsRowsPart : List ColumnDefinition → together.Part → Type 0
IsRowsPart columns (RowsPart these rows) = these ≡ columns
IsRowsPart columns part = ⊥

-- There is a result set whose rows are read so.
abbrev pub IsSetPart : Bool → together.Part → Type 0
IsSetPart known (SetPart found) = found ≡ known
IsSetPart known part = ⊥

abbrev pub IsNoPart : together.Part → Type 0
IsNoPart NoPart = Unit {0}
IsNoPart part = ⊥

-- Before a result nothing came of one. Of a fetch whose columns stand rows are due at once.
abbrev pub FitsFirst : ReplyKind → Option (List ColumnDefinition) → together.Part → Type 0
FitsFirst Fetch (Some columns) part = IsRowsPart columns part
FitsFirst Fetch None part = Unit {0}
FitsFirst FieldList columns part = Unit {0}
FitsFirst kind columns part = IsNoPart part

-- What there is of a result fits what is awaited of it.
abbrev pub FitsAt : ReplyKind → events.Awaited → Option (List ColumnDefinition) → together.Part → Type 0
FitsAt kind events.First columns part = FitsFirst kind columns part
FitsAt kind (events.Columns events.ResultSet n earlier) columns part = IsSetPart true part
FitsAt kind (events.ColumnsEnd events.ResultSet known) columns part = IsSetPart known part
FitsAt kind (events.Rows true) (Some columns) part = IsRowsPart columns part
FitsAt kind awaited columns part = Unit {0}

abbrev pub Fits : OpenReply → Type 0
Fits s = FitsAt s.context.kind s.so_far.awaited s.so_far.columns s.part

-- What every state keeps.
pub record IsReading (s : ReplyState) : Type 0 where
  pub no_fault : s.fault ≡ None → s.events.fault ≡ None
  pub fits : s.fault ≡ None → Fits (open_reply s)
  pub room : HasRoom (part_view s.part) s.results
  pub spared : HasSpare (part_view s.part) s.results s.spare
  pub empty : s.spare.items ≡ []

-- The fact holds where memory didn't run out.
abbrev pub UnlessMemory : {X : Type 0} → Result X ReplyFault → Type 0 → Type 0
UnlessMemory (Err Memory) P = Unit {0}
UnlessMemory r P = P

-- The fact holds where memory ran out.
abbrev pub OnMemory : {X : Type 0} → Result X ReplyFault → Type 0 → Type 0
OnMemory (Err Memory) P = P
OnMemory r P = Unit {0}

-- The state after a payload decides, over all that is still to come, what was decided before over the payload
-- followed by that.
abbrev pub StateGoesOn : ReplyState → Payload → ReplyState → Type 0
StateGoesOn before payload after = (z : List Payload) (rest : Rest) (answer : Answer) →
    PayloadsDecide (reply_so_far after) z rest answer → PayloadsDecide (reply_so_far before) (payload ∷ z) rest answer

-- The state after a payload decides so as far as the payloads can be numbered.
abbrev pub NumberedStateGoesOn : ReplyState → Payload → ReplyState → Type 0
NumberedStateGoesOn before payload after = (z : List Payload) (rest : Rest) (answer : Answer) →
    NumberedPayloadsDecide (reply_so_far after) z rest answer →
    NumberedPayloadsDecide (reply_so_far before) (payload ∷ z) rest answer

-- Where memory ran out over a payload, all that was listed is the answer, with that fault.
abbrev pub IsShortOf : ReplyState → ReplyState → Type 0
IsShortOf before after = reply_so_far after ≡ Answered (faulted_at (open_reply before) Memory)

-- Nothing more of the server is awaited.
abbrev pub IsOver : ReplyState → Type 0
IsOver s = is_over s.events.so_far.awaited ≡ true

-- More of the server is awaited.
abbrev pub IsAwaiting : ReplyState → Type 0
IsAwaiting s = is_over s.events.so_far.awaited ≡ false

abbrev pub end_of_state : OpenReply → Option ReplyFault → End
end_of_state s None = end_behind (is_over s.so_far.awaited) s.count Empty
end_of_state s (Some fault) = FaultAt s.count fault

-- The answer where no more bytes come.
abbrev pub answer_of : ReplyState → Answer
answer_of s = record {
  results = outcome_views s.results.items ++ listed (part_view s.part);
  progress = map progress_report_view s.progress.items;
  end = end_of_state (open_reply s) s.fault;
}

-- What a reader with this codec, src and dst holds.
abbrev pub reader_state_of : ReplyState → Codec → List ℕ → List ℕ → ReaderState
reader_state_of s codec src dst =
    record {
      so_far = reply_so_far s;
      limit = codec.limit;
      number =
          packet_number codec dst;
      bytes = held codec src dst;
    }

-- What a reader with these parts holds.
abbrev pub reader_state : ReplyState → Incoming → ReaderState
reader_state s packets = reader_state_of s (codec_by packets) packets.bytes []

-- After the last result nothing of a packet was begun.
abbrev pub NothingBegun : ReplyState → Codec → List ℕ → Type 0
NothingBegun s codec dst = IsOver s → IsBetween codec × (codec.number < 256) × (dst ≡ [])

-- What the parts of a reader keep where no fault was met: no payload stands whole in what is held, and no fault.
pub record IsPaused (s : ReplyState) (codec : Codec) (src dst : List ℕ) : Type 0 where
  pub refused : codec.refused ≡ None
  pub can_go_on : CanGoOn codec dst
  pub rest : Rest
  pub no_fault : ¬ IsFault rest
  pub is_rest : IsRest codec.limit (packet_number codec dst) (held codec src dst) rest
  pub bytes : AreBytes (held codec src dst)
  pub nothing_begun : NothingBegun s codec dst
  pub over : IsOver s → rest ≡ Empty

pub record IsReceiving (s : ReplyState) (codec : Codec) (src dst : List ℕ) : Type 0 where
  pub reading : IsReading s
  pub paused : s.fault ≡ None → IsPaused s codec src dst

-- What a codec's error means for a reply; it answers no other than these three.
abbrev pub fault_named : PacketCodecError → ReplyFault
fault_named PacketTooLarge = TooLarge
fault_named PacketsOutOfSync = OutOfSync
fault_named error = Memory

-- The laws of framing that a reader rests on.
pub record FramingLaws : Type 0 where
  pub first : FramingComesFirst
  pub one : HasOneSplit
  pub between : BetweenHoldsSrc
  pub piece : PieceIsHeld
  pub takes : ReaderTakes
  pub waits : ReaderWaits
  pub refused : RefusalWasDecided
