-- Words of the reader's own body, which no public call's clause has: what a piece of the bytes leads to.
-- MySQL: Client/Server Protocol, "MySQL Packets" and "COM_QUERY Response".
use Rattle.std.specs.Prelude.{◌≡◌, ℕ, List, [], ◌++◌, Some, None, Result, OnOk, IfErr}
use Rattle.mysql_wire.specs.Incoming.{Incoming, codec_by}
use Rattle.mysql_replies.specs.declared.fault.ReplyFault.{ReplyFault}
use Rattle.mysql_replies.specs.declared.state.ReplyState.{ReplyState}
use Rattle.mysql_replies.specs.Holding.{ReaderGoesOn, StandsShort, TakesAll}
use Rattle.mysql_replies.specs.States.{IsPaused, IsReading, OnMemory, UnlessMemory, reader_state}

-- A reader that waits for bytes: no fault was met, and no payload stands whole in what it holds.
pub record IsWaiting (s : ReplyState) (packets : Incoming) : Type 0 where
  pub reading : IsReading s
  pub going : s.fault ≡ None
  pub paused : IsPaused s (codec_by packets) packets.bytes []

-- Each payload that the piece makes whole is taken; or a fault is met; or memory runs out.
pub record TakesPiece (s : ReplyState) (packets : Incoming) (piece : List ℕ)
    (r : Result (Unit {0}) ReplyFault) (after : ReplyState) (later : Incoming) : Type 0 where
  pub reading : IsReading after
  pub paused : OnOk r ((after.fault ≡ None) × IsPaused after (codec_by later) later.bytes [])
  pub fault : IfErr r (λ fault. after.fault ≡ Some fault)
  pub took : OnOk r (TakesAll (reader_state s packets) ((reader_state s packets).bytes ++ piece)
      (reader_state after later))
  pub goes_on : UnlessMemory r (ReaderGoesOn (reader_state s packets) piece (reader_state after later))
  pub short : OnMemory r (StandsShort (reader_state s packets) ((reader_state s packets).bytes ++ piece)
      (reader_state after later))
