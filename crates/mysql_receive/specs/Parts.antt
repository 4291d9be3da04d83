-- Words of the receiver's own body, which no public call's clause has: what its parts stand for,
-- and what is true of them. MySQL: Client/Server Protocol, "MySQL Packets" and "Command Phase".
use Rattle.std.specs.Prelude.{◌≡◌, ℕ, Bool, List, [], Option, Some, None, Result, Ok, Err, OnOk, OnErr}
use Rattle.std.specs.Prelude.{if◌then◌else◌}
use Rattle.mysql_wire.specs.Bytes.{AreBytes}
use Rattle.mysql_wire.specs.Incoming.{Incoming, codec_by}
use Rattle.mysql_wire.specs.Reader.{HasRead}
use Rattle.mysql_wire.specs.Stream.{Rest, IsRest, IsFault}
use Rattle.mysql_wire.specs.Stream.Numbering.{EachFromZero}
use Rattle.mysql_wire.specs.declared.codec.PacketCodecError.{PacketCodecError}
use Rattle.mysql_wire.specs.declared.codec.PacketCodecError.TheVariants as codec_error
use Rattle.mysql_receive.specs.declared.fault.StreamFault.{StreamFault}
use Rattle.mysql_receive.specs.declared.fault.StreamFault.TheVariants.{TooLarge, OutOfSync, Memory}
use Rattle.mysql_receive.specs.declared.read_error.ReadError.{ReadError}
use Rattle.mysql_receive.specs.declared.read_error.ReadError.TheVariants as read_error
use Rattle.mysql_receive.specs.declared.progress.Progress.{Progress}
use Rattle.mysql_receive.specs.declared.audit.End.{End}
use Rattle.mysql_receive.specs.declared.audit.End.TheVariants as ends
use Rattle.mysql_receive.specs.InForce.{is_waiting}
use Rattle.mysql_receive.specs.Query.{Statement}
use Rattle.mysql_receive.specs.GoingOn.{ReceiverState, Fed}
use Rattle.mysql_receive.specs.Views.{state_of, sets_of}

-- what came of a packet begins one of a command stream, if it is anything, and bytes to come can still make that whole
pub record IsOpen (r : Incoming) : Type 0 where
  pub reading : HasRead r.limit EachFromZero r.bytes [] (codec_by r) r.bytes []
  pub number : r.number ≡ 0
  pub bytes : AreBytes r.bytes
  pub rest : Rest
  pub no_fault : ¬ IsFault rest
  pub is_rest : IsRest r.limit 0 r.bytes rest

-- the refusal that a codec's error is
abbrev pub read_error_by : PacketCodecError → ReadError
read_error_by (codec_error.Io _) = read_error.Memory
read_error_by codec_error.PacketTooLarge = read_error.Fault TooLarge
read_error_by codec_error.PacketsOutOfSync = read_error.Fault OutOfSync
read_error_by codec_error.Memory = read_error.Memory

-- the fault that an error is
abbrev pub fault_from : ReadError → StreamFault
fault_from read_error.Memory = Memory
fault_from (read_error.Fault f) = f

-- the fault that a reading ends with
abbrev pub fault_by : Result (Unit {0}) ReadError → Option StreamFault
fault_by (Ok done) = None
fault_by (Err r) = Some (fault_from r)

-- what a progress holds, with these open bytes and this fault
abbrev pub state_of_parts : Progress → List ℕ → Option StreamFault → ReceiverState
state_of_parts p partial fault =
    record {
      count = p.count;
      state = state_of p.state;
      partial = partial;
      sets =
          sets_of p.sets.items;
      fault = fault;
    }

-- The reading of a piece: what it leaves in place of the bytes, and whether bytes to come can make
-- what is held of a packet whole. Behind a fault no bytes are held.
pub record ReadsPiece (statement : Statement) (packets : Incoming) (progress : Progress)
    (piece : List ℕ) (new_packets : Incoming) (new_progress : Progress)
    (result : Result (Unit {0}) ReadError) : Type 0 where
  pub fed : Fed statement packets.limit (state_of_parts progress packets.bytes None) piece
      (state_of_parts new_progress new_packets.bytes (fault_by result))
  pub is_open : OnOk result (IsOpen new_packets)
  pub stopped : OnErr result (new_packets.bytes ≡ [])
  pub limit : new_packets.limit ≡ packets.limit

-- the end as things stand: the fault, else by whether long data waits and whether a packet was begun
abbrev pub end_by : Statement → ReceiverState → Bool → Option StreamFault → End
end_by statement held begun (Some f) = ends.Fault held.count f
end_by statement held begun None = if is_waiting statement held.state then ends.WaitingPieces else if begun then
    ends.UnfinishedPacket else ends.Whole
