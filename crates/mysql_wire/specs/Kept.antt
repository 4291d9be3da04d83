-- Words of the reader's own body, which no public call's clause has: how its fields stand for what
-- it holds, and what is true of them. (MySQL: Client/Server Protocol, "Protocol Basics: MySQL
-- Packets".)
use Rattle.std.specs.Prelude.{◌≡◌, ◌≢◌, ◌==◌, ℕ, Bool, true, false, not, List, [], length, None}
use Rattle.std.specs.Option.{IfSome}
use Rattle.mysql_wire.specs.Codec.{Codec, CanGoOn, held, packet_number}
use Rattle.mysql_wire.specs.Stream.{Rest, IsRest, IsFault}
use Rattle.mysql_wire.specs.Incoming.{Incoming}
use Rattle.mysql_wire.specs.declared.codec.reader.PacketReader.TheInside.{Inside}

-- of a packet's bytes those that are not handed out: where a packet was begun, they are of that one
abbrev pub unfinished : Bool → List ℕ → List ℕ
unfinished true packet = packet
unfinished false packet = []

abbrev pub handed_out : Bool → List ℕ → List ℕ
handed_out true packet = []
handed_out false packet = packet

-- the bytes that came of a packet, if one was begun
abbrev pub bytes_of : Bool → Codec → List ℕ → List ℕ → List ℕ
bytes_of true codec header packet = held codec header packet
bytes_of false codec header packet = []

abbrev pub incoming_of : Inside → Incoming
incoming_of r = record {
  limit = r.codec.limit;
  number = r.number;
  bytes = bytes_of r.begun r.codec r.header r.packet.items;
  payload = handed_out r.begun r.packet.items;
  refused = r.codec.refused;
}

-- the codec goes on with the bytes of a packet that is not whole: no payload stands whole in them, and no fault
pub record Stands (codec : Codec) (header packet : List ℕ) (number : ℕ) (bytes : List ℕ) : Type 0 where
  pub goes_on : CanGoOn codec packet
  pub number_is : packet_number codec packet ≡ number
  pub held_is : held codec header packet ≡ bytes
  pub moved : codec.begun ≢ None → header ≡ []
  pub rest : Rest
  pub no_fault : ¬ IsFault rest
  pub is_rest : IsRest codec.limit number bytes rest

-- after a refusal nothing is held
pub record IsKept (r : Inside) : Type 0 where
  pub stands : r.codec.refused ≡ None →
      Stands r.codec r.header (unfinished r.begun r.packet.items) r.number
      (bytes_of r.begun r.codec r.header r.packet.items)
  pub begun : (length (bytes_of r.begun r.codec r.header r.packet.items) == 0) ≡ not r.begun
  pub refused : IfSome r.codec.refused (λ _. (r.begun ≡ false) × (r.packet.items ≡ []))
