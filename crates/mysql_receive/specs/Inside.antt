-- What a receiver's fields stand for, and what is true of them.
-- MySQL: Client/Server Protocol, "Command Phase".
use Rattle.std.specs.Prelude.{◌≡◌, ℕ, List, [], Option, None, map}
use Rattle.std.specs.Global.{Vec}
use Rattle.std.specs.Option.{IfSome, option_map}
use Rattle.mysql_receive.specs.declared.receiver.Receiver.TheInside.{Inside}
use Rattle.mysql_receive.specs.Query.{IsQuery}
use Rattle.mysql_receive.specs.Views.{statement_view, types_kept, sets_of}
use Rattle.mysql_receive.specs.Parts.{IsOpen}
use Rattle.mysql_receive.specs.Received.{Received}

abbrev pub long_data_of : List (Option (Vec ℕ)) → List (Option (List ℕ))
long_data_of waiting = map (λ found. option_map (λ bytes. bytes.items) found) waiting

abbrev pub received_of : Inside → Received
received_of r =
    record {
      statement = statement_view r.statement;
      limit = r.packets.limit;
      count = r.progress.count;
      prepared = r.progress.state.prepared;
      types = types_kept r.progress.state.types;
      long_data = long_data_of r.progress.state.long_data.items;
      partial = r.packets.bytes;
      sets = sets_of r.progress.sets.items;
      fault = r.fault;
    }

-- the statement's query is one; where no fault is held, bytes to come can make what is held of a
-- packet whole; after a fault no bytes are held
pub record IsKept (r : Inside) : Type 0 where
  pub query : IsQuery (statement_view r.statement).query
  pub stays : r.fault ≡ None → IsOpen r.packets
  pub stopped : IfSome r.fault (λ _. r.packets.bytes ≡ [])
