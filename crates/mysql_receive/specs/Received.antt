-- What a receiver holds, as plain data.
-- MySQL: Client/Server Protocol, "Command Phase".
use Rattle.std.specs.Prelude.{ℕ, Bool, List, Option, slice_get}
use Rattle.std.specs.Option.{option_and_then}
use Rattle.mysql_receive.specs.declared.fault.StreamFault.{StreamFault}
use Rattle.mysql_receive.specs.Layout.{Types}
use Rattle.mysql_receive.specs.Query.{Statement}
use Rattle.mysql_receive.specs.Reading.{Set}
use Rattle.mysql_receive.specs.GoingOn.{ReceiverState}

-- the statement and the limit; the payloads read, what is in force behind them, the bytes of the packet that isn't
-- whole, the sets so far, the fault
pub record Received : Type 0 where
  pub statement : Statement
  pub limit : ℕ
  pub count : ℕ
  pub prepared : Bool
  pub types : Option Types
  pub long_data : List (Option (List ℕ))
  pub partial : List ℕ
  pub sets : List Set
  pub fault : Option StreamFault

-- the data that waits for a place
abbrev pub data_in : List (Option (List ℕ)) → ℕ → Option (List ℕ)
data_in waiting place = option_and_then (λ found. found) (slice_get waiting place)

-- in place of the bytes that were fed
abbrev pub receiver_state : Received → ReceiverState
receiver_state r =
    record {
      count = r.count;
      state = record { prepared = r.prepared; types = r.types; long_data = data_in r.long_data };
      partial = r.partial;
      sets = r.sets;
      fault = r.fault;
    }
