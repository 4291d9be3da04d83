-- How a receiver of a query begins, and why none is made.
-- MySQL: Client/Server Protocol, "Command Phase".
use Rattle.std.specs.Prelude.{◌≡◌, ◌⊎◌, ℕ, true}
use Rattle.mysql_values.specs.Queries.{HasMixed}
use Rattle.mysql_values.specs.Sql.{Sql}
use Rattle.mysql_receive.specs.declared.receiver.ReceiverError.{ReceiverError}
use Rattle.mysql_receive.specs.declared.receiver.ReceiverError.TheVariants as receiver_error
use Rattle.mysql_receive.specs.Audit.{IsAbout}
use Rattle.mysql_receive.specs.GoingOn.{fresh_receiver}
use Rattle.mysql_receive.specs.Received.{Received, receiver_state}

-- it is about the query and this id, takes payloads up to the limit, and was fed nothing
pub record IsFresh (query : Sql) (id limit : ℕ) (receiver : Received) : Type 0 where
  pub about : IsAbout receiver.statement query id
  pub limit_is : receiver.limit ≡ limit
  pub fresh : receiver_state receiver ≡ fresh_receiver

-- the query has both kinds of placeholder, or memory ran out
abbrev pub IsReceiverError : Sql → ReceiverError → Type 0
IsReceiverError query error = (error ≡ receiver_error.Memory) ⊎
    ((error ≡ receiver_error.Mixed) × HasMixed query true)
