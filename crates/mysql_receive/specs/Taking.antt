-- What is taken of a receiver between the pieces that it is fed, and how much it holds of a packet that isn't whole.
-- MySQL: Client/Server Protocol, "MySQL Packets" and "Command Phase".
use Rattle.std.specs.Prelude.{◌≡◌, ℕ, ◌+◌, ◌-◌, ◌*◌, ◌/◌, List, [], ◌∷◌, ◌++◌, Some, None, max}
use Rattle.mysql_wire.specs.Bytes.{AreBytes}
use Rattle.mysql_wire.specs.Framing.{max_payload_len}
use Rattle.mysql_receive.specs.declared.fault.StreamFault.{StreamFault}
use Rattle.mysql_receive.specs.declared.fault.StreamFault.TheVariants.{Memory}
use Rattle.mysql_receive.specs.Query.{Statement}
use Rattle.mysql_receive.specs.Reading.{Set}
use Rattle.mysql_receive.specs.Audit.{Audit}
use Rattle.mysql_receive.specs.GoingOn.{ReceiverState, fresh_receiver, ReceiverDecides, ReceiverGoesOn, TakesAll}
use Rattle.mysql_receive.specs.GoingOn.{RunsShort}

-- the same audit with these sets before its own
abbrev pub with_sets : List Set → Audit → Audit
with_sets taken a = record { sets = taken ++ a.sets; ending = a.ending }

-- What is decided over bytes still to come after sets were taken was decided before with those sets
-- first, and with the same end, which counts all payloads.
abbrev pub HandsOut : Statement → ℕ → ReceiverState → List Set → ReceiverState → Type 0
HandsOut statement limit old taken new = (z : List ℕ) (a : Audit) → ReceiverDecides statement limit new z a →
    ReceiverDecides statement limit old z (with_sets taken a)

-- the sets that stood were taken, and nothing else changed
abbrev pub TakesSets : ReceiverState → List Set → ReceiverState → Type 0
TakesSets old taken new = (taken ≡ old.sets) × (new ≡ record old { sets = [] })

-- what feeding a piece says of what is held before it and after it
pub record Feeds (statement : Statement) (limit : ℕ) (old : ReceiverState) (piece : List ℕ)
    (new : ReceiverState) : Type 0 where
  pub goes_on : (new.fault ≡ Some Memory → ⊥) → ReceiverGoesOn statement limit old piece new
  pub short : old.fault ≡ None → new.fault ≡ Some Memory → RunsShort statement limit old piece new
  pub takes : new.fault ≡ None → TakesAll statement limit old piece new
  pub stays : (f : StreamFault) → old.fault ≡ Some f → new ≡ old

-- A receiver that was new was fed these pieces, had these sets taken from it, before, between and
-- behind them in any way, and holds this.
pub data Run (statement : Statement) (limit : ℕ) : List (List ℕ) → List Set → ReceiverState → Type 0 where
  fresh : Run statement limit [] [] fresh_receiver
  feeds : {pieces : List (List ℕ)} {taken : List Set} {old new : ReceiverState} {piece : List ℕ} →
      Run statement limit pieces taken old → AreBytes piece → Feeds statement limit old piece new →
      Run statement limit (pieces ++ piece ∷ []) taken new
  takes : {pieces : List (List ℕ)} {taken more : List Set} {old new : ReceiverState} →
      Run statement limit pieces taken old → TakesSets old more new → Run statement limit pieces (taken ++ more) new

-- The most bytes that are held of a packet that isn't whole, with payloads up to the limit: all of
-- a payload's but one, or those of full chunks and three of the next one's header.
abbrev pub most_kept : ℕ → ℕ
most_kept limit = max (limit - 1) (limit / max_payload_len * max_payload_len + 3)
