-- What a writer takes of the bytes that are buffered for it: of packets, each of which the protocol
-- lets follow the one before at once. MySQL: Client/Server Protocol, "Protocol Basics: MySQL
-- Packets".
use Rattle.std.specs.Prelude.{◌≡◌, ◌<◌, ℕ, List, ◌++◌, length, take, Option, Result, Ok, Err}
use Rattle.std.specs.Io.KnownBytes.{Appends}
use Rattle.mysql_wire.specs.Bytes.{AreBytes}
use Rattle.mysql_command_rules.specs.declared.refusal.Refusal.{Refusal}
use Rattle.mysql_command_rules.specs.declared.send_to_error.SendToError.{SendToError}
use Rattle.mysql_command_rules.specs.declared.send_to_error.SendToError.TheVariants.{Refused, Io}

-- a writer took a front of these bytes, and not all of them
pub record TakesFront (old new : Option (List ℕ)) (bytes : List ℕ) : Type 0 where
  pub front : List ℕ
  pub back : List ℕ
  pub taken : Appends old new front
  pub parts : bytes ≡ front ++ back
  pub untaken : 0 < length back

-- it took the front of what was buffered, and the rest is left
pub record Flushes (old new : Option (List ℕ)) (buffered left : List ℕ) : Type 0 where
  pub front : List ℕ
  pub bytes : AreBytes front
  pub taken : Appends old new front
  pub parts : buffered ≡ front ++ left

-- what is sent of what was buffered: all of it, and where a set was refused what it began behind
abbrev pub whole_sets : Result (Unit {0}) Refusal → ℕ → List ℕ → List ℕ
whole_sets (Ok done) start buffered = buffered
whole_sets (Err refusal) start buffered = take start buffered

-- why a set isn't flushed: it was refused, and what stood before it is flushed; or the writer
-- failed within what is sent
abbrev pub StopsAt : Option (List ℕ) → Option (List ℕ) → Result (Unit {0}) Refusal → ℕ → ℕ →
    List ℕ → SendToError → Type 0
StopsAt old new put set start buffered (Refused refusal count) = (put ≡ Err refusal) ×
    (count ≡ set) × AreBytes (take start buffered) × Appends old new (take start buffered)
StopsAt old new put set start buffered (Io error) = AreBytes (whole_sets put start buffered) ×
    TakesFront old new (whole_sets put start buffered)
