-- The law of packets that are put. It is the contract of a function in src/laws.rt.
-- MySQL: Client/Server Protocol, "MySQL Packets" and "Sequence ID".
use Rattle.std.specs.Prelude.{◌≡◌, ◌⊎◌, ◌≤◌, ℕ, false, List, [], ◌++◌, drop, length, Ok}
use Rattle.std.specs.List.{AllByRecursion}
use Rattle.mysql_connection_rules.specs.Streams.{limit_of}
use Rattle.mysql_connection_rules.specs.declared.side.Side.{Side}
use Rattle.mysql_wire.specs.Stream.{Numbering, after_all, framings}
use Rattle.mysql_connection_machine.specs.Machines.{Machine}
use Rattle.mysql_connection_machine.specs.PuttingPackets.{PutsAll, PutsPackets}
use Rattle.mysql_connection_machine.specs.PuttingPayloads.{is_due_of}

-- The first of these payloads were put, one after another, and behind them stand the packets of those that are left,
-- numbered on. None is left, or it isn't the turn of the side.
pub record PutsSent (old : Machine) (side : Side) (payloads : List (List ℕ)) (numbering : Numbering)
    (before : List ℕ) (rest : List ℕ) (new : Machine) (behind : List ℕ) : Type 0 where
  pub taken : List (List ℕ)
  pub left : List (List ℕ)
  pub parts : payloads ≡ taken ++ left
  pub puts : PutsAll old side taken before new behind
  pub rest_is : rest ≡ framings left (after_all taken numbering)
  pub stops : (left ≡ []) ⊎ (is_due_of new side ≡ false)

-- So it is where packets are put that were sent: the framings of payloads, each within the limit of the side, numbered
-- each from 0, as `Query::send_more` numbers commands, or on from a number, as `write_reply` does.
abbrev pub SentPacketsArePut : Type 0
SentPacketsArePut = (old : Machine) (side : Side) (payloads : List (List ℕ)) (numbering : Numbering)
    (before : List ℕ) (used : ℕ) (new : Machine) (behind : List ℕ) →
    AllByRecursion (λ payload. length payload ≤ limit_of side old.world.limits) payloads →
    PutsPackets old side (framings payloads numbering) before (Ok used) new behind →
    PutsSent old side payloads numbering before (drop used (framings payloads numbering)) new behind
