-- Payloads that are put behind one another, framed.
-- MySQL: Client/Server Protocol, "MySQL Packets" and "Sequence ID".
use Rattle.std.specs.Prelude.{◌≡◌, ℕ, ◌+◌, List, [], ◌∷◌, ◌++◌, length, Option, Some, None}
use Rattle.mysql_wire.specs.Framing.{number_after}
use Rattle.mysql_wire.specs.Stream.{framings}
use Rattle.mysql_wire.specs.Stream.Numbering.{OnFrom}
use Rattle.mysql_reply_writer.specs.declared.refusal.ReplyRefusal.{ReplyRefusal}
use Rattle.mysql_reply_writer.specs.declared.refusal.ReplyRefusal.TheVariants.{Memory}
use Rattle.mysql_reply_writer.specs.Refusals.{too_large}

-- The number of the next chunk, and how many payloads were written.
pub record Place : Type 0 where
  pub number : ℕ
  pub payloads : ℕ

-- The number of the chunk behind payloads whose first chunk has this number.
abbrev pub number_behind : List (List ℕ) → ℕ → ℕ
number_behind [] number = number
number_behind (payload ∷ payloads) number = number_behind payloads (number_after payload number)

-- The place behind payloads.
abbrev pub place_behind : List (List ℕ) → Place → Place
place_behind payloads place =
    record {
      number = number_behind payloads place.number;
      payloads =
          place.payloads + length payloads;
    }

-- Payloads within this limit were put behind these bytes.
pub record Puts (room : ℕ) (old : Place) (payloads : List (List ℕ)) (new : Place) (before after : List ℕ) : Type 0 where
  pub fit : too_large room old.payloads payloads ≡ None
  pub place : new ≡ place_behind payloads old
  pub appended : after ≡ before ++ framings payloads (OnFrom old.number)

-- A refusal is the cause, or want of memory.
abbrev pub IsCause : Option ReplyRefusal → ReplyRefusal → Type 0
IsCause cause refusal = (refusal ≡ Memory → ⊥) → cause ≡ Some refusal

abbrev pub RefusesPayloads : ℕ → Place → List (List ℕ) → ReplyRefusal → Type 0
RefusesPayloads room old payloads refusal = IsCause (too_large room old.payloads payloads) refusal
