-- Words of the crate's own body: an event of a reply, written by what the reply's reader awaits.
-- MySQL: Client/Server Protocol, "COM_QUERY Response".
use Rattle.std.specs.Prelude.{◌≡◌, ℕ, List, Result, Ok, Err}
use Rattle.mysql_reply_events.specs.Events.{Event}
use Rattle.mysql_reply_events.specs.Reader.{ReaderState}
use Rattle.mysql_reply_event_writer.specs.Puts.{CanBePut, IsWritten}
use Rattle.mysql_connection_writer.specs.declared.refusal.BadEvent.TheVariants.{ReadsOtherwise}
use Rattle.mysql_connection_writer.specs.declared.refusal.EventRefusal.{EventRefusal}
use Rattle.mysql_connection_writer.specs.declared.refusal.EventRefusal.TheVariants as refusals

abbrev pub PutsReply : ReaderState → Event → (old new : List ℕ) → Result (Unit {0}) EventRefusal → Type 0
PutsReply reader event old new (Ok done) = IsWritten reader event old new
PutsReply reader event old new (Err (refusals.BadEvent told)) =
    (new ≡ old) × (CanBePut reader event → ⊥) × (told ≡ ReadsOtherwise)
PutsReply reader event old new (Err refusals.Memory) = new ≡ old
