-- What values of the crate's types stand for.
use Rattle.mysql_session_modes.specs.Told.{Told}
use Rattle.mysql_session_modes.specs.Told.Told.{Nothing, Unreadable, Value}
use Rattle.mysql_session_modes.specs.declared.told.Told.{Told as Held}
use Rattle.mysql_session_modes.specs.declared.told.Told.TheVariants as held

abbrev pub told_view : Held → Told
told_view held.Nothing = Nothing
told_view (held.Value value) = Value value.now
told_view held.Unreadable = Unreadable
