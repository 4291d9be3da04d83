-- What the changes of a session's state hold, apart from where their bytes lie.
-- (MySQL: Client/Server Protocol, "OK_Packet", 'Session State Information'.)
use Rattle.std.specs.Prelude.{List, map, ℕ}
use Rattle.std.specs.Cow.{cow_slice_items}
use Rattle.mysql_ok_packets.specs.SessionStates as content
use Rattle.mysql_ok_packets.specs.SessionStates.{Change, State, Variable}
use Rattle.mysql_ok_packets.specs.declared.change.SessionStateChange.{SessionStateChange}
use Rattle.mysql_ok_packets.specs.declared.change.SessionStateChange.TheVariants as told
use Rattle.mysql_ok_packets.specs.declared.info.SessionStateInfo.{SessionStateInfo}
use Rattle.mysql_ok_packets.specs.declared.members.Gtids.{Gtids}
use Rattle.mysql_ok_packets.specs.declared.members.StateText.{StateText}
use Rattle.mysql_ok_packets.specs.declared.variable.SystemVariable.{SystemVariable}

abbrev pub gtids_view : Gtids → List ℕ
gtids_view gtids = cow_slice_items gtids.0

abbrev pub text_view : {type : ℕ} → StateText type → List ℕ
text_view text = cow_slice_items text.0

abbrev pub variable_view : SystemVariable → Variable
variable_view v = record { name = cow_slice_items v.name; value = cow_slice_items v.value }

abbrev pub change_view : SessionStateChange → Change
change_view (told.IsTracked tracked) = content.IsTracked tracked
change_view (told.Schema schema) = content.Schema (text_view schema)
change_view (told.SystemVariables all) = content.SystemVariables (map variable_view all.items)
change_view (told.Gtids gtids) = content.Gtids (gtids_view gtids)
change_view (told.TransactionCharacteristics statements) =
    content.TransactionCharacteristics (text_view statements)
change_view (told.TransactionState letters) = content.TransactionState (text_view letters)
change_view (told.Unsupported bytes) = content.Unsupported (text_view bytes)

abbrev pub state_view : SessionStateInfo → State
state_view info = record { data_type = info.data_type; content = cow_slice_items info.data }
