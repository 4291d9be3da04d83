-- What was written of a session's state is read again.
use Rattle.std.proofs.Common.{refl}
use Rattle.mysql_fields.specs.TextLaws.{lenenc_text_at-back}
use Rattle.mysql_ok_packets.specs.Reading.{EatsBytes}
use Rattle.mysql_ok_packets.specs.SessionStates.{state_at, variable_at}
use Rattle.mysql_ok_packets.specs.StateLaws.{change_at-back, state_at-back, state_at-eats, states_at-back}
use Rattle.mysql_ok_packets.specs.StateLaws.{variable_at-back, variable_at-eats}
use Rattle.mysql_ok_packets.specs.SessionStateStatements.{ChangesReadBack, GtidsReadBack, ListsOfStatesReadBack}
use Rattle.mysql_ok_packets.specs.SessionStateStatements.{StatesReadBack, TextsReadBack, VariablesReadBack}

pub texts_read_back : TextsReadBack
texts_read_back = lenenc_text_at-back

pub gtids_read_back : GtidsReadBack
gtids_read_back set = refl

pub variables_read_back : VariablesReadBack
variables_read_back = variable_at-back

pub changes_read_back : ChangesReadBack
changes_read_back = change_at-back

pub states_read_back : StatesReadBack
states_read_back = state_at-back

pub lists_of_states_read_back : ListsOfStatesReadBack
lists_of_states_read_back = states_at-back

-- each variable and each state takes a byte at least
pub variables_eat : EatsBytes variable_at
variables_eat = variable_at-eats

pub states_eat : EatsBytes state_at
states_eat = state_at-eats
