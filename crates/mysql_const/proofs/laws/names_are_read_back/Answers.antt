use Rattle.mysql_const.proofs.Numbers.{commands_are_a_table, column_types_are_a_table, bulk_indicators_are_a_table}
use Rattle.mysql_const.proofs.Numbers.{session_states_are_a_table, geometries_are_a_table, item_results_are_a_table}
use Rattle.mysql_const.proofs.laws.names_are_read_back.Goals as goal

pub returns-clause-commands : goal.returns-clause-commands
returns-clause-commands c = commands_are_a_table

pub returns-clause-column_types : goal.returns-clause-column_types
returns-clause-column_types c = column_types_are_a_table

pub returns-clause-bulk_indicators : goal.returns-clause-bulk_indicators
returns-clause-bulk_indicators c = bulk_indicators_are_a_table

pub returns-clause-session_states : goal.returns-clause-session_states
returns-clause-session_states c = session_states_are_a_table

pub returns-clause-geometries : goal.returns-clause-geometries
returns-clause-geometries c = geometries_are_a_table

pub returns-clause-item_results : goal.returns-clause-item_results
returns-clause-item_results c = item_results_are_a_table
