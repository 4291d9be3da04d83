-- What an answer unfolds to compute on bytes that are written out.
use Rattle.std.specs.Prelude.{⊤}
use Rattle.bitflags.proofs.OnLiterals.{bitflags_on_literals}
use Rattle.mysql_buf.specs.Reading.{first}
use Rattle.mysql_cells.specs.Cells.{cell_at}
use Rattle.mysql_executions.specs.Unclear.{first_unclear}
use Rattle.mysql_login.specs.ChangedUsers.{change_in_force_at, database_and_last_at, last_fields_at}
use Rattle.mysql_execution_writer.specs.Cells.{are_parameters, parameters_bytes}
use Rattle.mysql_execution_writer.specs.Written.{can_be_put, execution_bytes}
use Rattle.mysql_ok_packets.specs.Written.{eof_bytes, info_bytes, ok_packet_bytes}
use Rattle.mysql_stmt.specs.Executions.{null_bitmap, null_bits}

unfoldable pub executions_on_literals : ⊤
unfolding can_be_put are_parameters execution_bytes parameters_bytes null_bitmap null_bits
executions_on_literals = tt

unfoldable pub packets_on_literals : ⊤
unfolding ok_packet_bytes info_bytes eof_bytes
packets_on_literals = tt

unfoldable pub cells_on_literals : ⊤
unfolding first cell_at first_unclear
cells_on_literals = tt

unfoldable pub changes_of_user_on_literals : ⊤
unfolding first change_in_force_at database_and_last_at last_fields_at bitflags_on_literals
changes_of_user_on_literals = tt
