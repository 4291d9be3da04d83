-- Packets that were written are read again.
use Rattle.std.proofs.Common.{[], append-nil, refl}
use Rattle.mysql_server_packets.specs.PacketLaws.{local_infile_at-back, prepare_ok_at-back, progress_body_at-back}
use Rattle.mysql_server_packets.specs.PacketLaws.{server_error_at-back, sql_state_at-back}
use Rattle.mysql_server_packets.specs.Statements.{ErrorsReadBack, FileRequestsReadBack, ReportsReadBack}
use Rattle.mysql_server_packets.specs.Statements.{StatementsReadBack, StatesReadBack}

pub states_read_back : StatesReadBack
states_read_back = sql_state_at-back

pub reports_read_back : ReportsReadBack
reports_read_back = progress_body_at-back

pub statements_read_back : StatementsReadBack
statements_read_back = prepare_ok_at-back

pub file_requests_read_back : FileRequestsReadBack
file_requests_read_back name = rw append-nil at (local_infile_at-back name [] refl)

pub errors_read_back : ErrorsReadBack
errors_read_back protocol code e h = rw append-nil at (server_error_at-back protocol code e [] h refl)
