-- Packets as values, without where they lie in memory (the packets of MySQL: Client/Server
-- Protocol, "ERR_Packet", "LOCAL INFILE Request" and "COM_STMT_PREPARE Response").
use Rattle.std.specs.Prelude.{ℕ, List, option_map}
use Rattle.std.specs.Cow.{cow_slice_items}
use Rattle.mysql_server_packets.specs.declared.err_packet.ErrPacket.{ErrPacket as ErrPacketOf}
use Rattle.mysql_server_packets.specs.declared.err_packet.ErrPacket.TheVariants as packets
use Rattle.mysql_server_packets.specs.declared.local_infile.LocalInfilePacket.{LocalInfilePacket}
use Rattle.mysql_server_packets.specs.declared.progress_report.ProgressReport.{ProgressReport as ProgressReportOf}
use Rattle.mysql_server_packets.specs.declared.progress_report.StageProgress.{StageProgress as StageProgressOf}
use Rattle.mysql_server_packets.specs.declared.server_error.ServerError.{ServerError as ServerErrorOf}
use Rattle.mysql_server_packets.specs.declared.server_error.SqlState.{SqlState}
use Rattle.mysql_server_packets.specs.declared.statement.StmtPacket.{StmtPacket}
use Rattle.mysql_server_packets.specs.Packets.{Error, ErrPacket, PrepareOk, Progress, ProgressReport, ServerError}
use Rattle.mysql_server_packets.specs.Packets.{StageProgress}

abbrev pub sql_state_view : SqlState → List ℕ
sql_state_view s = s.state

abbrev pub server_error_view : ServerErrorOf → ServerError
server_error_view p = record {
  error_code = p.code;
  sql_state =
      option_map sql_state_view p.state;
  error_message = cow_slice_items p.message;
}

abbrev pub progress_report_view : ProgressReportOf → ProgressReport
progress_report_view p = record {
  stage = p.stage;
  max_stage = p.max_stage;
  progress =
      p.progress;
  progress_info = cow_slice_items p.stage_info;
}

abbrev pub stage_progress_view : StageProgressOf → StageProgress
stage_progress_view p = record { stage = p.stage; max_stage = p.max_stage; progress = p.progress }

abbrev pub err_packet_view : ErrPacketOf → ErrPacket
err_packet_view (packets.Error error) = Error (server_error_view error)
err_packet_view (packets.Progress report) = Progress (progress_report_view report)

abbrev pub local_infile_view : LocalInfilePacket → List ℕ
local_infile_view p = cow_slice_items p.file_name

abbrev pub prepare_ok_view : StmtPacket → PrepareOk
prepare_ok_view p = record {
  statement_id = p.statement_id;
  num_columns =
      p.num_columns;
  num_params = p.num_params;
  warning_count = p.warning_count;
}
