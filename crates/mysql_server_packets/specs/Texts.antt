-- The texts of errors and of progress reports, as they are shown.
use Rattle.std.specs.Prelude.{ℕ, ◌/◌, ◌%◌, List, ◌++◌, codes, Option, Some, None}
use Rattle.std.specs.Fmt.{decimal}
use Rattle.mysql_fields.specs.Texts.{lossy_text}
use Rattle.mysql_server_packets.specs.Packets.{Error, ErrPacket, Progress, ProgressReport, ServerError}

-- An error's code, its state in brackets, where it has one, and its message.
abbrev pub error_text : ℕ → Option (List ℕ) → List ℕ → List ℕ
error_text code None message = codes "ERROR " ++ decimal code ++ codes ": " ++ lossy_text message
error_text code (Some state) message = codes "ERROR " ++ decimal code ++ codes " (" ++
    lossy_text state ++ codes "): " ++ lossy_text message

abbrev pub server_error_text : ServerError → List ℕ
server_error_text e = error_text e.error_code e.sql_state e.error_message

-- Thousandths of a percent as percents, of whose decimals two are shown.
abbrev pub share_text : ℕ → List ℕ
share_text n = decimal (n / 1000) ++ codes "." ++ decimal (n / 100 % 10) ++ decimal (n / 10 % 10)

-- The stage, how many there are, the stage's name and the share of it that is done.
abbrev pub progress_report_text : ProgressReport → List ℕ
progress_report_text r =
    codes "Stage: " ++ decimal r.stage ++ codes " of " ++ decimal r.max_stage ++ codes " '" ++
    lossy_text r.progress_info ++ codes "'  " ++ share_text r.progress
    ++ codes "% of stage done"

abbrev pub err_packet_text : ErrPacket → List ℕ
err_packet_text (Error e) = server_error_text e
err_packet_text (Progress r) = progress_report_text r
