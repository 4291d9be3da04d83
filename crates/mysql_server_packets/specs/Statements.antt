-- The laws of the packets: what was written is read again.
use Rattle.std.specs.Prelude.{◌≡◌, ℕ, List, [], ◌++◌, length, Bool, Ok}
use Rattle.mysql_server_packets.specs.Packets.{IsServerError, ServerError, server_error, server_error_at, IsPrepareOk}
use Rattle.mysql_server_packets.specs.Packets.{IsProgressReport, PrepareOk, ProgressReport, local_infile}
use Rattle.mysql_server_packets.specs.Packets.{local_infile_at}
use Rattle.mysql_server_packets.specs.Packets.{prepare_ok, prepare_ok_at, progress_body, progress_body_at, sql_state}
use Rattle.mysql_server_packets.specs.Packets.{sql_state_at}

-- whatever follows
abbrev pub StatesReadBack : Type 0
StatesReadBack = (state rest : List ℕ) → length state ≡ 5 → sql_state_at (sql_state state ++ rest) ≡ Ok (state, rest)

abbrev pub ReportsReadBack : Type 0
ReportsReadBack = (r : ProgressReport) (rest : List ℕ) → IsProgressReport r →
    progress_body_at (progress_body r ++ rest) ≡ Ok (r, rest)

abbrev pub StatementsReadBack : Type 0
StatementsReadBack = (s : PrepareOk) (rest : List ℕ) → IsPrepareOk s →
    prepare_ok_at (prepare_ok s ++ rest) ≡ Ok (s, rest)

-- with nothing following
abbrev pub ErrorsReadBack : Type 0
ErrorsReadBack = (protocol : Bool) (code : ℕ) (e : ServerError) → IsServerError protocol code e →
    server_error_at protocol code (server_error e) ≡ Ok (e, [])

abbrev pub FileRequestsReadBack : Type 0
FileRequestsReadBack = (name : List ℕ) → local_infile_at (local_infile name) ≡ Ok (name, [])
