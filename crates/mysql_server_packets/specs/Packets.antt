-- Error packets, progress reports, requests for files and statement packets, as bytes: what is
-- written of their fields, and what is read of any bytes. MySQL: Client/Server Protocol,
-- "ERR_Packet", "LOCAL INFILE Request" and "COM_STMT_PREPARE Response"; MariaDB: 'Progress report'
-- of "ERR_Packet". A reading takes bytes from the front: x.0 is what was read and x.1 the bytes
-- left; the first refusal counts.
use Rattle.std.specs.Prelude.{◌≡◌, ℕ, ◌==◌, ◌^◌, ◌<◌, List, [], ◌∷◌, length, replicate, Bool, true, false, ◌&&◌, Option}
use Rattle.std.specs.Prelude.{Some, None, Ok, if◌then◌else◌, ⊤}
use Rattle.std.specs.List.{concat}
use Rattle.byteorder.specs.Endian.{little_bytes}
use Rattle.mysql_buf.specs.Writing.{lenenc_str}
use Rattle.mysql_fields.specs.Wire.{Reading, ◌>>=◌, from_block}
use Rattle.mysql_fields.specs.Forms.{bytes_at, fixed_number_at}
use Rattle.mysql_fields.specs.Texts.{lenenc_text_at}
use Rattle.mysql_field_constants.specs.Constants.{constant_at, skipped_at}
use Rattle.mysql_const.specs.FlagSets.{contains}

-- Capabilities, by their flags.
abbrev pub protocol_41 : ℕ → Bool
protocol_41 capabilities = contains capabilities 0x200

abbrev pub progress_obsolete : ℕ → Bool
progress_obsolete capabilities = contains capabilities 0x20000000

-- An SQL state: `#` and five bytes, which are there together or not at all.
unfoldable pub sql_state : List ℕ → List ℕ
sql_state state = concat (little_bytes 1 35 ∷ state ∷ [])

unfoldable pub sql_state_fields_at : List ℕ → Reading (List ℕ)
sql_state_fields_at bytes = do
  marker ← constant_at 1 35 bytes
  bytes_at 5 marker.1

unfoldable pub sql_state_at : List ℕ → Reading (List ℕ)
sql_state_at bytes = from_block 6 sql_state_fields_at bytes

-- What a server says of an error.
pub record ServerError : Type 0 where
  pub error_code : ℕ
  pub sql_state : Option (List ℕ)
  pub error_message : List ℕ

abbrev pub state_part : Option (List ℕ) → List ℕ
state_part None = []
state_part (Some state) = sql_state state

-- An error behind its code: its state, where it has one, and its message.
unfoldable pub server_error : ServerError → List ℕ
server_error e = concat (state_part e.sql_state ∷ e.error_message ∷ [])

-- With PROTOCOL_41 an error has a state.
abbrev pub state_part_at : Bool → List ℕ → Reading (Option (List ℕ))
state_part_at protocol bytes =
    if protocol then (sql_state_at bytes >>= λ state. Ok (Some state.0, state.1)) else Ok (
      None,
      bytes,
    )

-- An error of this code; all that is left behind its state is its message.
unfoldable pub server_error_at : Bool → ℕ → List ℕ → Reading ServerError
server_error_at protocol code bytes = do
  state ← state_part_at protocol bytes
  Ok (record { error_code = code; sql_state = state.0; error_message = state.1 }, [])

-- In this protocol an error has a state, which has five bytes, or none.
abbrev pub HasState : Bool → Option (List ℕ) → Type 0
HasState true None = ⊥
HasState true (Some state) = length state ≡ 5
HasState false None = ⊤
HasState false (Some state) = ⊥

-- An error of this code, as this protocol has them.
pub record IsServerError (protocol : Bool) (code : ℕ) (e : ServerError) : Type 0 where
  pub error_code : code ≡ e.error_code
  pub sql_state : HasState protocol e.sql_state

-- The front of an error packet: ff and the code, which are there together or not at all.
unfoldable pub error_code_at : List ℕ → Reading ℕ
error_code_at bytes = do
  block ← bytes_at 3 bytes
  header ← constant_at 1 255 block.0
  code ← fixed_number_at 2 header.1
  Ok (code.0, block.1)

-- An error packet that is no progress report.
unfoldable pub error_at : ℕ → List ℕ → Reading ServerError
error_at capabilities bytes = do
  code ← error_code_at bytes
  server_error_at (protocol_41 capabilities) code.0 code.1

-- What a progress report says.
pub record ProgressReport : Type 0 where
  pub stage : ℕ
  pub max_stage : ℕ
  pub progress : ℕ
  pub progress_info : List ℕ

-- The numbers of a progress report.
pub record StageProgress : Type 0 where
  pub stage : ℕ
  pub max_stage : ℕ
  pub progress : ℕ

-- They stand behind a count of texts, of which there is one.
unfoldable pub stage_progress : StageProgress → List ℕ
stage_progress p = concat (little_bytes 1 1 ∷ little_bytes 1 p.stage ∷ little_bytes 1 p.max_stage ∷
    little_bytes 3 p.progress ∷ [])

-- The count is passed over.
unfoldable pub stage_progress_at : List ℕ → Reading StageProgress
stage_progress_at bytes = do
  count ← fixed_number_at 1 bytes
  stage ← fixed_number_at 1 count.1
  max_stage ← fixed_number_at 1 stage.1
  progress ← fixed_number_at 3 max_stage.1
  Ok (record { stage = stage.0; max_stage = max_stage.0; progress = progress.0 }, progress.1)

abbrev pub numbers_in : ProgressReport → StageProgress
numbers_in r = record { stage = r.stage; max_stage = r.max_stage; progress = r.progress }

-- A progress report behind its header and the code: six bytes with the numbers, and its text.
unfoldable pub progress_body : ProgressReport → List ℕ
progress_body r = concat (stage_progress (numbers_in r) ∷ lenenc_str r.progress_info ∷ [])

unfoldable pub progress_body_at : List ℕ → Reading ProgressReport
progress_body_at bytes = do
  block ← bytes_at 6 bytes
  numbers ← stage_progress_at block.0
  info ← lenenc_text_at block.1
  Ok (
    record {
      stage = numbers.0.stage;
      max_stage = numbers.0.max_stage;
      progress =
          numbers.0.progress;
      progress_info = info.0;
    },
    info.1,
  )

-- A progress in three bytes, and what the types of the other fields hold.
pub record IsProgressReport (r : ProgressReport) : Type 0 where
  pub stage : r.stage < 2 ^ 8
  pub max_stage : r.max_stage < 2 ^ 8
  pub progress : r.progress < 2 ^ 24
  pub progress_info : length r.progress_info < 2 ^ 64

-- A progress report, from its first byte ff on: three bytes, which its form tests (ff ff ff), and its body.
unfoldable pub progress_report_at : List ℕ → Reading ProgressReport
progress_report_at bytes = do
  header ← bytes_at 3 bytes
  progress_body_at header.1

-- An error packet holds an error or a progress report.
pub data ErrPacket : Type 0 where
  Error : ServerError → ErrPacket
  Progress : ProgressReport → ErrPacket

abbrev pub holds_error : ErrPacket → Bool
holds_error (Error e) = true
holds_error (Progress r) = false

-- ff, the code and what stands behind it; the code of a progress report is ffff.
abbrev pub err_packet : ErrPacket → List ℕ
err_packet (Error e) = concat (little_bytes 1 255 ∷ little_bytes 2 e.error_code ∷ server_error e ∷ [])
err_packet (Progress r) = concat (little_bytes 1 255 ∷ little_bytes 2 0xffff ∷ progress_body r ∷ [])

abbrev pub is_progress_code : ℕ → ℕ → Bool
is_progress_code capabilities code = code == 0xffff && progress_obsolete capabilities

abbrev pub err_body_at : ℕ → ℕ → List ℕ → Reading ErrPacket
err_body_at capabilities code bytes =
    if is_progress_code capabilities code
    then (progress_body_at bytes >>= λ report. Ok (Progress report.0, report.1))
    else (server_error_at (protocol_41 capabilities) code bytes >>= λ error. Ok (Error error.0, error.1))

-- An error packet: with PROGRESS_OBSOLETE one of the code ffff is a progress report.
unfoldable pub err_packet_at : ℕ → List ℕ → Reading ErrPacket
err_packet_at capabilities bytes = do
  code ← error_code_at bytes
  err_body_at capabilities code.0 code.1

-- The request for a file: fb and the file's name to the end.
unfoldable pub local_infile : List ℕ → List ℕ
local_infile name = concat (little_bytes 1 251 ∷ name ∷ [])

unfoldable pub local_infile_at : List ℕ → Reading (List ℕ)
local_infile_at bytes = do
  header ← constant_at 1 251 bytes
  Ok (header.1, [])

-- What a statement packet says.
pub record PrepareOk : Type 0 where
  pub statement_id : ℕ
  pub num_columns : ℕ
  pub num_params : ℕ
  pub warning_count : ℕ

-- A statement packet: 00, the id, two counts, a filler byte, the warnings.
unfoldable pub prepare_ok : PrepareOk → List ℕ
prepare_ok s =
    concat (
    little_bytes 1 0 ∷ little_bytes 4 s.statement_id ∷ little_bytes 2 s.num_columns ∷
    little_bytes 2 s.num_params ∷ replicate 1 0
    ∷ little_bytes 2 s.warning_count ∷ [])

unfoldable pub prepare_ok_fields_at : List ℕ → Reading PrepareOk
prepare_ok_fields_at bytes = do
  header ← constant_at 1 0 bytes
  id ← fixed_number_at 4 header.1
  columns ← fixed_number_at 2 id.1
  parameters ← fixed_number_at 2 columns.1
  filler ← skipped_at 1 parameters.1
  warnings ← fixed_number_at 2 filler.1
  Ok (
    record {
      statement_id = id.0;
      num_columns = columns.0;
      num_params =
          parameters.0;
      warning_count = warnings.0;
    },
    warnings.1,
  )

-- Its twelve bytes are there together or not at all.
unfoldable pub prepare_ok_at : List ℕ → Reading PrepareOk
prepare_ok_at bytes = from_block 12 prepare_ok_fields_at bytes

-- What the types of its fields hold.
pub record IsPrepareOk (s : PrepareOk) : Type 0 where
  pub statement_id : s.statement_id < 2 ^ 32
  pub num_columns : s.num_columns < 2 ^ 16
  pub num_params : s.num_params < 2 ^ 16
  pub warning_count : s.warning_count < 2 ^ 16
