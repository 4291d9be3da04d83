-- Packets have their sizes, and what was written of them is read back.
use Rattle.std.proofs.Common.{◌≡◌, ◌≤◌, ℕ, List, [], ◌∷◌, ◌++◌, length, drop, replicate, Ok, Some, refl, ap, ◌∙◌}
use Rattle.std.proofs.Common.{append-nil, length-append, arith, lit<, Bool, true, false, Option, None}
use Rattle.byteorder.specs.Endian.{little_bytes}
use Rattle.mysql_buf.specs.Writing.{lenenc_str}
use Rattle.mysql_columns.specs.ColumnLaws.{joined_before}
use Rattle.mysql_fields.specs.Forms.{bytes_at, fixed_number_at}
use Rattle.mysql_fields.specs.Laws.{bytes_at-back, bytes_at-sized, done_rest, eaten_first, eats-then, from_block-enough}
use Rattle.mysql_fields.specs.Laws.{from_block-sized, fixed_number_at-back, fixed_number_at-sized}
use Rattle.mysql_fields.specs.Wire.{IsSized}
use Rattle.mysql_fields.specs.TextLaws.{lenenc_text_at-back}
use Rattle.mysql_field_constants.specs.ConstantLaws.{constant_at-back, constant_at-sized, skipped_at-back}
use Rattle.mysql_field_constants.specs.ConstantLaws.{skipped_at-sized}
use Rattle.mysql_field_constants.specs.Constants.{constant_at, skipped_at}
use Rattle.mysql_server_packets.specs.Packets.{HasState, IsServerError, ServerError, server_error, server_error_at}
use Rattle.mysql_server_packets.specs.Packets.{state_part}
use Rattle.mysql_server_packets.specs.Packets.{state_part_at, IsPrepareOk, IsProgressReport, PrepareOk, ProgressReport}
use Rattle.mysql_server_packets.specs.Packets.{StageProgress, local_infile, local_infile_at, numbers_in, prepare_ok}
use Rattle.mysql_server_packets.specs.Packets.{prepare_ok_at, prepare_ok_fields_at, progress_body, progress_body_at}
use Rattle.mysql_server_packets.specs.Packets.{sql_state}
use Rattle.mysql_server_packets.specs.Packets.{sql_state_at, sql_state_fields_at, stage_progress, stage_progress_at}

sql_state_fields_at-eats : (bytes rest state : List ℕ) → sql_state_fields_at bytes ≡
    Ok (state, rest) → rest ≡ drop 6 bytes
unfolding sql_state_fields_at
sql_state_fields_at-eats bytes rest state e =
    eats-then 1 5 bytes _ _ rest state (eaten_first 1 (constant_at 1 35) bytes (constant_at-sized 1 35)) (λ _ a.
    eaten_first 5 (bytes_at 5) a (bytes_at-sized 5) state rest) e

pub sql_state_at-sized : IsSized (Some 6) sql_state_at
unfolding sql_state_at
sql_state_at-sized = from_block-sized 6 sql_state_fields_at sql_state_fields_at-eats

pub sql_state_at-enough : (bytes : List ℕ) → 6 ≤ length bytes → sql_state_at bytes ≡ sql_state_fields_at bytes
unfolding sql_state_at
sql_state_at-enough bytes h = from_block-enough 6 sql_state_fields_at bytes h

sql_state_fields_at-back : (state rest : List ℕ) → length state ≡ 5 →
    sql_state_fields_at (sql_state state ++ rest) ≡ Ok (state, rest)
unfolding sql_state sql_state_fields_at
sql_state_fields_at-back state rest h =
    ap sql_state_fields_at (joined_before (little_bytes 1 35 ∷ state ∷ []) rest) ∙ rw (
      constant_at-back 1 35 (state ++ rest) (lit< tt),
      bytes_at-back 5 state rest h,
    ) refl

pub sql_state_at-back : (state rest : List ℕ) → length state ≡ 5 →
    sql_state_at (sql_state state ++ rest) ≡ Ok (state, rest)
unfolding sql_state
sql_state_at-back state rest h =
    sql_state_at-enough (sql_state state ++
    rest) (omega (arith, h, length-append state [], length-append (state ++ []) rest)) ∙
    sql_state_fields_at-back state rest h

state_part_at-back : (protocol : Bool) (state : Option (List ℕ)) (rest : List ℕ) →
    HasState protocol state → state_part_at protocol (state_part state ++ rest) ≡ Ok (state, rest)
state_part_at-back true None rest h = absurd h
state_part_at-back true (Some state) rest h = rw (sql_state_at-back state rest h) refl
state_part_at-back false None rest h = refl
state_part_at-back false (Some state) rest h = absurd h

pub server_error_at-back : (protocol : Bool) (code : ℕ) (e : ServerError) (rest : List ℕ) →
    IsServerError protocol code e → rest ≡ [] →
    server_error_at protocol code (server_error e ++ rest) ≡ Ok (e, rest)
unfolding server_error server_error_at
server_error_at-back protocol code e rest h none =
    ap (server_error_at protocol code) (joined_before (state_part e.sql_state ∷ e.error_message ∷ []) rest)
    ∙ rw (
      h.error_code,
      state_part_at-back protocol e.sql_state (e.error_message ++
          rest) h.sql_state,
      none,
      append-nil e.error_message,
    ) refl

stage_progress_at-back : (r : ProgressReport) → IsProgressReport r →
    stage_progress_at (stage_progress (numbers_in r)) ≡ Ok (numbers_in r, [])
unfolding stage_progress stage_progress_at
stage_progress_at-back r h =
    let progress = little_bytes 3 r.progress in
    let max_stage = little_bytes 1 r.max_stage ++ progress in
    let stage = little_bytes 1 r.stage ++ max_stage in
    rw (
      fixed_number_at-back 1 1 stage (lit< tt),
      fixed_number_at-back 1 r.stage max_stage h.stage,
      fixed_number_at-back 1 r.max_stage progress h.max_stage,
      fixed_number_at-back 3 r.progress [] h.progress,
    ) refl

-- there are six bytes
stage_progress-length : (p : StageProgress) → length (stage_progress p) ≡ 6
unfolding stage_progress
stage_progress-length p = refl

pub progress_body_at-back : (r : ProgressReport) (rest : List ℕ) → IsProgressReport r →
    progress_body_at (progress_body r ++ rest) ≡ Ok (r, rest)
unfolding progress_body progress_body_at
progress_body_at-back r rest h =
    let info = lenenc_str r.progress_info ++ rest in
    ap progress_body_at (joined_before (stage_progress (numbers_in r) ∷ lenenc_str r.progress_info ∷ []) rest) ∙ rw (
      bytes_at-back 6 (stage_progress (numbers_in r)) info (stage_progress-length (numbers_in r)),
      stage_progress_at-back r h,
      lenenc_text_at-back r.progress_info rest h.progress_info,
    ) refl

pub local_infile_at-back : (name rest : List ℕ) → rest ≡ [] →
    local_infile_at (local_infile name ++ rest) ≡ Ok (name, rest)
unfolding local_infile local_infile_at
local_infile_at-back name rest none =
    ap local_infile_at (joined_before (little_bytes 1 251 ∷ name ∷ []) rest)
    ∙ rw (constant_at-back 1 251 (name ++ rest) (lit< tt), none, append-nil name) refl

prepare_ok_fields_at-eats : (bytes rest : List ℕ) (s : PrepareOk) → prepare_ok_fields_at bytes ≡
    Ok (s, rest) → rest ≡ drop 12 bytes
unfolding prepare_ok_fields_at
prepare_ok_fields_at-eats bytes rest s e =
    eats-then 1 11 bytes _ _ rest s (eaten_first 1 (constant_at 1 0) bytes (constant_at-sized 1 0)) (λ _ a.
    eats-then 4 7 a _ _ rest s (eaten_first 4 (fixed_number_at 4) a (fixed_number_at-sized 4)) (λ _ b.
    eats-then 2 5 b _ _ rest s (eaten_first 2 (fixed_number_at 2) b (fixed_number_at-sized 2)) (λ _ c.
    eats-then 2 3 c _ _ rest s (eaten_first 2 (fixed_number_at 2) c (fixed_number_at-sized 2)) (λ _ d.
    eats-then 1 2 d _ _ rest s (eaten_first 1 (skipped_at 1) d (skipped_at-sized 1)) (λ _ f.
    eats-then 2 0 f _ _ rest s (eaten_first 2 (fixed_number_at 2) f (fixed_number_at-sized 2))
    (λ _ g. done_rest _ s g rest)))))) e

pub prepare_ok_at-sized : IsSized (Some 12) prepare_ok_at
unfolding prepare_ok_at
prepare_ok_at-sized = from_block-sized 12 prepare_ok_fields_at prepare_ok_fields_at-eats

pub prepare_ok_at-enough : (bytes : List ℕ) → 12 ≤ length bytes → prepare_ok_at bytes ≡ prepare_ok_fields_at bytes
unfolding prepare_ok_at
prepare_ok_at-enough bytes h = from_block-enough 12 prepare_ok_fields_at bytes h

prepare_ok_fields_at-back : (s : PrepareOk) (rest : List ℕ) → IsPrepareOk s →
    prepare_ok_fields_at (prepare_ok s ++ rest) ≡ Ok (s, rest)
unfolding prepare_ok prepare_ok_fields_at
prepare_ok_fields_at-back s rest h =
    let warnings = little_bytes 2 s.warning_count ++ rest in
    let filler : List ℕ = replicate 1 0 ++ warnings in
    let parameters = little_bytes 2 s.num_params ++ filler in
    let columns = little_bytes 2 s.num_columns ++ parameters in
    let id = little_bytes 4 s.statement_id ++ columns in
    rw (
      constant_at-back 1 0 id (lit< tt),
      fixed_number_at-back 4 s.statement_id columns h.statement_id,
      fixed_number_at-back 2 s.num_columns parameters h.num_columns,
      fixed_number_at-back 2 s.num_params filler h.num_params,
      skipped_at-back 1 warnings,
      fixed_number_at-back 2 s.warning_count rest h.warning_count,
    ) refl

pub prepare_ok_at-back : (s : PrepareOk) (rest : List ℕ) → IsPrepareOk s →
    prepare_ok_at (prepare_ok s ++ rest) ≡ Ok (s, rest)
unfolding prepare_ok
prepare_ok_at-back s rest h = prepare_ok_at-enough (prepare_ok s ++ rest) (omega arith) ∙
    prepare_ok_fields_at-back s rest h
