-- OK and EOF packets, as read from their payloads.
-- MySQL: Client/Server Protocol, "OK_Packet" and "EOF_Packet".
-- A reading takes bytes from the front: x.0 is what was read and x.1 the bytes left; the first refusal counts.
use Rattle.std.specs.Prelude.{ℕ, zero, suc, List, [], ◌∷◌, Bool, Option, Some, None, Ok, ◌==◌, if◌then◌else◌}
use Rattle.mysql_fields.specs.Forms.{bytes_at, lenenc_number_at, fixed_number_at}
use Rattle.mysql_fields.specs.Wire.{Reading, ◌>>=◌}
use Rattle.mysql_fields.specs.Texts.{lenenc_text_at}
use Rattle.mysql_field_constants.specs.Constants.{constant_at, named_at}
use Rattle.mysql_field_constants.specs.Flags.{contains, status_named}
use Rattle.mysql_ok_packets.specs.SessionStates.{State, states_at}

-- None for a field that holds no bytes.
abbrev pub unless_empty : List ℕ → Option (List ℕ)
unless_empty [] = None
unless_empty (b ∷ bytes) = Some (b ∷ bytes)

-- Capabilities, by their flags.
abbrev pub session_track : ℕ → Bool
session_track capabilities = contains capabilities 0x800000

-- Server status, by its flags.
abbrev pub more_results_exist : ℕ → Bool
more_results_exist status = contains status 8

abbrev pub session_state_changed : ℕ → Bool
session_state_changed status = contains status 0x4000

-- What an OK packet says.
pub record OkPacket : Type 0 where
  pub affected_rows : ℕ
  pub last_insert_id : Option ℕ
  pub status_flags : ℕ
  pub warnings : ℕ
  pub info : Option (List ℕ)
  pub session_state_info : Option (List ℕ)

-- An id of 0 is none.
abbrev pub unless_zero : ℕ → Option ℕ
unless_zero zero = None
unless_zero (suc n) = Some (suc n)

-- What may follow the warnings of an OK packet: the info and the session state. The manual has the
-- info as string<EOF> where sessions aren't tracked; servers write it after its length in each
-- case.
unfoldable pub info_at : ℕ → ℕ → List ℕ → Reading (List ℕ × List ℕ)
info_at capabilities status [] = Ok (([], []), [])
info_at capabilities status (b ∷ bytes) =
    if session_track capabilities then (do
      info ← lenenc_text_at (b ∷ bytes)
      if session_state_changed status
          then (lenenc_text_at info.1 >>= λ state. Ok ((info.0, state.0), state.1))
          else Ok ((info.0, []), info.1))
    else if b == 0 then Ok (([], []), b ∷ bytes)
    else (do
      info ← lenenc_text_at (b ∷ bytes)
      Ok ((info.0, []), info.1))

-- Status, warnings and what follows them; status and warnings are there together or not at all.
unfoldable pub status_and_info_at : ℕ → ℕ → ℕ → List ℕ → Reading OkPacket
status_and_info_at capabilities affected id bytes = do
  block ← bytes_at 4 bytes
  status ← named_at status_named (fixed_number_at 2) block.0
  warnings ← fixed_number_at 2 status.1
  info ← info_at capabilities status.0.0 block.1
  Ok (
    record {
      affected_rows = affected;
      last_insert_id = unless_zero id;
      status_flags = status.0.0;
      warnings = warnings.0;
      info = unless_empty info.0.0;
      session_state_info = unless_empty info.0.1;
    },
    info.1,
  )

-- A packet: its header's byte, and what stands behind it by the client's capabilities.
abbrev pub packet_at : ℕ → (ℕ → List ℕ → Reading OkPacket) → ℕ → List ℕ → Reading OkPacket
packet_at first body_at capabilities bytes = do
  header ← constant_at 1 first bytes
  body_at capabilities header.1

-- An OK packet behind its header.
abbrev pub ok_body_at : ℕ → List ℕ → Reading OkPacket
ok_body_at capabilities bytes = do
  affected ← lenenc_number_at bytes
  id ← lenenc_number_at affected.1
  status_and_info_at capabilities affected.0 id.0 id.1

-- An OK packet.
unfoldable pub ok_packet_at : ℕ → List ℕ → Reading OkPacket
ok_packet_at capabilities bytes = packet_at 0 ok_body_at capabilities bytes

-- The OK packet that ends a result set, behind its header; its two numbers are passed over.
abbrev pub result_set_terminator_body_at : ℕ → List ℕ → Reading OkPacket
result_set_terminator_body_at capabilities bytes = do
  affected ← lenenc_number_at bytes
  id ← lenenc_number_at affected.1
  status_and_info_at capabilities 0 0 id.1

-- The OK packet that ends a result set.
unfoldable pub result_set_terminator_at : ℕ → List ℕ → Reading OkPacket
result_set_terminator_at capabilities bytes = packet_at 254 result_set_terminator_body_at capabilities bytes

-- The EOF packet behind its header.
abbrev pub old_eof_body_at : List ℕ → Reading OkPacket
old_eof_body_at bytes = do
  block ← bytes_at 4 bytes
  warnings ← fixed_number_at 2 block.0
  status ← named_at status_named (fixed_number_at 2) warnings.1
  Ok (
    record {
      affected_rows = 0;
      last_insert_id = None;
      status_flags = status.0.0;
      warnings = warnings.0;
      info = None;
      session_state_info = None;
    },
    block.1,
  )

-- The EOF packet.
unfoldable pub old_eof_at : List ℕ → Reading OkPacket
old_eof_at bytes = packet_at 254 (λ _ rest. old_eof_body_at rest) 0 bytes

-- The session states of a packet, where it has some.
abbrev pub all_states_at : Option (List ℕ) → Reading (List State)
all_states_at None = Ok ([], [])
all_states_at (Some bytes) = states_at bytes
