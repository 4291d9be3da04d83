-- OK and EOF packets that were written are read back.
use Rattle.std.proofs.Common.{◌≡◌, ◌<◌, ◌^◌, ◌&&◌, ℕ, Bool, true, false, inl, inr, if◌then◌else◌, List, [], ◌∷◌, ◌++◌}
use Rattle.std.proofs.Common.{length, take, None, Ok, refl, sym, ap, ◌∙◌, append-nil, arith, lit<}
use Rattle.std.proofs.Math.Nat.{mod-eq_of_lt}
use Rattle.std.specs.List.{concat}
use Rattle.std.proofs.lemmas.Bool.Decides.{eqb_tells}
use Rattle.byteorder.specs.Endian.{little_bytes}
use Rattle.mysql_buf.specs.FirstBytes.{first-enough}
use Rattle.mysql_buf.specs.Writing.{lenenc_int, lenenc_str}
use Rattle.mysql_fields.specs.Forms.{fixed_number_at}
use Rattle.mysql_fields.specs.Laws.{bytes_at-back, done, fixed_number_at-back, lenenc_number_at-back, ok_same}
use Rattle.mysql_fields.specs.Wire.{Reading, ◌>>=◌}
use Rattle.mysql_fields.specs.TextLaws.{lenenc_text_at-back}
use Rattle.mysql_fields.specs.Texts.{lenenc_text_at}
use Rattle.mysql_field_constants.specs.ConstantLaws.{constant_at-back, named_at-back}
use Rattle.mysql_field_constants.specs.Constants.{named_at}
use Rattle.mysql_field_constants.specs.FlagLaws.{flags_named-back}
use Rattle.mysql_field_constants.specs.Flags.{all_status_flags, status_named}
use Rattle.mysql_ok_packets.specs.OkPackets.{OkPacket, info_at, ok_body_at, ok_packet_at, old_eof_at, old_eof_body_at}
use Rattle.mysql_ok_packets.specs.OkPackets.{packet_at, result_set_terminator_at, result_set_terminator_body_at}
use Rattle.mysql_ok_packets.specs.OkPackets.{session_state_changed, session_track, status_and_info_at, unless_empty}
use Rattle.mysql_ok_packets.specs.OkPackets.{unless_zero}
use Rattle.mysql_ok_packets.specs.Statements.{KindReadsBack}
use Rattle.mysql_ok_packets.specs.Written.{IsWritable, as_eof, as_ok, as_terminator, eof_body_bytes, eof_bytes}
use Rattle.mysql_ok_packets.specs.Written.{info_bytes, lenenc_unless_empty, ok_body_bytes, ok_packet_bytes}
use Rattle.mysql_ok_packets.specs.Written.{is_named_status, or_empty, or_zero, tells_state}

-- the session state that follows an info, where the status says so
abbrev pub state_behind : Bool → List ℕ → List ℕ → Reading (List ℕ × List ℕ)
state_behind changed info rest =
    if changed then (lenenc_text_at rest >>= λ state. Ok ((info, state.0), state.1))
    else Ok ((info, []), rest)

-- where sessions are tracked, the text that stands first is the info
pub info_at-tracked : (capabilities status : ℕ) (bytes info rest : List ℕ) →
    session_track capabilities ≡ true → lenenc_text_at bytes ≡ Ok (info, rest)
    → info_at capabilities status bytes ≡ state_behind (session_state_changed status) info rest
unfolding info_at
info_at-tracked capabilities status [] info rest tracks reads = absurd cc
info_at-tracked capabilities status (b ∷ bytes) info rest tracks reads = rw (tracks, reads) refl

-- a length of 0 has no bytes behind it
no_bytes : (b : ℕ) (bytes info rest : List ℕ) → b ≡ 0 → lenenc_text_at (b ∷ bytes) ≡ Ok (info, rest) → info ≡ []
no_bytes b bytes info rest is_zero reads =
    let from_zero : lenenc_text_at (0 ∷ bytes) ≡ done (info, rest) =
    ap (λ (n : ℕ). lenenc_text_at (n ∷ bytes)) (sym is_zero) ∙ reads in
    let none : lenenc_text_at (0 ∷ bytes) ≡ done ([], bytes) = rw (first-enough 0 (take 0) bytes (omega arith)) refl in
    sym (ap (λ (x : List ℕ × List ℕ). x.0) (ok_same ([], bytes) (info, rest) (sym none ∙ from_zero)))

-- where they aren't, it is the info too, if it isn't empty
pub info_at-untracked : (capabilities status : ℕ) (bytes : List ℕ) (b : ℕ) (info rest : List ℕ) →
    session_track capabilities ≡ false → lenenc_text_at bytes ≡ Ok (b ∷ info, rest)
    → info_at capabilities status bytes ≡ Ok ((b ∷ info, []), rest)
unfolding info_at
info_at-untracked capabilities status [] b info rest tracks reads = absurd cc
info_at-untracked capabilities status (first ∷ bytes) b info rest tracks reads = elim (eqb_tells first 0) [
  | inl is_zero ↦ let empty = no_bytes first bytes (b ∷ info) rest is_zero.1 reads in absurd cc
  | inr more ↦ rw (tracks, more.0, reads) refl
]

-- no bytes are no info and no session state
info_at-empty : (capabilities status : ℕ) → info_at capabilities status [] ≡ Ok (([], []), [])
unfolding info_at
info_at-empty capabilities status = refl

-- an info alone
info_alone : (capabilities status : ℕ) (info : List ℕ) → tells_state capabilities status ≡ false → length info < 2 ^ 64
    → info_at capabilities status (lenenc_unless_empty info) ≡ Ok ((info, []), [])
info_alone capabilities status [] none fits = info_at-empty capabilities status
info_alone capabilities status (b ∷ info) none fits = go (session_track capabilities) refl none where
  reads : lenenc_text_at (lenenc_str (b ∷ info)) ≡ done (b ∷ info, [])
  reads = ap lenenc_text_at (sym (append-nil (lenenc_str (b ∷ info)))) ∙ lenenc_text_at-back (b ∷ info) [] fits

  go : (tracks : Bool) → session_track capabilities ≡ tracks → (tracks && session_state_changed status) ≡ false
      → info_at capabilities status (lenenc_str (b ∷ info)) ≡ Ok ((b ∷ info, []), [])
  go true is none = info_at-tracked capabilities status (lenenc_str (b ∷ info)) (b ∷ info) [] is reads ∙ rw none refl
  go false is none = info_at-untracked capabilities status (lenenc_str (b ∷ info)) b info [] is reads

-- an info and a session state
info_and_state : (capabilities status : ℕ) (info state : List ℕ) → tells_state capabilities status ≡
    true → length info < 2 ^ 64 → length state < 2 ^ 64
    → info_at capabilities status (lenenc_str info ++ lenenc_str state) ≡ Ok ((info, state), [])
info_and_state capabilities status info state both info_fits state_fits =
    go (session_track capabilities) refl both where
      reads : lenenc_text_at (lenenc_str state) ≡ done (state, [])
      reads = ap lenenc_text_at (sym (append-nil (lenenc_str state))) ∙ lenenc_text_at-back state [] state_fits

      go : (tracks : Bool) → session_track capabilities ≡ tracks → (tracks && session_state_changed status) ≡ true
          → info_at capabilities status (lenenc_str info ++ lenenc_str state) ≡ Ok ((info, state), [])
      go true is changed =
          info_at-tracked capabilities status (lenenc_str info ++ lenenc_str state) info
          (lenenc_str state) is (lenenc_text_at-back info (lenenc_str state) info_fits)
          ∙ rw (changed, reads) refl
      go false is changed = absurd cc

-- what is read of an info and a session state, which are there where they stand
info_bytes-back : (capabilities : ℕ) (p : OkPacket) → IsWritable p
    → info_at capabilities p.status_flags (info_bytes capabilities p)
    ≡ Ok ((or_empty p.info, if tells_state capabilities p.status_flags then or_empty p.session_state_info else []), [])
unfolding info_bytes
info_bytes-back capabilities p h = go (tells_state capabilities p.status_flags) refl where
  go : (tells : Bool) → tells_state capabilities p.status_flags ≡ tells
      → info_at capabilities p.status_flags (if tells then lenenc_str (or_empty p.info) ++
      lenenc_str (or_empty p.session_state_info) else lenenc_unless_empty (or_empty p.info))
      ≡ Ok ((or_empty p.info, if tells then or_empty p.session_state_info else []), [])
  go true is = info_and_state capabilities p.status_flags (or_empty p.info)
      (or_empty p.session_state_info) is h.info h.session_state_info
  go false is = info_alone capabilities p.status_flags (or_empty p.info) is h.info

-- a status whose bits have names
status-back : (status : ℕ) (rest : List ℕ) → is_named_status status ≡ true → status < 2 ^ 16
    → named_at status_named (fixed_number_at 2) (little_bytes 2 status ++ rest) ≡ Ok (record { 0 = status }, rest)
status-back status rest named fits =
    named_at-back status_named (λ flags. flags.0) (fixed_number_at 2) (little_bytes 2) (record { 0 = status }) rest
    (flags_named-back all_status_flags (λ bits. record { 0 = bits }) status named)
    (fixed_number_at-back 2 status rest fits)

-- what is read of a packet with these rows and this id
abbrev pub with_numbers : ℕ → ℕ → ℕ → OkPacket → OkPacket
with_numbers capabilities affected id p = record {
  affected_rows = affected;
  last_insert_id = unless_zero id;
  status_flags = p.status_flags;
  warnings = p.warnings;
  info = unless_empty (or_empty p.info);
  session_state_info = if tells_state capabilities p.status_flags then unless_empty
      (or_empty p.session_state_info) else None;
}

told_state : (tells : Bool) (state : List ℕ) → unless_empty (if tells then state else []) ≡
    (if tells then unless_empty state else None)
told_state true state = refl
told_state false state = refl

-- the bytes behind the two numbers
abbrev pub status_and_info : ℕ → OkPacket → List ℕ
status_and_info capabilities p =
    concat (little_bytes 2 p.status_flags ∷ little_bytes 2 p.warnings ∷ info_bytes capabilities p ∷
    [])

status_and_info-back : (capabilities affected id : ℕ) (p : OkPacket) → IsWritable p
    → status_and_info_at capabilities affected id (status_and_info capabilities p)
    ≡ Ok (with_numbers capabilities affected id p, [])
unfolding status_and_info_at
status_and_info-back capabilities affected id p h =
    rw (
      append-nil (info_bytes capabilities p),
      bytes_at-back 4 (little_bytes 2 p.status_flags ++ little_bytes 2 p.warnings) (info_bytes capabilities p) refl,
      status-back p.status_flags (little_bytes 2 p.warnings) h.named h.status_flags,
      fixed_number_at-back 2 p.warnings [] h.warnings,
      info_bytes-back capabilities p h,
      told_state (tells_state capabilities p.status_flags) (or_empty p.session_state_info),
    ) refl

-- an OK packet behind its header
pub ok_body-back : (capabilities : ℕ) (p : OkPacket) → IsWritable p →
    ok_body_at capabilities (ok_body_bytes capabilities p) ≡ Ok (as_ok capabilities p, [])
ok_body-back capabilities p h =
    rw (
      lenenc_number_at-back p.affected_rows (lenenc_int (or_zero p.last_insert_id) ++
          status_and_info capabilities p) h.affected_rows,
      lenenc_number_at-back (or_zero p.last_insert_id) (status_and_info capabilities p) h.last_insert_id,
    ) (status_and_info-back capabilities p.affected_rows (or_zero p.last_insert_id) p h)

pub terminator_body-back : (capabilities : ℕ) (p : OkPacket) → IsWritable p →
    result_set_terminator_body_at capabilities (ok_body_bytes capabilities p) ≡
    Ok (as_terminator capabilities p, [])
terminator_body-back capabilities p h =
    rw (
      lenenc_number_at-back p.affected_rows (lenenc_int (or_zero p.last_insert_id) ++
          status_and_info capabilities p) h.affected_rows,
      lenenc_number_at-back (or_zero p.last_insert_id) (status_and_info capabilities p) h.last_insert_id,
    ) (status_and_info-back capabilities 0 0 p h)

pub eof_body-back : (p : OkPacket) → IsWritable p → old_eof_body_at (eof_body_bytes p) ≡ Ok (as_eof p, [])
eof_body-back p h = rw (
  bytes_at-back 4 (little_bytes 2 p.warnings ++ little_bytes 2 p.status_flags) [] refl,
  fixed_number_at-back 2 p.warnings (little_bytes 2 p.status_flags) h.warnings,
  status-back p.status_flags [] h.named h.status_flags,
) refl

-- whole packets
pub ok_packet-back : (capabilities : ℕ) (p : OkPacket) → IsWritable p →
    ok_packet_at capabilities (ok_packet_bytes 0 capabilities p) ≡ Ok (as_ok capabilities p, [])
unfolding ok_packet_at ok_packet_bytes
ok_packet-back capabilities p h =
    rw (constant_at-back 1 0 (ok_body_bytes capabilities p) (lit< tt))
    (ok_body-back capabilities p h)

pub terminator-back : (capabilities : ℕ) (p : OkPacket) → IsWritable p →
    result_set_terminator_at capabilities (ok_packet_bytes 254 capabilities p) ≡
    Ok (as_terminator capabilities p, [])
unfolding result_set_terminator_at ok_packet_bytes
terminator-back capabilities p h =
    rw (constant_at-back 1 254 (ok_body_bytes capabilities p) (lit< tt))
    (terminator_body-back capabilities p h)

pub eof-back : (p : OkPacket) → IsWritable p → old_eof_at (eof_bytes p) ≡ Ok (as_eof p, [])
unfolding old_eof_at eof_bytes
eof-back p h = rw (constant_at-back 1 254 (eof_body_bytes p) (lit< tt)) (eof_body-back p h)

-- a packet of any kind
pub kind-back : (header : ℕ) (body_at : ℕ → List ℕ → Reading OkPacket) (body_bytes : ℕ → OkPacket →
    List ℕ) (kept : ℕ → OkPacket → OkPacket)
    → header < 256 → ((capabilities : ℕ) (p : OkPacket) → IsWritable p →
    body_at capabilities (body_bytes capabilities p) ≡ Ok (kept capabilities p, []))
    → KindReadsBack header body_at body_bytes kept
kind-back header body_at body_bytes kept small back capabilities p h =
    ap (λ (b : ℕ). packet_at header body_at capabilities (b ∷ body_bytes capabilities p)) (sym (mod-eq_of_lt small))
    ∙ rw (constant_at-back 1 header (body_bytes capabilities p) small) (back capabilities p h)
