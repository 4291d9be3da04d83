-- Single payloads are what the manual has them as.
use Rattle.std.proofs.Common.{◌≡◌, ℕ, ◌≤◌, ◌<◌, ◌^◌, ◌&&◌, Bool, true, false, if◌then◌else◌, List, [], ◌∷◌, ◌++◌}
use Rattle.std.proofs.Common.{length, min, nat_lt, Option, Some, None, Ok, refl, sym, ap, ◌∙◌, arith, append-nil}
use Rattle.std.proofs.Common.{length-append, lit<}
use Rattle.std.proofs.lemmas.Bool.{lt-ltb}
use Rattle.byteorder.specs.Endian.{little_bytes}
use Rattle.mysql_buf.specs.Writing.{lenenc_int}
use Rattle.mysql_fields.specs.Forms.{fixed_number_at, lenenc_number_at}
use Rattle.mysql_fields.specs.Laws.{bytes_at-back, fixed_number_at-back, lenenc_number_at-back}
use Rattle.mysql_fields.specs.Wire.{Reading, ◌>>=◌}
use Rattle.mysql_field_constants.specs.ConstantLaws.{constant_at-back, named_at-back}
use Rattle.mysql_ok_packets.specs.BackLaws.{eof-back, ok_packet-back, terminator-back}
use Rattle.mysql_ok_packets.specs.OkPackets.{OkPacket, old_eof_at, result_set_terminator_at}
use Rattle.mysql_ok_packets.specs.Written.{IsWritable, as_eof, as_ok, as_terminator, eof_bytes, info_bytes}
use Rattle.mysql_ok_packets.specs.Written.{is_named_status, ok_packet_bytes, or_zero}
use Rattle.mysql_server_packets.specs.PacketLaws.{prepare_ok_at-back, progress_body_at-back, server_error_at-back}
use Rattle.mysql_server_packets.specs.Packets.{Error, HasState, IsPrepareOk, IsProgressReport, PrepareOk, Progress}
use Rattle.mysql_server_packets.specs.Packets.{ProgressReport, ServerError, err_packet, error_at, error_code_at}
use Rattle.mysql_server_packets.specs.Packets.{prepare_ok, progress_body, progress_report_at, protocol_41, server_error}
use Rattle.mysql_reply_events.specs.declared.context.Context.{Context}
use Rattle.mysql_row_refs.specs.Lines.{begins_with}
use Rattle.mysql_reply_events.specs.Readings.{cached_metadata, count_at, deprecate_eof, follow_at, mariadb}
use Rattle.mysql_reply_events.specs.Readings.{optional_metadata, prepared_at, protocol, truth}
use Rattle.mysql_replies.specs.Manual.{IsCount, IsError, IsOk, IsTerminator, Reads}
use Rattle.mysql_reply_writer.specs.Fits.{ErrorFits, OkFits, ReportFits, StateFits}
use Rattle.mysql_reply_writer.specs.Written.{columns_follow, count_payload, error_written, report_written, saying}
use Rattle.mysql_reply_writer.specs.Written.{state_written, terminator_payload, terminator_read}
use Rattle.mysql_reply_writer.proofs.Status.{stays_named, stays_small}

-- a packet whose status says whether another result follows can be written
pub writable : (more : Bool) (p : OkPacket) → OkFits p → is_named_status p.status_flags ≡ true →
    IsWritable (saying more p)
writable more p fits named = record {
  affected_rows = fits.affected_rows;
  last_insert_id = fits.last_insert_id;
  status_flags = stays_small more p.status_flags fits.status_flags;
  named = stays_named more p.status_flags named;
  warnings = fits.warnings;
  info = fits.info;
  session_state_info = fits.session_state_info;
}

-- a length-encoded number has a byte at least
number_some : (n : ℕ) → 0 < length (lenenc_int n)
number_some n = by (nat_lt n 251) (nat_lt n (2 ^ 16)) (nat_lt n (2 ^ 24)) where
  by : (one two three : Bool) →
      0 < length (if one then n ∷ [] else if two then 252 ∷
      little_bytes 2 n else if three then 253 ∷ little_bytes 3 n else 254 ∷ little_bytes 8 n)
  by true two three = omega arith
  by false true three = omega arith
  by false false true = omega arith
  by false false false = omega arith

-- an OK packet has seven bytes at least
ok_long : (capabilities : ℕ) (p : OkPacket) → 6 < length (ok_packet_bytes 0 capabilities p)
unfolding ok_packet_bytes
ok_long capabilities p =
    let behind : List ℕ = little_bytes 2 p.status_flags ++
    (little_bytes 2 p.warnings ++ (info_bytes capabilities p ++ [])) in
    let id : List ℕ = lenenc_int (or_zero p.last_insert_id) in
    omega (
      arith,
      number_some p.affected_rows,
      number_some (or_zero p.last_insert_id),
      length-append (lenenc_int p.affected_rows) (id ++ behind),
      length-append id behind,
    )

begins_as_ok : (b : Bool) (capabilities : ℕ) (p : OkPacket) →
    (begins_with 0 (ok_packet_bytes 0 capabilities p) &&
    (if b then nat_lt 6 (length (ok_packet_bytes 0 capabilities p)) else true)) ≡ true
unfolding ok_packet_bytes
begins_as_ok true capabilities p = lt-ltb 6 (length (ok_packet_bytes 0 capabilities p)) (ok_long capabilities p)
begins_as_ok false capabilities p = refl

pub is_ok : (c : Context) (p : OkPacket) → IsWritable p →
    IsOk c (ok_packet_bytes 0 (protocol c) p) (as_ok (protocol c) p)
is_ok c p h = record {
  header = begins_as_ok (optional_metadata c) (protocol c) p;
  fields = ([], ok_packet-back (protocol c) p h);
}

-- what ends rows, by whether EOF packets are deprecated
terminator_ends : (d : Bool) (capabilities : ℕ) (p : OkPacket) (limit : ℕ)
    → length (if d then ok_packet_bytes 254 capabilities p else eof_bytes p) ≤ (if d then min limit 16777214 else limit)
    → (begins_with 254 (if d then ok_packet_bytes 254 capabilities p else eof_bytes p)
    && nat_lt (length (if d then ok_packet_bytes 254 capabilities p else eof_bytes p))
    (if d then 16777215 else 9)) ≡ true
unfolding ok_packet_bytes eof_bytes
terminator_ends true capabilities p limit room =
    lt-ltb (length (ok_packet_bytes 254 capabilities p)) 16777215 (omega (arith, room))
terminator_ends false capabilities p limit room = refl

terminator_fields : (d : Bool) (capabilities : ℕ) (p : OkPacket) → IsWritable p
    → Reads (if d then result_set_terminator_at capabilities
    (if d then ok_packet_bytes 254 capabilities p else eof_bytes p) else old_eof_at
    (if d then ok_packet_bytes 254 capabilities p else eof_bytes p))
    (if d then as_terminator capabilities p else as_eof p)
terminator_fields true capabilities p h = ([], terminator-back capabilities p h)
terminator_fields false capabilities p h = ([], eof-back p h)

pub is_terminator : (c : Context) (p : OkPacket) (limit : ℕ) → IsWritable p
    → length (terminator_payload c p) ≤ (if deprecate_eof c then min limit 16777214 else limit)
    → IsTerminator c (terminator_payload c p) (terminator_read c p)
is_terminator c p limit h room = record {
  ends = terminator_ends (deprecate_eof c) (protocol c) p limit room;
  fields = terminator_fields (deprecate_eof c) (protocol c) p h;
}

-- its status is the packet's, whatever it is read as
pub terminator_status : (c : Context) (p : OkPacket) → (terminator_read c p).status_flags ≡ p.status_flags
terminator_status c p = go (deprecate_eof c) where
  go : (d : Bool) → (if d then as_terminator (protocol c) p else as_eof p).status_flags ≡ p.status_flags
  go true = refl
  go false = refl

-- the byte that says that columns follow
follow_back : (rest : List ℕ) → follow_at (1 ∷ rest) ≡ Ok (true, rest)
follow_back rest = named_at-back truth (λ follow. 1) (fixed_number_at 1) (little_bytes 1) true rest
    refl (fixed_number_at-back 1 1 rest (lit< tt))

number_back : (n : ℕ) → n < 65536 → lenenc_number_at (lenenc_int n) ≡ Ok (n, [])
number_back n below = ap lenenc_number_at (sym (append-nil (lenenc_int n))) ∙
    lenenc_number_at-back n [] (omega (arith, below))

-- none of MariaDB's capabilities is in force
not_cached : (c : Context) → mariadb c ≡ 0 → cached_metadata c ≡ false
not_cached c plain = rw plain refl

pub is_count : (c : Context) (n : ℕ) → mariadb c ≡ 0 → 0 < n → n < 65536 → IsCount c (count_payload c n) n
is_count c n plain some below = record { number = by (optional_metadata c) refl; some = some; below = below } where
  by : (b : Bool) → optional_metadata c ≡ b → count_at c (count_payload c n) ≡ Ok ((n, true), [])
  by true is = rw (is, follow_back (lenenc_int n), number_back n below) refl
  by false is = rw (is, not_cached c plain, number_back n below) refl

error_code_at-back : (code : ℕ) (rest : List ℕ) → code < 2 ^ 16 →
    error_code_at ((little_bytes 1 255 ++ little_bytes 2 code) ++ rest) ≡ Ok (code, rest)
unfolding error_code_at
error_code_at-back code rest h = rw (
  bytes_at-back 3 (little_bytes 1 255 ++ little_bytes 2 code) rest refl,
  constant_at-back 1 255 (little_bytes 2 code) (lit< tt),
  fixed_number_at-back 2 code [] h,
) refl

has_state : (protocol : Bool) (state : Option (List ℕ)) → StateFits state →
    HasState protocol (state_written protocol state)
has_state true None h = refl
has_state true (Some state) h = h
has_state false state h = tt

error_at-back : (capabilities : ℕ) (e : ServerError) → e.error_code < 2 ^ 16 →
    HasState (protocol_41 capabilities) e.sql_state
    → error_at capabilities (err_packet (Error e)) ≡ Ok (e, [])
unfolding error_at
error_at-back capabilities e code state =
    rw (error_code_at-back e.error_code (server_error e ++ []) code)
    (server_error_at-back (protocol_41 capabilities) e.error_code e []
    (record { error_code = refl; sql_state = state }) refl)

pub is_error : (c : Context) (e : ServerError) → ErrorFits e
    → IsError c (err_packet (Error (error_written (protocol c) e))) (error_written (protocol c) e)
is_error c e h = record {
  header = refl;
  fields = (
    [],
    error_at-back (protocol c) (error_written (protocol c) e) h.error_code
        (has_state (protocol_41 (protocol c)) e.sql_state h.sql_state),
  );
}

report_at-back : (r : ProgressReport) → IsProgressReport r → progress_report_at (err_packet (Progress r)) ≡ Ok (r, [])
unfolding progress_report_at
report_at-back r h = rw (bytes_at-back 3 (little_bytes 1 255 ++ little_bytes 2 0xffff)
    (progress_body r ++ []) refl) (progress_body_at-back r [] h)

pub is_report_of : (r : ProgressReport) → ReportFits r →
    Reads (progress_report_at (err_packet (Progress (report_written r)))) (report_written r)
is_report_of r h = (
  [],
  report_at-back (report_written r) (record {
    stage = h.stage;
    max_stage = h.max_stage;
    progress = omega arith;
    progress_info = h.progress_info;
  }),
)

pub statement_reads : (c : Context) (s : PrepareOk) → IsPrepareOk s →
    Reads (prepared_at c (prepare_ok s ++ columns_follow c)) (s, true)
statement_reads c s h = ([], rw (prepare_ok_at-back s (columns_follow c) h) (by (optional_metadata c))) where
  told : Bool × List ℕ → Reading (PrepareOk × Bool)
  told follow = Ok ((s, follow.0), follow.1)

  by : (b : Bool) → (if b then (follow_at (if b then 1 ∷ [] else []) >>= told) else told (
    true,
    if b then 1 ∷ [] else [],
  )) ≡ Ok ((s, true), [])
  by true = rw (follow_back []) refl
  by false = refl

pub statement_header : (s : PrepareOk) (behind : List ℕ) → begins_with 0 (prepare_ok s ++ behind) ≡ true
unfolding prepare_ok
statement_header s behind = refl
