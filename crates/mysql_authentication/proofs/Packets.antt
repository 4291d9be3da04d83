-- Errors and OK packets that were written are read again.
use Rattle.std.proofs.Common.{◌≡◌, ◌<◌, ◌^◌, ◌==◌, ◌&&◌, ◌||◌, if◌then◌else◌, ℕ, zero, suc, Bool, true, false, not}
use Rattle.std.proofs.Common.{List, [], ◌∷◌, ◌++◌, length, Option, None, Some, is_some, Ok}
use Rattle.std.proofs.Common.{refl, ap, ◌∙◌, lit<}
use Rattle.byteorder.specs.Endian.{little_bytes}
use Rattle.mysql_authentication.specs.Statements.{HoldsError, HoldsOk, HoldsState}
use Rattle.mysql_authentication.specs.Written.{if_some, is_normal, same}
use Rattle.mysql_field_constants.specs.ConstantLaws.{constant_at-back}
use Rattle.mysql_fields.specs.Laws.{bytes_at-back, fixed_number_at-back}
use Rattle.mysql_ok_packets.specs.BackLaws.{ok_packet-back}
use Rattle.mysql_ok_packets.specs.OkPackets.{OkPacket, ok_packet_at, unless_empty, unless_zero}
use Rattle.mysql_ok_packets.specs.Written.{as_ok, is_named_status, ok_packet_bytes, or_empty, or_zero, tells_state}
use Rattle.mysql_server_packets.specs.PacketLaws.{server_error_at-back}
use Rattle.mysql_server_packets.specs.Packets.{Error, HasState, ServerError, err_packet, error_at, error_code_at}
use Rattle.mysql_server_packets.specs.Packets.{protocol_41, server_error}

code-back : (code : ℕ) (rest : List ℕ) → code < 2 ^ 16 →
    error_code_at (little_bytes 1 255 ++ little_bytes 2 code ++ rest) ≡ Ok (code, rest)
unfolding error_code_at
code-back code rest small = rw (
  bytes_at-back 3 (little_bytes 1 255 ++ little_bytes 2 code) rest refl,
  constant_at-back 1 255 (little_bytes 2 code) (lit< tt),
  fixed_number_at-back 2 code [] small,
) refl

state-is : (protocol : Bool) (state : Option (List ℕ)) → HoldsState state →
    same (is_some state) protocol ≡ true → HasState protocol state
state-is true None h e = cc
state-is true (Some state) h e = h
state-is false None h e = tt
state-is false (Some state) h e = cc

-- an error by capabilities that say whether it has a state
pub error-back : (capabilities : ℕ) (e : ServerError) → HoldsError e →
    same (is_some e.sql_state) (protocol_41 capabilities) ≡ true →
    error_at capabilities (err_packet (Error e)) ≡ Ok (e, [])
unfolding error_at
error-back capabilities e h told =
    let body = server_error_at-back (protocol_41 capabilities) e.error_code e []
    (record { error_code = refl; sql_state = state-is (protocol_41 capabilities) e.sql_state h.sql_state told }) refl in
    rw (code-back e.error_code (server_error e ++ []) h.error_code) body

id-kept : (id : Option ℕ) → if_some (λ id. not (id == 0)) id ≡ true → unless_zero (or_zero id) ≡ id
id-kept None h = refl
id-kept (Some zero) h = cc
id-kept (Some (suc n)) h = refl

text-kept : (text : Option (List ℕ)) → if_some (λ text. not (length text == 0)) text ≡ true →
    unless_empty (or_empty text) ≡ text
text-kept None h = refl
text-kept (Some []) h = cc
text-kept (Some (b ∷ bytes)) h = refl

state-kept : (tells : Bool) (state : Option (List ℕ)) → (not (is_some state) || tells) ≡ true →
    if_some (λ text. not (length text == 0)) state ≡ true →
    (if tells then unless_empty (or_empty state) else None) ≡ state
state-kept true state told normal = text-kept state normal
state-kept false None told normal = refl
state-kept false (Some state) told normal = cc

pub both-hold : (a b : Bool) → (a && b) ≡ true → (a ≡ true) × (b ≡ true)
both-hold true b h = (refl, h)
both-hold false b h = cc

-- an OK packet that tells what it holds
pub ok-back : (capabilities : ℕ) (p : OkPacket) → HoldsOk p → is_named_status p.status_flags ≡ true
    → (not (is_some p.session_state_info) || tells_state capabilities p.status_flags) ≡ true → is_normal p ≡ true
    → ok_packet_at capabilities (ok_packet_bytes 0 capabilities p) ≡ Ok (p, [])
ok-back capabilities p h named told normal =
    let one = both-hold (if_some (λ id. not (id == 0)) p.last_insert_id) _ normal in
    let two = both-hold (if_some (λ info. not (length info == 0)) p.info) _ one.1 in
    let whole : as_ok capabilities p ≡ p = rw (
      id-kept p.last_insert_id one.0,
      text-kept p.info two.0,
      state-kept (tells_state capabilities p.status_flags) p.session_state_info told two.1,
    ) refl in
    ok_packet-back capabilities p (record {
      affected_rows = h.affected_rows;
      last_insert_id = h.last_insert_id;
      status_flags = h.status_flags;
      named = named;
      warnings = h.warnings;
      info = h.info;
      session_state_info = h.session_state_info;
    })
    ∙ ap (λ (q : OkPacket). Ok (q, [])) whole
