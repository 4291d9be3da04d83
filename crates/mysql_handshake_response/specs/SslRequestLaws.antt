-- A request for a secure connection has 32 bytes, and what was written of one is read back.
use Rattle.std.proofs.Common.{◌≡◌, ◌≤◌, ℕ, List, ◌++◌, length, drop, replicate, Ok, Some, refl, ◌∙◌, arith}
use Rattle.byteorder.specs.Endian.{little_bytes}
use Rattle.mysql_fields.specs.Forms.{fixed_number_at}
use Rattle.mysql_fields.specs.Laws.{done_rest, eaten_first, eats-then, from_block-enough, from_block-sized}
use Rattle.mysql_fields.specs.Laws.{fixed_number_at-back, fixed_number_at-sized}
use Rattle.mysql_fields.specs.Wire.{IsSized}
use Rattle.mysql_field_constants.specs.ConstantLaws.{skipped_at-back, skipped_at-sized}
use Rattle.mysql_field_constants.specs.Constants.{skipped_at}
use Rattle.mysql_handshake_response.specs.SslRequests.{IsSslRequest, SslRequestFields, ssl_fields_at, ssl_request}
use Rattle.mysql_handshake_response.specs.SslRequests.{ssl_request_at}

-- written requests are read back, whatever follows them
abbrev pub SslRequestsReadBack : Type 0
SslRequestsReadBack = (p : SslRequestFields) (rest : List ℕ) → IsSslRequest p →
    ssl_request_at (ssl_request p ++ rest) ≡ Ok (p, rest)

ssl_fields_at-back : (p : SslRequestFields) (rest : List ℕ) → IsSslRequest p →
    ssl_fields_at (ssl_request p ++ rest) ≡ Ok (p, rest)
unfolding ssl_request ssl_fields_at
ssl_fields_at-back p rest h =
    let m = little_bytes 4 p.mariadb_capabilities ++ rest in
    let z = replicate 19 0 ++ m in
    let c = little_bytes 1 p.character_set ++ z in
    let s = little_bytes 4 p.max_packet_size ++ c in
    rw (
      fixed_number_at-back 4 p.capabilities s h.capabilities,
      fixed_number_at-back 4 p.max_packet_size c h.max_packet_size,
      fixed_number_at-back 1 p.character_set z h.character_set,
      skipped_at-back 19 m,
      fixed_number_at-back 4 p.mariadb_capabilities rest h.mariadb_capabilities,
      h.capabilities_named,
      h.mariadb_named,
    ) refl

pub ssl_request_at-enough : (bytes : List ℕ) → 32 ≤ length bytes → ssl_request_at bytes ≡ ssl_fields_at bytes
unfolding ssl_request_at
ssl_request_at-enough bytes h = from_block-enough 32 ssl_fields_at bytes h

pub ssl_request_at-back : SslRequestsReadBack
unfolding ssl_request
ssl_request_at-back p rest h = ssl_request_at-enough (ssl_request p ++ rest) (omega arith) ∙ ssl_fields_at-back p rest h

ssl_fields_at-eats : (bytes rest : List ℕ) (p : SslRequestFields) → ssl_fields_at bytes ≡
    Ok (p, rest) → rest ≡ drop 32 bytes
unfolding ssl_fields_at
ssl_fields_at-eats bytes rest p e =
    eats-then 4 28 bytes _ _ rest p (eaten_first 4 (fixed_number_at 4) bytes (fixed_number_at-sized 4)) (λ _ a.
    eats-then 4 24 a _ _ rest p (eaten_first 4 (fixed_number_at 4) a (fixed_number_at-sized 4)) (λ _ b.
    eats-then 1 23 b _ _ rest p (eaten_first 1 (fixed_number_at 1) b (fixed_number_at-sized 1)) (λ _ c.
    eats-then 19 4 c _ _ rest p (eaten_first 19 (skipped_at 19) c (skipped_at-sized 19)) (λ _ d.
    eats-then 4 0 d _ _ rest p (eaten_first 4 (fixed_number_at 4) d (fixed_number_at-sized 4))
    (λ _ f. done_rest _ p f rest))))) e

pub ssl_request_at-sized : IsSized (Some 32) ssl_request_at
unfolding ssl_request_at
ssl_request_at-sized = from_block-sized 32 ssl_fields_at ssl_fields_at-eats
