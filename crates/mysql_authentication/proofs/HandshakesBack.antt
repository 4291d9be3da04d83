-- A greeting that was written as it is held is read again.
use Rattle.std.proofs.Common.{◌≡◌, ◌<◌, ◌*◌, ◌/◌, ◌%◌, ◌^◌, ℕ, true, List, [], ◌++◌, length, replicate, Ok}
use Rattle.std.proofs.Common.{refl, sym, ap, ◌∙◌, length-append, arith}
use Rattle.std.proofs.lemmas.Bool.{eqb-true}
use Rattle.std.proofs.lemmas.Nat.{or_comm, or_shifted}
use Rattle.std.specs.Int.RustNames.{bit_and, bit_or}
use Rattle.byteorder.specs.Endian.{little_bytes}
use Rattle.bitflags.specs.Sets.{known_bits}
use Rattle.mysql_const.specs.MariadbCapabilities.{mariadb_capabilities}
use Rattle.mysql_field_constants.specs.ConstantLaws.{named_at-back, skipped_at-back}
use Rattle.mysql_field_constants.specs.Constants.{named_at}
use Rattle.mysql_field_constants.specs.FlagLaws.{flags_named-back}
use Rattle.mysql_field_constants.specs.Flags.{all_status_flags, are_named, status_named}
use Rattle.mysql_fields.specs.Forms.{fixed_number_at, upper_half, upper_half_at}
use Rattle.mysql_fields.specs.Laws.{bytes_at-back, fixed_number_at-back}
use Rattle.mysql_handshake.specs.Handshakes.{FixedFields, fixed, fixed_at, flags_at, block_at}

-- the low half of a number of four bytes
same_low : (c : ℕ) → little_bytes 2 (c % 2 ^ 16) ≡ little_bytes 2 c
same_low c =
    let one : c % 2 ^ 16 % 256 ≡ c % 256 = omega arith in
    let two : c % 2 ^ 16 / 256 % 256 ≡ c / 256 % 256 = omega arith in
    rw (one, two) refl

low_half-back : (c : ℕ) (rest : List ℕ) → fixed_number_at 2 (little_bytes 2 c ++ rest) ≡ Ok (c % 2 ^ 16, rest)
low_half-back c rest =
    ap (λ (bytes : List ℕ). fixed_number_at 2 (bytes ++ rest)) (sym (same_low c))
    ∙ fixed_number_at-back 2 (c % 2 ^ 16) rest (omega arith)

high_half-back : (c : ℕ) (rest : List ℕ) → c < 2 ^ 32 → upper_half_at (upper_half c ++ rest) ≡
    Ok (c / 2 ^ 16 * 2 ^ 16, rest)
high_half-back c rest small = rw (fixed_number_at-back 2 (c / 2 ^ 16) rest (omega arith)) refl

halves : (c : ℕ) → bit_or (c % 2 ^ 16) (c / 2 ^ 16 * 2 ^ 16) ≡ c
halves c = or_comm (c % 2 ^ 16) (c / 2 ^ 16 * 2 ^ 16) ∙
    or_shifted (c / 2 ^ 16) 16 (c % 2 ^ 16) (omega arith) ∙ omega arith

status-back : (status : ℕ) (rest : List ℕ) → are_named all_status_flags status ≡ true → status < 2 ^ 16
    → named_at status_named (fixed_number_at 2) (little_bytes 2 status ++ rest) ≡ Ok (record { 0 = status }, rest)
status-back status rest named fits =
    named_at-back status_named (λ flags. flags.0) (fixed_number_at 2) (little_bytes 2) (record { 0 = status }) rest
    (flags_named-back all_status_flags (λ bits. record { 0 = bits }) status named)
    (fixed_number_at-back 2 status rest fits)

flags-back : (c collation status : ℕ) (rest : List ℕ) → c < 2 ^ 32 → collation < 2 ^ 8 → status < 2 ^ 16 →
    are_named all_status_flags status ≡ true
    → flags_at (little_bytes 2 c ++ (little_bytes 1 collation ++ (little_bytes 2 status ++ (upper_half c ++ rest))))
    ≡ Ok ((c, collation, status), rest)
unfolding flags_at
flags-back c collation status rest small few short named =
    let high = upper_half c ++ rest in
    let flags = little_bytes 2 status ++ high in
    rw (
      low_half-back c (little_bytes 1 collation ++ (little_bytes 2 status ++ (upper_half c ++ rest))),
      fixed_number_at-back 1 collation (little_bytes 2 status ++ (upper_half c ++ rest)) few,
      status-back status (upper_half c ++ rest) named short,
      high_half-back c rest small,
      halves c,
    ) refl

-- the fields of fixed length
pub fixed-back : (q : FixedFields) → q.connection_id < 2 ^ 32 → length q.scramble_1 ≡ 8 →
    q.capabilities < 2 ^ 32 → q.default_collation < 2 ^ 8
    → q.status_flags < 2 ^ 16 → are_named all_status_flags q.status_flags ≡ true →
    q.data_length < 2 ^ 8 → q.mariadb_ext_capabilities < 2 ^ 32
    → are_named mariadb_capabilities q.mariadb_ext_capabilities ≡ true
    → fixed_at (fixed q) ≡ Ok (q, [])
unfolding fixed fixed_at
fixed-back q id eight caps collation status status_named len mariadb mariadb_named =
    let m = little_bytes 4 q.mariadb_ext_capabilities ++ [] in
    let r : List ℕ = replicate 6 0 ++ (little_bytes 4 q.mariadb_ext_capabilities ++ []) in
    let l = little_bytes 1 q.data_length ++ (replicate 6 0 ++ (little_bytes 4 q.mariadb_ext_capabilities ++ [])) in
    let f = little_bytes 2 q.capabilities ++
    (little_bytes 1 q.default_collation ++
    (little_bytes 2 q.status_flags ++ (upper_half q.capabilities
    ++ (little_bytes 1 q.data_length ++ (replicate 6 0 ++ (little_bytes 4 q.mariadb_ext_capabilities ++ [])))))) in
    let z : List ℕ = replicate 1 0 ++
    (little_bytes 2 q.capabilities ++
    (little_bytes 1 q.default_collation ++
    (little_bytes 2 q.status_flags ++ (upper_half q.capabilities
    ++ (little_bytes 1 q.data_length ++ (replicate 6 0 ++ (little_bytes 4 q.mariadb_ext_capabilities ++ []))))))) in
    let all_named : bit_and q.mariadb_ext_capabilities (known_bits mariadb_capabilities) ≡ q.mariadb_ext_capabilities =
    eqb-true (bit_and q.mariadb_ext_capabilities (known_bits mariadb_capabilities))
    q.mariadb_ext_capabilities mariadb_named in
    rw (
      fixed_number_at-back 4 q.connection_id (q.scramble_1 ++ z) id,
      bytes_at-back 8 q.scramble_1 z eight,
      skipped_at-back 1 f,
      flags-back q.capabilities q.default_collation q.status_flags l caps collation status status_named,
      fixed_number_at-back 1 q.data_length r len,
      skipped_at-back 6 m,
      fixed_number_at-back 4 q.mariadb_ext_capabilities [] mariadb,
      all_named,
    ) refl

fixed-length : (q : FixedFields) → length q.scramble_1 ≡ 8 → length (fixed q) ≡ 31
unfolding fixed
fixed-length q eight =
    let z : List ℕ = replicate 1 0 ++
    (little_bytes 2 q.capabilities ++
    (little_bytes 1 q.default_collation ++
    (little_bytes 2 q.status_flags ++ (upper_half q.capabilities
    ++ (little_bytes 1 q.data_length ++ (replicate 6 0 ++ (little_bytes 4 q.mariadb_ext_capabilities ++ []))))))) in
    omega (arith, eight, length-append q.scramble_1 z)

pub block-back : (q : FixedFields) (rest : List ℕ) → length q.scramble_1 ≡ 8 → fixed_at (fixed q) ≡
    Ok (q, []) → block_at (fixed q ++ rest) ≡ Ok (q, rest)
unfolding block_at
block-back q rest eight back = rw (bytes_at-back 31 (fixed q) rest (fixed-length q eight), back) refl
