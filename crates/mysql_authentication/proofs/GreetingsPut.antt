-- Events that a server's first payload was read as are put.
use Rattle.std.proofs.Common.{◌≡◌, ◌≤◌, ◌-◌, ◌==◌, ◌||◌, if◌then◌else◌, ℕ, max, nat_lt, Bool, true, false, not, List}
use Rattle.std.proofs.Common.{[], ◌∷◌, length, take, drop, slice_index_or, Option, None, Some, is_some, Ok, Err}
use Rattle.std.proofs.Common.{refl, sym, ap, ◌∙◌, subst, eq-eqb, arith, inl, inr}
use Rattle.std.proofs.lemmas.Bool.{cases_lt}
use Rattle.std.proofs.lemmas.List.{get_or-drop, length-take-le}
use Rattle.std.proofs.lemmas.Nat.{and_assoc}
use Rattle.std.specs.Int.Bits.{and_self}
use Rattle.std.specs.Int.RustNames.{bit_and, bit_or}
use Rattle.bitflags.specs.Sets.{known_bits}
use Rattle.byteorder.specs.Endian.{little_number}
use Rattle.mysql_auth.specs.Plugins.{without_zero}
use Rattle.mysql_authentication.proofs.Read.{error_own, null_own, read_as}
use Rattle.mysql_authentication.specs.Events.{Greeted, Greeting, Rejected}
use Rattle.mysql_authentication.specs.Readings.{early_error_at, greeting_at, or_fault}
use Rattle.mysql_authentication.specs.Statements.{GreetingsArePut, RefusedGreetingsReadOtherwise}
use Rattle.mysql_authentication.specs.Written.{greeted_cause, greeting_bytes, greeting_cause, same}
use Rattle.mysql_authentication.specs.declared.fault.LoginFault.TheVariants.{BadError, BadGreeting, OldProtocol}
use Rattle.mysql_buf.specs.FirstBytes.{first-enough, first-short}
use Rattle.mysql_const.specs.MariadbCapabilities.{mariadb_capabilities}
use Rattle.mysql_const.specs.declared.status.StatusFlags.{StatusFlags}
use Rattle.mysql_field_constants.specs.Constants.{constant_at, named_at, or_unknown, skipped_at}
use Rattle.mysql_field_constants.specs.Flags.{all_status_flags, are_named, contains, status_named}
use Rattle.mysql_fields.specs.Forms.{bytes_at, fixed_number_at, upper_half_at}
use Rattle.mysql_fields.specs.Laws.{bind_ok, bytes_at-sized, done, eaten_first, ok_same}
use Rattle.mysql_fields.specs.Texts.{bare_at, null_text_at}
use Rattle.mysql_fields.specs.Wire.{or_end, ◌>>=◌}
use Rattle.mysql_fields.specs.declared.error.WireError.TheVariants.{TooManyBytes}
use Rattle.mysql_handshake.specs.Capabilities.{plugin_auth, protocol_41, secure_connection}
use Rattle.mysql_handshake.specs.Handshakes.{FixedFields, HandshakeFields, block_at, fixed_at, flags_at, handshake_at}
use Rattle.mysql_handshake.specs.Handshakes.{name_at, scramble_at, scramble_fits}
use Rattle.mysql_server_packets.specs.Packets.{ServerError, error_at, error_code_at, server_error_at}
use Rattle.mysql_authentication.proofs.FirstCause.{same-false, same-true}

-- n bytes were read
pub length_own : (n : ℕ) (bytes : List ℕ) (x : List ℕ × List ℕ) → bytes_at n bytes ≡ Ok x → length x.0 ≡ n
length_own n bytes x h = elim (cases_lt (length bytes) n) [
  | inl lt ↦ absurd (let no = ap or_end (first-short n (take n) bytes lt) in cc)
  | inr le ↦
      let whole = ap or_end (first-enough n (take n) bytes le) in
      let same : (take n bytes, drop n bytes) ≡ x = ok_same (take n bytes, drop n bytes) x (sym whole ∙ h) in
      subst (λ (y : List ℕ × List ℕ). length y.0 ≡ n) same (length-take-le n bytes le)
]

status_own : (bytes : List ℕ) (x : StatusFlags × List ℕ) →
    named_at status_named (fixed_number_at 2) bytes ≡ Ok x → are_named all_status_flags x.0.0 ≡ true
status_own bytes x h =
    let number = bind_ok (fixed_number_at 2 bytes) _ x h in
    go number.0.0 number.0.1 (are_named all_status_flags number.0.0) refl number.2 where
      go : (n : ℕ) (rest : List ℕ) (named : Bool) → are_named all_status_flags n ≡ named
          → or_unknown (if named then Some (record { 0 = n }) else None) rest ≡ Ok x →
          are_named all_status_flags x.0.0 ≡ true
      go n rest true is e =
          let flags : StatusFlags = record { 0 = n } in
          subst (λ (y : StatusFlags × List ℕ). are_named all_status_flags y.0.0 ≡ true) (ok_same (flags, rest) x e) is
      go n rest false is e = absurd cc

flags_own : (bytes : List ℕ) (x : (ℕ × ℕ × ℕ) × List ℕ) → flags_at bytes ≡ Ok x →
    are_named all_status_flags x.0.2 ≡ true
unfolding flags_at
flags_own bytes x h =
    let low = bind_ok (fixed_number_at 2 bytes) _ x h in
    let collation = bind_ok (fixed_number_at 1 low.0.1) _ x low.2 in
    let status = bind_ok (named_at status_named (fixed_number_at 2) collation.0.1) _ x collation.2 in
    let high = bind_ok (upper_half_at status.0.1) _ x status.2 in
    let made : (ℕ × ℕ × ℕ) × List ℕ = ((bit_or low.0.0 high.0.0, collation.0.0, status.0.0.0), high.0.1) in
    subst (λ (y : (ℕ × ℕ × ℕ) × List ℕ). are_named all_status_flags y.0.2 ≡
    true) (ok_same made x high.2) (status_own collation.0.1 status.0 status.1)

-- bits without a name are dropped
pub dropped : (m k : ℕ) → (bit_and (bit_and m k) k == bit_and m k) ≡ true
dropped m k = eq-eqb (bit_and (bit_and m k) k) (bit_and m k) (and_assoc k m k ∙ ap (bit_and m) (and_self k))

abbrev pub AreNamed : FixedFields → Type 0
AreNamed q = (are_named all_status_flags q.status_flags ≡ true) ×
    (are_named mariadb_capabilities q.mariadb_ext_capabilities ≡ true)

fixed_own : (bytes : List ℕ) (x : FixedFields × List ℕ) → fixed_at bytes ≡ Ok x → AreNamed x.0
unfolding fixed_at
fixed_own bytes x h =
    let id = bind_ok (fixed_number_at 4 bytes) _ x h in
    let scramble = bind_ok (bytes_at 8 id.0.1) _ x id.2 in
    let filler = bind_ok (skipped_at 1 scramble.0.1) _ x scramble.2 in
    let flags = bind_ok (flags_at filler.0.1) _ x filler.2 in
    let len = bind_ok (fixed_number_at 1 flags.0.1) _ x flags.2 in
    let reserved = bind_ok (skipped_at 6 len.0.1) _ x len.2 in
    let mariadb = bind_ok (fixed_number_at 4 reserved.0.1) _ x reserved.2 in
    let made : FixedFields × List ℕ = (
      record {
        connection_id = id.0.0;
        scramble_1 = scramble.0.0;
        capabilities = flags.0.0.0;
        default_collation = flags.0.0.1;
        status_flags = flags.0.0.2;
        data_length = len.0.0;
        mariadb_ext_capabilities = bit_and mariadb.0.0 (known_bits mariadb_capabilities);
      },
      mariadb.0.1,
    ) in
    subst (λ (y : FixedFields × List ℕ). AreNamed y.0) (ok_same made x mariadb.2)
    (flags_own filler.0.1 flags.0 flags.1, dropped mariadb.0.0 (known_bits mariadb_capabilities))

block_own : (bytes : List ℕ) (x : FixedFields × List ℕ) → block_at bytes ≡ Ok x → AreNamed x.0
unfolding block_at
block_own bytes x h =
    let block = bind_ok (bytes_at 31 bytes) _ x h in
    let fixed = bind_ok (fixed_at block.0.0) _ x block.2 in
    let made : FixedFields × List ℕ = (fixed.0.0, block.0.1) in
    subst (λ (y : FixedFields × List ℕ). AreNamed y.0) (ok_same made x fixed.2) (fixed_own block.0.0 fixed.0 fixed.1)

bare_own : (long : Bool) (n : ℕ) (bytes : List ℕ) (x : List ℕ × List ℕ) →
    (if long then Err TooManyBytes else bytes_at n bytes) ≡ Ok x → length x.0 ≡ n
bare_own true n bytes x h = absurd cc
bare_own false n bytes x h = length_own n bytes x h

abbrev pub ScrambleFits : ℕ → ℕ → Option (List ℕ) → Type 0
ScrambleFits capabilities len text =
    (same (is_some text) (contains capabilities secure_connection) ≡ true) ×
    (scramble_fits len text ≡ true)

scramble_own : (capabilities len : ℕ) (bytes : List ℕ) (x : Option (List ℕ) × List ℕ) →
    scramble_at capabilities len bytes ≡ Ok x → ScrambleFits capabilities len x.0
unfolding scramble_at
scramble_own capabilities len bytes x h = go (contains capabilities secure_connection) h where
  go : (there : Bool) → (if there then
      (bare_at 247 (max 13 (len - 8)) bytes >>= λ text. Ok (Some text.0, text.1)) else Ok (
        None,
        bytes,
      )) ≡ Ok x
      → (same (is_some x.0) there ≡ true) × (scramble_fits len x.0 ≡ true)
  go true e =
      let text = bind_ok (bare_at 247 (max 13 (len - 8)) bytes) _ x e in
      let made : Option (List ℕ) × List ℕ = (Some text.0.0, text.0.1) in
      let exact = bare_own (nat_lt 247 (max 13 (len - 8))) (max 13 (len - 8)) bytes text.0 text.1 in
      subst (λ (y : Option (List ℕ) × List ℕ). (same (is_some y.0) true ≡ true) ×
      (scramble_fits len y.0 ≡ true)) (ok_same made x text.2)
      (refl, eq-eqb (length text.0.0) (max 13 (len - 8)) exact)
  go false e =
      let made : Option (List ℕ) × List ℕ = (None, bytes) in
      subst (λ (y : Option (List ℕ) × List ℕ). (same (is_some y.0) false ≡ true) ×
      (scramble_fits len y.0 ≡ true)) (ok_same made x e) (refl, refl)

name_own : (capabilities : ℕ) (bytes : List ℕ) (x : Option (List ℕ) × List ℕ) → name_at capabilities bytes ≡ Ok x →
    same (is_some x.0) (contains capabilities plugin_auth) ≡ true
unfolding name_at
name_own capabilities bytes x h = go (contains capabilities plugin_auth) h where
  go : (there : Bool) → (if there then Ok (Some (without_zero bytes), []) else Ok (None, bytes)) ≡
      done x → same (is_some x.0) there ≡ true
  go true e =
      let made : Option (List ℕ) × List ℕ = (Some (without_zero bytes), []) in
      subst (λ (y : Option (List ℕ) × List ℕ). same (is_some y.0) true ≡ true) (ok_same made x e) refl
  go false e =
      let made : Option (List ℕ) × List ℕ = (None, bytes) in
      subst (λ (y : Option (List ℕ) × List ℕ). same (is_some y.0) false ≡ true) (ok_same made x e) refl

-- the first byte was read
first_own : (b : ℕ) (bytes : List ℕ) (x : ℕ × List ℕ) → fixed_number_at 1 (b ∷ bytes) ≡ Ok x → x.0 ≡ b
first_own b bytes x h =
    let enough : 1 ≤ length (b ∷ bytes) = omega arith in
    let whole = ap or_end (first-enough 1 (little_number 1) (b ∷ bytes) enough) in
    let same : (little_number 1 (b ∷ bytes), drop 1 (b ∷ bytes)) ≡ x =
    ok_same (little_number 1 (b ∷ bytes), drop 1 (b ∷ bytes)) x (sym whole ∙ h) in
    subst (λ (y : ℕ × List ℕ). y.0 ≡ b) same (omega arith)

-- the code and what stands behind it
code_rest : (bytes : List ℕ) (x : ℕ × List ℕ) → error_code_at bytes ≡ Ok x → x.1 ≡ drop 3 bytes
unfolding error_code_at
code_rest bytes x h =
    let block = bind_ok (bytes_at 3 bytes) _ x h in
    let header = bind_ok (constant_at 1 255 block.0.0) _ x block.2 in
    let code = bind_ok (fixed_number_at 2 header.0.1) _ x header.2 in
    let made : ℕ × List ℕ = (code.0.0, block.0.1) in
    subst (λ (y : ℕ × List ℕ). y.1 ≡ drop 3 bytes) (ok_same made x code.2)
    (eaten_first 3 (bytes_at 3) bytes (bytes_at-sized 3) block.0.0 block.0.1 block.1)

-- a greeting that was read of bytes that begin with 10
handshake_own : (b : ℕ) (bytes : List ℕ) (x : HandshakeFields × List ℕ) → (b == 10) ≡ true →
    handshake_at (b ∷ bytes) ≡ Ok x → greeted_cause x.0 ≡ None
unfolding handshake_at
handshake_own b bytes x is h =
    let protocol = bind_ok (fixed_number_at 1 (b ∷ bytes)) _ x h in
    let server = bind_ok (null_text_at protocol.0.1) _ x protocol.2 in
    let fixed = bind_ok (block_at server.0.1) _ x server.2 in
    let scramble = bind_ok (scramble_at fixed.0.0.capabilities fixed.0.0.data_length fixed.0.1) _ x fixed.2 in
    let name = bind_ok (name_at fixed.0.0.capabilities scramble.0.1) _ x scramble.2 in
    let made : HandshakeFields × List ℕ = (
      record {
        protocol_version = protocol.0.0;
        server_version = server.0.0;
        connection_id = fixed.0.0.connection_id;
        scramble_1 = fixed.0.0.scramble_1;
        capabilities = fixed.0.0.capabilities;
        default_collation = fixed.0.0.default_collation;
        status_flags = fixed.0.0.status_flags;
        data_length = fixed.0.0.data_length;
        mariadb_ext_capabilities = fixed.0.0.mariadb_ext_capabilities;
        scramble_2 = scramble.0.0;
        auth_plugin_name = name.0.0;
      },
      name.0.1,
    ) in
    let version = first_own b bytes protocol.0 protocol.1 in
    let ten : (protocol.0.0 == 10) ≡ true = ap (λ (n : ℕ). n == 10) version ∙ is in
    let named = block_own server.0.1 fixed.0 fixed.1 in
    let fits = scramble_own fixed.0.0.capabilities fixed.0.0.data_length fixed.0.1 scramble.0 scramble.1 in
    subst (λ (y : HandshakeFields × List ℕ). greeted_cause y.0 ≡ None) (ok_same made x name.2)
    (rw (
      ten,
      null_own protocol.0.1 server.0 server.1,
      named.0,
      named.1,
      fits.0,
      name_own fixed.0.0.capabilities scramble.0.1 name.0 name.1,
      fits.1,
    ) refl)

-- the text of an error without a state is all that stands behind the code
message_own : (bytes : List ℕ) (x : ServerError × List ℕ) → error_at 0 bytes ≡ Ok x → x.0.error_message ≡ drop 3 bytes
unfolding error_at error_code_at server_error_at
message_own bytes x h =
    let code = bind_ok (error_code_at bytes) _ x h in
    let made : ServerError × List ℕ =
    (record { error_code = code.0.0; sql_state = None; error_message = code.0.1 }, []) in
    let rest = code_rest bytes code.0 code.1 in
    subst (λ (y : ServerError × List ℕ). y.0.error_message ≡ drop 3 bytes) (ok_same made x code.2) rest

early_own : (bytes : List ℕ) (x : ServerError × List ℕ) → early_error_at bytes ≡ Ok x →
    (is_some x.0.sql_state || not (slice_index_or x.0.error_message 0 0 == 35)) ≡ true
unfolding early_error_at
early_own bytes x h = go (slice_index_or bytes 3 0 == 35) refl h where
  go : (marked : Bool) → (slice_index_or bytes 3 0 == 35) ≡ marked →
      error_at (if marked then protocol_41 else 0) bytes ≡ Ok x
      → (is_some x.0.sql_state || not (slice_index_or x.0.error_message 0 0 == 35)) ≡ true
  go true is e = rw (same-true (is_some x.0.sql_state) (error_own 0x200 bytes x e)) refl
  go false is e =
      let other : (slice_index_or x.0.error_message 0 0 == 35) ≡ false =
      ap (λ (text : List ℕ). slice_index_or text 0 0 == 35) (message_own bytes x e) ∙
      ap (λ (n : ℕ). n == 35) (get_or-drop 3 bytes 0 0) ∙ is in
      rw (same-false (is_some x.0.sql_state) (error_own 0 bytes x e), other) refl

moved : {e f : Greeting} → e ≡ f → greeting_cause e ≡ None → greeting_cause f ≡ None
moved h none = subst (λ (e : Greeting). greeting_cause e ≡ None) h none

by_byte : (b : ℕ) (bytes : List ℕ) (event : Greeting) (err ten : Bool) → (b == 0xff) ≡ err → (b == 10) ≡ ten
    → (if err then or_fault BadError Rejected (early_error_at (b ∷ bytes)) else if ten then or_fault
    BadGreeting Greeted (handshake_at (b ∷ bytes)) else Err OldProtocol) ≡ Ok event
    → greeting_cause event ≡ None
by_byte b bytes event true ten is255 is10 h =
    let read = read_as BadError Rejected (early_error_at (b ∷ bytes)) event h in
    moved read.2 (rw (early_own (b ∷ bytes) read.0 read.1) refl)
by_byte b bytes event false true is255 is10 h =
    let read = read_as BadGreeting Greeted (handshake_at (b ∷ bytes)) event h in
    moved read.2 (handshake_own b bytes read.0 is10 read.1)
by_byte b bytes event false false is255 is10 h = absurd cc

pub greetings_are_put : GreetingsArePut
unfolding greeting_at
greetings_are_put [] event h = absurd cc
greetings_are_put (b ∷ bytes) event h = by_byte b bytes event (b == 0xff) (b == 10) refl refl h

pub refused_greetings_read_otherwise : RefusedGreetingsReadOtherwise
refused_greetings_read_otherwise event cause refused h =
    let none = greetings_are_put (greeting_bytes event) event h in
    absurd cc
