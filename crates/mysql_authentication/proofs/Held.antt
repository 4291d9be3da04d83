-- Fields that were read hold what their types hold.
use Rattle.std.proofs.Common.{◌≡◌, ◌<◌, ◌≤◌, ◌+◌, ◌*◌, ◌^◌, if◌then◌else◌, nat_lt, ℕ, Bool, true, false, List, []}
use Rattle.std.proofs.Common.{length, take, drop, Option, None, Some, Ok, Err}
use Rattle.std.proofs.Common.{refl, sym, ap, subst, length-append, length-drop, arith}
use Rattle.std.proofs.lemmas.List.{length-take}
use Rattle.std.proofs.lemmas.Nat.{and_le_r, or_lt}
use Rattle.std.specs.Int.RustNames.{bit_and, bit_or}
use Rattle.std.specs.List.{after_first, before_first, position_or_len}
use Rattle.bitflags.proofs.OnLiterals.{bitflags_on_literals}
use Rattle.bitflags.specs.Sets.{known_bits}
use Rattle.byteorder.specs.Numbers.{little_from-lt}
use Rattle.mysql_auth.specs.Plugins.{Plugin, plugin_named, without_zero}
use Rattle.mysql_handshake_response.proofs.AttributesHeld.{attributes_held, bytes_behind, some_same, taken_bytes}
use Rattle.mysql_handshake_response.proofs.AttributesHeld.{text_takes}
use Rattle.mysql_authentication.proofs.GreetingsPut.{length_own}
use Rattle.mysql_authentication.proofs.ResponsesPut.{null_rest, number_own}
use Rattle.mysql_authentication.specs.Statements.{HoldsAttributes, HoldsError, HoldsHandshake, HoldsLogin, HoldsRequest}
use Rattle.mysql_authentication.specs.Statements.{HoldsState}
use Rattle.mysql_buf.specs.Bytes.{AreBytes}
use Rattle.mysql_buf.specs.FirstBytes.{first-some}
use Rattle.mysql_buf.specs.Reading.{bytes_at as buffer_bytes_at, is_zero, little_at, then_at}
use Rattle.mysql_buf.specs.Writing.{lenenc_int}
use Rattle.mysql_handshake_response.specs.Attributes.{Attribute, attributes_at}
use Rattle.mysql_handshake_response.specs.Parts.{if_there, plugin_to_zero_at}
use Rattle.mysql_const.specs.MariadbCapabilities.{mariadb_capabilities}
use Rattle.mysql_const.specs.declared.status.StatusFlags.{StatusFlags}
use Rattle.mysql_field_constants.specs.ConstantLaws.{constant_at-sized, skipped_at-sized}
use Rattle.mysql_field_constants.specs.Constants.{constant_at, named_at, or_unknown, skipped_at}
use Rattle.mysql_field_constants.specs.Flags.{all_status_flags, are_named, contains, status_named}
use Rattle.mysql_fields.specs.Forms.{bytes_at, fixed_number_at, upper_half_at}
use Rattle.mysql_fields.specs.Laws.{bind_ok, done, eaten_first, ok_same}
use Rattle.mysql_fields.specs.Texts.{lenenc_text_at, null_text_at, u8_text_at}
use Rattle.mysql_fields.specs.Wire.{Reading, lacks, or_end, ◌>>=◌}
use Rattle.mysql_fields.specs.declared.error.WireError.TheVariants.{UnexpectedEof}
use Rattle.mysql_handshake.specs.Capabilities.{connect_attrs, connect_with_db, plugin_auth}
use Rattle.mysql_handshake.specs.Capabilities.{plugin_auth_lenenc_client_data, secure_connection}
use Rattle.mysql_handshake.specs.Handshakes.{FixedFields, HandshakeFields, block_at, fixed_at, flags_at, handshake_at}
use Rattle.mysql_handshake.specs.Handshakes.{name_at, scramble_at as second_at}
use Rattle.mysql_handshake_response.specs.Responses.{ResponseFields, fields_by_at, named_parts_at, scramble_at}
use Rattle.mysql_handshake_response.specs.SslRequests.{SslRequestFields, capability_bits, mariadb_bits, ssl_fields_at}
use Rattle.mysql_handshake_response.specs.SslRequests.{ssl_request_at}
use Rattle.mysql_server_packets.specs.Packets.{ServerError, error_at, error_code_at, protocol_41, server_error_at}
use Rattle.mysql_server_packets.specs.Packets.{sql_state_at, sql_state_fields_at, state_part_at}

number_held : (n : ℕ) (bytes : List ℕ) (x : ℕ × List ℕ) → AreBytes bytes → fixed_number_at n bytes ≡
    Ok x → (x.0 < 256 ^ n) × AreBytes x.1
number_held n bytes x all h =
    let own = number_own n bytes x h in (
      subst (λ (k : ℕ). k < 256 ^ n) (sym own.0) (little_from-lt 0 n bytes all),
      subst AreBytes (sym own.1) (bytes_behind n bytes all),
    )

left_bytes : (n : ℕ) (bytes left : List ℕ) → AreBytes bytes → left ≡ drop n bytes → AreBytes left
left_bytes n bytes left all is = subst AreBytes (sym is) (bytes_behind n bytes all)

block_held : (n : ℕ) (bytes : List ℕ) (x : List ℕ × List ℕ) → AreBytes bytes → bytes_at n bytes ≡
    Ok x → AreBytes x.0 × AreBytes x.1
block_held n bytes x all h =
    let part = first-some n (take n) bytes x (some_same (buffer_bytes_at n bytes) x h) in
    subst (λ (q : List ℕ × List ℕ). AreBytes q.0 × AreBytes q.1) (sym part.1)
    (taken_bytes n bytes all, bytes_behind n bytes all)

-- ERRORS

code_held : (bytes : List ℕ) (x : ℕ × List ℕ) → AreBytes bytes → error_code_at bytes ≡ Ok x → x.0 < 2 ^ 16
unfolding error_code_at
code_held bytes x all h =
    let block = bind_ok (bytes_at 3 bytes) _ x h in
    let three = block_held 3 bytes block.0 all block.1 in
    let header = bind_ok (constant_at 1 255 block.0.0) _ x block.2 in
    let rest = left_bytes 1 block.0.0 header.0.1 three.0
    (eaten_first 1 (constant_at 1 255) block.0.0 (constant_at-sized 1 255) header.0.0 header.0.1 header.1) in
    let code = bind_ok (fixed_number_at 2 header.0.1) _ x header.2 in
    let small = number_held 2 header.0.1 code.0 rest code.1 in
    let made : ℕ × List ℕ = (code.0.0, block.0.1) in
    subst (λ (q : ℕ × List ℕ). q.0 < 2 ^ 16) (ok_same made x code.2) (omega (arith, small.0))

state_five : (bytes : List ℕ) (x : List ℕ × List ℕ) → sql_state_at bytes ≡ Ok x → length x.0 ≡ 5
unfolding sql_state_at sql_state_fields_at
state_five bytes x h = go (lacks (Some 6) (length bytes)) h where
  go : (short : Bool) → (if short then Err UnexpectedEof else
      (constant_at 1 35 bytes >>= λ marker. bytes_at 5 marker.1)) ≡ Ok x → length x.0 ≡ 5
  go true e = absurd cc
  go false e =
      let marker = bind_ok (constant_at 1 35 bytes) _ x e in
      length_own 5 marker.0.1 x marker.2

state_held : (protocol : Bool) (bytes : List ℕ) (x : Option (List ℕ) × List ℕ) →
    state_part_at protocol bytes ≡ Ok x → HoldsState x.0
state_held true bytes x h =
    let state = bind_ok (sql_state_at bytes) _ x h in
    let made : Option (List ℕ) × List ℕ = (Some state.0.0, state.0.1) in
    subst (λ (y : Option (List ℕ) × List ℕ). HoldsState y.0) (ok_same made x state.2) (state_five bytes state.0 state.1)
state_held false bytes x h =
    let made : Option (List ℕ) × List ℕ = (None, bytes) in
    subst (λ (y : Option (List ℕ) × List ℕ). HoldsState y.0) (ok_same made x h) tt

pub error_held : (capabilities : ℕ) (bytes : List ℕ) (x : ServerError × List ℕ) → AreBytes bytes →
    error_at capabilities bytes ≡ Ok x → HoldsError x.0
unfolding error_at server_error_at
error_held capabilities bytes x all h =
    let code = bind_ok (error_code_at bytes) _ x h in
    let state = bind_ok (state_part_at (protocol_41 capabilities) code.0.1) _ x code.2 in
    let made : ServerError × List ℕ =
    (record { error_code = code.0.0; sql_state = state.0.0; error_message = state.0.1 }, []) in
    subst (λ (y : ServerError × List ℕ). HoldsError y.0) (ok_same made x state.2) (record {
      error_code = code_held bytes code.0 all code.1;
      sql_state = state_held (protocol_41 capabilities) code.0.1 state.0 state.1;
    })

-- GREETINGS

status_held : (bytes : List ℕ) (x : StatusFlags × List ℕ) → AreBytes bytes →
    named_at status_named (fixed_number_at 2) bytes ≡ Ok x →
    (x.0.0 < 2 ^ 16) × AreBytes x.1
status_held bytes x all h =
    let number = bind_ok (fixed_number_at 2 bytes) _ x h in
    let held = number_held 2 bytes number.0 all number.1 in
    go number.0.0 number.0.1 (are_named all_status_flags number.0.0) (omega (arith, held.0)) held.1 number.2 where
      go : (n : ℕ) (rest : List ℕ) (named : Bool) → n < 2 ^ 16 → AreBytes rest
          → or_unknown (if named then Some (record { 0 = n }) else None) rest ≡ Ok x → (x.0.0 < 2 ^ 16) × AreBytes x.1
      go n rest true small left e =
          let flags : StatusFlags = record { 0 = n } in
          subst (λ (y : StatusFlags × List ℕ). (y.0.0 < 2 ^ 16) ×
          AreBytes y.1) (ok_same (flags, rest) x e) (small, left)
      go n rest false small left e = absurd cc

high_held : (bytes : List ℕ) (x : ℕ × List ℕ) → AreBytes bytes → upper_half_at bytes ≡ Ok x →
    (x.0 < 2 ^ 32) × AreBytes x.1
high_held bytes x all h =
    let number = bind_ok (fixed_number_at 2 bytes) _ x h in
    let held = number_held 2 bytes number.0 all number.1 in
    let made : ℕ × List ℕ = (number.0.0 * 2 ^ 16, number.0.1) in
    subst (λ (y : ℕ × List ℕ). (y.0 < 2 ^ 32) × AreBytes y.1) (ok_same made x number.2) (omega (arith, held.0), held.1)

abbrev pub FlagsHeld : (ℕ × ℕ × ℕ) × List ℕ → Type 0
FlagsHeld x = (x.0.0 < 2 ^ 32) × (x.0.1 < 2 ^ 8) × (x.0.2 < 2 ^ 16) × AreBytes x.1

flags_held : (bytes : List ℕ) (x : (ℕ × ℕ × ℕ) × List ℕ) → AreBytes bytes → flags_at bytes ≡ Ok x → FlagsHeld x
unfolding flags_at
flags_held bytes x all h =
    let low = bind_ok (fixed_number_at 2 bytes) _ x h in
    let one = number_held 2 bytes low.0 all low.1 in
    let collation = bind_ok (fixed_number_at 1 low.0.1) _ x low.2 in
    let two = number_held 1 low.0.1 collation.0 one.1 collation.1 in
    let status = bind_ok (named_at status_named (fixed_number_at 2) collation.0.1) _ x collation.2 in
    let three = status_held collation.0.1 status.0 two.1 status.1 in
    let high = bind_ok (upper_half_at status.0.1) _ x status.2 in
    let four = high_held status.0.1 high.0 three.1 high.1 in
    let made : (ℕ × ℕ × ℕ) × List ℕ = ((bit_or low.0.0 high.0.0, collation.0.0, status.0.0.0), high.0.1) in
    subst FlagsHeld (ok_same made x high.2)
    (or_lt 32 low.0.0 high.0.0 (omega (arith, one.0)) four.0, omega (arith, two.0), three.0, four.1)

pub record FixedHeld (q : FixedFields) : Type 0 where
  pub connection_id : q.connection_id < 2 ^ 32
  pub scramble_1 : length q.scramble_1 ≡ 8
  pub capabilities : q.capabilities < 2 ^ 32
  pub default_collation : q.default_collation < 2 ^ 8
  pub status_flags : q.status_flags < 2 ^ 16
  pub data_length : q.data_length < 2 ^ 8
  pub mariadb_ext_capabilities : q.mariadb_ext_capabilities < 2 ^ 32

mariadb_small : (m : ℕ) → bit_and m (known_bits mariadb_capabilities) < 2 ^ 32
unfolding bitflags_on_literals
mariadb_small m = omega (arith, and_le_r m (known_bits mariadb_capabilities))

fixed_held : (bytes : List ℕ) (x : FixedFields × List ℕ) → AreBytes bytes → fixed_at bytes ≡ Ok x → FixedHeld x.0
unfolding fixed_at
fixed_held bytes x all h =
    let id = bind_ok (fixed_number_at 4 bytes) _ x h in
    let one = number_held 4 bytes id.0 all id.1 in
    let scramble = bind_ok (bytes_at 8 id.0.1) _ x id.2 in
    let two = block_held 8 id.0.1 scramble.0 one.1 scramble.1 in
    let filler = bind_ok (skipped_at 1 scramble.0.1) _ x scramble.2 in
    let three = left_bytes 1 scramble.0.1 filler.0.1 two.1
    (eaten_first 1 (skipped_at 1) scramble.0.1 (skipped_at-sized 1) filler.0.0 filler.0.1
    filler.1) in
    let flags = bind_ok (flags_at filler.0.1) _ x filler.2 in
    let four = flags_held filler.0.1 flags.0 three flags.1 in
    let len = bind_ok (fixed_number_at 1 flags.0.1) _ x flags.2 in
    let five = number_held 1 flags.0.1 len.0 four.3 len.1 in
    let reserved = bind_ok (skipped_at 6 len.0.1) _ x len.2 in
    let mariadb = bind_ok (fixed_number_at 4 reserved.0.1) _ x reserved.2 in
    let made : FixedFields × List ℕ = (
      record {
        connection_id = id.0.0;
        scramble_1 = scramble.0.0;
        capabilities = flags.0.0.0;
        default_collation = flags.0.0.1;
        status_flags = flags.0.0.2;
        data_length = len.0.0;
        mariadb_ext_capabilities = bit_and mariadb.0.0 (known_bits mariadb_capabilities);
      },
      mariadb.0.1,
    ) in
    subst (λ (y : FixedFields × List ℕ). FixedHeld y.0) (ok_same made x mariadb.2) (record {
      connection_id = omega (arith, one.0);
      scramble_1 = length_own 8 id.0.1 scramble.0 scramble.1;
      capabilities = four.0;
      default_collation = four.1;
      status_flags = four.2;
      data_length = omega (arith, five.0);
      mariadb_ext_capabilities = mariadb_small mariadb.0.0;
    })

fixed_block_held : (bytes : List ℕ) (x : FixedFields × List ℕ) → AreBytes bytes → block_at bytes ≡ Ok x → FixedHeld x.0
unfolding block_at
fixed_block_held bytes x all h =
    let block = bind_ok (bytes_at 31 bytes) _ x h in
    let held = block_held 31 bytes block.0 all block.1 in
    let fixed = bind_ok (fixed_at block.0.0) _ x block.2 in
    let made : FixedFields × List ℕ = (fixed.0.0, block.0.1) in
    subst (λ (y : FixedFields × List ℕ). FixedHeld y.0) (ok_same made x fixed.2)
    (fixed_held block.0.0 fixed.0 held.0 fixed.1)

null_left : (bytes : List ℕ) (x : List ℕ × List ℕ) → AreBytes bytes → null_text_at bytes ≡ Ok x → AreBytes x.1
null_left bytes x all h = left_bytes (position_or_len is_zero bytes + 1) bytes x.1 all (null_rest bytes x h)

pub handshake_held : (bytes : List ℕ) (x : HandshakeFields × List ℕ) → AreBytes bytes →
    handshake_at bytes ≡ Ok x → HoldsHandshake x.0
unfolding handshake_at
handshake_held bytes x all h =
    let protocol = bind_ok (fixed_number_at 1 bytes) _ x h in
    let one = number_held 1 bytes protocol.0 all protocol.1 in
    let server = bind_ok (null_text_at protocol.0.1) _ x protocol.2 in
    let two = null_left protocol.0.1 server.0 one.1 server.1 in
    let fixed = bind_ok (block_at server.0.1) _ x server.2 in
    let three = fixed_block_held server.0.1 fixed.0 two fixed.1 in
    let scramble = bind_ok (second_at fixed.0.0.capabilities fixed.0.0.data_length fixed.0.1) _ x fixed.2 in
    let name = bind_ok (name_at fixed.0.0.capabilities scramble.0.1) _ x scramble.2 in
    let made : HandshakeFields × List ℕ = (
      record {
        protocol_version = protocol.0.0;
        server_version = server.0.0;
        connection_id = fixed.0.0.connection_id;
        scramble_1 = fixed.0.0.scramble_1;
        capabilities = fixed.0.0.capabilities;
        default_collation = fixed.0.0.default_collation;
        status_flags = fixed.0.0.status_flags;
        data_length = fixed.0.0.data_length;
        mariadb_ext_capabilities = fixed.0.0.mariadb_ext_capabilities;
        scramble_2 = scramble.0.0;
        auth_plugin_name = name.0.0;
      },
      name.0.1,
    ) in
    subst (λ (y : HandshakeFields × List ℕ). HoldsHandshake y.0) (ok_same made x name.2) (record {
      protocol_version = omega (arith, one.0);
      connection_id = three.connection_id;
      scramble_1 = three.scramble_1;
      capabilities = three.capabilities;
      default_collation = three.default_collation;
      status_flags = three.status_flags;
      data_length = three.data_length;
      mariadb_ext_capabilities = three.mariadb_ext_capabilities;
    })

-- ANSWERS

all_small : (n : ℕ) → bit_and n capability_bits < 2 ^ 32
unfolding bitflags_on_literals
all_small n = omega (arith, and_le_r n capability_bits)

pub request_held : (bytes : List ℕ) (x : SslRequestFields × List ℕ) → AreBytes bytes →
    ssl_request_at bytes ≡ Ok x → HoldsRequest x.0
unfolding ssl_request_at ssl_fields_at
request_held bytes x all h = go (lacks (Some 32) (length bytes)) h where
  fields : ssl_fields_at bytes ≡ Ok x → HoldsRequest x.0
  fields e =
      let capabilities = bind_ok (fixed_number_at 4 bytes) _ x e in
      let one = number_held 4 bytes capabilities.0 all capabilities.1 in
      let size = bind_ok (fixed_number_at 4 capabilities.0.1) _ x capabilities.2 in
      let two = number_held 4 capabilities.0.1 size.0 one.1 size.1 in
      let set = bind_ok (fixed_number_at 1 size.0.1) _ x size.2 in
      let three = number_held 1 size.0.1 set.0 two.1 set.1 in
      let filler = bind_ok (skipped_at 19 set.0.1) _ x set.2 in
      let mariadb = bind_ok (fixed_number_at 4 filler.0.1) _ x filler.2 in
      let made : SslRequestFields × List ℕ = (
        record {
          capabilities = bit_and capabilities.0.0 capability_bits;
          max_packet_size = size.0.0;
          character_set = set.0.0;
          mariadb_capabilities = bit_and mariadb.0.0 mariadb_bits;
        },
        mariadb.0.1,
      ) in
      subst (λ (y : SslRequestFields × List ℕ). HoldsRequest y.0) (ok_same made x mariadb.2) (record {
        capabilities = all_small capabilities.0.0;
        max_packet_size = omega (arith, two.0);
        character_set = omega (arith, three.0);
        mariadb_capabilities = mariadb_small mariadb.0.0;
      })

  go : (short : Bool) → (if short then Err UnexpectedEof else ssl_fields_at bytes) ≡ Ok x → HoldsRequest x.0
  go true e = absurd cc
  go false e = fields e

-- no text is longer than the bytes that it was read of
abbrev pub Shorter : List ℕ → List ℕ × List ℕ → Type 0
Shorter bytes x = (length x.0 ≤ length bytes) × (length x.1 ≤ length bytes) × AreBytes x.1

null_shorter : (bytes : List ℕ) (x : List ℕ × List ℕ) → AreBytes bytes → null_text_at bytes ≡ Ok x → Shorter bytes x
null_shorter bytes x all h = go (nat_lt (position_or_len is_zero bytes) (length bytes)) h where
  go : (b : Bool) → (if b then done (before_first is_zero bytes, after_first is_zero bytes) else Err
      UnexpectedEof) ≡ done x → Shorter bytes x
  go true e =
      subst (λ (y : List ℕ × List ℕ). Shorter bytes y)
      (ok_same (before_first is_zero bytes, after_first is_zero bytes) x e) (
        omega (arith, length-take (position_or_len is_zero bytes) bytes),
        omega (arith, length-drop (position_or_len is_zero bytes + 1) bytes),
        bytes_behind (position_or_len is_zero bytes + 1) bytes all,
      )
  go false e = absurd cc

lenenc_shorter : (bytes : List ℕ) (x : List ℕ × List ℕ) → AreBytes bytes → lenenc_text_at bytes ≡ Ok x → Shorter bytes x
lenenc_shorter bytes x all h =
    let takes = text_takes bytes x all h in
    (omega (arith, takes.0, length-append (lenenc_int (length x.0)) x.0), omega (arith, takes.0), takes.1)

counted_shorter : (bytes : List ℕ) (x : List ℕ × List ℕ) → AreBytes bytes → u8_text_at bytes ≡ Ok x → Shorter bytes x
counted_shorter bytes x all h = go (little_at 1 bytes) refl h where
  go : (o : Option (ℕ × List ℕ)) → little_at 1 bytes ≡ o → or_end (then_at o buffer_bytes_at) ≡ Ok x → Shorter bytes x
  go None is e = absurd cc
  go (Some n) is e =
      let number = number_own 1 bytes n (ap or_end is) in
      let rest = length-drop 1 bytes in
      let left : AreBytes n.1 = subst AreBytes (sym number.1) (bytes_behind 1 bytes all) in
      let part = first-some n.0 (take n.0) n.1 x (some_same (buffer_bytes_at n.0 n.1) x e) in
      let short : length n.1 ≤ length bytes = omega (arith, ap length number.1, rest) in
      subst (λ (y : List ℕ × List ℕ). Shorter bytes y) (sym part.1)
      (omega (arith, length-take n.0 n.1, short), omega (arith, length-drop n.0 n.1, short), bytes_behind n.0 n.1 left)

scramble_shorter : (capabilities : ℕ) (bytes : List ℕ) (x : List ℕ × List ℕ) → AreBytes bytes →
    scramble_at capabilities bytes ≡ Ok x → Shorter bytes x
unfolding scramble_at
scramble_shorter capabilities bytes x all h =
    go (contains capabilities plugin_auth_lenenc_client_data)
    (contains capabilities secure_connection) h where
      go : (lenenc counted : Bool) →
          (if lenenc then lenenc_text_at bytes else if counted then u8_text_at bytes else null_text_at
          bytes) ≡ Ok x → Shorter bytes x
      go true counted e = lenenc_shorter bytes x all e
      go false true e = counted_shorter bytes x all e
      go false false e = null_shorter bytes x all e

-- behind a part that may stand there
abbrev pub Left : {X : Type 0} → List ℕ → X × List ℕ → Type 0
Left bytes x = (length x.1 ≤ length bytes) × AreBytes x.1

part_left : {X : Type 0} (there : Bool) (read_at : List ℕ → Reading X) (bytes : List ℕ)
    (x : Option X × List ℕ) → AreBytes bytes
    → ((y : X × List ℕ) → read_at bytes ≡ Ok y → Left bytes y) → if_there there read_at bytes ≡ Ok x → Left bytes x
part_left {X = X} true read_at bytes x all left h =
    let part = bind_ok (read_at bytes) _ x h in
    let made : Option X × List ℕ = (Some part.0.0, part.0.1) in
    subst (λ (y : Option X × List ℕ). Left bytes y) (ok_same made x part.2) (left part.0 part.1)
part_left {X = X} false read_at bytes x all left h =
    let made : Option X × List ℕ = (None, bytes) in
    subst (λ (y : Option X × List ℕ). Left bytes y) (ok_same made x h) (omega arith, all)

null_is_left : (bytes : List ℕ) → AreBytes bytes → (x : List ℕ × List ℕ) → null_text_at bytes ≡ Ok x → Left bytes x
null_is_left bytes all x h = let short = null_shorter bytes x all h in (short.1, short.2)

plugin_is_left : (bytes : List ℕ) → AreBytes bytes → (x : Plugin × List ℕ) →
    plugin_to_zero_at bytes ≡ Ok x → Left bytes x
plugin_is_left bytes all x h =
    let made : Plugin × List ℕ =
    (plugin_named (without_zero (before_first is_zero bytes)), after_first is_zero bytes) in
    let rest : after_first is_zero bytes ≡ x.1 = ap (λ (y : Plugin × List ℕ). y.1) (ok_same made x h) in
    let len : length (drop (position_or_len is_zero bytes + 1) bytes) ≤ length bytes =
    omega (arith, length-drop (position_or_len is_zero bytes + 1) bytes) in
    subst (λ (r : List ℕ). (length r ≤ length bytes) × AreBytes r) rest (
      len,
      bytes_behind (position_or_len is_zero bytes + 1) bytes all,
    )

attributes_part : (there : Bool) (bytes : List ℕ) (x : Option (List Attribute) × List ℕ) →
    AreBytes bytes → length bytes < 2 ^ 64
    → if_there there attributes_at bytes ≡ Ok x → HoldsAttributes x.0
attributes_part true bytes x all few h =
    let part = bind_ok (attributes_at bytes) _ x h in
    let held = attributes_held bytes part.0 all part.1 in
    let made : Option (List Attribute) × List ℕ = (Some part.0.0, part.0.1) in
    subst (λ (y : Option (List Attribute) × List ℕ). HoldsAttributes y.0) (ok_same made x part.2) held.1
attributes_part false bytes x all few h =
    let made : Option (List Attribute) × List ℕ = (None, bytes) in
    subst (λ (y : Option (List Attribute) × List ℕ). HoldsAttributes y.0) (ok_same made x h) tt

parts_held : (capabilities : ℕ) (bytes : List ℕ)
    (x : (Option (List ℕ) × Option Plugin × Option (List Attribute)) × List ℕ) → AreBytes bytes
    → length bytes < 2 ^ 64 → named_parts_at capabilities bytes ≡ Ok x → HoldsAttributes x.0.2
unfolding named_parts_at
parts_held capabilities bytes x all few h =
    let database = bind_ok (if_there (contains capabilities connect_with_db) null_text_at bytes) _ x h in
    let one = part_left (contains capabilities connect_with_db) null_text_at bytes database.0 all
    (null_is_left bytes all) database.1 in
    let plugin = bind_ok (if_there (contains capabilities plugin_auth) plugin_to_zero_at database.0.1) _ x database.2 in
    let two = part_left (contains capabilities plugin_auth) plugin_to_zero_at database.0.1 plugin.0
    one.1 (plugin_is_left database.0.1 one.1) plugin.1 in
    let attributes = bind_ok (if_there (contains capabilities connect_attrs) attributes_at plugin.0.1) _ x plugin.2 in
    let held = attributes_part (contains capabilities connect_attrs) plugin.0.1 attributes.0 two.1
    (omega (arith, one.0, two.0)) attributes.1 in
    let made : (Option (List ℕ) × Option Plugin × Option (List Attribute)) × List ℕ =
    ((database.0.0, plugin.0.0, attributes.0.0), attributes.0.1) in
    subst (λ (y : (Option (List ℕ) × Option Plugin × Option (List Attribute)) ×
    List ℕ). HoldsAttributes y.0.2) (ok_same made x attributes.2) held

pub behind_held : (capabilities : ℕ) (r : SslRequestFields) (bytes : List ℕ) (x : ResponseFields ×
    List ℕ) → AreBytes bytes → length bytes < 2 ^ 64
    → HoldsRequest r → fields_by_at capabilities r bytes ≡ Ok x → HoldsLogin x.0
unfolding fields_by_at
behind_held capabilities r bytes x all few request h =
    let user = bind_ok (null_text_at bytes) _ x h in
    let one = null_shorter bytes user.0 all user.1 in
    let scramble = bind_ok (scramble_at capabilities user.0.1) _ x user.2 in
    let two = scramble_shorter capabilities user.0.1 scramble.0 one.2 scramble.1 in
    let parts = bind_ok (named_parts_at capabilities scramble.0.1) _ x scramble.2 in
    let held = parts_held capabilities scramble.0.1 parts.0 two.2 (omega (arith, one.1, two.1)) parts.1 in
    let made : ResponseFields × List ℕ = (
      record {
        request = r;
        user = user.0.0;
        scramble = scramble.0.0;
        database = parts.0.0.0;
        plugin = parts.0.0.1;
        attributes = parts.0.0.2;
      },
      parts.0.1,
    ) in
    subst (λ (y : ResponseFields × List ℕ). HoldsLogin y.0) (ok_same made x parts.2) (record {
      request = request;
      scramble = omega (arith, one.1, two.0);
      attributes = held;
    })
