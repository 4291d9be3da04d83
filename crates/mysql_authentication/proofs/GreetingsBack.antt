-- Greetings and refusals that are put are read as their events.
use Rattle.std.proofs.Common.{◌≡◌, ◌<◌, ◌-◌, ◌%◌, ◌==◌, ◌||◌, ℕ, max, Bool, true, false, not, List, [], ◌∷◌, ◌++◌}
use Rattle.std.proofs.Common.{length, slice_index_or, Option, None, Some, is_some, Ok}
use Rattle.std.proofs.Common.{refl, ap, append-nil, arith}
use Rattle.std.proofs.lemmas.Bool.{eqb-true, le-ltb}
use Rattle.mysql_authentication.proofs.FirstCause.{first_passed, not-true, passed, seven_passed}
use Rattle.mysql_authentication.proofs.HandshakesBack.{block-back, fixed-back}
use Rattle.mysql_authentication.proofs.Packets.{error-back}
use Rattle.mysql_authentication.proofs.Zeros.{front_whole, last_zero}
use Rattle.mysql_authentication.specs.Events.{Greeted, Rejected}
use Rattle.mysql_authentication.specs.Readings.{early_error_at, greeting_at}
use Rattle.mysql_authentication.specs.Statements.{GreetingsReadBack, HoldsError, HoldsHandshake}
use Rattle.mysql_authentication.specs.Written.{greeted_cause, has_no_zero, same}
use Rattle.mysql_authentication.specs.declared.refusal.LoginRefusal.TheVariants.{NamelessFlags, NotAgreed}
use Rattle.mysql_authentication.specs.declared.refusal.LoginRefusal.TheVariants.{ReadsOtherwise, ZeroByte}
use Rattle.mysql_const.specs.MariadbCapabilities.{mariadb_capabilities}
use Rattle.mysql_field_constants.specs.Flags.{all_status_flags, are_named, contains}
use Rattle.mysql_fields.specs.Laws.{bytes_at-back, fixed_number_at-back}
use Rattle.mysql_fields.specs.TextLaws.{null_text_at-back}
use Rattle.mysql_fields.specs.Texts.{null_text}
use Rattle.mysql_handshake.specs.Capabilities.{plugin_auth, secure_connection}
use Rattle.mysql_handshake.specs.Handshakes.{HandshakeFields, fixed, fixed_held, greeting, handshake_at, name_at}
use Rattle.mysql_handshake.specs.Handshakes.{name_held, scramble_at, scramble_fits, scramble_held}
use Rattle.mysql_server_packets.specs.Packets.{Error, ServerError, err_packet, server_error, sql_state}

-- the second scramble, which stands there where the capabilities name it
scramble-back : (there : Bool) (capabilities len : ℕ) (text : Option (List ℕ)) (rest : List ℕ) →
    contains capabilities secure_connection ≡ there
    → len < 256 → same (is_some text) there ≡ true → scramble_fits len text ≡ true
    → scramble_at capabilities len (scramble_held text ++ rest) ≡ Ok (text, rest)
unfolding scramble_at
scramble-back true capabilities len None rest is small held fits = absurd cc
scramble-back true capabilities len (Some text) rest is small held fits =
    let exact : length text ≡ max 13 (len - 8) = eqb-true (length text) (max 13 (len - 8)) fits in
    rw (is, le-ltb 247 (max 13 (len - 8)) (omega arith), bytes_at-back (max 13 (len - 8)) text rest exact) refl
scramble-back false capabilities len None rest is small held fits = rw is refl
scramble-back false capabilities len (Some text) rest is small held fits = absurd cc

-- the plugin's name, likewise
name-back : (there : Bool) (capabilities : ℕ) (name : Option (List ℕ)) → contains capabilities plugin_auth ≡ there
    → same (is_some name) there ≡ true → name_at capabilities (name_held name ++ []) ≡ Ok (name, [])
unfolding name_at
name-back true capabilities None is held = absurd cc
name-back true capabilities (Some name) is held = rw (is, append-nil (name ++ 0 ∷ []), last_zero name) refl
name-back false capabilities None is held = rw is refl
name-back false capabilities (Some name) is held = absurd cc

handshake-back : (p : HandshakeFields) → HoldsHandshake p → greeted_cause p ≡ None →
    handshake_at (greeting p) ≡ Ok (p, [])
unfolding handshake_at greeting
handshake-back p h none =
    let all = seven_passed (p.protocol_version == 10) (has_no_zero p.server_version)
    (are_named all_status_flags p.status_flags)
    (are_named mariadb_capabilities p.mariadb_ext_capabilities)
    (same (is_some p.scramble_2) (contains p.capabilities secure_connection))
    (same (is_some p.auth_plugin_name) (contains p.capabilities plugin_auth)) (scramble_fits p.data_length p.scramble_2)
    ReadsOtherwise ZeroByte NamelessFlags NamelessFlags NotAgreed NotAgreed ReadsOtherwise none in
    let name : List ℕ = name_held p.auth_plugin_name ++ [] in
    let scramble : List ℕ = scramble_held p.scramble_2 ++ (name_held p.auth_plugin_name ++ []) in
    let block : List ℕ = fixed (fixed_held p) ++ (scramble_held p.scramble_2 ++ (name_held p.auth_plugin_name ++ [])) in
    let fixed = fixed-back (fixed_held p) h.connection_id h.scramble_1 h.capabilities
    h.default_collation h.status_flags all.2 h.data_length
    h.mariadb_ext_capabilities all.3 in
    rw (
      fixed_number_at-back 1 p.protocol_version (null_text p.server_version ++ block) h.protocol_version,
      null_text_at-back p.server_version block,
      front_whole p.server_version all.1,
      block-back (fixed_held p) scramble h.scramble_1 fixed,
      scramble-back (contains p.capabilities secure_connection) p.capabilities p.data_length
          p.scramble_2 name refl h.data_length all.4 all.6,
      name-back (contains p.capabilities plugin_auth) p.capabilities p.auth_plugin_name refl all.5,
    ) refl

-- a greeting of version 10
by_version : (b : ℕ) (bytes : List ℕ) (p : HandshakeFields) → b ≡ 10 → handshake_at (b ∷ bytes) ≡
    Ok (p, []) → greeting_at (b ∷ bytes) ≡ Ok (Greeted p)
unfolding greeting_at
by_version b bytes p is back =
    let other : (b == 0xff) ≡ false = ap (λ (n : ℕ). n == 0xff) is in
    let ten : (b == 10) ≡ true = ap (λ (n : ℕ). n == 10) is in
    rw (other, ten, back) refl

greeted : (p : HandshakeFields) → HoldsHandshake p → greeted_cause p ≡ None → greeting_at (greeting p) ≡ Ok (Greeted p)
unfolding greeting
greeted p h none =
    let version = first_passed (p.protocol_version == 10) ReadsOtherwise _ none in
    let ten : p.protocol_version ≡ 10 = eqb-true p.protocol_version 10 version.0 in
    by_version (p.protocol_version % 256) _ p (omega arith) (handshake-back p h none)

-- an error before any capabilities are known
early : (code : ℕ) (state : Option (List ℕ)) (message : List ℕ) →
    (is_some state || not (slice_index_or message 0 0 == 35)) ≡ true →
    HoldsError (record { error_code = code; sql_state = state; error_message = message })
    → early_error_at (err_packet (Error (record { error_code = code; sql_state = state; error_message = message })))
    ≡ Ok (record { error_code = code; sql_state = state; error_message = message }, [])
unfolding early_error_at server_error sql_state
early code None message marked h =
    let bare : (slice_index_or message 0 0 == 35) ≡ false = not-true (slice_index_or message 0 0 == 35) marked in
    let back = error-back 0 (record { error_code = code; sql_state = None; error_message = message }) h refl in
    rw (append-nil message, append-nil message, bare) (rw (append-nil message, append-nil message) at back)
early code (Some state) message marked h =
    error-back 0x200 (record { error_code = code; sql_state = Some state; error_message = message }) h refl

rejected : (e : ServerError) → HoldsError e →
    (is_some e.sql_state || not (slice_index_or e.error_message 0 0 == 35)) ≡ true →
    greeting_at (err_packet (Error e)) ≡ Ok (Rejected e)
unfolding greeting_at
rejected e h marked = rw (early e.error_code e.sql_state e.error_message marked h) refl

pub greetings_read_back : GreetingsReadBack
greetings_read_back (Rejected e) h none =
    rejected e h (passed (is_some e.sql_state || not (slice_index_or e.error_message 0 0 == 35)) ReadsOtherwise none)
greetings_read_back (Greeted p) h none = greeted p h none
