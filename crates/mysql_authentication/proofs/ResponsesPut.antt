-- Events that a client's first payload was read as are put.
use Rattle.std.proofs.Common.{◌≡◌, ◌+◌, ◌%◌, ◌^◌, ◌==◌, if◌then◌else◌, nat_le, nat_lt, ℕ, Bool, true, false, List}
use Rattle.std.proofs.Common.{length, drop, replicate, codes, Option, None, Some, is_some, Ok, Err}
use Rattle.std.proofs.Common.{refl, sym, ap, ◌∙◌, subst, arith, inl, inr}
use Rattle.std.proofs.lemmas.Bool.{cases_lt, le-leb}
use Rattle.std.proofs.lemmas.Nat.{and_assoc}
use Rattle.std.specs.Int.RustNames.{bit_and}
use Rattle.std.specs.List.{after_first, before_first, position_or_len}
use Rattle.std.specs.Str.{bytes_eq}
use Rattle.bitflags.proofs.OnLiterals.{bitflags_on_literals}
use Rattle.byteorder.specs.Endian.{little_number}
use Rattle.mysql_auth.specs.Plugins.{CachingSha2, ClearPassword, Ed25519, NativePassword, OldPassword, Other, Parsec}
use Rattle.mysql_auth.specs.Plugins.{Plugin, plugin_named, without_zero}
use Rattle.mysql_authentication.proofs.GreetingsPut.{dropped, length_own}
use Rattle.mysql_authentication.proofs.PluginsBack.{no_last_zero}
use Rattle.mysql_authentication.proofs.Read.{null_own}
use Rattle.mysql_authentication.proofs.ResponsesBack.{word_41}
use Rattle.mysql_authentication.proofs.Zeros.{front_has_none}
use Rattle.mysql_authentication.specs.Events.{LoggedIn, Response, SecureRequest}
use Rattle.mysql_authentication.specs.Readings.{agrees_41, by_request, login_of, response_at, response_of}
use Rattle.mysql_authentication.specs.Statements.{RefusedResponsesReadOtherwise, ResponsesArePut}
use Rattle.mysql_authentication.specs.Written.{fields_cause, has_no_zero, if_some, names_itself, request_cause}
use Rattle.mysql_authentication.specs.Written.{response_bytes, response_cause, same, scramble_cause, unless}
use Rattle.mysql_authentication.specs.declared.fault.LoginFault.TheVariants.{OldProtocol}
use Rattle.mysql_authentication.specs.declared.refusal.LoginRefusal.TheVariants.{TooLong, ZeroByte}
use Rattle.mysql_buf.specs.Bytes.{AreBytes}
use Rattle.mysql_buf.specs.FirstBytes.{first-enough, first-short}
use Rattle.mysql_buf.specs.Reading.{bytes_at as buffer_bytes_at, is_zero, little_at, then_at}
use Rattle.mysql_handshake_response.proofs.AttributesHeld.{bytes_behind}
use Rattle.mysql_handshake_response.specs.Attributes.{Attribute, attributes_at}
use Rattle.mysql_handshake_response.specs.Parts.{if_there, plugin_to_zero_at}
use Rattle.mysql_const.specs.MariadbCapabilities.{mariadb_capabilities}
use Rattle.mysql_field_constants.specs.Constants.{skipped_at}
use Rattle.mysql_field_constants.specs.Flags.{are_named, contains}
use Rattle.mysql_fields.specs.Forms.{fixed_number_at}
use Rattle.mysql_fields.specs.Laws.{bind_ok, done, eaten_first, ok_same}
use Rattle.mysql_fields.specs.Texts.{lenenc_text_at, null_text_at, u8_text_at}
use Rattle.mysql_fields.specs.Wire.{Reading, lacks, or_end}
use Rattle.mysql_fields.specs.declared.error.WireError.TheVariants.{UnexpectedEof}
use Rattle.mysql_handshake.specs.Capabilities.{connect_attrs, connect_with_db, plugin_auth}
use Rattle.mysql_handshake.specs.Capabilities.{plugin_auth_lenenc_client_data, protocol_41, secure_connection, ssl}
use Rattle.mysql_handshake_response.specs.Responses.{ResponseFields, fields_by_at, named_parts_at, response_to_at}
use Rattle.mysql_handshake_response.specs.Responses.{scramble_at}
use Rattle.mysql_handshake_response.specs.SslRequestLaws.{ssl_request_at-sized}
use Rattle.mysql_handshake_response.specs.SslRequests.{SslRequestFields, capability_bits, mariadb_bits, ssl_fields_at}
use Rattle.mysql_handshake_response.specs.SslRequests.{ssl_request_at}

-- BYTES

-- the number that the first bytes are
pub number_own : (n : ℕ) (bytes : List ℕ) (x : ℕ × List ℕ) → fixed_number_at n bytes ≡ Ok x →
    (x.0 ≡ little_number n bytes) × (x.1 ≡ drop n bytes)
number_own n bytes x h = elim (cases_lt (length bytes) n) [
  | inl lt ↦ absurd (let no = ap or_end (first-short n (little_number n) bytes lt) in cc)
  | inr le ↦
      let whole = ap or_end (first-enough n (little_number n) bytes le) in
      let same : (little_number n bytes, drop n bytes) ≡ x =
      ok_same (little_number n bytes, drop n bytes) x (sym whole ∙ h) in
      subst (λ (y : ℕ × List ℕ). (y.0 ≡ little_number n bytes) × (y.1 ≡ drop n bytes)) same (refl, refl)
]

-- what is left behind a zero
pub null_rest : (bytes : List ℕ) (x : List ℕ × List ℕ) → null_text_at bytes ≡ Ok x → x.1 ≡
    drop (position_or_len is_zero bytes + 1) bytes
null_rest bytes x h = go (nat_lt (position_or_len is_zero bytes) (length bytes)) h where
  go : (b : Bool) → (if b then done (before_first is_zero bytes, after_first is_zero bytes) else Err
      UnexpectedEof) ≡ done x
      → x.1 ≡ drop (position_or_len is_zero bytes + 1) bytes
  go true e = subst (λ (y : List ℕ × List ℕ). y.1 ≡ drop (position_or_len is_zero bytes + 1) bytes)
      (ok_same (before_first is_zero bytes, after_first is_zero bytes) x e) refl
  go false e = absurd cc

-- THE 32 BYTES

-- what the 32 bytes say of PROTOCOL_41, and that MariaDB's capabilities have names
abbrev pub Requests : ℕ → List ℕ → SslRequestFields → Type 0
Requests server bytes r =
    (bit_and (bit_and server r.capabilities) protocol_41 ≡
    bit_and (bit_and server (little_number 4 bytes)) protocol_41) ×
    (are_named mariadb_capabilities r.mariadb_capabilities ≡ true)

masked : (server n : ℕ) → bit_and (bit_and server (bit_and n capability_bits)) protocol_41 ≡
    bit_and (bit_and server n) protocol_41
unfolding bitflags_on_literals
masked server n =
    let inner : bit_and (bit_and n capability_bits) protocol_41 ≡ bit_and n protocol_41 =
    and_assoc protocol_41 n capability_bits in
    and_assoc protocol_41 server (bit_and n capability_bits) ∙ ap (bit_and server) inner ∙
    sym (and_assoc protocol_41 server n)

fields_own : (server : ℕ) (bytes : List ℕ) (x : SslRequestFields × List ℕ) → ssl_fields_at bytes ≡
    Ok x → Requests server bytes x.0
unfolding ssl_fields_at
fields_own server bytes x h =
    let capabilities = bind_ok (fixed_number_at 4 bytes) _ x h in
    let size = bind_ok (fixed_number_at 4 capabilities.0.1) _ x capabilities.2 in
    let set = bind_ok (fixed_number_at 1 size.0.1) _ x size.2 in
    let filler = bind_ok (skipped_at 19 set.0.1) _ x set.2 in
    let mariadb = bind_ok (fixed_number_at 4 filler.0.1) _ x filler.2 in
    let made : SslRequestFields × List ℕ = (
      record {
        capabilities = bit_and capabilities.0.0 capability_bits;
        max_packet_size = size.0.0;
        character_set = set.0.0;
        mariadb_capabilities = bit_and mariadb.0.0 mariadb_bits;
      },
      mariadb.0.1,
    ) in
    let number = number_own 4 bytes capabilities.0 capabilities.1 in
    let said = masked server capabilities.0.0 ∙ ap (λ (n : ℕ). bit_and (bit_and server n) protocol_41) number.0 in
    subst (λ (y : SslRequestFields × List ℕ). Requests server bytes y.0) (ok_same made x mariadb.2)
    (said, dropped mariadb.0.0 mariadb_bits)

request_own : (server : ℕ) (bytes : List ℕ) (x : SslRequestFields × List ℕ) → ssl_request_at bytes ≡
    Ok x → Requests server bytes x.0
unfolding ssl_request_at
request_own server bytes x h = go (lacks (Some 32) (length bytes)) h where
  go : (short : Bool) → (if short then Err UnexpectedEof else ssl_fields_at bytes) ≡ Ok x → Requests server bytes x.0
  go true e = absurd cc
  go false e = fields_own server bytes x e

-- the first word says whether PROTOCOL_41 stands there
agrees_own : (server : ℕ) (bytes : List ℕ) → AreBytes bytes → agrees_41 server (fixed_number_at 2 bytes) ≡ true →
    contains (bit_and server (little_number 4 bytes)) protocol_41 ≡ true
agrees_own server bytes all h = go (fixed_number_at 2 bytes) refl h where
  go : (r : Reading ℕ) → fixed_number_at 2 bytes ≡ r → agrees_41 server r ≡ true →
      contains (bit_and server (little_number 4 bytes)) protocol_41 ≡ true
  go (Err e) is said = absurd cc
  go (Ok x) is said =
      let number = number_own 2 bytes x is in
      let low = all 0 in
      let high = all 1 in
      let word : x.0 ≡ little_number 4 bytes % 2 ^ 16 = omega (arith, number.0, low, high) in
      let same : bit_and (bit_and server x.0) protocol_41 ≡
      bit_and (bit_and server (little_number 4 bytes)) protocol_41 =
      ap (λ (n : ℕ). bit_and (bit_and server n) protocol_41) word ∙ word_41 server (little_number 4 bytes) in
      ap (λ (n : ℕ). n == protocol_41) (sym same) ∙ said

-- THE FIELDS

counted_own : (bytes : List ℕ) (x : List ℕ × List ℕ) → AreBytes bytes → u8_text_at bytes ≡ Ok x →
    nat_le (length x.0) 255 ≡ true
counted_own bytes x all h = go (little_at 1 bytes) refl h where
  go : (o : Option (ℕ × List ℕ)) → little_at 1 bytes ≡ o → or_end (then_at o buffer_bytes_at) ≡
      Ok x → nat_le (length x.0) 255 ≡ true
  go None is e = absurd cc
  go (Some n) is e =
      let number = number_own 1 bytes n (ap or_end is) in
      let len = length_own n.0 n.1 x e in
      let low = all 0 in
      le-leb (length x.0) 255 (omega (arith, number.0, len, low))

scramble_own : (capabilities : ℕ) (bytes : List ℕ) (x : List ℕ × List ℕ) → AreBytes bytes →
    scramble_at capabilities bytes ≡ Ok x → scramble_cause capabilities x.0 ≡ None
unfolding scramble_at
scramble_own capabilities bytes x all h =
    go (contains capabilities plugin_auth_lenenc_client_data)
    (contains capabilities secure_connection) h where
      go : (lenenc counted : Bool) →
          (if lenenc then lenenc_text_at bytes else if counted then u8_text_at bytes else null_text_at
          bytes) ≡ Ok x
          → (if lenenc then None else if counted then unless (nat_le (length x.0) 255) TooLong else
          unless (has_no_zero x.0) ZeroByte) ≡ None
      go true counted e = refl
      go false true e = rw (counted_own bytes x all e) refl
      go false false e = rw (null_own bytes x e) refl

-- a part that was read passes what it passes alone, and is held exactly where it stands there
part_own : {X : Type 0} (test : X → Bool) (there : Bool) (read_at : List ℕ →
    Reading X) (bytes : List ℕ) (x : Option X × List ℕ)
    → ((y : X × List ℕ) → read_at bytes ≡ Ok y → test y.0 ≡ true) → if_there there read_at bytes ≡ Ok x
    → (same (is_some x.0) there ≡ true) × (if_some test x.0 ≡ true)
part_own {X = X} test true read_at bytes x own h =
    let part = bind_ok (read_at bytes) _ x h in
    let made : Option X × List ℕ = (Some part.0.0, part.0.1) in
    subst (λ (y : Option X × List ℕ). (same (is_some y.0) true ≡ true) × (if_some test y.0 ≡ true))
    (ok_same made x part.2) (refl, own part.0 part.1)
part_own {X = X} test false read_at bytes x own h =
    let made : Option X × List ℕ = (None, bytes) in
    subst (λ (y : Option X × List ℕ). (same (is_some y.0) false ≡ true) × (if_some test y.0 ≡ true))
    (ok_same made x h) (refl, refl)

-- the plugin that a name is read as names itself
named_own : (name : List ℕ) → has_no_zero name ≡ true → names_itself (plugin_named (without_zero name)) ≡ true
named_own name whole =
    ap (λ (n : List ℕ). names_itself (plugin_named n)) (no_last_zero name whole)
    ∙ go (bytes_eq name (codes "mysql_old_password"))
    (bytes_eq name (codes "mysql_native_password"))
    (bytes_eq name (codes "caching_sha2_password"))
    (bytes_eq name (codes "mysql_clear_password")) (bytes_eq name (codes "client_ed25519"))
    (bytes_eq name (codes "parsec")) refl refl refl refl refl refl where
      go : (a b c d e f : Bool) → bytes_eq name (codes "mysql_old_password") ≡ a →
          bytes_eq name (codes "mysql_native_password") ≡ b
          → bytes_eq name (codes "caching_sha2_password") ≡ c →
          bytes_eq name (codes "mysql_clear_password") ≡ d →
          bytes_eq name (codes "client_ed25519") ≡ e
          → bytes_eq name (codes "parsec") ≡ f
          → names_itself (if a then OldPassword else if b then NativePassword else if c then
          CachingSha2 else if d then ClearPassword
          else if e then Ed25519 else if f then Parsec 0 (replicate 18 0) else Other name) ≡ true
      go true b c d e f ia ib ic id ie iff = refl
      go false true c d e f ia ib ic id ie iff = refl
      go false false true d e f ia ib ic id ie iff = refl
      go false false false true e f ia ib ic id ie iff = refl
      go false false false false true f ia ib ic id ie iff = refl
      go false false false false false true ia ib ic id ie iff = refl
      go false false false false false false ia ib ic id ie ig =
          rw (whole, no_last_zero name whole, ia, ib, ic, id, ie, ig) refl

plugin_own : (bytes : List ℕ) (x : Plugin × List ℕ) → plugin_to_zero_at bytes ≡ Ok x → names_itself x.0 ≡ true
plugin_own bytes x h =
    let made : Plugin × List ℕ =
    (plugin_named (without_zero (before_first is_zero bytes)), after_first is_zero bytes) in
    subst (λ (y : Plugin × List ℕ). names_itself y.0 ≡ true) (ok_same made x h)
    (named_own (before_first is_zero bytes) (front_has_none bytes))

abbrev pub PartsFit : ℕ → Option (List ℕ) × Option Plugin × Option (List Attribute) → Type 0
PartsFit capabilities x = (same (is_some x.0) (contains capabilities connect_with_db) ≡ true) ×
    (if_some has_no_zero x.0 ≡ true) ×
    (same (is_some x.1) (contains capabilities plugin_auth) ≡ true) × (if_some names_itself x.1 ≡ true) ×
    (same (is_some x.2) (contains capabilities connect_attrs) ≡ true)

parts_own : (capabilities : ℕ) (bytes : List ℕ)
    (x : (Option (List ℕ) × Option Plugin × Option (List Attribute)) × List ℕ) →
    named_parts_at capabilities bytes ≡ Ok x → PartsFit capabilities x.0
unfolding named_parts_at
parts_own capabilities bytes x h =
    let database = bind_ok (if_there (contains capabilities connect_with_db) null_text_at bytes) _ x h in
    let plugin = bind_ok (if_there (contains capabilities plugin_auth) plugin_to_zero_at database.0.1) _ x database.2 in
    let attributes = bind_ok (if_there (contains capabilities connect_attrs) attributes_at plugin.0.1) _ x plugin.2 in
    let made : (Option (List ℕ) × Option Plugin × Option (List Attribute)) × List ℕ =
    ((database.0.0, plugin.0.0, attributes.0.0), attributes.0.1) in
    let one = part_own has_no_zero (contains capabilities connect_with_db) null_text_at bytes
    database.0 (null_own bytes) database.1 in
    let two = part_own names_itself (contains capabilities plugin_auth) plugin_to_zero_at
    database.0.1 plugin.0 (plugin_own database.0.1) plugin.1 in
    let three = part_own (λ _. true) (contains capabilities connect_attrs) attributes_at plugin.0.1
    attributes.0 (λ _ _. refl) attributes.1 in
    subst (λ (y : (Option (List ℕ) × Option Plugin × Option (List Attribute)) ×
    List ℕ). PartsFit capabilities y.0) (ok_same made x attributes.2)
    (one.0, one.1, two.0, two.1, three.0)

-- all fields behind a request
behind_own : (capabilities : ℕ) (r : SslRequestFields) (bytes : List ℕ) (x : ResponseFields ×
    List ℕ) → AreBytes bytes → fields_by_at capabilities r bytes ≡ Ok x
    → (x.0.request ≡ r) × (fields_cause capabilities x.0 ≡ None)
unfolding fields_by_at
behind_own capabilities r bytes x all h =
    let user = bind_ok (null_text_at bytes) _ x h in
    let scramble = bind_ok (scramble_at capabilities user.0.1) _ x user.2 in
    let parts = bind_ok (named_parts_at capabilities scramble.0.1) _ x scramble.2 in
    let made : ResponseFields × List ℕ = (
      record {
        request = r;
        user = user.0.0;
        scramble = scramble.0.0;
        database = parts.0.0.0;
        plugin = parts.0.0.1;
        attributes = parts.0.0.2;
      },
      parts.0.1,
    ) in
    let left = subst AreBytes (sym (null_rest bytes user.0 user.1))
    (bytes_behind (position_or_len is_zero bytes + 1) bytes all) in
    let fit = parts_own capabilities scramble.0.1 parts.0 parts.1 in
    subst (λ (y : ResponseFields × List ℕ). (y.0.request ≡ r) ×
    (fields_cause capabilities y.0 ≡ None)) (ok_same made x parts.2) (
      refl,
      rw (
        null_own bytes user.0 user.1,
        scramble_own capabilities user.0.1 scramble.0 left scramble.1,
        fit.0,
        fit.1,
        fit.2,
        fit.3,
        fit.4,
      ) refl,
    )

-- THE WHOLE PAYLOAD

abbrev pub IsPut : ℕ → Response → Type 0
IsPut server event = response_cause server event ≡ None

no_cause : (server : ℕ) (asks : Bool) (r : SslRequestFields) →
    contains (bit_and server r.capabilities) protocol_41 ≡ true
    → contains (bit_and server r.capabilities) ssl ≡ asks →
    are_named mariadb_capabilities r.mariadb_capabilities ≡ true → request_cause server asks r ≡
    None
no_cause server true r agreed is named = rw (agreed, is, named) refl
no_cause server false r agreed is named = rw (agreed, is, named) refl

whole_own : (server : ℕ) (bytes : List ℕ) (r : SslRequestFields) (rest : List ℕ)
    (x : ResponseFields × List ℕ) → AreBytes rest
    → ssl_request_at bytes ≡ Ok (r, rest) → response_to_at server bytes ≡ Ok x
    → (x.0.request ≡ r) × (fields_cause (bit_and server r.capabilities) x.0 ≡ None)
unfolding response_to_at
whole_own server bytes r rest x all is h =
    let request = bind_ok (ssl_request_at bytes) _ x h in
    let same : request.0 ≡ (r, rest) = ok_same request.0 (r, rest) (sym request.1 ∙ is) in
    let read : fields_by_at (bit_and server r.capabilities) r rest ≡ Ok x =
    subst (λ (y : SslRequestFields × List ℕ). fields_by_at (bit_and server y.0.capabilities) y.0
    y.1 ≡ Ok x) same request.2 in
    behind_own (bit_and server r.capabilities) r rest x all read

logged_in : (server : ℕ) (r : SslRequestFields) (response : Reading ResponseFields) →
    request_cause server false r ≡ None
    → ((x : ResponseFields × List ℕ) → response ≡ Ok x → (x.0.request ≡ r) ×
    (fields_cause (bit_and server r.capabilities) x.0 ≡ None))
    → IsPut server (LoggedIn (login_of r response))
logged_in server r (Ok x) none own =
    let parts = own x refl in
    let begins : request_cause server false x.0.request ≡ None =
    subst (λ (q : SslRequestFields). request_cause server false q ≡ None) (sym parts.0) none in
    let fits : fields_cause (bit_and server x.0.request.capabilities) x.0 ≡ None =
    subst (λ (q : SslRequestFields). fields_cause (bit_and server q.capabilities) x.0 ≡ None) (sym parts.0) parts.1 in
    rw (begins, fits) refl
logged_in server r (Err e) none own = none

put_of : (server : ℕ) (bytes : List ℕ) (r : SslRequestFields) (rest : List ℕ) (with_ssl : Bool) →
    contains (bit_and server r.capabilities) ssl ≡ with_ssl
    → AreBytes rest → ssl_request_at bytes ≡ Ok (r, rest) → contains (bit_and server r.capabilities) protocol_41 ≡ true
    → are_named mariadb_capabilities r.mariadb_capabilities ≡ true
    → IsPut server (if with_ssl then SecureRequest r else LoggedIn (login_of r (response_to_at server bytes)))
put_of server bytes r rest true with_ssl all is agreed named = no_cause server true r agreed with_ssl named
put_of server bytes r rest false with_ssl all is agreed named =
    logged_in server r (response_to_at server bytes) (no_cause server false r agreed with_ssl named)
    (λ x h. whole_own server bytes r rest x all is h)

read_of : (server : ℕ) (bytes : List ℕ) (event : Response) (request : Reading SslRequestFields) →
    ssl_request_at bytes ≡ request → AreBytes bytes
    → contains (bit_and server (little_number 4 bytes)) protocol_41 ≡ true →
    by_request server bytes request ≡ Ok event → IsPut server event
read_of server bytes event (Err e) is all agreed h = absurd cc
read_of server bytes event (Ok x) is all agreed h =
    let said = request_own server bytes x is in
    let has : contains (bit_and server x.0.capabilities) protocol_41 ≡ true =
    ap (λ (n : ℕ). n == protocol_41) said.0 ∙ agreed in
    let rest : x.1 ≡ drop 32 bytes = eaten_first 32 ssl_request_at bytes ssl_request_at-sized x.0 x.1 is in
    let same : response_of server x.0 bytes ≡ event = cc in
    subst (IsPut server) same (put_of server bytes x.0 x.1 (contains (bit_and server x.0.capabilities) ssl) refl
    (subst AreBytes (sym rest) (bytes_behind 32 bytes all)) is has said.1)

by_agreement : (server : ℕ) (bytes : List ℕ) (event : Response) (agrees : Bool) →
    agrees_41 server (fixed_number_at 2 bytes) ≡ agrees → AreBytes bytes
    → (if agrees then by_request server bytes (ssl_request_at bytes) else Err OldProtocol) ≡
    Ok event → IsPut server event
by_agreement server bytes event true is all h =
    read_of server bytes event (ssl_request_at bytes) refl all (agrees_own server bytes all is) h
by_agreement server bytes event false is all h = absurd cc

pub responses_are_put : ResponsesArePut
unfolding response_at
responses_are_put server bytes event all h =
    by_agreement server bytes event (agrees_41 server (fixed_number_at 2 bytes)) refl all h

pub refused_responses_read_otherwise : RefusedResponsesReadOtherwise
refused_responses_read_otherwise server event cause all refused h =
    let none = responses_are_put server (response_bytes server event) event all h in
    absurd cc
