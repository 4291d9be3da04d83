-- Answers that are put are read as their events.
use Rattle.std.proofs.Common.{◌≡◌, ◌<◌, ◌≤◌, ◌/◌, ◌%◌, ◌-◌, ◌^◌, ◌==◌, if◌then◌else◌, nat_le, ℕ, Bool, true, false}
use Rattle.std.proofs.Common.{List, [], ◌∷◌, ◌++◌, length, Option, None, Some, is_some, Ok}
use Rattle.std.proofs.Common.{refl, sym, ap, ◌∙◌, subst, append-nil, arith}
use Rattle.std.proofs.lemmas.Bool.{eqb-true, leb-true}
use Rattle.std.proofs.lemmas.List.{take_all}
use Rattle.std.proofs.lemmas.Nat.{and_assoc, and_mask}
use Rattle.std.specs.Int.RustNames.{bit_and}
use Rattle.bitflags.proofs.OnLiterals.{bitflags_on_literals}
use Rattle.byteorder.specs.Endian.{little_number}
use Rattle.mysql_auth.specs.Plugins.{Plugin}
use Rattle.mysql_authentication.proofs.FirstCause.{fields_passed, none_of_two, passed, same-false, same-true}
use Rattle.mysql_authentication.proofs.FirstCause.{three_passed}
use Rattle.mysql_handshake_response.proofs.AttributesBack.{attributes-back}
use Rattle.mysql_authentication.proofs.PluginsBack.{plugin-back}
use Rattle.mysql_authentication.proofs.Zeros.{front_whole}
use Rattle.mysql_authentication.specs.Events.{CutOff, LoggedIn, SecureRequest, Whole}
use Rattle.mysql_authentication.specs.Readings.{agrees_41, login_of, response_at, response_of}
use Rattle.mysql_authentication.specs.Statements.{HoldsAttributes, HoldsLogin, HoldsRequest, ResponsesReadBack}
use Rattle.mysql_authentication.specs.Written.{fields_cause, has_no_zero, if_some, names_itself, request_cause, same}
use Rattle.mysql_authentication.specs.Written.{scramble_cause, unless}
use Rattle.mysql_authentication.specs.declared.refusal.LoginRefusal.TheVariants.{NamelessFlags, NotAgreed}
use Rattle.mysql_authentication.specs.declared.refusal.LoginRefusal.TheVariants.{ReadsOtherwise, TooLong, ZeroByte}
use Rattle.mysql_buf.specs.FirstBytes.{first-enough}
use Rattle.mysql_buf.specs.Writing.{front, lenenc_str, u8_str}
use Rattle.mysql_handshake_response.specs.Attributes.{Attribute, attributes, attributes_at}
use Rattle.mysql_handshake_response.specs.Parts.{if_held, if_there, plugin_text, plugin_to_zero_at}
use Rattle.mysql_const.specs.MariadbCapabilities.{mariadb_capabilities}
use Rattle.mysql_field_constants.specs.Flags.{are_named, contains}
use Rattle.mysql_fields.specs.Forms.{fixed_number_at}
use Rattle.mysql_fields.specs.Laws.{done}
use Rattle.mysql_fields.specs.TextLaws.{lenenc_text_at-back, null_text_at-back, u8_text_at-back}
use Rattle.mysql_fields.specs.Texts.{lenenc_text_at, null_text, null_text_at, u8_text_at}
use Rattle.mysql_fields.specs.Wire.{Reading, or_end}
use Rattle.mysql_handshake.specs.Capabilities.{connect_attrs, connect_with_db, plugin_auth}
use Rattle.mysql_handshake.specs.Capabilities.{plugin_auth_lenenc_client_data, protocol_41, secure_connection, ssl}
use Rattle.mysql_handshake_response.specs.Responses.{ResponseFields, fields_by_at, named_parts_at, response_by}
use Rattle.mysql_handshake_response.specs.Responses.{response_to, response_to_at, scramble, scramble_at}
use Rattle.mysql_handshake_response.specs.SslRequestLaws.{ssl_request_at-back}
use Rattle.mysql_handshake_response.specs.SslRequests.{IsSslRequest, SslRequestFields, capability_bits, mariadb_bits}
use Rattle.mysql_handshake_response.specs.SslRequests.{ssl_request}

-- THE 32 BYTES

-- each of the 32 bits has a name
all_bits : (c : ℕ) → c < 2 ^ 32 → bit_and c capability_bits ≡ c
unfolding bitflags_on_literals
all_bits c small = and_mask c 32 ∙ omega arith

is_request : (r : SslRequestFields) → HoldsRequest r →
    are_named mariadb_capabilities r.mariadb_capabilities ≡ true → IsSslRequest r
is_request r h named = record {
  capabilities = h.capabilities;
  max_packet_size = h.max_packet_size;
  character_set = h.character_set;
  mariadb_capabilities = h.mariadb_capabilities;
  capabilities_named = all_bits r.capabilities h.capabilities;
  mariadb_named = eqb-true (bit_and r.mariadb_capabilities mariadb_bits) r.mariadb_capabilities named;
}

-- the first word of a number of four bytes
first_word : (c : ℕ) (rest : List ℕ) → fixed_number_at 2 (c % 256 ∷ c / 256 % 256 ∷ rest) ≡ Ok (c % 2 ^ 16, rest)
first_word c rest =
    let bytes : List ℕ = c % 256 ∷ c / 256 % 256 ∷ rest in
    let value : little_number 2 (c % 256 ∷ c / 256 % 256 ∷ rest) ≡ c % 2 ^ 16 = omega arith in
    ap or_end (first-enough 2 (little_number 2) (c % 256 ∷ c / 256 % 256 ∷ rest) (omega arith))
    ∙ ap (λ (n : ℕ). done (n, rest)) value

-- which says whether PROTOCOL_41 stands there
pub word_41 : (server c : ℕ) → bit_and (bit_and server (c % 2 ^ 16)) protocol_41 ≡
    bit_and (bit_and server c) protocol_41
word_41 server c =
    let low : bit_and (c % 2 ^ 16) protocol_41 ≡ bit_and c protocol_41 =
    ap (λ (n : ℕ). bit_and n protocol_41) (sym (and_mask c 16)) ∙ and_assoc protocol_41 c (2 ^ 16 - 1) in
    and_assoc protocol_41 server (c % 2 ^ 16) ∙ ap (bit_and server) low ∙ sym (and_assoc protocol_41 server c)

agrees : (server : ℕ) (r : SslRequestFields) (rest : List ℕ) →
    contains (bit_and server r.capabilities) protocol_41 ≡ true
    → agrees_41 server (fixed_number_at 2 (ssl_request r ++ rest)) ≡ true
unfolding ssl_request
agrees server r rest agreed =
    let same : contains (bit_and server (r.capabilities % 2 ^ 16)) protocol_41 ≡ true =
    ap (λ (n : ℕ). n == protocol_41) (word_41 server r.capabilities) ∙ agreed in
    ap (agrees_41 server) (first_word r.capabilities _) ∙ same

-- an answer that begins with such a request
begun : (server : ℕ) (r : SslRequestFields) (rest : List ℕ) → HoldsRequest r →
    are_named mariadb_capabilities r.mariadb_capabilities ≡ true
    → contains (bit_and server r.capabilities) protocol_41 ≡ true
    → response_at server (ssl_request r ++ rest) ≡ Ok (response_of server r (ssl_request r ++ rest))
unfolding response_at
begun server r rest h named agreed =
    rw (agrees server r rest agreed, ssl_request_at-back r rest (is_request r h named)) refl

-- THE FIELDS

scramble-back : (capabilities : ℕ) (text rest : List ℕ) → length text < 2 ^ 64 → scramble_cause capabilities text ≡ None
    → scramble_at capabilities (scramble capabilities text ++ rest) ≡ Ok (text, rest)
unfolding scramble_at scramble front
scramble-back capabilities text rest few none =
    go (contains capabilities plugin_auth_lenenc_client_data) (contains capabilities secure_connection) none where
      go : (lenenc counted : Bool) →
          (if lenenc then None else if counted then unless (nat_le (length text) 255) TooLong else
          unless (has_no_zero text) ZeroByte) ≡ None
          → (if lenenc then lenenc_text_at
          ((if lenenc then lenenc_str text else if counted then u8_str text else null_text
          text) ++ rest)
          else if counted then u8_text_at
          ((if lenenc then lenenc_str text else if counted then u8_str text else null_text
          text) ++ rest)
          else null_text_at ((if lenenc then lenenc_str text else if counted then u8_str text else
          null_text text) ++ rest))
          ≡ done (text, rest)
      go true counted none = lenenc_text_at-back text rest few
      go false true none =
          let short : length text ≤ 255 = leb-true (length text) 255 (passed (nat_le (length text) 255) TooLong none) in
          u8_text_at-back text rest ∙ ap (λ (t : List ℕ). done (t, rest)) (take_all 255 text short)
      go false false none =
          null_text_at-back text rest ∙
          ap (λ (t : List ℕ). done (t, rest))
          (front_whole text (passed (has_no_zero text) ZeroByte none))

-- a part that is held exactly where the capabilities name it
part-back : {X : Type 0} (there : Bool) (read_at : List ℕ → Reading X) (written : X →
    List ℕ) (part : Option X) (rest : List ℕ)
    → ((x : X) → part ≡ Some x → read_at (written x ++ rest) ≡ Ok (x, rest)) → same (is_some part) there ≡ true
    → if_there there read_at (if_held written part ++ rest) ≡ Ok (part, rest)
part-back true read_at written None rest back held = absurd cc
part-back true read_at written (Some x) rest back held = rw (back x refl) refl
part-back false read_at written None rest back held = refl
part-back false read_at written (Some x) rest back held = absurd cc

-- what stands behind the 32 bytes
abbrev behind : ℕ → ResponseFields → List ℕ
behind capabilities p = null_text p.user ++ (scramble capabilities p.scramble ++ (if_held null_text p.database ++
    (if_held plugin_text p.plugin ++ (if_held attributes p.attributes ++ []))))

text-back : (text : Option (List ℕ)) → if_some has_no_zero text ≡ true → (rest x : List ℕ) → text ≡ Some x →
    null_text_at (null_text x ++ rest) ≡ Ok (x, rest)
text-back text h rest x is =
    let whole : has_no_zero x ≡ true = ap (if_some has_no_zero) (sym is) ∙ h in
    null_text_at-back x rest ∙ ap (λ (t : List ℕ). done (t, rest)) (front_whole x whole)

named-back : (plugin : Option Plugin) → if_some names_itself plugin ≡ true →
    (rest : List ℕ) (x : Plugin) → plugin ≡ Some x →
    plugin_to_zero_at (plugin_text x ++ rest) ≡ Ok (x, rest)
named-back plugin h rest x is = plugin-back x rest (ap (if_some names_itself) (sym is) ∙ h)

all-back : (all : Option (List Attribute)) → HoldsAttributes all → (rest : List ℕ) (x : List Attribute) → all ≡ Some x →
    attributes_at (attributes x ++ rest) ≡ Ok (x, rest)
all-back all h rest x is =
    let held : HoldsAttributes (Some x) = subst HoldsAttributes is h in
    attributes-back x rest held

fields-back : (capabilities : ℕ) (p : ResponseFields) → HoldsLogin p → fields_cause capabilities p ≡ None →
    fields_by_at capabilities p.request (behind capabilities p) ≡ Ok (p, [])
unfolding fields_by_at named_parts_at
fields-back capabilities p h none =
    let all = fields_passed (has_no_zero p.user)
    (same (is_some p.database) (contains capabilities connect_with_db))
    (if_some has_no_zero p.database)
    (same (is_some p.plugin) (contains capabilities plugin_auth)) (if_some names_itself p.plugin)
    (same (is_some p.attributes) (contains capabilities connect_attrs))
    ZeroByte NotAgreed ZeroByte NotAgreed ReadsOtherwise NotAgreed (scramble_cause capabilities p.scramble) none in
    let three : List ℕ = if_held attributes p.attributes ++ [] in
    let two : List ℕ = if_held plugin_text p.plugin ++ (if_held attributes p.attributes ++ []) in
    let one : List ℕ = if_held null_text p.database ++
    (if_held plugin_text p.plugin ++ (if_held attributes p.attributes ++ [])) in
    rw (
      null_text_at-back p.user (scramble capabilities p.scramble ++ one),
      front_whole p.user all.0,
      scramble-back capabilities p.scramble one h.scramble all.1,
      part-back (contains capabilities connect_with_db) null_text_at null_text p.database two
          (text-back p.database all.3 two) all.2,
      part-back (contains capabilities plugin_auth) plugin_to_zero_at plugin_text p.plugin three
          (named-back p.plugin all.5 three) all.4,
      part-back (contains capabilities connect_attrs) attributes_at attributes p.attributes []
          (all-back p.attributes h.attributes []) all.6,
    ) refl

whole-back : (server : ℕ) (p : ResponseFields) → HoldsLogin p →
    are_named mariadb_capabilities p.request.mariadb_capabilities ≡ true
    → fields_cause (bit_and server p.request.capabilities) p ≡ None
    → response_to_at server (ssl_request p.request ++ behind (bit_and server p.request.capabilities) p) ≡ Ok (p, [])
unfolding response_to_at
whole-back server p h named none =
    let capabilities = bit_and server p.request.capabilities in
    rw (
      ssl_request_at-back p.request (behind (bit_and server p.request.capabilities) p)
          (is_request p.request h.request named),
      fields-back (bit_and server p.request.capabilities) p h none,
    ) refl

cut-back : (server : ℕ) (r : SslRequestFields) → HoldsRequest r →
    are_named mariadb_capabilities r.mariadb_capabilities ≡ true
    → login_of r (response_to_at server (ssl_request r ++ [])) ≡ CutOff r
unfolding response_to_at fields_by_at
cut-back server r h named = rw (ssl_request_at-back r [] (is_request r h named)) refl

-- what a request's causes say
abbrev Agreed : ℕ → Bool → SslRequestFields → Type 0
Agreed server asks r = (contains (bit_and server r.capabilities) protocol_41 ≡ true) ×
    (same (contains (bit_and server r.capabilities) ssl) asks ≡ true) ×
    (are_named mariadb_capabilities r.mariadb_capabilities ≡ true)

agreed : (server : ℕ) (asks : Bool) (r : SslRequestFields) → request_cause server asks r ≡ None → Agreed server asks r
agreed server asks r none =
    three_passed (contains (bit_and server r.capabilities) protocol_41)
    (same (contains (bit_and server r.capabilities) ssl) asks)
    (are_named mariadb_capabilities r.mariadb_capabilities) NotAgreed NotAgreed NamelessFlags none

secure : (server : ℕ) (r : SslRequestFields) → HoldsRequest r → request_cause server true r ≡ None →
    response_at server (ssl_request r) ≡ Ok (SecureRequest r)
secure server r h none =
    let all = agreed server true r none in
    ap (response_at server) (sym (append-nil (ssl_request r))) ∙ begun server r [] h all.2 all.0
    ∙ rw (same-true (contains (bit_and server r.capabilities) ssl) all.1) refl

cut : (server : ℕ) (r : SslRequestFields) → HoldsRequest r → request_cause server false r ≡ None →
    response_at server (ssl_request r) ≡ Ok (LoggedIn (CutOff r))
cut server r h none =
    let all = agreed server false r none in
    ap (response_at server) (sym (append-nil (ssl_request r))) ∙ begun server r [] h all.2 all.0
    ∙ rw (same-false (contains (bit_and server r.capabilities) ssl) all.1, cut-back server r h all.2) refl

whole : (server : ℕ) (p : ResponseFields) → HoldsLogin p → request_cause server false p.request ≡
    None → fields_cause (bit_and server p.request.capabilities) p ≡ None
    → response_at server (response_to server p) ≡ Ok (LoggedIn (Whole p))
unfolding response_by
whole server p h none fields =
    let all = agreed server false p.request none in
    begun server p.request (behind (bit_and server p.request.capabilities) p) h.request all.2 all.0
    ∙ rw (
      same-false (contains (bit_and server p.request.capabilities) ssl) all.1,
      whole-back server p h all.2 fields,
    ) refl

pub responses_read_back : ResponsesReadBack
responses_read_back server (SecureRequest r) holds none = secure server r holds none
responses_read_back server (LoggedIn (CutOff r)) holds none = cut server r holds none
responses_read_back server (LoggedIn (Whole p)) holds none =
    let both = none_of_two (request_cause server false p.request)
    (fields_cause (bit_and server p.request.capabilities) p) none in
    whole server p holds both.0 both.1
