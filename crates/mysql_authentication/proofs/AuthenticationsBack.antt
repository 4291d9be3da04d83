-- Payloads of an authentication that are put are read as their events.
use Rattle.std.proofs.Common.{◌≡◌, ◌<◌, ◌==◌, ◌&&◌, ◌||◌, ℕ, true, not, List, [], ◌∷◌, ◌++◌, length, None, is_some, Ok}
use Rattle.std.proofs.Common.{refl, ap, ◌∙◌, append-nil, length-append, arith}
use Rattle.std.specs.List.{before_first}
use Rattle.mysql_buf.specs.Reading.{is_zero}
use Rattle.mysql_fields.specs.Laws.{done}
use Rattle.mysql_fields.specs.Texts.{null_text}
use Rattle.mysql_auth.specs.PacketLaws.{next_factor_at-back, switch_at-back}
use Rattle.mysql_auth.specs.Packets.{SwitchFields, headed, next_factor, next_factor_at, switch, switch_at, switch_kept}
use Rattle.mysql_authentication.proofs.FirstCause.{both_passed, not-true, passed, three_passed}
use Rattle.mysql_authentication.proofs.Packets.{both-hold, error-back, ok-back}
use Rattle.mysql_authentication.proofs.Zeros.{front_whole}
use Rattle.mysql_authentication.specs.Events.{Accepted, AuthMore, AuthSwitch, Denied, NextFactor, OldAuthSwitch}
use Rattle.mysql_authentication.specs.Events.{PluginData}
use Rattle.mysql_authentication.specs.Readings.{authentication_at, multi_factor, or_fault, switch_of}
use Rattle.mysql_authentication.specs.Statements.{AuthenticationsReadBack, HoldsError, HoldsOk}
use Rattle.mysql_authentication.specs.Written.{accepted_cause, authentication_cause, has_no_zero, is_bare, is_normal}
use Rattle.mysql_authentication.specs.Written.{same}
use Rattle.mysql_authentication.specs.declared.fault.LoginFault.TheVariants.{BadSwitch}
use Rattle.mysql_authentication.specs.declared.refusal.LoginRefusal.TheVariants.{NamelessFlags, NotAgreed}
use Rattle.mysql_authentication.specs.declared.refusal.LoginRefusal.TheVariants.{ReadsOtherwise, ZeroByte}
use Rattle.mysql_field_constants.specs.Flags.{contains}
use Rattle.mysql_ok_packets.specs.OkPackets.{OkPacket}
use Rattle.mysql_ok_packets.specs.Written.{is_named_status, ok_packet_bytes, tells_state}
use Rattle.mysql_server_packets.specs.Packets.{Error, ServerError, err_packet}

accepted : (capabilities : ℕ) (p : OkPacket) → HoldsOk p → accepted_cause capabilities p ≡ None →
    authentication_at capabilities (ok_packet_bytes 0 capabilities p) ≡ Ok (Accepted p)
unfolding authentication_at ok_packet_bytes
accepted capabilities p holds none =
    let all = three_passed (is_named_status p.status_flags)
    (not (is_some p.session_state_info) || tells_state capabilities p.status_flags) (is_normal p)
    NamelessFlags NotAgreed ReadsOtherwise none in
    rw (ok-back capabilities p holds all.0 all.1 all.2) refl

denied : (capabilities : ℕ) (e : ServerError) → HoldsError e → authentication_cause capabilities (Denied e) ≡ None →
    authentication_at capabilities (err_packet (Error e)) ≡ Ok (Denied e)
unfolding authentication_at
denied capabilities e holds none =
    rw (error-back capabilities e holds
    (passed (same (is_some e.sql_state) (contains capabilities 0x200)) NotAgreed none)) refl

kept_whole : (p : SwitchFields) → has_no_zero p.auth_plugin ≡ true → switch_kept p ≡ p
kept_whole p h = rw (front_whole p.auth_plugin h) refl

switch_of-more : (b : ℕ) (bytes : List ℕ) → 0 < length bytes → switch_of (b ∷ bytes) ≡
    or_fault BadSwitch AuthSwitch (switch_at (b ∷ bytes))
switch_of-more b [] h = absurd (omega arith)
switch_of-more b (c ∷ bytes) h = refl

switched : (capabilities : ℕ) (p : SwitchFields) → has_no_zero p.auth_plugin ≡ true →
    authentication_at capabilities (switch p) ≡ Ok (AuthSwitch p)
unfolding authentication_at switch
switched capabilities p h =
    let bytes = null_text p.auth_plugin ++ (p.plugin_data ++ []) in
    let some : 0 < length (null_text p.auth_plugin ++ (p.plugin_data ++ [])) =
    omega (
      arith,
      length-append (null_text p.auth_plugin) (p.plugin_data ++ []),
      length-append (before_first is_zero p.auth_plugin) (0 ∷ []),
    ) in
    let read : switch_at (switch p) ≡ done (switch_kept p, []) = rw append-nil at (switch_at-back p [] refl) in
    switch_of-more 254 bytes some ∙ ap (or_fault BadSwitch AuthSwitch) read ∙ rw (kept_whole p h) refl

factor : (capabilities : ℕ) (p : SwitchFields) → contains capabilities multi_factor ≡ true →
    has_no_zero p.auth_plugin ≡ true →
    authentication_at capabilities (next_factor p) ≡ Ok (NextFactor p)
unfolding authentication_at next_factor
factor capabilities p agreed h =
    let read : next_factor_at (next_factor p) ≡ done (switch_kept p, []) =
    rw append-nil at (next_factor_at-back p [] refl) in
    rw agreed (ap (or_fault BadSwitch NextFactor) read ∙ rw (kept_whole p h) refl)

more : (capabilities : ℕ) (bytes : List ℕ) → authentication_at capabilities (headed 1 bytes) ≡ Ok (AuthMore bytes)
unfolding authentication_at headed
more capabilities bytes = rw (append-nil bytes) refl

bare : (capabilities : ℕ) (bytes : List ℕ) → is_bare capabilities bytes ≡ true →
    authentication_at capabilities bytes ≡ Ok (PluginData bytes)
unfolding authentication_at
bare capabilities [] h = cc
bare capabilities (b ∷ bytes) h =
    let ok = both-hold (not (b == 0)) _ h in
    let err = both-hold (not (b == 0xff)) _ ok.1 in
    let switch = both-hold (not (b == 0xfe)) _ err.1 in
    let more = both-hold (not (b == 1)) _ switch.1 in
    rw (
      not-true (b == 0) ok.0,
      not-true (b == 0xff) err.0,
      not-true (b == 0xfe) switch.0,
      not-true (b == 1) more.0,
      not-true (b == 2 && contains capabilities multi_factor) more.1,
    ) refl

pub authentications_read_back : AuthenticationsReadBack
unfolding authentication_at
authentications_read_back capabilities (Accepted p) holds none = accepted capabilities p holds none
authentications_read_back capabilities (Denied e) holds none = denied capabilities e holds none
authentications_read_back capabilities (AuthSwitch p) holds none =
    switched capabilities p (passed (has_no_zero p.auth_plugin) ZeroByte none)
authentications_read_back capabilities OldAuthSwitch holds none = refl
authentications_read_back capabilities (AuthMore bytes) holds none = more capabilities bytes
authentications_read_back capabilities (NextFactor p) holds none =
    let all = both_passed (contains capabilities multi_factor) (has_no_zero p.auth_plugin) NotAgreed ZeroByte none in
    factor capabilities p all.0 all.1
authentications_read_back capabilities (PluginData bytes) holds none =
    bare capabilities bytes (passed (is_bare capabilities bytes) ReadsOtherwise none)
