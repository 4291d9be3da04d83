-- Events that a payload of an authentication was read as are put.
use Rattle.std.proofs.Common.{◌≡◌, ◌<◌, ◌^◌, ◌==◌, ◌||◌, ◌&&◌, if◌then◌else◌, ℕ, zero, suc, Bool, true, false, not}
use Rattle.std.proofs.Common.{List, [], ◌∷◌, length, Option, None, Some, is_some, Ok}
use Rattle.std.proofs.Common.{refl, ap, subst}
use Rattle.std.proofs.Math.Dec.{eqb-suc-zero}
use Rattle.mysql_auth.specs.Packets.{next_factor_at, switch_at}
use Rattle.mysql_authentication.proofs.Packets.{both-hold}
use Rattle.mysql_authentication.proofs.Read.{error_own, factor_own, read_as, switch_own}
use Rattle.mysql_authentication.specs.Events.{Accepted, AuthMore, AuthSwitch, Authentication, Denied, NextFactor}
use Rattle.mysql_authentication.specs.Events.{OldAuthSwitch, PluginData}
use Rattle.mysql_authentication.specs.Readings.{authentication_at, multi_factor, or_fault, switch_of}
use Rattle.mysql_authentication.specs.Statements.{AuthenticationsArePut, RefusedAuthenticationsReadOtherwise}
use Rattle.mysql_authentication.specs.Written.{accepted_cause, authentication_bytes, authentication_cause, if_some}
use Rattle.mysql_authentication.specs.declared.fault.LoginFault.TheVariants.{BadError, BadOk, BadSwitch}
use Rattle.mysql_buf.specs.Bytes.{AreBytes}
use Rattle.mysql_field_constants.specs.Flags.{contains}
use Rattle.mysql_ok_packets.specs.OkPackets.{OkPacket, ok_packet_at, unless_empty, unless_zero}
use Rattle.mysql_ok_packets.specs.OwnLaws.{ok_packet_own}
use Rattle.mysql_ok_packets.specs.Written.{or_empty, or_zero, tells_state}
use Rattle.mysql_server_packets.specs.Packets.{error_at}

nonzero : (n : ℕ) → not (suc n == 0) ≡ true
nonzero n = rw (eqb-suc-zero n) refl

id-normal : (id : Option ℕ) → unless_zero (or_zero id) ≡ id → if_some (λ id. not (id == 0)) id ≡ true
id-normal None h = refl
id-normal (Some zero) h = cc
id-normal (Some (suc n)) h = nonzero n

text-normal : (text : Option (List ℕ)) → unless_empty (or_empty text) ≡ text →
    if_some (λ text. not (length text == 0)) text ≡ true
text-normal None h = refl
text-normal (Some []) h = cc
text-normal (Some (b ∷ bytes)) h = nonzero (length bytes)

state-normal : (tells : Bool) (state : Option (List ℕ)) →
    (if tells then unless_empty (or_empty state) else None) ≡ state →
    ((not (is_some state) || tells) ≡ true) × (if_some (λ text. not (length text == 0)) state ≡ true)
state-normal true None h = (refl, refl)
state-normal true (Some []) h = absurd cc
state-normal true (Some (b ∷ bytes)) h = (refl, nonzero (length bytes))
state-normal false None h = (refl, refl)
state-normal false (Some state) h = absurd cc

accepted : (capabilities : ℕ) (bytes : List ℕ) (x : OkPacket × List ℕ) → AreBytes bytes → length bytes < 2 ^ 64 →
    ok_packet_at capabilities bytes ≡ Ok x → accepted_cause capabilities x.0 ≡ None
accepted capabilities bytes x all few h =
    let own = ok_packet_own capabilities bytes x.1 x.0 all few h in
    let id = id-normal x.0.last_insert_id (ap (λ (p : OkPacket). p.last_insert_id) own.1) in
    let info = text-normal x.0.info (ap (λ (p : OkPacket). p.info) own.1) in
    let state = state-normal (tells_state capabilities x.0.status_flags) x.0.session_state_info
    (ap (λ (p : OkPacket). p.session_state_info) own.1) in
    rw (own.0.named, state.0, id, info, state.1) refl

-- the cause against an event that is another one's
moved : (capabilities : ℕ) {e f : Authentication} → e ≡ f → authentication_cause capabilities e ≡
    None → authentication_cause capabilities f ≡ None
moved capabilities h none = subst (λ (e : Authentication). authentication_cause capabilities e ≡ None) h none

switched : (capabilities b : ℕ) (bytes : List ℕ) (event : Authentication) → switch_of (b ∷ bytes) ≡
    Ok event → authentication_cause capabilities event ≡ None
switched capabilities b [] event h =
    let same : OldAuthSwitch ≡ event = cc in moved capabilities same refl
switched capabilities b (c ∷ bytes) event h =
    let read = read_as BadSwitch AuthSwitch (switch_at (b ∷ c ∷ bytes)) event h in
    moved capabilities read.2 (rw (switch_own (b ∷ c ∷ bytes) read.0 read.1) refl)

by_byte : (capabilities b : ℕ) (bytes : List ℕ) (event : Authentication) (ok err switch more factor : Bool)
    → (b == 0) ≡ ok → (b == 0xff) ≡ err → (b == 0xfe) ≡ switch → (b == 1) ≡ more →
    (b == 2 && contains capabilities multi_factor) ≡ factor
    → AreBytes (b ∷ bytes) → length (b ∷ bytes) < 2 ^ 64
    → (if ok then or_fault BadOk Accepted (ok_packet_at capabilities (b ∷ bytes))
    else if err then or_fault BadError Denied (error_at capabilities (b ∷ bytes))
    else if switch then switch_of (b ∷ bytes)
    else if more then Ok (AuthMore bytes)
    else if factor then or_fault BadSwitch NextFactor (next_factor_at (b ∷ bytes))
    else Ok (PluginData (b ∷ bytes))) ≡ Ok event
    → authentication_cause capabilities event ≡ None
by_byte capabilities b bytes event true err switch more factor is0 is255 is254 is1 is2 all few h =
    let read = read_as BadOk Accepted (ok_packet_at capabilities (b ∷ bytes)) event h in
    moved capabilities read.2 (accepted capabilities (b ∷ bytes) read.0 all few read.1)
by_byte capabilities b bytes event false true switch more factor is0 is255 is254 is1 is2 all few h =
    let read = read_as BadError Denied (error_at capabilities (b ∷ bytes)) event h in
    moved capabilities read.2 (rw (error_own capabilities (b ∷ bytes) read.0 read.1) refl)
by_byte capabilities b bytes event false false true more factor is0 is255 is254 is1 is2 all few h =
    switched capabilities b bytes event h
by_byte capabilities b bytes event false false false true factor is0 is255 is254 is1 is2 all few h =
    let same : AuthMore bytes ≡ event = cc in moved capabilities same refl
by_byte capabilities b bytes event false false false false true is0 is255 is254 is1 is2 all few h =
    let read = read_as BadSwitch NextFactor (next_factor_at (b ∷ bytes)) event h in
    let agreed = both-hold (b == 2) (contains capabilities multi_factor) is2 in
    moved capabilities read.2 (rw (agreed.1, factor_own (b ∷ bytes) read.0 read.1) refl)
by_byte capabilities b bytes event false false false false false is0 is255 is254 is1 is2 all few h =
    let same : PluginData (b ∷ bytes) ≡ event = cc in
    moved capabilities same (rw (is0, is255, is254, is1, is2) refl)

pub authentications_are_put : AuthenticationsArePut
unfolding authentication_at
authentications_are_put capabilities [] event all few h = absurd cc
authentications_are_put capabilities (b ∷ bytes) event all few h =
    by_byte capabilities b bytes event (b == 0) (b == 0xff) (b == 0xfe) (b == 1) (b == 2 &&
    contains capabilities multi_factor)
    refl refl refl refl refl all few h

pub refused_read_otherwise : RefusedAuthenticationsReadOtherwise
refused_read_otherwise capabilities event cause all few refused h =
    let none = authentications_are_put capabilities (authentication_bytes capabilities event) event all few h in
    absurd cc
