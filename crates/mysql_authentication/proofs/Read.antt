-- What is so of fields that were read.
use Rattle.std.proofs.Common.{◌≡◌, if◌then◌else◌, ℕ, nat_lt, Bool, true, false, List, [], length, Option, None, Some}
use Rattle.std.proofs.Common.{is_some, Ok, Err}
use Rattle.std.proofs.Common.{refl, subst}
use Rattle.std.specs.List.{after_first, before_first, position_or_len}
use Rattle.mysql_auth.specs.Packets.{SwitchFields, next_factor_at, switch_at}
use Rattle.mysql_authentication.proofs.Zeros.{front_has_none}
use Rattle.mysql_authentication.specs.Readings.{or_fault}
use Rattle.mysql_authentication.specs.Written.{has_no_zero, same}
use Rattle.mysql_authentication.specs.declared.fault.LoginFault.{LoginFault}
use Rattle.mysql_buf.specs.Reading.{is_zero}
use Rattle.mysql_field_constants.specs.Constants.{constant_at}
use Rattle.mysql_fields.specs.Laws.{bind_ok, done, ok_same}
use Rattle.mysql_fields.specs.Texts.{null_text_at}
use Rattle.mysql_fields.specs.Wire.{Reading}
use Rattle.mysql_fields.specs.declared.error.WireError.TheVariants.{UnexpectedEof}
use Rattle.mysql_server_packets.specs.Packets.{ServerError, error_at, error_code_at, protocol_41, server_error_at}
use Rattle.mysql_server_packets.specs.Packets.{sql_state_at, state_part_at}

-- an event is one of what was read
pub read_as : {X Y : Type 0} (fault : LoginFault) (event : X → Y) (r : Reading X) (y : Y) →
    or_fault fault event r ≡ Ok y →
    (x : X × List ℕ) × (r ≡ Ok x) × (event x.0 ≡ y)
read_as fault event (Ok x) y h = (x, refl, cc)
read_as fault event (Err e) y h = absurd cc

-- a text that was read to its first zero has none
pub null_own : (bytes : List ℕ) (x : List ℕ × List ℕ) → null_text_at bytes ≡ Ok x → has_no_zero x.0 ≡ true
null_own bytes x h = go (nat_lt (position_or_len is_zero bytes) (length bytes)) h where
  go : (b : Bool) → (if b then done (before_first is_zero bytes, after_first is_zero bytes) else Err
      UnexpectedEof) ≡ done x → has_no_zero x.0 ≡ true
  go true e = subst (λ (y : List ℕ × List ℕ). has_no_zero y.0 ≡
      true) (ok_same (before_first is_zero bytes, after_first is_zero bytes) x e)
      (front_has_none bytes)
  go false e = absurd cc

pub switch_own : (bytes : List ℕ) (x : SwitchFields × List ℕ) → switch_at bytes ≡ Ok x →
    has_no_zero x.0.auth_plugin ≡ true
unfolding switch_at
switch_own bytes x h =
    let header = bind_ok (constant_at 1 254 bytes) _ x h in
    let name = bind_ok (null_text_at header.0.1) _ x header.2 in
    let made : SwitchFields × List ℕ = (record { auth_plugin = name.0.0; plugin_data = name.0.1 }, []) in
    subst (λ (y : SwitchFields × List ℕ). has_no_zero y.0.auth_plugin ≡
    true) (ok_same made x name.2) (null_own header.0.1 name.0 name.1)

pub factor_own : (bytes : List ℕ) (x : SwitchFields × List ℕ) → next_factor_at bytes ≡ Ok x →
    has_no_zero x.0.auth_plugin ≡ true
unfolding next_factor_at
factor_own bytes x h =
    let header = bind_ok (constant_at 1 2 bytes) _ x h in
    let name = bind_ok (null_text_at header.0.1) _ x header.2 in
    let made : SwitchFields × List ℕ = (record { auth_plugin = name.0.0; plugin_data = name.0.1 }, []) in
    subst (λ (y : SwitchFields × List ℕ). has_no_zero y.0.auth_plugin ≡
    true) (ok_same made x name.2) (null_own header.0.1 name.0 name.1)

state_own : (protocol : Bool) (bytes : List ℕ) (x : Option (List ℕ) × List ℕ) →
    state_part_at protocol bytes ≡ Ok x → same (is_some x.0) protocol ≡ true
state_own true bytes x h =
    let state = bind_ok (sql_state_at bytes) _ x h in
    let made : Option (List ℕ) × List ℕ = (Some state.0.0, state.0.1) in
    subst (λ (y : Option (List ℕ) × List ℕ). same (is_some y.0) true ≡ true) (ok_same made x state.2) refl
state_own false bytes x h =
    let made : Option (List ℕ) × List ℕ = (None, bytes) in
    subst (λ (y : Option (List ℕ) × List ℕ). same (is_some y.0) false ≡ true) (ok_same made x h) refl

-- an error has a state exactly where the protocol has states
pub error_own : (capabilities : ℕ) (bytes : List ℕ) (x : ServerError × List ℕ) → error_at capabilities bytes ≡ Ok x →
    same (is_some x.0.sql_state) (protocol_41 capabilities) ≡ true
unfolding error_at server_error_at
error_own capabilities bytes x h =
    let code = bind_ok (error_code_at bytes) _ x h in
    let state = bind_ok (state_part_at (protocol_41 capabilities) code.0.1) _ x code.2 in
    let made : ServerError × List ℕ =
    (record { error_code = code.0.0; sql_state = state.0.0; error_message = state.0.1 }, []) in
    subst (λ (y : ServerError × List ℕ). same (is_some y.0.sql_state) (protocol_41 capabilities) ≡ true)
    (ok_same made x state.2) (state_own (protocol_41 capabilities) code.0.1 state.0 state.1)
