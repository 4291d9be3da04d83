-- The command that logs another user in, read by the capabilities in force, is read again of what is put of it.
use Rattle.std.proofs.Common.{◌≡◌, ◌==◌, ◌&&◌, ◌≤◌, not, if◌then◌else◌, ℕ, Bool, true, false, List, [], ◌∷◌, ◌++◌}
use Rattle.std.proofs.Common.{length, Option, None, Some, Ok}
use Rattle.std.proofs.Common.{refl, sym, ap, ◌∙◌, subst, arith, append-nil, length-append, lit<}
use Rattle.std.proofs.lemmas.Bool.Decides.{nat_tests}
use Rattle.std.proofs.lemmas.List.{take_all}
use Rattle.std.specs.List.{flat_map}
use Rattle.mysql_auth.specs.Plugins.{Plugin, plugin_name}
use Rattle.mysql_buf.specs.Bytes.{AreBytes}
use Rattle.mysql_buf.specs.Writing.{front, lenenc_int, u8_str}
use Rattle.mysql_handshake_response.proofs.AttributesBack.{attributes-back, some-byte}
use Rattle.mysql_handshake_response.proofs.AttributesHeld.{attributes_held}
use Rattle.mysql_handshake_response.specs.Attributes.{Attribute, attribute, attributes, attributes_at}
use Rattle.mysql_handshake_response.specs.Parts.{if_held, if_there, plugin_text, plugin_to_zero_at}
use Rattle.mysql_field_constants.specs.ConstantLaws.{constant_at-back}
use Rattle.mysql_field_constants.specs.Constants.{constant_at}
use Rattle.mysql_field_constants.specs.Flags.{contains}
use Rattle.mysql_fields.specs.Forms.{fixed_number_at}
use Rattle.mysql_fields.specs.Laws.{bind_ok, done, fixed_number_at-back, ok_same}
use Rattle.mysql_fields.specs.TextLaws.{null_text_at-back, u8_text_at-back}
use Rattle.mysql_fields.specs.Texts.{null_text, null_text_at, u8_text_at}
use Rattle.mysql_fields.specs.Wire.{Reading}
use Rattle.mysql_handshake.specs.Capabilities.{connect_attrs, plugin_auth, secure_connection}
use Rattle.mysql_login.proofs.FieldsRead.{constant_read, name_read, number_read, text_read}
use Rattle.mysql_login.proofs.PluginsRead.{plugin_read}
use Rattle.mysql_login.specs.ChangedUserStatements.{ChangedUsersReadAgain}
use Rattle.mysql_login.specs.ChangedUsers.{ChangeUserFields, MoreFields, answer, answer_at, change_in_force}
use Rattle.mysql_login.specs.ChangedUsers.{change_in_force_at, database_and_last_at, last_fields, last_fields_at}
use Rattle.mysql_login.specs.ChangedUsers.{named_and_left}

-- a reading that gave a part, and the bytes left
abbrev pub gave : {X : Type 0} → X → List ℕ → Reading X
gave x rest = Ok (x, rest)

-- BYTES THAT ARE LEFT

some_left : (bytes : List ℕ) → 1 ≤ length bytes → not (length bytes == 0) ≡ true
some_left bytes some = grind (arith, nat_tests)

none_left : (named : Bool) → named && not (length {A = ℕ} [] == 0) ≡ false
none_left true = refl
none_left false = refl

-- a part that was read is read again of what is written of it
abbrev pub IsReadAgain : {X : Type 0} → (List ℕ → Reading X) → (X → List ℕ) → X → List ℕ → Type 0
IsReadAgain read_at written x behind =
    (1 ≤ length (written x ++ behind)) × (read_at (written x ++ behind) ≡ Ok (x, behind))

-- a part that is held, and the bytes left
abbrev pub held : {X : Type 0} → X × List ℕ → Option X × List ℕ
held part = (Some part.0, part.1)

there_read : {X : Type 0} (read_at : List ℕ → Reading X) (bytes : List ℕ) (x : Option X × List ℕ) →
    if_there true read_at bytes ≡ Ok x → (part : X × List ℕ) × (read_at bytes ≡ Ok part) × (held part ≡ x)
there_read {X} read_at bytes x h =
    let part = bind_ok (read_at bytes) _ x h in
    (part.0, part.1, ok_same (held part.0) x part.2)

-- a part that stands where the capabilities name it and a byte is left; where it isn't held nothing
-- behind it is read as it
module _ {X : Type 0} (read_at : List ℕ → Reading X) (written : X → List ℕ) where
  nothing : (named : Bool) (bytes : List ℕ) (x : Option X × List ℕ) (behind : List ℕ) → gave None bytes ≡ Ok x →
      (x.0 ≡ None → named && not (length behind == 0) ≡ false) →
      if_there (named && not (length (if_held written x.0 ++ behind) == 0)) read_at (if_held written x.0 ++ behind) ≡
      Ok (x.0, behind)
  nothing named bytes x behind h none =
      let made : Option X × List ℕ = (None, bytes) in
      let is : x.0 ≡ None = sym (ap (λ (y : Option X × List ℕ). y.0) (ok_same made x h)) in
      rw (is, none is) refl

  part_again : (named left : Bool) (bytes : List ℕ) (x : Option X × List ℕ) (behind : List ℕ) →
      if_there (named && left) read_at bytes ≡ Ok x →
      ((y : X × List ℕ) → read_at bytes ≡ Ok y → IsReadAgain read_at written y.0 behind) →
      (x.0 ≡ None → named && not (length behind == 0) ≡ false) →
      if_there (named && not (length (if_held written x.0 ++ behind) == 0)) read_at (if_held written x.0 ++ behind) ≡
      Ok (x.0, behind)
  part_again true true bytes x behind h again none =
      let part = there_read read_at bytes x h in
      let back = again part.0 part.1 in
      let whole : if_there (true && not (length (written part.0.0 ++ behind) == 0)) read_at
      (written part.0.0 ++ behind) ≡
      gave (Some part.0.0) behind = rw (some_left (written part.0.0 ++ behind) back.0, back.1) refl in
      subst (λ (y : Option X × List ℕ). if_there (true && not (length (if_held written y.0 ++ behind) == 0)) read_at
      (if_held written y.0 ++ behind) ≡ gave y.0 behind) part.2 whole
  part_again true false bytes x behind h again none = nothing true bytes x behind h none
  part_again false left bytes x behind h again none = nothing false bytes x behind h none

-- WHAT MAY STAND LAST

attributes_again : (bytes : List ℕ) → AreBytes bytes → (y : List Attribute × List ℕ) → attributes_at bytes ≡ Ok y →
    IsReadAgain attributes_at attributes y.0 []
attributes_again bytes small y h =
    let held = attributes_held bytes y small h in
    let pairs = flat_map attribute y.0 in
    let some = some-byte (length (flat_map attribute y.0)) in
    let text = length-append (lenenc_int (length (flat_map attribute y.0))) (flat_map attribute y.0) in
    (omega (arith, text, some, length-append (attributes y.0) []), attributes-back y.0 [] held.1)

plugin_again : (bytes behind : List ℕ) (y : Plugin × List ℕ) → plugin_to_zero_at bytes ≡ Ok y →
    IsReadAgain plugin_to_zero_at plugin_text y.0 behind
plugin_again bytes behind y h =
    let name = length-append (plugin_name y.0) (0 ∷ []) in
    (omega (arith, name, length-append (plugin_text y.0) behind), (plugin_read bytes y h).0 behind)

-- bytes left behind a plugin, or its place
left_behind : (there : Bool) (bytes : List ℕ) (x : Option Plugin × List ℕ) → AreBytes bytes →
    if_there there plugin_to_zero_at bytes ≡ Ok x → AreBytes x.1
left_behind true bytes x small h =
    let part = there_read plugin_to_zero_at bytes x h in
    subst (λ (y : Option Plugin × List ℕ). AreBytes y.1) part.2 ((plugin_read bytes part.0 part.1).1 small)
left_behind false bytes x small h =
    let made : Option Plugin × List ℕ = (None, bytes) in
    subst (λ (y : Option Plugin × List ℕ). AreBytes y.1) (ok_same made x h) small

no_attributes : (named : Bool) (all : Option (List Attribute) × List ℕ) →
    if_there (named && not (length {A = ℕ} [] == 0)) attributes_at [] ≡ Ok all → all.0 ≡ None
no_attributes true all h =
    let made : Option (List Attribute) × List ℕ = (None, []) in
    sym (ap (λ (y : Option (List Attribute) × List ℕ). y.0) (ok_same made all h))
no_attributes false all h =
    let made : Option (List Attribute) × List ℕ = (None, []) in
    sym (ap (λ (y : Option (List Attribute) × List ℕ). y.0) (ok_same made all h))

-- what stands behind the place of a plugin that isn't held
abbrev pub AllBehind : Bool → Option Plugin × List ℕ → Option (List Attribute) × List ℕ → Type 0
AllBehind named plugin all = if_there (named && not (length plugin.1 == 0)) attributes_at plugin.1 ≡ Ok all

is_held : (plugin : Option Plugin) (p : Plugin) → Some p ≡ plugin → plugin ≡ None → ⊥
is_held plugin p some none = let no : Some p ≡ None = some ∙ none in absurd cc

none_behind : (named other : Bool) (bytes : List ℕ) (plugin : Option Plugin ×
    List ℕ) (all : Option (List Attribute) × List ℕ) →
    if_there (named && not (length bytes == 0)) plugin_to_zero_at bytes ≡ Ok plugin → AllBehind other plugin all →
    plugin.0 ≡ None → named && not (length (if_held attributes all.0 ++ []) == 0) ≡ false
none_behind false other bytes plugin all h g none = refl
none_behind true other [] plugin all h g none =
    let made : Option Plugin × List ℕ = (None, []) in
    let nothing : AllBehind other (None, []) all =
    subst (λ (y : Option Plugin × List ℕ). AllBehind other y all) (sym (ok_same made plugin h)) g in
    rw (no_attributes other all nothing) refl
none_behind true other (b ∷ bs) plugin all h g none =
    let there : if_there true plugin_to_zero_at (b ∷ bs) ≡ Ok plugin = rw (some_left (b ∷ bs) (omega arith)) at h in
    let part = there_read plugin_to_zero_at (b ∷ bs) plugin there in
    let some : Some part.0.0 ≡ plugin.0 = ap (λ (y : Option Plugin × List ℕ). y.0) part.2 in
    absurd (is_held plugin.0 part.0.0 some none)

last_back : (capabilities : ℕ) (bytes : List ℕ) (x : MoreFields × List ℕ) → AreBytes bytes →
    last_fields_at capabilities bytes ≡ Ok x → last_fields_at capabilities (last_fields x.0) ≡ Ok (x.0, [])
unfolding last_fields_at last_fields
last_back capabilities bytes x small h =
    let set = bind_ok (fixed_number_at 2 bytes) _ x h in
    let number = number_read 2 bytes set.0 small set.1 in
    let plugin = bind_ok (if_there (named_and_left capabilities plugin_auth set.0.1)
    plugin_to_zero_at set.0.1) _ x set.2 in
    let left = left_behind (named_and_left capabilities plugin_auth set.0.1) set.0.1 plugin.0 number.1 plugin.1 in
    let all = bind_ok (if_there (named_and_left capabilities connect_attrs plugin.0.1) attributes_at
    plugin.0.1) _ x plugin.2 in
    let named = contains capabilities plugin_auth in
    let third = part_again attributes_at attributes (contains capabilities connect_attrs) (not (length plugin.0.1 == 0))
    plugin.0.1 all.0 [] all.1 (attributes_again plugin.0.1 left)
    (λ _. none_left (contains capabilities connect_attrs)) in
    let behind : List ℕ = if_held attributes all.0.0 ++ [] in
    let second = part_again plugin_to_zero_at plugin_text (contains capabilities plugin_auth)
    (not (length set.0.1 == 0))
    set.0.1 plugin.0 (if_held attributes all.0.0 ++
    []) plugin.1 (plugin_again set.0.1 (if_held attributes all.0.0 ++ []))
    (none_behind (contains capabilities plugin_auth) (contains capabilities connect_attrs) set.0.1
    plugin.0 all.0 plugin.1 all.1) in
    let made : MoreFields × List ℕ =
    (record { character_set = set.0.0; plugin = plugin.0.0; attributes = all.0.0 }, all.0.1) in
    subst (λ (y : MoreFields × List ℕ). last_fields_at capabilities (last_fields y.0) ≡
    gave y.0 []) (ok_same made x all.2) (rw (
      fixed_number_at-back 2 set.0.0 (if_held plugin_text plugin.0.0 ++ (if_held attributes all.0.0 ++ [])) number.0,
      second,
      third,
    ) refl)

some_fields : (p : MoreFields) → 1 ≤ length (last_fields p ++ [])
unfolding last_fields
some_fields p = omega arith

last_again : (capabilities : ℕ) (bytes : List ℕ) → AreBytes bytes → (x : MoreFields × List ℕ) →
    last_fields_at capabilities bytes ≡ Ok x → IsReadAgain (last_fields_at capabilities) last_fields x.0 []
last_again capabilities bytes small x h = (
  some_fields x.0,
  ap (last_fields_at capabilities) (append-nil (last_fields x.0)) ∙
      last_back capabilities bytes x small h,
)

-- ALL FIELDS

-- whatever follows, and bytes were left
abbrev pub AnswerRead : ℕ → List ℕ × List ℕ → Type 0
AnswerRead capabilities x =
    ((rest : List ℕ) → answer_at capabilities (answer capabilities x.0 ++ rest) ≡ Ok (x.0, rest)) × AreBytes x.1

answer_again : (capabilities : ℕ) (bytes : List ℕ) (x : List ℕ × List ℕ) → AreBytes bytes →
    answer_at capabilities bytes ≡ Ok x →
    AnswerRead capabilities x
unfolding front
answer_again capabilities bytes x small h = go (contains capabilities secure_connection) h where
  go : (counted : Bool) → (if counted then u8_text_at bytes else null_text_at bytes) ≡ Ok x →
      ((rest : List ℕ) → (if counted then u8_text_at ((if counted then u8_str x.0 else null_text x.0) ++ rest)
      else null_text_at ((if counted then u8_str x.0 else null_text x.0) ++ rest)) ≡ done (x.0, rest)) × AreBytes x.1
  go true e =
      let read = text_read bytes x small e in
      (λ rest. u8_text_at-back x.0 rest ∙ ap (λ (t : List ℕ). done (t, rest)) (take_all 255 x.0 read.0), read.1)
  go false e =
      let read = name_read bytes x e in
      (λ rest. null_text_at-back x.0 rest ∙ ap (λ (t : List ℕ). done (t, rest)) read.0, read.1 small)

database_again : (capabilities : ℕ) (bytes : List ℕ) (x : (List ℕ × Option MoreFields) × List ℕ) → AreBytes bytes →
    database_and_last_at capabilities bytes ≡ Ok x →
    database_and_last_at capabilities (null_text x.0.0 ++ (if_held last_fields x.0.1 ++ [])) ≡ Ok (x.0, [])
unfolding database_and_last_at
database_again capabilities bytes x small h =
    let name = bind_ok (null_text_at bytes) _ x h in
    let read = name_read bytes name.0 name.1 in
    let more = bind_ok (if_there (not (length name.0.1 == 0)) (last_fields_at capabilities) name.0.1) _ x name.2 in
    let back = part_again (last_fields_at capabilities) last_fields true (not (length name.0.1 == 0)) name.0.1 more.0 []
    more.1 (last_again capabilities name.0.1 (read.1 small)) (λ _. refl) in
    let made : (List ℕ × Option MoreFields) × List ℕ = ((name.0.0, more.0.0), more.0.1) in
    subst (λ (y : (List ℕ × Option MoreFields) × List ℕ).
    database_and_last_at capabilities (null_text y.0.0 ++ (if_held last_fields y.0.1 ++ [])) ≡
    gave y.0 []) (ok_same made x more.2)
    (rw (null_text_at-back name.0.0 (if_held last_fields more.0.0 ++ []), read.0, back) refl)

pub changed_users_read_again : ChangedUsersReadAgain
unfolding change_in_force_at change_in_force
changed_users_read_again capabilities payload rest login small h =
    let header = bind_ok (constant_at 1 17 payload) _ (login, rest) h in
    let one = constant_read 1 17 payload header.0 small header.1 in
    let user = bind_ok (null_text_at header.0.1) _ (login, rest) header.2 in
    let name = name_read header.0.1 user.0 user.1 in
    let scramble = bind_ok (answer_at capabilities user.0.1) _ (login, rest) user.2 in
    let back = answer_again capabilities user.0.1 scramble.0 (name.1 one) scramble.1 in
    let last = bind_ok (database_and_last_at capabilities scramble.0.1) _ (login, rest) scramble.2 in
    let both = database_again capabilities scramble.0.1 last.0 back.1 last.1 in
    let made : ChangeUserFields × List ℕ = (
      record {
        user = user.0.0;
        scramble = scramble.0.0;
        database = last.0.0.0;
        more = last.0.0.1;
      },
      last.0.1,
    ) in
    let two : List ℕ = null_text last.0.0.0 ++ (if_held last_fields last.0.0.1 ++ []) in
    subst (λ (y : ChangeUserFields × List ℕ). change_in_force_at capabilities
    (change_in_force capabilities y.0) ≡ gave y.0 [])
    (ok_same made (login, rest) last.2) (rw (
      constant_at-back 1 17 (null_text user.0.0 ++
          (answer capabilities scramble.0.0 ++
          (null_text last.0.0.0 ++ (if_held last_fields last.0.0.1 ++ [])))) (lit< tt),
      null_text_at-back user.0.0 (answer capabilities scramble.0.0 ++
          (null_text last.0.0.0 ++ (if_held last_fields last.0.0.1 ++ []))),
      name.0,
      back.0 (null_text last.0.0.0 ++ (if_held last_fields last.0.0.1 ++ [])),
      both,
    ) refl)
