-- A plugin that was read by its name is read again of its own name.
use Rattle.std.proofs.Common.{◌≡◌, ◌==◌, ◌&&◌, ◌≤◌, ◌-◌, ◌+◌, if◌then◌else◌, nat_lt, ℕ, Bool, true, false, true≢false}
use Rattle.std.proofs.Common.{List, [], ◌∷◌, ◌++◌, length, Ok, Err}
use Rattle.std.proofs.Common.{refl, sym, ap, ◌∙◌, subst, arith}
use Rattle.std.proofs.lemmas.Bool.{eqb-true}
use Rattle.std.proofs.lemmas.List.{length-take}
use Rattle.std.proofs.lemmas.List.Sums.{fails_before_first}
use Rattle.std.specs.List.{after_first, before_first, position_or_len}
use Rattle.std.specs.Str.{bytes_eq}
use Rattle.mysql_auth.specs.Plugins.{Plugin, known_plugins, named_among, plugin_name, plugin_named, without_zero}
use Rattle.mysql_buf.specs.Bytes.{AreBytes}
use Rattle.mysql_buf.specs.Reading.{is_zero}
use Rattle.mysql_handshake_response.specs.Parts.{plugin_text, plugin_to_zero_at}
use Rattle.mysql_fields.specs.Laws.{done, ok_same}
use Rattle.mysql_fields.specs.TextLaws.{null_text_at-back}
use Rattle.mysql_fields.specs.Texts.{null_text_at}
use Rattle.mysql_fields.specs.declared.error.WireError.TheVariants.{UnexpectedEof}
use Rattle.mysql_login.proofs.FieldsRead.{front_again, left_bytes}

-- NAMES

both : (a b : Bool) → a && b ≡ true → (a ≡ true) × (b ≡ true)
both true b h = (refl, h)
both false b h = absurd (true≢false (sym h))

bytes_same : (xs ys : List ℕ) → bytes_eq xs ys ≡ true → xs ≡ ys
bytes_same [] [] h = refl
bytes_same [] (y ∷ ys) h = cc
bytes_same (x ∷ xs) [] h = cc
bytes_same (x ∷ xs) (y ∷ ys) h =
    let parts = both (x == y) (bytes_eq xs ys) h in
    let first = eqb-true x y parts.0 in
    let rest = bytes_same xs ys parts.1 in
    cc

-- a plugin that is found by a name has that name
found_name : (plugins : List Plugin) (name : List ℕ) → plugin_name (named_among plugins name) ≡ name
found_name [] name = refl
found_name (plugin ∷ plugins) name = go (bytes_eq name (plugin_name plugin)) refl (found_name plugins name) where
  go : (found : Bool) → bytes_eq name (plugin_name plugin) ≡ found → plugin_name (named_among plugins name) ≡ name →
      plugin_name (if found then plugin else named_among plugins name) ≡ name
  go true is later = sym (bytes_same name (plugin_name plugin) is)
  go false is later = later

-- no zero stands last where none stands anywhere
no_last_zero : (text : List ℕ) → before_first is_zero text ≡ text → without_zero text ≡ text
no_last_zero [] h = refl
no_last_zero (b ∷ bytes) h =
    let place : length (b ∷ bytes) ≤ position_or_len is_zero (b ∷ bytes) =
    omega (arith, length-take (position_or_len is_zero (b ∷ bytes)) (b ∷ bytes), ap length h) in
    rw (fails_before_first is_zero (b ∷ bytes) (length (b ∷ bytes) - 1) 1 (omega arith)) refl

-- A TEXT AND ITS ZERO

-- what stands before the first zero and behind it
abbrev pub parts_of : List ℕ → List ℕ × List ℕ
parts_of bytes = (before_first is_zero bytes, after_first is_zero bytes)

parts_are : (bytes : List ℕ) (x : List ℕ × List ℕ) → null_text_at bytes ≡ Ok x → parts_of bytes ≡ x
parts_are bytes x h = go (nat_lt (position_or_len is_zero bytes) (length bytes)) h where
  go : (b : Bool) → (if b then done (parts_of bytes) else Err UnexpectedEof) ≡ done x → parts_of bytes ≡ x
  go true e = ok_same (parts_of bytes) x e
  go false e = absurd cc

name_parts : (name rest : List ℕ) → before_first is_zero name ≡ name →
    parts_of ((name ++ 0 ∷ []) ++ rest) ≡ (name, rest)
name_parts name rest whole =
    parts_are ((name ++ 0 ∷ []) ++ rest) (name, rest)
    (ap (λ (n : List ℕ). null_text_at ((n ++ 0 ∷ []) ++ rest)) (sym whole) ∙ null_text_at-back name rest
    ∙ ap (λ (n : List ℕ). done (n, rest)) whole)

-- the plugin that such parts say
abbrev pub plugin_of : List ℕ × List ℕ → Plugin × List ℕ
plugin_of parts = (plugin_named (without_zero parts.0), parts.1)

named_back : (name rest : List ℕ) → before_first is_zero name ≡ name →
    plugin_to_zero_at (plugin_text (plugin_named name) ++ rest) ≡ Ok (plugin_named name, rest)
named_back name rest whole =
    ap (λ (n : List ℕ). plugin_to_zero_at ((n ++ 0 ∷ []) ++ rest)) (found_name known_plugins name)
    ∙ ap (λ (parts : List ℕ × List ℕ). done (plugin_of parts)) (name_parts name rest whole)
    ∙ ap (λ (n : List ℕ). done (plugin_named n, rest)) (no_last_zero name whole)

-- whatever follows, and bytes were left
abbrev pub PluginRead : List ℕ → Plugin × List ℕ → Type 0
PluginRead bytes x = ((rest : List ℕ) → plugin_to_zero_at (plugin_text x.0 ++ rest) ≡
    Ok (x.0, rest)) × (AreBytes bytes → AreBytes x.1)

pub plugin_read : (bytes : List ℕ) (x : Plugin × List ℕ) → plugin_to_zero_at bytes ≡ Ok x → PluginRead bytes x
plugin_read bytes x h =
    let name = before_first is_zero bytes in
    let whole = front_again bytes in
    let made : Plugin × List ℕ = (plugin_named (before_first is_zero bytes), after_first is_zero bytes) in
    let read : plugin_of (parts_of bytes) ≡ x = ok_same (plugin_of (parts_of bytes)) x h in
    let same : (plugin_named (before_first is_zero bytes), after_first is_zero bytes) ≡ plugin_of (parts_of bytes) =
    ap (λ (n : List ℕ). (plugin_named n, after_first is_zero bytes))
    (sym (no_last_zero (before_first is_zero bytes) whole)) in
    subst (PluginRead bytes) (same ∙ read) (
      λ rest. named_back (before_first is_zero bytes) rest whole,
      λ small. left_bytes (position_or_len is_zero bytes + 1) bytes small,
    )
