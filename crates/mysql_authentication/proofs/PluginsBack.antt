-- A plugin that was written by its name is read again.
use Rattle.std.proofs.Common.{◌≡◌, ◌≤◌, ◌-◌, ◌==◌, if◌then◌else◌, nat_lt, ℕ, Bool, true, false, List, [], ◌∷◌, ◌++◌}
use Rattle.std.proofs.Common.{length, replicate, codes, Ok, Err}
use Rattle.std.proofs.Common.{refl, sym, ap, ◌∙◌, arith}
use Rattle.std.proofs.lemmas.Bool.{eqb-true}
use Rattle.std.proofs.lemmas.List.{length-take}
use Rattle.std.proofs.lemmas.List.Sums.{fails_before_first}
use Rattle.std.specs.List.{after_first, before_first, position_or_len}
use Rattle.std.specs.Str.{bytes_eq}
use Rattle.mysql_auth.specs.Plugins.{CachingSha2, ClearPassword, Ed25519, NativePassword, OldPassword, Other, Parsec}
use Rattle.mysql_auth.specs.Plugins.{Plugin, plugin_name, plugin_named, without_zero}
use Rattle.mysql_authentication.proofs.Packets.{both-hold}
use Rattle.mysql_authentication.proofs.Zeros.{front_whole}
use Rattle.mysql_authentication.specs.Written.{has_no_zero, is_other, names_itself}
use Rattle.mysql_buf.specs.Reading.{is_zero}
use Rattle.mysql_handshake_response.specs.Parts.{plugin_text, plugin_to_zero_at}
use Rattle.mysql_fields.specs.Laws.{done, ok_same}
use Rattle.mysql_fields.specs.TextLaws.{null_text_at-back}
use Rattle.mysql_fields.specs.Texts.{null_text_at}
use Rattle.mysql_fields.specs.declared.error.WireError.TheVariants.{UnexpectedEof}

-- what stands before the first zero and behind it
null_parts : (bytes : List ℕ) (x : List ℕ × List ℕ) → null_text_at bytes ≡ Ok x →
    (before_first is_zero bytes, after_first is_zero bytes) ≡ x
null_parts bytes x h = go (nat_lt (position_or_len is_zero bytes) (length bytes)) h where
  go : (b : Bool) → (if b then done (before_first is_zero bytes, after_first is_zero bytes) else Err
      UnexpectedEof) ≡ done x
      → (before_first is_zero bytes, after_first is_zero bytes) ≡ x
  go true e = ok_same (before_first is_zero bytes, after_first is_zero bytes) x e
  go false e = absurd cc

abbrev pair : List ℕ → List ℕ → List ℕ × List ℕ
pair a b = (a, b)

name_parts : (name rest : List ℕ) → has_no_zero name ≡ true →
    pair (before_first is_zero ((name ++ 0 ∷ []) ++ rest))
    (after_first is_zero ((name ++ 0 ∷ []) ++ rest)) ≡ pair name rest
name_parts name rest h =
    let whole = front_whole name h in
    let read : null_text_at ((name ++ 0 ∷ []) ++ rest) ≡ done (name, rest) =
    ap (λ (n : List ℕ). null_text_at ((n ++ 0 ∷ []) ++ rest)) (sym whole) ∙ null_text_at-back name rest
    ∙ ap (λ (n : List ℕ). done (n, rest)) whole in
    null_parts ((name ++ 0 ∷ []) ++ rest) (name, rest) read

-- no zero stands last
pub no_last_zero : (text : List ℕ) → has_no_zero text ≡ true → without_zero text ≡ text
no_last_zero [] h = refl
no_last_zero (b ∷ bytes) h =
    let text : List ℕ = b ∷ bytes in
    let same : length (before_first is_zero (b ∷ bytes)) ≡ length (b ∷ bytes) =
    eqb-true (length (before_first is_zero (b ∷ bytes))) (length (b ∷ bytes)) h in
    let place : length (b ∷ bytes) ≤ position_or_len is_zero (b ∷ bytes) =
    omega (arith, length-take (position_or_len is_zero (b ∷ bytes)) (b ∷ bytes)) in
    rw (fails_before_first is_zero (b ∷ bytes) (length (b ∷ bytes) - 1) 1 (omega arith)) refl

other_named : (name : List ℕ) → is_other (plugin_named name) ≡ true → plugin_named name ≡ Other name
other_named name h =
    go (bytes_eq name (codes "mysql_old_password")) (bytes_eq name (codes "mysql_native_password"))
    (bytes_eq name (codes "caching_sha2_password"))
    (bytes_eq name (codes "mysql_clear_password")) (bytes_eq name (codes "client_ed25519"))
    (bytes_eq name (codes "parsec")) h where
      go : (a b c d e f : Bool) →
          is_other (if a then OldPassword else if b then NativePassword else if c then CachingSha2
          else if d then ClearPassword
          else if e then Ed25519 else if f then Parsec 0 (replicate 18 0) else Other name) ≡ true
          → (if a then OldPassword else if b then NativePassword else if c then CachingSha2 else if d then ClearPassword
          else if e then Ed25519 else if f then Parsec 0 (replicate 18 0) else Other name) ≡ Other name
      go true b c d e f h = cc
      go false true c d e f h = cc
      go false false true d e f h = cc
      go false false false true e f h = cc
      go false false false false true f h = cc
      go false false false false false true h = cc
      go false false false false false false h = refl

bytes_same : (xs ys : List ℕ) → bytes_eq xs ys ≡ true → xs ≡ ys
bytes_same [] [] h = refl
bytes_same [] (y ∷ ys) h = cc
bytes_same (x ∷ xs) [] h = cc
bytes_same (x ∷ xs) (y ∷ ys) h =
    let parts = both-hold (x == y) (bytes_eq xs ys) h in
    let first = eqb-true x y parts.0 in
    let rest = bytes_same xs ys parts.1 in
    cc

-- a name without a zero, and the plugin that it names
by_name : (plugin : Plugin) (rest : List ℕ) → has_no_zero (plugin_name plugin) ≡ true →
    plugin_named (without_zero (plugin_name plugin)) ≡ plugin →
    plugin_to_zero_at (plugin_text plugin ++ rest) ≡ Ok (plugin, rest)
by_name plugin rest whole named =
    let parts = name_parts (plugin_name plugin) rest whole in
    ap (λ (x : List ℕ × List ℕ). done (plugin_named (without_zero x.0), x.1)) parts
    ∙ ap (λ (p : Plugin). done (p, rest)) named

pub plugin-back : (plugin : Plugin) (rest : List ℕ) → names_itself plugin ≡ true →
    plugin_to_zero_at (plugin_text plugin ++ rest) ≡ Ok (plugin, rest)
plugin-back OldPassword rest h = by_name OldPassword rest refl refl
plugin-back NativePassword rest h = by_name NativePassword rest refl refl
plugin-back CachingSha2 rest h = by_name CachingSha2 rest refl refl
plugin-back ClearPassword rest h = by_name ClearPassword rest refl refl
plugin-back Ed25519 rest h = by_name Ed25519 rest refl refl
plugin-back (Parsec iterations salt) rest h =
    let parts = both-hold (iterations == 0) (bytes_eq salt (replicate 18 0)) h in
    let none : 0 ≡ iterations = sym (eqb-true iterations 0 parts.0) in
    let zeros : replicate 18 0 ≡ salt = sym (bytes_same salt (replicate 18 0) parts.1) in
    let same : Parsec 0 (replicate 18 0) ≡ Parsec iterations salt = cc in
    by_name (Parsec iterations salt) rest refl same
plugin-back (Other name) rest h =
    let parts = both-hold (has_no_zero name) (is_other (plugin_named (without_zero name))) h in
    let named = other_named (without_zero name) parts.1 in
    by_name (Other name) rest parts.0 (named ∙ ap (λ (n : List ℕ). Other n) (no_last_zero name parts.0))
