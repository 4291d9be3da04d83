-- Bytes that are text or not.
use Rattle.std.proofs.Common.{◌≡◌, ℕ, Bool, true, false, List, Some, None, refl, sym, ap, ◌∙◌}
use Rattle.std.specs.Option.{option_and_then}
use Rattle.std.specs.Str.{IsUtf8, is_utf8}
use Rattle.std.proofs.lemmas.Str.{IsUtf8-from_is_utf8, is_utf8-from_IsUtf8}
use Rattle.mysql_cells.specs.declared.value.Value.{Value}
use Rattle.mysql_cells.specs.declared.value.Value.TheVariants.{Bytes}
use Rattle.mysql_convert.specs.Texts.{bytes_of, if_passes, text_of}

by_test : (bytes : List ℕ) (t : Bool) → is_utf8 bytes ≡ t → (IsUtf8 bytes → ⊥) → is_utf8 bytes ≡ false
by_test bytes true e h = absurd (h (IsUtf8-from_is_utf8 bytes e))
by_test bytes false e h = e

pub no_text : (bytes : List ℕ) → (IsUtf8 bytes → ⊥) → text_of (Bytes bytes) ≡ None
no_text bytes h = rw (by_test bytes (is_utf8 bytes) refl h) refl

pub a_text : (bytes : List ℕ) → IsUtf8 bytes → text_of (Bytes bytes) ≡ Some bytes
a_text bytes h = rw (is_utf8-from_IsUtf8 bytes h) refl

-- the same of the bytes that a value holds
pub a_text_held : (value : Value) (bytes text : List ℕ) → Some bytes ≡ bytes_of value →
    IsUtf8 bytes → text ≡ bytes → Some text ≡ text_of value
a_text_held value bytes text e u s = ap (λ x. Some x) s ∙ sym (a_text bytes u) ∙
    ap (option_and_then (if_passes is_utf8)) e

pub no_text_held : (value : Value) (bytes : List ℕ) → Some bytes ≡ bytes_of value →
    (IsUtf8 bytes → ⊥) → None ≡ text_of value
no_text_held value bytes e h = sym (no_text bytes h) ∙ ap (option_and_then (if_passes is_utf8)) e
