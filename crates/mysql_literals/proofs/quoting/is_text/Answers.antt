use Rattle.std.proofs.Common.{◌≡◌, ℕ, Bool, true, false, List, Result, Ok, Err, refl, sym, ◌∙◌}
use Rattle.std.specs.Prelude.{IsUtf8, MatchResult, is_ok}
use Rattle.std.specs.Str.{is_utf8}
use Rattle.std.proofs.lemmas.Str.{IsUtf8-from_is_utf8, is_utf8-from_IsUtf8}
use Rattle.mysql_literals.proofs.quoting.is_text.Goals as goal

-- bytes that are no UTF-8 fail the test
not_text : (bytes : List ℕ) (test : Bool) → is_utf8 bytes ≡ test → ¬ (IsUtf8 bytes) → false ≡ test
not_text bytes true e n = absurd (n (IsUtf8-from_is_utf8 bytes e))
not_text bytes false e n = refl

-- an answer of a reader of UTF-8 is the test
tells : {A B : Type 0} (bytes : List ℕ) (r : Result A B) (P : A → Type 0) (Q : B → Type 0) →
    MatchResult r (λ a. P a × IsUtf8 bytes) (λ b. ¬ (IsUtf8 bytes) × Q b) → is_ok r ≡ is_utf8 bytes
tells bytes (Ok a) P Q h = sym (is_utf8-from_IsUtf8 bytes h.1)
tells bytes (Err b) P Q h = not_text bytes (is_utf8 bytes) refl h.0

pub returns : goal.returns
returns c = c.is_ok.ensures.value ∙ tells c.args.bytes.now c.from_utf8.result _ _ c.from_utf8.ensures.cases
