-- Steps through a text and a word.
use Rattle.std.proofs.Common.{◌≡◌, ◌≢◌, ◌==◌, ◌&&◌, Bool, true, false, ℕ, List, [], ◌∷◌, length, refl, sym, ap, ◌∙◌}
use Rattle.std.proofs.lemmas.Bool.{eq-eqb, ne_eqb}
use Rattle.std.specs.Char.{to_ascii_lowercase}
use Rattle.mysql_session_modes.specs.Texts.{has_word, is_word_at}

pub no_word : (word text : List ℕ) → length word ≡ 0 → is_word_at word text ≡ true
unfolding is_word_at
no_word [] text none = refl
no_word (letter ∷ word) text none = absurd cc

pub no_text : (letter : ℕ) (word text : List ℕ) → length text ≡ 0 → is_word_at (letter ∷ word) text ≡ false
unfolding is_word_at
no_text letter word [] none = refl
no_text letter word (byte ∷ text) none = absurd cc

by_test : (letter byte : ℕ) (word text : List ℕ) (test : Bool) → (to_ascii_lowercase byte == letter) ≡ test →
    is_word_at (letter ∷ word) (byte ∷ text) ≡ (test && is_word_at word text)
unfolding is_word_at
by_test letter byte word text test is = ap (λ (b : Bool). b && is_word_at word text) is

pub other_letter : (letter byte small : ℕ) (word text : List ℕ) → small ≡ to_ascii_lowercase byte → small ≢ letter →
    is_word_at (letter ∷ word) (byte ∷ text) ≡ false
other_letter letter byte small word text is other =
    by_test letter byte word text false (ne_eqb (to_ascii_lowercase byte) letter (λ e. other (is ∙ e)))

pub same_letter : (letter byte small : ℕ) (word text : List ℕ) → small ≡ to_ascii_lowercase byte → small ≡ letter →
    is_word_at (letter ∷ word) (byte ∷ text) ≡ is_word_at word text
same_letter letter byte small word text is same =
    by_test letter byte word text true (eq-eqb (to_ascii_lowercase byte) letter (sym is ∙ same))

pub nowhere : (word text : List ℕ) → length text ≡ 0 → has_word word text ≡ false
unfolding has_word
nowhere word [] none = refl
nowhere word (byte ∷ text) none = absurd cc

pub here : (word : List ℕ) (byte : ℕ) (text : List ℕ) → is_word_at word (byte ∷ text) ≡ true →
    has_word word (byte ∷ text) ≡ true
unfolding has_word
here word byte text is = rw is refl

pub not_here : (word : List ℕ) (byte : ℕ) (text : List ℕ) → is_word_at word (byte ∷ text) ≡ false →
    has_word word (byte ∷ text) ≡ has_word word text
unfolding has_word
not_here word byte text is = rw is refl
