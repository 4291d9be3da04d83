-- What a search for a word passes over.
use Rattle.std.proofs.Common.{◌≡◌, ◌==◌, ◌&&◌, Bool, true, false, cond, ℕ, zero, suc, ◌+◌, ◌-◌, ◌<◌, ◌≤◌, ◌%◌, nat_le}
use Rattle.std.proofs.Common.{nat_lt, List, [], ◌∷◌, length, drop, slice_index, refl, sym, ap, ◌∙◌, arith, drop-drop}
use Rattle.std.proofs.Common.{get_or-drop, eqb-true, leb-true, le-leb, true≢false, take, take_all, length-drop}
use Rattle.std.proofs.Common.{le_of_eq}
use Rattle.std.proofs.Math.Nat.{add-mod_right}
use Rattle.std.proofs.lemmas.Bool.{false_from_ne_true}
use Rattle.std.specs.Char.{to_ascii_lowercase}
use Rattle.mysql_session_modes.specs.Texts.{has_word, is_word_at}
use Rattle.mysql_session_modes.specs.Steps.{are_short, are_within}
use Rattle.mysql_session_modes.proofs.TextSteps.{not_here, nowhere}

both_true : (a b : Bool) → (a && b) ≡ true → (a ≡ true) × (b ≡ true)
both_true true b is = (refl, is)
both_true false b is = absurd (true≢false (sym is))

-- a letter of a word that stands first
letter_at : (word text : List ℕ) (j : ℕ) → is_word_at word text ≡ true → j < length word →
    (j < length text) × (to_ascii_lowercase (slice_index text j) ≡ slice_index word j)
unfolding is_word_at
letter_at [] text j is less = absurd (omega arith)
letter_at (letter ∷ word) [] j is less = absurd (true≢false (sym is))
letter_at (letter ∷ word) (byte ∷ text) zero is less = (
  omega arith,
  eqb-true (to_ascii_lowercase byte) letter
      (both_true (to_ascii_lowercase byte == letter) (is_word_at word text) is).0,
)
letter_at (letter ∷ word) (byte ∷ text) (suc j) is less =
    let rest = letter_at word text j
    (both_true (to_ascii_lowercase byte == letter) (is_word_at word text) is).1 (omega arith) in
    (omega arith, rest.1)

-- the low five bits are the same in both cases
in_each_case : (a b : Bool) (byte : ℕ) → cond a byte (cond b (byte + 32) byte) % 32 ≡ byte % 32
in_each_case true b byte = refl
in_each_case false true byte = add-mod_right byte 32
in_each_case false false byte = refl

low_bits : (byte : ℕ) → to_ascii_lowercase byte % 32 ≡ byte % 32
low_bits byte = in_each_case (nat_lt byte 65) (nat_lt byte 91) byte

pub within_at : (steps word : List ℕ) (i : ℕ) → are_within steps word ≡ true → slice_index steps i ≤ length word
within_at [] word i is = omega arith
within_at (step ∷ steps) word zero is =
    leb-true step (length word) (both_true (nat_le step (length word)) (are_within steps word) is).0
within_at (step ∷ steps) word (suc i) is =
    within_at steps word i (both_true (nat_le step (length word)) (are_within steps word) is).1

short_at : (steps word : List ℕ) (j : ℕ) → are_short steps word ≡ true → j < length word →
    j + slice_index steps (slice_index word j % 32) < length word
short_at steps [] j is less = absurd (omega arith)
short_at steps (letter ∷ word) zero is less =
    let here = leb-true (slice_index steps (letter % 32)) (length word)
    (both_true (nat_le (slice_index steps (letter % 32)) (length word)) (are_short steps word) is).0 in
    omega arith
short_at steps (letter ∷ word) (suc j) is less =
    let rest = short_at steps word j
    (both_true (nat_le (slice_index steps (letter % 32)) (length word)) (are_short steps word) is).1 (omega arith) in
    omega arith

passed : (word rest : List ℕ) (step : ℕ) → ((k : ℕ) → k < step → is_word_at word (drop k rest) ≡ false) →
    has_word word (drop step rest) ≡ has_word word rest
passed word rest zero none = refl
passed word [] (suc step) none = refl
passed word (byte ∷ rest) (suc step) none =
    passed word rest step (λ k less. none (suc k) (omega arith)) ∙ sym (not_here word byte rest (none 0 (omega arith)))

-- where the word doesn't stand here
pub one_on : (word text : List ℕ) (at : ℕ) → is_word_at word (drop at text) ≡ false →
    has_word word (drop (at + 1) text) ≡ has_word word (drop at text)
one_on word text at none =
    let whole : drop 1 (drop at text) ≡ drop (at + 1) text = drop-drop 1 at text ∙
    ap (λ i. drop i text) (omega arith) in
    ap (λ t. has_word word t) (sym whole)
    ∙ passed word (drop at text) 1 (λ k less. let first : k ≡ 0 = omega arith in
    ap (λ i. is_word_at word (drop i (drop at text))) first ∙ none)

-- no word begins before a step's end
module _ (word steps text : List ℕ) (last : ℕ) (ends : last + 1 ≡ length word)
    (within : are_within steps word ≡ true) (short : are_short steps word ≡ true) where
  not_before : (at k : ℕ) → k < slice_index steps (slice_index text (at + last) % 32) →
      is_word_at word (drop (at + k) text) ≡ true → ⊥
  not_before at k less is =
      let bound = within_at steps word (slice_index text (at + last) % 32) within in
      let here = letter_at word (drop (at + k) text) (last - k) is (omega arith) in
      let room = short_at steps word (last - k) short (omega arith) in
      let place : at + k + (last - k) ≡ at + last = omega arith in
      let byte : slice_index (drop (at + k) text) (last - k) ≡ slice_index text (at + last) =
      get_or-drop (at + k) text (last - k) 0 ∙ ap (λ i. slice_index text i) place in
      let bits : slice_index word (last - k) % 32 ≡ slice_index text (at + last) % 32 =
      ap (λ n. n % 32) (sym here.1) ∙ low_bits (slice_index (drop (at + k) text) (last - k)) ∙ ap (λ n. n % 32) byte in
      let same : slice_index steps (slice_index word (last - k) % 32) ≡
      slice_index steps (slice_index text (at + last) % 32) =
      ap (λ i. slice_index steps i) bits in
      omega arith

  pub goes_on : (at step : ℕ) → step ≡ slice_index steps (slice_index text (at + last) % 32) →
      has_word word (drop (at + step) text) ≡ has_word word (drop at text)
  goes_on at step is =
      let whole : drop step (drop at text) ≡ drop (at + step) text = drop-drop step at text ∙
      ap (λ i. drop i text) (omega arith) in
      ap (λ t. has_word word t) (sym whole)
      ∙ passed word (drop at text) step (λ k less. false_from_ne_true (is_word_at word (drop k (drop at text))) (λ e.
      let place : drop k (drop at text) ≡ drop (at + k) text = drop-drop k at text ∙
      ap (λ i. drop i text) (omega arith) in
      not_before at k (omega arith) (ap (λ t. is_word_at word t) (sym place) ∙ e)))

-- what is left is shorter than the word
pub too_short : (word text : List ℕ) → length text < length word → has_word word text ≡ false
too_short word [] less = nowhere word [] refl
too_short word (byte ∷ text) less =
    not_here word byte text (false_from_ne_true (is_word_at word (byte ∷ text)) (λ e.
    let past = letter_at word (byte ∷ text) (length (byte ∷ text)) e less in omega arith))
    ∙ too_short word text (omega arith)

-- where the word stands
pub found : (word text : List ℕ) → 0 < length word → is_word_at word text ≡ true → has_word word text ≡ true
unfolding has_word
found word [] some is = let past = letter_at word [] 0 is some in absurd (omega arith)
found word (byte ∷ text) some is = rw is refl

-- the rest of a text, as a slice of it is said
pub at_rest : (word text : List ℕ) (at : ℕ) →
    is_word_at word (drop at text) ≡ is_word_at word (take (length text - at) (drop at text))
at_rest word text at =
    ap (λ t. is_word_at word t) (sym (take_all (length text - at) (drop at text) (le_of_eq (length-drop at text))))

-- where each byte is looked at, no step goes too far
abbrev pub no_steps : List ℕ
no_steps =
    0 ∷ 0 ∷ 0 ∷ 0 ∷ 0 ∷ 0 ∷ 0 ∷ 0 ∷ 0 ∷ 0 ∷ 0 ∷ 0 ∷ 0 ∷ 0 ∷ 0 ∷ 0 ∷
    0 ∷ 0 ∷ 0 ∷ 0 ∷ 0 ∷ 0 ∷ 0 ∷ 0 ∷ 0 ∷ 0 ∷ 0 ∷ 0 ∷ 0 ∷ 0 ∷ 0 ∷ 0 ∷ []

both : (a b : Bool) → a ≡ true → b ≡ true → (a && b) ≡ true
both true b e f = f
both false b e f = absurd (true≢false (sym e))

pub no_steps_short : (word : List ℕ) → are_short no_steps word ≡ true
no_steps_short [] = refl
no_steps_short (letter ∷ word) =
    let none : slice_index no_steps (letter % 32) ≤ 0 = within_at no_steps [] (letter % 32) refl in
    both (nat_le (slice_index no_steps (letter % 32)) (length word)) (are_short no_steps word)
    (le-leb (slice_index no_steps (letter % 32)) (length word) (omega (arith, none))) (no_steps_short word)
