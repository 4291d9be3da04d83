-- Texts that end at their first zero.
use Rattle.std.proofs.Common.{◌≡◌, ◌≤◌, ℕ, List, length, take, ◌++◌, ◌∷◌, [], ◌-◌, length-append, true, refl, ap, ◌∙◌}
use Rattle.std.proofs.Common.{arith, eq-eqb}
use Rattle.std.proofs.lemmas.Bool.{eqb-true}
use Rattle.std.proofs.lemmas.List.{get_or-take, length-take, take_all}
use Rattle.std.proofs.lemmas.List.Sums.{fails_before_first, position_or_len_is}
use Rattle.std.proofs.Math.Seq.{get_or-append_seam, take-append_seam, take-length}
use Rattle.std.specs.List.{before_first, position_or_len}
use Rattle.mysql_auth.specs.Plugins.{without_zero}
use Rattle.mysql_authentication.specs.Written.{has_no_zero}
use Rattle.mysql_buf.specs.Reading.{is_zero}

-- a text without a zero is the front before its first one
pub front_whole : (text : List ℕ) → has_no_zero text ≡ true → before_first is_zero text ≡ text
front_whole text h =
    let same : length (before_first is_zero text) ≡ length text =
    eqb-true (length (before_first is_zero text)) (length text) h in
    let cut : length (take (position_or_len is_zero text) text) ≡ length text = same in
    take_all (position_or_len is_zero text) text (omega (arith, length-take (position_or_len is_zero text) text))

-- the front before the first zero has none
pub front_has_none : (bytes : List ℕ) → has_no_zero (before_first is_zero bytes) ≡ true
front_has_none bytes =
    let front = before_first is_zero bytes in
    let place = position_or_len is_zero bytes in
    let short : length (before_first is_zero bytes) ≤ position_or_len is_zero bytes =
    omega (arith, length-take (position_or_len is_zero bytes) bytes) in
    let all : position_or_len is_zero (before_first is_zero bytes) ≡ length (before_first is_zero bytes) =
    position_or_len_is is_zero (before_first is_zero bytes) (length (before_first is_zero bytes)) 0 (omega arith)
    (λ k h. rw (get_or-take (position_or_len is_zero bytes) bytes k 0 (omega arith))
    (fails_before_first is_zero bytes k 0 (omega arith)))
    (λ h. absurd (omega arith)) in
    let whole : before_first is_zero (before_first is_zero bytes) ≡ before_first is_zero bytes =
    ap (λ (n : ℕ). take n (before_first is_zero bytes)) all ∙ take-length (before_first is_zero bytes) in
    eq-eqb (length (before_first is_zero (before_first is_zero bytes)))
    (length (before_first is_zero bytes)) (ap length whole)

-- a zero behind a text is dropped
pub last_zero : (text : List ℕ) → without_zero (text ++ 0 ∷ []) ≡ text
last_zero text =
    let len : length (text ++ 0 ∷ []) - 1 ≡ length text = omega (arith, length-append text (0 ∷ [])) in
    rw (len, get_or-append_seam text 0 [] 1, take-append_seam text (0 ∷ [])) refl
