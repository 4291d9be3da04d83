-- What is left out beside a value, by the first bytes behind it.
use Rattle.std.proofs.Common.{if◌then◌else◌, ◌≡◌, ℕ, Bool, true, false, ◌&&◌, ◌||◌, ◌==◌, List, sym, ap, ◌∙◌}
use Rattle.mysql_queries.specs.Tokens.{HasTokens, dash}
use Rattle.mysql_bytes.specs.declared.mode.Mode.{Mode}
use Rattle.mysql_digests.specs.Digest.{Lexeme, Byte, agreed, digit_follows, is_left_out, is_power, is_string_prefix}
use Rattle.mysql_digests.specs.Digest.{lexemes_of, may_sign, value_follows}
use Rattle.mysql_digests.specs.Lexemes.{first_is_digit, lexeme_view}
use Rattle.mysql_digests.specs.declared.left_out.Before.{Before}
use Rattle.mysql_digests.specs.declared.left_out.Before.TheVariants.{Apart, Power}
use Rattle.mysql_digests.specs.declared.lexemes.Found.{Found}
use Rattle.mysql_digests.specs.declared.lexemes.Found.TheVariants as found
use Rattle.mysql_digests.proofs.Lexing.{digit_tokens}

pub word_left : (before : Before) (what : Found) (bytes : List ℕ) (ls : List Lexeme)
    (value : Bool) → what ≡ found.Word → false ≡ is_power before → true ≡ is_string_prefix bytes →
    value ≡ value_follows ls → value ≡ is_left_out before (lexeme_view what bytes) ls
word_left before what bytes ls value f p s v =
    v ∙ ap (λ x. x && value_follows ls) s ∙
    ap (λ x. x || (is_string_prefix bytes && value_follows ls)) p ∙
    sym (ap (λ y. is_left_out before (lexeme_view y bytes) ls) f)

pub byte_left : (before : Before) (what : Found) (b : ℕ) (bytes : List ℕ) (ls : List Lexeme)
    (digit : Bool) → what ≡ found.Byte b → true ≡ may_sign before && (b == dash) → digit ≡
    digit_follows ls → digit ≡ is_left_out before (lexeme_view what bytes) ls
byte_left before what b bytes ls digit f s d = d ∙ ap (λ x. x && digit_follows ls) s ∙
    sym (ap (λ y. is_left_out before (lexeme_view y bytes) ls) f)

-- behind the sign of an exponent
pub sign_behind : (m : Mode) (last : ℕ) (r : List ℕ) (tokens : List (List ℕ)) (digit : Bool) →
    HasTokens m r tokens → digit ≡ first_is_digit r → (if digit then Power else Apart) ≡
    (if digit_follows (lexemes_of m (agreed last tokens)) then Power else Apart)
sign_behind m last r tokens digit h e = ap (λ x. if x then Power else Apart) (e ∙ sym (digit_tokens m last r tokens h))
