-- A text without a backslash has the same tokens in each mode.
use Rattle.std.proofs.Common.{◌≢◌, ℕ, Bool, List, [], ◌∷◌, ◌++◌, flat_map, refl, sym, subst, inl, inr}
use Rattle.std.specs.List.{AllByRecursion, concat}
use Rattle.mysql_values.specs.Mode.{Mode}
use Rattle.mysql_values.specs.Tokens.{AreTokens, Closes, HasShape, Inside, IsInside, IsQuoted, Kind, Byte, Escape}
use Rattle.mysql_values.specs.Tokens.{Doubled, backslash, has_escapes, inside_bytes, kind_of}
use Rattle.mysql_values.specs.Tokens.{Quoted, LineComment, BlockComment, Opening, Closing, Name, Mark, Plain}
use Rattle.mysql_command_rules.specs.Laws.{TokensInEachMode}
use Rattle.mysql_command_rules.proofs.Held.{all_parts}

-- no byte is a backslash
abbrev Plainly : List ℕ → Type 0
Plainly bytes = AllByRecursion (λ b. b ≢ backslash) bytes

-- what stands inside quotes without a backslash stands so with escapes and without
inside_too : (e f : Bool) (quote : ℕ) (parts : List Inside) (closing : List ℕ) →
    Plainly (flat_map (inside_bytes quote) parts ++ closing) →
    AllByRecursion (IsInside e quote) parts → AllByRecursion (IsInside f quote) parts ×
    Plainly closing
inside_too e f quote [] closing none is = (tt, none)
inside_too e f quote (Byte b ∷ parts) closing none is = let rest =
    inside_too e f quote parts closing none.1 is.1 in (((is.0.0, λ h. none.0), rest.0), rest.1)
inside_too e f quote (Escape b ∷ parts) closing none is = absurd (none.0 refl)
inside_too e f quote (Doubled ∷ parts) closing none is = let rest =
    inside_too e f quote parts closing none.1.1 is.1 in ((tt, rest.0), rest.1)

closes_too : (e f : Bool) (quote : ℕ) (closing rest : List ℕ) → Plainly closing →
    Closes e quote closing rest → Closes f quote closing rest
closes_too e f quote closing rest none (inl quoted) = inl quoted
closes_too e f quote closing rest none (inr (ends, inl nothing)) = inr (ends, inl nothing)
closes_too e f quote closing rest none (inr (ends, inr escape)) =
    let found : Plainly (backslash ∷ []) = subst Plainly escape.0 none in absurd (found.0 refl)

quoted_too : (e f : Bool) (quote : ℕ) (token rest : List ℕ) → Plainly token →
    IsQuoted e quote token rest → IsQuoted f quote token rest
quoted_too e f quote token rest none is =
    let spelled : Plainly (quote ∷ (flat_map (inside_bytes quote) is.parts ++ is.closing)) =
    subst Plainly is.spelled none in
    let parts = inside_too e f quote is.parts is.closing spelled.1 is.inside in
    record {
      parts = is.parts;
      closing = is.closing;
      inside = parts.0;
      spelled =
          is.spelled;
      closes = closes_too e f quote is.closing rest parts.1 is.closes;
    }

shape_too : (m o : Mode) (kind : Kind) (token rest : List ℕ) → Plainly token →
    HasShape m kind token rest → HasShape o kind token rest
shape_too m o (Quoted quote) token rest none is =
    quoted_too (has_escapes m quote) (has_escapes o quote) quote token rest none is
shape_too m o LineComment token rest none is = is
shape_too m o BlockComment token rest none is = is
shape_too m o Opening token rest none is = is
shape_too m o Closing token rest none is = is
shape_too m o Name token rest none is = is
shape_too m o Mark token rest none is = is
shape_too m o Plain token rest none is = is

tokens_too : (m o : Mode) (tokens : List (List ℕ)) → Plainly (concat tokens) → AreTokens m tokens → AreTokens o tokens
tokens_too m o [] none are = tt
tokens_too m o (token ∷ tokens) none are =
    let parts = all_parts (λ b. b ≢ backslash) token (concat tokens) none in (
      shape_too m o (kind_of (token ++ concat tokens)) token (concat tokens) parts.0 are.0,
      tokens_too m o tokens parts.1 are.1,
    )

pub tokens_in_each_mode : TokensInEachMode
tokens_in_each_mode m o text tokens none has =
    record {
      joined = has.joined;
      each =
          tokens_too m o tokens (subst Plainly (sym has.joined) none) has.each;
    }
