-- What servers make of a comment with a version, `/*!` and a digit: one runs what stands in it, and
-- another skips it. A server that skips looks at no quote; some skip to the first `*/`, and some count
-- comments inside. MySQL Reference Manual, "Comments"; MariaDB Server Documentation, "Comment Syntax".
use Rattle.std.specs.Prelude.{◌≡◌, ◌≢◌, ℕ, zero, suc, Bool, true, false, not, ◌&&◌, ◌==◌, if◌then◌else◌, ◌⊎◌}
use Rattle.std.specs.Prelude.{List, [], ◌∷◌, ◌++◌, drop, flat_map, length, map, take, ◌-◌}
use Rattle.std.specs.List.{concat}
use Rattle.mysql_queries.specs.Alone.{begins}
use Rattle.mysql_queries.specs.Tokens.{IsBlockComment, IsToken, begins_end, comment_start, comment_end}
use Rattle.mysql_queries.specs.Tokens.{goes_on_as_opening, is_digit, slash, star}
use Rattle.mysql_bytes.specs.declared.mode.Mode.{Mode}

pub data Server : Type 0 where
  Runs : Server
  SkipsToFirstEnd : Server
  CountsWhileSkipping : Server

-- How many comments are open behind these bytes, where so many are before them: `/*` opens one more,
-- `*/` closes one. Where none is open, none is opened.
abbrev pub open_behind : ℕ → List ℕ → ℕ
open_behind zero bytes = zero
open_behind (suc n) [] = suc n
open_behind (suc n) (a ∷ []) = suc n
open_behind (suc n) (a ∷ b ∷ bytes) =
    if (a == star) && (b == slash) then open_behind n bytes
    else (if (a == slash) && (b == star) then open_behind (suc (suc n)) bytes else open_behind (suc n) (b ∷ bytes))

-- From `/*!` to where the comment is closed, counting those inside; where it isn't, to the end of the text.
pub record IsCounted (token rest : List ℕ) : Type 0 where
  pub inside : List ℕ
  pub spelled : token ≡ comment_start ++ inside
  pub still_open : (before after : List ℕ) → inside ≡ before ++ after → after ≢ [] → open_behind 1 before ≢ 0
  pub closed : (open_behind 1 inside ≡ 0) ⊎ (rest ≡ [])

-- `/*!` and a digit come first
abbrev pub begins_version : List ℕ → Bool
begins_version [] = false
begins_version (b ∷ after) = (b == slash) && goes_on_as_opening after && begins is_digit (drop 2 after)

-- the first token at a server where a comment with a version begins
abbrev pub TakesVersion : Server → List ℕ → List ℕ → Type 0
TakesVersion Runs token rest = token ≡ comment_start
TakesVersion SkipsToFirstEnd token rest = IsBlockComment token rest
TakesVersion CountsWhileSkipping token rest = IsCounted token rest

-- the first token at a server where a comment with a version begins, where one ends that it runs,
-- and elsewhere
abbrev pub TakesToken : Server → Mode → (begins ends : Bool) → List ℕ → List ℕ → Type 0
TakesToken server mode true ends token rest = TakesVersion server token rest
TakesToken server mode false true token rest = token ≡ comment_end
TakesToken server mode false false token rest = IsToken mode token rest

-- The slice is the first token at a server of a text that goes on with the rest, in a comment with a
-- version that it runs or not. It is that of the definitions but at both ends of such a comment.
abbrev pub IsTokenAt : Server → Mode → (running : Bool) → List ℕ → List ℕ → Type 0
IsTokenAt server mode running token rest =
    TakesToken server mode (begins_version (token ++ rest)) (running && begins_end (token ++ rest)) token rest

abbrev pub runs : Server → Bool
runs Runs = true
runs SkipsToFirstEnd = false
runs CountsWhileSkipping = false

-- whether a comment that the server runs goes on behind the token
abbrev pub runs_behind : Server → (running : Bool) → List ℕ → List ℕ → Bool
runs_behind server running token rest =
    if begins_version (token ++ rest) then runs server else running && not (begins_end (token ++ rest))

-- each slice is one where it stands
abbrev pub AreTokensAt : Server → Mode → (running : Bool) → List (List ℕ) → Type 0
AreTokensAt server mode running [] = Unit {0}
AreTokensAt server mode running (token ∷ tokens) =
    IsTokenAt server mode running token (concat tokens) ×
    AreTokensAt server mode (runs_behind server running token (concat tokens)) tokens

-- the tokens of a text at a server
pub record HasTokensAt (server : Server) (mode : Mode) (text : List ℕ) (tokens : List (List ℕ)) : Type 0 where
  pub joined : concat tokens ≡ text
  pub each : AreTokensAt server mode false tokens

-- a comment with a version, taken apart: what begins it, each byte inside, and what ends it
abbrev pub taken_apart : List ℕ → List (List ℕ)
taken_apart token =
    comment_start ∷ (map (λ b. b ∷ []) (drop 3 (take (length token - 2) token)) ++ comment_end ∷ [])

-- what a server makes of tokens: one that runs comments with a version takes each of them apart
abbrev pub tokens_at : Server → List (List ℕ) → List (List ℕ)
tokens_at Runs tokens = flat_map (λ token. if begins_version token then taken_apart token else token ∷ []) tokens
tokens_at SkipsToFirstEnd tokens = tokens
tokens_at CountsWhileSkipping tokens = tokens
