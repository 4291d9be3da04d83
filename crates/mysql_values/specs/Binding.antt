-- The text that a query and a parameter set make for a server in the query's mode, with byte strings
-- in the query's spelling, and why there is none.
-- MySQL Reference Manual, "Literal Values" and "PREPARE Statement" (parameter markers).
use Rattle.std.specs.Prelude.{◌≡◌, ◌⊎◌, ℕ, ◌==◌, List, [], ◌∷◌, ◌++◌, map, length, Option, Some, None, Result, Ok}
use Rattle.std.specs.Prelude.{Err}
use Rattle.std.specs.Prelude.{if◌then◌else◌}
use Rattle.std.specs.List.{AllByRecursion}
use Rattle.std.specs.Option.{option_map}
use Rattle.mysql_queries.specs.Tokens.{HasTokens}
use Rattle.mysql_queries.specs.Queries.{first_not_alone, interleaved, is_mixed, pieces_of, places_of, slices_between}
use Rattle.mysql_queries.specs.Queries.{Lexes, Slices}
use Rattle.mysql_queries.specs.Sql.{Sql}
use Rattle.mysql_bytes.specs.declared.content.Content.{Content}
use Rattle.mysql_queries.specs.Parsed.{names_of}
use Rattle.mysql_cells.specs.Values.{first_float}
use Rattle.mysql_literals.specs.Literals.{literal_of}
use Rattle.mysql_literals.specs.AsSql.{HasLiteral}
use Rattle.mysql_values.specs.Params.{IsMeaning, values_over}
use Rattle.mysql_cells.specs.declared.value.Value.{Value}
use Rattle.mysql_queries.specs.declared.placeholders.Place.{Place}
use Rattle.mysql_values.specs.declared.params.Params.{Params}
use Rattle.mysql_values.specs.declared.params.ParamsError.{ParamsError}
use Rattle.mysql_values.specs.declared.params.ParamsError.TheVariants.{Missing, Confusion, Memory}
use Rattle.mysql_values.specs.declared.bind.BindError.{BindError}
use Rattle.mysql_values.specs.declared.bind.BindError.TheVariants as bind_error

-- the refusal for a set that gives no values: want of memory is that of the whole
abbrev pub bind_error_of : ParamsError → BindError
bind_error_of (Missing name) = bind_error.Params (Missing name)
bind_error_of (Confusion confusion) = bind_error.Params (Confusion confusion)
bind_error_of Memory = bind_error.Memory

-- what is wrong with values for so many placeholders, by the errors that are handed in: they are
-- not as many, or else the first float.
abbrev pub values_cause : {E : Type 0} → E → (ℕ → E) → ℕ → List Value → Option E
values_cause wrong_count float count values =
    if length values == count then option_map (λ place. float place) (first_float values) else Some
    wrong_count

-- what is wrong with what a set gives for so many placeholders: no values, or what is wrong with these
abbrev pub given_cause : ℕ → Result (List Value) ParamsError → Option BindError
given_cause count (Err error) = Some (bind_error.Params error)
given_cause count (Ok values) = values_cause bind_error.WrongCount (λ place. bind_error.Float place) count values

-- the cause at a placeholder that doesn't stand alone, else the one behind it
abbrev pub alone_cause : Option ℕ → Option BindError → Option BindError
alone_cause None other = other
alone_cause (Some place) other = Some (bind_error.NotAlone place)

-- The first cause, in the order of the errors, for which no text is bound to these placeholders and
-- the values over them.
abbrev pub bind_cause : List Place → Result (List Value) ParamsError → Option BindError
bind_cause places over = if is_mixed places then Some bind_error.Mixed else alone_cause
    (first_not_alone places) (given_cause (length places) over)

-- no text is bound, for this cause
abbrev pub IsBindCause : Sql → Params → BindError → Type 0
IsBindCause query params error =
    (tokens : List (List ℕ)) × HasTokens query.mode query.text tokens ×
    (bind_cause (places_of query tokens) (values_over (names_of tokens) params) ≡
    Some error)

-- the literal of each value for the query's mode, in its spelling
abbrev pub literals_in : Sql → List Value → List (Option (List ℕ))
literals_in query values = map (λ value. literal_of query.mode query.spelling value) values

-- the text that is bound: the query's pieces with the literal of each value between them; no cause speaks against it
pub record IsBound (query : Sql) (params : Params) (text : List ℕ) : Type 0 where
  pub tokens : List (List ℕ)
  pub has : HasTokens query.mode query.text tokens
  pub values : List Value
  pub over : values_over (names_of tokens) params ≡ Ok values
  pub none : bind_cause (places_of query tokens) (Ok values) ≡ None
  pub literals : List (List ℕ)
  pub each : literals_in query values ≡ map Some literals
  pub spelled : text ≡ interleaved (pieces_of tokens) literals

-- a text between the placeholders of a query: its pieces with the literals of the values between
-- them, each a literal of its content
pub record IsFilled (query : Sql) (places : List Place) (values : List Value) (text : List ℕ) : Type 0 where
  pub literals : List (List ℕ)
  pub each : literals_in query values ≡ map Some literals
  pub have : AllByRecursion HasLiteral values
  pub spelled : text ≡ interleaved (slices_between query.text 0 places) literals

-- The text of the set over the query is appended, and reads as the set's meaning, by its pieces and
-- by its tokens.
pub record Binds (query : Sql) (params : Params) (old new : List ℕ) : Type 0 where
  pub text : List ℕ
  pub appended : new ≡ old ++ text
  pub bound : IsBound query params text
  pub contents : List Content
  pub meaning : IsMeaning query params contents
  pub sliced : Slices query text contents
  pub lexed : Lexes query text contents

-- why it isn't: Memory may stand in place of any answer; each other refusal is the first cause
abbrev pub RefusesBinding : Sql → Params → BindError → Type 0
RefusesBinding query params error = (error ≡ bind_error.Memory) ⊎ IsBindCause query params error
