-- The values that a parameter set gives a query, and what they mean. MySQL Reference Manual,
-- "PREPARE Statement" (parameter markers); names as placeholders are a form of client libraries.
use Rattle.std.specs.Prelude.{◌≡◌, ℕ, List, [], ◌∷◌, map, filter, length, Option, Some, None, Result, Ok, Err, nat_eq}
use Rattle.std.specs.Prelude.{if◌then◌else◌, Vec}
use Rattle.std.specs.Cmp.Lexicographic.{pointwise}
use Rattle.std.specs.declared.alloc.Global.{Global}
use Rattle.mysql_queries.specs.Tokens.{HasTokens}
use Rattle.mysql_queries.specs.Queries.{is_place}
use Rattle.mysql_queries.specs.Parsed.{names_of}
use Rattle.mysql_queries.specs.Sql.{Sql}
use Rattle.mysql_cells.specs.Values.{content_of}
use Rattle.mysql_bytes.specs.declared.content.Content.{Content}
use Rattle.mysql_cells.specs.declared.value.Value.{Value}
use Rattle.mysql_values.specs.declared.params.Params.{Params}
use Rattle.mysql_values.specs.declared.params.Params.TheVariants.{Empty, Named, Positional}
use Rattle.mysql_values.specs.declared.params.ParamsError.{ParamsError}
use Rattle.mysql_values.specs.declared.params.ParamsError.TheVariants.{Missing, Confusion}
use Rattle.mysql_values.specs.declared.params.ParamsConfusionError.TheVariants.{NamedParamsForPositionalQuery}
use Rattle.mysql_values.specs.declared.params.ParamsConfusionError.TheVariants.{PositionalParamsForNamedQuery}

-- the value beside the first entry of this name
abbrev pub value_named : List ℕ → List (Vec ℕ Global × Value) → Option Value
value_named name [] = None
value_named name (entry ∷ entries) =
    if pointwise nat_eq name entry.0.items then Some entry.1 else value_named name entries

-- the error for a name without a value
abbrev pub value_missing : List ℕ → ParamsError
value_missing name = Missing (record { 0 = name })

-- a name's value before the values of the names behind it
abbrev pub value_first : List ℕ → Option Value → Result (List Value) ParamsError → Result (List Value) ParamsError
value_first name None rest = Err (value_missing name)
value_first name (Some value) (Ok values) = Ok (value ∷ values)
value_first name (Some value) (Err error) = Err error

-- the value of each name in order, or the first name that has none
abbrev pub values_named : List (Vec ℕ Global × Value) → List (List ℕ) → Result (List Value) ParamsError
values_named entries [] = Ok []
values_named entries (name ∷ names) = value_first name (value_named name entries) (values_named entries names)

-- The values that a set gives a query with these names, in order; or why it gives none. A query
-- without names takes a list of values, and one with names a value for each name; the empty set
-- gives any query no values.
abbrev pub values_over : List (List ℕ) → Params → Result (List Value) ParamsError
values_over names Empty = Ok []
values_over [] (Positional values) = Ok values.items
values_over (name ∷ names) (Positional values) = Err (Confusion PositionalParamsForNamedQuery)
values_over [] (Named values) = Err (Confusion NamedParamsForPositionalQuery)
values_over (name ∷ names) (Named values) = values_named values.entries (name ∷ names)

-- the names handed in, or none
abbrev pub names_given : Option (List (Vec ℕ Global)) → List (List ℕ)
names_given None = []
names_given (Some names) = map (λ name. name.items) names

-- A set by place: the values of these names for a set by name, and any other set as it is.
abbrev pub IsPositional : List (List ℕ) → Params → Params → Type 0
IsPositional names Empty result = result ≡ Empty
IsPositional names (Positional values) result = result ≡ Positional values
IsPositional names (Named values) result = (list : Vec Value Global) × (result ≡ Positional list) ×
    (values_named values.entries names ≡ Ok list.items)

-- a name of the list has no entry, and each name before it has one
abbrev pub IsMissing : List (List ℕ) → Params → ParamsError → Type 0
IsMissing names Empty error = ⊥
IsMissing names (Positional values) error = ⊥
IsMissing names (Named values) error = values_named values.entries names ≡ Err error

-- what a set means over a query: the contents of its values, which are as many as the placeholders and none a float
pub record IsMeaning (query : Sql) (params : Params) (contents : List Content) : Type 0 where
  pub tokens : List (List ℕ)
  pub has : HasTokens query.mode query.text tokens
  pub values : List Value
  pub over : values_over (names_of tokens) params ≡ Ok values
  pub count : length values ≡ length (filter is_place tokens)
  pub each : map content_of values ≡ map Some contents
