-- A query as a statement, and its prepare. MySQL: Client/Server Protocol, "COM_STMT_PREPARE"; MySQL
-- Reference Manual, "PREPARE Statement" (parameter markers).
use Rattle.std.specs.Prelude.{◌≡◌, ◌⊎◌, ℕ, false, List, [], ◌∷◌, ◌++◌, length, None, Some}
use Rattle.std.specs.List.{join_with_byte}
use Rattle.mysql_values.specs.Sql.{Sql}
use Rattle.mysql_values.specs.Parsed.{Parsed, names_of}
use Rattle.mysql_values.specs.Queries.{is_mixed, pieces_of, places_of}
use Rattle.mysql_values.specs.Tokens.{HasTokens, question}
use Rattle.mysql_receive.specs.Query.{statement_of}
use Rattle.mysql_command_rules.specs.declared.refusal.Refusal.{Refusal}
use Rattle.mysql_command_rules.specs.declared.refusal.Refusal.TheVariants as refusals
use Rattle.mysql_command_rules.specs.Cause.{prepare_cause}
use Rattle.mysql_command_rules.specs.Sent.{prepare_of, stream_of}

-- what contracts see of a statement: its query's text for a server in a mode, the text with a question mark for each
-- placeholder and the names among them, how many placeholders there are, and its id
pub record SentStatement : Type 0 where
  pub sql : Sql
  pub parsed : Parsed
  pub places : ℕ
  pub id : ℕ

-- a query as a statement: with a question mark for each placeholder, its names, and how many
-- placeholders it has, all of one kind
pub record IsStatement (query : Sql) (parsed : Parsed) (places : ℕ) : Type 0 where
  pub tokens : List (List ℕ)
  pub has : HasTokens query.mode query.text tokens
  pub query_is : parsed.query ≡ join_with_byte question (pieces_of tokens)
  pub names_are : parsed.names ≡ names_of tokens
  pub count : places ≡ length (places_of query tokens)
  pub one_kind : is_mixed (places_of query tokens) ≡ false

-- the prepare of a query's statement is appended: nothing speaks against it, with a payload of at
-- most so many bytes
abbrev pub AppendsPrepare : Sql → ℕ → ℕ → List ℕ → List ℕ → Type 0
AppendsPrepare query id room old new =
    (tokens : List (List ℕ)) × HasTokens query.mode query.text tokens ×
    (prepare_cause (statement_of query tokens id).query room ≡ None) ×
    (new ≡ old ++ stream_of (prepare_of (statement_of query tokens id) ∷ []))

-- why it isn't: Memory, or the first cause that speaks against it
abbrev pub RefusesPrepare : Sql → ℕ → ℕ → Refusal → Type 0
RefusesPrepare query id room refusal = (refusal ≡ refusals.Memory) ⊎
    ((tokens : List (List ℕ)) × HasTokens query.mode query.text tokens ×
    (prepare_cause (statement_of query tokens id).query room ≡ Some refusal))
