-- The statement of a query.
use Rattle.std.proofs.Common.{ℕ, List, refl, subst}
use Rattle.mysql_values.specs.Sql.{Sql}
use Rattle.mysql_values.specs.Tokens.{HasTokens}
use Rattle.mysql_receive.specs.Query.{IsQuery, Statement, statement_of}
use Rattle.mysql_receive.specs.Audit.{IsAbout}

-- its query is one
pub query_is : (query : Sql) (tokens : List (List ℕ)) (id : ℕ) →
    HasTokens query.mode query.text tokens → IsQuery (statement_of query tokens id).query
query_is query tokens id has = record { parsed = (tokens, has, refl); places = (tokens, has, refl) }

-- what is said of a statement about a query is said of the statement of its tokens
pub of_tokens : (P : Statement → Type 0) (statement : Statement) (query : Sql) (id : ℕ) →
    IsAbout statement query id → P statement
    → (tokens : List (List ℕ)) × HasTokens query.mode query.text tokens × P (statement_of query tokens id)
of_tokens P statement query id about holds = (about.0, about.1, subst P about.2 holds)
