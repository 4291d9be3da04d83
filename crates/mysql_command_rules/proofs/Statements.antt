-- A query and an id have one statement.
use Rattle.std.proofs.Common.{ℕ, List, refl, sym, ◌∙◌, ap}
use Rattle.mysql_values.specs.Sql.{Sql}
use Rattle.mysql_values.specs.Laws.{OneTokens}
use Rattle.mysql_values.specs.Tokens.{HasTokens}
use Rattle.mysql_receive.specs.Query.{IsQuery, statement_of}
use Rattle.mysql_command_rules.specs.Laws.{OneStatement}

pub one_statement : OneTokens → OneStatement
one_statement once query id c d first second =
    first.2 ∙ ap (λ tokens. statement_of query tokens id)
    (once query.mode query.text first.0 second.0 first.1 second.1) ∙ sym second.2

-- its query is one
pub query_is : (query : Sql) (tokens : List (List ℕ)) (id : ℕ) →
    HasTokens query.mode query.text tokens → IsQuery (statement_of query tokens id).query
query_is query tokens id has = record { parsed = (tokens, has, refl); places = (tokens, has, refl) }
