-- What it says of a query that it can be prepared.
use Rattle.std.proofs.Common.{◌≡◌, ◌-◌, ◌++◌, ℕ, Bool, true, false, List, [], ◌∷◌, length, Option, None, refl, ◌∙◌, ap}
use Rattle.std.proofs.Common.{inl, inr}
use Rattle.std.specs.Option.{option_map, option_or}
use Rattle.std.proofs.lemmas.List.{append-nil}
use Rattle.mysql_values.specs.Sql.{Sql}
use Rattle.mysql_values.specs.Laws.{OneTokens}
use Rattle.mysql_values.specs.Parsed.{Parsed}
use Rattle.mysql_values.specs.Queries.{is_mixed, places_of}
use Rattle.mysql_values.specs.Tokens.{HasTokens}
use Rattle.mysql_receive.specs.Query.{IsQuery, Statement, statement_of}
use Rattle.mysql_command_rules.specs.declared.refusal.Refusal.{Refusal}
use Rattle.mysql_command_rules.specs.declared.refusal.Refusal.TheVariants as refusals
use Rattle.mysql_command_rules.specs.declared.road.Road.TheVariants.{Execute}
use Rattle.mysql_command_rules.specs.Cause.{cause_if, query_cause}
use Rattle.mysql_command_rules.specs.Sent.{prepare_of, stream_of}
use Rattle.mysql_send.specs.Statement.{AppendsPrepare, IsStatement, RefusesPrepare}
use Rattle.mysql_recoding.specs.AsItComes.{RefusesQuery}
use Rattle.mysql_recoding.specs.Causes.{error_for}
use Rattle.mysql_recoding.specs.Steps.{CanBePrepared}

one_kind_of : (mixed : Bool) (rest : Option Refusal) →
    option_or (cause_if mixed refusals.Mixed) rest ≡ None → mixed ≡ false
one_kind_of false rest none = refl
one_kind_of true rest none = absurd (cc)

-- a query that can be prepared has one kind of placeholder
pub not_mixed : (statement : Statement) (room : ℕ) → query_cause Execute statement room ≡ None →
    is_mixed statement.query.places ≡ false
not_mixed statement room none = one_kind_of (is_mixed statement.query.places) _ none

-- the query of a statement is one
pub query_is : (query : Sql) (tokens : List (List ℕ)) (id : ℕ) →
    HasTokens query.mode query.text tokens → IsQuery (statement_of query tokens id).query
query_is query tokens id has = record { parsed = (tokens, has, refl); places = (tokens, has, refl) }

-- why it can't be prepared is why no recoder is made
pub not_prepared : (query : Sql) (id limit : ℕ) (refusal : Refusal) →
    RefusesPrepare query id (limit - 4) refusal → RefusesQuery query id limit (error_for refusal)
not_prepared query id limit refusal (inl memory) = inl (ap error_for memory)
not_prepared query id limit refusal (inr why) =
    inr (record { tokens = why.0; has = why.1; first = ap (λ o. option_map error_for o) why.2 })

-- its prepare in a list that was empty
pub can_be_prepared : OneTokens → (query : Sql) (parsed : Parsed) (places : ℕ) →
    IsStatement query parsed places → (id limit : ℕ) (old new : List ℕ) → old ≡ [] →
    AppendsPrepare query id (limit - 4) old new → CanBePrepared query id limit places new
can_be_prepared once query parsed places s id limit old new empty p = record {
  tokens = p.0;
  has = p.1;
  places_are = s.count ∙ ap (λ t. length (places_of query t)) (once query.mode query.text s.tokens p.0 s.has p.1);
  none = p.2;
  prepare_is = p.3 ∙ ap (λ l. l ++ stream_of (prepare_of (statement_of query p.0 id) ∷ [])) empty ∙ append-nil _;
}
