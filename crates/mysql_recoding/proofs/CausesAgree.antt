-- How the first cause against a stream in its own order agrees with the one against recoding it.
use Rattle.std.proofs.Common.{◌≡◌, ◌⊎◌, inl, inr, ℕ, ◌-◌, List, [], ◌∷◌, map, Option, Some, None, Ok, sym, ◌∙◌, ap}
use Rattle.std.specs.Prelude.{if◌then◌else◌}
use Rattle.std.specs.Option.{option_map, option_or}
use Rattle.mysql_wire.specs.Bytes.{AreBytes}
use Rattle.mysql_values.specs.Sql.{Sql}
use Rattle.mysql_values.specs.Queries.{is_mixed}
use Rattle.mysql_bulk_builder.specs.Causes.{first_some}
use Rattle.mysql_receive.specs.Audit.{Audit}
use Rattle.mysql_receive.specs.Laws.{StreamHasOneAudit}
use Rattle.mysql_receive.specs.Query.{Statement, statement_of}
use Rattle.mysql_command_rules.specs.declared.refusal.Refusal.{Refusal}
use Rattle.mysql_command_rules.specs.declared.road.Road.TheVariants.{Execute}
use Rattle.mysql_command_rules.specs.Cause.{cause_of, query_cause}
use Rattle.mysql_values.specs.Laws.{OneTokens}
use Rattle.mysql_recoding.specs.declared.errors.RecodeError.{RecodeError}
use Rattle.mysql_recoding.specs.declared.errors.RecodeError.TheVariants as errors
use Rattle.mysql_recoding.specs.AsItComes.{CausesAgree, IsCauseAsItComes, RefusesQuery, cause_as_it_comes}
use Rattle.mysql_recoding.specs.Recoding.{Recodes}
use Rattle.mysql_recoding.specs.Causes.{ending_cause, error_for, recoding_cause, values_of_sets}
use Rattle.mysql_recoding.proofs.Causes.{is_whole, neither, no_cause, no_error, or_none, recodable, whole_cause}
use Rattle.mysql_recoding.proofs.OneRecoding.{one_audit}
use Rattle.mysql_recoding.proofs.QueryCauses.{not_mixed, query_is}

-- the cause against sending the sets of a stream
abbrev pub sets_refused : Statement → ℕ → Audit → Option Refusal
sets_refused statement limit audit = cause_of Execute statement limit (map Ok (values_of_sets audit.sets))

-- where nothing speaks against the sets, nothing does against the query
pub query_free : (statement : Statement) (limit : ℕ) (audit : Audit) →
    sets_refused statement limit audit ≡ None → query_cause Execute statement (limit - 4) ≡ None
query_free statement limit audit none = (neither (query_cause Execute statement (limit - 4)) _ none).0

-- then the first cause is how the stream ends, in both orders
pub by_ending : (statement : Statement) (limit : ℕ) (audit : Audit) →
    sets_refused statement limit audit ≡ None → cause_as_it_comes statement limit audit ≡
    ending_cause audit.ending
by_ending statement limit audit none =
    ap (λ (c : Option Refusal). first_some (option_map error_for c ∷ ending_cause audit.ending ∷
    [])) none ∙ or_none (ending_cause audit.ending)

pub recoding_by_ending : (statement : Statement) (limit : ℕ) (audit : Audit) →
    sets_refused statement limit audit ≡ None → recoding_cause statement limit audit ≡
    ending_cause audit.ending
recoding_by_ending statement limit audit none =
    ap (λ (c : Option Refusal). first_some
    ((if is_mixed statement.query.places then Some errors.Mixed else None) ∷
    ending_cause audit.ending ∷ option_map error_for c ∷ [])) none
    ∙ ap (λ mixed. first_some ((if mixed then Some errors.Mixed else None) ∷
    ending_cause audit.ending ∷ None ∷ []))
    (not_mixed statement (limit - 4) (query_free statement limit audit none))
    ∙ or_none (ending_cause audit.ending)

pub agree : (statement : Statement) (limit : ℕ) (audit : Audit) → CausesAgree statement limit audit
agree statement limit audit = record {
  whole = λ whole.
      ap (λ ending. first_some (option_map error_for (sets_refused statement limit audit) ∷
      ending_cause ending ∷ [])) whole
      ∙ or_none (option_map error_for (sets_refused statement limit audit)) ∙
      sym (whole_cause statement limit audit whole);
  sets_free = λ none. by_ending statement limit audit none ∙ sym (recoding_by_ending statement limit audit none);
  none = λ none.
      let parts = recodable statement limit audit none in
      by_ending statement limit audit parts.1 ∙ ap ending_cause parts.0;
  none_back = λ none.
      let parts = neither (option_map error_for (sets_refused statement limit audit)) _ none in
      let ending = neither (ending_cause audit.ending) None parts.1 in
      no_cause statement limit audit (is_whole audit.ending ending.0)
      (no_error (sets_refused statement limit audit) parts.0);
}

-- ---- queries

-- what speaks against the query speaks first
pub first_speaks : (query : Option Refusal) (rest : Option Refusal) (ending : Option RecodeError)
    (error : RecodeError) → option_map error_for query ≡ Some error
    → option_or (option_map error_for (option_or query rest)) ending ≡ Some error
first_speaks None rest ending error first = absurd (cc)
first_speaks (Some refusal) rest ending error first = first

-- a query that can't be prepared is the first cause against each stream
pub query_refused : StreamHasOneAudit →
    (query : Sql) (id limit : ℕ) (stream : List ℕ) (error : RecodeError) → AreBytes stream →
    RefusesQuery query id limit error
    → (error ≡ errors.Memory) ⊎ IsCauseAsItComes query id limit stream error
query_refused one_audit query id limit stream error bytes (inl memory) = inl memory
query_refused one_audit query id limit stream error bytes (inr why) =
    let found = one_audit (statement_of query why.tokens id) limit stream
    (query_is query why.tokens id why.has) bytes in
    inr (record {
      tokens = why.tokens;
      has = why.has;
      audit = found.0;
      says = (why.tokens, why.has, found.1);
      first = first_speaks (query_cause Execute (statement_of query why.tokens id) (limit - 4)) _
          (option_or (ending_cause found.0.ending) None) error why.first;
    })

-- ---- streams that are recoded

-- against one that is recoded there is no cause
pub recoded_passes : StreamHasOneAudit → OneTokens →
    (query : Sql) (id limit : ℕ) (stream old new : List ℕ) (error : RecodeError) → AreBytes stream
    → Recodes query id limit stream old new → IsCauseAsItComes query id limit stream error → ⊥
recoded_passes once tokens_once query id limit stream old new error bytes first second =
    let tokens : second.tokens ≡ first.tokens =
    tokens_once query.mode query.text second.tokens first.tokens second.has first.has in
    let audit : second.audit ≡ first.audit =
    one_audit once tokens_once query id limit stream second.audit first.audit bytes second.says
    first.says in
    let none : cause_as_it_comes (statement_of query first.tokens id) limit first.audit ≡ None =
    (agree (statement_of query first.tokens id) limit first.audit).none first.none in
    let same : cause_as_it_comes (statement_of query second.tokens id) limit second.audit ≡
    cause_as_it_comes (statement_of query first.tokens id) limit first.audit =
    ap (λ (t : List (List ℕ)). cause_as_it_comes (statement_of query t id) limit second.audit) tokens
    ∙ ap (λ (a : Audit). cause_as_it_comes (statement_of query first.tokens id) limit a) audit in
    let both : Some error ≡ None = sym second.first ∙ same ∙ none in
    cc both
