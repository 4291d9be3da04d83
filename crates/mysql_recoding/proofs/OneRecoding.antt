-- A stream is recoded in one way, and streams with equal sets to equal bytes.
use Rattle.mysql_receive.specs.Query.{statement_of}
use Rattle.std.proofs.Common.{◌≡◌, ℕ, ◌<◌, ◌^◌, List, ◌++◌, length, Some, sym, ◌∙◌, ap, subst}
use Rattle.mysql_wire.specs.Bytes.{AreBytes}
use Rattle.mysql_values.specs.Sql.{Sql}
use Rattle.mysql_values.specs.Laws.{OneTokens}
use Rattle.mysql_values.specs.Tokens.{HasTokens}
use Rattle.mysql_receive.specs.Audit.{Audit, AuditOf, Audited}
use Rattle.mysql_receive.specs.Laws.{StreamHasOneAudit}
use Rattle.mysql_receive.specs.Reading.{Set}
use Rattle.mysql_receive.specs.declared.audit.End.TheVariants.{Whole}
use Rattle.mysql_recoding.specs.Causes.{recoding_cause}
use Rattle.mysql_recoding.specs.Laws.{EqualSetsRecodeEqually, RecodingsAreDecided, RecodingsCarryTheSame}
use Rattle.mysql_recoding.proofs.Canonical.{appended_form, canonical, recoded}
use Rattle.mysql_recoding.proofs.QueryCauses.{query_is}

-- a stream says one thing of a query and an id
pub one_audit : StreamHasOneAudit → OneTokens →
    (query : Sql) (id limit : ℕ) (stream : List ℕ) (a b : Audit) → AreBytes stream →
    AuditOf query id limit stream a → AuditOf query id limit stream b → a ≡ b
one_audit once one query id limit stream a b bytes first second =
    let same : second.0 ≡ first.0 = one query.mode query.text second.0 first.0 second.1 first.1 in
    let found = once (statement_of query first.0 id) limit stream (query_is query first.0 id first.1) bytes in
    let of_first : a ≡ found.0 = found.2 a first.2 in
    let of_second : b ≡ found.0 =
    found.2 b (subst (λ (tokens : List (List ℕ)). Audited (statement_of query tokens id) limit
    stream b) same second.2) in
    of_first ∙ sym of_second

-- what speaks against a stream is one thing, whichever tokens and audit say it
one_cause : StreamHasOneAudit → OneTokens →
    (query : Sql) (id limit : ℕ) (stream : List ℕ) (tokens others : List (List ℕ)) (a b : Audit) →
    AreBytes stream
    → HasTokens query.mode query.text tokens → HasTokens query.mode query.text others →
    AuditOf query id limit stream a → AuditOf query id limit stream b
    → recoding_cause (statement_of query tokens id) limit a ≡ recoding_cause (statement_of query others id) limit b
one_cause once tokens_once query id limit stream tokens others a b bytes has also first second =
    ap (λ t. recoding_cause (statement_of query t id) limit a)
    (tokens_once query.mode query.text tokens others has also)
    ∙ ap (λ (audit : Audit). recoding_cause (statement_of query others id) limit audit)
    (one_audit once tokens_once query id limit stream a b bytes first second)

-- and so is its canonical form
one_form : StreamHasOneAudit → OneTokens →
    (query : Sql) (id limit : ℕ) (stream : List ℕ) (tokens others : List (List ℕ)) (a b : Audit) →
    AreBytes stream
    → HasTokens query.mode query.text tokens → HasTokens query.mode query.text others →
    AuditOf query id limit stream a → AuditOf query id limit stream b
    → canonical (statement_of query tokens id) a.sets ≡ canonical (statement_of query others id) b.sets
one_form once tokens_once query id limit stream tokens others a b bytes has also first second =
    ap (λ t. canonical (statement_of query t id) a.sets) (tokens_once query.mode query.text tokens others has also)
    ∙ ap (λ (audit : Audit). canonical (statement_of query others id) audit.sets)
    (one_audit once tokens_once query id limit stream a b bytes first second)

pub decided : StreamHasOneAudit → OneTokens → RecodingsAreDecided
decided once tokens_once query id limit stream old bytes = record {
  one = λ new other first second.
      let form = one_form once tokens_once query id limit stream first.tokens second.tokens
      first.audit second.audit bytes first.has second.has first.says second.says in
      recoded query id limit stream old new first ∙ ap (λ l. old ++ l) form ∙
      sym (recoded query id limit stream old other second);
  cause_one = λ error other first second.
      let causes = one_cause once tokens_once query id limit stream first.tokens second.tokens
      first.audit second.audit bytes first.has second.has first.says second.says in
      let same : Some error ≡ Some other = sym first.first ∙ causes ∙ second.first in
      cc same;
  not_both = λ new error first second.
      let causes = one_cause once tokens_once query id limit stream first.tokens second.tokens
      first.audit second.audit bytes first.has second.has first.says second.says in
      cc (first.none, causes, second.first);
}

pub recode_equally : RecodingsCarryTheSame → StreamHasOneAudit → OneTokens → EqualSetsRecodeEqually
recode_equally carry once tokens_once query id limit stream behind old recoded after other few room
    small short bytes other_bytes recoded_bytes first second =
    let tokens : first.tokens ≡ second.tokens =
    tokens_once query.mode query.text first.tokens second.tokens first.has second.has in
    let here : recoded ≡ canonical (statement_of query first.tokens id) first.audit.sets =
    appended_form query id limit stream old recoded first in
    let there : other ≡ canonical (statement_of query second.tokens id) second.audit.sets =
    appended_form query id limit behind after other second in
    record {
      bytes = λ same. here ∙ ap (λ t. canonical (statement_of query t id) first.audit.sets) tokens ∙
          ap (λ (l : List Set). canonical (statement_of query second.tokens id) l) same ∙ sym there;
      carried = λ same.
          let other_short : length other < 2 ^ 64 = subst (λ (l : List ℕ). length l < 2 ^ 64) same short in
          let of_first = carry query id limit stream old recoded few room small short bytes first in
          let of_other = carry query id limit behind after other few room small other_short other_bytes second in
          let of_second : AuditOf query id limit recoded (record { sets = second.audit.sets; ending = Whole }) =
          subst (λ (l : List ℕ). AuditOf query id limit l
          (record { sets = second.audit.sets; ending = Whole })) (sym same) of_other in
          ap (λ (a : Audit). a.sets)
          (one_audit once tokens_once query id limit recoded
          (record { sets = first.audit.sets; ending = Whole })
          (record { sets = second.audit.sets; ending = Whole }) recoded_bytes of_first
          of_second);
    }
