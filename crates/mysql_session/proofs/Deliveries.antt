-- Sets that were sent in a form that can be read back are delivered, and what follows of sets that are delivered.
use Rattle.std.proofs.Common.{◌≡◌, ℕ, ◌+◌, ◌<◌, List, [], ◌∷◌, ◌++◌, filter, length, map, None, Ok, refl, sym, ◌∙◌, ap}
use Rattle.std.proofs.Common.{subst}
use Rattle.std.specs.List.{AllByRecursion, concat}
use Rattle.std.proofs.lemmas.List.{append-nil, append_cancel_left, get_or-append-add}
use Rattle.mysql_wire.specs.Bytes.{AreBytes}
use Rattle.mysql_values.specs.Sql.{Sql}
use Rattle.mysql_values.specs.Laws.{OneTokens}
use Rattle.mysql_values.specs.Parsed.{names_of}
use Rattle.mysql_values.specs.Queries.{is_place, places_of}
use Rattle.mysql_values.specs.Value.{Value}
use Rattle.mysql_receive.specs.declared.audit.End.TheVariants.{Whole}
use Rattle.mysql_receive.specs.Audit.{Audit, AuditOf}
use Rattle.mysql_receive.specs.Laws.{CuttingsAgree}
use Rattle.mysql_receive.specs.Reading.{Set}
use Rattle.mysql_receive.specs.Query.{statement_of}
use Rattle.mysql_command_rules.specs.Cause.{cause_of}
use Rattle.mysql_command_rules.specs.Laws.{IsDelivered, SentPayloadsFit, SentSetsAreDelivered}
use Rattle.mysql_command_rules.specs.Reading.{AreMeanings, HaveContents, IsReadable}
use Rattle.mysql_command_rules.specs.Sending.{SendsGiven}
use Rattle.mysql_command_rules.specs.Sent.{stream_of}
use Rattle.mysql_command_rules.specs.Sets.{Given, all_given_in_places}
use Rattle.mysql_command_rules.specs.declared.road.Road.{Road}
use Rattle.mysql_command_rules.specs.declared.road.Road.TheVariants.{Execute}
use Rattle.mysql_send.specs.Laws.{FurtherSetsAreSent}
use Rattle.mysql_send.specs.Executions.{AppendsMore, limits_of}
use Rattle.mysql_recoding.specs.Causes.{values_of_sets}
use Rattle.mysql_recoding.specs.Laws.{RecodingsAreSent}
use Rattle.mysql_session.specs.Delivery.{Delivers, ReadsWholeAs}
use Rattle.mysql_session.specs.Laws.{DeliveriesAreReadBack, DeliveriesAreReceived, FurtherSetsAreDelivered}
use Rattle.mysql_session.specs.Laws.{ReadableSetsAreDelivered, RecodingsAreDelivered}

-- ---- one audit

-- the audit of a stream that carries these contents and is whole
abbrev whole_of : List Set → Audit
whole_of contents = record { sets = contents; ending = Whole }

-- bytes behind others are bytes
bytes_behind : (front back : List ℕ) → AreBytes (front ++ back) → AreBytes back
bytes_behind front back bytes =
    λ i. subst (λ (n : ℕ). n < 256) (get_or-append-add front back i 0) (bytes (length front + i))

-- a stream of bytes with such an audit has no other, in whichever pieces
one_audit : CuttingsAgree → (query : Sql) (id limit : ℕ) (stream : List ℕ) (contents : List Set) →
    AreBytes stream → AuditOf query id limit stream (whole_of contents) →
    ReadsWholeAs query id limit stream contents
one_audit agree query id limit stream contents bytes is pieces audit joined =
    let there : AuditOf query id limit (concat pieces) (whole_of contents) =
    subst (λ (l : List ℕ). AuditOf query id limit l (whole_of contents)) (sym joined) is in
    let alone : concat pieces ≡ concat (concat pieces ∷ []) = sym (append-nil (concat pieces)) in (
      λ other. agree query id limit pieces (concat pieces ∷ []) audit (whole_of contents)
          (subst (λ (l : List ℕ). AreBytes l) (sym joined) bytes) alone other
          (subst (λ (l : List ℕ). AuditOf query id limit l (whole_of contents)) alone there),
      λ same. subst (λ (a : Audit). AuditOf query id limit (concat pieces) a) (sym same) there,
    )

-- ---- one list of values

-- values that are given
abbrev values_given : List Value → Given
values_given values = Ok values

one_values : (xs ys : List (List Value)) → map values_given xs ≡ map values_given ys → xs ≡ ys
one_values [] [] same = refl
one_values [] (y ∷ ys) same = cc
one_values (x ∷ xs) [] same = cc
one_values (x ∷ xs) (y ∷ ys) same =
    let here : values_given x ≡ values_given y = cc in
    let first : x ≡ y = cc in
    let others : map values_given xs ≡ map values_given ys = cc in
    ap (λ v. v ∷ xs) first ∙ ap (λ l. y ∷ l) (one_values xs ys others)

-- sets of values have as many as there are placeholders
abbrev Counts : List (List ℕ) → List (List Value) → Type 0
Counts tokens values = AllByRecursion (λ set. length set ≡ length (filter is_place tokens)) values

counted : (tokens others : List (List ℕ)) (values same : List (List Value)) → tokens ≡ others →
    values ≡ same → Counts tokens values → Counts others same
counted tokens others values same one two counts =
    subst (λ (l : List (List Value)). Counts others l) two
    (subst (λ (t : List (List ℕ)). Counts t values) one counts)

-- sets of values that can be read back
abbrev AreReadable : Road → Sql → ℕ → List (List ℕ) → List (List Value) → Type 0
AreReadable road query id tokens values = AllByRecursion (IsReadable road (statement_of query tokens id).query) values

readable_by : (road : Road) (query : Sql) (id : ℕ) (tokens others : List (List ℕ))
    (values same : List (List Value)) → tokens ≡ others → values ≡ same →
    AreReadable road query id tokens values → AreReadable road query id others same
readable_by road query id tokens others values same one two readable =
    subst (λ (l : List (List Value)). AreReadable road query id others l) two
    (subst (λ (t : List (List ℕ)). AreReadable road query id t values) one readable)

-- ---- the laws

pub delivered : SentSetsAreDelivered → SentPayloadsFit → CuttingsAgree → OneTokens → ReadableSetsAreDelivered
delivered sent fit agree once road query sets id limit old new small room short bytes q =
    let d : IsDelivered road query sets id limit old new = sent road query sets id limit old new small room short q in
    let s : SendsGiven road query sets id limit old new = d.whole.sends in
    let contents : List Set = d.read_back.contents in
    let m : AreMeanings query sets contents = d.read_back.reads.meanings in
    let tokens : m.tokens ≡ s.tokens = once query.mode query.text m.tokens s.tokens m.has s.has in
    let values : m.values ≡ s.values =
    one_values m.values s.values (sym m.given ∙ ap (λ t. sets (names_of t)) tokens ∙ s.given) in
    let same_tokens : q.sends.tokens ≡ s.tokens =
    once query.mode query.text q.sends.tokens s.tokens q.sends.has s.has in
    let same_values : q.sends.values ≡ s.values =
    one_values q.sends.values s.values (sym q.sends.given ∙
    ap (λ t. sets (names_of t)) same_tokens ∙ s.given) in
    let stream : d.read_back.stream ≡ stream_of s.sent =
    append_cancel_left old d.read_back.stream (stream_of s.sent) (sym d.read_back.appended ∙
    s.appended) in
    let none : cause_of road (statement_of query s.tokens id) limit (map Ok s.values) ≡ None =
    ap (λ l. cause_of road (statement_of query s.tokens id) limit l) (sym s.given) ∙ s.none in
    record {
      tokens = s.tokens;
      has = s.has;
      values = s.values;
      given = s.given;
      counts = counted m.tokens s.tokens m.values s.values tokens values m.counts;
      no_cause = none;
      sent = s.sent;
      are_sent = s.are_sent;
      within = fit road (statement_of query s.tokens id) limit s.values s.sent none s.are_sent;
      appended = s.appended;
      contents = contents;
      meanings = subst (λ (l : List (List Value)). HaveContents l contents) values m.each;
      readable = readable_by road query id q.sends.tokens s.tokens q.sends.values s.values
          same_tokens same_values q.readable;
      read_back = one_audit agree query id limit (stream_of s.sent) contents
          (bytes_behind old (stream_of s.sent)
          (subst (λ (l : List ℕ). AreBytes l) s.appended bytes))
          (subst (λ (l : List ℕ). AuditOf query id limit l (whole_of contents)) stream d.read_back.reads.audit);
      fronts = d.whole.fronts;
      fewest = d.whole.fewest;
    }

pub recoded : RecodingsAreSent → ReadableSetsAreDelivered → RecodingsAreDelivered
recoded sent delivers query id limit stream old new small least room short bytes appended is =
    delivers Execute query (all_given_in_places (values_of_sets is.audit.sets)) id limit old new
    small least short appended (sent query id limit stream old new room bytes is)

-- what was sent of them
abbrev sent_of : (road : Road) (query : Sql) (sets : List (List ℕ) → List Given) (id limit : ℕ)
    (old new : List ℕ) → Delivers road query sets id limit old new →
    SendsGiven road query sets id limit old new
sent_of road query sets id limit old new d = record {
  tokens = d.tokens;
  has = d.has;
  values = d.values;
  given = d.given;
  none = ap (λ l. cause_of road (statement_of query d.tokens id) limit l) d.given ∙ d.no_cause;
  sent = d.sent;
  are_sent = d.are_sent;
  appended = d.appended;
}

pub read_back : DeliveriesAreReadBack
read_back road query sets id limit old new d =
    let stream : List ℕ = stream_of d.sent in
    let alone : stream ++ [] ≡ stream = append-nil stream in
    record {
      read_back = record {
        stream = stream;
        appended = d.appended;
        contents = d.contents;
        reads = record {
          meanings = record {
            tokens = d.tokens;
            has = d.has;
            values = d.values;
            given =
                d.given;
            counts = d.counts;
            each = d.meanings;
          };
          audit = subst (λ (l : List ℕ). AuditOf query id limit l (whole_of d.contents)) alone
              ((d.read_back (stream ∷ []) (whole_of d.contents) alone).1 refl);
        };
      };
      whole = record {
        sends = sent_of road query sets id limit old new d;
        fronts = d.fronts;
        fewest = d.fewest;
      };
    }

pub further : FurtherSetsAreSent → ReadableSetsAreDelivered → OneTokens → FurtherSetsAreDelivered
further goes_on delivers once query sets limit first more old mid new small least short bytes d count a =
    let tokens : a.tokens ≡ d.tokens = once query.sql.mode query.sql.text a.tokens d.tokens a.has d.has in
    delivers Execute query.sql (λ names. sets names ++ all_given_in_places more names) query.id
    limit old new small least short bytes
    (goes_on query.sql sets query.id limit first more old mid new
    (record {
      sends = sent_of Execute query.sql sets query.id limit old mid d;
      readable =
          d.readable;
    }) count
    (subst (λ (t : List (List ℕ)). AppendsMore query.id (limits_of (places_of query.sql t) limit)
    first more mid new) tokens a.appends))

pub received : DeliveriesAreReceived
received road query sets id limit old new pieces answer d appended is known =
    (d.read_back pieces answer
    (append_cancel_left old (concat pieces) (stream_of d.sent) (sym appended ∙ d.appended))).0
    (is.audit known)
