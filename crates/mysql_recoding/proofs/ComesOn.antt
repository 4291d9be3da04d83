-- Pieces that are recoded one after another are recoded as the whole stream is.
use Rattle.std.proofs.Common.{◌≡◌, ◌⊎◌, inl, inr, ℕ, ◌+◌, List, [], ◌∷◌, ◌++◌, length, map, Option, Some, None, Ok}
use Rattle.std.proofs.Common.{refl, sym, ◌∙◌, ap, subst, arith, append_assoc, length-append}
use Rattle.std.specs.List.{concat, flat_map}
use Rattle.std.specs.Option.{option_map, option_or}
use Rattle.std.proofs.lemmas.List.{append-nil}
use Rattle.mysql_wire.specs.Bytes.{AreBytes}
use Rattle.mysql_wire.specs.Framing.{framing}
use Rattle.mysql_wire.specs.GoingOn.{RestsAreTold}
use Rattle.mysql_wire.specs.Laws.{HasOneSplit}
use Rattle.mysql_wire.specs.Stream.{framings}
use Rattle.mysql_wire.specs.Stream.Numbering.{EachFromZero}
use Rattle.mysql_values.specs.Sql.{Sql}
use Rattle.mysql_values.specs.Queries.{places_of}
use Rattle.mysql_bulk_builder.specs.Causes.{first_some}
use Rattle.mysql_receive.specs.Audit.{Audit, AuditOf, Audited}
use Rattle.mysql_receive.specs.GoingOn.{ReceiverState}
use Rattle.mysql_receive.specs.Laws.{StartDecidesTheAudit, ThereIsOneAudit}
use Rattle.mysql_receive.specs.Reading.{Set}
use Rattle.mysql_receive.specs.Taking.{with_sets}
use Rattle.mysql_receive.specs.declared.audit.End.{End}
use Rattle.mysql_receive.specs.Query.{IsQuery, Statement, statement_of}
use Rattle.mysql_command_rules.specs.declared.refusal.Refusal.{Refusal}
use Rattle.mysql_command_rules.specs.declared.road.Road.TheVariants.{Execute}
use Rattle.mysql_command_rules.specs.Cause.{cause_of}
use Rattle.mysql_command_rules.specs.Commands.{prepare_command}
use Rattle.mysql_command_rules.specs.Sent.{as_execution, payloads_of, prepare_of}
use Rattle.mysql_recoding.specs.declared.errors.RecodeError.{RecodeError}
use Rattle.mysql_recoding.specs.declared.errors.RecodeError.TheVariants as errors
use Rattle.mysql_recoding.specs.AsItComes.{Decides, Finishes, IsCauseAsItComes, IsNewRecoder, RecoderState}
use Rattle.mysql_recoding.specs.AsItComes.{RecodesPiece, RecodesPieces, RecodesTheSame, RefusesEnd, RefusesPiece, Terms}
use Rattle.mysql_recoding.specs.AsItComes.{appended_of, executions, executions_cause, prepare_behind, recoded_front}
use Rattle.mysql_recoding.specs.AsItComes.{sets_cause, with_taken}
use Rattle.mysql_recoding.specs.Causes.{ending_cause, error_for, values_of_sets}
use Rattle.mysql_recoding.specs.Recoding.{Recodes, RefusesRecoding}
use Rattle.mysql_recoding.proofs.ByteLists.{bytes_append, bytes_behind, bytes_front, no_bytes}
use Rattle.mysql_recoding.proofs.Causes.{no_cause, or_none}
use Rattle.mysql_recoding.proofs.CausesAgree.{recoding_by_ending, sets_refused}
use Rattle.mysql_recoding.proofs.Deciding.{AtRest, Decision, bytes_left, no_sets, rest_behind, rest_of_nothing}
use Rattle.mysql_recoding.proofs.Deciding.{some_decision}
use Rattle.mysql_recoding.proofs.MoreSets.{canonical_parts, cause_joined, executions_joined}
use Rattle.mysql_recoding.proofs.QueryCauses.{query_is}

-- what sets append behind a prepare, and what is left of the prepare behind them
abbrev front : ℕ → List ℕ → List Set → List ℕ
front id prepare [] = []
front id prepare (set ∷ sets) = prepare ++ executions id (set ∷ sets)

abbrev left : List ℕ → List Set → List ℕ
left prepare [] = prepare
left prepare (set ∷ sets) = []

-- a stream of these bytes was recoded so far: it carries these sets, and this was appended
record Sofar (terms : Terms) (prepare bytes : List ℕ) (sets : List Set) (appended : List ℕ)
    (r : RecoderState) : Type 0 where
  terms_are : r.terms ≡ terms
  decides : (z : List ℕ) (audit : Audit) → AreBytes z → Decides terms r.received z audit →
      Audited terms.statement terms.limit (bytes ++ z) (with_sets sets audit)
  none : sets_cause terms 0 sets ≡ None
  count : r.count ≡ length sets
  appended_is : appended ≡ front terms.statement.id prepare sets
  prepare_is : r.prepare ≡ left prepare sets
  none_held : r.received.sets ≡ []
  no_fault : r.received.fault ≡ None
  rest : AtRest terms.limit r.received.partial
  partial : AreBytes r.received.partial

-- ---- one piece

fronts_join : (id : ℕ) (prepare : List ℕ) (sets more : List Set) (r : RecoderState) →
    r.terms.statement.id ≡ id → r.prepare ≡ left prepare sets
    → front id prepare sets ++ appended_of r more ≡ front id prepare (sets ++ more)
fronts_join id prepare [] [] r same is = refl
fronts_join id prepare [] (set ∷ more) r same is =
    ap (λ l. l ++ executions r.terms.statement.id (set ∷ more)) is ∙
    ap (λ (n : ℕ). prepare ++ executions n (set ∷ more)) same
fronts_join id prepare (set ∷ sets) [] r same is =
    append-nil (prepare ++ executions id (set ∷ sets)) ∙
    ap (λ (l : List Set). prepare ++ executions id (set ∷ l)) (sym (append-nil sets))
fronts_join id prepare (set ∷ sets) (other ∷ more) r same is =
    ap (λ l. (prepare ++ executions id (set ∷ sets)) ++ (l ++ executions r.terms.statement.id (other ∷ more))) is
    ∙ ap (λ (n : ℕ). (prepare ++ executions id (set ∷ sets)) ++ executions n (other ∷ more)) same
    ∙ append_assoc prepare (executions id (set ∷ sets)) (executions id (other ∷ more))
    ∙ ap (λ l. prepare ++ l) (sym (executions_joined id (set ∷ sets) (other ∷ more)))

left_join : (prepare : List ℕ) (sets more : List Set) (r : RecoderState) → r.prepare ≡
    left prepare sets → prepare_behind r more ≡ left prepare (sets ++ more)
left_join prepare [] [] r is = is
left_join prepare [] (set ∷ more) r is = refl
left_join prepare (set ∷ sets) [] r is = is
left_join prepare (set ∷ sets) (other ∷ more) r is = refl

causes_join : (terms : Terms) (sets more : List Set) → sets_cause terms 0 sets ≡ None →
    sets_cause terms 0 (sets ++ more) ≡ sets_cause terms (length sets) more
causes_join terms sets more none =
    cause_joined terms.statement.id terms.places terms.limit 0 sets more
    ∙ ap (λ (c : Option Refusal). option_or c
    (executions_cause terms.statement.id terms.places terms.limit (0 + length sets) more)) none
    ∙ ap (λ (n : ℕ). executions_cause terms.statement.id terms.places terms.limit n more) (omega arith)

-- one more piece was recoded
one_more : (terms : Terms) (prepare bytes : List ℕ) (sets : List Set) (appended : List ℕ)
    (old new : RecoderState) (piece first : List ℕ) → Sofar terms prepare bytes sets appended old
    → AreBytes piece → new.terms ≡ terms → (p : RecodesPiece terms old piece first new) →
    Sofar terms prepare (bytes ++ piece) (sets ++ p.sets) (appended ++ first) new
one_more terms prepare bytes sets appended old new piece first s are same p = record {
  terms_are = same;
  decides = λ z audit z_bytes decided.
      let all : Audited terms.statement terms.limit (bytes ++ (piece ++ z)) (with_sets sets (with_sets p.sets audit)) =
      s.decides (piece ++ z) (with_sets p.sets audit) (bytes_append piece z are z_bytes)
      (p.goes_on z audit z_bytes decided) in
      subst (λ (l : List ℕ). Audited terms.statement terms.limit l
      (with_sets (sets ++ p.sets) audit)) (sym (append_assoc bytes piece z))
      (subst (λ (l : List Set). Audited terms.statement terms.limit (bytes ++
      (piece ++ z)) (record { sets = l; ending = audit.ending }))
      (sym (append_assoc sets p.sets audit.sets)) all);
  none = causes_join terms sets p.sets s.none ∙ ap (λ (n : ℕ). sets_cause terms n p.sets) (sym s.count) ∙ p.none;
  count = p.count ∙ ap (λ (n : ℕ). n + length p.sets) s.count ∙ sym (length-append sets p.sets);
  appended_is = ap (λ l. appended ++ l) p.appended_is ∙ ap (λ l. l ++ appended_of old p.sets) s.appended_is
      ∙ fronts_join terms.statement.id prepare sets p.sets old
      (ap (λ (t : Terms). t.statement.id) s.terms_are) s.prepare_is;
  prepare_is = p.prepare ∙ left_join prepare sets p.sets old s.prepare_is;
  none_held = p.none_held;
  no_fault = p.no_fault;
  rest = rest_behind terms.statement terms.limit old.received (with_taken new.received p.sets) piece p.takes;
  partial = bytes_left terms.statement terms.limit old.received (with_taken new.received p.sets)
      piece p.takes s.partial are;
}

-- all pieces were
all_pieces : (terms : Terms) (prepare bytes : List ℕ) (sets : List Set) (appended : List ℕ)
    (old now : RecoderState) (pieces : List (List ℕ)) (rest : List ℕ) →
    Sofar terms prepare bytes sets appended old
    → AreBytes (concat pieces) → RecodesPieces old pieces rest now → (all : List Set) ×
    Sofar terms prepare (bytes ++ concat pieces) all (appended ++ rest) now
all_pieces terms prepare bytes sets appended old now [] rest s are (none, same) =
    let here : Sofar terms prepare bytes sets appended now =
    subst (λ (r : RecoderState). Sofar terms prepare bytes sets appended r) (sym same) s in (
      sets,
      subst (λ (l : List ℕ). Sofar terms prepare l sets (appended ++ rest) now) (sym (append-nil bytes))
          (subst (λ (l : List ℕ). Sofar terms prepare bytes sets l now)
          (sym (ap (λ l. appended ++ l) none ∙ append-nil appended)) here),
    )
all_pieces terms prepare bytes sets appended old now (piece ∷ pieces) rest s are (
  first,
  later,
  between,
  one,
  same,
  others,
  joined,
) =
    let p : RecodesPiece terms old piece first between =
    subst (λ (t : Terms). RecodesPiece t old piece first between) s.terms_are one in
    let next = one_more terms prepare bytes sets appended old between piece first s
    (bytes_front piece (concat pieces) are) (same ∙ s.terms_are) p in
    let all = all_pieces terms prepare (bytes ++ piece) (sets ++ p.sets) (appended ++
    first) between now pieces later next (bytes_behind piece (concat pieces) are) others in (
      all.0,
      subst (λ (l : List ℕ). Sofar terms prepare l all.0 (appended ++ rest) now)
          (append_assoc bytes piece (concat pieces))
          (subst (λ (l : List ℕ). Sofar terms prepare ((bytes ++ piece) ++ concat pieces) all.0 l
          now) (append_assoc appended first later ∙ ap (λ l. appended ++ l) (sym joined))
          all.1),
    )

-- ---- the whole stream

-- a new recoder has recoded nothing
at_start : StartDecidesTheAudit → RestsAreTold →
    (query : Sql) (id limit : ℕ) (start : RecoderState) (n : IsNewRecoder query id limit start)
    → Sofar start.terms (framing (prepare_command (statement_of query n.tokens id).query.parsed) 0) [] [] [] start
at_start start_decides told query id limit start n = record {
  terms_are = refl;
  decides = λ z audit z_bytes decided.
      (start_decides start.terms.statement start.terms.limit z audit).0
      (subst (λ (state : ReceiverState). Decides start.terms state z audit) n.received decided);
  none = refl;
  count = n.count;
  appended_is = refl;
  prepare_is = n.prepare;
  none_held = ap (λ (state : ReceiverState). state.sets) n.received;
  no_fault = ap (λ (state : ReceiverState). state.fault) n.received;
  rest = subst (AtRest start.terms.limit)
      (sym (ap (λ (state : ReceiverState). state.partial) n.received))
      (rest_of_nothing told start.terms.limit);
  partial = subst AreBytes (sym (ap (λ (state : ReceiverState). state.partial) n.received)) no_bytes;
}

-- what was appended, and what is left of the prepare, are what is sent of the sets
front_is : (statement : Statement) (sets : List Set) →
    front statement.id (framing (prepare_command statement.query.parsed) 0) sets ≡
    recoded_front statement sets
front_is statement [] = refl
front_is statement (set ∷ sets) = sym (canonical_parts statement (set ∷ sets))

all_of_it : (statement : Statement) (sets : List Set)
    → front statement.id (framing (prepare_command statement.query.parsed) 0) sets ++
    left (framing (prepare_command statement.query.parsed) 0) sets
    ≡ framings (payloads_of (prepare_of statement ∷
    flat_map (as_execution statement) (values_of_sets sets))) EachFromZero
all_of_it statement [] = sym (append-nil (framing (prepare_command statement.query.parsed) 0))
all_of_it statement (set ∷ sets) = append-nil _ ∙ sym (canonical_parts statement (set ∷ sets))

module _ (one_split : HasOneSplit) (one_audit : ThereIsOneAudit) (query : Sql) (id limit : ℕ)
    (start now : RecoderState) (n : IsNewRecoder query id limit start) (bytes appended : List ℕ)
    (are : AreBytes bytes)
    (sets : List Set) (s : Sofar start.terms
    (framing (prepare_command (statement_of query n.tokens id).query.parsed) 0) bytes sets
    appended now) where
  -- the recoder's statement has the id
  id_is : start.terms.statement.id ≡ id
  id_is = ap (λ (statement : Statement). statement.id) n.about.2

  -- what was said over the recoder's terms is said over the query's
  over_query : (P : ℕ → ℕ → ℕ → Type 0) →
      P start.terms.statement.id start.terms.places start.terms.limit →
      P id (length (places_of query n.tokens)) limit
  over_query P holds =
      subst (λ (l : ℕ). P id (length (places_of query n.tokens)) l) n.limit_is
      (subst (λ (places : ℕ). P id places start.terms.limit) n.places
      (subst (λ (i : ℕ). P i start.terms.places start.terms.limit) id_is holds))

  -- what the stream says, with bytes behind it
  says : (z : List ℕ) (audit : Audit) → AreBytes z → Decides start.terms now.received z audit →
      AuditOf query id limit (bytes ++ z) (with_sets sets audit)
  says z audit z_bytes decided =
      let all : Audited start.terms.statement limit (bytes ++ z) (with_sets sets audit) =
      subst (λ (l : ℕ). Audited start.terms.statement l (bytes ++ z) (with_sets sets audit))
      n.limit_is (s.decides z audit z_bytes decided) in (
        n.about.0,
        n.about.1,
        subst
            (λ (c : Statement). Audited c limit (bytes ++ z) (with_sets sets audit)) n.about.2 all,
      )

  -- and without
  says_here : (audit : Audit) → Decides start.terms now.received [] audit →
      AuditOf query id limit bytes (record { sets = sets; ending = audit.ending })
  says_here audit decided =
      let none : audit.sets ≡ [] =
      no_sets one_split start.terms.statement start.terms.limit now.received audit s.rest
      s.partial s.no_fault s.none_held decided in
      let all : AuditOf query id limit bytes (with_sets sets audit) =
      subst (λ (l : List ℕ). AuditOf query id limit l (with_sets sets audit)) (append-nil bytes)
      (says [] audit no_bytes decided) in
      subst (λ (l : List Set). AuditOf query id limit bytes
      (record { sets = l; ending = audit.ending })) (ap (λ l. sets ++ l) none ∙
      append-nil sets) all

  -- what speaks against the sets of the stream speaks against those to come
  cause_on : (more : List Set) →
      cause_of Execute (statement_of query n.tokens id) limit
      (map Ok (values_of_sets (sets ++ more))) ≡ sets_cause start.terms now.count more
  cause_on more =
      let here : executions_cause id (length (places_of query n.tokens)) limit 0 (sets ++ more) ≡
      sets_cause start.terms now.count more =
      sym (over_query (λ i places l. executions_cause start.terms.statement.id start.terms.places
      start.terms.limit 0 (sets ++ more) ≡ executions_cause i places l 0 (sets ++ more)) refl)
      ∙ causes_join start.terms sets more s.none ∙ ap (λ (k : ℕ). sets_cause start.terms k more) (sym s.count) in
      ap (λ (c : Option Refusal). first_some (c ∷
      executions_cause id (length (places_of query n.tokens)) limit 0 (sets ++ more) ∷ None ∷
      [])) n.none
      ∙ or_none (executions_cause id (length (places_of query n.tokens)) limit 0 (sets ++ more)) ∙ here

  -- nothing speaks against those that came
  free : (ending : End) → sets_refused (statement_of query n.tokens id) limit
      (record { sets = sets; ending = ending }) ≡ None
  free ending =
      subst (λ (l : List Set). cause_of Execute (statement_of query n.tokens id) limit
      (map Ok (values_of_sets l)) ≡ None) (append-nil sets) (cause_on [])

  front_here : appended ≡ front id (framing (prepare_command (statement_of query n.tokens id).query.parsed) 0) sets
  front_here = s.appended_is ∙
      ap (λ (i : ℕ). front i (framing
      (prepare_command (statement_of query n.tokens id).query.parsed) 0) sets) id_is

  whole_here : (last old : List ℕ) → Finishes now last → Recodes query id limit bytes old (old ++ (appended ++ last))
  whole_here last old f =
      let decided : Decides start.terms now.received [] f.audit =
      subst (λ (t : Terms). Decides t now.received [] f.audit) s.terms_are f.decided in
      record {
        tokens = n.tokens;
        has = n.has;
        audit = record { sets = sets; ending = f.audit.ending };
        says = says_here f.audit decided;
        none = no_cause (statement_of query n.tokens id) limit
            (record { sets = sets; ending = f.audit.ending }) f.whole (free f.audit.ending);
        sent = prepare_of (statement_of query n.tokens id) ∷
            flat_map (as_execution (statement_of query n.tokens id)) (values_of_sets sets);
        are_sent = refl;
        appended = ap (λ l. old ++ (l ++ last)) front_here
            ∙ ap (λ l. old ++ (front id
            (framing (prepare_command (statement_of query n.tokens id).query.parsed) 0) sets ++
            l)) (f.appended_is ∙ s.prepare_is)
            ∙ ap (λ l. old ++ l) (all_of_it (statement_of query n.tokens id) sets);
      }

  ended_here : (error : RecodeError) → RefusesEnd now error → RefusesRecoding query id limit bytes error
  ended_here error (inl memory) = inl memory
  ended_here error (inr (audit, decided, first)) = inr (record {
    tokens = n.tokens;
    has = n.has;
    audit = record { sets = sets; ending = audit.ending };
    says = says_here audit (subst (λ (t : Terms). Decides t now.received [] audit) s.terms_are decided);
    first = recoding_by_ending (statement_of query n.tokens id) limit
        (record { sets = sets; ending = audit.ending }) (free audit.ending) ∙ first;
  })

  refused_here : (piece behind : List ℕ) (error : RecodeError) → AreBytes piece → AreBytes behind →
      RefusesPiece now piece error
      → (error ≡ errors.Memory) ⊎ IsCauseAsItComes query id limit (bytes ++ (piece ++ behind)) error
  refused_here piece behind error piece_bytes behind_bytes (inl memory) = inl memory
  refused_here piece behind error piece_bytes behind_bytes (inr why) =
      let found = why behind behind_bytes in
      let audit : Audit = found.0 in
      let decided : Decides start.terms now.received (piece ++ behind) audit =
      subst (λ (t : Terms). Decides t now.received (piece ++ behind) audit) s.terms_are
      found.1 in
      let cause : first_some (option_map error_for (sets_cause start.terms now.count audit.sets) ∷
      ending_cause audit.ending ∷ []) ≡ Some error =
      subst (λ (t : Terms). first_some (option_map error_for (sets_cause t now.count audit.sets) ∷
      ending_cause audit.ending ∷ []) ≡ Some error) s.terms_are found.2 in
      inr (record {
        tokens = n.tokens;
        has = n.has;
        audit = with_sets sets audit;
        says = says (piece ++ behind) audit (bytes_append piece behind piece_bytes behind_bytes) decided;
        first = ap (λ (c : Option Refusal). first_some (option_map error_for c ∷
            ending_cause audit.ending ∷ [])) (cause_on audit.sets) ∙ cause;
      })

  recodes_here : (pieces : List (List ℕ)) → bytes ≡ concat pieces → RecodesTheSame query id limit pieces appended now
  recodes_here pieces joined =
      let is_query : IsQuery start.terms.statement.query =
      subst (λ (c : Statement). IsQuery c.query) (sym n.about.2)
      (query_is query n.about.0 id n.about.1) in
      let some : Decision start.terms.statement start.terms.limit now.received [] =
      some_decision one_split one_audit start.terms.statement start.terms.limit now.received []
      is_query s.partial no_bytes s.no_fault in
      record {
        tokens = n.tokens;
        has = n.has;
        audit = record { sets = sets; ending = some.audit.ending };
        says = subst (λ (l : List ℕ). AuditOf query id limit l
            (record { sets = sets; ending = some.audit.ending })) joined
            (says_here some.audit some.decided);
        front = front_here ∙ front_is (statement_of query n.tokens id) sets;
        whole = λ last old f. subst
            (λ (l : List ℕ). Recodes query id limit l old (old ++ (appended ++ last))) joined
            (whole_here last old f);
        ended = λ error why. subst (λ (l : List ℕ). RefusesRecoding query id limit l error) joined
            (ended_here error why);
        refused = λ piece behind error piece_bytes behind_bytes why.
            subst (λ (l : List ℕ). (error ≡ errors.Memory) ⊎
            IsCauseAsItComes query id limit (l ++ (piece ++ behind)) error) joined
            (refused_here piece behind error piece_bytes behind_bytes why);
      }

pub pieces_recode : HasOneSplit → RestsAreTold → ThereIsOneAudit → StartDecidesTheAudit →
    (query : Sql) (id limit : ℕ) (start now : RecoderState) (pieces : List (List ℕ))
    (appended : List ℕ)
    → IsNewRecoder query id limit start → AreBytes (concat pieces) →
    RecodesPieces start pieces appended now → RecodesTheSame query id limit pieces appended now
pieces_recode one_split told one_audit start_decides query id limit start now pieces appended n are recoded =
    let all = all_pieces start.terms
    (framing (prepare_command (statement_of query n.tokens id).query.parsed) 0) [] [] [] start
    now pieces appended (at_start start_decides told query id limit start n) are recoded in
    recodes_here one_split one_audit query id limit start now n (concat pieces) appended are all.0 all.1 pieces refl
