-- What is sent of a stream's contents is its recoding, and why nothing is.
use Rattle.std.proofs.Common.{◌≡◌, ◌⊎◌, inl, inr, ℕ, ◌+◌, ◌-◌, ◌<◌, Bool, true, false, List, [], ◌∷◌, ◌++◌, length, map}
use Rattle.std.proofs.Common.{take, get_or, Option, Some, None, Result, Ok, Err, refl, sym, ◌∙◌, ap, subst}
use Rattle.std.specs.Prelude.{IfErr, if◌then◌else◌}
use Rattle.std.specs.List.{flat_map}
use Rattle.std.specs.Result.{IsErrAnd}
use Rattle.std.proofs.lemmas.List.{append-nil, take_more}
use Rattle.std.proofs.lemmas.Grind.{flat_map-append}
use Rattle.std.proofs.lemmas.List.Concat.{concat_is}
use Rattle.std.proofs.lemmas.List.Folds.{flat_map-map}
use Rattle.std.specs.Option.{option_map, option_or}
use Rattle.mysql_wire.specs.Bytes.{AreBytes}
use Rattle.mysql_values.specs.Sql.{Sql}
use Rattle.mysql_values.specs.Place.{Place}
use Rattle.mysql_values.specs.Queries.{HasMixed, is_mixed, places_of}
use Rattle.mysql_values.specs.Tokens.{HasTokens}
use Rattle.mysql_values.specs.Value.{Value}
use Rattle.mysql_receive.specs.Audit.{Audit, AuditOf}
use Rattle.mysql_receive.specs.Laws.{StreamHasOneAudit}
use Rattle.mysql_receive.specs.Query.{statement_of}
use Rattle.mysql_receive.specs.Receiving.{IsMemory, IsReceived}
use Rattle.mysql_receive.specs.declared.audit.End.{End}
use Rattle.mysql_receive.specs.declared.audit.End.TheVariants as ends
use Rattle.mysql_receive.specs.declared.fault.StreamFault.TheVariants.{Memory}
use Rattle.mysql_receive.specs.declared.receiver.ReceiverError.{ReceiverError}
use Rattle.mysql_receive.specs.declared.receiver.ReceiverError.TheVariants as receiver_error
use Rattle.mysql_command_rules.specs.declared.refusal.Refusal.{Refusal}
use Rattle.mysql_command_rules.specs.declared.road.Road.TheVariants.{Execute}
use Rattle.mysql_bulk_builder.specs.Causes.{first_some}
use Rattle.mysql_command_rules.specs.Cause.{cause_of}
use Rattle.mysql_command_rules.specs.Sending.{RefusesGiven, SendsGiven}
use Rattle.mysql_command_rules.specs.Sent.{AreSent}
use Rattle.mysql_command_rules.specs.Sets.{Given, all_given_in_places}
use Rattle.mysql_recoding.specs.declared.errors.RecodeError.{RecodeError}
use Rattle.mysql_recoding.specs.declared.errors.RecodeError.TheVariants as errors
use Rattle.mysql_recoding.specs.Causes.{ending_cause, error_for, recoding_cause, values_of_sets}
use Rattle.mysql_recoding.specs.Recoding.{IsRecodingCause, Recodes, RefusesRecoding}
use Rattle.mysql_recoding.proofs.Causes.{no_cause, whole_cause}
use Rattle.mysql_recoding.proofs.QueryCauses.{query_is}
use Rattle.mysql_recoding.proofs.ByteLists.{bytes_append}

-- pieces one after another, and one more behind them, are bytes
pub one_more_piece : {X : Type 0} (f : X → List ℕ) (pieces : List X) (i : ℕ) (d : X) →
    i < length pieces → AreBytes (flat_map f (take i pieces)) → AreBytes (f (get_or pieces i d))
    → AreBytes (flat_map f (take (i + 1) pieces))
one_more_piece f pieces i d within before next =
    let more : flat_map f (take (i + 1) pieces) ≡ flat_map f (take i pieces) ++ f (get_or pieces i d) =
    ap (flat_map f) (take_more pieces i d within) ∙
    flat_map-append f (take i pieces) (get_or pieces i d ∷ []) ∙
    ap (λ l. flat_map f (take i pieces) ++ l) (append-nil (f (get_or pieces i d))) in
    subst (λ (l : List ℕ). AreBytes l) (sym more)
    (bytes_append (flat_map f (take i pieces)) (f (get_or pieces i d)) before next)

-- where both kinds of placeholder occur, that is the cause
pub mixed_is_cause : StreamHasOneAudit → (query : Sql) (id limit : ℕ) (stream : List ℕ) →
    AreBytes stream → HasMixed query true → IsRecodingCause query id limit stream errors.Mixed
mixed_is_cause one_audit query id limit stream bytes mixed =
    let tokens : List (List ℕ) = mixed.1.0 in
    let has : HasTokens query.mode query.text tokens = mixed.1.1 in
    let found = one_audit (statement_of query tokens id) limit stream (query_is query tokens id has) bytes in
    record {
      tokens = tokens;
      has = has;
      audit = found.0;
      says = (tokens, has, found.1);
      first = first found.0 (mixed.2 ∙ ap is_mixed mixed.1.2);
    }
  where
    first : (audit : Audit) → true ≡ is_mixed (places_of query mixed.1.0) →
        recoding_cause (statement_of query mixed.1.0 id) limit audit ≡ Some errors.Mixed
    first audit is = rw (sym is)

-- the audit that was received of pieces is that of the bytes that they make one after another
pub received_audit : {X : Type 0} (f : X → List ℕ) (pieces : List X) (query : Sql) (id limit : ℕ)
    (answer : Audit) → IsReceived query id limit (map f pieces) answer
    → (IsMemory answer.ending → ⊥) → AuditOf query id limit (flat_map f pieces) answer
received_audit f pieces query id limit answer is known =
    subst (λ (bytes : List ℕ). AuditOf query id limit bytes answer) (concat_is (map f pieces) ∙
    flat_map-map (λ l. l) f pieces) (is.audit known)

-- memory did not run out over a whole stream
pub whole_is_known : (ending : End) → ending ≡ ends.Whole → IsMemory ending → ⊥
whole_is_known ending whole memory =
    let same : ends.Whole ≡ ends.Fault memory.0 Memory = sym whole ∙ memory.1 in cc

-- a stream of one kind of placeholder is refused for how it ends
pub end_is_cause : (query : Sql) (id limit : ℕ) (stream : List ℕ) (audit : Audit)
    (error : RecodeError) → HasMixed query false →
    ((IsMemory audit.ending → ⊥) → AuditOf query id limit stream audit)
    → ((error ≡ errors.Memory) × IsMemory audit.ending) ⊎
    ((ending_cause audit.ending ≡ Some error) × (IsMemory audit.ending → ⊥)) →
    RefusesRecoding query id limit stream error
end_is_cause query id limit stream audit error one says (inl memory) = inl memory.0
end_is_cause query id limit stream audit error one says (inr cause) =
    let tokens : List (List ℕ) = one.1.0 in
    let places : List Place = places_of query tokens in
    let sets : Option RecodeError =
    option_map error_for (cause_of Execute (statement_of query tokens id) limit
    (map Ok (values_of_sets audit.sets))) in
    let alone : is_mixed places ≡ false = sym (one.2 ∙ ap is_mixed one.1.2) in
    inr record {
      tokens = tokens;
      has = one.1.1;
      audit = audit;
      says = says cause.1;
      first = ap (λ (mixed : Bool). first_some ((if mixed then Some errors.Mixed else None) ∷
          ending_cause audit.ending ∷ sets ∷ [])) alone
          ∙ ap (λ (ending : Option RecodeError). option_or ending (first_some (sets ∷ []))) cause.0;
    }

-- what a receiver that can't be made is answered by
pub refused_before : StreamHasOneAudit → (query : Sql) (id limit : ℕ) (stream : List ℕ) →
    AreBytes stream → {T : Type 0} (result : Result T RecodeError) (why : ReceiverError)
    → IsErrAnd result (λ error. ((why ≡ receiver_error.Mixed) × (error ≡ errors.Mixed)) ⊎
    ((why ≡ receiver_error.Memory) × (error ≡ errors.Memory)))
    → (why ≡ receiver_error.Memory) ⊎ ((why ≡ receiver_error.Mixed) × HasMixed query true) →
    IfErr result (RefusesRecoding query id limit stream)
refused_before one_audit query id limit stream bytes (Ok found) why from is = tt
refused_before one_audit query id limit stream bytes (Err error) why (inr from) is = inl from.1
refused_before one_audit query id limit stream bytes (Err error) why (inl from) (inr is) =
    inr (subst (λ (e : RecodeError). IsRecodingCause query id limit stream e) (sym from.1)
    (mixed_is_cause one_audit query id limit stream bytes is.1))
refused_before one_audit query id limit stream bytes (Err error) why (inl from) (inl memory) =
    let mixed : why ≡ receiver_error.Mixed = from.0 in
    absurd (cc)

-- a set that gives these values
abbrev given : List Value → Given
given values = Ok values

-- sets that all give values give these alone
same_values : (sets others : List (List Value)) → map given sets ≡ map given others → sets ≡ others
same_values [] [] same = refl
same_values [] (other ∷ others) same = absurd (cc)
same_values (set ∷ sets) [] same = absurd (cc)
same_values (set ∷ sets) (other ∷ others) same =
    let first : set ≡ other = cc in
    let rest : map given sets ≡ map given others = cc in
    let later : sets ≡ others = same_values sets others rest in
    cc

module _ (query : Sql) (id limit : ℕ) (stream : List ℕ) (audit : Audit)
    (says : AuditOf query id limit stream audit) (whole : audit.ending ≡ ends.Whole) where
  -- what was sent of the stream's contents is its recoding
  pub sent_is_recoded : (old new : List ℕ) →
      SendsGiven Execute query (all_given_in_places (values_of_sets audit.sets)) id limit old new →
      Recodes query id limit stream old new
  sent_is_recoded old new sends = record {
    tokens = sends.tokens;
    has = sends.has;
    audit = audit;
    says = says;
    none = no_cause (statement_of query sends.tokens id) limit audit whole sends.none;
    sent = sends.sent;
    are_sent = subst (λ (values : List (List Value)). AreSent Execute
        (statement_of query sends.tokens id) (limit - 4) values sends.sent)
        (sym (same_values (values_of_sets audit.sets) sends.values sends.given)) sends.are_sent;
    appended = sends.appended;
  }

  -- why it was not sent is why the stream is not recoded
  pub refused_is_cause : (refusal : Refusal) (error : RecodeError) → error ≡ error_for refusal
      → RefusesGiven Execute query (all_given_in_places (values_of_sets audit.sets)) id limit
      refusal → RefusesRecoding query id limit stream error
  refused_is_cause refusal error is (inl memory) = inl (is ∙ ap error_for memory)
  refused_is_cause refusal error is (inr why) = inr (record {
    tokens = why.tokens;
    has = why.has;
    audit = audit;
    says = says;
    first = whole_cause (statement_of query why.tokens id) limit audit whole ∙
        ap (option_map error_for) why.first ∙ ap (λ e. Some e) (sym is);
  })
