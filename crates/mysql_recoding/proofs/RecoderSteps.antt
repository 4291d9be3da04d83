-- The steps of a recoder over one piece.
use Rattle.std.proofs.Common.{◌≡◌, ◌⊎◌, inl, inr, ℕ, List, [], ◌++◌, Option, Some, None, refl, sym, ◌∙◌, ap, subst}
use Rattle.std.specs.Option.{option_map, option_or}
use Rattle.std.proofs.lemmas.List.{append-nil}
use Rattle.mysql_wire.specs.Bytes.{AreBytes}
use Rattle.mysql_wire.specs.Laws.{HasOneSplit}
use Rattle.mysql_receive.specs.declared.audit.End.TheVariants as ends
use Rattle.mysql_receive.specs.declared.fault.StreamFault.{StreamFault}
use Rattle.mysql_receive.specs.Audit.{Audit}
use Rattle.mysql_receive.specs.GoingOn.{ReceiverDecidesBy}
use Rattle.mysql_receive.specs.Laws.{ThereIsOneAudit}
use Rattle.mysql_receive.specs.Query.{IsQuery, Statement}
use Rattle.mysql_receive.specs.Reading.{Set}
use Rattle.mysql_receive.specs.Received.{Received, receiver_state}
use Rattle.mysql_receive.specs.Receiving.{IsMemory}
use Rattle.mysql_receive.specs.Taking.{with_sets}
use Rattle.mysql_command_rules.specs.declared.refusal.Refusal.{Refusal}
use Rattle.mysql_recoding.specs.declared.errors.RecodeError.{RecodeError}
use Rattle.mysql_recoding.specs.declared.errors.RecodeError.TheVariants as errors
use Rattle.mysql_recoding.specs.Causes.{ending_cause, error_for}
use Rattle.mysql_recoding.specs.AsItComes.{Decides, Recoded, RefusesEnd, RefusesPiece, Terms, cause_from, recoder_state}
use Rattle.mysql_recoding.specs.AsItComes.{sets_cause}
use Rattle.mysql_recoding.specs.Steps.{ReadsPiece}
use Rattle.mysql_recoding.proofs.CausesAgree.{first_speaks}
use Rattle.mysql_recoding.proofs.Deciding.{Decision, some_decision}
use Rattle.mysql_recoding.proofs.MoreSets.{cause_joined}

-- ---- one piece

-- a recoder whose receiver read a piece recodes by the same terms
terms_same : (old : Recoded) (to : Received) → to.statement ≡ old.receiver.statement → to.limit ≡
    old.receiver.limit → (recoder_state (record old { receiver = to })).terms ≡
    (recoder_state old).terms
terms_same old to statement limit =
    ap (λ (c : Statement). record { statement = c; limit = to.limit; places = old.places }) statement
    ∙ ap (λ (l : ℕ). record { statement = old.receiver.statement; limit = l; places = old.places }) limit

module _ (old : Recoded) (to : Received) (piece : List ℕ) (sets : List Set) where
  -- what is decided behind the piece was decided before it
  decided_before : (error : Option RecodeError) → ReadsPiece old.receiver piece sets error to →
      (z : List ℕ) (audit : Audit) → AreBytes z
      → Decides (recoder_state old).terms (receiver_state to) z audit →
      Decides (recoder_state old).terms (receiver_state old.receiver) (piece ++
      z) (with_sets sets audit)
  decided_before error r z audit bytes decided = r.goes_on z audit bytes decided

  -- behind a fault it is the fault
  at_fault : (error : RecodeError) → ReadsPiece old.receiver piece sets (Some error) to →
      (z : List ℕ) → (audit : Audit) × Decides (recoder_state old).terms (receiver_state to) z audit
  at_fault error r z =
      let audit : Audit = record { sets = []; ending = ends.Fault to.count r.ends.0 } in (
        audit,
        subst (λ (fault : Option StreamFault). ReceiverDecidesBy old.receiver.statement
            old.receiver.limit (receiver_state to) fault z audit) (sym r.ends.1) (
              sym r.none_held,
              refl,
            ),
      )

  -- something is decided behind a piece, whatever comes
  decided_behind : HasOneSplit → ThereIsOneAudit → IsQuery old.receiver.statement.query →
      (error : Option RecodeError) → ReadsPiece old.receiver piece sets error to → (z : List ℕ) →
      AreBytes z
      → (audit : Audit) × Decides (recoder_state old).terms (receiver_state to) z audit
  decided_behind one_split one_audit query None r z bytes =
      let found : Decision old.receiver.statement old.receiver.limit (receiver_state to) z =
      some_decision one_split one_audit old.receiver.statement old.receiver.limit
      (receiver_state to) z query r.ends.1 bytes r.ends.0 in
      (found.audit, found.decided)
  decided_behind one_split one_audit query (Some error) r z bytes = at_fault error r z

  -- a set is refused
  pub set_refused : HasOneSplit → ThereIsOneAudit → IsQuery old.receiver.statement.query →
      to.statement ≡ old.receiver.statement → to.limit ≡ old.receiver.limit
      → (fault : Option RecodeError) → ReadsPiece old.receiver piece sets fault to → (error : RecodeError)
      → (error ≡ errors.Memory) ⊎
      (option_map error_for (sets_cause (recoder_state (record old { receiver = to })).terms
      old.count sets) ≡ Some error) → RefusesPiece (recoder_state old) piece error
  set_refused one_split one_audit query statement limit fault r error (inl memory) = inl memory
  set_refused one_split one_audit query statement limit fault r error (inr this) =
      let first : option_map error_for (sets_cause (recoder_state old).terms old.count sets) ≡ Some error =
      subst (λ (t : Terms). option_map error_for (sets_cause t old.count sets) ≡
      Some error) (terms_same old to statement limit) this in
      inr (λ z bytes.
      let found = decided_behind one_split one_audit query fault r z bytes in
      (with_sets sets found.0, decided_before fault r z found.0 bytes found.1, speaks first found.0))
    where
      speaks : option_map error_for (sets_cause (recoder_state old).terms old.count sets) ≡
          Some error → (audit : Audit) → cause_from (recoder_state old) (with_sets sets audit) ≡
          Some error
      speaks first audit =
          ap (λ (c : Option Refusal). option_or (option_map error_for c) (option_or (ending_cause audit.ending) None))
          (cause_joined old.receiver.statement.id old.places old.receiver.limit old.count sets audit.sets)
          ∙ first_speaks (sets_cause (recoder_state old).terms old.count sets) _
          (option_or (ending_cause audit.ending) None) error first

  -- the fault is refused
  pub fault_refused : to.statement ≡ old.receiver.statement → to.limit ≡ old.receiver.limit →
      (fault : Option RecodeError) (error : RecodeError) → fault ≡ Some error
      → ReadsPiece old.receiver piece sets fault to →
      sets_cause (recoder_state (record old { receiver = to })).terms old.count sets ≡ None →
      RefusesPiece (recoder_state old) piece error
  unfolding at_fault
  fault_refused statement limit fault error is read none =
      let r : ReadsPiece old.receiver piece sets (Some error) to =
      subst (λ (f : Option RecodeError). ReadsPiece old.receiver piece sets f to) is read in
      let free : sets_cause (recoder_state old).terms old.count sets ≡ None =
      subst (λ (t : Terms). sets_cause t old.count sets ≡
      None) (terms_same old to statement limit) none in
      let ends_so : cause_from (recoder_state old)
      (with_sets sets (record { sets = []; ending = ends.Fault to.count r.ends.0 })) ≡
      Some error =
      ap (λ (l : List Set). option_or
      (option_map error_for (sets_cause (recoder_state old).terms old.count l))
      (Some (errors.Stream to.count r.ends.0))) (append-nil sets)
      ∙ ap (λ (c : Option Refusal). option_or (option_map error_for c) (Some (errors.Stream to.count r.ends.0))) free
      ∙ ap (λ (e : RecodeError). Some e) (sym r.ends.2) in
      inr (λ z bytes.
      let found = at_fault error r z in
      (with_sets sets found.0, decided_before (Some error) r z found.0 bytes found.1, ends_so))

-- ---- the end

-- how the stream ends is refused
pub end_refused : (r : Recoded) (audit : Audit) (error : RecodeError) →
    Decides (recoder_state r).terms (receiver_state r.receiver) [] audit
    → ((error ≡ errors.Memory) × IsMemory audit.ending) ⊎
    ((ending_cause audit.ending ≡ Some error) × (IsMemory audit.ending → ⊥)) →
    RefusesEnd (recoder_state r) error
end_refused r audit error decided (inl memory) = inl memory.0
end_refused r audit error decided (inr cause) = inr (audit, decided, cause.0)
