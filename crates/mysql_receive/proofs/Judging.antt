-- A payload reads as one list of sets or has one fault, and never both.
use Rattle.std.proofs.Common.{◌≡◌, ◌≢◌, ℕ, ◌-◌, ◌^◌, ◌<◌, ◌≤◌, ◌⊎◌, Bool, true, false, List, [], ◌∷◌, Result, Ok, Err}
use Rattle.std.proofs.Common.{refl, sym, subst, ◌∙◌, arith, inl, inr}
use Rattle.std.proofs.lemmas.Bool.{cases_lt, cases_eq, cases_Bool}
use Rattle.mysql_receive.specs.declared.fault.StreamFault.{StreamFault}
use Rattle.mysql_receive.specs.declared.fault.StreamFault.TheVariants.{EmptyCommand, OtherCommand, TextMismatch}
use Rattle.mysql_receive.specs.declared.fault.StreamFault.TheVariants.{NotAlone, PrepareMismatch, TooManyPlaces}
use Rattle.mysql_receive.specs.declared.fault.StreamFault.TheVariants.{TooLarge}
use Rattle.mysql_receive.specs.Query.{Statement, all_alone as is_all_alone, place_count}
use Rattle.mysql_values.specs.Queries.{Slices}
use Rattle.mysql_receive.proofs.Readable.{IsReadable}
use Rattle.mysql_receive.specs.Layout.{Command, command_of, Types}
use Rattle.mysql_receive.specs.Layout as layout
use Rattle.mysql_receive.specs.InForce.{StatementState}
use Rattle.mysql_receive.specs.Reading.{TextReadsAs, Set, execute_at, bulk_rows, BulkReadsAs, BulkFaulty, RowsAt}
use Rattle.mysql_receive.specs.Reading.{FaultyRow, long_data_at, statement_alone_at, CommandReadsAs, CommandFaulty}
use Rattle.mysql_receive.specs.Reading.{PayloadReadsAs, PayloadFaulty, ReadsAs, Faulty}
use Rattle.mysql_receive.specs.Laws.{IsJudged}
use Rattle.mysql_receive.proofs.Rows.{fault_one as row_fault_one, one_or, rows_not_both, rows_one, rows_or}

same_or_not : (xs ys : List ℕ) → (xs ≡ ys) ⊎ (xs ≢ ys)
same_or_not [] [] = inl refl
same_or_not [] (y ∷ ys) = inr (λ e. cc)
same_or_not (x ∷ xs) [] = inr (λ e. cc)
same_or_not (x ∷ xs) (y ∷ ys) = both (cases_eq x y) (same_or_not xs ys)
  where
    both : ((x ≡ y) ⊎ (x ≡ y → ⊥)) → ((xs ≡ ys) ⊎ (xs ≢ ys)) → ((x ∷ xs) ≡ (y ∷ ys)) ⊎ ((x ∷ xs) ≢ (y ∷ ys))
    both (inl e) (inl f) = inl cc
    both (inl e) (inr n) = inr (λ h. n cc)
    both (inr n) h = inr (λ h. n cc)

no_answer_twice : {A F : Type 0} (r : Result A F) (x : A) (f : F) → r ≡ Ok x → r ≡ Err f → ⊥
no_answer_twice r x f p q = cc

ok_one : {A F : Type 0} (r : Result A F) (x y : A) → r ≡ Ok x → r ≡ Ok y → x ≡ y
ok_one r x y p q = cc

err_one : {A F : Type 0} (r : Result A F) (x y : F) → r ≡ Err x → r ≡ Err y → x ≡ y
err_one r x y p q = cc

one_set : (x y : Set) (xs ys : List Set) → xs ≡ x ∷ [] → ys ≡ y ∷ [] → x ≡ y → xs ≡ ys
one_set x y xs ys p q e = cc

module _ (c : Statement) (s : StatementState) (readable : IsReadable c.query) where
  abbrev all_alone : Bool
  all_alone = is_all_alone c.query

  text_or : (body : List ℕ) → ((all_alone ≡ true) ⊎ (all_alone ≡ false)) →
      ((sets : List Set) × CommandReadsAs c s layout.Text body sets) ⊎
      ((f : StreamFault) × CommandFaulty c s layout.Text body f)
  text_or body (inr fails) = inr (NotAlone, inl (fails, refl))
  text_or body (inl holds) = decided (readable.decided holds body)
    where
      decided : (((contents : Set) × TextReadsAs c.query.sql body contents) ⊎
          ((contents : Set) → Slices c.query.sql body contents → ⊥)) →
          ((sets : List Set) × CommandReadsAs c s layout.Text body sets) ⊎
          ((f : StreamFault) × CommandFaulty c s layout.Text body f)
      decided (inl h) = inl (h.0 ∷ [], (holds, (h.0, h.1, refl)))
      decided (inr fails) = inr (TextMismatch, inr (holds, (λ contents h. fails contents h.0), refl))

  prepare_or : (body : List ℕ) → ((body ≡ c.query.parsed) ⊎ (body ≢ c.query.parsed)) →
      ((65535 < place_count c.query) ⊎ (place_count c.query ≤ 65535)) →
      ((sets : List Set) × CommandReadsAs c s layout.Prepare body sets) ⊎
      ((f : StreamFault) × CommandFaulty c s layout.Prepare body f)
  prepare_or body (inr fails) few = inr (PrepareMismatch, inl (fails, refl))
  prepare_or body (inl same) (inl many) = inr (TooManyPlaces, inr (same, many, refl))
  prepare_or body (inl same) (inr few) = inl ([], (same, few, refl))

  bulk_or : (body : List ℕ) (x : Types × List ℕ) → bulk_rows c s body ≡ Ok x →
      ((sets : List Set) × CommandReadsAs c s layout.Bulk body sets) ⊎
      ((f : StreamFault) × CommandFaulty c s layout.Bulk body f)
  bulk_or body x e = elim (rows_or x.0 x.1) [
    | inl h ↦ inl (h.0, record { types = x.0; bytes = x.1; found = e; rows = h.1 })
    | inr h ↦ inr (h.0, inr (x.0, x.1, e, h.1))
  ]

  same_rows : (body : List ℕ) (x y : Types × List ℕ) → bulk_rows c s body ≡ Ok x → bulk_rows c s body ≡ Ok y → x ≡ y
  same_rows body x y e h = ok_one (bulk_rows c s body) x y e h

  bulk_not_both : (body : List ℕ) (sets : List Set) (f : StreamFault) → BulkReadsAs c s body sets →
      BulkFaulty c s body f → ⊥
  bulk_not_both body sets f h (inl fails) = no_answer_twice (bulk_rows c s body) (h.types, h.bytes) f h.found fails
  bulk_not_both body sets f h (inr fails) =
      let same = same_rows body (h.types, h.bytes) (fails.0, fails.1) h.found fails.2 in
      let row = fails.3 in
      rows_not_both fails.0 sets row.before fails.1 row.rest row.first f
      (subst (λ (x : Types × List ℕ). RowsAt x.0 x.1 sets []) same h.rows) row.rows row.fault

  bulk_sets_one : (body : List ℕ) (xs ys : List Set) → BulkReadsAs c s body xs → BulkReadsAs c s body ys → xs ≡ ys
  bulk_sets_one body xs ys p q =
      let same = same_rows body (p.types, p.bytes) (q.types, q.bytes) p.found q.found in
      rows_one q.types xs ys q.bytes (subst (λ (x : Types × List ℕ). RowsAt x.0 x.1 xs []) same p.rows) q.rows

  bulk_fault_one : (body : List ℕ) (f g : StreamFault) → BulkFaulty c s body f → BulkFaulty c s body g → f ≡ g
  bulk_fault_one body f g (inl p) (inl q) = err_one (bulk_rows c s body) f g p q
  bulk_fault_one body f g (inl p) (inr q) = absurd (no_answer_twice (bulk_rows c s body) (q.0, q.1) f q.2 p)
  bulk_fault_one body f g (inr p) (inl q) = absurd (no_answer_twice (bulk_rows c s body) (p.0, p.1) g p.2 q)
  bulk_fault_one body f g (inr p) (inr q) =
      let same = same_rows body (p.0, p.1) (q.0, q.1) p.2 q.2 in
      row_fault_one q.0 q.1 f g (subst (λ (x : Types × List ℕ). FaultyRow x.0 x.1 f) same p.3) q.3

  command_or : (command : Command) (body : List ℕ) →
      ((sets : List Set) × CommandReadsAs c s command body sets) ⊎
      ((f : StreamFault) × CommandFaulty c s command body f)
  command_or layout.Text body = text_or body (cases_Bool (is_all_alone c.query))
  command_or layout.Prepare body =
      prepare_or body (same_or_not body (c.query.parsed)) (cases_lt 65535 (place_count c.query))
  command_or layout.LongData body = one_or (long_data_at c s body)
  command_or layout.Execute body =
      elim (one_or (execute_at c s body))
      [ inl h ↦ inl (h.0 ∷ [], (h.0, h.1, refl)) | inr h ↦ inr h ]
  command_or layout.Bulk body =
      elim (one_or (bulk_rows c s body))
      [ inl h ↦ bulk_or body h.0 h.1 | inr h ↦ inr (h.0, inl h.1) ]
  command_or layout.Reset body = one_or (statement_alone_at c s body)
  command_or layout.Close body = one_or (statement_alone_at c s body)
  command_or layout.Other body = inr (OtherCommand, refl)

  not_both : (command : Command) (body : List ℕ) (sets : List Set) (f : StreamFault) →
      CommandReadsAs c s command body sets → CommandFaulty c s command body f → ⊥
  not_both layout.Text body sets f h (inl fails) = let a : all_alone ≡ true = h.0 in
      let b : all_alone ≡ false = fails.0 in cc
  not_both layout.Text body sets f h (inr fails) = fails.1 h.1.0 h.1.1
  not_both layout.Prepare body sets f h (inl fails) = fails.0 h.0
  not_both layout.Prepare body sets f h (inr fails) = omega (arith, h.1, fails.1)
  not_both layout.LongData body sets f h fails = no_answer_twice (long_data_at c s body) sets f h fails
  not_both layout.Execute body sets f h fails = no_answer_twice (execute_at c s body) h.0 f h.1 fails
  not_both layout.Bulk body sets f h fails = bulk_not_both body sets f h fails
  not_both layout.Reset body sets f h fails = no_answer_twice (statement_alone_at c s body) sets f h fails
  not_both layout.Close body sets f h fails = no_answer_twice (statement_alone_at c s body) sets f h fails
  not_both layout.Other body sets f h fails = h

  sets_one : (command : Command) (body : List ℕ) (xs ys : List Set) →
      CommandReadsAs c s command body xs → CommandReadsAs c s command body ys → xs ≡ ys
  sets_one layout.Text body xs ys p q =
      one_set p.1.0 q.1.0 xs ys p.1.2 q.1.2 (readable.one p.0 body p.1.0 q.1.0 p.1.1.0 q.1.1.0)
  sets_one layout.Prepare body xs ys p q = p.2 ∙ sym q.2
  sets_one layout.LongData body xs ys p q = ok_one (long_data_at c s body) xs ys p q
  sets_one layout.Execute body xs ys p q = one_set p.0 q.0 xs ys p.2 q.2 (ok_one (execute_at c s body) p.0 q.0 p.1 q.1)
  sets_one layout.Bulk body xs ys p q = bulk_sets_one body xs ys p q
  sets_one layout.Reset body xs ys p q = ok_one (statement_alone_at c s body) xs ys p q
  sets_one layout.Close body xs ys p q = ok_one (statement_alone_at c s body) xs ys p q
  sets_one layout.Other body xs ys p q = absurd p

  fault_one : (command : Command) (body : List ℕ) (f g : StreamFault) →
      CommandFaulty c s command body f → CommandFaulty c s command body g → f ≡ g
  fault_one layout.Text body f g (inl p) (inl q) = p.1 ∙ sym q.1
  fault_one layout.Text body f g (inl p) (inr q) = let a : all_alone ≡ false = p.0 in
      let b : all_alone ≡ true = q.0 in cc
  fault_one layout.Text body f g (inr p) (inl q) = let a : all_alone ≡ true = p.0 in
      let b : all_alone ≡ false = q.0 in cc
  fault_one layout.Text body f g (inr p) (inr q) = p.2 ∙ sym q.2
  fault_one layout.Prepare body f g (inl p) (inl q) = p.1 ∙ sym q.1
  fault_one layout.Prepare body f g (inl p) (inr q) = absurd (p.0 q.0)
  fault_one layout.Prepare body f g (inr p) (inl q) = absurd (q.0 p.0)
  fault_one layout.Prepare body f g (inr p) (inr q) = p.2 ∙ sym q.2
  fault_one layout.LongData body f g p q = err_one (long_data_at c s body) f g p q
  fault_one layout.Execute body f g p q = err_one (execute_at c s body) f g p q
  fault_one layout.Bulk body f g p q = bulk_fault_one body f g p q
  fault_one layout.Reset body f g p q = err_one (statement_alone_at c s body) f g p q
  fault_one layout.Close body f g p q = err_one (statement_alone_at c s body) f g p q
  fault_one layout.Other body f g p q = p ∙ sym q

  payload_or : (payload : List ℕ) → ((sets : List Set) × PayloadReadsAs c s payload sets) ⊎
      ((f : StreamFault) × PayloadFaulty c s payload f)
  payload_or [] = inr (EmptyCommand, refl)
  payload_or (b ∷ body) = command_or (command_of b) body

  payload_not_both : (payload : List ℕ) (sets : List Set) (f : StreamFault) →
      PayloadReadsAs c s payload sets → PayloadFaulty c s payload f → ⊥
  payload_not_both [] sets f h fails = h
  payload_not_both (b ∷ body) sets f h fails = not_both (command_of b) body sets f h fails

  payload_sets_one : (payload : List ℕ) (xs ys : List Set) → PayloadReadsAs c s payload xs →
      PayloadReadsAs c s payload ys → xs ≡ ys
  payload_sets_one [] xs ys p q = absurd p
  payload_sets_one (b ∷ body) xs ys p q = sets_one (command_of b) body xs ys p q

  payload_fault_one : (payload : List ℕ) (f g : StreamFault) → PayloadFaulty c s payload f →
      PayloadFaulty c s payload g → f ≡ g
  payload_fault_one [] f g p q = p ∙ sym q
  payload_fault_one (b ∷ body) f g p q = fault_one (command_of b) body f g p q

module _ (c : Statement) (s : StatementState) (number : ℕ) (payload : List ℕ) (readable : IsReadable c.query) where
  either : ((number < 2 ^ 64 - 1) ⊎ (2 ^ 64 - 1 ≤ number)) →
      (((sets : List Set) × PayloadReadsAs c s payload sets) ⊎
      ((f : StreamFault) × PayloadFaulty c s payload f))
      → ((sets : List Set) × ReadsAs c s number payload sets) ⊎ ((f : StreamFault) × Faulty c s number payload f)
  either (inr last) h = inr (TooLarge, inl (last, refl))
  either (inl small) (inl h) = inl (h.0, (small, h.1))
  either (inl small) (inr h) = inr (h.0, inr (small, h.1))

  both_wrong : (sets : List Set) (f : StreamFault) → ReadsAs c s number payload sets → Faulty c s number payload f → ⊥
  both_wrong sets f h (inl fails) = omega (arith, h.0, fails.0)
  both_wrong sets f h (inr fails) = payload_not_both c s readable payload sets f h.1 fails.1

  fault_same : (f g : StreamFault) → Faulty c s number payload f → Faulty c s number payload g → f ≡ g
  fault_same f g (inl p) (inl q) = p.1 ∙ sym q.1
  fault_same f g (inl p) (inr q) = absurd (omega (arith, p.0, q.0))
  fault_same f g (inr p) (inl q) = absurd (omega (arith, p.0, q.0))
  fault_same f g (inr p) (inr q) = payload_fault_one c s readable payload f g p.1 q.1

  pub is_judged : IsJudged c s number payload
  is_judged = record {
    judged = either (cases_lt number (2 ^ 64 - 1)) (payload_or c s readable payload);
    not_both = both_wrong;
    sets_one = λ xs ys p q. payload_sets_one c s readable payload xs ys p.1 q.1;
    fault_one = fault_same;
  }
