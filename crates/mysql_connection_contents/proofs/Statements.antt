-- What stands of one statement behind a change of the statements.
use Rattle.std.proofs.Common.{◌≡◌, ◌≢◌, ℕ, zero, suc, ◌+◌, Bool, true, false, cond, List, [], ◌∷◌, length, take, Option}
use Rattle.std.proofs.Common.{Some, None, refl, sym, ap, subst, ◌∙◌, arith}
use Rattle.std.specs.Prelude.{◌==◌, ◌&&◌, if◌then◌else◌, not}
use Rattle.std.specs.BTreeMap.{is_at}
use Rattle.std.specs.Cmp.{unsigned_tied}
use Rattle.std.specs.Ordering.{nat_cmp}
use Rattle.std.proofs.lemmas.Bool.Decides.{nat_tests}
use Rattle.std.proofs.lemmas.List.{length-take, take_all}
use Rattle.mysql_connection_statements.proofs.Entries.{ascend_left, ascend_put, found_again, others_found, others_left}
use Rattle.mysql_connection_statements.specs.Statements.{IsOrdered, Statement, Statements, after_close, change_at}
use Rattle.mysql_connection_statements.specs.Statements.{changed, statement_at, taken_back, with_statement}
use Rattle.mysql_connection_statements.specs.declared.pending.Pending.{Pending}
use Rattle.mysql_executions.specs.After.{after_read_refusal, after_refusal, after_unread_bulk, is_disputed}
use Rattle.mysql_executions.specs.After.{malformed_packet, refused_types, undisputed, unsupported_command}
use Rattle.mysql_executions.specs.InForce.{InForce}
use Rattle.mysql_executions.specs.declared.refused.Refused.{Refused}
use Rattle.mysql_executions.specs.declared.refused.Refused.TheVariants as refused
use Rattle.mysql_executions.specs.declared.types.ParameterType.{ParameterType}
use Rattle.mysql_connection_contents.specs.Contents.{LeavesAll, Stands, are_undisputed}

abbrev pub OwnIds : Statements → Type 0
OwnIds s = IsOrdered s

is_not : (a b : ℕ) → a ≢ b → (a == b) ≡ false
is_not a b e = grind (arith, nat_tests)

is_other : (a b : ℕ) → a ≢ b → is_at (nat_cmp a) b ≡ false
is_other a b e = unsigned_tied a b ∙ is_not a b e

-- ---- statements

pub put_ids : (s : Statements) (id : ℕ) (st : Statement) → OwnIds s → OwnIds (with_statement id st s)
put_ids s id st own = ascend_put s.by_id id st own

pub changed_ids : (s : Statements) (id : ℕ) (change : Statement → Statement) → OwnIds s → OwnIds (change_at id change s)
changed_ids s id change own = by (statement_at s id)
  where
    by : (found : Option Statement) → OwnIds (changed change id found s)
    by None = own
    by (Some st) = put_ids s id (change st) own

pub closed_ids : (s : Statements) (id : ℕ) → OwnIds s → OwnIds (after_close id s)
closed_ids s id own = ascend_left s.by_id (is_at (nat_cmp id)) own

module _ (s : Statements) (id : ℕ) (p : InForce) where
  pub put_own : (st : Statement) → st.parameters ≡ p → Stands (with_statement id st s) id p
  put_own st is = record { statement = st; found = found_again s.by_id id st; parameters = is }

  pub put_elsewhere : (other : ℕ) (st : Statement) → id ≢ other → Stands s id p →
      Stands (with_statement other st s) id p
  put_elsewhere other st differ stands =
      record {
        statement = stands.statement;
        found =
            others_found s.by_id other id st (is_other id other differ) ∙ stands.found;
        parameters =
            stands.parameters;
      }

  pub changed_elsewhere : (other : ℕ) (change : Statement → Statement) → id ≢ other →
      Stands s id p → Stands (change_at other change s) id p
  changed_elsewhere other change differ stands = by (statement_at s other)
    where
      by : (found : Option Statement) → Stands (changed change other found s) id p
      by None = stands
      by (Some st) = put_elsewhere other (change st) differ stands

  pub closed_elsewhere : (other : ℕ) → id ≢ other → Stands s id p → Stands (after_close other s) id p
  closed_elsewhere other differ stands =
      record {
        statement = stands.statement;
        found =
            others_left s.by_id other id (is_other id other differ) ∙ stands.found;
        parameters =
            stands.parameters;
      }

-- the statement itself changes
pub changed_own : (s : Statements) (id : ℕ) (p q : InForce) (change : Statement → Statement) →
    Stands s id p → ((st : Statement) → st.parameters ≡ p → (change st).parameters ≡ q) →
    Stands (change_at id change s) id q
changed_own s id p q change stands makes =
    subst (λ found. Stands (changed change id found s) id q) (sym stands.found)
    (put_own s id q (change stands.statement) (makes stands.statement stands.parameters))

-- ---- refusals

pub both : (a b : Bool) → (a && b) ≡ true → (a ≡ true) × (b ≡ true)
both true b e = (refl, e)
both false b e = absurd cc

kept_is : (n : ℕ) (types : List ParameterType) → are_undisputed types ≡ true →
    undisputed (take n types) ≡ length (take n types)
kept_is zero types all = refl
kept_is (suc n) [] all = refl
kept_is (suc n) (t ∷ types) all =
    let each = both (not (is_disputed t.column_type)) (are_undisputed types) all in
    let later = kept_is n types each.1 in
    ap (λ b. cond b (1 + undisputed (take n types)) 0) each.0 ∙ omega (arith, later)

refused_by : (n carried : ℕ) (types : List ParameterType) (all_kept : Bool) → n ≡
    length (take carried types) → (n == carried) ≡ all_kept →
    (if all_kept then types else take n types) ≡ types
refused_by n carried types true is same = refl
refused_by n carried types false is same =
    let differ : n ≢ carried = (λ e. grind (arith, nat_tests)) in
    take_all n types (omega (arith, is, length-take carried types, differ))

-- types that all servers take stay
types_stay : (carried : ℕ) (types : List ParameterType) → are_undisputed types ≡ true →
    refused_types carried types ≡ types
types_stay carried types all =
    refused_by (undisputed (take carried types)) carried types
    (undisputed (take carried types) == carried) (kept_is carried types all) refl

read_stays : (code : ℕ) (refusal : Refused) (carried : ℕ) (before s : InForce) →
    LeavesAll code s.types → after_refusal code refusal carried before s ≡ s
read_stays code refused.Execution carried before s leaves =
    ap (λ b. if b then before else after_read_refusal carried s)
    (is_not code malformed_packet leaves.not_malformed) ∙
    ap (λ (types : List ParameterType). record {
      count = s.count;
      types = types;
      long_data =
          s.long_data;
      broken = s.broken;
    }) (types_stay carried s.types leaves.taken)
read_stays code (refused.Bulk flags) carried before s leaves =
    ap (λ b. if b then before else if code == unsupported_command then after_unread_bulk flags
    before else after_read_refusal carried s)
    (is_not code malformed_packet leaves.not_malformed)
    ∙ ap (λ b. if b then after_unread_bulk flags before else after_read_refusal carried s)
    (is_not code unsupported_command leaves.not_unsupported)
    ∙ ap (λ (types : List ParameterType). record {
      count = s.count;
      types = types;
      long_data =
          s.long_data;
      broken = s.broken;
    }) (types_stay carried s.types leaves.taken)

-- a refusal of a statement that was read takes nothing back
pub refusal_leaves : (code : ℕ) (pending : Pending) (st : Statement) →
    LeavesAll code st.parameters.types → (taken_back code pending st).parameters ≡ st.parameters
refusal_leaves code pending st leaves =
    read_stays code pending.refused pending.carried pending.before st.parameters leaves
