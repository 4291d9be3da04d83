-- What stands of one statement behind a command.
use Rattle.std.proofs.Common.{◌≡◌, ◌≢◌, ℕ, Bool, true, false, List, ◌∷◌, Option, Some, None, refl, sym, ap, subst, ◌∙◌}
use Rattle.std.proofs.Common.{arith}
use Rattle.std.specs.Prelude.{◌==◌, ◌||◌, if◌then◌else◌, not}
use Rattle.std.specs.Option.{option_and_then}
use Rattle.std.specs.BTreeMap.{is_at}
use Rattle.std.specs.Map.{lookup}
use Rattle.std.specs.Ordering.{nat_cmp}
use Rattle.std.proofs.lemmas.Bool.Decides.{nat_tests}
use Rattle.mysql_commands.specs.Commands as commands
use Rattle.mysql_commands.specs.Commands.{Command}
use Rattle.mysql_connection_rules.specs.Standing.{Standing}
use Rattle.mysql_connection_rules.specs.Standing.About.{Nothing}
use Rattle.mysql_connection_rules.specs.Steps.{after_data, by_number, carried_types, changing, closing, execution_by_id}
use Rattle.mysql_connection_rules.specs.Steps.{execution_of, reply_due}
use Rattle.mysql_reply_events.specs.declared.context.ReplyKind.TheVariants as kinds
use Rattle.mysql_connection_statements.specs.Statements.{Statement, change_at, counted, executed, is_reset}
use Rattle.mysql_connection_statements.specs.Statements.{statement_at, with_long_data, with_statement}
use Rattle.mysql_executions.specs.After.{after_execution, after_long_data, after_reset, bulk_types, execution_types}
use Rattle.mysql_executions.specs.InForce.{InForce}
use Rattle.mysql_executions.specs.Types.{has_bulk_operations, unnamed}
use Rattle.mysql_connection_recoding.specs.Agreement.{after_bulk, is_about_parameters, with_data}
use Rattle.mysql_connection_contents.specs.Contents.{Stands, is_id, is_logged_in}
use Rattle.mysql_connection_contents.proofs.Statements.{OwnIds, changed_elsewhere, changed_own, closed_elsewhere}
use Rattle.mysql_connection_contents.proofs.Statements.{put_elsewhere, put_own}

-- behind a command or a reply the statement stands with these parameters, by the same capabilities
pub record Goes (s : Standing) (id : ℕ) (q : InForce) (mid : Standing) : Type 0 where
  pub stands : Stands mid.statements id q
  pub capabilities : mid.capabilities ≡ s.capabilities
  pub logged_in : is_logged_in mid.phase ≡ true

-- one of two
pub either : {A : Type 0} (P : A → Type 0) (test : Bool) (x y : A) → (test ≡ true → P x) →
    (test ≡ false → P y) → P (if test then x else y)
either P true x y p q = p refl
either P false x y p q = q refl

pub same_id : (a b : ℕ) → (a == b) ≡ true → a ≡ b
same_id a b e = grind (arith, nat_tests)

pub other_id : (a b : ℕ) → (a == b) ≡ false → b ≢ a
other_id a b e h = (let same : a ≡ b = sym h in grind (arith, nat_tests))

pub none_of_four : (a b d e : Bool) → (a || (b || (d || e))) ≡ false → (a ≡ false) × (b ≡ false) ×
    (d ≡ false) × (e ≡ false)
none_of_four false false false false h = (refl, refl, refl, refl)
none_of_four true b d e h = absurd cc
none_of_four false true d e h = absurd cc
none_of_four false false true e h = absurd cc
none_of_four false false false true h = absurd cc

neither : (a b : Bool) → (a || b) ≡ true → a ≡ false → b ≡ false → ⊥
neither true b h x y = cc
neither false true h x y = cc
neither false false h x y = cc

not_both : (a : Bool) → a ≡ true → a ≡ false → ⊥
not_both a h x = cc

module _ (s : Standing) (id : ℕ) (p : InForce) (stands : Stands s.statements id p) where
  -- ---- executions

  executed_here : (number : ℕ) (body : List ℕ) (other : ℕ) (found : Option Statement)
      (test : Bool) → (other == id) ≡ test → statement_at s.statements other ≡ found
      → Goes s id (if test then after_execution
      (unnamed (carried_types s.capabilities number p.count body)) p else p)
      (execution_by_id number body (Some other) found s)
  executed_here number body other None true is at =
      absurd (let none : None ≡ Some stands.statement = sym at ∙
      ap (statement_at s.statements) (same_id other id is) ∙ stands.found in cc)
  executed_here number body other None false is at = record { stands = stands; capabilities = refl; logged_in = refl }
  executed_here number body other (Some st) true is at =
      let same = same_id other id is in
      let found : Some st ≡ Some stands.statement = sym at ∙ ap (statement_at s.statements) same ∙ stands.found in
      let its : st ≡ stands.statement = cc in
      let parameters : st.parameters ≡ p = ap (λ (x : Statement). x.parameters) its ∙ stands.parameters in
      let made = executed (carried_types s.capabilities number st.parameters.count body) st in
      record {
        stands = subst (λ n. Stands (with_statement n made s.statements) id
            (after_execution (unnamed (carried_types s.capabilities number p.count body)) p))
            (sym same)
            (put_own s.statements id (after_execution
            (unnamed (carried_types s.capabilities number p.count body)) p) made
            (ap (λ (q : InForce). after_execution
            (unnamed (carried_types s.capabilities number q.count body)) q) parameters));
        capabilities = refl;
        logged_in = refl;
      }
  executed_here number body other (Some st) false is at =
      record {
        stands = put_elsewhere s.statements id p other
            (executed (carried_types s.capabilities number st.parameters.count body) st)
            (other_id other id is) stands;
        capabilities = refl;
        logged_in = refl;
      }

  known_goes : (number : ℕ) (body : List ℕ) (q : Option ℕ)
      → Goes s id (if is_id q id then after_execution
      (unnamed (carried_types s.capabilities number p.count body)) p else p)
      (execution_by_id number body q (option_and_then (statement_at s.statements) q) s)
  known_goes number body None = record { stands = stands; capabilities = refl; logged_in = refl }
  known_goes number body (Some other) =
      executed_here number body other (statement_at s.statements other) (other == id) refl refl

  pub execution_goes : (body : List ℕ) (q : Option ℕ)
      → Goes s id (if is_id q id then after_execution
      (unnamed (execution_types s.capabilities p.count body)) p else p)
      (execution_of 0x17 body q (option_and_then (statement_at s.statements) q) s)
  execution_goes body q = known_goes 0x17 body q

  same_goes : (test : Bool) (mid : Standing) → Goes s id p mid → Goes s id (if test then p else p) mid
  same_goes true mid goes = goes
  same_goes false mid goes = goes

  -- a bulk execution changes nothing where MariaDB's aren't in force
  bulk_by : (in_force : Bool) (body : List ℕ) (q : Option ℕ)
      → Goes s id (if is_id q id then
      (if in_force then after_execution (unnamed (bulk_types p.count body)) p else p) else p)
      (if not in_force then reply_due kinds.Binary None Nothing s else execution_by_id 0xfa body q
      (option_and_then (statement_at s.statements) q) s)
  bulk_by true body q = known_goes 0xfa body q
  bulk_by false body q = same_goes (is_id q id) (reply_due kinds.Binary None Nothing s)
      (record { stands = stands; capabilities = refl; logged_in = refl })

  pub bulk_goes : (body : List ℕ) (q : Option ℕ)
      → Goes s id (if is_id q id then after_bulk s.capabilities body p else p)
      (execution_of 0xfa body q (option_and_then (statement_at s.statements) q) s)
  bulk_goes body q = bulk_by (has_bulk_operations s.capabilities) body q

  -- ---- long data, resets

  changed_by : (other : ℕ) (change : Statement → Statement) (q : InForce) (test : Bool) →
      (other == id) ≡ test → ((st : Statement) → st.parameters ≡ p → (change st).parameters ≡ q) →
      Stands (change_at other change s.statements) id (if test then q else p)
  changed_by other change q true is makes =
      subst (λ n. Stands (change_at n change s.statements) id q) (sym (same_id other id is))
      (changed_own s.statements id p q change stands makes)
  changed_by other change q false is makes =
      changed_elsewhere s.statements id p other change (other_id other id is) stands

  changing_goes : (change : Statement → Statement) (q : InForce) (found : Option ℕ) →
      ((st : Statement) → st.parameters ≡ p → (change st).parameters ≡ q) →
      Stands (changing change found s).statements id (if is_id found id then q else p)
  changing_goes change q None makes = stands
  changing_goes change q (Some other) makes = changed_by other change q (other == id) refl makes

  itself : (test : Bool) → Stands s.statements id (if test then p else p)
  itself true = stands
  itself false = stands

  pub data_goes : (q : Option ℕ) (payload : List ℕ) (command : Command) →
      Stands (after_data q payload command s).statements id
      (if is_id q id then with_data command p else p)
  data_goes q payload (commands.LongData number place bytes) =
      changing_goes (with_long_data place bytes (counted payload)) (after_long_data place bytes p) q
      (λ st is. ap (after_long_data place bytes) is)
  data_goes q payload command = itself (is_id q id)

  -- ---- commands about parameters, and others

  pub reset_goes : (q : Option ℕ) →
      Stands (changing is_reset q s).statements id (if is_id q id then after_reset p else p)
  reset_goes q = changing_goes is_reset (after_reset p) q (λ st is. ap after_reset is)

  closed_by : (other : ℕ) (test : Bool) → (other == id) ≡ test → OwnIds s.statements → test ≡
      false → Stands (closing (Some other) s).statements id p
  closed_by other true is own stays = absurd cc
  closed_by other false is own stays = closed_elsewhere s.statements id p other (other_id other id is) stands

  closing_goes : (q : Option ℕ) → OwnIds s.statements → is_id q id ≡ false → Stands (closing q s).statements id p
  closing_goes None own stays = stands
  closing_goes (Some other) own stays = closed_by other (other == id) refl own stays

  abbrev Same : Standing → Type 0
  Same mid = Goes s id p mid

  same_as : (mid : Standing) → mid.statements.by_id ≡ s.statements.by_id → mid.capabilities ≡
      s.capabilities → is_logged_in mid.phase ≡ true → Same mid
  same_as mid entries capabilities logged =
      record {
        stands = record {
          statement = stands.statement;
          found =
              ap (lookup (is_at (nat_cmp id))) entries ∙ stands.found;
          parameters = stands.parameters;
        };
        capabilities = capabilities;
        logged_in = logged;
      }

  closing_capabilities : (q : Option ℕ) → (closing q s).capabilities ≡ s.capabilities
  closing_capabilities None = refl
  closing_capabilities (Some other) = refl

  -- a command that isn't about parameters leaves the statement as it stands
  pub other_goes : (number : ℕ) (body : List ℕ) (q : Option ℕ) (at : Option Statement)
      (command : Command) → OwnIds s.statements → is_about_parameters (number ∷ body) ≡ false →
      number ≢ 0x11 → (number ≡ 0x19 → is_id q id ≡ false)
      → Same (by_number number body q at (number ∷ body) command s)
  other_goes number body q at command own not_about no_change no_close =
      let payload = number ∷ body in
      let about = none_of_four (number == 0x17) (number == 0xfa) (number == 0x18) (number == 0x1a) not_about in
      either Same (number == 0x01) _ _ (λ is. same_as _ refl refl refl) (λ is1.
      either Same (number == 0x11) _ _ (λ is. absurd (no_change (same_id number 0x11 is))) (λ is2.
      either Same (number == 0x16) _ _ (λ is. same_as _ refl refl refl) (λ is3.
      either Same ((number == 0x17) || (number == 0xfa)) _ _
      (λ is. absurd (neither (number == 0x17) (number == 0xfa) is about.0 about.1)) (λ is4.
      either Same (number == 0x18) _ _ (λ is. absurd (not_both (number == 0x18) is about.2)) (λ is5.
      either Same (number == 0x19) _ _
      (λ is. record {
        stands = closing_goes q own (no_close (same_id number 0x19 is));
        capabilities = closing_capabilities q;
        logged_in = refl;
      }) (λ is6.
      either Same (number == 0x1a) _ _ (λ is. absurd (not_both (number == 0x1a) is about.3)) (λ is7.
      either Same (number == 0x1c) _ _ (λ is. same_as _ refl refl refl) (λ is8.
      same_as _ refl refl refl))))))))
