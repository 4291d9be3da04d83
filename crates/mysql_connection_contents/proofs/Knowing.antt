-- The texts of the statements that stand are those that the events show.
use Rattle.std.proofs.Common.{◌≡◌, ℕ, Bool, true, false, cond, List, [], ◌∷◌, Option, Some, None, refl, sym, ap, subst}
use Rattle.std.proofs.Common.{◌∙◌}
use Rattle.std.specs.Prelude.{◌==◌, ◌||◌, if◌then◌else◌}
use Rattle.std.specs.BTreeMap.{is_at}
use Rattle.std.specs.Cmp.{unsigned_tied}
use Rattle.std.specs.List.Sorted.{IsStrictlySortedBy}
use Rattle.std.specs.Map.{keys_of, lookup, remove_entry}
use Rattle.std.specs.Option.{option_and_then, option_map}
use Rattle.std.specs.Ordering.{nat_cmp}
use Rattle.std.proofs.lemmas.Cmp.{nat_cmp_total}
use Rattle.std.proofs.lemmas.Map.{lookup-none}
use Rattle.std.proofs.lemmas.Map.Entries.{lookup_tail, none_below_head}
use Rattle.mysql_commands.specs.Commands as commands
use Rattle.mysql_commands.specs.Commands.{Command, Other, Prepare, command_at}
use Rattle.mysql_commands.specs.Replies.{statement_of}
use Rattle.mysql_connection_rules.specs.Standing.{About, Phase, Standing}
use Rattle.mysql_connection_rules.specs.Standing.About.{Nothing, Preparing, Resetting}
use Rattle.mysql_connection_rules.specs.Standing as phases
use Rattle.mysql_connection_rules.specs.Steps.{about_by, about_execution, after_command, after_data, after_other}
use Rattle.mysql_connection_rules.specs.Steps.{by_number, carried_types, changing, closing}
use Rattle.mysql_connection_rules.specs.Steps.{after_change, after_prepare, refused_as, reply_due}
use Rattle.mysql_executions.specs.InForce.{InForce}
use Rattle.mysql_reply_events.specs.declared.context.ReplyKind.TheVariants as kinds
use Rattle.mysql_connection_rules.specs.Steps.{execution_by_id, execution_of, id_in_question, in_phase}
use Rattle.mysql_connection_rules.specs.Steps.{is_unagreed_bulk, parameters_in_question, statement_in_question}
use Rattle.mysql_connection_statements.proofs.Entries.{found_again, others_found, others_left}
use Rattle.mysql_connection_statements.specs.Statements.{IsOrdered, Statement, Statements, after_close, change_at}
use Rattle.mysql_connection_statements.specs.Statements.{changed, counted, executed, is_reset, last_prepared}
use Rattle.mysql_connection_statements.specs.Statements.{pending_of, resolved, statement_at, unless_it, with_long_data}
use Rattle.mysql_connection_statements.specs.Statements.{with_statement}
use Rattle.mysql_connection_statements.specs.declared.pending.Pending.{Pending}
use Rattle.mysql_connection_contents.proofs.Commands.{either, same_id}
use Rattle.mysql_connection_contents.proofs.Numbered.{Anew, Closing, Plain, anew_is, change_is, closing_is}
use Rattle.mysql_connection_contents.proofs.Numbered.{is_execution, is_special, plain_command}
use Rattle.mysql_connection_contents.specs.Shown.{Known, behind_command, changes_user, closes, is_anew, last_behind}
use Rattle.mysql_connection_contents.specs.Shown.{last_without, named, prepares, text_asked, without}

-- ---- texts of statements

abbrev pub text_of : Statement → List ℕ
text_of x = x.text

abbrev pub text_at : Statements → ℕ → Option (List ℕ)
text_at st id = option_map text_of (statement_at st id)

pub put_text : (st : Statements) (id : ℕ) (x : Statement) (other : ℕ) →
    text_at (with_statement id x st) other ≡ (if other == id then Some x.text else text_at st other)
put_text st id x other = by_test (other == id) refl
  where
    by_test : (test : Bool) → (other == id) ≡ test → text_at (with_statement id x st) other ≡
        (if test then Some x.text else text_at st other)
    by_test true is = ap (text_at (with_statement id x st)) (same_id other id is) ∙
        ap (option_map text_of) (found_again st.by_id id x)
    by_test false is = ap (option_map text_of) (others_found st.by_id id other x (unsigned_tied other id ∙ is))

put_kept : (st : Statements) (id : ℕ) (old x : Statement) → statement_at st id ≡ Some old → x.text ≡
    old.text → (other : ℕ) → text_at (with_statement id x st) other ≡ text_at st other
put_kept st id old x e keeps other = put_text st id x other ∙ by_test (other == id) refl
  where
    by_test : (test : Bool) → (other == id) ≡ test → (if test then Some x.text else text_at st other) ≡ text_at st other
    by_test true is = ap (λ (t : List ℕ). Some t) keeps ∙ sym (ap (option_map text_of) e) ∙
        ap (text_at st) (sym (same_id other id is))
    by_test false is = refl

kept_by : (st : Statements) (id : ℕ) (change : Statement → Statement) (keeps : (x : Statement) →
    (change x).text ≡ x.text) (found : Option Statement) → statement_at st id ≡ found → (other : ℕ)
    → text_at (changed change id found st) other ≡ text_at st other
kept_by st id change keeps None e other = refl
kept_by st id change keeps (Some x) e other = put_kept st id x (change x) e (keeps x) other

pub kept_text : (st : Statements) (id : ℕ) (change : Statement →
    Statement) (keeps : (x : Statement) → (change x).text ≡ x.text) (other : ℕ) →
    text_at (change_at id change st) other ≡ text_at st other
kept_text st id change keeps other = kept_by st id change keeps (statement_at st id) refl other

last_by : (st : Statements) (id : ℕ) (change : Statement → Statement) (found : Option Statement) →
    (changed change id found st).last ≡ st.last
last_by st id change None = refl
last_by st id change (Some x) = refl

pub kept_last : (st : Statements) (id : ℕ) (change : Statement → Statement) → (change_at id change st).last ≡ st.last
kept_last st id change = last_by st id change (statement_at st id)

-- ---- a statement that is taken out

abbrev Entries : Type 0
Entries = List (ℕ × Statement)

after_it : (e : ℕ × Statement) (es : Entries) (id : ℕ) → id ≡ e.0 →
    IsStrictlySortedBy nat_cmp (keys_of (e ∷ es)) → lookup (is_at (nat_cmp id)) es ≡ None
unfolding IsStrictlySortedBy
after_it e [] id same ascend = refl
after_it e (f ∷ es) id same ascend =
    lookup-none (is_at (nat_cmp id)) (f ∷
    es) (none_below_head nat_cmp_total id f es ascend.1 (ap (λ (n : ℕ). nat_cmp n f.0) same ∙
    ascend.0.0))

gone_by : (e : ℕ × Statement) (es : Entries) (id : ℕ) (test : Bool) → is_at (nat_cmp id) e.0 ≡
    test → IsStrictlySortedBy nat_cmp (keys_of (e ∷ es)) →
    lookup (is_at (nat_cmp id)) (remove_entry (is_at (nat_cmp id)) es) ≡ None
    → lookup (is_at (nat_cmp id)) (cond test es (e ∷ remove_entry (is_at (nat_cmp id)) es)) ≡ None
gone_by e es id true is ascend later = after_it e es id (same_id id e.0 (sym (unsigned_tied id e.0) ∙ is)) ascend
gone_by e es id false is ascend later =
    lookup_tail (is_at (nat_cmp id)) e (remove_entry (is_at (nat_cmp id)) es) is ∙ later

gone : (es : Entries) (id : ℕ) → IsStrictlySortedBy nat_cmp (keys_of es) →
    lookup (is_at (nat_cmp id)) (remove_entry (is_at (nat_cmp id)) es) ≡ None
unfolding IsStrictlySortedBy
gone [] id ascend = refl
gone (e ∷ es) id ascend = gone_by e es id (is_at (nat_cmp id) e.0) refl ascend (gone es id ascend.1)

closed_text : (st : Statements) (id other : ℕ) → IsOrdered st → text_at (after_close id st) other ≡
    (if other == id then None else text_at st other)
closed_text st id other own = by_test (other == id) refl
  where
    by_test : (test : Bool) → (other == id) ≡ test → text_at (after_close id st) other ≡
        (if test then None else text_at st other)
    by_test true is = ap (text_at (after_close id st)) (same_id other id is) ∙
        ap (option_map text_of) (gone st.by_id id own)
    by_test false is = ap (option_map text_of) (others_left st.by_id id other (unsigned_tied other id ∙ is))

-- ---- what is known fits what stands

abbrev pub preparing : About → Option (List ℕ)
preparing (Preparing text size) = Some text
preparing about = None

abbrev pub resetting : About → Bool
resetting Resetting = true
resetting about = false

abbrev pub AboutFits : About → Option Command → Type 0
AboutFits about asked = (text_asked asked ≡ preparing about) × (is_anew asked ≡ resetting about)

abbrev pub AskedFits : Phase → Option Command → Type 0
AskedFits (phases.Reply r) asked = AboutFits r.about asked
AskedFits phase asked = Unit {0}

abbrev pub TextsFit : Statements → Known → Type 0
TextsFit st k = ((id : ℕ) → text_at st id ≡ k.texts id) × (st.last ≡ k.last)

pub record Knows (s : Standing) (k : Known) : Type 0 where
  pub texts : TextsFit s.statements k
  pub asked : AskedFits s.phase k.asked

abbrev known : (ℕ → Option (List ℕ)) → Option ℕ → Option Command → Known
known texts last asked = record { texts = texts; last = last; asked = asked }

abbrev by_user : Bool → Command → Option ℕ → Option (List ℕ) → Known → Known
by_user changes c q text k =
    if changes then known (λ id. None) None (Some c) else known (without q k.texts)
    (last_behind text q k.last) (Some c)

-- ---- commands

module _ (s : Standing) (k : Known) (fit : TextsFit s.statements k) (own : IsOrdered s.statements) where
  behind_is : (c : Command) (changes : Bool) (q closed : Option ℕ) (text : Option (List ℕ)) →
      changes_user c ≡ changes → closes c ≡ closed → named k closed ≡ q → prepares c ≡ text →
      behind_command c k ≡ by_user changes c q text k
  behind_is c changes q closed text a b d e =
      ap (λ (x : Bool). by_user x c (named k (closes c)) (prepares c) k) a
      ∙ ap (λ (x : Option ℕ). by_user changes c (named k x) (prepares c) k) b
      ∙ ap (λ (x : Option ℕ). by_user changes c x (prepares c) k) d
      ∙ ap (λ (x : Option (List ℕ)). by_user changes c q x k) e

  abbrev Becomes : Command → Standing → Type 0
  Becomes c mid = Knows mid (behind_command c k)

  left_knows : (c : Command) (mid : Standing) → changes_user c ≡ false → closes c ≡ None →
      prepares c ≡ None → ((id : ℕ) → text_at mid.statements id ≡ text_at s.statements id) →
      mid.statements.last ≡ s.statements.last
      → AskedFits mid.phase (Some c) → Becomes c mid
  left_knows c mid a b d texts last asked =
      subst (Knows mid) (sym (behind_is c false None None None a b refl d))
      (record { texts = (λ id. texts id ∙ fit.0 id, last ∙ fit.1); asked = asked })

  plain_knows : {runs : Bool} (c : Command) (mid : Standing) → Plain runs c →
      ((id : ℕ) → text_at mid.statements id ≡ text_at s.statements id) → mid.statements.last ≡
      s.statements.last → AskedFits mid.phase (Some c) → Becomes c mid
  plain_knows c mid plain texts last asked = left_knows c mid plain.user plain.gone plain.text texts last asked

  -- executions
  execution_about : (id : ℕ) (p : Option Pending) → (preparing (about_execution id p) ≡ None) ×
      (resetting (about_execution id p) ≡ false)
  execution_about id None = (refl, refl)
  execution_about id (Some p) = (refl, refl)

  found_knows : {runs : Bool} (c : Command) → Plain runs c →
      (number : ℕ) (body : List ℕ) (id : ℕ) (found : Option Statement) →
      statement_at s.statements id ≡ found →
      Becomes c (execution_by_id number body (Some id) found s)
  found_knows c plain number body id None e =
      plain_knows c (execution_by_id number body (Some id) None s) plain (λ other. refl) refl
      (plain.text, plain.anew)
  found_knows c plain number body id (Some x) e =
      let mid = execution_by_id number body (Some id) (Some x) s in
      let types = carried_types s.capabilities number x.parameters.count body in
      plain_knows c mid plain (put_kept s.statements id x (executed types x) e refl) refl
      (let about = execution_about id (pending_of id (refused_as number body) types x) in
      (plain.text ∙ sym about.0, plain.anew ∙ sym about.1))

  known_knows : {runs : Bool} (c : Command) → Plain runs c →
      (number : ℕ) (body : List ℕ) (q : Option ℕ) →
      Becomes c (execution_by_id number body q (option_and_then (statement_at s.statements) q) s)
  known_knows c plain number body None =
      plain_knows c (execution_by_id number body None None s) plain (λ other. refl) refl
      (plain.text, plain.anew)
  known_knows c plain number body (Some id) = found_knows c plain number body id (statement_at s.statements id) refl

  execution_knows : {runs : Bool} (c : Command) → Plain runs c →
      (number : ℕ) (body : List ℕ) (q : Option ℕ) →
      Becomes c (execution_of number body q (option_and_then (statement_at s.statements) q) s)
  execution_knows c plain number body q =
      either (Becomes c) (is_unagreed_bulk s.capabilities number)
      (reply_due kinds.Binary None Nothing s)
      (execution_by_id number body q (option_and_then (statement_at s.statements) q) s)
      (λ is. plain_knows c (reply_due kinds.Binary None Nothing s) plain (λ other. refl) refl
      (plain.text, plain.anew)) (λ is. known_knows c plain number body q)

  -- long data, resets
  changing_text : (change : Statement → Statement) → ((x : Statement) → (change x).text ≡ x.text) →
      (q : Option ℕ) (id : ℕ) → text_at (changing change q s).statements id ≡
      text_at s.statements id
  changing_text change keeps None id = refl
  changing_text change keeps (Some its) id = kept_text s.statements its change keeps id

  changing_last : (change : Statement → Statement) (q : Option ℕ) →
      (changing change q s).statements.last ≡ s.statements.last
  changing_last change None = refl
  changing_last change (Some its) = kept_last s.statements its change

  data_text : (q : Option ℕ) (payload : List ℕ) (c : Command) (id : ℕ) →
      text_at (after_data q payload c s).statements id ≡ text_at s.statements id
  data_text q payload (commands.LongData number place bytes) id =
      changing_text (with_long_data place bytes (counted payload)) (λ x. refl) q id
  data_text q payload c id = refl

  data_last : (q : Option ℕ) (payload : List ℕ) (c : Command) →
      (after_data q payload c s).statements.last ≡ s.statements.last
  data_last q payload (commands.LongData number place bytes) =
      changing_last (with_long_data place bytes (counted payload)) q
  data_last q payload c = refl

  -- a close
  named_is : (o : Option ℕ) → named k o ≡ option_and_then (resolved s.statements) o
  named_is None = refl
  named_is (Some id) = ap (λ (l : Option ℕ). if id == last_prepared then l else Some id) (sym fit.1)

  closed_fits : (c : Command) (q : Option ℕ) →
      Knows (in_phase phases.Command (closing q s))
      (known (without q k.texts) (last_without q k.last) (Some c))
  closed_fits c None = record { texts = fit; asked = tt }
  closed_fits c (Some id) = record {
    texts = (
      λ other. closed_text s.statements id other own ∙
          ap (λ (t : Option (List ℕ)). if other == id then None else t) (fit.0 other),
      ap (unless_it id) fit.1,
    );
    asked = tt;
  }

  close_knows : (c : Command) (payload : List ℕ) → Closing payload c →
      Becomes c (in_phase phases.Command (closing (id_in_question s.statements payload) s))
  close_knows c payload closing_so =
      let q = id_in_question s.statements payload in
      subst (Knows (in_phase phases.Command (closing q s)))
      (sym (behind_is c false q (statement_of payload) None closing_so.user closing_so.gone
      (named_is (statement_of payload)) closing_so.text)) (closed_fits c q)

  -- a change of user, a prepare, a reset of the connection
  change_knows : (c : Command) (payload : List ℕ) → changes_user c ≡ true → Becomes c (after_change payload c s)
  change_knows c payload is =
      subst (Knows (after_change payload c s))
      (sym (behind_is c true (named k (closes c)) (closes c) (prepares c) is refl refl refl))
      (record { texts = (λ id. refl, refl); asked = tt })

  prepare_knows : (c : Command) (payload body : List ℕ) → c ≡ Prepare body → Becomes c (after_prepare payload c s)
  prepare_knows c payload body is =
      subst (λ (x : Command). Knows (after_prepare payload x s) (behind_command x k)) (sym is)
      (record { texts = (fit.0, refl); asked = (refl, refl) })

  abbrev Calm : About → Type 0
  Calm about = (preparing about ≡ None) × (resetting about ≡ false)

  not_both : (a : Bool) → a ≡ true → a ≡ false → ⊥
  not_both a h x = cc

  four_false : (a b d e : Bool) → a ≡ false → b ≡ false → d ≡ false → e ≡ false → (a || (b || (d || e))) ≡ false
  four_false a b d e x y z w = cc

  none_special : (number : ℕ) → (number == 0x11) ≡ false → (number == 0x16) ≡ false →
      (number == 0x19) ≡ false → (number == 0x1f) ≡ false → is_special number ≡ false
  none_special number a b d e = four_false (number == 0x11) (number == 0x16) (number == 0x19) (number == 0x1f) a b d e

  plain_execution : (number : ℕ) (body : List ℕ) (parameters : Option InForce) (test : Bool) →
      (number == 0x17) ≡ test → ((number == 0x17) || (number == 0xfa)) ≡ true →
      Plain (is_execution number) (command_at s.capabilities parameters (number ∷ body))
  plain_execution number body parameters true is both =
      plain_command s.capabilities parameters number body (ap is_special (same_id number 0x17 is))
  plain_execution number body parameters false is both =
      plain_command s.capabilities parameters number body
      (ap is_special (same_id number 0xfa (ap (λ (b : Bool). b || (number == 0xfa)) (sym is) ∙
      both)))

  other_about : (number : ℕ) → (number == 0x1f) ≡ false → (preparing (about_by number) ≡ None) ×
      (resetting (about_by number) ≡ false)
  other_about number isnt =
      either Calm (number == 0x1f) _ _ (λ is. absurd (not_both (number == 0x1f) is isnt)) (λ is.
      either Calm (number == 0x20) _ _ (λ is. (refl, refl)) (λ is.
      either Calm ((number == 0x12) || ((number == 0x13) || (number == 0x1e))) _ _
      (λ is. (refl, refl)) (λ is. (refl, refl))))

  anew_about : (number : ℕ) → (number == 0x1f) ≡ true → about_by number ≡ Resetting
  anew_about number is = ap about_by (same_id number 0x1f is)

  other_knows : (number : ℕ) (body : List ℕ) (parameters : Option InForce) (anew : Bool) →
      (number == 0x1f) ≡ anew → (number == 0x11) ≡ false → (number == 0x16) ≡ false →
      (number == 0x19) ≡ false
      → Becomes (command_at s.capabilities parameters (number ∷ body)) (after_other number (number ∷ body) s)
  other_knows number body parameters true is a b d =
      let c = command_at s.capabilities parameters (number ∷ body) in
      let its : Anew c = subst (λ (n : ℕ). Anew (command_at s.capabilities parameters (n ∷ body)))
      (sym (same_id number 0x1f is)) (anew_is s.capabilities parameters body) in
      left_knows c (after_other number (number ∷ body) s) its.user its.gone its.text (λ id. refl) refl
      (its.text ∙ sym (ap preparing (anew_about number is)), its.anew ∙ sym (ap resetting (anew_about number is)))
  other_knows number body parameters false is a b d =
      let c = command_at s.capabilities parameters (number ∷ body) in
      let plain = plain_command s.capabilities parameters number body (none_special number a b d is) in
      let about = other_about number is in
      plain_knows c (after_other number (number ∷ body) s) plain (λ id. refl) refl (
        plain.text ∙
            sym about.0,
        plain.anew ∙ sym about.1,
      )

  number_knows : (number : ℕ) (body : List ℕ) (parameters : Option InForce) →
      Becomes (command_at s.capabilities parameters (number ∷ body))
      (by_number number body (id_in_question s.statements (number ∷ body))
      (statement_in_question s.statements (number ∷ body)) (number ∷
      body) (command_at s.capabilities parameters (number ∷ body)) s)
  number_knows number body parameters =
      let payload = number ∷ body in
      let q = id_in_question s.statements payload in
      let c = command_at s.capabilities parameters payload in
      let P = Becomes c in
      let plain_at = λ (n : ℕ) (is : (number == n) ≡ true) (plain : is_special n ≡
      false). plain_command s.capabilities parameters number body
      (ap is_special (same_id number n is) ∙ plain) in
      either P (number == 0x01) _ _ (λ is. plain_knows c _ (plain_at 0x01 is refl) (λ id. refl) refl tt) (λ is1.
      either P (number == 0x11) _ _
      (λ is. change_knows c payload
      (ap (λ (n : ℕ). changes_user (command_at s.capabilities parameters (n ∷ body)))
      (same_id number 0x11 is) ∙ change_is s.capabilities parameters body)) (λ is2.
      either P (number == 0x16) _ _
      (λ is. prepare_knows c payload body
      (ap (λ (n : ℕ). command_at s.capabilities parameters (n ∷ body))
      (same_id number 0x16 is))) (λ is3.
      either P ((number == 0x17) || (number == 0xfa)) _ _
      (λ is. execution_knows c (plain_execution number body parameters (number == 0x17) refl is)
      number body q) (λ is4.
      either P (number == 0x18) _ _
      (λ is. plain_knows c _ (plain_at 0x18 is refl) (data_text q payload c)
      (data_last q payload c) tt) (λ is5.
      either P (number == 0x19) _ _
      (λ is. close_knows c payload
      (subst (λ (n : ℕ). Closing (n ∷ body) (command_at s.capabilities parameters (n ∷ body)))
      (sym (same_id number 0x19 is)) (closing_is s.capabilities parameters body))) (λ is6.
      either P (number == 0x1a) _ _
      (λ is. (let plain = plain_at 0x1a is refl in
      plain_knows c _ plain (changing_text is_reset (λ x. refl) q) (changing_last is_reset q)
      (plain.text, plain.anew))) (λ is7.
      either P (number == 0x1c) _ _
      (λ is. (let plain = plain_at 0x1c is refl in
      plain_knows c _ plain (λ id. refl) refl (plain.text, plain.anew))) (λ is8.
      other_knows number body parameters (number == 0x1f) refl is2 is3 is6))))))))

  pub command_knows : (payload : List ℕ) →
      Becomes (command_at s.capabilities (parameters_in_question s.statements payload) payload)
      (after_command s payload (command_at s.capabilities
      (parameters_in_question s.statements payload) payload))
  command_knows [] = plain_knows {runs = false} (Other []) _
      (record { user = refl; anew = refl; text = refl; gone = refl; mute = λ e. refl }) (λ id. refl)
      refl (refl, refl)
  command_knows (number ∷ body) = number_knows number body (parameters_in_question s.statements (number ∷ body))
