-- What stands of one statement behind any payload.
use Rattle.std.proofs.Common.{◌≡◌, ℕ, Bool, true, false, List, [], ◌∷◌, Option, Some, None, Ok, refl, sym, ap, subst}
use Rattle.std.proofs.Common.{◌∙◌}
use Rattle.std.specs.Prelude.{◌==◌, ◌&&◌, if◌then◌else◌}
use Rattle.std.specs.Option.{option_and_then, option_map}
use Rattle.mysql_authentication.specs.Readings.{authentication_at}
use Rattle.mysql_commands.specs.Commands as commands
use Rattle.mysql_commands.specs.Commands.{Command, command_at}
use Rattle.mysql_connection_rules.specs.declared.side.Side.{Side}
use Rattle.mysql_connection_rules.specs.declared.side.Side.TheVariants.{Client, Server}
use Rattle.mysql_connection_rules.specs.Events.{Event}
use Rattle.mysql_connection_rules.specs.Events as events
use Rattle.mysql_connection_rules.specs.Standing.{InReply, Phase, Standing}
use Rattle.mysql_connection_rules.specs.Standing as phases
use Rattle.mysql_connection_rules.specs.StepLaws.{step_said}
use Rattle.mysql_connection_rules.specs.Steps.{after_authentication, after_command, after_data, after_event, by_turn}
use Rattle.mysql_connection_rules.specs.Steps.{changing, context_of, greets_anew, id_in_question, in_phase, in_turn}
use Rattle.mysql_connection_rules.specs.Steps.{of_login, of_reply, parameters_in_question, says, statement_in_question}
use Rattle.mysql_connection_rules.specs.Steps.{step, turn_in_reply}
use Rattle.mysql_connection_statements.specs.Statements.{Statement, counted, is_reset, statement_at, with_long_data}
use Rattle.mysql_executions.specs.InForce.{InForce}
use Rattle.mysql_connection_recoding.specs.Agreement.{after_payload, is_about_parameters, sets_of}
use Rattle.mysql_connection_recoding.proofs.Commands.{about_by}
use Rattle.mysql_reply_events.specs.Events.{Event as ReplySaid, ReplySoFar}
use Rattle.mysql_reply_events.specs.Table.{event_at, file_data_at}
use Rattle.mysql_connection_contents.specs.Contents.{CommandLeaves, EventLeaves, IsSettled, LeavesIn, Stands, is_due}
use Rattle.mysql_connection_contents.specs.Contents.{is_id, is_logged_in, sets_said}
use Rattle.mysql_connection_contents.proofs.Commands.{Goes, bulk_goes, data_goes, execution_goes, other_goes}
use Rattle.mysql_connection_contents.proofs.Commands.{reset_goes, same_id}
use Rattle.mysql_connection_contents.proofs.Ids.{authentication_stays, not_anew, said_is, says_is}
use Rattle.mysql_connection_contents.proofs.Replies.{reply_goes}
use Rattle.mysql_connection_contents.proofs.Statements.{OwnIds, both}

changing_capabilities : (change : Statement → Statement) (q : Option ℕ) (s : Standing) →
    (changing change q s).capabilities ≡ s.capabilities
changing_capabilities change None s = refl
changing_capabilities change (Some id) s = refl

data_capabilities : (q : Option ℕ) (payload : List ℕ) (command : Command) (s : Standing) →
    (after_data q payload command s).capabilities ≡ s.capabilities
data_capabilities q payload (commands.LongData number place bytes) s =
    changing_capabilities (with_long_data place bytes (counted payload)) q s
data_capabilities q payload command s = refl

module _ (s : Standing) (id : ℕ) (p : InForce) (stands : Stands s.statements id p) where
  abbrev asked : List ℕ → Command
  asked payload = command_at s.capabilities (parameters_in_question s.statements payload) payload

  abbrev Behind : ℕ → List ℕ → Type 0
  Behind n body = Goes s id
      (if is_id (id_in_question s.statements (n ∷ body)) id then after_payload s.capabilities (n ∷
      body) p else p) (after_command s (n ∷ body) (asked (n ∷ body)))

  about_goes : (number : ℕ) (body : List ℕ) → is_about_parameters (number ∷ body) ≡ true → Behind number body
  about_goes number body about =
      about_by (λ n. Behind n body) number (number == 0x17) (number == 0xfa) (number == 0x18)
      (number == 0x1a) refl refl refl refl about
      (execution_goes s id p stands body (id_in_question s.statements (0x17 ∷ body)))
      (bulk_goes s id p stands body (id_in_question s.statements (0xfa ∷ body)))
      (let q = id_in_question s.statements (0x18 ∷ body) in
      record {
        stands = data_goes s id p stands q (0x18 ∷ body) (asked (0x18 ∷ body));
        capabilities = data_capabilities q (0x18 ∷ body) (asked (0x18 ∷ body)) s;
        logged_in =
            refl;
      })
      (let q = id_in_question s.statements (0x1a ∷ body) in
      record {
        stands = reset_goes s id p stands q;
        capabilities =
            changing_capabilities is_reset q s;
        logged_in = refl;
      })

  abbrev flag : List ℕ → Bool
  flag payload = is_about_parameters payload && is_id (id_in_question s.statements payload) id

  abbrev At : List ℕ → Bool → Type 0
  At payload about = Goes s id (if about &&
      is_id (id_in_question s.statements payload) id then after_payload s.capabilities payload p
      else p) (after_command s payload (asked payload))

  number_goes : (number : ℕ) (body : List ℕ) (about : Bool) → is_about_parameters (number ∷ body) ≡
      about → OwnIds s.statements → CommandLeaves id s.statements (number ∷ body) →
      At (number ∷ body) about
  number_goes number body true is own leaves = about_goes number body is
  number_goes number body false is own leaves =
      other_goes s id p stands number body (id_in_question s.statements (number ∷ body))
      (statement_in_question s.statements (number ∷ body)) (asked (number ∷ body)) own is
      leaves.0 leaves.1

  command_goes : (payload : List ℕ) → OwnIds s.statements → CommandLeaves id s.statements payload →
      At payload (is_about_parameters payload)
  command_goes [] own leaves = record { stands = stands; capabilities = refl; logged_in = refl }
  command_goes (number ∷ body) own leaves =
      number_goes number body (is_about_parameters (number ∷ body)) refl own leaves

  its_id : (q : Option ℕ) → is_id q id ≡ true → q ≡ Some id
  its_id None is = absurd cc
  its_id (Some other) is = ap (λ n. Some n) (same_id other id is)

  -- a command about the statement is read by what is in force of it
  asked_is : (payload : List ℕ) → flag payload ≡ true → asked payload ≡ command_at s.capabilities (Some p) payload
  asked_is payload about =
      let its = its_id (id_in_question s.statements payload)
      (both (is_about_parameters payload) (is_id (id_in_question s.statements payload) id)
      about).1 in
      ap (λ q. command_at s.capabilities
      (option_map (λ (x : Statement). x.parameters)
      (option_and_then (statement_at s.statements) q)) payload) its
      ∙ ap (λ found. command_at s.capabilities (option_map (λ (x : Statement). x.parameters) found)
      payload) stands.found
      ∙ ap (λ q. command_at s.capabilities (Some q) payload) stands.parameters

  -- ---- any payload

  pub record Behaves (about : Bool) (payload : List ℕ) (e : Event) (mid : Standing) : Type 0 where
    pub goes : Goes s id (if about then after_payload s.capabilities payload p else p) mid
    pub says : about ≡ true → sets_said e ≡ sets_of (command_at s.capabilities (Some p) payload)

  quiet : (payload : List ℕ) (e : Event) (mid : Standing) → Goes s id p mid → Behaves false payload e mid
  quiet payload e mid goes = record { goes = goes; says = λ about. absurd cc }

  turn_behaves : (side : Side) (r : InReply) (payload : List ℕ) (e : Event) (mid : Standing) →
      EventLeaves id s.statements r.about e → by_turn side r s payload ≡ Ok (e, mid) →
      Behaves false payload e mid
  turn_behaves Client r payload e mid leaves h =
      let x = says_is (λ so_far. events.FileData payload)
      (λ so_far. in_phase (phases.Reply (record r { so_far = so_far })) s)
      (of_reply (file_data_at r.so_far r.so_far.awaited payload)) e mid h in
      quiet payload e mid (subst (Goes s id p) (sym x.2)
      (record { stands = stands; capabilities = refl; logged_in = refl }))
  turn_behaves Server r payload e mid leaves h =
      let x = says_is (λ (x : ReplySaid × ReplySoFar). events.Replied x.0)
      (λ x. after_event r (counted payload) x.0 x.1 s)
      (of_reply (event_at (context_of s r) r.so_far payload)) e mid h in
      quiet payload e mid (subst (Goes s id p) (sym x.2)
      (reply_goes s id p r (counted payload) x.0.0 x.0.1
      (subst (EventLeaves id s.statements r.about) x.1 leaves) stands))

  phase_behaves : (phase : Phase) (payload : List ℕ) (e : Event) (mid : Standing) →
      is_logged_in phase ≡ true → OwnIds s.statements → LeavesIn id phase s.statements payload e →
      in_turn phase s payload ≡ Ok (e, mid)
      → Behaves (is_due phase && flag payload) payload e mid
  phase_behaves phases.Greeting payload e mid logged own leaves h = absurd cc
  phase_behaves phases.Response payload e mid logged own leaves h = absurd cc
  phase_behaves (phases.Authentication exchange) payload e mid logged own leaves h =
      let read = of_login (authentication_at s.capabilities.protocol.0 payload) in
      let x = says_is events.Authentication (after_authentication exchange s) read e mid
      (not_anew (greets_anew exchange payload)
      (says events.Authentication (after_authentication exchange s) read) e mid h) in
      let stay = authentication_stays exchange s x.0 in
      quiet payload e mid (subst (Goes s id p) (sym x.2)
      (record {
        stands = subst (λ t. Stands t id p) (sym stay.statements) stands;
        capabilities =
            stay.capabilities;
        logged_in = stay.logged_in;
      }))
  phase_behaves (phases.Answer exchange) payload e mid logged own leaves h =
      let same = (said_is (events.Answer payload) e (in_phase (phases.Authentication exchange) s) mid h).1 in
      quiet payload e mid (subst (Goes s id p) same (record { stands = stands; capabilities = refl; logged_in = refl }))
  phase_behaves phases.Command payload e mid logged own leaves h =
      let said = (said_is (events.Asked (asked payload)) e (after_command s payload (asked payload)) mid h).0 in
      let same = (said_is (events.Asked (asked payload)) e (after_command s payload (asked payload)) mid h).1 in
      record {
        goes = subst (Goes s id (if flag payload then after_payload s.capabilities payload p else
            p)) same (command_goes payload own leaves);
        says = λ about. ap sets_said (sym said) ∙ ap sets_of (asked_is payload about);
      }
  phase_behaves (phases.Reply r) payload e mid logged own leaves h =
      turn_behaves (turn_in_reply r.so_far.awaited) r payload e mid leaves h
  phase_behaves (phases.Over reason) payload e mid logged own leaves h = absurd cc

  pub step_behaves : (payload : List ℕ) (e : Event) (mid : Standing) → IsSettled s →
      LeavesIn id s.phase s.statements payload e → step s payload ≡ Ok (e, mid) →
      Behaves (is_due s.phase && flag payload) payload e mid
  step_behaves payload e mid settled leaves h =
      phase_behaves s.phase payload e mid settled.logged_in settled.own_ids leaves (step_said s payload e mid h)
