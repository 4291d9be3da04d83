-- What any payload leaves of the texts is what its event shows.
use Rattle.std.proofs.Common.{◌≡◌, ℕ, ◌+◌, Bool, List, Option, Some, Ok, refl, sym, ap, subst, ◌∙◌}
use Rattle.std.specs.Prelude.{◌==◌, if◌then◌else◌}
use Rattle.mysql_authentication.specs.Events.{Authentication as AuthenticationSaid, Greeting as GreetingSaid}
use Rattle.mysql_authentication.specs.Events.{Response as ResponseSaid}
use Rattle.mysql_authentication.specs.Events.Authentication.{Accepted, AuthMore, AuthSwitch, Denied, NextFactor}
use Rattle.mysql_authentication.specs.Events.Authentication.{OldAuthSwitch, PluginData}
use Rattle.mysql_authentication.specs.Events.Greeting.{Greeted, Rejected}
use Rattle.mysql_authentication.specs.Events.Response.{LoggedIn, SecureRequest}
use Rattle.mysql_authentication.specs.Readings.{authentication_at, greeting_at, response_at}
use Rattle.mysql_commands.specs.Commands.{Command, command_at}
use Rattle.mysql_connection_rules.specs.Events.{Event}
use Rattle.mysql_connection_rules.specs.Events as events
use Rattle.mysql_connection_rules.specs.Standing.{About, InReply, Phase, Standing}
use Rattle.mysql_connection_rules.specs.Standing.About.{Executing, OfStatement, Preparing, Resetting, Streaming}
use Rattle.mysql_connection_rules.specs.Standing as phases
use Rattle.mysql_connection_rules.specs.StepLaws.{step_said}
use Rattle.mysql_connection_rules.specs.Steps.{about_after, after_acceptance, after_authentication, after_command}
use Rattle.mysql_connection_rules.specs.Steps.{after_denial, after_event, after_greeting, after_response}
use Rattle.mysql_connection_rules.specs.Steps.{behind_reply as behind_part, by_turn, changed_by, context_of}
use Rattle.mysql_connection_rules.specs.Steps.{greets_anew}
use Rattle.mysql_connection_rules.specs.Steps.{in_phase, in_turn, is_compressed, is_fast, is_whole, of_login, of_reply}
use Rattle.mysql_connection_rules.specs.Steps.{parameters_in_question, phase_behind, reply_after, says, step}
use Rattle.mysql_connection_rules.specs.Steps.{turn_in_reply, with_columns, with_statements}
use Rattle.mysql_connection_rules.specs.declared.exchange.Exchange.{Exchange}
use Rattle.mysql_connection_rules.specs.declared.exchange.Exchange.TheVariants as exchanges
use Rattle.mysql_connection_rules.specs.declared.side.Side.{Side}
use Rattle.mysql_connection_rules.specs.declared.side.Side.TheVariants.{Client, Server}
use Rattle.mysql_connection_statements.specs.Statements.{IsOrdered, Statements, after_prepared, counted, having_columns}
use Rattle.mysql_connection_statements.specs.Statements.{no_statements, prepared_as, taken_back}
use Rattle.mysql_reply_events.specs.Events.{Event as ReplySaid, ReplySoFar}
use Rattle.mysql_reply_events.specs.Events.Event.{ErrorEvent, LineEvent, OkEvent, PreparedEvent}
use Rattle.mysql_reply_events.specs.Table.{event_at, file_data_at}
use Rattle.mysql_connection_contents.proofs.Commands.{either}
use Rattle.mysql_connection_contents.proofs.Ids.{not_anew, said_is, says_is}
use Rattle.mysql_connection_contents.proofs.Knowing.{AboutFits, AskedFits, Knows, TextsFit, command_knows, kept_last}
use Rattle.mysql_connection_contents.proofs.Knowing.{kept_text, put_text}
use Rattle.mysql_connection_contents.specs.Shown.{Known, behind, behind_ok, behind_prepared, behind_reply}

-- ---- replies

-- behind an event of a reply
record Told (about : About) (st : Statements) (k : Known) : Type 0 where
  pub texts : TextsFit st k
  pub asked : AboutFits about k.asked

told_prepared : (st : Statements) (k : Known) (text : List ℕ) (id count size : ℕ) → TextsFit st k →
    Told (OfStatement id) (after_prepared id (prepared_as text count size) st)
    (behind_prepared (Some text) id k)
told_prepared st k text id count size fit = record {
  texts = (
    λ other. put_text st id (prepared_as text count size) other ∙
        ap (λ (t : Option (List ℕ)). if other == id then Some text else t) (fit.0 other),
    refl,
  );
  asked = (refl, refl);
}

told : (about : About) (more : ℕ) (said : ReplySaid) (st : Statements) (k : Known) → TextsFit st k →
    AboutFits about k.asked →
    Told (about_after about said) (changed_by about more said st) (behind_reply said k)
told (Preparing text size) more (PreparedEvent p follow) st k fit asked =
    subst (λ (t : Option (List ℕ)). Told (OfStatement p.statement_id)
    (after_prepared p.statement_id (prepared_as text p.num_params (size + more)) st)
    (behind_prepared t p.statement_id k)) (sym asked.0)
    (told_prepared st k text p.statement_id p.num_params (size + more) fit)
told (Preparing text size) more (OkEvent ok) st k fit asked =
    subst (λ (b : Bool). Told (Preparing text size) st (behind_ok b k)) (sym asked.1)
    (record { texts = fit; asked = asked })
told (Preparing text size) more said st k fit asked = record { texts = fit; asked = asked }
told (Executing p) more (ErrorEvent error) st k fit asked = record {
  texts = (
    λ id. kept_text st p.id (taken_back error.error_code p) (λ x. refl) id ∙ fit.0 id,
    kept_last st p.id (taken_back error.error_code p) ∙ fit.1,
  );
  asked = asked;
}
told (Executing p) more (OkEvent ok) st k fit asked =
    subst (λ (b : Bool). Told (OfStatement p.id) st (behind_ok b k)) (sym asked.1)
    (record { texts = fit; asked = asked })
told (Executing p) more (PreparedEvent q follow) st k fit asked =
    subst (λ (t : Option (List ℕ)). Told (OfStatement p.id) st (behind_prepared t q.statement_id k))
    (sym asked.0) (record { texts = fit; asked = asked })
told (Executing p) more said st k fit asked = record { texts = fit; asked = asked }
told Resetting more (OkEvent ok) st k fit asked =
    subst (λ (b : Bool). Told Resetting no_statements (behind_ok b k)) (sym asked.1)
    (record { texts = (λ id. refl, refl); asked = asked })
told about more (OkEvent ok) st k fit asked =
    subst (λ (b : Bool). Told about st (behind_ok b k)) (sym asked.1)
    (record { texts = fit; asked = asked })
told about more (PreparedEvent q follow) st k fit asked =
    subst (λ (t : Option (List ℕ)). Told about st (behind_prepared t q.statement_id k))
    (sym asked.0) (record { texts = fit; asked = asked })
told about more said st k fit asked = record { texts = fit; asked = asked }

columns_fit : (r : InReply) (about : About) (st : Statements) (k : Known) → TextsFit st k →
    TextsFit (with_columns r about st) k
columns_fit r (OfStatement id) st k fit = (
  λ other. kept_text st id (having_columns r.so_far.columns r.coming) (λ x. refl) other ∙
      fit.0 other,
  kept_last st id (having_columns r.so_far.columns r.coming) ∙ fit.1,
)
columns_fit r about st k fit = fit

phase_fits : (about : About) (said : ReplySaid) (asked : Option Command) → AskedFits (phase_behind about said) asked
phase_fits (Streaming reason) (LineEvent bytes) asked = tt
phase_fits about said asked = tt

reply_knows : (s : Standing) (k : Known) (r : InReply) (size : ℕ) (said : ReplySaid)
    (so_far : ReplySoFar) → TextsFit s.statements k → AboutFits r.about k.asked →
    Knows (after_event r size said so_far s) (behind_reply said k)
reply_knows s k r size said so_far fit asked =
    let now = reply_after r size said so_far in
    let changed_so = with_statements (changed_by r.about size said s.statements) s in
    let its = told r.about size said s.statements k fit asked in
    let P = λ (x : Standing). Knows x (behind_reply said k) in
    either P (is_whole now.so_far.awaited)
    (behind_part now.about said
    (with_statements (with_columns now now.about changed_so.statements) changed_so))
    (in_phase (phases.Reply now) changed_so)
    (λ whole. record {
      texts =
          columns_fit now now.about changed_so.statements (behind_reply said k) its.texts;
      asked =
          phase_fits now.about said (behind_reply said k).asked;
    })
    (λ more. record { texts = its.texts; asked = its.asked })

-- ---- logging in

-- the statements stand, and no reply is awaited
record Quiet (s mid : Standing) : Type 0 where
  pub statements : mid.statements ≡ s.statements
  pub fits : (asked : Option Command) → AskedFits mid.phase asked

quiet_knows : (s mid : Standing) (k : Known) → Quiet s mid → TextsFit s.statements k → Knows mid k
quiet_knows s mid k quiet fit =
    record {
      texts = subst (λ (st : Statements). TextsFit st k) (sym quiet.statements) fit;
      asked =
          quiet.fits k.asked;
    }

denied_quiet : (exchange : Exchange) (s : Standing) → Quiet s (after_denial exchange s)
denied_quiet exchanges.Login s = record { statements = refl; fits = λ asked. tt }
denied_quiet exchange s = record { statements = refl; fits = λ asked. tt }

accepted_quiet : (exchange : Exchange) (s : Standing) → Quiet s (after_acceptance exchange s)
accepted_quiet exchanges.Login s =
    either (Quiet s) (is_compressed s.capabilities) _ _
    (λ is. record { statements = refl; fits = λ asked. tt })
    (λ is. record { statements = refl; fits = λ asked. tt })
accepted_quiet exchange s = record { statements = refl; fits = λ asked. tt }

authentication_quiet : (exchange : Exchange) (s : Standing) (said : AuthenticationSaid) →
    Quiet s (after_authentication exchange s said)
authentication_quiet exchange s (Accepted ok) = accepted_quiet exchange s
authentication_quiet exchange s (Denied error) = denied_quiet exchange s
authentication_quiet exchange s (AuthMore bytes) =
    either (Quiet s) (is_fast s.plugin bytes) _ _
    (λ is. record { statements = refl; fits = λ asked. tt })
    (λ is. record { statements = refl; fits = λ asked. tt })
authentication_quiet exchange s (AuthSwitch p) = record { statements = refl; fits = λ asked. tt }
authentication_quiet exchange s OldAuthSwitch = record { statements = refl; fits = λ asked. tt }
authentication_quiet exchange s (NextFactor p) = record { statements = refl; fits = λ asked. tt }
authentication_quiet exchange s (PluginData bytes) = record { statements = refl; fits = λ asked. tt }

greeting_quiet : (s : Standing) (said : GreetingSaid) → Quiet s (after_greeting s said)
greeting_quiet s (Rejected error) = record { statements = refl; fits = λ asked. tt }
greeting_quiet s (Greeted p) = record { statements = refl; fits = λ asked. tt }

response_quiet : (s : Standing) (said : ResponseSaid) → Quiet s (after_response s said)
response_quiet s (SecureRequest request) = record { statements = refl; fits = λ asked. tt }
response_quiet s (LoggedIn login) = record { statements = refl; fits = λ asked. tt }

-- ---- the table

module _ (s : Standing) (k : Known) (fit : TextsFit s.statements k) (own : IsOrdered s.statements) where
  abbrev Becomes : Event → Standing → Type 0
  Becomes e mid = Knows mid (behind e k)

  becomes : (e f : Event) (mid after : Standing) → e ≡ f → mid ≡ after → Becomes f after → Becomes e mid
  becomes e f mid after a b h = subst (λ (x : Event). Becomes x mid) (sym a) (subst (Becomes f) (sym b) h)

  turn_knows : (side : Side) (r : InReply) (payload : List ℕ) (e : Event) (mid : Standing) →
      AboutFits r.about k.asked → by_turn side r s payload ≡ Ok (e, mid) → Becomes e mid
  turn_knows Client r payload e mid asked h =
      let x = says_is (λ so_far. events.FileData payload)
      (λ so_far. in_phase (phases.Reply (record r { so_far = so_far })) s)
      (of_reply (file_data_at r.so_far r.so_far.awaited payload)) e mid h in
      becomes e (events.FileData payload) mid
      (in_phase (phases.Reply (record r { so_far = x.0 })) s) x.1 x.2
      (record { texts = fit; asked = asked })
  turn_knows Server r payload e mid asked h =
      let x = says_is (λ (x : ReplySaid × ReplySoFar). events.Replied x.0)
      (λ x. after_event r (counted payload) x.0 x.1 s)
      (of_reply (event_at (context_of s r) r.so_far payload)) e mid h in
      becomes e (events.Replied x.0.0) mid (after_event r (counted payload) x.0.0 x.0.1 s) x.1 x.2
      (reply_knows s k r (counted payload) x.0.0 x.0.1 fit asked)

  phase_knows : (phase : Phase) (payload : List ℕ) (e : Event) (mid : Standing) →
      AskedFits phase k.asked → in_turn phase s payload ≡ Ok (e, mid) → Becomes e mid
  phase_knows phases.Greeting payload e mid asked h =
      let x = says_is events.Greeting (after_greeting s) (of_login (greeting_at payload)) e mid h in
      becomes e (events.Greeting x.0) mid (after_greeting s x.0) x.1 x.2
      (quiet_knows s (after_greeting s x.0) k (greeting_quiet s x.0) fit)
  phase_knows phases.Response payload e mid asked h =
      let x = says_is events.Response (after_response s)
      (of_login (response_at s.offered.protocol.0 payload)) e mid h in
      becomes e (events.Response x.0) mid (after_response s x.0) x.1 x.2
      (quiet_knows s (after_response s x.0) k (response_quiet s x.0) fit)
  phase_knows (phases.Authentication exchange) payload e mid asked h =
      let read = of_login (authentication_at s.capabilities.protocol.0 payload) in
      let x = says_is events.Authentication (after_authentication exchange s) read e mid
      (not_anew (greets_anew exchange payload)
      (says events.Authentication (after_authentication exchange s) read) e mid h) in
      becomes e (events.Authentication x.0) mid (after_authentication exchange s x.0) x.1 x.2
      (quiet_knows s (after_authentication exchange s x.0) k
      (authentication_quiet exchange s x.0) fit)
  phase_knows (phases.Answer exchange) payload e mid asked h =
      let same = said_is (events.Answer payload) e (in_phase (phases.Authentication exchange) s) mid h in
      becomes e (events.Answer payload) mid (in_phase (phases.Authentication exchange) s)
      (sym same.0) (sym same.1) (record { texts = fit; asked = tt })
  phase_knows phases.Command payload e mid asked h =
      let c = command_at s.capabilities (parameters_in_question s.statements payload) payload in
      let same = said_is (events.Asked c) e (after_command s payload c) mid h in
      becomes e (events.Asked c) mid (after_command s payload c) (sym same.0) (sym same.1)
      (command_knows s k fit own payload)
  phase_knows (phases.Reply r) payload e mid asked h =
      turn_knows (turn_in_reply r.so_far.awaited) r payload e mid asked h
  phase_knows (phases.Over reason) payload e mid asked h = absurd cc

-- what a payload says shows what it leaves
pub step_knows : (s mid : Standing) (payload : List ℕ) (e : Event) (k : Known) →
    IsOrdered s.statements → step s payload ≡ Ok (e, mid) → Knows s k → Knows mid (behind e k)
step_knows s mid payload e k own h knows =
    phase_knows s k knows.texts own s.phase payload e mid knows.asked (step_said s payload e mid h)
