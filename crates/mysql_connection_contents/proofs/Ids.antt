-- Each statement keeps an id of its own, whatever is said.
use Rattle.std.proofs.Common.{◌≡◌, ℕ, Bool, true, false, List, [], ◌∷◌, Option, Some, None, Result, Ok, Err, refl, sym}
use Rattle.std.proofs.Common.{ap, subst}
use Rattle.std.specs.Prelude.{◌==◌, ◌||◌, if◌then◌else◌}
use Rattle.mysql_authentication.specs.Events.{Authentication as AuthenticationSaid, Greeting as GreetingSaid}
use Rattle.mysql_authentication.specs.Events.{Response as ResponseSaid}
use Rattle.mysql_authentication.specs.Events.Authentication.{Accepted, AuthMore, AuthSwitch, Denied, NextFactor}
use Rattle.mysql_authentication.specs.Events.Authentication.{OldAuthSwitch, PluginData}
use Rattle.mysql_authentication.specs.Events.Greeting.{Greeted, Rejected}
use Rattle.mysql_authentication.specs.Events.Response.{LoggedIn, SecureRequest}
use Rattle.mysql_authentication.specs.Readings.{authentication_at, greeting_at, response_at}
use Rattle.mysql_commands.specs.Commands as commands
use Rattle.mysql_commands.specs.Commands.{Command, command_at}
use Rattle.mysql_connection_rules.specs.declared.exchange.Exchange.{Exchange}
use Rattle.mysql_connection_rules.specs.declared.exchange.Exchange.TheVariants as exchanges
use Rattle.mysql_connection_rules.specs.declared.fault.Fault.{Fault}
use Rattle.mysql_connection_rules.specs.declared.fault.Fault.TheVariants as faults
use Rattle.mysql_connection_rules.specs.declared.side.Side.{Side}
use Rattle.mysql_connection_rules.specs.declared.side.Side.TheVariants.{Client, Server}
use Rattle.mysql_connection_rules.specs.Events.{Event}
use Rattle.mysql_connection_rules.specs.Events as events
use Rattle.mysql_connection_rules.specs.Standing.{About, InReply, Phase, Standing}
use Rattle.mysql_connection_rules.specs.Standing.About.{Executing, OfStatement, Preparing, Resetting}
use Rattle.mysql_connection_rules.specs.Standing as phases
use Rattle.mysql_connection_rules.specs.StepLaws.{step_said}
use Rattle.mysql_connection_rules.specs.Steps.{Step, after_authentication, after_command, after_data, after_denial}
use Rattle.mysql_connection_rules.specs.Steps.{after_event, after_greeting, after_response, behind_reply, by_number}
use Rattle.mysql_connection_rules.specs.Steps.{by_turn, changed_by, changing, closing}
use Rattle.mysql_connection_rules.specs.Steps.{after_acceptance, context_of, execution_by_id, execution_of, greets_anew}
use Rattle.mysql_connection_rules.specs.Steps.{id_in_question, in_phase, in_turn, is_compressed, is_fast}
use Rattle.mysql_connection_rules.specs.Steps.{is_unagreed_bulk, is_whole, of_login, of_reply, parameters_in_question}
use Rattle.mysql_connection_rules.specs.Steps.{reply_after, says}
use Rattle.mysql_connection_rules.specs.Steps.{statement_in_question, step, turn_in_reply, with_columns}
use Rattle.mysql_connection_rules.specs.Steps.{with_statements}
use Rattle.mysql_connection_statements.proofs.Entries.{none_ascend}
use Rattle.mysql_connection_statements.specs.Statements.{Statement, Statements, counted, having_columns, is_reset}
use Rattle.mysql_connection_statements.specs.Statements.{no_statements, taken_back, with_long_data}
use Rattle.mysql_reply_events.specs.Events.{Event as ReplySaid, ReplySoFar}
use Rattle.mysql_reply_events.specs.Events.Event.{ErrorEvent, OkEvent, PreparedEvent}
use Rattle.mysql_reply_events.specs.Table.{event_at, file_data_at}
use Rattle.mysql_connection_contents.specs.Contents.{is_logged_in}
use Rattle.mysql_connection_contents.proofs.Commands.{either}
use Rattle.mysql_connection_contents.proofs.Statements.{OwnIds, changed_ids, closed_ids, put_ids}

abbrev pair : Event → Standing → Event × Standing
pair e s = (e, s)

abbrev said_so : Event → Standing → Step
said_so e s = Ok (pair e s)

pub said_is : (e f : Event) (s t : Standing) → said_so e s ≡ said_so f t → (e ≡ f) × (s ≡ t)
said_is e f s t h = let same : pair e s ≡ pair f t = cc in
    (ap (λ (p : Event × Standing). p.0) same, ap (λ (p : Event × Standing). p.1) same)

-- what a payload said that was read
pub says_is : {X : Type 0} (event : X → Event) (after : X → Standing) (read : Result X Fault)
    (e : Event) (mid : Standing) → says event after read ≡ Ok (e, mid) → (x : X) × (e ≡ event x) ×
    (mid ≡ after x)
says_is event after (Ok x) e mid h = let same = said_is (event x) e (after x) mid h in (x, sym same.0, sym same.1)
says_is event after (Err fault) e mid h = absurd cc

pub not_anew : (anew : Bool) (step : Step) (e : Event) (mid : Standing) →
    (if anew then Err faults.BadGreeting else step) ≡ Ok (e, mid) → step ≡ Ok (e, mid)
not_anew true step e mid h = absurd cc
not_anew false step e mid h = h

abbrev Own : Standing → Type 0
Own s = OwnIds s.statements

-- ---- commands

pub no_ids : OwnIds no_statements
no_ids = none_ascend

module _ (s : Standing) (own : Own s) where
  known_ids : (number : ℕ) (body : List ℕ) (q : Option ℕ) (found : Option Statement) →
      Own (execution_by_id number body q found s)
  known_ids number body (Some id) (Some st) = put_ids s.statements id _ own
  known_ids number body None found = own
  known_ids number body (Some id) None = own

  execution_ids : (number : ℕ) (body : List ℕ) (q : Option ℕ) (found : Option Statement) →
      Own (execution_of number body q found s)
  execution_ids number body q found =
      either Own (is_unagreed_bulk s.capabilities number) _ _ (λ is. own)
      (λ is. known_ids number body q found)

  changing_ids : (change : Statement → Statement) (q : Option ℕ) → Own (changing change q s)
  changing_ids change None = own
  changing_ids change (Some id) = changed_ids s.statements id change own

  data_ids : (q : Option ℕ) (payload : List ℕ) (command : Command) → Own (after_data q payload command s)
  data_ids q payload (commands.LongData number place bytes) =
      changing_ids (with_long_data place bytes (counted payload)) q
  data_ids q payload command = own

  closing_ids : (q : Option ℕ) → Own (closing q s)
  closing_ids None = own
  closing_ids (Some id) = closed_ids s.statements id own

  number_ids : (number : ℕ) (body : List ℕ) (q : Option ℕ) (at : Option Statement)
      (payload : List ℕ) (command : Command) → Own (by_number number body q at payload command s)
  number_ids number body q at payload command =
      either Own (number == 0x01) _ _ (λ is. own) (λ is.
      either Own (number == 0x11) _ _ (λ is. no_ids) (λ is.
      either Own (number == 0x16) _ _ (λ is. own) (λ is.
      either Own ((number == 0x17) || (number == 0xfa)) _ _ (λ is. execution_ids number body q at) (λ is.
      either Own (number == 0x18) _ _ (λ is. data_ids q payload command) (λ is.
      either Own (number == 0x19) _ _ (λ is. closing_ids q) (λ is.
      either Own (number == 0x1a) _ _ (λ is. changing_ids is_reset q) (λ is.
      either Own (number == 0x1c) _ _ (λ is. own) (λ is. own))))))))

  command_ids : (payload : List ℕ) (command : Command) → Own (after_command s payload command)
  command_ids [] command = own
  command_ids (number ∷ body) command =
      number_ids number body (id_in_question s.statements (number ∷ body))
      (statement_in_question s.statements (number ∷ body)) (number ∷ body) command

-- ---- replies

event_ids : (s : Statements) (about : About) (more : ℕ) (said : ReplySaid) → OwnIds s →
    OwnIds (changed_by about more said s)
event_ids s (Preparing text size) more (PreparedEvent ok follow) own = put_ids s ok.statement_id _ own
event_ids s (Executing pending) more (ErrorEvent error) own =
    changed_ids s pending.id (taken_back error.error_code pending) own
event_ids s Resetting more (OkEvent ok) own = no_ids
event_ids s about more said own = own

columns_ids : (s : Statements) (r : InReply) (about : About) → OwnIds s → OwnIds (with_columns r about s)
columns_ids s r (OfStatement id) own = changed_ids s id (having_columns r.so_far.columns r.coming) own
columns_ids s r about own = own

reply_ids : (s : Standing) (r : InReply) (size : ℕ) (said : ReplySaid) (so_far : ReplySoFar) →
    Own s → Own (after_event r size said so_far s)
reply_ids s r size said so_far own =
    let now = reply_after r size said so_far in
    let changed_so = with_statements (changed_by r.about size said s.statements) s in
    let there = event_ids s.statements r.about size said own in
    either Own (is_whole now.so_far.awaited)
    (behind_reply now.about said
    (with_statements (with_columns now now.about changed_so.statements) changed_so))
    (in_phase (phases.Reply now) changed_so)
    (λ whole. columns_ids changed_so.statements now now.about there) (λ more. there)

-- ---- logging in

-- behind an authentication's payload all statements stand, and the same capabilities are in force
pub record Stays (s mid : Standing) : Type 0 where
  pub statements : mid.statements ≡ s.statements
  pub capabilities : mid.capabilities ≡ s.capabilities
  pub logged_in : is_logged_in mid.phase ≡ true

denied_stays : (exchange : Exchange) (s : Standing) → Stays s (after_denial exchange s)
denied_stays exchanges.Login s = record { statements = refl; capabilities = refl; logged_in = refl }
denied_stays exchange s = record { statements = refl; capabilities = refl; logged_in = refl }

accepted_stays : (exchange : Exchange) (s : Standing) → Stays s (after_acceptance exchange s)
accepted_stays exchanges.Login s =
    either (Stays s) (is_compressed s.capabilities) _ _
    (λ is. record { statements = refl; capabilities = refl; logged_in = refl })
    (λ is. record { statements = refl; capabilities = refl; logged_in = refl })
accepted_stays exchange s = record { statements = refl; capabilities = refl; logged_in = refl }

pub authentication_stays : (exchange : Exchange) (s : Standing) (said : AuthenticationSaid) →
    Stays s (after_authentication exchange s said)
authentication_stays exchange s (Accepted ok) = accepted_stays exchange s
authentication_stays exchange s (Denied error) = denied_stays exchange s
authentication_stays exchange s (AuthMore bytes) =
    either (Stays s) (is_fast s.plugin bytes) _ _
    (λ is. record { statements = refl; capabilities = refl; logged_in = refl })
    (λ is. record { statements = refl; capabilities = refl; logged_in = refl })
authentication_stays exchange s (AuthSwitch p) = record { statements = refl; capabilities = refl; logged_in = refl }
authentication_stays exchange s OldAuthSwitch = record { statements = refl; capabilities = refl; logged_in = refl }
authentication_stays exchange s (NextFactor p) = record { statements = refl; capabilities = refl; logged_in = refl }
authentication_stays exchange s (PluginData bytes) = record { statements = refl; capabilities = refl; logged_in = refl }

greeting_ids : (s : Standing) (said : GreetingSaid) → Own s → Own (after_greeting s said)
greeting_ids s (Rejected error) own = own
greeting_ids s (Greeted p) own = own

response_ids : (s : Standing) (said : ResponseSaid) → Own s → Own (after_response s said)
response_ids s (SecureRequest request) own = own
response_ids s (LoggedIn login) own = own

-- ---- the table

turn_ids : (side : Side) (r : InReply) (s : Standing) (payload : List ℕ) (e : Event)
    (mid : Standing) → Own s → by_turn side r s payload ≡ Ok (e, mid) → Own mid
turn_ids Client r s payload e mid own h =
    let x = says_is (λ so_far. events.FileData payload)
    (λ so_far. in_phase (phases.Reply (record r { so_far = so_far })) s)
    (of_reply (file_data_at r.so_far r.so_far.awaited payload)) e mid h in
    subst Own (sym x.2) own
turn_ids Server r s payload e mid own h =
    let x = says_is (λ (x : ReplySaid × ReplySoFar). events.Replied x.0)
    (λ x. after_event r (counted payload) x.0 x.1 s)
    (of_reply (event_at (context_of s r) r.so_far payload)) e mid h in
    subst Own (sym x.2) (reply_ids s r (counted payload) x.0.0 x.0.1 own)

phase_ids : (phase : Phase) (s : Standing) (payload : List ℕ) (e : Event) (mid : Standing) → Own s →
    in_turn phase s payload ≡ Ok (e, mid) → Own mid
phase_ids phases.Greeting s payload e mid own h =
    let x = says_is events.Greeting (after_greeting s) (of_login (greeting_at payload)) e mid h in
    subst Own (sym x.2) (greeting_ids s x.0 own)
phase_ids phases.Response s payload e mid own h =
    let x = says_is events.Response (after_response s) (of_login (response_at s.offered.protocol.0 payload)) e mid h in
    subst Own (sym x.2) (response_ids s x.0 own)
phase_ids (phases.Authentication exchange) s payload e mid own h =
    let read = of_login (authentication_at s.capabilities.protocol.0 payload) in
    let x = says_is events.Authentication (after_authentication exchange s) read e mid
    (not_anew (greets_anew exchange payload)
    (says events.Authentication (after_authentication exchange s) read) e mid h) in
    subst Own (sym x.2) (subst OwnIds (sym (authentication_stays exchange s x.0).statements) own)
phase_ids (phases.Answer exchange) s payload e mid own h =
    subst Own (said_is (events.Answer payload) e (in_phase (phases.Authentication exchange) s) mid
    h).1 own
phase_ids phases.Command s payload e mid own h =
    let command = command_at s.capabilities (parameters_in_question s.statements payload) payload in
    let x = says_is events.Asked (after_command s payload) (Ok command) e mid h in
    subst Own (sym x.2) (command_ids s own payload x.0)
phase_ids (phases.Reply r) s payload e mid own h = turn_ids (turn_in_reply r.so_far.awaited) r s payload e mid own h
phase_ids (phases.Over reason) s payload e mid own h = absurd cc

pub step_ids : (s : Standing) (payload : List ℕ) (e : Event) (mid : Standing) →
    OwnIds s.statements → step s payload ≡ Ok (e, mid) → OwnIds mid.statements
step_ids s payload e mid own h =
    phase_ids s.phase s payload e mid own (step_said s payload e mid h)
