-- What the table says is no last words, and its faults are others than that nothing was asked.
use Rattle.std.proofs.Common.{◌≡◌, ℕ, Bool, true, false, List, Some, Result, Ok, Err}
use Rattle.std.specs.Prelude.{if◌then◌else◌}
use Rattle.mysql_authentication.specs.Readings.{authentication_at, greeting_at, response_at}
use Rattle.mysql_authentication.specs.declared.fault.LoginFault.{LoginFault}
use Rattle.mysql_authentication.specs.declared.fault.LoginFault.TheVariants as login_faults
use Rattle.mysql_connection_statements.specs.Statements.{counted}
use Rattle.mysql_reply_events.specs.Table.{event_at, file_data_at}
use Rattle.mysql_reply_events.specs.declared.fault.ReplyFault.{ReplyFault}
use Rattle.mysql_reply_events.specs.declared.fault.ReplyFault.TheVariants as reply_faults
use Rattle.mysql_server_packets.specs.Packets.{ServerError}
use Rattle.mysql_connection_rules.specs.declared.fault.Fault.{Fault}
use Rattle.mysql_connection_rules.specs.declared.fault.Fault.TheVariants as faults
use Rattle.mysql_connection_rules.specs.declared.side.Side.{Side}
use Rattle.mysql_connection_rules.specs.declared.side.Side.TheVariants.{Client, Server}
use Rattle.mysql_connection_rules.specs.Events.{Event}
use Rattle.mysql_connection_rules.specs.Events as events
use Rattle.mysql_connection_rules.specs.Standing.{InReply, Phase, Standing}
use Rattle.mysql_connection_rules.specs.Standing as phases
use Rattle.mysql_connection_rules.specs.Steps.{Step, after_authentication, after_event, after_greeting, after_response}
use Rattle.mysql_connection_rules.specs.Steps.{by_turn, context_of}
use Rattle.mysql_connection_rules.specs.Steps.{greets_anew, in_phase, in_turn, of_login, of_reply, says, step, turn}
use Rattle.mysql_connection_rules.specs.Steps.{turn_in_reply}

abbrev pub SaidWell : Step → Type 0
SaidWell (Ok said) = (error : ServerError) → said.0 ≡ events.Farewell error → ⊥
SaidWell (Err fault) = fault ≡ faults.Unasked → ⊥

abbrev IsRead : {X : Type 0} → Result X Fault → Type 0
IsRead (Ok x) = Unit {0}
IsRead (Err fault) = fault ≡ faults.Unasked → ⊥

says_well : {X : Type 0} (event : X → Event) (after : X → Standing) →
    ((x : X) (error : ServerError) → event x ≡ events.Farewell error → ⊥)
    → (read : Result X Fault) → IsRead read → SaidWell (says event after read)
says_well event after h (Ok x) read = h x
says_well event after h (Err fault) read = read

login_read : {X : Type 0} (read : Result X LoginFault) → IsRead (of_login read)
login_read (Ok x) = tt
login_read (Err login_faults.OldProtocol) = λ e. cc e
login_read (Err login_faults.BadGreeting) = λ e. cc e
login_read (Err login_faults.BadLogin) = λ e. cc e
login_read (Err login_faults.BadSwitch) = λ e. cc e
login_read (Err login_faults.BadHeader) = λ e. cc e
login_read (Err login_faults.BadOk) = λ e. cc e
login_read (Err login_faults.BadError) = λ e. cc e
login_read (Err login_faults.Memory) = λ e. cc e

reply_read : {X : Type 0} (read : Result X ReplyFault) → IsRead (of_reply read)
reply_read (Ok x) = tt
reply_read (Err reply_faults.BadHeader) = λ e. cc e
reply_read (Err reply_faults.BadCount) = λ e. cc e
reply_read (Err reply_faults.BadColumn) = λ e. cc e
reply_read (Err reply_faults.BadOk) = λ e. cc e
reply_read (Err reply_faults.BadError) = λ e. cc e
reply_read (Err reply_faults.BadRow) = λ e. cc e
reply_read (Err reply_faults.BadTerminator) = λ e. cc e
reply_read (Err reply_faults.BadPrepare) = λ e. cc e
reply_read (Err reply_faults.NotDue) = λ e. cc e
reply_read (Err reply_faults.Memory) = λ e. cc e

anew_well : (anew : Bool) (step : Step) → SaidWell step → SaidWell (if anew then Err faults.BadGreeting else step)
anew_well true step h = λ e. cc e
anew_well false step h = h

reply_well : (side : Side) (r : InReply) (s : Standing) (payload : List ℕ) → SaidWell (by_turn side r s payload)
reply_well Client r s payload =
    says_well (λ so_far. events.FileData payload)
    (λ so_far. in_phase (phases.Reply (record r { so_far = so_far })) s) (λ x error e. cc e)
    (of_reply (file_data_at r.so_far r.so_far.awaited payload))
    (reply_read (file_data_at r.so_far r.so_far.awaited payload))
reply_well Server r s payload =
    says_well (λ x. events.Replied x.0) (λ x. after_event r (counted payload) x.0 x.1 s) (λ x error e. cc e)
    (of_reply (event_at (context_of s r) r.so_far payload)) (reply_read (event_at (context_of s r) r.so_far payload))

by_phase : (phase : Phase) (s : Standing) (payload : List ℕ) (own : Side) → turn phase ≡ Some own →
    SaidWell (in_turn phase s payload)
by_phase phases.Greeting s payload own e =
    says_well events.Greeting (after_greeting s) (λ x error e. cc e)
    (of_login (greeting_at payload)) (login_read (greeting_at payload))
by_phase phases.Response s payload own e =
    says_well events.Response (after_response s) (λ x error e. cc e)
    (of_login (response_at s.offered.protocol.0 payload))
    (login_read (response_at s.offered.protocol.0 payload))
by_phase (phases.Authentication exchange) s payload own e =
    let read = authentication_at s.capabilities.protocol.0 payload in
    anew_well (greets_anew exchange payload)
    (says events.Authentication (after_authentication exchange s) (of_login read))
    (says_well events.Authentication (after_authentication exchange s) (λ x error e. cc e)
    (of_login read) (login_read read))
by_phase (phases.Answer exchange) s payload own e = λ error e. cc e
by_phase phases.Command s payload own e = λ error e. cc e
by_phase (phases.Reply r) s payload own e = reply_well (turn_in_reply r.so_far.awaited) r s payload
by_phase (phases.Over reason) s payload own e = absurd (cc e)

pub step_well : (s : Standing) (payload : List ℕ) (own : Side) → turn s.phase ≡ Some own → SaidWell (step s payload)
unfolding step
step_well s payload own e = by_phase s.phase s payload own e
