-- What the payload that is due says, by what callers are told of the phase.
use Rattle.std.proofs.Common.{◌≡◌, ℕ, Bool, true, false, List, Some, Result, Ok, Err, refl, sym, ap, subst, ◌∙◌, length}
use Rattle.std.specs.Prelude.{◌==◌, if◌then◌else◌}
use Rattle.mysql_authentication.specs.Readings.{authentication_at, early_error_at, greeting_at, response_at}
use Rattle.mysql_commands.specs.Commands.{command_at}
use Rattle.mysql_connection_rules.specs.declared.exchange.Exchange.{Exchange}
use Rattle.mysql_connection_rules.specs.declared.fault.Fault.{Fault}
use Rattle.mysql_connection_rules.specs.declared.fault.Fault.TheVariants as faults
use Rattle.mysql_connection_rules.specs.declared.reason.Reason.{Reason}
use Rattle.mysql_connection_rules.specs.declared.reason.Reason.TheVariants as reasons
use Rattle.mysql_connection_rules.specs.declared.side.Side.TheVariants.{Client, Server}
use Rattle.mysql_connection_rules.specs.Events.{Event}
use Rattle.mysql_connection_rules.specs.Events as events
use Rattle.mysql_connection_rules.specs.Standing.{InReply, Phase, Standing}
use Rattle.mysql_connection_rules.specs.Standing as phases
use Rattle.mysql_connection_rules.specs.Steps.{Step, after_authentication, after_event, after_greeting, after_response}
use Rattle.mysql_connection_rules.specs.Steps.{authentication_step, by_turn}
use Rattle.mysql_connection_rules.specs.Steps.{context_of, greets_anew, in_phase, in_turn, of_login, of_reply, over}
use Rattle.mysql_connection_rules.specs.Steps.{parameters_in_question, says, step, turn_in_reply}
use Rattle.mysql_connection_rules.specs.Streams.{begins_error}
use Rattle.mysql_connection_state.specs.Follows.{ReadsReply, exchange_due}
use Rattle.mysql_connection_state.specs.Reads.{Gives}
use Rattle.mysql_connection_state.specs.Views.{event_view, plain_phase}
use Rattle.mysql_connection_state.specs.declared.event.Event.{Event as HeldEvent}
use Rattle.mysql_connection_state.specs.declared.phase.Phase.TheVariants as plain
use Rattle.mysql_connection_statements.specs.Statements.{counted}
use Rattle.mysql_reply_events.specs.Events.{Awaited, ReplySoFar}
use Rattle.mysql_reply_events.specs.Events as awaiting
use Rattle.mysql_reply_events.specs.Reader.{ReaderState}
use Rattle.mysql_reply_events.specs.Table.{event_at, file_data_at}
use Rattle.mysql_reply_events.specs.Views.{turn_of}
use Rattle.mysql_reply_events.specs.declared.context.Context.{Context}
use Rattle.mysql_reply_events.specs.declared.fault.ReplyFault.{ReplyFault}
use Rattle.mysql_server_packets.specs.Packets.{ServerError}
use Rattle.mysql_connection_state.specs.Peeks.{IsPlain, farewell_step, or_bad_error, said_in, said_in_exchange}
use Rattle.mysql_connection_state.specs.Peeks.{said_in_reply, saying, words_step}

-- what is said of what was read, wherever it leads
said_so : {X : Type 0} (event : X → Event) (after : X → Standing) (read : Result X Fault) →
    said_in (says event after read) ≡ saying event read
said_so event after (Ok x) = refl
said_so event after (Err fault) = refl

-- ---- where no exchange and no reply is due

at_greeting : (phase : Phase) (s : Standing) (payload : List ℕ) → IsPlain phase → plain_phase phase ≡ plain.Greeting
    → said_in (in_turn phase s payload) ≡ saying events.Greeting (of_login (greeting_at payload))
at_greeting phases.Greeting s payload h e = said_so events.Greeting (after_greeting s) (of_login (greeting_at payload))
at_greeting phases.Response s payload h e = absurd (cc e)
at_greeting (phases.Authentication exchange) s payload h e = absurd (cc e)
at_greeting (phases.Answer exchange) s payload h e = absurd (cc e)
at_greeting phases.Command s payload h e = absurd (cc e)
at_greeting (phases.Reply r) s payload h e = absurd (h.reply tt)
at_greeting (phases.Over reason) s payload h e = absurd (cc e)

at_response : (phase : Phase) (s : Standing) (payload : List ℕ) → IsPlain phase → plain_phase phase ≡ plain.Response
    → said_in (in_turn phase s payload) ≡ saying events.Response (of_login (response_at s.offered.protocol.0 payload))
at_response phases.Greeting s payload h e = absurd (cc e)
at_response phases.Response s payload h e =
    said_so events.Response (after_response s) (of_login (response_at s.offered.protocol.0 payload))
at_response (phases.Authentication exchange) s payload h e = absurd (cc e)
at_response (phases.Answer exchange) s payload h e = absurd (cc e)
at_response phases.Command s payload h e = absurd (cc e)
at_response (phases.Reply r) s payload h e = absurd (h.reply tt)
at_response (phases.Over reason) s payload h e = absurd (cc e)

at_answer : (phase : Phase) (s : Standing) (payload : List ℕ) → IsPlain phase → plain_phase phase ≡ plain.Answer
    → said_in (in_turn phase s payload) ≡ Ok (events.Answer payload)
at_answer phases.Greeting s payload h e = absurd (cc e)
at_answer phases.Response s payload h e = absurd (cc e)
at_answer (phases.Authentication exchange) s payload h e = absurd (cc e)
at_answer (phases.Answer exchange) s payload h e = refl
at_answer phases.Command s payload h e = absurd (cc e)
at_answer (phases.Reply r) s payload h e = absurd (h.reply tt)
at_answer (phases.Over reason) s payload h e = absurd (cc e)

at_command : (phase : Phase) (s : Standing) (payload : List ℕ) → IsPlain phase → plain_phase phase ≡ plain.Command
    → said_in (in_turn phase s payload) ≡
    Ok (events.Asked (command_at s.capabilities (parameters_in_question s.statements payload)
    payload))
at_command phases.Greeting s payload h e = absurd (cc e)
at_command phases.Response s payload h e = absurd (cc e)
at_command (phases.Authentication exchange) s payload h e = absurd (cc e)
at_command (phases.Answer exchange) s payload h e = absurd (cc e)
at_command phases.Command s payload h e = refl
at_command (phases.Reply r) s payload h e = absurd (h.reply tt)
at_command (phases.Over reason) s payload h e = absurd (cc e)

at_over : (phase : Phase) (s : Standing) (payload : List ℕ) (reason : Reason) → IsPlain phase →
    plain_phase phase ≡ plain.Over reason
    → said_in (in_turn phase s payload) ≡ Err faults.Unasked
at_over phases.Greeting s payload reason h e = absurd (cc e)
at_over phases.Response s payload reason h e = absurd (cc e)
at_over (phases.Authentication exchange) s payload reason h e = absurd (cc e)
at_over (phases.Answer exchange) s payload reason h e = absurd (cc e)
at_over phases.Command s payload reason h e = absurd (cc e)
at_over (phases.Reply r) s payload reason h e = absurd (h.reply tt)
at_over (phases.Over its) s payload reason h e = refl

pub greeting_said : (s : Standing) (payload : List ℕ) → IsPlain s.phase → plain_phase s.phase ≡ plain.Greeting
    → said_in (step s payload) ≡ saying events.Greeting (of_login (greeting_at payload))
unfolding step
greeting_said s payload h e = at_greeting s.phase s payload h e

pub response_said : (s : Standing) (payload : List ℕ) → IsPlain s.phase → plain_phase s.phase ≡ plain.Response
    → said_in (step s payload) ≡ saying events.Response (of_login (response_at s.offered.protocol.0 payload))
unfolding step
response_said s payload h e = at_response s.phase s payload h e

pub answer_said : (s : Standing) (payload : List ℕ) → IsPlain s.phase → plain_phase s.phase ≡ plain.Answer
    → said_in (step s payload) ≡ Ok (events.Answer payload)
unfolding step
answer_said s payload h e = at_answer s.phase s payload h e

pub command_said : (s : Standing) (payload : List ℕ) → IsPlain s.phase → plain_phase s.phase ≡ plain.Command
    → said_in (step s payload) ≡
    Ok (events.Asked (command_at s.capabilities (parameters_in_question s.statements payload)
    payload))
unfolding step
command_said s payload h e = at_command s.phase s payload h e

pub nothing_said : (s : Standing) (payload : List ℕ) (reason : Reason) → IsPlain s.phase →
    plain_phase s.phase ≡ plain.Over reason
    → said_in (step s payload) ≡ Err faults.Unasked
unfolding step
nothing_said s payload reason h e = at_over s.phase s payload reason h e

-- ---- an exchange

anew_said : (anew : Bool) (step : Step) (said : Result Event Fault) → said_in step ≡ said
    → said_in (if anew then Err faults.BadGreeting else step) ≡ (if anew then Err faults.BadGreeting else said)
anew_said true step said e = refl
anew_said false step said e = e

in_exchange : (exchange : Exchange) (s : Standing) (payload : List ℕ)
    → said_in (authentication_step exchange s payload) ≡ said_in_exchange exchange s.capabilities.protocol.0 payload
in_exchange exchange s payload =
    let read = of_login (authentication_at s.capabilities.protocol.0 payload) in
    anew_said (greets_anew exchange payload)
    (says events.Authentication (after_authentication exchange s) read)
    (saying events.Authentication read)
    (said_so events.Authentication (after_authentication exchange s) read)

at_exchange : (phase : Phase) (s : Standing) (payload : List ℕ) (exchange : Exchange) →
    exchange_due phase ≡ Some exchange
    → said_in (in_turn phase s payload) ≡ said_in_exchange exchange s.capabilities.protocol.0 payload
at_exchange phases.Greeting s payload exchange e = absurd (cc e)
at_exchange phases.Response s payload exchange e = absurd (cc e)
at_exchange (phases.Authentication its) s payload exchange e =
    let same : its ≡ exchange = cc e in
    in_exchange its s payload ∙ ap (λ (x : Exchange). said_in_exchange x s.capabilities.protocol.0 payload) same
at_exchange (phases.Answer its) s payload exchange e = absurd (cc e)
at_exchange phases.Command s payload exchange e = absurd (cc e)
at_exchange (phases.Reply r) s payload exchange e = absurd (cc e)
at_exchange (phases.Over reason) s payload exchange e = absurd (cc e)

pub exchange_said : (s : Standing) (payload : List ℕ) (exchange : Exchange) → exchange_due s.phase ≡ Some exchange
    → said_in (step s payload) ≡ said_in_exchange exchange s.capabilities.protocol.0 payload
unfolding step
exchange_said s payload exchange e = at_exchange s.phase s payload exchange e

-- ---- a reply

-- bytes of a file that is due are taken, whether they end it or not
abbrev by_end : Bool → ReplySoFar → Result ReplySoFar ReplyFault
by_end ended so_far = if ended then Ok (record so_far { awaited = awaiting.First }) else Ok so_far

abbrev file_led : InReply → Standing → List ℕ → Result ReplySoFar ReplyFault → Step
file_led r s payload read =
    says (λ so_far. events.FileData payload)
    (λ so_far. in_phase (phases.Reply (record r { so_far = so_far })) s) (of_reply read)

file_taken : (ended : Bool) (r : InReply) (s : Standing) (so_far : ReplySoFar) (payload : List ℕ)
    → said_in (file_led r s payload (by_end ended so_far)) ≡ Ok (events.FileData payload)
file_taken true r s so_far payload = refl
file_taken false r s so_far payload = refl

file_said : (r : InReply) (s : Standing) (payload : List ℕ) → r.so_far.awaited ≡ awaiting.FileData
    → said_in (by_turn Client r s payload) ≡ Ok (events.FileData payload)
file_said r s payload e =
    ap (λ (a : Awaited). said_in (file_led r s payload (file_data_at r.so_far a payload))) e
    ∙ file_taken (length payload == 0) r s r.so_far payload

-- a payload of the server says what its reader reads
abbrev part_by : Context → ReplySoFar → List ℕ → Result Event Fault
part_by context so_far payload = saying (λ x. events.Replied x.0) (of_reply (event_at context so_far payload))

part_said : (r : InReply) (s : Standing) (reader : ReaderState) (payload : List ℕ) →
    reader.context ≡ context_of s r → reader.so_far ≡ r.so_far
    → said_in (by_turn Server r s payload) ≡ part_by reader.context reader.so_far payload
part_said r s reader payload context so_far =
    said_so (λ x. events.Replied x.0) (λ x. after_event r (counted payload) x.0 x.1 s)
    (of_reply (event_at (context_of s r) r.so_far payload))
    ∙ ap (λ (c : Context). part_by c r.so_far payload) (sym context)
    ∙ ap (λ (f : ReplySoFar). part_by reader.context f payload) (sym so_far)

by_awaited : (awaited : Awaited) (r : InReply) (s : Standing) (reader : ReaderState)
    (payload : List ℕ) → r.so_far.awaited ≡ awaited
    → reader.context ≡ context_of s r → reader.so_far ≡ r.so_far
    → said_in (by_turn (turn_in_reply awaited) r s payload) ≡ said_in_reply (turn_of awaited) reader payload
by_awaited awaiting.First r s reader payload e context so_far = part_said r s reader payload context so_far
by_awaited (awaiting.Columns group n columns) r s reader payload e context so_far =
    part_said r s reader payload context so_far
by_awaited (awaiting.ColumnsEnd group known) r s reader payload e context so_far =
    part_said r s reader payload context so_far
by_awaited (awaiting.Rows known) r s reader payload e context so_far = part_said r s reader payload context so_far
by_awaited awaiting.Fields r s reader payload e context so_far = part_said r s reader payload context so_far
by_awaited awaiting.FileData r s reader payload e context so_far = file_said r s payload e
by_awaited awaiting.Nothing r s reader payload e context so_far = part_said r s reader payload context so_far

at_reply : (phase : Phase) (r : InReply) (s : Standing) (reader : ReaderState) (payload : List ℕ) →
    phase ≡ phases.Reply r
    → reader.context ≡ context_of s r → reader.so_far ≡ r.so_far
    → said_in (in_turn phase s payload) ≡ said_in_reply (turn_of reader.so_far.awaited) reader payload
at_reply phase r s reader payload e context so_far =
    ap (λ (p : Phase). said_in (in_turn p s payload)) e ∙
    by_awaited r.so_far.awaited r s reader payload refl context so_far
    ∙ ap (λ (f : ReplySoFar). said_in_reply (turn_of f.awaited) reader payload) (sym so_far)

pub reply_said : (s : Standing) (payload : List ℕ) (r : InReply) (reader : ReaderState) → ReadsReply s r reader
    → said_in (step s payload) ≡ said_in_reply (turn_of reader.so_far.awaited) reader payload
unfolding step
reply_said s payload r reader reads = at_reply s.phase r s reader payload reads.phase reads.context reads.so_far

-- ---- last words

words_given : (s : Standing) (begins : Bool) (read : Result ServerError Fault) → begins ≡ true
    → said_in (if begins then says events.Farewell (λ error. over reasons.Farewell s) read else Err
    faults.Unasked) ≡ saying events.Farewell read
words_given s true read e = said_so events.Farewell (λ error. over reasons.Farewell s) read
words_given s false read e = absurd (cc e)

pub farewell_said : (s : Standing) (payload : List ℕ) → begins_error payload ≡ true
    → said_in (words_step s payload) ≡ saying events.Farewell (or_bad_error (early_error_at payload))
farewell_said s payload e = words_given s (begins_error payload) (or_bad_error (early_error_at payload)) e

-- a fault of what was read is what is said
pub gives_fault : {X Y : Type 0} (view : X → Y) (event : Y → Event) (fault : Fault)
    (read : Result Y Fault) → Gives view (Err fault) read
    → Gives event_view (let r : Result HeldEvent Fault = Err fault in r) (saying event read)
gives_fault view event faults.Memory read h = tt
gives_fault view event fault read h = ap (saying event) h

unasked : (s : Standing) (begins : Bool) (step : Step) → begins ≡ false →
    said_in (if begins then step else Err faults.Unasked) ≡ Err faults.Unasked
unasked s true step e = absurd (cc e)
unasked s false step e = refl

pub nothing_bidden : (s : Standing) (payload : List ℕ) → begins_error payload ≡ false →
    said_in (words_step s payload) ≡ Err faults.Unasked
nothing_bidden s payload e = unasked s (begins_error payload) (farewell_step s payload) e

-- ---- what is answered

-- what a call gives of what is said, it gives of the same
pub gives_so : (said other : Result Event Fault) (result : Result HeldEvent Fault) → said ≡ other →
    Gives event_view result other
    → Gives event_view result said
gives_so said other result e gives = subst (λ (x : Result Event Fault). Gives event_view result x) (sym e) gives
