-- What payloads say of a statement's executions is what their events show.
use Rattle.std.proofs.Common.{◌≡◌, ◌⊎◌, inl, inr, ℕ, ◌-◌, Bool, true, false, List, [], ◌∷◌, ◌++◌, Option, Some, None}
use Rattle.std.proofs.Common.{Ok, map, refl, sym, ap, subst, ◌∙◌}
use Rattle.std.specs.Prelude.{◌==◌, ◌&&◌, ◌||◌, if◌then◌else◌, not, nat_le, nat_lt, length}
use Rattle.std.specs.List.{AllByRecursion, filter, flat_map}
use Rattle.std.specs.Option.{option_and_then, option_map}
use Rattle.mysql_const.specs.FlagSets.{contains}
use Rattle.mysql_commands.specs.Commands.{BulkExecute, Command, Execute, Query, by_statement, command_at, or_other}
use Rattle.mysql_commands.specs.Replies.{id_at, statement_of}
use Rattle.mysql_connection_contents.proofs.Commands.{same_id}
use Rattle.mysql_connection_contents.proofs.Ids.{not_anew, said_is, says_is, step_ids}
use Rattle.mysql_connection_contents.proofs.Knowing.{Knows}
use Rattle.mysql_connection_contents.proofs.Numbered.{mute_command}
use Rattle.mysql_connection_contents.proofs.Runs.{heard_spoken}
use Rattle.mysql_connection_contents.proofs.Telling.{step_knows}
use Rattle.mysql_connection_contents.proofs.Texts.{first_fits}
use Rattle.mysql_connection_contents.specs.Contents.{Spoke, Spoken, events_of, is_about, is_due, is_id, sets_about}
use Rattle.mysql_connection_contents.specs.Contents.{sets_said}
use Rattle.mysql_connection_contents.specs.Shown.{ExecutionsAreShown, IsShownQuery, Known, QueriesAreShown, behind}
use Rattle.mysql_connection_contents.specs.Shown.{executed_by, executed_from, executes, known_from, named}
use Rattle.mysql_connection_contents.specs.Shown.{nothing_known}
use Rattle.mysql_connection_recoding.specs.Agreement.{is_about_parameters, sets_of}
use Rattle.mysql_connection_rules.specs.Events.{Event}
use Rattle.mysql_connection_rules.specs.Events as events
use Rattle.mysql_connection_rules.specs.Standing.{InReply, Phase, Standing}
use Rattle.mysql_connection_rules.specs.Standing as phases
use Rattle.mysql_connection_rules.specs.StepLaws.{step_said}
use Rattle.mysql_connection_rules.specs.Steps.{after_authentication, after_command, after_event, after_greeting}
use Rattle.mysql_connection_rules.specs.Steps.{after_response, by_turn, context_of, greets_anew, id_in_question}
use Rattle.mysql_connection_rules.specs.Steps.{in_phase, in_turn, of_login, of_reply, parameters_in_question, says}
use Rattle.mysql_connection_rules.specs.Steps.{step, turn_in_reply}
use Rattle.mysql_connection_rules.specs.Streams.{numbered, start}
use Rattle.mysql_connection_rules.specs.declared.side.Side.{Side}
use Rattle.mysql_connection_rules.specs.declared.side.Side.TheVariants.{Client, Server}
use Rattle.mysql_authentication.specs.Readings.{authentication_at, greeting_at, response_at}
use Rattle.mysql_connection_statements.specs.Statements.{IsOrdered, Statements, counted, last_prepared, resolved}
use Rattle.mysql_const.specs.declared.capabilities.Capabilities.{Capabilities}
use Rattle.mysql_executions.specs.Attributes.{query_attributes_at}
use Rattle.mysql_executions.specs.Bulks.{BulkExecution, BulkHead, are_bulk_flags, bulk_execution_at, bulk_head, rows_at}
use Rattle.mysql_executions.specs.Bulks.{send_types_to_server}
use Rattle.mysql_executions.specs.Executions.{Execution, ExecutionHead, attributes_at, binding_at, count_at}
use Rattle.mysql_executions.specs.Executions.{execution_at, execution_head, parameters_at, readable_head}
use Rattle.mysql_executions.specs.Fields.{◌>>=◌, must, number_at}
use Rattle.mysql_executions.specs.InForce.{InForce, is_waiting, types_that_count}
use Rattle.mysql_executions.specs.Types.{has_bulk_operations, has_query_attributes, own_types_at, types_at}
use Rattle.mysql_executions.specs.declared.types.Attribute.{Attribute}
use Rattle.mysql_reply_events.specs.Events.{Event as ReplySaid, ReplySoFar}
use Rattle.mysql_reply_events.specs.Table.{event_at, file_data_at}
use Rattle.mysql_values.specs.Content.{Content}

-- ---- an execution names the statement whose id it begins with

some_bind : {X Y : Type 0} (o : Option X) (f : X → Option Y) (y : Y) → (o >>= f) ≡ Some y →
    (x : X) × (o ≡ Some x) × (f x ≡ Some y)
some_bind None f y h = absurd cc
some_bind (Some x) f y h = (x, refl, h)

abbrev Begins : List ℕ → ℕ → Type 0
Begins body id = (y : ℕ × List ℕ) × (number_at 4 body ≡ Some y) × (y.0 ≡ id)

abbrev head_id : Option ExecutionHead → ℕ
head_id None = 0
head_id (Some head) = head.statement

abbrev execution_id : Option Execution → ℕ
execution_id None = 0
execution_id (Some e) = e.statement

abbrev bulk_head_id : Option BulkHead → ℕ
bulk_head_id None = 0
bulk_head_id (Some head) = head.statement

abbrev bulk_id : Option BulkExecution → ℕ
bulk_id None = 0
bulk_id (Some e) = e.statement

head_begins : (c : Capabilities) (n : ℕ) (body : List ℕ) (head : ExecutionHead) →
    execution_head c n body ≡ Some head → Begins body head.statement
unfolding execution_head
head_begins c n body head h =
    let a = some_bind (number_at 4 body) _ head h in
    let b = some_bind (number_at 1 a.0.1) _ head a.2 in
    let d = some_bind (number_at 4 b.0.1) _ head b.2 in
    let f = some_bind (count_at c b.0.0 n d.0.1) _ head d.2 in
    let g = some_bind (must (nat_le n f.0.0)) _ head f.2 in
    let q = some_bind (binding_at f.0.0 f.0.1) _ head g.2 in
    (a.0, a.1, ap head_id q.2)

readable_begins : (c : Capabilities) (s : InForce) (body : List ℕ) (head : ExecutionHead) →
    readable_head c s body ≡ Some head → Begins body head.statement
unfolding readable_head
readable_begins c s body head h =
    let m = some_bind (must (not s.broken)) _ head h in
    let e = some_bind (execution_head c s.count body) _ head m.2 in
    let n = some_bind (must (e.0.binding.bound || (e.0.count == s.count))) _ head e.2 in
    let its = head_begins c s.count body e.0 e.1 in (its.0, its.1, its.2 ∙ ap head_id n.2)

execution_begins : (c : Capabilities) (s : InForce) (body : List ℕ) (x : Execution) →
    execution_at c s body ≡ Some x → Begins body x.statement
unfolding execution_at
execution_begins c s body x h =
    let a = some_bind (readable_head c s body) _ x h in
    let own = some_bind (own_types_at a.0.binding.bound (has_query_attributes c) s.count a.0.binding.rest) _ x a.2 in
    let types = some_bind (types_that_count s own.0.0) _ x own.2 in
    let further = some_bind (types_at (has_query_attributes c) (a.0.count - s.count) own.0.1) _ x types.2 in
    let parameters = some_bind (parameters_at s.long_data a.0.binding.nulls types.0 further.0.1) _ x further.2 in
    let attributes = some_bind (attributes_at a.0.binding.nulls s.count further.0.0 parameters.0.1) _ x parameters.2 in
    let its = readable_begins c s body a.0 a.1 in (its.0, its.1, its.2 ∙ ap execution_id attributes.2)

bulk_head_begins : (body : List ℕ) (head : BulkHead) → bulk_head body ≡ Some head → Begins body head.statement
unfolding bulk_head
bulk_head_begins body head h =
    let a = some_bind (number_at 4 body) _ head h in
    let b = some_bind (number_at 2 a.0.1) _ head a.2 in
    (a.0, a.1, ap bulk_head_id b.2)

bulk_begins : (c : Capabilities) (s : InForce) (body : List ℕ) (x : BulkExecution) →
    bulk_execution_at c s body ≡ Some x → Begins body x.statement
unfolding bulk_execution_at
bulk_begins c s body x h =
    let a = some_bind (must (has_bulk_operations c)) _ x h in
    let b = some_bind (must (not s.broken)) _ x a.2 in
    let d = some_bind (must (not (is_waiting s))) _ x b.2 in
    let f = some_bind (must (nat_lt 0 s.count)) _ x d.2 in
    let head = some_bind (bulk_head body) _ x f.2 in
    let flags = some_bind (must (are_bulk_flags head.0.flags)) _ x head.2 in
    let own = some_bind (own_types_at (contains head.0.flags send_types_to_server) false s.count
    head.0.rest) _ x flags.2 in
    let types = some_bind (types_that_count s own.0.0) _ x own.2 in
    let some_rows = some_bind (must (nat_lt 0 (length (rows_at (length own.0.1) types.0 own.0.1).0))) _ x types.2 in
    let its = bulk_head_begins body head.0 head.1 in (its.0, its.1, its.2 ∙ ap bulk_id some_rows.2)

-- ---- so does its command, or it has no sets

abbrev Names : List ℕ → Command → Type 0
Names body command = (executes command ≡ id_at body) ⊎ (sets_of command ≡ [])

named_so : (body : List ℕ) (id : ℕ) → Begins body id → Some id ≡ id_at body
named_so body id begins = sym (ap (option_map (λ (x : ℕ × List ℕ). x.0)) begins.1 ∙ ap (λ (n : ℕ). Some n) begins.2)

execution_names : (c : Capabilities) (p : Option InForce) (body : List ℕ) →
    Names body (or_other (0x17 ∷ body) (by_statement Execute (execution_at c) p body))
execution_names c None body = inr refl
execution_names c (Some p) body = by_read (execution_at c p body) refl
  where
    by_read : (o : Option Execution) → execution_at c p body ≡ o →
        Names body (or_other (0x17 ∷ body) (option_map Execute o))
    by_read None e = inr refl
    by_read (Some x) e = inl (named_so body x.statement (execution_begins c p body x e))

bulk_names : (c : Capabilities) (p : Option InForce) (body : List ℕ) →
    Names body (or_other (0xfa ∷ body) (by_statement BulkExecute (bulk_execution_at c) p body))
bulk_names c None body = inr refl
bulk_names c (Some p) body = by_read (bulk_execution_at c p body) refl
  where
    by_read : (o : Option BulkExecution) → bulk_execution_at c p body ≡ o →
        Names body (or_other (0xfa ∷ body) (option_map BulkExecute o))
    by_read None e = inr refl
    by_read (Some x) e = inl (named_so body x.statement (bulk_begins c p body x e))

-- ---- a command

abbrev Sets : Type 0
Sets = List (List (Option Content))

abbrev IsShown : ℕ → Statements → Known → List ℕ → Command → Type 0
IsShown id st k payload c =
    (if is_about_parameters payload &&
    is_id (id_in_question st payload) id then sets_of c else []) ≡
    (if is_id (named k (executes c)) id then sets_of c else [])

quiet_command : (c : Command) → executes c ≡ None → sets_of c ≡ []
quiet_command (Execute e) none = absurd cc
quiet_command (BulkExecute e) none = absurd cc
quiet_command c none = refl

none_either : (a b : Bool) (sets : Sets) → sets ≡ [] → (if a then sets else []) ≡ (if b then sets else [])
none_either true true sets e = refl
none_either true false sets e = e
none_either false true sets e = sym e
none_either false false sets e = refl

named_is : (st : Statements) (k : Known) (o : Option ℕ) → st.last ≡ k.last → named k o ≡ option_and_then (resolved st) o
named_is st k None fit = refl
named_is st k (Some id) fit = ap (λ (l : Option ℕ). if id == last_prepared then l else Some id) (sym fit)

names_shown : (id : ℕ) (st : Statements) (k : Known) (payload : List ℕ) (c : Command) → st.last ≡
    k.last → is_about_parameters payload ≡ true → (executes c ≡ statement_of payload) ⊎
    (sets_of c ≡ []) → IsShown id st k payload c
names_shown id st k payload c fit about (inl names) =
    ap (λ (b : Bool). if b && is_id (id_in_question st payload) id then sets_of c else []) about
    ∙ sym (ap (λ (q : Option ℕ). if is_id q id then sets_of c else []) (ap (named k) names ∙
    named_is st k (statement_of payload) fit))
names_shown id st k payload c fit about (inr none) =
    none_either (is_about_parameters payload && is_id (id_in_question st payload) id)
    (is_id (named k (executes c)) id) (sets_of c) none

number_shown : (id : ℕ) (st : Statements) (k : Known) (c : Capabilities) (p : Option InForce)
    (number : ℕ) (body : List ℕ) (a b : Bool) → (number == 0x17) ≡ a → (number == 0xfa) ≡ b →
    st.last ≡ k.last
    → IsShown id st k (number ∷ body) (command_at c p (number ∷ body))
number_shown id st k c p number body true b x y fit =
    subst (λ (n : ℕ). IsShown id st k (n ∷ body) (command_at c p (n ∷ body)))
    (sym (same_id number 0x17 x))
    (names_shown id st k (0x17 ∷ body) (command_at c p (0x17 ∷ body)) fit refl
    (execution_names c p body))
number_shown id st k c p number body false true x y fit =
    subst (λ (n : ℕ). IsShown id st k (n ∷ body) (command_at c p (n ∷ body)))
    (sym (same_id number 0xfa y))
    (names_shown id st k (0xfa ∷ body) (command_at c p (0xfa ∷ body)) fit refl
    (bulk_names c p body))
number_shown id st k c p number body false false x y fit =
    let command = command_at c p (number ∷ body) in
    none_either (is_about_parameters (number ∷ body) &&
    is_id (id_in_question st (number ∷ body)) id) (is_id (named k (executes command)) id)
    (sets_of command) (quiet_command command (mute_command c p number body (λ i. x i || y i)))

command_shown : (id : ℕ) (st : Statements) (k : Known) (c : Capabilities) (p : Option InForce)
    (payload : List ℕ) → st.last ≡ k.last → IsShown id st k payload (command_at c p payload)
command_shown id st k c p [] fit = refl
command_shown id st k c p (number ∷ body) fit =
    number_shown id st k c p number body (number == 0x17) (number == 0xfa) refl refl fit

-- ---- a payload

abbrev SaidShown : ℕ → Phase → Standing → Known → List ℕ → Event → Type 0
SaidShown id phase s k payload e =
    (if is_due phase && (is_about_parameters payload &&
    is_id (id_in_question s.statements payload) id) then sets_said e else []) ≡
    executed_by id k e

turn_shown : (id : ℕ) (side : Side) (r : InReply) (s : Standing) (k : Known) (payload : List ℕ)
    (e : Event) (mid : Standing) → by_turn side r s payload ≡ Ok (e, mid) →
    SaidShown id (phases.Reply r) s k payload e
turn_shown id Client r s k payload e mid h =
    let x = says_is (λ so_far. events.FileData payload)
    (λ so_far. in_phase (phases.Reply (record r { so_far = so_far })) s)
    (of_reply (file_data_at r.so_far r.so_far.awaited payload)) e mid h in
    subst (SaidShown id (phases.Reply r) s k payload) (sym x.1) refl
turn_shown id Server r s k payload e mid h =
    let x = says_is (λ (x : ReplySaid × ReplySoFar). events.Replied x.0)
    (λ x. after_event r (counted payload) x.0 x.1 s)
    (of_reply (event_at (context_of s r) r.so_far payload)) e mid h in
    subst (SaidShown id (phases.Reply r) s k payload) (sym x.1) refl

phase_shown : (id : ℕ) (phase : Phase) (s : Standing) (k : Known) (payload : List ℕ) (e : Event)
    (mid : Standing) → s.statements.last ≡ k.last → in_turn phase s payload ≡ Ok (e, mid) →
    SaidShown id phase s k payload e
phase_shown id phases.Greeting s k payload e mid fit h =
    let x = says_is events.Greeting (after_greeting s) (of_login (greeting_at payload)) e mid h in
    subst (SaidShown id phases.Greeting s k payload) (sym x.1) refl
phase_shown id phases.Response s k payload e mid fit h =
    let x = says_is events.Response (after_response s)
    (of_login (response_at s.offered.protocol.0 payload)) e mid h in
    subst (SaidShown id phases.Response s k payload) (sym x.1) refl
phase_shown id (phases.Authentication exchange) s k payload e mid fit h =
    let read = of_login (authentication_at s.capabilities.protocol.0 payload) in
    let x = says_is events.Authentication (after_authentication exchange s) read e mid
    (not_anew (greets_anew exchange payload)
    (says events.Authentication (after_authentication exchange s) read) e mid h) in
    subst (SaidShown id (phases.Authentication exchange) s k payload) (sym x.1) refl
phase_shown id (phases.Answer exchange) s k payload e mid fit h =
    let same = said_is (events.Answer payload) e (in_phase (phases.Authentication exchange) s) mid
    h in subst (SaidShown id (phases.Answer exchange) s k payload) same.0 refl
phase_shown id phases.Command s k payload e mid fit h =
    let p = parameters_in_question s.statements payload in
    let c = command_at s.capabilities p payload in
    let same = said_is (events.Asked c) e (after_command s payload c) mid h in
    subst (SaidShown id phases.Command s k payload) same.0
    (command_shown id s.statements k s.capabilities p payload fit)
phase_shown id (phases.Reply r) s k payload e mid fit h =
    turn_shown id (turn_in_reply r.so_far.awaited) r s k payload e mid h
phase_shown id (phases.Over reason) s k payload e mid fit h = absurd cc

-- ---- payloads, one after another

taken_if : (b : Bool) (x : Spoken) (xs : List Spoken) →
    flat_map (λ (sets : Sets). sets)
    (map (λ (y : Spoken). sets_said y.event) (if b then x ∷ xs else xs))
    ≡ (if b then sets_said x.event else []) ++
    flat_map (λ (sets : Sets). sets) (map (λ (y : Spoken). sets_said y.event) xs)
taken_if true x xs = refl
taken_if false x xs = refl

spoken_shown : (id : ℕ) (xs : List Spoken) (s last : Standing) (k : Known) →
    IsOrdered s.statements → Knows s k → Spoke s xs last →
    flat_map (λ (sets : Sets). sets) (sets_about id xs) ≡ executed_from id k (events_of xs)
spoken_shown id [] s last k own knows spoke = refl
spoken_shown id (x ∷ xs) s last k own knows spoke =
    let mid = spoke.1.0 in
    let said = step_said s x.payload x.event mid spoke.1.1 in
    let now = phase_shown id s.phase s k x.payload x.event mid knows.texts.1 said in
    let here : (if is_about id x then sets_said x.event else []) ≡ executed_by id k x.event =
    ap (λ (t : Standing). if is_due t.phase &&
    (is_about_parameters x.payload && is_id (id_in_question t.statements x.payload) id) then
    sets_said x.event else []) spoke.0 ∙ now in
    let next = step_knows s mid x.payload x.event k own spoke.1.1 knows in
    let later = spoken_shown id xs (numbered x.side x.number mid) last (behind x.event k)
    (step_ids s x.payload x.event mid own spoke.1.1)
    (record { texts = next.texts; asked = next.asked }) spoke.1.2 in
    taken_if (is_about id x) x (filter (is_about id) xs)
    ∙ ap (λ (l : Sets). l ++ flat_map (λ (sets : Sets). sets) (sets_about id xs)) here
    ∙ ap (λ (l : Sets). executed_by id k x.event ++ l) later

-- what stands behind the first of them
record Later (xs : List Spoken) (s last : Standing) (k : Known) (ys : List Spoken) : Type 0 where
  mid : Standing
  own : IsOrdered mid.statements
  knows : Knows mid (known_from k (events_of xs))
  spoke : Spoke mid ys last

parted : (xs ys : List Spoken) (s last : Standing) (k : Known) → IsOrdered s.statements →
    Knows s k → Spoke s (xs ++ ys) last → Later xs s last k ys
parted [] ys s last k own knows spoke = record { mid = s; own = own; knows = knows; spoke = spoke }
parted (x ∷ xs) ys s last k own knows spoke =
    let mid = spoke.1.0 in
    let next = step_knows s mid x.payload x.event k own spoke.1.1 knows in
    let later = parted xs ys (numbered x.side x.number mid) last (behind x.event k)
    (step_ids s x.payload x.event mid own spoke.1.1)
    (record { texts = next.texts; asked = next.asked }) spoke.1.2 in
    record { mid = later.mid; own = later.own; knows = later.knows; spoke = later.spoke }

-- a front of them
front_spoke : (xs ys : List Spoken) (s last : Standing) → Spoke s (xs ++ ys) last → (mid : Standing) × Spoke s xs mid
front_spoke [] ys s last spoke = (s, refl)
front_spoke (x ∷ xs) ys s last spoke =
    let later = front_spoke xs ys (numbered x.side x.number spoke.1.0) last spoke.1.2 in
    (later.0, (spoke.0, (spoke.1.0, spoke.1.1, later.1)))

pub executions_are_shown : ExecutionsAreShown
executions_are_shown begun streams events held begins heard before xs rest id parts =
    let first = first_fits begun (start begun streams) begins refl in
    let spoke = subst (λ (l : List Spoken). Spoke begun.first l heard.last.standing) parts
    (heard_spoken heard.payloads (start begun streams) heard.last heard.heard) in
    let later = parted before (xs ++ rest) begun.first heard.last.standing nothing_known first.own first.knows spoke in
    let front = front_spoke xs rest later.mid heard.last.standing later.spoke in
    spoken_shown id xs later.mid front.0 (known_from nothing_known (events_of before)) later.own later.knows front.1

-- ---- queries

query_shown : (phase : Phase) (s : Standing) (text : List ℕ) (e : Event) (mid : Standing) →
    is_due phase ≡ true → has_query_attributes s.capabilities ≡ false →
    in_turn phase s (0x03 ∷ text) ≡ Ok (e, mid) → e ≡ events.Asked (Query [] text)
query_shown phases.Command s text e mid due none h =
    let c = command_at s.capabilities (parameters_in_question s.statements (0x03 ∷ text)) (0x03 ∷ text) in
    let same = said_is (events.Asked c) e (after_command s (0x03 ∷ text) c) mid h in
    sym same.0 ∙ ap (λ (b : Bool). events.Asked
    (or_other (0x03 ∷ text) (if b then option_map
    (λ (query : List Attribute × List ℕ). Query query.0 query.1) (query_attributes_at text) else
    Some (Query [] text)))) none
query_shown phases.Greeting s text e mid due none h = absurd cc
query_shown phases.Response s text e mid due none h = absurd cc
query_shown (phases.Authentication exchange) s text e mid due none h = absurd cc
query_shown (phases.Answer exchange) s text e mid due none h = absurd cc
query_shown (phases.Reply r) s text e mid due none h = absurd cc
query_shown (phases.Over reason) s text e mid due none h = absurd cc

spoken_queries : (xs : List Spoken) (s last : Standing) → Spoke s xs last → AllByRecursion IsShownQuery xs
spoken_queries [] s last spoke = tt
spoken_queries (x ∷ xs) s last spoke = (
  λ text is due none. let said =
      step_said x.standing (0x03 ∷ text) x.event spoke.1.0 (ap (step x.standing) (sym is) ∙
      ap (λ (t : Standing). step t x.payload) spoke.0 ∙ spoke.1.1) in
      query_shown x.standing.phase x.standing text x.event spoke.1.0 due none said,
  spoken_queries xs (numbered x.side x.number spoke.1.0) last spoke.1.2,
)

pub queries_are_shown : QueriesAreShown
queries_are_shown begun streams events held heard =
    spoken_queries heard.payloads begun.first heard.last.standing
    (heard_spoken heard.payloads (start begun streams) heard.last heard.heard)
