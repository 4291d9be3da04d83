-- What a client puts by `put_execution` is executed with the contents of its values.
use Rattle.std.proofs.Common.{◌≡◌, ◌<◌, ◌^◌, ℕ, Bool, true, false, List, [], ◌∷◌, ◌++◌, Option, Some, None, Result, Ok}
use Rattle.std.proofs.Common.{Err, map, pos, refl, sym, ap, subst, ◌∙◌, append_assoc, append-nil, arith}
use Rattle.std.specs.Prelude.{not, ◌==◌, ◌||◌, if◌then◌else◌, nat_lt}
use Rattle.std.specs.List.{list_all}
use Rattle.std.proofs.lemmas.Bool.Decides.{nat_tests}
use Rattle.std.proofs.lemmas.Grind.{flat_map-append}
use Rattle.std.proofs.lemmas.List.{map-append}
use Rattle.mysql_cells.specs.declared.value.Value.{Value}
use Rattle.mysql_cells.specs.declared.value.Value.TheVariants.{Bytes, Date, Double, Float, Int, NULL, Time, UInt}
use Rattle.mysql_command_writer.specs.Refusals.{can_execute}
use Rattle.mysql_commands.specs.Commands.{Execute}
use Rattle.mysql_connection_contents.proofs.Histories.{both_true}
use Rattle.mysql_connection_contents.proofs.Commands.{same_id}
use Rattle.mysql_connection_contents.specs.Calls.{Call, Calls, Close, DoesBy, Done, Feed, NextEvent, NextEventLent, Put}
use Rattle.mysql_connection_contents.specs.Calls.{PutExecution, PutPackets, PutPayload, PutRow, events_in, where_ok}
use Rattle.mysql_connection_contents.specs.Contents.{is_id}
use Rattle.mysql_connection_contents.specs.PutValues.{PutValuesAreExecuted, ShowsValues, executes_values, names}
use Rattle.mysql_connection_contents.specs.PutValues.{values_in, values_put}
use Rattle.mysql_connection_contents.specs.Shown.{Known, behind, executed_by, executed_from, executes, known_from}
use Rattle.mysql_connection_contents.specs.Shown.{named, nothing_known}
use Rattle.mysql_connection_machine.specs.Machines.{Machine}
use Rattle.mysql_connection_machine.specs.declared.put_refusal.PutRefusal.{PutRefusal}
use Rattle.mysql_connection_rules.specs.Events.{Event}
use Rattle.mysql_connection_rules.specs.Events as events
use Rattle.mysql_connection_rules.specs.Runs.{IsFront}
use Rattle.mysql_connection_rules.specs.Standing.{Standing}
use Rattle.mysql_connection_statements.specs.Statements.{last_prepared}
use Rattle.mysql_connection_writer.specs.Commands.{parameters_of}
use Rattle.mysql_connection_writer.specs.Executions.{bound_to, execution_said}
use Rattle.mysql_execution_writer.specs.Cells.{as_read}
use Rattle.mysql_execution_writer.specs.InForce.{without_types}
use Rattle.mysql_executions.specs.Executions.{Execution}
use Rattle.mysql_values.specs.Content.{Content}
use Rattle.mysql_values.specs.Values.{content_of}

abbrev Sets : Type 0
Sets = List (List (Option Content))

-- ---- a value means what it is read as

unsigned_means : (small : Bool) (n : ℕ) → content_of (if small then Int (pos n) else UInt n) ≡ content_of (UInt n)
unsigned_means true n = refl
unsigned_means false n = refl

value_means : (value : Value) → content_of (as_read value) ≡ content_of value
value_means NULL = refl
value_means (Bytes bytes) = refl
value_means (Int z) = refl
value_means (UInt n) = unsigned_means (nat_lt n (2 ^ 63)) n
value_means (Float bits) = refl
value_means (Double bits) = refl
value_means (Date year month day hour minute second micros) = refl
value_means (Time negative days hours minutes seconds micros) = refl

values_mean : (values : List Value) → map content_of (map as_read values) ≡ map content_of values
values_mean [] = refl
values_mean (value ∷ values) = λ i. value_means value i ∷ values_mean values i

-- ---- an execution of values

said_by : (fits : Bool) (e typed : Execution) (id : ℕ) (k : Known) → e.statement ≡ typed.statement →
    e.parameters ≡ typed.parameters →
    executed_by id k (events.Asked (Execute (if fits then e else typed))) ≡ executed_by id k (events.Asked (Execute e))
said_by true e typed id k s p = refl
said_by false e typed id k s p = λ i. if is_id (named k (Some (sym s i))) id then map content_of (sym p i) ∷ [] else []

is_own : (id : ℕ) (k : Known) (test : Bool) → (id == last_prepared) ≡ test → id < last_prepared →
    is_id (if test then k.last else Some id) id ≡ true
is_own id k true is small = absurd (grind (arith, nat_tests))
is_own id k false is small = grind (arith, nat_tests)

values_said : (id : ℕ) (k : Known) (s : Standing) (values : List Value) → id < last_prepared →
    executed_by id k (execution_said s id values) ≡ map content_of values ∷ []
values_said id k s values small =
    let p = parameters_of s.statements (Some id) in
    let e = without_types id (map as_read values) in
    said_by (can_execute s.capabilities p e) e (record e { types = Some (map bound_to values) }) id k refl refl
    ∙ ap (λ (b : Bool). if b then map content_of (map as_read values) ∷
    [] else []) (is_own id k (id == last_prepared) refl small)
    ∙ ap (λ (l : List (Option Content)). l ∷ []) (values_mean values)

-- ---- no execution of it

none_named : (id : ℕ) (k : Known) (q : Option ℕ) (sets : Sets) →
    not (is_id q id || is_id q last_prepared) ≡ true → (if is_id (named k q) id then sets else []) ≡
    []
none_named id k None sets h = refl
none_named id k (Some own) sets h = by_tests (own == id) (own == last_prepared) refl refl h
  where
    by_tests : (a b : Bool) → (own == id) ≡ a → (own == last_prepared) ≡ b →
        not ((own == id) || (own == last_prepared)) ≡ true →
        (if is_id (if own == last_prepared then k.last else Some own) id then sets else []) ≡ []
    by_tests true b x y h = absurd (let no : false ≡ true =
        sym (ap (λ (t : Bool). not (t || (own == last_prepared))) x) ∙ h in cc)
    by_tests false true x y h = absurd (let no : false ≡ true = sym (λ i. not (x i || y i)) ∙ h in cc)
    by_tests false false x y h =
        ap (λ (t : Bool). if is_id (if t then k.last else Some own) id then sets else []) y ∙
        ap (λ (t : Bool). if t then sets else []) x

none_by : (id : ℕ) (k : Known) (event : Event) → not (names id event) ≡ true → executed_by id k event ≡ []
none_by id k (events.Asked command) h = none_named id k (executes command) _ h
none_by id k event h = refl

none_executed : (id : ℕ) (k : Known) (ev : List Event) →
    list_all (λ event. not (names id event)) ev ≡ true → executed_from id k ev ≡ []
none_executed id k [] h = refl
none_executed id k (event ∷ ev) h =
    let both = both_true (not (names id event)) (list_all (λ event. not (names id event)) ev) h in
    λ i. none_by id k event both.0 i ++ none_executed id (behind event k) ev both.1 i

-- ---- a call

executed-append : (id : ℕ) (k : Known) (xs ys : List Event) → executed_from id k (xs ++ ys) ≡
    executed_from id k xs ++ executed_from id (known_from k xs) ys
executed-append id k [] ys = refl
executed-append id k (x ∷ xs) ys =
    ap (λ (l : Sets). executed_by id k x ++ l) (executed-append id (behind x k) xs ys)
    ∙ sym (append_assoc (executed_by id k x) (executed_from id (behind x k) xs)
    (executed_from id (known_from (behind x k) xs) ys))

abbrev Executed : ℕ → Known → Call → List Event → Type 0
Executed id k call ev = executed_from id k ev ≡ map (map content_of) (values_put id call)

execution_executed : (id : ℕ) (k : Known) (s : Standing) (own : ℕ) (values : List Value)
    (answer : Result (Unit {0}) PutRefusal) → id < last_prepared → (own == id) ≡ true
    → executed_from id k (where_ok answer (λ done. execution_said s own values)) ≡
    map (map content_of) (values_put id (PutExecution own values answer))
execution_executed id k s own values (Ok done) small is =
    let same = same_id own id is in
    append-nil (executed_by id k (execution_said s own values))
    ∙ ap (λ (n : ℕ). executed_by id k (execution_said s n values)) same
    ∙ values_said id k s values small
    ∙ sym (ap (λ (b : Bool). map (map content_of) (if b then values ∷ [] else [])) is)
execution_executed id k s own values (Err refusal) small is = refl

put_executed : (id : ℕ) (k : Known) (s : Standing) (own : ℕ) (values : List Value)
    (answer : Result (Unit {0}) PutRefusal) (took put : List Event) (test : Bool) →
    id < last_prepared → (own == id) ≡ test → took ≡ []
    → put ≡ where_ok answer (λ done. execution_said s own values) →
    (test || list_all (λ event. not (names id event)) (took ++ put)) ≡ true →
    Executed id k (PutExecution own values answer) (took ++ put)
put_executed id k s own values answer took put true small is a b h =
    ap (executed_from id k) (λ i. a i ++ b i) ∙ execution_executed id k s own values answer small is
put_executed id k s own values (Ok done) took put false small is a b h =
    none_executed id k (took ++ put) h ∙
    sym (ap (λ (b : Bool). map (map content_of) (if b then values ∷ [] else [])) is)
put_executed id k s own values (Err refusal) took put false small is a b h = none_executed id k (took ++ put) h

call_executed : (id : ℕ) (k : Known) (old new : Machine) (call : Call) (before behind : List ℕ)
    (took put : List Event) → id < last_prepared → DoesBy old call before new behind took put
    → executes_values id (record { call = call; appended = []; took = took; put = put }) ≡ true →
    Executed id k call (took ++ put)
call_executed id k old new (PutExecution own values answer) before behind took put small d h =
    put_executed id k old.world.standing own values answer took put (own == id) small refl d.1 d.2 h
call_executed id k old new (Feed side piece answer) before behind took put small d h =
    none_executed id k (took ++ put) h
call_executed id k old new (Close side) before behind took put small d h = none_executed id k (took ++ put) h
call_executed id k old new (NextEvent answer) before behind took put small d h = none_executed id k (took ++ put) h
call_executed id k old new (NextEventLent answer) before behind took put small d h = none_executed id k (took ++ put) h
call_executed id k old new (Put event answer) before behind took put small d h = none_executed id k (took ++ put) h
call_executed id k old new (PutRow row answer) before behind took put small d h = none_executed id k (took ++ put) h
call_executed id k old new (PutPayload side payload answer) before behind took put small d h =
    none_executed id k (took ++ put) h
call_executed id k old new (PutPackets side packets answer) before behind took put small d h =
    none_executed id k (took ++ put) h

-- ---- one call after another

calls_executed : (id : ℕ) (k : Known) (old new : Machine) (calls : List Done) → id < last_prepared →
    Calls old calls new → list_all (executes_values id) calls ≡ true
    → executed_from id k (events_in calls) ≡ map (map content_of) (values_in id calls)
calls_executed id k old new [] small did h = refl
calls_executed id k old new (done ∷ calls) small did h =
    let both = both_true (executes_values id done) (list_all (executes_values id) calls) h in
    let ev = done.took ++ done.put in
    executed-append id k ev (events_in calls)
    ∙ (λ i. call_executed id k old did.0 done.call did.1.before (did.1.before ++
    done.appended) done.took done.put small did.1.does both.0 i
    ++ calls_executed id (known_from k ev) did.0 new calls small did.2 both.1 i)
    ∙ sym (map-append (map content_of) (values_put id done.call) (values_in id calls))

pub put_values_are_executed : PutValuesAreExecuted
put_values_are_executed old new calls before id did small h =
    calls_executed id (known_from nothing_known before) old new calls small did h

-- ---- in the list

calls_split : (xs ys : List Done) (old new : Machine) → Calls old (xs ++ ys) new → (mid : Machine) ×
    Calls old xs mid × Calls mid ys new
calls_split [] ys old new did = (old, refl, did)
calls_split (x ∷ xs) ys old new did =
    (let rest = calls_split xs ys did.0 new did.2 in (rest.0, (did.0, did.1, rest.1), rest.2))

events-append : (xs ys : List Done) → events_in (xs ++ ys) ≡ events_in xs ++ events_in ys
events-append xs ys = flat_map-append (λ (done : Done). done.took ++ done.put) xs ys

fronted : (before span rest : List Done) (ev : List Event) →
    IsFront (events_in (before ++ (span ++ rest))) ev →
    IsFront (events_in before ++ events_in span) ev
fronted before span rest ev front = (
  events_in rest ++ front.0,
  sym (append_assoc (events_in before ++ events_in span) (events_in rest) front.0)
      ∙ ap (λ (l : List Event). l ++ front.0) (append_assoc (events_in before) (events_in span) (events_in rest)
      ∙ ap (λ (l : List Event). events_in before ++ l) (sym (events-append span rest)) ∙
      sym (events-append before (span ++ rest)))
      ∙ front.1,
)

pub values_shown : (first last : Machine) (calls : List Done) (ev : List Event) →
    Calls first calls last → IsFront (events_in calls) ev → ShowsValues calls ev
values_shown first last calls ev did front before span rest id is small h =
    let later = calls_split before (span ++ rest) first last (subst (λ (l : List Done). Calls first l last) is did) in
    let now = calls_split span rest later.0 last later.2 in (
      fronted before span rest ev (subst (λ (l : List Done). IsFront (events_in l) ev) is front),
      put_values_are_executed later.0 now.0 span (events_in before) id now.1 small h,
    )
