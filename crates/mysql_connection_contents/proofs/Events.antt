-- Events that are taken and put are what payloads say.
use Rattle.std.proofs.Common.{◌≡◌, ℕ, List, [], ◌∷◌, ◌++◌, ◌⊎◌, inl, inr, Ok, refl, sym, subst}
use Rattle.mysql_connection_rules.specs.Puts.{MayBePut, put_on}
use Rattle.mysql_connection_contents.specs.Contents.{Heard, RunsAreHeard, Spoken, events_of}
use Rattle.mysql_connection_rules.specs.Events.{Event}
use Rattle.mysql_connection_rules.specs.Events as events
use Rattle.mysql_connection_rules.specs.Events.Event.{Farewell}
use Rattle.mysql_connection_rules.specs.Standing.{Standing}
use Rattle.mysql_connection_rules.specs.Steps.{step}
use Rattle.mysql_connection_rules.specs.Streams.{Says, World, next}
use Rattle.mysql_server_packets.specs.Packets.{ServerError}
use Rattle.mysql_connection_contents.specs.Records.{IsLastWords, PutEventsAreSpoken, PutsSpoken, TakenEventsAreSpoken}
use Rattle.mysql_connection_contents.specs.Records.{TakesSpoken, spoken_by}

-- ---- taken

abbrev IsSpoken : World → Event → World → Type 0
IsSpoken old event new = ((x : Spoken) × (x.event ≡ event) × TakesSpoken old x new) ⊎ IsLastWords event

one_heard : (old new : World) (event : Event) (xs : List Spoken) → next old ≡ Says event new →
    Heard old xs new → event ∷ [] ≡ events_of xs → IsSpoken old event new
one_heard old new event [] is heard same = absurd cc
one_heard old new event (x ∷ []) is heard same =
    let its : x.event ≡ event = (let both : event ≡ x.event = cc in sym both) in
    inl (x, its, record { takes = subst (λ e. next old ≡ Says e new) (sym its) is; heard = heard })
one_heard old new event (x ∷ y ∷ xs) is heard same = absurd cc

last_heard : (event : Event) (xs : List Spoken) (error : ServerError) → event ∷ [] ≡ events_of xs ++
    Farewell error ∷ [] → IsLastWords event
last_heard event [] error same = (let its : event ≡ Farewell error = cc in (error, its))
last_heard event (x ∷ []) error same = absurd cc
last_heard event (x ∷ y ∷ xs) error same = absurd cc

pub taken_events_are_spoken : RunsAreHeard → TakenEventsAreSpoken
taken_events_are_spoken hears old new event is =
    let run = hears old new (event ∷ []) (new, is, refl) in
    elim run.3 [
      | inl h ↦ one_heard old new event run.0 is (subst (Heard old run.0) h.1 run.2) h.0
      | inr h ↦ inr (last_heard event run.0 h.0 h.1)
    ]

-- ---- put

abbrev IsPut : World → Event → List ℕ → Standing → Type 0
IsPut old event payload after =
    PutsSpoken old (spoken_by old event payload) (put_on old event payload after) ⊎
    IsLastWords event

said : (old : World) (event : Event) (payload : List ℕ) (after : Standing) →
    MayBePut old event payload after → step old.standing payload ≡ Ok (event, after) →
    IsPut old event payload after
said old event payload after may says =
    inl (record {
      after = after;
      standing = refl;
      its_own = refl;
      number = refl;
      says = says;
      may =
          may;
      goes = refl;
    })

pub put_events_are_spoken : PutEventsAreSpoken
put_events_are_spoken old (events.Greeting x) payload after may =
    said old (events.Greeting x) payload after may may.says
put_events_are_spoken old (events.Response x) payload after may =
    said old (events.Response x) payload after may may.says
put_events_are_spoken old (events.Authentication x) payload after may =
    said old (events.Authentication x) payload after may may.says
put_events_are_spoken old (events.Answer bytes) payload after may =
    said old (events.Answer bytes) payload after may may.says
put_events_are_spoken old (events.Asked command) payload after may =
    said old (events.Asked command) payload after may may.says
put_events_are_spoken old (events.Replied x) payload after may = said old (events.Replied x) payload after may may.says
put_events_are_spoken old (events.FileData bytes) payload after may =
    said old (events.FileData bytes) payload after may may.says
put_events_are_spoken old (Farewell error) payload after may = inr (error, refl)
