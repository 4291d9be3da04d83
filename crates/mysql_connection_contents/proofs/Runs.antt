-- A run's events are those of payloads that were read, one after another.
use Rattle.std.proofs.Common.{◌≡◌, ℕ, Bool, true, false, List, [], ◌∷◌, ◌⊎◌, inl, inr, Option, Some, None, Result, Ok}
use Rattle.std.proofs.Common.{Err, refl, sym, ap, subst, ◌∙◌}
use Rattle.std.specs.Prelude.{if◌then◌else◌, slice_index_or, nat_le}
use Rattle.mysql_authentication.specs.Readings.{early_error_at}
use Rattle.mysql_wire.specs.FirstPacket.{Found, OutOfSync, Short, TooLarge, Whole, first_packet}
use Rattle.mysql_connection_rules.specs.declared.fault.Fault.{Fault}
use Rattle.mysql_connection_rules.specs.declared.fault.Fault.TheVariants as faults
use Rattle.mysql_connection_rules.specs.declared.reason.Reason.TheVariants as reasons
use Rattle.mysql_connection_rules.specs.declared.side.Side.{Side}
use Rattle.mysql_connection_rules.specs.declared.side.Side.TheVariants.{Client, Server}
use Rattle.mysql_connection_rules.specs.Events.{Event}
use Rattle.mysql_connection_rules.specs.Events.Event.{Farewell}
use Rattle.mysql_connection_rules.specs.Laws.{LastWordsAreLast}
use Rattle.mysql_connection_rules.specs.Runs.{Runs}
use Rattle.mysql_connection_rules.specs.Standing.{Standing, kept}
use Rattle.mysql_connection_rules.specs.Steps.{over, step, turn}
use Rattle.mysql_connection_rules.specs.Streams.{Says, Waits, World, begins_error, client_by, fails, farewell}
use Rattle.mysql_connection_rules.specs.Streams.{has_number, is_early, leads_on, limit_of, moved, next, next_by}
use Rattle.mysql_connection_rules.specs.Streams.{room_to_keep, said_by, server_by, stream_of, words, words_by, words_or}
use Rattle.mysql_fields.specs.Wire.{Reading}
use Rattle.mysql_server_packets.specs.Packets.{ServerError}
use Rattle.mysql_connection_contents.specs.Contents.{Ends, Heard, HeardIsSpoken, RunsAreHeard, Spoke, Spoken}

-- last words: nothing changes but that the connection is over
abbrev pub IsFarewell : World → Event → World → Type 0
IsFarewell w event new = (error : ServerError) × (event ≡ Farewell error)
    × (number : ℕ) × (rest : List ℕ) × (moved w Server number rest (over reasons.Farewell w.standing) ≡ new)

-- an event that leads on
led : (w : World) (side : Side) (event said : Event) (made new : World) →
    leads_on w side event made ≡ Says said new → (event ≡ said) × (made ≡ new)
led w side event said made new e = by (nat_le (kept made.standing) (room_to_keep w.limits)) e
  where
    by : (fits : Bool) → (if fits then Says event made else fails w side faults.Held) ≡
        Says said new → (event ≡ said) × (made ≡ new)
    by true h = (cc, cc)
    by false h = absurd cc

-- ---- last words

farewell_says : (w : World) (number : ℕ) (rest : List ℕ) (read : Reading ServerError) (said : Event)
    (new : World) → farewell w number rest read ≡ Says said new → IsFarewell w said new
farewell_says w number rest (Ok error) said new e =
    let h = led w Server (Farewell error.0) said
    (moved w Server number rest (over reasons.Farewell w.standing)) new e in
    (error.0, sym h.0, number, rest, h.1)
farewell_says w number rest (Err fault) said new e = absurd cc

words_or_says : (w : World) (fault : Fault) (payload : List ℕ) (number : ℕ) (rest : List ℕ)
    (said : Event) (new : World) → words_or w fault payload number rest ≡ Says said new →
    IsFarewell w said new
words_or_says w fault payload number rest said new e = by (begins_error payload) e
  where
    by : (error : Bool) → (if error then farewell w number rest (early_error_at payload) else fails
        w Server fault) ≡ Says said new → IsFarewell w said new
    by true h = farewell_says w number rest (early_error_at payload) said new h
    by false h = absurd cc

words_by_say : (w : World) (found : Found) (said : Event) (new : World) → words_by w found ≡
    Says said new → IsFarewell w said new
words_by_say w Short said new e = absurd cc
words_by_say w TooLarge said new e = absurd cc
words_by_say w (OutOfSync number) said new e = absurd cc
words_by_say w (Whole payload number rest) said new e = words_or_says w faults.Unasked payload number rest said new e

words_say : (w : World) (said : Event) (new : World) → words w ≡ Says said new → IsFarewell w said new
words_say w said new e = by (has_number w.standing.number w.unread.server.bytes) e
  where
    by : (numbered : Bool) → (if numbered then words_by w
        (first_packet w.limits.server w.standing.number w.unread.server.bytes) else Waits) ≡
        Says said new → IsFarewell w said new
    by true h = words_by_say w (first_packet w.limits.server w.standing.number w.unread.server.bytes) said new h
    by false h = absurd cc

-- ---- a payload

-- the event is what a payload of this side says
pub record Payload (w : World) (side : Side) (said : Event) (new : World) : Type 0 where
  pub payload : List ℕ
  pub number : ℕ
  pub rest : List ℕ
  pub mid : Standing
  pub found : first_packet (limit_of side w.limits) w.standing.number
      (stream_of side w.unread).bytes ≡ Whole payload number rest
  pub read : step w.standing payload ≡ Ok (said, mid)
  pub leads : moved w side number rest mid ≡ new

said_says : (w : World) (side : Side) (payload : List ℕ) (number : ℕ) (rest : List ℕ)
    (read : Result (Event × Standing) Fault) (said : Event) (new : World) →
    first_packet (limit_of side w.limits) w.standing.number (stream_of side w.unread).bytes ≡
    Whole payload number rest
    → step w.standing payload ≡ read → said_by w side number rest read ≡ Says said new → Payload w side said new
said_says w side payload number rest (Ok p) said new found is e =
    let h = led w side p.0 said (moved w side number rest p.1) new e in
    record {
      payload = payload;
      number = number;
      rest = rest;
      mid = p.1;
      found = found;
      read = is ∙
          ap (λ event. Ok (event, p.1)) h.0;
      leads = h.1;
    }
said_says w side payload number rest (Err fault) said new found is e = absurd cc

abbrev pub SaidAt : World → Side → Event → World → Type 0
SaidAt w side said new = Payload w side said new ⊎ IsFarewell w said new

server_says : (w : World) (found : Found) (said : Event) (new : World) →
    first_packet w.limits.server w.standing.number w.unread.server.bytes ≡ found →
    server_by w found ≡ Says said new → Payload w Server said new
server_says w Short said new is e = absurd cc
server_says w TooLarge said new is e = absurd cc
server_says w (OutOfSync number) said new is e = absurd cc
server_says w (Whole payload number rest) said new is e =
    said_says w Server payload number rest (step w.standing payload) said new is refl e

client_says : (w : World) (found : Found) (said : Event) (new : World) →
    first_packet w.limits.client w.standing.number w.unread.client.bytes ≡ found →
    client_by w found ≡ Says said new → SaidAt w Client said new
client_says w Short said new is e = by w.unread.client.closed e
  where
    by : (closed : Bool) → (if closed then words w else Waits) ≡ Says said new → SaidAt w Client said new
    by true h = inr (words_say w said new h)
    by false h = absurd cc
client_says w TooLarge said new is e = absurd cc
client_says w (OutOfSync number) said new is e = absurd cc
client_says w (Whole payload number rest) said new is e =
    inl (said_says w Client payload number rest (step w.standing payload) said new is refl e)

of_server_says : (w : World) (bytes : List ℕ) (early : Bool) (said : Event) (new : World) → bytes ≡
    w.unread.server.bytes → (if early then words_by w
    (first_packet w.limits.server (slice_index_or bytes 3 0) bytes) else server_by w
    (first_packet w.limits.server w.standing.number bytes)) ≡ Says said new
    → SaidAt w Server said new
of_server_says w bytes true said new is e =
    inr (words_by_say w (first_packet w.limits.server (slice_index_or bytes 3 0) bytes) said new e)
of_server_says w bytes false said new is e =
    inl (server_says w (first_packet w.limits.server w.standing.number bytes) said new
    (ap (first_packet w.limits.server w.standing.number) (sym is)) e)

pub turn_says : (w : World) (due : Option Side) (said : Event) (new : World) → next_by w due ≡
    Says said new → (side : Side) × (due ≡ Some side) × SaidAt w side said new
turn_says w None said new e = absurd cc
turn_says w (Some Client) said new e = (
  Client,
  refl,
  client_says w
      (first_packet w.limits.client w.standing.number w.unread.client.bytes) said new refl e,
)
turn_says w (Some Server) said new e = (
  Server,
  refl,
  of_server_says w w.unread.server.bytes
      (is_early w.standing w.unread.server.bytes) said new refl e,
)

-- ---- a run

behind_words : LastWordsAreLast → (w mid last : World) (error : ServerError) (events : List Event) →
    next w ≡ Says (Farewell error) mid → Runs mid events last → (events ≡ []) × (mid ≡ last)
behind_words waits w mid last error [] e runs = (refl, runs)
behind_words waits w mid last error (event ∷ events) e runs =
    absurd (let none : Waits ≡ Says event runs.0 = sym (waits w mid error e) ∙ runs.1 in cc)

abbrev HeardOf : World → List Event → World → Type 0
HeardOf w events last = (xs : List Spoken) × (mid : World) × Heard w xs mid × Ends mid xs events last

one_more : (w : World) (side : Side) (event : Event) (events : List Event) (new last : World) →
    turn w.standing.phase ≡ Some side → Payload w side event new → HeardOf new events last →
    HeardOf w (event ∷ events) last
one_more w side event events new last due p later =
    let x : Spoken = record {
      side = side;
      number = p.number;
      standing = w.standing;
      payload =
          p.payload;
      event = event;
    } in (
      x ∷ later.0,
      later.1,
      (refl, (p.mid, p.rest, due, p.found, p.read, subst (λ v. Heard v later.0 later.1) (sym p.leads) later.2)),
      elim later.3 [
        | inl h ↦ inl (ap (λ es. event ∷ es) h.0, h.1)
        | inr h ↦ inr (h.0, ap (λ es. event ∷ es) h.1, h.2)
      ],
    )

run_by : LastWordsAreLast → (w last : World) (event : Event) (events : List Event) (mid : World) →
    next w ≡ Says event mid → Runs mid events last → HeardOf mid events last → (side : Side) →
    turn w.standing.phase ≡ Some side → SaidAt w side event mid
    → HeardOf w (event ∷ events) last
run_by waits w last event events mid e runs later side due (inl payload) =
    one_more w side event events mid last due payload later
run_by waits w last event events mid e runs later side due (inr words) =
    let said : next w ≡ Says (Farewell words.0) mid = e ∙ ap (λ x. Says x mid) words.1 in
    let end = behind_words waits w mid last words.0 events said runs in
    ([], w, refl, inr (words.0, (λ i. words.1 i ∷ end.0 i), said ∙ ap (Says (Farewell words.0)) end.1))

run_heard : LastWordsAreLast → (events : List Event) (w last : World) → Runs w events last → HeardOf w events last
run_heard waits [] w last runs = ([], w, refl, inl (refl, runs))
run_heard waits (event ∷ events) w last runs =
    let turned = turn_says w (turn w.standing.phase) event runs.0 runs.1 in
    run_by waits w last event events runs.0 runs.1 runs.2
    (run_heard waits events runs.0 last runs.2) turned.0 turned.1 turned.2

pub runs_are_heard : LastWordsAreLast → RunsAreHeard
runs_are_heard waits w last events runs = run_heard waits events w last runs

pub heard_spoken : (xs : List Spoken) (w last : World) → Heard w xs last → Spoke w.standing xs last.standing
heard_spoken [] w last h = ap (λ (v : World). v.standing) h
heard_spoken (x ∷ xs) w last h = (h.0, (h.1.0, h.1.4, heard_spoken xs (moved w x.side x.number h.1.1 h.1.0) last h.1.5))

pub heard_is_spoken : HeardIsSpoken
heard_is_spoken w last xs h = heard_spoken xs w last h
