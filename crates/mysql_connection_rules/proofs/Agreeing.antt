-- A client, a server and an auditor agree.
use Rattle.std.proofs.Common.{◌≡◌, ℕ, ◌+◌, ◌<◌, zero, suc, Bool, true, false, List, [], ◌∷◌, ◌++◌, refl, sym, ap, subst}
use Rattle.std.proofs.Common.{◌∙◌, append_assoc, arith}
use Rattle.std.specs.List.{filter}
use Rattle.std.proofs.lemmas.List.{append-nil}
use Rattle.std.proofs.lemmas.List.Elements.{filter-append}
use Rattle.mysql_connection_rules.specs.declared.side.Side.{Side}
use Rattle.mysql_connection_rules.specs.declared.side.Side.TheVariants.{Client, Server}
use Rattle.mysql_connection_rules.specs.Events.{Event}
use Rattle.mysql_connection_rules.specs.Laws.{EventsTakeBytes, FrontsReadOn, PiecesAreTheRun, PositionsStay, RunExists}
use Rattle.mysql_connection_rules.specs.Laws.{unread_length}
use Rattle.mysql_connection_rules.specs.Machines.{Had, fresh, comes, takes}
use Rattle.mysql_connection_rules.specs.Runs.{Runs, IsLast, IsRun, HasCome, HasComeOf}
use Rattle.mysql_connection_rules.specs.Streams.{Beginning, Stream, Streams, Coming, Piece, End, World, come, grow}
use Rattle.mysql_connection_rules.specs.Streams.{next, no_bytes, stream_of, with_stream}
use Rattle.mysql_connection_rules.specs.PuttingMachines.{HadAs, fresh_as, comes_as, ends_as, takes_as, puts_as}
use Rattle.mysql_connection_rules.specs.PuttingMachines.{HadOrPut, Puts}
use Rattle.mysql_connection_rules.specs.PuttingMachines.HadOrPut.{fresh as fresh_too, comes as comes_too}
use Rattle.mysql_connection_rules.specs.PuttingMachines.HadOrPut.{takes as takes_too, puts as puts_too}
use Rattle.mysql_connection_rules.specs.Puts.{is_of, same_side}
use Rattle.mysql_connection_rules.specs.AgreementLaws.{AgreesOn, Member, PutsAreTheRun, ThreeAgree, sent_by}
use Rattle.mysql_connection_rules.proofs.Quiet.{filter_in, filter_out, next_quiet, runs_quiet}
use Rattle.mysql_connection_rules.proofs.Running.{HasRun, run_by, still_open}

pub record RunLaws : Type 0 where
  pub exists : RunExists
  pub pieces : PiecesAreTheRun
  pub fronts : FrontsReadOn
  pub positions : PositionsStay
  pub take : EventsTakeBytes

-- ---- a put is bytes that came and an event that was taken

put_had : (begun : Beginning) (streams : Streams) (events : List Event) (old new : World)
    (event : Event) (side : Side) (bytes : List ℕ) → Had begun streams events old
    → Puts old event side bytes new → Had begun (grow side (Piece bytes) streams) (events ++ event ∷ []) new
put_had begun streams events old new event side bytes had put =
    takes {old = come side (Piece bytes) old} (comes {old = old} side (Piece bytes) had put.is_open refl) put.read

pub had_too : (begun : Beginning) (streams : Streams) (events : List Event) (held : World) →
    HadOrPut begun streams events held → Had begun streams events held
had_too begun streams events held fresh_too = fresh
had_too begun streams events held
    (comes_too {streams = before} {old = old} side coming had is_open e) =
    comes side coming (had_too begun before events old had) is_open e
had_too begun streams events held (takes_too {events = front} {old = old} had e) =
    takes (had_too begun streams front old had) e
had_too begun streams events held
    (puts_too {streams = before} {events = front} {old = old} {event = event} side bytes had e) =
    put_had begun before front old held event side bytes (had_too begun before front old had) e

pub puts_are_the_run : PiecesAreTheRun → PutsAreTheRun
puts_are_the_run pieces begun streams taken left events now last end had more stop run =
    pieces begun streams taken left events now last end (had_too begun streams taken now had) more stop run

had_of : (own other : Side) (begun : Beginning) (put : List Event) (streams : Streams)
    (events : List Event) (held : World) → HadAs own other begun put streams events held →
    Had begun streams events held
had_of own other begun put streams events held fresh_as = fresh
had_of own other begun put streams events held
    (comes_as {streams = before} {old = old} coming had is_open e) =
    comes other coming (had_of own other begun put before events old had) is_open e
had_of own other begun put streams events held
    (ends_as {streams = before} {old = old} had is_open e) =
    comes own End (had_of own other begun put before events old had) is_open e
had_of own other begun put streams events held (takes_as {events = front} {old = old} had e) =
    takes (had_of own other begun put streams front old had) e
had_of own other begun put streams events held
    (puts_as {put = earlier} {streams = before} {events = front} {old = old} {event =
    event} bytes had e) =
    put_had begun before front old held event own bytes (had_of own other begun earlier before front old had) e

-- ---- from any world there is a run

run_within : EventsTakeBytes → (n : ℕ) (w : World) → unread_length w < n → HasRun w
run_within take zero w h = absurd (omega arith)
run_within take (suc n) w h =
    run_by w (next w) refl (λ event mid e. run_within take n mid (let less = take w mid event e in
    omega arith))

has_run : EventsTakeBytes → (w : World) → (events : List Event) × (last : World) ×
    Runs w events last × IsLast (next last)
unfolding HasRun
has_run take w = run_within take (unread_length w + 1) w (omega arith)

-- ---- each of them

member_agrees : RunLaws →
    (begun : Beginning) (m : Member) (sent : Streams) (events : List Event) (last : World) →
    Had begun m.streams m.events m.held → HasCome m.streams sent
    → IsRun begun sent events last → AgreesOn sent events last m
member_agrees laws begun m sent events last had came run =
    let whole = laws.exists begun m.streams in
    let left = has_run laws.take m.held in
    let same = laws.pieces begun m.streams m.events left.0 whole.0 m.held left.1 whole.1 had left.2 left.3 whole.2 in
    let on = laws.fronts begun m.streams sent whole.0 events whole.1 last came whole.2 run in record {
      front = (
        left.0 ++ on.0.0,
        sym (append_assoc m.events left.0 on.0.0) ∙
            ap (λ (l : List Event). l ++ on.0.0) same.0 ∙ on.0.1,
      );
      all = λ e stop.
          let now = laws.pieces begun sent m.events [] events m.held m.held last
          (subst (λ (v : Streams). Had begun v m.events m.held) e had) refl stop run in
          (sym (append-nil m.events) ∙ now.0, now.1);
    }

-- ---- what one side's machine put

pub other_kept : (own other : Side) (coming : Coming) (w : World) → same_side own other ≡ false →
    stream_of own (come other coming w).unread ≡ stream_of own w.unread
other_kept Client Client coming w e = absurd (cc e)
other_kept Client Server coming w e = refl
other_kept Server Client coming w e = refl
other_kept Server Server coming w e = absurd (cc e)

end_kept : (own : Side) (w : World) → (stream_of own (come own End w).unread).bytes ≡ (stream_of own w.unread).bytes
end_kept Client w = refl
end_kept Server w = refl

same_side-refl : (own : Side) → same_side own own ≡ true
same_side-refl Client = refl
same_side-refl Server = refl

none_of_side : (own : Side) → (stream_of own no_bytes).bytes ≡ []
none_of_side Client = refl
none_of_side Server = refl

-- nothing of its own is unread, and its own events are those that it put
record IsOwn (own : Side) (put events : List Event) (held : World) : Type 0 where
  pub none : (stream_of own held.unread).bytes ≡ []
  pub own_events : filter (is_of own) events ≡ put

own_of : PositionsStay → (own other : Side) (begun : Beginning) (put : List Event)
    (streams : Streams) (events : List Event) (held : World) → same_side own other ≡ false
    → HadAs own other begun put streams events held → IsOwn own put events held
own_of positions own other begun put streams events held apart fresh_as =
    record { none = none_of_side own; own_events = refl }
own_of positions own other begun put streams events held apart
    (comes_as {streams = before} {old = old} coming had is_open e) =
    let mine = own_of positions own other begun put before events old apart had in record {
      none = ap (λ (v : World). (stream_of own v.unread).bytes) e ∙
          ap (λ (s : Stream). s.bytes) (other_kept own other coming old apart) ∙ mine.none;
      own_events = mine.own_events;
    }
own_of positions own other begun put streams events held apart (ends_as {streams = before} {old = old} had is_open e) =
    let mine = own_of positions own other begun put before events old apart had in record {
      none = ap (λ (v : World). (stream_of own v.unread).bytes) e ∙ end_kept own old ∙ mine.none;
      own_events = mine.own_events;
    }
own_of positions own other begun put streams events held apart
    (takes_as {events = front} {old = old} {event = event} had e) =
    let mine = own_of positions own other begun put streams front old apart had in
    let quiet = next_quiet positions old own event held mine.none e in record {
      none = quiet.none;
      own_events = filter-append (is_of own) front (event ∷ []) ∙
          ap (λ (l : List Event). filter (is_of own) front ++
          l) (filter_out own event [] quiet.other)
          ∙ append-nil (filter (is_of own) front) ∙ mine.own_events;
    }
own_of positions own other begun put streams events held apart
    (puts_as {put = earlier} {streams = before} {events = front} {old = old} {event =
    event} bytes had e) =
    let mine = own_of positions own other begun earlier before front old apart had in record {
      none = e.used;
      own_events = filter-append (is_of own) front (event ∷ [])
          ∙ ap (λ (l : List Event). filter (is_of own) front ++
          l) (filter_in own event [] (ap (same_side own) e.its_own ∙ same_side-refl own))
          ∙ ap (λ (l : List Event). l ++ event ∷ []) mine.own_events;
    }

-- ---- the rest of the other side's stream comes

grown_closed : (a b : Streams) (its side : Side) (coming : Coming) →
    ((s : Side) → (stream_of s a).closed ≡ (stream_of s b).closed)
    → (stream_of side (grow its coming a)).closed ≡ (stream_of side (grow its coming b)).closed
grown_closed a b Client Client (Piece piece) h = h Client
grown_closed a b Client Client End h = refl
grown_closed a b Client Server coming h = h Server
grown_closed a b Server Client coming h = h Client
grown_closed a b Server Server (Piece piece) h = h Server
grown_closed a b Server Server End h = refl

had_closed : PositionsStay →
    (begun : Beginning) (streams : Streams) (events : List Event) (held : World) →
    Had begun streams events held → (side : Side)
    → (stream_of side held.unread).closed ≡ (stream_of side streams).closed
had_closed positions begun streams events held fresh side = refl
had_closed positions begun streams events held (comes {streams = before} {old = old} its coming had is_open e) side =
    ap (λ (v : World). (stream_of side v.unread).closed) e
    ∙ grown_closed old.unread before its side coming (had_closed positions begun before events old had)
had_closed positions begun streams events held (takes {events = front} {old = old} {event = event} had e) side =
    (positions old held (event ∷ []) (held, e, refl) side).closed ∙
    had_closed positions begun streams front old had side

-- what was had once all of the other side's stream has come, and nothing changed of its own
record AllCame (own other : Side) (begun : Beginning) (whole : Stream) (streams : Streams)
    (events : List Event) (held : World) : Type 0 where
  pub later : World
  pub had : Had begun (with_stream other whole streams) events later
  pub same : stream_of own later.unread ≡ stream_of own held.unread

same_streams : (other : Side) (streams : Streams) (whole : Stream) → stream_of other streams ≡
    whole → streams ≡ with_stream other whole streams
same_streams Client streams whole e = λ i. record { client = e i; server = streams.server }
same_streams Server streams whole e = λ i. record { client = streams.client; server = e i }

abbrev with_parts : Side → Streams → ℕ → List ℕ → Bool → Streams
with_parts other streams read bytes closed =
    with_stream other (record { read = read; bytes = bytes; closed = closed }) streams

pieced : (other : Side) (streams : Streams) (whole : Stream) (more : List ℕ) →
    (stream_of other streams).read ≡ whole.read → (stream_of other streams).bytes ++ more ≡
    whole.bytes
    → (stream_of other streams).closed ≡ whole.closed → grow other (Piece more) streams ≡
    with_stream other whole streams
pieced Client streams whole more r b c = λ i. with_parts Client streams (r i) (b i) (c i)
pieced Server streams whole more r b c = λ i. with_parts Server streams (r i) (b i) (c i)

ended : (other : Side) (streams : Streams) (whole : Stream) (more : List ℕ) →
    (stream_of other streams).read ≡ whole.read → (stream_of other streams).bytes ++ more ≡
    whole.bytes
    → true ≡ whole.closed → grow other End (grow other (Piece more) streams) ≡ with_stream other whole streams
ended Client streams whole more r b c = λ i. with_parts Client streams (r i) (b i) (c i)
ended Server streams whole more r b c = λ i. with_parts Server streams (r i) (b i) (c i)

all_came : PositionsStay →
    (own other : Side) (begun : Beginning) (whole : Stream) (streams : Streams)
    (events : List Event) (held : World) (closed whole_closed : Bool)
    → same_side own other ≡ false → (stream_of other streams).closed ≡ closed → whole.closed ≡ whole_closed
    → Had begun streams events held → HasComeOf (stream_of other streams) whole →
    AllCame own other begun whole streams events held
all_came positions own other begun whole streams events held true whole_closed apart p q had came = record {
  later = held;
  had = subst (λ (v : Streams). Had begun v events held) (same_streams other streams whole (came.all p)) had;
  same = refl;
}
all_came positions own other begun whole streams events held false false apart p q had came =
    let more = came.bytes.0 in
    let one = come other (Piece more) held in
    let is_open = had_closed positions begun streams events held had other ∙ p in record {
      later = one;
      had = subst (λ (v : Streams). Had begun v events one)
          (pieced other streams whole more came.read came.bytes.1 (p ∙ sym q))
          (comes {old = held} other (Piece more) had is_open refl);
      same = other_kept own other (Piece more) held apart;
    }
all_came positions own other begun whole streams events held false true apart p q had came =
    let more = came.bytes.0 in
    let one = come other (Piece more) held in
    let is_open = had_closed positions begun streams events held had other ∙ p in record {
      later = come other End one;
      had = subst (λ (v : Streams). Had begun v events (come other End one))
          (ended other streams whole more came.read came.bytes.1 (sym q))
          (comes {old = one} other End (comes {old = held} other (Piece more) had is_open refl)
          (still_open other held more is_open) refl);
      same = other_kept own other End one apart ∙ other_kept own other (Piece more) held apart;
    }

-- the run over all that was sent has no events of the side but those that it put
own_events : RunLaws → (own other : Side) (begun : Beginning) (put : List Event) (m : Member)
    (whole : Stream) (events : List Event) (last : World) → same_side own other ≡ false
    → HadAs own other begun put m.streams m.events m.held →
    HasComeOf (stream_of other m.streams) whole →
    IsRun begun (with_stream other whole m.streams) events last
    → filter (is_of own) events ≡ put
own_events laws own other begun put m whole events last apart had came run =
    let mine = own_of laws.positions own other begun put m.streams m.events m.held apart had in
    let closed = (stream_of other m.streams).closed in
    let rest = all_came laws.positions own other begun whole m.streams m.events m.held closed
    whole.closed apart refl refl
    (had_of own other begun put m.streams m.events m.held had) came in
    let left = has_run laws.take rest.later in
    let same = laws.pieces begun (with_stream other whole m.streams) m.events left.0 events
    rest.later left.1 last rest.had left.2 left.3 run in
    let none = ap (λ (s : Stream). s.bytes) rest.same ∙ mine.none in
    ap (filter (is_of own)) (sym same.0) ∙ filter-append (is_of own) m.events left.0
    ∙ ap (λ (l : List Event). filter (is_of own) m.events ++
    l) (runs_quiet laws.positions own rest.later left.0 left.1 none left.2)
    ∙ append-nil (filter (is_of own) m.events) ∙ mine.own_events

pub itself : (stream : Stream) → HasComeOf stream stream
itself stream = record { read = refl; bytes = ([], append-nil stream.bytes); all = λ e. refl }

pub three_agree : RunLaws → ThreeAgree
three_agree laws begun asked answered client server auditor is_client is_server is_auditor to_client
    to_server to_auditor =
    let sent = sent_by client server in
    let whole = laws.exists begun sent in
    let had_client = had_of Client Server begun asked client.streams client.events client.held is_client in
    let had_server = had_of Server Client begun answered server.streams server.events server.held is_server in record {
      events = whole.0;
      last = whole.1;
      run = whole.2;
      asked_all = own_events laws Client Server begun asked client server.streams.server whole.0
          whole.1 refl is_client to_client whole.2;
      answered_all = own_events laws Server Client begun answered server client.streams.client
          whole.0 whole.1 refl is_server to_server whole.2;
      client_agrees = member_agrees laws begun client sent whole.0 whole.1 had_client
          (record { client = itself client.streams.client; server = to_client }) whole.2;
      server_agrees = member_agrees laws begun server sent whole.0 whole.1 had_server
          (record { client = to_server; server = itself server.streams.server }) whole.2;
      auditor_agrees = member_agrees laws begun auditor sent whole.0 whole.1 is_auditor to_auditor whole.2;
    }
