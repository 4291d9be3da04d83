-- A client, a server and an auditor between them see the same.
use Rattle.std.proofs.Common.{◌≡◌, ◌<◌, ℕ, Bool, true, false, List, [], Option, Some, None, refl, sym, ap, subst, ◌∙◌}
use Rattle.std.proofs.Common.{arith}
use Rattle.std.specs.Prelude.{if◌then◌else◌, slice_index_or, IfSome}
use Rattle.mysql_connection_contents.proofs.Executing.{executions_are_shown, queries_are_shown}
use Rattle.mysql_connection_contents.proofs.Faults.{FailsSo, calls_fail}
use Rattle.mysql_connection_contents.proofs.Fronts.{heard_all, is_front}
use Rattle.mysql_connection_contents.proofs.Histories.{history}
use Rattle.mysql_connection_contents.proofs.Parties.{IsOf, any_keeps, anybody_may, side_keeps, side_may}
use Rattle.mysql_connection_contents.proofs.PutValues.{values_shown}
use Rattle.mysql_connection_contents.proofs.Putting.{speaks}
use Rattle.mysql_connection_contents.proofs.Texts.{texts_are_shown}
use Rattle.mysql_connection_contents.specs.Calls.{Party, events_in, feeds_other, put_in, streams_in}
use Rattle.mysql_connection_contents.specs.Contents.{BeginsWithNone, Heard, RunsAreHeard}
use Rattle.mysql_connection_contents.specs.Deliveries.{DeliveredSetsAreSaid}
use Rattle.mysql_connection_contents.specs.Promise.{AllSeeTheSame, Has, HasRecordOf, sent_by}
use Rattle.mysql_connection_contents.specs.Records.{HasHeard}
use Rattle.mysql_connection_contents.specs.Shown.{IsBeginning, at_greeting, behind_login}
use Rattle.mysql_connection_machine.specs.Machines.{new_machine}
use Rattle.mysql_connection_rules.proofs.Agreeing.{had_too, itself, other_kept}
use Rattle.mysql_connection_rules.proofs.Packets.{PacketLaws}
use Rattle.mysql_connection_rules.proofs.PutHeads.{and_no}
use Rattle.mysql_connection_rules.proofs.Quiet.{end_of_none, none_found}
use Rattle.mysql_connection_rules.proofs.Running.{come_all, had_runs, parts_of, runs-on, runs-split, set_stream}
use Rattle.mysql_connection_rules.proofs.Running.{whole_comes}
use Rattle.mysql_connection_rules.specs.AgreementLaws.{AgreesOn, Member, NumbersAreBytes, PutsAreRead, ThreeAgree}
use Rattle.mysql_connection_rules.specs.Events.{Event}
use Rattle.mysql_connection_rules.specs.Laws.{FrontsReadOn, PositionsStay}
use Rattle.mysql_connection_rules.specs.Puts.{is_of, same_side}
use Rattle.mysql_connection_rules.specs.PuttingMachines.{HadOrPut, fresh_as}
use Rattle.mysql_connection_rules.specs.PuttingMachines.HadOrPut.{fresh}
use Rattle.mysql_connection_rules.specs.Runs.{HasCome, HasComeOf, IsFront, IsLast, IsRun, Runs}
use Rattle.mysql_connection_rules.specs.Steps.{turn}
use Rattle.mysql_connection_rules.specs.Streams.{Beginning, End, Fails, Failure, Piece, no_bytes, come, Stream, Streams}
use Rattle.mysql_connection_rules.specs.Streams.{Waits, World, client_by, has_number, next, next_by, of_server}
use Rattle.mysql_connection_rules.specs.Streams.{server_by, start, stream_of, with_stream, words, words_by}
use Rattle.mysql_connection_rules.specs.declared.side.Side.{Side}
use Rattle.mysql_connection_rules.specs.declared.side.Side.TheVariants.{Client, Server}
use Rattle.mysql_wire.specs.FirstPacket.{first_packet}
use Rattle.mysql_wire.specs.FirstPacketLaws.{FramingsAreFound}

pub record LowerLaws : Type 0 where
  pub packets : PacketLaws
  pub fronts : FrontsReadOn
  pub positions : PositionsStay
  pub reads : PutsAreRead
  pub numbers : NumbersAreBytes
  pub agree : ThreeAgree
  pub found : FramingsAreFound
  pub hear : RunsAreHeard
  pub say : DeliveredSetsAreSaid

-- ---- where nothing is unread, nothing comes next

no_words : (w : World) (closed : Bool) → w.unread.server.bytes ≡ [] → (if closed then words w else Waits) ≡ Waits
no_words w true none = (let n = w.standing.number in
    ap (λ (l : List ℕ). if has_number n l then words_by w (first_packet w.limits.server n l) else
    Waits) none)
no_words w false none = refl

turn_waits : (w : World) (its : Option Side) → w.unread.client.bytes ≡ [] → w.unread.server.bytes ≡
    [] → next_by w its ≡ Waits
turn_waits w None client server = refl
turn_waits w (Some Client) client server =
    let n = w.standing.number in
    ap (λ (l : List ℕ). client_by w (first_packet w.limits.client n l)) client ∙
    ap (client_by w) (none_found w.limits.client n) ∙ no_words w w.unread.client.closed server
turn_waits w (Some Server) client server =
    let s = w.standing in
    let limit = w.limits.server in
    ap (of_server w) server
    ∙ ap (λ (b : Bool). if b then words_by w (first_packet limit (slice_index_or [] 3 0) []) else
    server_by w (first_packet limit s.number [])) (and_no s.answers)
    ∙ ap (server_by w) (none_found limit s.number)

none_waits : (w : World) → w.unread.client.bytes ≡ [] → w.unread.server.bytes ≡ [] → next w ≡ Waits
none_waits w client server = turn_waits w (turn w.standing.phase) client server

-- ---- of its own side nothing is unread at the end of the list

parts_kept : (own other : Side) (more : List ℕ) (closed whole_closed : Bool) (w : World) →
    same_side own other ≡ false →
    stream_of own (come_all (parts_of other more closed whole_closed) w).unread ≡
    stream_of own w.unread
parts_kept own other more true whole_closed w apart = refl
parts_kept own other more false true w apart =
    other_kept own other End (come other (Piece more) w) apart ∙
    other_kept own other (Piece more) w apart
parts_kept own other more false false w apart = other_kept own other (Piece more) w apart

all_read : PacketLaws → PositionsStay →
    (own other : Side) (begun : Beginning) (s : Streams) (ev : List Event) (w : World)
    (whole : Stream) (events : List Event) (last : World) → same_side own other ≡ false
    → HadOrPut begun s ev w → (stream_of own w.unread).bytes ≡ [] →
    HasComeOf (stream_of other s) whole → IsRun begun (with_stream other whole s) events last →
    (stream_of own last.unread).bytes ≡ []
all_read packets positions own other begun s ev w whole events last apart had none came run =
    let first = start begun s in
    let closed = (stream_of other s).closed in
    let more = came.bytes.0 in
    let parts = parts_of other more closed whole.closed in
    let comes = whole_comes other first whole more closed whole.closed refl refl came.read came.bytes.1 came.all in
    let later = come_all parts w in
    let on = runs-on packets parts first ev w comes.1 (had_runs packets begun s ev w (had_too begun s ev w had)) in
    let runs = subst (λ (v : World). Runs v ev later) comes.0 on.0 in
    let rest = runs-split (set_stream other whole first) ev events later last runs run.runs run.ends in
    let read = positions later last rest.0 rest.2 own in
    end_of_none read.since (stream_of own last.unread).bytes
    (read.bytes ∙ ap (λ (x : Stream). x.bytes) (parts_kept own other more closed whole.closed w apart) ∙ none)

-- ---- each of them

small_number : (begun : Beginning) → IsBeginning begun → begun.first.number < 256
small_number begun (at_greeting limits) = omega arith
small_number begun (behind_login limits capabilities) = omega arith

none_at_first : (begun : Beginning) → IsBeginning begun → BeginsWithNone begun
none_at_first begun (at_greeting limits) = refl
none_at_first begun (behind_login limits capabilities) = refl

abbrev member_of : {begun : Beginning} → Party begun → Member
member_of party = record {
  streams = streams_in party.calls;
  events = events_in party.calls;
  held =
      party.machine.world;
}

no_fault : LowerLaws → (begun : Beginning) (party : Party begun) (sent : Streams)
    (events : List Event) (last : World) (failure : Option Failure) → party.machine.failure ≡
    failure → FailsSo party.machine
    → HadOrPut begun (streams_in party.calls) (events_in party.calls) party.machine.world →
    HasCome (streams_in party.calls) sent → IsRun begun sent events last → next last ≡ Waits →
    party.machine.failure ≡ None
no_fault laws begun party sent events last None e fails had came run waits = e
no_fault laws begun party sent events last (Some failure) e fails had came run waits =
    let w = party.machine.world in
    let streams = streams_in party.calls in
    let its : next w ≡ Fails failure = subst (λ (o : Option Failure). IfSome o (λ f. next w ≡ Fails f)) e fails in
    let now : IsRun begun streams (events_in party.calls) w = record {
      runs = had_runs laws.packets begun streams (events_in party.calls) w
          (had_too begun streams (events_in party.calls) w had);
      ends = subst IsLast (sym its) tt;
    } in
    let on = laws.fronts begun streams sent (events_in party.calls) events w last came now run in
    let no : Fails failure ≡ Waits = sym (on.1 failure its).1 ∙ waits in
    absurd (cc no)

party_has : LowerLaws → (begun : Beginning) (party : Party begun) (sent : Streams)
    (events : List Event) (last : World) → IsBeginning begun →
    HadOrPut begun (streams_in party.calls) (events_in party.calls) party.machine.world
    → HasCome (streams_in party.calls) sent → IsRun begun sent events last → next last ≡ Waits →
    AgreesOn sent events last (member_of party) → Has sent events last party
party_has laws begun party sent events last begins had came run waits agrees = record {
  front = agrees.front;
  texts = texts_are_shown begun (streams_in party.calls) (events_in party.calls) party.machine.world begins
      (had_runs laws.packets begun (streams_in party.calls) (events_in party.calls)
      party.machine.world (had_too begun (streams_in party.calls) (events_in party.calls)
      party.machine.world had));
  no_fault = λ memory. no_fault laws begun party sent events last party.machine.failure refl
      (calls_fail laws.packets.stay (new_machine begun) party.machine party.calls party.did memory
      tt) had came run waits;
  all = λ same none. agrees.all same (subst IsLast (sym none) tt);
}

-- ---- a client's record

record_in : LowerLaws → (begun : Beginning) (client : Party begun) (whole : Stream)
    (events : List Event) (last : World) → begun.first.number < 256 →
    HasComeOf (streams_in client.calls).server whole
    → (heard : HasHeard begun (with_stream Server whole (streams_in client.calls)) events last) →
    IsFront (events_in client.calls) events → HasRecordOf client heard.payloads
record_in laws begun client whole events last small came heard front xs spoken same =
    let streams = streams_in client.calls in
    let first = start begun streams in
    let more = came.bytes.0 in
    let closed = streams.server.closed in
    let parts = parts_of Server more closed whole.closed in
    let comes = whole_comes Server first whole more closed whole.closed refl refl came.read came.bytes.1 came.all in
    let mine = (speaks laws.packets.stay laws.found laws.reads laws.numbers Client Server begun
    small streams xs client.machine.world spoken).heard in
    let on : Heard (start begun (with_stream Server whole streams)) xs (come_all parts client.machine.world) =
    subst (λ (w : World). Heard w xs (come_all parts client.machine.world)) comes.0
    (heard_all laws.packets.stay parts xs first client.machine.world mine) in
    is_front events xs heard.payloads (start begun (with_stream Server whole streams))
    (come_all parts client.machine.world) heard.last last on heard.heard heard.ends
    (subst (λ (l : List Event). IsFront l events) (sym same) front)

-- ---- all

pub all_see_the_same : LowerLaws → AllSeeTheSame
all_see_the_same laws begun client server auditor connected =
    let small = small_number begun connected.begins in
    let c : IsOf Client Server begun (put_in client.calls) (streams_in client.calls)
    (events_in client.calls) client.machine.world =
    history (λ call. feeds_other Client call ≡ true) (is_of Client)
    (λ put s ev w. IsOf Client Server begun put s ev w)
    (side_keeps laws.packets laws.positions laws.numbers laws.reads Client Server refl begun
    small)
    [] no_bytes [] (new_machine begun) client.machine client.calls client.did
    (side_may Client client.calls connected.client_puts) (fresh_as, fresh, refl) in
    let s : IsOf Server Client begun (put_in server.calls) (streams_in server.calls)
    (events_in server.calls) server.machine.world =
    history (λ call. feeds_other Server call ≡ true) (is_of Server)
    (λ put s ev w. IsOf Server Client begun put s ev w)
    (side_keeps laws.packets laws.positions laws.numbers laws.reads Server Client refl begun
    small)
    [] no_bytes [] (new_machine begun) server.machine server.calls server.did
    (side_may Server server.calls connected.server_puts) (fresh_as, fresh, refl) in
    let a : HadOrPut begun (streams_in auditor.calls) (events_in auditor.calls) auditor.machine.world =
    history (λ call. Unit {0}) (λ event. true) (λ put s ev w. HadOrPut begun s ev w)
    (any_keeps laws.packets laws.numbers laws.reads begun small)
    [] no_bytes [] (new_machine begun) auditor.machine auditor.calls auditor.did (anybody_may auditor.calls) fresh in
    let sent = sent_by client server in
    let all = laws.agree begun (put_in client.calls) (put_in server.calls) (member_of client)
    (member_of server) (member_of auditor) c.0 s.0
    (had_too begun (streams_in auditor.calls) (events_in auditor.calls) auditor.machine.world a)
    connected.to_client connected.to_server connected.to_auditor in
    let client_read = all_read laws.packets laws.positions Client Server begun
    (streams_in client.calls) (events_in client.calls) client.machine.world
    (streams_in server.calls).server all.events all.last refl c.1 c.2 connected.to_client
    all.run in
    let server_read = all_read laws.packets laws.positions Server Client begun
    (streams_in server.calls) (events_in server.calls) server.machine.world
    (streams_in client.calls).client all.events all.last refl s.1 s.2 connected.to_server
    all.run in
    let waits = none_waits all.last client_read server_read in
    let payloads = laws.hear (start begun sent) all.last all.events all.run.runs in
    let heard : HasHeard begun sent all.events all.last =
    record {
      payloads = payloads.0;
      last = payloads.1;
      heard = payloads.2;
      ends =
          payloads.3;
    } in
    let said = laws.say begun sent all.events all.last (none_at_first begun connected.begins) heard in record {
      events = all.events;
      last = all.last;
      run = all.run;
      waits = waits;
      client_read = client_read;
      server_read = server_read;
      heard = heard;
      recorded = record_in laws begun client (streams_in server.calls).server all.events all.last
          small connected.to_client heard all.client_agrees.front;
      executions = executions_are_shown begun sent all.events all.last connected.begins heard;
      sets = said.0;
      further = said.1;
      values = values_shown (new_machine begun) client.machine client.calls all.events client.did
          all.client_agrees.front;
      queries = queries_are_shown begun sent all.events all.last heard;
      asked = all.asked_all;
      answered = all.answered_all;
      client_has = party_has laws begun client sent all.events all.last connected.begins c.1
          (record {
            client = itself (streams_in client.calls).client;
            server =
                connected.to_client;
          }) all.run waits all.client_agrees;
      server_has = party_has laws begun server sent all.events all.last connected.begins s.1
          (record {
            client = connected.to_server;
            server =
                itself (streams_in server.calls).server;
          }) all.run waits all.server_agrees;
      auditor_has = party_has laws begun auditor sent all.events all.last connected.begins a
          connected.to_auditor all.run waits all.auditor_agrees;
    }
