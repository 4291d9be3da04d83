-- What an auditor between a client and a server reads.
use Rattle.std.proofs.Common.{◌≡◌, List, [], inl, refl, sym, ap, subst, ◌∙◌}
use Rattle.std.specs.List.{filter}
use Rattle.std.proofs.lemmas.List.{append-nil}
use Rattle.mysql_connection_rules.specs.AgreementLaws.{Member, NumbersAreBytes, PutsAreRead, ThreeAgree}
use Rattle.mysql_connection_rules.specs.PuttingMachines.{HadOrPut}
use Rattle.mysql_connection_rules.specs.PuttingMachines.HadOrPut.{fresh as fresh_too, comes as comes_too}
use Rattle.mysql_connection_rules.specs.PuttingMachines.HadOrPut.{takes as takes_too}
use Rattle.mysql_connection_rules.specs.Puts.{is_of}
use Rattle.mysql_connection_rules.specs.declared.side.Side.TheVariants.{Client, Server}
use Rattle.mysql_connection_rules.specs.Events.{Event}
use Rattle.mysql_connection_rules.specs.Machines.{Had, comes, fresh, takes}
use Rattle.mysql_connection_rules.specs.Runs.{HasCome, HasComeOf, IsFront}
use Rattle.mysql_wire.specs.FirstPacketLaws.{FramingsAreFound, PacketsStay}
use Rattle.mysql_connection_contents.specs.Contents.{events_of}
use Rattle.mysql_connection_rules.specs.Streams.{Beginning, Stream, Streams, World}
use Rattle.mysql_connection_contents.specs.Deliveries.{DeliveredSetsAreSaid, PutPayloadsAreRead, PutSetsAreRead}
use Rattle.mysql_connection_contents.specs.Records.{HasHeard, MachinesHear}
use Rattle.mysql_connection_contents.proofs.Putting.{speaks}

-- a machine that puts nothing
put_nothing : (begun : Beginning) (streams : Streams) (events : List Event) (held : World) →
    Had begun streams events held → HadOrPut begun streams events held
put_nothing begun streams events held fresh = fresh_too
put_nothing begun streams events held
    (comes {streams = before} {old = old} side coming had is_open e) =
    comes_too side coming (put_nothing begun before events old had) is_open e
put_nothing begun streams events held (takes {events = front} {old = old} had e) =
    takes_too (put_nothing begun streams front old had) e

-- all of a stream has come
all_of_it : (stream : Stream) → HasComeOf stream stream
all_of_it stream = record { read = refl; bytes = ([], append-nil stream.bytes); all = λ closed. refl }

all_has_come : (streams : Streams) → HasCome streams streams
all_has_come streams = record { client = all_of_it streams.client; server = all_of_it streams.server }

pub put_sets_are_read : ThreeAgree → MachinesHear → DeliveredSetsAreSaid → PutSetsAreRead
put_sets_are_read agree hear say begun asked answered client server auditor begins asks answers
    audits client_had server_had all stop =
    let agreement = agree begun asked answered client server auditor asks answers audits client_had
    server_had (subst (HasCome auditor.streams) all (all_has_come auditor.streams)) in
    let whole : auditor.events ≡ agreement.events = (agreement.auditor_agrees.all all stop).0 in
    let heard = hear begun auditor.streams auditor.events auditor.held
    (put_nothing begun auditor.streams auditor.events auditor.held audits) stop in
    let said = say begun auditor.streams auditor.events auditor.held begins heard in
    record {
      heard = heard;
      asked_all = ap (filter (is_of Client)) whole ∙ agreement.asked_all;
      answered_all = ap (filter (is_of Server)) whole ∙ agreement.answered_all;
      sets = said.0;
      further = said.1;
    }

pub put_payloads_are_read : ThreeAgree → PacketsStay → FramingsAreFound → PutsAreRead →
    NumbersAreBytes → DeliveredSetsAreSaid → PutPayloadsAreRead
put_payloads_are_read agree stay found reads numbers say begun answered streams xs held server
    auditor small begins speak answers audits client_had server_had all stop =
    let s = speaks stay found reads numbers Client Server begun small streams xs held speak in
    let client : Member = record { streams = streams; events = events_of xs; held = held } in
    let agreement = agree begun s.put answered client server auditor s.had answers audits client_had
    server_had (subst (HasCome auditor.streams) all (all_has_come auditor.streams)) in
    let whole : auditor.events ≡ agreement.events = (agreement.auditor_agrees.all all stop).0 in
    let heard : HasHeard begun streams (events_of xs) held =
    record { payloads = xs; last = held; heard = s.heard; ends = inl (refl, refl) } in
    let said = say begun streams (events_of xs) held begins heard in
    record {
      front = subst (IsFront (events_of xs)) (sym whole) agreement.client_agrees.front;
      sets = said.0;
      further = said.1;
    }
