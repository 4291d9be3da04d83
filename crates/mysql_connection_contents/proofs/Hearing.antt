-- A machine of which no event is left to take has heard the payloads of both streams.
use Rattle.std.proofs.Common.{◌≡◌, List, [], refl, sym, subst, ◌∙◌}
use Rattle.std.proofs.lemmas.List.{append-nil}
use Rattle.mysql_connection_rules.specs.AgreementLaws.{PutsAreTheRun}
use Rattle.mysql_connection_contents.specs.Contents.{RunsAreHeard}
use Rattle.mysql_connection_rules.specs.Events.{Event}
use Rattle.mysql_connection_rules.specs.Laws.{RunExists}
use Rattle.mysql_connection_rules.specs.Runs.{Runs}
use Rattle.mysql_connection_rules.specs.Streams.{start}
use Rattle.mysql_connection_contents.specs.Records.{MachinesHear}

pub machines_hear : RunExists → PutsAreTheRun → RunsAreHeard → MachinesHear
machines_hear exists puts hears begun streams events held had stop =
    let run = exists begun streams in
    let same = puts begun streams events [] run.0 held held run.1 had refl stop run.2 in
    let is : events ≡ run.0 = sym (append-nil events) ∙ same.0 in
    let runs : Runs (start begun streams) events held =
    subst (λ (es : List Event). Runs (start begun streams) es held) (sym is)
    (subst (Runs (start begun streams) run.0) (sym same.1) run.2.runs) in
    let heard = hears (start begun streams) held events runs in
    record { payloads = heard.0; last = heard.1; heard = heard.2; ends = heard.3 }
