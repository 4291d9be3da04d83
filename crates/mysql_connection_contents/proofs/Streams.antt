-- A connection from its beginning on.
use Rattle.std.proofs.Common.{◌≡◌, List, [], ◌∷◌, ◌++◌, Ok, sym, ap, subst, ◌∙◌}
use Rattle.mysql_connection_rules.specs.Steps.{step}
use Rattle.mysql_connection_rules.specs.Streams.{World, moved, numbered, start}
use Rattle.mysql_executions.specs.After.{freshly_prepared}
use Rattle.mysql_executions.specs.Types.{has_bulk_operations, has_query_attributes}
use Rattle.mysql_connection_recoding.specs.Agreement.{EachIsRead, PreparedAgree}
use Rattle.mysql_receive.specs.InForce as receive
use Rattle.mysql_receive.specs.Query.{place_count}
use Rattle.mysql_connection_contents.specs.Contents.{Heard, IdsAreOwn, IsSettled, Spoke, Spoken, StreamsAreReceived}
use Rattle.mysql_connection_contents.proofs.Connections.{connection_executions_are_received}
use Rattle.mysql_connection_contents.proofs.Ids.{step_ids}
use Rattle.mysql_connection_contents.proofs.Prepared.{ids_begin_own, prepared_goes}
use Rattle.mysql_connection_contents.proofs.Runs.{heard_spoken}

-- what was heard from a payload on, where each statement has an id of its own
pub heard_from : (before : List Spoken) (answer : Spoken) (xs : List Spoken) (w last : World) →
    IdsAreOwn w.standing → Heard w (before ++ answer ∷ xs) last → (v : World) ×
    IdsAreOwn v.standing × Heard v (answer ∷ xs) last
heard_from [] answer xs w last own h = (w, own, h)
heard_from (x ∷ before) answer xs w last own h =
    heard_from before answer xs (moved w x.side x.number h.1.1 h.1.0) last
    (step_ids w.standing x.payload x.event h.1.0 own h.1.4) h.1.5

pub streams_are_received : EachIsRead → PreparedAgree → StreamsAreReceived
streams_are_received each agree begun streams before answer xs last id statement first reads begins
    heard prepares none bulks leave read =
    let from = heard_from before answer xs (start begun streams) last (ids_begin_own begun begins) heard in
    let v = from.0 in
    let spoke : Spoke v.standing (answer ∷ xs) last.standing = heard_spoken (answer ∷ xs) v last from.2 in
    let same : answer.standing ≡ v.standing = spoke.0 in
    let mid = spoke.1.0 in
    let read_step : step answer.standing answer.payload ≡ Ok (answer.event, mid) =
    ap (λ s. step s answer.payload) same ∙ spoke.1.1 in
    let own : IdsAreOwn answer.standing = subst IdsAreOwn (sym same) from.1 in
    let made = prepared_goes id (place_count statement.query) answer.standing answer.payload
    answer.event mid read_step prepares in
    let settled : IsSettled (numbered answer.side answer.number mid) =
    record {
      logged_in = made.logged_in;
      own_ids =
          step_ids answer.standing answer.payload answer.event mid own read_step;
    } in
    connection_executions_are_received each (numbered answer.side answer.number mid) last.standing
    xs id (freshly_prepared (place_count statement.query)) statement receive.freshly_prepared
    first reads
    spoke.1.2 settled made.stands (agree statement) (ap has_query_attributes made.capabilities ∙
    none) (λ b. ap has_bulk_operations made.capabilities ∙ bulks b) leave read
