-- Values that were sent are carried by what was appended.
use Rattle.std.proofs.Common.{◌≡◌, ℕ, ◌-◌, ◌^◌, ◌<◌, ◌≤◌, List, [], length, map, None, Ok, refl, sym, ◌∙◌, ap, subst}
use Rattle.std.proofs.Common.{arith, length-append}
use Rattle.std.specs.List.{AllByRecursion, flat_map}
use Rattle.std.proofs.lemmas.List.{append-nil, length-map}
use Rattle.mysql_wire.specs.Framing.{chunks}
use Rattle.mysql_wire.specs.Stream.{IsSplit, framings}
use Rattle.mysql_wire.specs.Stream.Rest.{Empty}
use Rattle.mysql_wire.specs.Stream.Numbering.{EachFromZero}
use Rattle.mysql_values.specs.Sql.{Sql}
use Rattle.mysql_values.specs.Value.{Value}
use Rattle.mysql_receive.specs.declared.audit.End.TheVariants.{Whole}
use Rattle.mysql_receive.specs.Audit as audit
use Rattle.mysql_receive.specs.Audit.{Audited}
use Rattle.mysql_receive.specs.Query.{Statement, statement_of}
use Rattle.mysql_receive.specs.Reading.{Set}
use Rattle.mysql_command_rules.specs.declared.road.Road.{Road}
use Rattle.mysql_command_rules.specs.declared.road.Road.TheVariants.{Text, Execute, Bulk}
use Rattle.mysql_command_rules.specs.Cause.{cause_of}
use Rattle.mysql_command_rules.specs.Laws.{ReadsEach, SentPayloadsRead, SentValuesAreCarried}
use Rattle.mysql_command_rules.specs.Reading.{HaveContents, SentReadable}
use Rattle.mysql_command_rules.specs.Sending.{SendsGiven}
use Rattle.mysql_command_rules.specs.Sent.{SentPayload, payloads_of}
use Rattle.mysql_command_rules.specs.Sets.{Given}
use Rattle.mysql_command_rules.proofs.Held.{contents_in_a_row}
use Rattle.mysql_command_rules.proofs.JoinedStreams.{as_long}
use Rattle.mysql_command_rules.proofs.SentSets.{sets_are}

-- the framings of payloads within the limit split as these payloads and nothing more
splits : (limit : ℕ) (payloads : List (List ℕ)) →
    AllByRecursion (λ payload. length payload ≤ limit) payloads →
    IsSplit limit EachFromZero (framings payloads EachFromZero)
    (record { payloads = payloads; rest_bytes = []; rest = Empty })
unfolding chunks
splits limit payloads within = record {
  joined = sym (append-nil (framings payloads EachFromZero));
  within = within;
  ends = record {
    body = [];
    count = 0;
    tail = [];
    full = refl;
    within = omega arith;
    joined =
        refl;
    ends = (refl, refl);
  };
}

-- ---- carried

-- no cause speaks against the values that were sent
pub no_cause : (road : Road) (query : Sql) (sets : List (List ℕ) → List Given) (id limit : ℕ)
    (old new : List ℕ) (sends : SendsGiven road query sets id limit old new)
    → cause_of road (statement_of query sends.tokens id) limit (map Ok sends.values) ≡ None
no_cause road query sets id limit old new sends =
    ap (λ given. cause_of road (statement_of query sends.tokens id) limit given) (sym sends.given) ∙
    sends.none

-- fewer payloads were sent than there are bytes
pub few_sent : (road : Road) (query : Sql) (sets : List (List ℕ) → List Given) (id limit : ℕ)
    (old new : List ℕ) → length new < 2 ^ 64 →
    (sends : SendsGiven road query sets id limit old new) → length sends.sent < 2 ^ 64
few_sent road query sets id limit old new short sends =
    let stream : List ℕ = framings (payloads_of sends.sent) EachFromZero in
    let payloads : length (payloads_of sends.sent) ≡ length sends.sent = length-map sends.sent (λ s. s.payload) in
    omega (arith, short, payloads, as_long (payloads_of sends.sent), ap length sends.appended, length-append old stream)

-- the law of each road
law_of : SentPayloadsRead Text → SentPayloadsRead Execute → SentPayloadsRead Bulk → (road : Road) →
    SentPayloadsRead road
law_of text execute bulk Text = text
law_of text execute bulk Execute = execute
law_of text execute bulk Bulk = bulk

-- what was sent reads, payload by payload
pub reads_each : SentPayloadsRead Text → SentPayloadsRead Execute → SentPayloadsRead Bulk →
    (road : Road) (query : Sql) (sets : List (List ℕ) → List Given) (id limit : ℕ)
    (old new : List ℕ) → id < 2 ^ 32 → 4 ≤ limit
    → (q : SentReadable road query sets id limit old new) →
    ReadsEach (statement_of query q.sends.tokens id) limit q.sends.sent
reads_each text execute bulk road query sets id limit old new small room q =
    let none = no_cause road query sets id limit old new q.sends in
    law_of text execute bulk road query q.sends.tokens id limit q.sends.values q.sends.sent
    q.sends.has small room none q.sends.are_sent q.readable

-- the audit of payloads that read each
audited : (c : Statement) (limit : ℕ) (sent : List SentPayload) → (reads : ReadsEach c limit sent) →
    length sent < 2 ^ 64
    → Audited c limit (framings (payloads_of sent) EachFromZero)
    (record { sets = flat_map (λ sets. sets) reads.reads; ending = Whole })
audited c limit sent reads few = (
  record { payloads = payloads_of sent; rest_bytes = []; rest = Empty },
  splits limit (payloads_of sent) reads.within,
  record {
    reads = reads.reads;
    each = record {
      front = payloads_of sent;
      left = [];
      cut =
          sym (append-nil (payloads_of sent));
      each = reads.each few;
    };
    sets = refl;
    ending = audit.all_read (rw reads.ends refl);
  },
)

pub carried : SentPayloadsRead Text → SentPayloadsRead Execute → SentPayloadsRead Bulk → SentValuesAreCarried
carried text execute bulk road query sets id limit old new small room short q =
    let statement : Statement = statement_of query q.sends.tokens id in
    let sent : List SentPayload = q.sends.sent in
    let reads : ReadsEach statement limit sent =
    reads_each text execute bulk road query sets id limit old new small room q in
    let contents : List Set = flat_map (λ sets. sets) reads.reads in
    record {
      stream = framings (payloads_of sent) EachFromZero;
      appended = q.sends.appended;
      contents = contents;
      each = subst (λ (l : List (List Value)). HaveContents l contents)
          (sets_are road statement (limit - 4) q.sends.values sent q.sends.are_sent)
          (contents_in_a_row sent reads.reads reads.contents);
      audit = (
        q.sends.tokens,
        q.sends.has,
        audited statement limit sent reads
            (few_sent road query sets id limit old new short q.sends),
      );
    }
