-- The executions of a prepared statement say the sets that were sent of it.
use Rattle.std.proofs.Common.{◌≡◌, ℕ, ◌<◌, ◌^◌, ◌-◌, List, [], ◌∷◌, ◌++◌, length, map, drop, Some, refl, sym, ap, subst}
use Rattle.std.proofs.Common.{◌∙◌}
use Rattle.std.specs.List.{AllZip, flat_map}
use Rattle.std.proofs.lemmas.List.{append_assoc, length-map, map-append}
use Rattle.mysql_command_rules.specs.Laws.{ReadsEach, SentPayloadsRead}
use Rattle.mysql_command_rules.specs.Reading.{HaveContents}
use Rattle.mysql_command_rules.specs.Sent.{AreSent, SentPayload, as_execution, as_requests, payloads_of, prepare_of}
use Rattle.mysql_command_rules.specs.Sent.{sets_of}
use Rattle.mysql_command_rules.specs.declared.road.Road.{Road}
use Rattle.mysql_command_rules.specs.declared.road.Road.TheVariants.{Text, Execute, Bulk}
use Rattle.mysql_command_rules.proofs.Executable.{all_sendable}
use Rattle.mysql_command_rules.proofs.Held.{contents_in_a_row}
use Rattle.mysql_command_rules.proofs.Leaving.{behind_prepare}
use Rattle.mysql_command_rules.proofs.SentSets.{sets_are}
use Rattle.mysql_connection_contents.specs.Contents.{BeginsWithNone, Heard, Spoken, StreamsAreReceived, payloads_about}
use Rattle.mysql_connection_contents.specs.Contents.{sets_about}
use Rattle.mysql_connection_rules.specs.Events.{Event}
use Rattle.mysql_connection_rules.specs.Streams.{Beginning, Streams, World, moved, start}
use Rattle.mysql_connection_recoding.specs.Agreement.{all_there}
use Rattle.mysql_receive.specs.Audit.{Reads}
use Rattle.mysql_receive.specs.Audit.Reads.{next}
use Rattle.mysql_receive.specs.InForce.{StatementState, freshly_prepared, nothing_yet}
use Rattle.mysql_receive.specs.Laws.{WrittenCellsAreHeld}
use Rattle.mysql_receive.specs.Query.{Statement, place_count, statement_of}
use Rattle.mysql_receive.specs.Reading.{Set}
use Rattle.mysql_send.specs.Executions.{whole_execution}
use Rattle.mysql_values.specs.Value.{Value}
use Rattle.mysql_values.specs.Values.{content_of}
use Rattle.mysql_connection_contents.specs.Deliveries.{DeliveredSetsAreSaid, FurtherSetsAreSaid, IsByStatement}
use Rattle.mysql_connection_contents.specs.Deliveries.{IsPrepared, SetsAreSaid}
use Rattle.mysql_connection_contents.specs.Records.{HasHeard}
use Rattle.mysql_connection_contents.proofs.Further.{ReadBehind, further_behind, payloads_are}

-- by a statement the prepare is sent first
prepare_first : (road : Road) (statement : Statement) (room : ℕ) (values : List (List Value))
    (sent : List SentPayload) → IsByStatement road → AreSent road statement room values sent
    → (rest : List SentPayload) × (sent ≡ prepare_of statement ∷ rest)
prepare_first Text statement room values sent by is = absurd by
prepare_first Execute statement room values sent by is = (flat_map (as_execution statement) values, is)
prepare_first Bulk statement room values sent by is = (as_requests statement values is.0, is.2)

reads_by : (road : Road) → IsByStatement road → SentPayloadsRead Execute → SentPayloadsRead Bulk → SentPayloadsRead road
reads_by Text by executions requests = absurd by
reads_by Execute by executions requests = executions
reads_by Bulk by executions requests = requests

-- sets one after another are there
in_a_row : (reads : List (List Set)) → flat_map (λ sets. sets) (all_there reads) ≡
    map (map Some) (flat_map (λ sets. sets) reads)
in_a_row [] = refl
in_a_row (sets ∷ reads) = ap (λ l. map (λ set. map Some set) sets ++ l) (in_a_row reads) ∙
    sym (map-append (map Some) sets (flat_map (λ sets. sets) reads))

-- what is sent behind the prepare reads as its sets
read_behind : (statement : Statement) (rest : List SentPayload) (reads : List (List Set)) →
    AllZip (λ payload sets. HaveContents payload.sets sets) (prepare_of statement ∷ rest) reads →
    Reads statement nothing_yet 0 (payloads_of (prepare_of statement ∷ rest)) reads
    → ReadBehind statement 1 rest
read_behind statement rest [] contents read = absurd contents
read_behind statement rest (sets ∷ reads) contents (next here others) =
    record {
      reads = reads;
      each = subst (λ (state : StatementState). Reads statement state 1 (payloads_of rest) reads)
          (behind_prepare statement nothing_yet statement.query.parsed refl) others;
      contents = contents_in_a_row rest reads contents.1;
    }

sent_behind : (statement : Statement) (limit : ℕ) (rest : List SentPayload) →
    length (prepare_of statement ∷ rest) < 2 ^ 64 →
    ReadsEach statement limit (prepare_of statement ∷ rest) → ReadBehind statement 1 rest
sent_behind statement limit rest few each = read_behind statement rest each.reads each.contents (each.each few)

-- a front of what was heard was heard
front_heard : (xs ys : List Spoken) (w last : World) → Heard w (xs ++ ys) last → (mid : World) × Heard w xs mid
front_heard [] ys w last h = (w, refl)
front_heard (x ∷ xs) ys w last h =
    let later = front_heard xs ys (moved w x.side x.number h.1.1 h.1.0) last h.1.5 in
    (later.0, (h.0, (h.1.0, h.1.1, h.1.2, h.1.3, h.1.4, later.1)))

module _ (received : StreamsAreReceived) (begun : Beginning) (streams : Streams)
    (events : List Event) (held : World) (begins : BeginsWithNone begun)
    (heard : HasHeard begun streams events held) where
  -- where the payloads about a statement read, its executions say their sets
  said_as_read : (statement : Statement) (id first : ℕ) (rest : List SentPayload)
      (reads : List (List Set))
      (said : IsPrepared heard.payloads id (place_count statement.query)) →
      payloads_about id said.behind ≡ payloads_of rest →
      Reads statement freshly_prepared first (payloads_of rest) reads
      → HaveContents (sets_of rest) (flat_map (λ sets. sets) reads) →
      flat_map (λ sets. sets) (sets_about id said.behind) ≡ map (map content_of) (sets_of rest)
  said_as_read statement id first rest reads said about read contents =
      let front = front_heard (said.before ++ said.answer ∷ said.behind) said.rest (start begun streams) heard.last
      (subst (λ (l : List Spoken). Heard (start begun streams) l heard.last) (said.parts ∙
      sym (append_assoc said.before (said.answer ∷ said.behind) said.rest)) heard.heard) in
      let spoken : sets_about id said.behind ≡ all_there reads =
      received begun streams said.before said.answer said.behind front.0 id statement first reads
      begins front.1 said.prepares said.no_attributes said.bulks said.stays
      (subst (λ (l : List (List ℕ)). Reads statement freshly_prepared first l reads) (sym about) read) in
      ap (λ l. flat_map (λ sets. sets) l) spoken ∙ in_a_row reads ∙ sym contents

  sets_are_said : SentPayloadsRead Execute → SentPayloadsRead Bulk → SetsAreSaid heard.payloads
  sets_are_said executions requests road query sets id limit old new delivery said by small enough few about =
      let statement = statement_of query delivery.tokens id in
      let first = prepare_first road statement (limit - 4) delivery.values delivery.sent by delivery.are_sent in
      let rest = first.0 in
      let each = reads_by road by executions requests query delivery.tokens id limit delivery.values
      delivery.sent delivery.has small enough delivery.no_cause delivery.are_sent
      delivery.readable in
      let behind = sent_behind statement limit rest
      (subst (λ (l : List SentPayload). length l < 2 ^ 64) first.1 few)
      (subst (ReadsEach statement limit) first.1 each) in
      let its : sets_of rest ≡ delivery.values = ap (λ l. sets_of l) (sym first.1) ∙
      sets_are road statement (limit - 4) delivery.values delivery.sent delivery.are_sent in
      let same = about ∙ ap (λ (l : List SentPayload). drop 1 (payloads_of l)) first.1 in
      said_as_read statement id 1 rest behind.reads said same behind.each behind.contents ∙
      ap (λ (l : List (List Value)). map (map content_of) l) its ∙ delivery.meanings

  further_sets_are_said : WrittenCellsAreHeld → FurtherSetsAreSaid heard.payloads
  further_sets_are_said law query limit first sets old new further said small few about =
      let statement = statement_of query.sql further.tokens query.id in
      let rest = flat_map (as_execution statement) sets in
      let same = about ∙ sym (payloads_are statement sets) in
      let few_sent : length rest < 2 ^ 64 =
      subst (λ (n : ℕ). n < 2 ^ 64) (ap (λ l. length l) same ∙
      length-map rest (λ (s : SentPayload). s.payload)) few in
      let may = all_sendable (whole_execution query.id) (place_count statement.query) (limit - 4)
      first sets further.appends.none further.appends.fit in
      let behind = further_behind law statement small (limit - 4) further.few sets may few_sent in
      said_as_read statement query.id 0 rest behind.reads said same behind.each behind.contents ∙
      ap (λ (l : List (List Value)). map (map content_of) l)
      (sets_are Execute statement (limit - 4) sets (prepare_of statement ∷ rest) refl)

pub delivered_sets_are_said : SentPayloadsRead Execute → SentPayloadsRead Bulk →
    WrittenCellsAreHeld → StreamsAreReceived → DeliveredSetsAreSaid
delivered_sets_are_said executions requests cells received begun streams events held begins heard = (
  sets_are_said received begun streams events held begins heard executions requests,
  further_sets_are_said received begun streams events held begins heard cells,
)
