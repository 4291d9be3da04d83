-- Sets that were sent are read back, each front of their stream reads as the sets that stand whole
-- in it, and by bulk no requests could be fewer.
use Rattle.std.proofs.Common.{◌≡◌, ℕ, suc, ◌+◌, ◌-◌, ◌^◌, ◌<◌, ◌≤◌, List, [], ◌∷◌, length, map, take, Option, Some}
use Rattle.std.proofs.Common.{None, Ok, refl, sym, ◌∙◌, ap, subst, arith}
use Rattle.std.specs.List.{flat_map}
use Rattle.std.specs.Option.{option_or}
use Rattle.std.proofs.lemmas.List.{length-map}
use Rattle.mysql_values.specs.Sql.{Sql}
use Rattle.mysql_values.specs.Laws.{OneTokens}
use Rattle.mysql_values.specs.Value.{Value}
use Rattle.mysql_values.specs.Tokens.{HasTokens}
use Rattle.mysql_bulk_builder.specs.TypedCut.{Part, placed, placed_from}
use Rattle.mysql_bulk_builder.specs.TypedCutLaws.{TightTypedHasFewest}
use Rattle.mysql_receive.specs.Audit.{Audited}
use Rattle.mysql_receive.specs.Laws.{FrontsReadOn}
use Rattle.mysql_receive.specs.Query.{Statement, place_count, statement_of}
use Rattle.mysql_receive.specs.Reading.{Set}
use Rattle.mysql_command_rules.specs.declared.road.Road.{Road}
use Rattle.mysql_command_rules.specs.declared.road.Road.TheVariants.{Text, Execute, Bulk}
use Rattle.mysql_command_rules.specs.Cause.{first_of_sets, query_cause, set_cause, sets_cause}
use Rattle.mysql_command_rules.specs.Laws.{CarriesValues, ReadsEach, SentPayloadsRead, SentSetsAreDelivered}
use Rattle.mysql_command_rules.specs.Laws.{SentValuesAreCarried}
use Rattle.mysql_command_rules.specs.Reading.{FrontsRead, HaveContents}
use Rattle.mysql_command_rules.specs.Sending.{HasFewest}
use Rattle.mysql_command_rules.specs.Sent.{AreSent, SentPayload, as_requests, payloads_of, sets_of, whole_command}
use Rattle.mysql_command_rules.specs.Sets.{values_of}
use Rattle.mysql_command_rules.proofs.Carried.{few_sent, no_cause, reads_each}
use Rattle.mysql_command_rules.proofs.Contents.{all_counted, neither}
use Rattle.mysql_command_rules.proofs.Statements.{query_is}
use Rattle.mysql_command_rules.proofs.Held.{contents_in_a_row, first_zip}

-- ---- no cut has fewer

placed_count : (start : ℕ) (cut : List Part) → length (placed_from start cut) ≡ length cut
placed_count start [] = refl
placed_count start (part ∷ cut) = ap (λ n. suc n) (placed_count (start + part.count) cut)

has_fewest : TightTypedHasFewest →
    (road : Road) (statement : Statement) (room : ℕ) (sets : List (List Value))
    (sent : List SentPayload) → AreSent road statement room sets sent →
    HasFewest road statement room sets sent
has_fewest law Text statement room sets sent is = tt
has_fewest law Execute statement room sets sent is = tt
has_fewest law Bulk statement room sets sent is = λ other is_cut fits.
    let few : length is.0 ≤ length other = law room (place_count statement.query) sets is.0 other is.1 is_cut fits in
    let parts : length (as_requests statement sets is.0) ≡ length is.0 =
    length-map (placed is.0) _ ∙ placed_count 0 is.0 in
    let all : length sent ≡ suc (length (as_requests statement sets is.0)) = ap length is.2 in
    omega (arith, few, parts, all)

-- ---- delivered

-- each front of their stream reads as the sets that stand whole in it
fronts : OneTokens → FrontsReadOn →
    (query : Sql) (tokens : List (List ℕ)) (id limit : ℕ) (sent : List SentPayload) →
    HasTokens query.mode query.text tokens → ReadsEach (statement_of query tokens id) limit sent →
    length sent < 2 ^ 64 → FrontsRead query id limit sent
fronts once law query tokens id limit sent has reads few front back audit joined is =
    let statement : Statement = statement_of query tokens id in
    let same : is.0 ≡ tokens = once query.mode query.text is.0 tokens is.1 has in
    let all : List (List Set) = reads.reads in
    let found = law statement limit (payloads_of sent) all front back audit
    (query_is query tokens id has) reads.within joined (reads.each few)
    (subst (λ (t : List (List ℕ)). Audited (statement_of query t id) limit front audit) same
    is.2) in
    let whole : HaveContents (sets_of (take found.0 sent)) (flat_map (λ sets. sets) (take found.0 all)) =
    contents_in_a_row (take found.0 sent) (take found.0 all)
    (first_zip (λ payload sets. HaveContents payload.sets sets) found.0 sent all
    reads.contents) in
    (found.0, found.1, whole ∙ ap (λ l. map (map Some) l) (sym found.2), found.3)

pub delivered : SentPayloadsRead Text → SentPayloadsRead Execute → SentPayloadsRead Bulk →
    SentValuesAreCarried → OneTokens → FrontsReadOn → TightTypedHasFewest → SentSetsAreDelivered
delivered text execute bulk carried once fronts_read fewest road query sets id limit old new small room short q =
    let tokens : List (List ℕ) = q.sends.tokens in
    let values : List (List Value) = q.sends.values in
    let sent : List SentPayload = q.sends.sent in
    let statement : Statement = statement_of query tokens id in
    let first : Option _ = first_of_sets
    (set_cause (whole_command road statement) (place_count statement.query) (limit - 4)) 0
    (map Ok values) in
    let together : Option _ = option_or (sets_cause road statement (limit - 4) (values_of (map Ok values))) None in
    let parts = neither (query_cause road statement (limit - 4)) (option_or first together)
    (no_cause road query sets id limit old new q.sends) in
    let each_none = neither first together parts.1 in
    let carries : CarriesValues query values id limit old new =
    carried road query sets id limit old new small room short q in
    let reads = reads_each text execute bulk road query sets id limit old new small room q in
    let few = few_sent road query sets id limit old new short q.sends in
    record {
      read_back = record {
        stream = carries.stream;
        appended = carries.appended;
        contents = carries.contents;
        reads = record {
          meanings = record {
            tokens = tokens;
            has = q.sends.has;
            values = values;
            given = q.sends.given;
            counts = all_counted query tokens (whole_command road statement)
                (place_count statement.query) (limit - 4) refl 0 values each_none.0;
            each = carries.each;
          };
          audit = carries.audit;
        };
      };
      whole = record {
        sends = q.sends;
        fronts = fronts once fronts_read query tokens id limit sent q.sends.has reads few;
        fewest = has_fewest fewest road statement (limit - 4) values sent q.sends.are_sent;
      };
    }
