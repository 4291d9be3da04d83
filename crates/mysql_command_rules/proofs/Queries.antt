-- Text queries that were sent read as the sets whose values they carry.
use Rattle.std.proofs.Common.{◌≡◌, ℕ, ◌+◌, ◌-◌, ◌≤◌, not, Bool, true, false, List, [], ◌∷◌, length, map, Option, Some}
use Rattle.std.proofs.Common.{None, Ok, refl, sym, ap, subst, cond}
use Rattle.std.specs.Prelude.{IsTrue}
use Rattle.std.specs.List.{AllByRecursion, flat_map, list_all, position_from}
use Rattle.std.specs.Option.{option_map, option_or}
use Rattle.mysql_values.specs.Place.{Place}
use Rattle.mysql_values.specs.Queries.{first_not_alone, is_mixed}
use Rattle.mysql_values.specs.Value.{Value}
use Rattle.mysql_receive.specs.InForce.{StatementState, nothing_yet, state_after}
use Rattle.mysql_receive.specs.Query.{Query, Statement, all_alone, place_count, statement_of}
use Rattle.mysql_receive.specs.Reading.{Set, TextReadsAs}
use Rattle.mysql_command_rules.specs.declared.refusal.Refusal.TheVariants as refusals
use Rattle.mysql_command_rules.specs.declared.road.Road.TheVariants.{Text}
use Rattle.mysql_command_rules.specs.Cause.{cause_if, first_of_sets, places_cause, set_cause}
use Rattle.mysql_command_rules.specs.Laws.{SentPayloadsRead}
use Rattle.mysql_command_rules.specs.Reading.{IsReadable}
use Rattle.mysql_command_rules.specs.Sent.{as_text, payloads_of, query_text_of, whole_command}
use Rattle.mysql_command_rules.proofs.Contents.{neither, short_each, within_limit}
use Rattle.mysql_command_rules.proofs.Held.{held, what_is_held}
use Rattle.mysql_command_rules.proofs.ReadEach.{ReadFrom, not_waiting, read_each}
use Rattle.mysql_command_rules.proofs.SentSets.{ReadsHeld, reads_contents}

-- placeholders of which none is found that doesn't stand alone all do
all_pass : (n : ℕ) (places : List Place) → position_from (λ place. not place.alone) n places ≡
    None → list_all (λ place. place.alone) places ≡ true
all_pass n [] none = refl
all_pass n (place ∷ places) none = by place.alone refl none (all_pass (n + 1) places)
  where
    by : (alone : Bool) → place.alone ≡ alone →
        cond (not alone) (Some n) (position_from (λ place. not place.alone) (n + 1) places) ≡ None
        → (position_from (λ place. not place.alone) (n + 1) places ≡ None →
        list_all (λ place. place.alone) places ≡ true) →
        list_all (λ place. place.alone) (place ∷ places) ≡ true
    by false is passes rest = cc
    by true is passes rest = rw is (rest passes)

-- placeholders that are no cause all stand alone
pub places_alone : (places : List Place) → places_cause places ≡ None → list_all (λ place. place.alone) places ≡ true
places_alone places none =
    let parts = neither (cause_if (is_mixed places) refusals.Mixed)
    (option_map (λ place. refusals.NotAlone place) (first_not_alone places)) none in
    all_pass 0 places (unmapped (first_not_alone places) parts.1)
  where
    unmapped : (found : Option ℕ) → option_map (λ place. refusals.NotAlone place) found ≡ None → found ≡ None
    unmapped None none = refl
    unmapped (Some place) none = cc

-- the queries of sets, in a row
pub payloads_are : (statement : Statement) (sets : List (List Value)) →
    payloads_of (flat_map (as_text statement) sets) ≡ map (whole_command Text statement) sets
payloads_are statement [] = refl
payloads_are statement (values ∷ sets) = ap (λ l. whole_command Text statement values ∷ l) (payloads_are statement sets)

-- a query that reads as its values' contents reads as what they hold
as_held : (query : Query) (values : List Value) → IsReadable Text query values →
    TextReadsAs query.sql (query_text_of query values) (map held values)
as_held query values is =
    subst (λ (l : Set). TextReadsAs query.sql (query_text_of query values) l)
    (what_is_held values is.0 is.1) is.2

-- each query reads as what its values hold, whatever is in force
reads_from : (statement : Statement) (alone : IsTrue (all_alone statement.query))
    (sets : List (List Value)) → AllByRecursion (IsReadable Text statement.query) sets
    → (s : StatementState) → ReadFrom statement s (flat_map (as_text statement) sets)
reads_from statement alone [] readable s = tt
reads_from statement alone (values ∷ sets) readable s =
    ((alone, (_, as_held statement.query values readable.0, refl)), reads_from statement alone sets readable.1 s)

-- queries leave in force what was
nothing_changes : (statement : Statement) (s : StatementState) (sets : List (List Value)) →
    state_after statement s (payloads_of (flat_map (as_text statement) sets)) ≡ s
nothing_changes statement s [] = refl
nothing_changes statement s (values ∷ sets) = nothing_changes statement s sets

-- what is sent of sets without a cause reads as these sets
pub queries_read : SentPayloadsRead Text
queries_read query tokens id limit values sent has small room none is readable =
    let statement : Statement = statement_of query tokens id in
    let sets : Option _ = first_of_sets
    (set_cause (whole_command Text statement) (place_count statement.query) (limit - 4)) 0
    (map Ok values) in
    let parts = neither (places_cause statement.query.places) (option_or sets None) none in
    let sets_none = neither sets None parts.1 in
    let queries = flat_map (as_text statement) values in
    let reads : ReadsHeld statement limit queries = record {
      within = subst (λ (l : List (List ℕ)). AllByRecursion (λ payload. length payload ≤ limit) l)
          (sym (payloads_are statement values))
          (within_limit limit (map (whole_command Text statement) values)
          (short_each (whole_command Text statement) (place_count statement.query) (limit - 4) 0
          values sets_none.0));
      each = read_each statement nothing_yet queries
          (reads_from statement (places_alone statement.query.places parts.0) values readable
          nothing_yet);
      ends = not_waiting statement (state_after statement nothing_yet (payloads_of queries))
          (λ place. ap (λ (t : StatementState). t.long_data place)
          (nothing_changes statement nothing_yet values));
    } in
    reads_contents Text statement (limit - 4) values sent is (whole_command Text statement)
    (place_count statement.query) (limit - 4) sets_none.0 statement limit
    (subst (λ l. ReadsHeld statement limit l) (sym is) reads)
