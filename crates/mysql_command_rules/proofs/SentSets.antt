-- The sets that stand with the payloads, in a row, are those that were sent.
use Rattle.std.proofs.Common.{◌≡◌, ℕ, ◌+◌, ◌^◌, ◌<◌, ◌≤◌, false, List, [], ◌∷◌, ◌++◌, length, map, take, drop, None, Ok}
use Rattle.std.proofs.Common.{refl, sym, ◌∙◌, ap, subst, arith, sum_by}
use Rattle.std.specs.Prelude.{if◌then◌else◌}
use Rattle.std.specs.List.{AllByRecursion, flat_map}
use Rattle.std.proofs.lemmas.List.{drop-drop, take_all}
use Rattle.std.proofs.lemmas.List.Sums.{sum_by-cons}
use Rattle.std.proofs.Math.Seq.{take-add}
use Rattle.mysql_values.specs.Value.{Value}
use Rattle.mysql_bulk_builder.specs.Cut.{rows_of}
use Rattle.mysql_bulk_builder.specs.TypedCut.{Part, placed_from}
use Rattle.mysql_receive.specs.Audit.{Reads}
use Rattle.mysql_receive.specs.InForce.{is_waiting, nothing_yet, state_after}
use Rattle.mysql_receive.specs.Query.{Statement, place_count}
use Rattle.mysql_stmt.specs.Executions.{execute_command, needs_long_data}
use Rattle.mysql_command_rules.specs.declared.road.Road.{Road}
use Rattle.mysql_command_rules.specs.declared.road.Road.TheVariants.{Text, Execute, Bulk}
use Rattle.mysql_command_rules.specs.Cause.{first_of_sets, set_cause}
use Rattle.mysql_command_rules.specs.Commands.{bulk_request, pieces_from}
use Rattle.mysql_command_rules.specs.Laws.{ReadsEach}
use Rattle.mysql_command_rules.specs.Sent.{AreSent, SentPayload, as_execution, as_text, last_of, on_the_way}
use Rattle.mysql_command_rules.specs.Sent.{payloads_of, sets_of}
use Rattle.mysql_command_rules.proofs.Contents.{all_hold}
use Rattle.mysql_command_rules.proofs.Held.{HoldsAll, contents_each, contents_of}

text_sets : (statement : Statement) (sets : List (List Value)) → sets_of (flat_map (as_text statement) sets) ≡ sets
text_sets statement [] = refl
text_sets statement (values ∷ sets) = ap (λ l. values ∷ l) (text_sets statement sets)

-- payloads on the way are no set's, and the last one is its set's
one_execution : (payloads : List (List ℕ)) (values : List Value) (command : List ℕ)
    (later : List SentPayload) →
    sets_of ((map on_the_way payloads ++ last_of values command ∷ []) ++ later) ≡ values ∷
    sets_of later
one_execution [] values command later = refl
one_execution (payload ∷ payloads) values command later = one_execution payloads values command later

execution_sets : (statement : Statement) (sets : List (List Value)) →
    sets_of (flat_map (as_execution statement) sets) ≡ sets
execution_sets statement [] = refl
execution_sets statement (values ∷ sets) =
    one_execution (if needs_long_data values then pieces_from statement.id 0 values else []) values
    (execute_command statement.id values (needs_long_data values))
    (flat_map (as_execution statement) sets)
    ∙ ap (λ l. values ∷ l) (execution_sets statement sets)

-- parts that start here hold the rows from here on, as many as they count
request_sets : (payload : ℕ × Part → List ℕ) (sets : List (List Value)) (start : ℕ) (cut : List Part)
    → sets_of (map (λ p. record { payload = payload p; sets = rows_of sets p.0 p.1.count })
    (placed_from start cut)) ≡ take (sum_by (λ part. part.count) cut) (drop start sets)
request_sets payload sets start [] = refl
request_sets payload sets start (part ∷ cut) =
    let later : ℕ = sum_by (λ part. part.count) cut in
    let here : List (List Value) = take part.count (drop start sets) in
    ap (λ l. here ++ l) (request_sets payload sets (start + part.count) cut)
    ∙ ap (λ l. here ++ take later l) (sym (drop-drop part.count start sets))
    ∙ sym (take-add part.count later (drop start sets))
    ∙ ap (λ n. take n (drop start sets)) (sym (sum_by-cons (λ part. part.count) part cut))

pub sets_are : (road : Road) (statement : Statement) (room : ℕ) (sets : List (List Value))
    (sent : List SentPayload) → AreSent road statement room sets sent → sets_of sent ≡ sets
sets_are Text statement room sets sent is = ap (λ l. sets_of l) is ∙ text_sets statement sets
sets_are Execute statement room sets sent is = ap (λ l. sets_of l) is ∙ execution_sets statement sets
sets_are Bulk statement room sets sent is =
    ap (λ l. sets_of l) is.2
    ∙ request_sets (λ p. bulk_request statement.id (place_count statement.query) sets p.0 p.1.typing
    p.1.count) sets 0 is.0
    ∙ ap (λ n. take n sets) is.1.is_cut.1
    ∙ take_all (length sets) sets (omega arith)

-- payloads within the limit that read as what their sets hold, and behind which no long data wait
pub record ReadsHeld (c : Statement) (limit : ℕ) (sent : List SentPayload) : Type 0 where
  pub within : AllByRecursion (λ payload. length payload ≤ limit) (payloads_of sent)
  pub each : length sent < 2 ^ 64 → Reads c nothing_yet 0 (payloads_of sent) (contents_of sent)
  pub ends : is_waiting c (state_after c nothing_yet (payloads_of sent)) ≡ false

-- where they are what is sent of sets that are no cause, they read as the contents of these
pub reads_contents : (road : Road) (statement : Statement) (room : ℕ) (values : List (List Value))
    (sent : List SentPayload) → AreSent road statement room values sent
    → (command : List Value → List ℕ) (places bytes : ℕ) →
    first_of_sets (set_cause command places bytes) 0 (map Ok values) ≡ None →
    (c : Statement) (limit : ℕ) → ReadsHeld c limit sent → ReadsEach c limit sent
reads_contents road statement room values sent are command places bytes none c limit reads = record {
  within = reads.within;
  reads = contents_of sent;
  contents = contents_each sent
      (subst (λ (l : List (List Value)). AllByRecursion HoldsAll l)
      (sym (sets_are road statement room values sent are))
      (all_hold command places bytes 0 values none));
  each = reads.each;
  ends = reads.ends;
}
