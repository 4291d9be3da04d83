-- The recoding of two whole streams one behind the other.
use Rattle.std.proofs.Common.{◌≡◌, ℕ, ◌+◌, ◌-◌, ◌<◌, ◌≤◌, ◌^◌, List, [], ◌∷◌, ◌++◌, length, map, None, refl, sym, ◌∙◌}
use Rattle.std.proofs.Common.{ap, subst, arith, append_assoc, length-append}
use Rattle.std.specs.List.{AllByRecursion, flat_map}
use Rattle.std.proofs.lemmas.Grind.{flat_map-append}
use Rattle.std.proofs.lemmas.List.{map-append}
use Rattle.mysql_wire.specs.Framing.{framing}
use Rattle.mysql_wire.specs.Laws.{FramedComeFirst}
use Rattle.mysql_wire.specs.Stream.{IsSplit, Split, framings}
use Rattle.mysql_wire.specs.Stream.Numbering.{EachFromZero}
use Rattle.mysql_values.specs.Value.{Value}
use Rattle.mysql_receive.specs.Audit.{Audit, Audited}
use Rattle.mysql_receive.specs.Laws.{WholeStreamsJoin}
use Rattle.mysql_receive.specs.Query.{Statement, place_count, statement_of}
use Rattle.mysql_receive.specs.Reading.{Set}
use Rattle.mysql_receive.specs.declared.audit.End.TheVariants.{Whole}
use Rattle.mysql_values.specs.Laws.{OneTokens}
use Rattle.mysql_command_rules.specs.Cause.{query_cause}
use Rattle.mysql_command_rules.specs.Sent.{AreSent, SentPayload, as_execution, payloads_of, prepare_of}
use Rattle.mysql_command_rules.specs.declared.road.Road.TheVariants.{Execute}
use Rattle.mysql_values.specs.Contents.{content_value}
use Rattle.mysql_recoding.specs.Causes.{recoding_cause, values_of_sets}
use Rattle.mysql_recoding.specs.Laws.{JoinedStreamsRecode, both}
use Rattle.mysql_recoding.proofs.Causes.{IsFree, free_of_causes, no_cause, no_cause_of_free, recodable}

-- one split of bytes has no more payloads than another
as_many : FramedComeFirst → (limit : ℕ) (bytes : List ℕ) (split other : Split) →
    IsSplit limit EachFromZero bytes split → IsSplit limit EachFromZero bytes other →
    length split.payloads ≤ length other.payloads
as_many come_first limit bytes split other is also =
    let found = come_first limit EachFromZero split.payloads bytes split.rest_bytes other is.within is.joined also in
    omega (arith, ap length found.1, length-append split.payloads found.0)

-- ---- joined lists

both_hold : {X : Type 0} (P : X → Type 0) (xs ys : List X) → AllByRecursion P xs →
    AllByRecursion P ys → AllByRecursion P (xs ++ ys)
both_hold P [] ys first second = second
both_hold P (x ∷ xs) ys first second = (first.0, both_hold P xs ys first.1 second)

front_holds : {X : Type 0} (P : X → Type 0) (xs ys : List X) → AllByRecursion P (xs ++ ys) → AllByRecursion P xs
front_holds P [] ys each = tt
front_holds P (x ∷ xs) ys each = (each.0, front_holds P xs ys each.1)

back_holds : {X : Type 0} (P : X → Type 0) (xs ys : List X) → AllByRecursion P (xs ++ ys) → AllByRecursion P ys
back_holds P [] ys each = each
back_holds P (x ∷ xs) ys each = back_holds P xs ys each.1

-- the values of joined sets
pub values_joined : (sets others : List Set) → values_of_sets (sets ++ others) ≡
    values_of_sets sets ++ values_of_sets others
values_joined sets others = map-append (map content_value) sets others

-- ---- the bytes of joined sets

pub framings_joined : (payloads others : List (List ℕ)) →
    framings (payloads ++ others) EachFromZero ≡ framings payloads EachFromZero ++
    framings others EachFromZero
framings_joined [] others = refl
framings_joined (payload ∷ payloads) others =
    ap (λ l. framing payload 0 ++ l) (framings_joined payloads others) ∙
    sym (append_assoc (framing payload 0) (framings payloads EachFromZero)
    (framings others EachFromZero))

-- what is sent of joined sets
sent_joined : (statement : Statement) (sets others : List Set) (more : List SentPayload) → more ≡
    flat_map (as_execution statement) (values_of_sets others)
    → flat_map (as_execution statement) (values_of_sets sets) ++ more ≡
    flat_map (as_execution statement) (values_of_sets (sets ++ others))
sent_joined statement sets others more is =
    ap (λ l. flat_map (as_execution statement) (values_of_sets sets) ++ l) is
    ∙ sym (flat_map-append (as_execution statement) (values_of_sets sets) (values_of_sets others))
    ∙ ap (flat_map (as_execution statement)) (sym (values_joined sets others))

-- what is sent of joined sets behind the prepare
prepared_joined : (statement : Statement) (room : ℕ) (sets others : List Set)
    (sent more : List SentPayload) → AreSent Execute statement room (values_of_sets sets) sent
    → AreSent Execute statement room (values_of_sets others) (prepare_of statement ∷ more) →
    AreSent Execute statement room (values_of_sets (sets ++ others)) (sent ++ more)
prepared_joined statement room sets others sent more first second =
    let behind : more ≡ flat_map (as_execution statement) (values_of_sets others) = cc second in
    ap (λ l. l ++ more) first ∙ ap (λ l. prepare_of statement ∷ l) (sent_joined statement sets others more behind)

framed_joined : (sent more : List SentPayload)
    → framings (payloads_of (sent ++ more)) EachFromZero ≡
    framings (payloads_of sent) EachFromZero ++ framings (payloads_of more) EachFromZero
framed_joined sent more =
    ap (λ payloads. framings payloads EachFromZero)
    (map-append (λ (s : SentPayload). s.payload) sent more) ∙
    framings_joined (payloads_of sent) (payloads_of more)

-- ---- causes against joined sets

-- nothing speaks against the values of sets
abbrev AreFree : Statement → ℕ → List (List Value) → Type 0
AreFree statement limit sets = AllByRecursion (IsFree statement.id (place_count statement.query) (limit - 4)) sets

free_of_each : (statement : Statement) (limit : ℕ) (first second : Audit) →
    recoding_cause statement limit first ≡ None → recoding_cause statement limit second ≡ None →
    recoding_cause statement limit (both first second) ≡ None
free_of_each statement limit first second first_none second_none =
    let one = free_of_causes statement limit (values_of_sets first.sets)
    (recodable statement limit first first_none).1 in
    let other = free_of_causes statement limit (values_of_sets second.sets)
    (recodable statement limit second second_none).1 in
    let free : AreFree statement limit (values_of_sets first.sets ++ values_of_sets second.sets) =
    both_hold _ (values_of_sets first.sets) (values_of_sets second.sets) one.1 other.1 in
    no_cause statement limit (both first second) refl
    (no_cause_of_free statement limit (values_of_sets (first.sets ++ second.sets)) one.0
    (subst (AreFree statement limit) (sym (values_joined first.sets second.sets)) free))

-- nothing speaks against the query, nor against the values of both
free_of_both : (statement : Statement) (limit : ℕ) (first second : Audit) →
    recoding_cause statement limit (both first second) ≡ None
    → (query_cause Execute statement (limit - 4) ≡ None) ×
    AreFree statement limit (values_of_sets first.sets ++ values_of_sets second.sets)
free_of_both statement limit first second none =
    let parts = free_of_causes statement limit (values_of_sets (first.sets ++ second.sets))
    (recodable statement limit (both first second) none).1 in
    (parts.0, subst (AreFree statement limit) (values_joined first.sets second.sets) parts.1)

none_to_first : (statement : Statement) (limit : ℕ) (first second : Audit) → first.ending ≡ Whole →
    recoding_cause statement limit (both first second) ≡ None →
    recoding_cause statement limit first ≡ None
none_to_first statement limit first second whole none =
    let parts = free_of_both statement limit first second none in
    no_cause statement limit first whole
    (no_cause_of_free statement limit (values_of_sets first.sets) parts.0
    (front_holds _ (values_of_sets first.sets) (values_of_sets second.sets) parts.1))

none_to_second : (statement : Statement) (limit : ℕ) (first second : Audit) → second.ending ≡
    Whole → recoding_cause statement limit (both first second) ≡ None →
    recoding_cause statement limit second ≡ None
none_to_second statement limit first second whole none =
    let parts = free_of_both statement limit first second none in
    no_cause statement limit second whole
    (no_cause_of_free statement limit (values_of_sets second.sets) parts.0
    (back_holds _ (values_of_sets first.sets) (values_of_sets second.sets) parts.1))

pub joined : WholeStreamsJoin → OneTokens → FramedComeFirst → JoinedStreamsRecode
joined join one come_first query tokens id limit stream behind front back first second has
    front_split back_split few first_says second_says first_whole second_whole =
    let statement : Statement = statement_of query tokens id in
    let c : Statement = statement_of query first_says.0 id in
    let same : second_says.0 ≡ first_says.0 =
    one query.mode query.text second_says.0 first_says.0 second_says.1 first_says.1 in
    let here : Audited c limit stream first = first_says.2 in
    let there : Audited c limit behind second =
    subst (λ (t : List (List ℕ)). Audited (statement_of query t id) limit behind second) same
    second_says.2 in
    let payloads : length here.0.payloads + length there.0.payloads < 2 ^ 64 =
    omega (
      arith,
      few,
      as_many come_first limit stream here.0 front here.1 front_split,
      as_many come_first limit behind there.0 back there.1 back_split,
    ) in
    record {
      says = (
        first_says.0,
        first_says.1,
        join c limit stream behind here.0 there.0 first second here.1 there.1 here.2 there.2
            payloads first_whole second_whole,
      );
      from_each = free_of_each statement limit first second;
      to_first = none_to_first statement limit first second first_whole;
      to_second = none_to_second statement limit first second second_whole;
      recoded = prepared_joined statement (limit - 4) first.sets second.sets;
      framed = framed_joined;
    }
