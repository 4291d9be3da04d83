-- Executions that are appended behind sets that were sent by execute are sent with them.
use Rattle.std.proofs.Common.{◌≡◌, ℕ, ◌+◌, ◌-◌, List, [], ◌∷◌, ◌++◌, length, map, Option, Some, None, Ok, refl, sym}
use Rattle.std.proofs.Common.{◌∙◌, ap, subst, arith, append_assoc}
use Rattle.std.specs.List.{AllByRecursion, flat_map}
use Rattle.std.specs.Option.{option_or}
use Rattle.std.proofs.lemmas.Grind.{flat_map-append}
use Rattle.std.proofs.lemmas.List.{map-append}
use Rattle.mysql_wire.specs.Stream.{framings}
use Rattle.mysql_wire.specs.Stream.Numbering.{EachFromZero}
use Rattle.mysql_values.specs.Parsed.{names_of}
use Rattle.mysql_values.specs.Value.{Value}
use Rattle.mysql_receive.specs.Query.{Statement, place_count, statement_of}
use Rattle.mysql_command_rules.specs.declared.refusal.Refusal.{Refusal}
use Rattle.mysql_command_rules.specs.declared.road.Road.TheVariants.{Execute}
use Rattle.mysql_command_rules.specs.Cause.{first_of_sets, query_cause, set_cause}
use Rattle.mysql_command_rules.specs.Reading.{IsReadable}
use Rattle.mysql_command_rules.specs.Sending.{SendsGiven}
use Rattle.mysql_command_rules.specs.Sent.{SentPayload, as_execution, on_the_way, payloads_of, prepare_of, stream_of}
use Rattle.mysql_command_rules.specs.Sets.{Given}
use Rattle.mysql_send.specs.Laws.{FurtherSetsAreSent}
use Rattle.mysql_send.specs.Executions.{execution_payloads, whole_execution}
use Rattle.mysql_send.proofs.Lists.{framings-append}

-- ---- causes

none_first : (first rest : Option Refusal) → option_or first rest ≡ None → first ≡ None
none_first None rest none = refl
none_first (Some cause) rest none = cc

none_rest : (first rest : Option Refusal) → option_or first rest ≡ None → rest ≡ None
none_rest None rest none = none
none_rest (Some cause) rest none = cc

none_of_both : (query sets : Option Refusal) → query ≡ None → sets ≡ None →
    option_or query (option_or sets (option_or None None)) ≡ None
none_of_both query sets first second = rw (first, second) refl

-- sets of which none is a cause, and others behind them of which none is one
none_behind : (cause : ℕ → Given → Option Refusal) (n : ℕ) (sets others : List Given) →
    first_of_sets cause n sets ≡ None → first_of_sets cause (n + length sets) others ≡ None →
    first_of_sets cause n (sets ++ others) ≡ None
none_behind cause n [] others none rest =
    let same : n + 0 ≡ n = omega arith in subst (λ (m : ℕ). first_of_sets cause m others ≡ None) same rest
none_behind cause n (set ∷ sets) others none rest =
    let same : n + length (set ∷ sets) ≡ n + 1 + length sets = omega arith in
    let here : cause n set ≡ None = none_first (cause n set) (first_of_sets cause (n + 1) sets) none in
    let later : first_of_sets cause (n + 1) (sets ++ others) ≡ None =
    none_behind cause (n + 1) sets others
    (none_rest (cause n set) (first_of_sets cause (n + 1) sets) none)
    (subst (λ (m : ℕ). first_of_sets cause m others ≡ None) same rest) in
    ap (λ o. option_or o (first_of_sets cause (n + 1) (sets ++ others))) here ∙ later

-- ---- bytes

-- what holds of each of two lists' elements
all_append : {X : Type 0} (P : X → Type 0) (xs ys : List X) → AllByRecursion P xs →
    AllByRecursion P ys → AllByRecursion P (xs ++ ys)
all_append P [] ys first second = second
all_append P (x ∷ xs) ys first second = (first.0, all_append P xs ys first.1 second)

payloads_append : (first second : List SentPayload) → payloads_of (first ++ second) ≡
    payloads_of first ++ payloads_of second
payloads_append first second = map-append (λ (s : SentPayload). s.payload) first second

pub on_the_way_of : (pieces : List (List ℕ)) → payloads_of (map on_the_way pieces) ≡ pieces
on_the_way_of [] = refl
on_the_way_of (piece ∷ pieces) = ap (λ l. piece ∷ l) (on_the_way_of pieces)

pub behind_pieces : (pieces : List (List ℕ)) (last : SentPayload) →
    payloads_of (map on_the_way pieces ++ last ∷ []) ≡ pieces ++ last.payload ∷ []
behind_pieces pieces last = payloads_append (map on_the_way pieces) (last ∷ []) ∙
    ap (λ l. l ++ last.payload ∷ []) (on_the_way_of pieces)

-- the payloads of sets as executions
pub executions_of : (statement : Statement) (sets : List (List Value)) →
    payloads_of (flat_map (as_execution statement) sets) ≡
    flat_map (execution_payloads statement.id) sets
executions_of statement [] = refl
executions_of statement (values ∷ sets) =
    payloads_append (as_execution statement values) (flat_map (as_execution statement) sets)
    ∙ ap (λ l. l ++ payloads_of (flat_map (as_execution statement) sets)) (behind_pieces _ _)
    ∙ ap (λ l. execution_payloads statement.id values ++ l) (executions_of statement sets)

-- the bytes of executions behind what was sent
stream_behind : (statement : Statement) (sent : List SentPayload) (more : List (List Value)) →
    stream_of (sent ++ flat_map (as_execution statement) more) ≡ stream_of sent ++
    framings (flat_map (execution_payloads statement.id) more) EachFromZero
stream_behind statement sent more =
    ap (λ l. framings l EachFromZero)
    (payloads_append sent (flat_map (as_execution statement) more) ∙
    ap (λ l. payloads_of sent ++ l) (executions_of statement more))
    ∙ framings-append (payloads_of sent) (flat_map (execution_payloads statement.id) more)

-- ---- the law

-- values that are given
abbrev given : List Value → Given
given values = Ok values

pub further_sets_are_sent : FurtherSetsAreSent
further_sets_are_sent query sets id limit first more old mid new sent count appends =
    let s : SendsGiven Execute query sets id limit old mid = sent.sends in
    let statement : Statement = statement_of query s.tokens id in
    let cause : ℕ → Given → Option Refusal = set_cause (whole_execution id) (place_count statement.query) (limit - 4) in
    let before : List Given = sets (names_of s.tokens) in
    let query_none : query_cause Execute statement (limit - 4) ≡ None =
    none_first (query_cause Execute statement (limit - 4)) _ s.none in
    let before_none : first_of_sets cause 0 before ≡ None =
    none_first (first_of_sets cause 0 before) _
    (none_rest (query_cause Execute statement (limit - 4)) _ s.none) in
    let at : 0 + length before ≡ first = omega (arith, count) in
    let all_none : first_of_sets cause 0 (before ++ map given more) ≡ None =
    none_behind cause 0 before (map given more) before_none
    (subst (λ (n : ℕ). first_of_sets cause n (map given more) ≡ None) (sym at) appends.none) in
    let executions : List SentPayload = flat_map (as_execution statement) more in
    record {
      sends = record {
        tokens = s.tokens;
        has = s.has;
        values = s.values ++ more;
        given = ap (λ l. l ++ map given more) s.given ∙ sym (map-append given s.values more);
        none = none_of_both (query_cause Execute statement (limit - 4))
            (first_of_sets cause 0 (before ++ map given more)) query_none all_none;
        sent = s.sent ++ executions;
        are_sent = ap (λ l. l ++ executions) s.are_sent ∙
            ap (λ l. prepare_of statement ∷
            l) (sym (flat_map-append (as_execution statement) s.values more));
        appended = appends.appended
            ∙ ap (λ l. l ++ framings (flat_map (execution_payloads id) more) EachFromZero) s.appended
            ∙ append_assoc old (stream_of s.sent) (framings (flat_map (execution_payloads id) more) EachFromZero)
            ∙ ap (λ l. old ++ l) (sym (stream_behind statement s.sent more));
      };
      readable = all_append (IsReadable Execute statement.query) s.values more sent.readable appends.fit;
    }
