-- Bulk requests, writers and recodings.
use Rattle.std.proofs.Common.{◌≡◌, ◌++◌, ℕ, zero, suc, ◌+◌, ◌<◌, ◌≤◌, List, [], ◌∷◌, Option, Some, length, get_or, refl}
use Rattle.std.proofs.Common.{ap, ◌∙◌, inl, inr, arith, length-append}
use Rattle.mysql_bulk_builder.specs.Bulk.{bulk_execution}
use Rattle.mysql_bulk_builder.specs.TypedCut.{HasKnownColumns}
use Rattle.mysql_bulk_builder.specs.TypedCutLaws.{TightTypedIsUnique, WholeIsTight}
use Rattle.mysql_command_rules.specs.Sent.{SentPayload, as_execution, payloads_of, prepare_of}
use Rattle.mysql_command_rules.specs.declared.refusal.Refusal.{Refusal}
use Rattle.mysql_command_rules.specs.declared.refusal.Refusal.TheVariants.{WrongCount}
use Rattle.mysql_queries.specs.Laws.{OneTokens}
use Rattle.mysql_queries.specs.Sql.{default_mode, read_by_default}
use Rattle.mysql_queries.specs.Tokens.{HasTokens}
use Rattle.mysql_receive.specs.Query.{statement_of}
use Rattle.mysql_recoding.specs.AsItComes.{prepare_behind}
use Rattle.mysql_recoding.specs.Causes.{values_of_sets}
use Rattle.std.specs.List.{flat_map}
use Rattle.mysql_wire.specs.Framing.{chunks, framing}
use Rattle.mysql_wire.specs.Stream.{framings}
use Rattle.mysql_wire.specs.Stream.Numbering.{EachFromZero}
use Rattle.mysql_witnesses.specs.Sending.{FailuresLeaveSomeUntaken, FirstValuesBringTheirType, FrontsAreOfTheTightCut}
use Rattle.mysql_witnesses.specs.Sending.{FurtherSetsAreNumberedOn}
use Rattle.mysql_witnesses.specs.Sending.{KeptQueriesMayRunTogether, OneRequestHoldsBothRows}
use Rattle.mysql_witnesses.specs.Sending.{RefusalsComeBeforeTheirSet, RefusedSetsAreNotFlushed}
use Rattle.mysql_witnesses.specs.Sending.{RequestsKeepToTheRoom, StreamsAreNotCopied, StreamsArePreparedOnce}
use Rattle.mysql_witnesses.specs.Sending.{TypesAreNotRepeated, two_nulls, typed}

-- ---- bulk requests

pub one_request_holds_both_rows : WholeIsTight → TightTypedIsUnique → OneRequestHoldsBothRows
one_request_holds_both_rows whole one cut tight =
    one 11 1 two_nulls cut (typed 2 ∷
    []) tight (whole 11 1 two_nulls (let some : 0 < 2 = omega arith in some) (let fits : 11 ≤ 11 =
    omega arith in fits))

pub requests_keep_to_the_room : RequestsKeepToTheRoom
requests_keep_to_the_room tight = let fits : 11 ≤ 10 = tight.parts_tight.0.fits in absurd (omega arith)

no_value : HasKnownColumns 1 two_nulls 1 1
no_value zero h v = let n : 0 < 0 = v in absurd (omega arith)
no_value (suc column) h v = absurd (omega arith)

pub types_are_not_repeated : TypesAreNotRepeated
types_are_not_repeated tight =
    tight.parts_tight.1.0.typed_at_need refl (
      omega arith,
      (let fits : 8 ≤ 10 = omega arith in fits),
      no_value,
    )

pub first_values_bring_their_type : FirstValuesBringTheirType
first_values_bring_their_type room fits = let known : 0 < 0 =
    fits.2 0 (omega arith) (let there : 0 < 1 = omega arith in there) in absurd (omega arith)

pub fronts_are_of_the_tight_cut : FrontsAreOfTheTightCut
unfolding bulk_execution framing chunks
fronts_are_of_the_tight_cut front back e = let n : ◌≡◌ {A = ℕ} 0x0b 0x0a =
    ap (λ (l : List ℕ). get_or l 0 0) e in absurd (omega arith)

-- ---- refusals

pub further_sets_are_numbered_on : FurtherSetsAreNumberedOn
further_sets_are_numbered_on (inl e) = cc
further_sets_are_numbered_on (inr e) =
    let f : ◌≡◌ {A = Option Refusal} (Some (WrongCount 3)) (Some (WrongCount 0)) = e in
    let n : ◌≡◌ {A = ℕ} 3 0 = cc in absurd (omega arith)

some_untaken : (front back : List ℕ) → 7 ∷ [] ≡ front → 7 ∷ [] ≡ front ++ back → 0 < length back → ⊥
some_untaken front [] e f h = absurd (omega arith)
some_untaken front (b ∷ back) e f h =
    let n = ap length e in let m = ap length f ∙ length-append front (b ∷ back) in absurd (omega arith)

pub failures_leave_some_untaken : FailuresLeaveSomeUntaken
failures_leave_some_untaken h = some_untaken h.front h.back h.taken h.parts h.untaken

pub refused_sets_are_not_flushed : RefusedSetsAreNotFlushed
refused_sets_are_not_flushed refusal set new h = h.3

pub refusals_come_before_their_set : RefusalsComeBeforeTheirSet
refusals_come_before_their_set query set id limit old new refusal h = elim h.1 [
  | inl stops ↦ (let n = stops.none in absurd (omega arith))
  | inr stops ↦ (let n = stops.inside in absurd (omega arith))
]

pub kept_queries_may_run_together : KeptQueriesMayRunTogether
kept_queries_may_run_together sql id place h = elim h.mixed [ inl e ↦ cc | inr e ↦ (let f = e.0 in cc) ]

-- ---- recodings

has_none : HasTokens default_mode [] []
has_none = record { joined = refl; each = tt }

prepared : (old : List ℕ) (sent : List SentPayload) (others : List (List ℕ)) → payloads_of sent ≡
    (0x16 ∷ []) ∷ others → old ≡ old ++ framings (payloads_of sent) EachFromZero → ⊥
unfolding framing chunks
prepared old sent others e f =
    let more = framings others EachFromZero in
    let g : old ≡ old ++ (1 ∷ 0 ∷ 0 ∷ 0 ∷ 0x16 ∷ more) = f ∙
    ap (λ (l : List (List ℕ)). old ++ framings l EachFromZero) e in
    let n = ap length g ∙ length-append old (1 ∷ 0 ∷ 0 ∷ 0 ∷ 0x16 ∷ more) in absurd (omega arith)

pub streams_are_not_copied : OneTokens → StreamsAreNotCopied
streams_are_not_copied one id limit old h =
    let none = one default_mode [] h.tokens [] h.has has_none in
    let others = payloads_of (flat_map
    (as_execution (statement_of (read_by_default []) h.tokens id))
    (values_of_sets h.audit.sets)) in
    prepared old h.sent others (ap payloads_of h.are_sent ∙
    ap (λ (t : List (List ℕ)). (prepare_of (statement_of (read_by_default []) t id)).payload ∷
    others) none) h.appended

pub streams_are_prepared_once : StreamsArePreparedOnce
streams_are_prepared_once terms old new piece appended set sets h e = h.prepare ∙ ap (prepare_behind old) e
