-- Steps against which nothing speaks: nothing speaks against each, and their payloads are within the limit and few.
use Rattle.std.proofs.Common.{◌≡◌, ℕ, ◌+◌, ◌≤◌, ◌<◌, ◌&&◌, Bool, true, false, if◌then◌else◌, List, [], ◌∷◌, ◌++◌}
use Rattle.std.proofs.Common.{length, min, nat_le, nat_lt, Option, Some, None, refl, arith, length-append}
use Rattle.std.specs.List.{AllByRecursion}
use Rattle.std.proofs.lemmas.Bool.{leb-true, ltb-true}
use Rattle.mysql_reply_events.specs.Readings.{deprecate_eof}
use Rattle.mysql_reply_writer.specs.declared.refusal.ReplyRefusal.{ReplyRefusal}
use Rattle.mysql_reply_writer.specs.declared.refusal.ReplyRefusal.TheVariants.{PacketTooLarge}
use Rattle.mysql_reply_writer.specs.Refusals.{Writing, after_step, cause_if, first_cause, or_cause, step_cause}
use Rattle.mysql_reply_writer.specs.Refusals.{step_checks, step_room, steps_cause, too_large}
use Rattle.mysql_reply_writer.specs.Written.{ColumnsStep, EndStep, ErrorStep, FileStep, OkStep, PreparedStep}
use Rattle.mysql_reply_writer.specs.Written.{ReportStep, RowStep, Step, UnwrittenStep, step_payloads, steps_payloads}

pub neither : (a b : Option ReplyRefusal) → or_cause a b ≡ None → (a ≡ None) × (b ≡ None)
neither (Some cause) b h = absurd cc
neither None b h = (refl, h)

pub unless : (b : Bool) (cause : ReplyRefusal) → cause_if b cause ≡ None → b ≡ false
unless true cause h = absurd cc
unless false cause h = refl

pub both_true : (a b : Bool) → (a && b) ≡ true → (a ≡ true) × (b ≡ true)
both_true true b h = (refl, h)
both_true false b h = absurd cc

pub fits_then : (b : Bool) (later : Option ReplyRefusal) (cause : ReplyRefusal) →
    (if b then later else Some cause) ≡ None → (b ≡ true) × (later ≡ None)
fits_then true later cause h = (refl, h)
fits_then false later cause h = absurd cc

-- nothing speaks against the first of some payloads, nor the others
pub first_fits : (room n : ℕ) (payload : List ℕ) (payloads : List (List ℕ)) →
    too_large room n (payload ∷ payloads) ≡ None
    → (length payload ≤ room) × (n < 18446744073709551615) × (too_large room (n + 1) payloads ≡ None)
first_fits room n payload payloads h =
    let p = fits_then (nat_le (length payload) room && nat_lt n 18446744073709551615)
    (too_large room (n + 1) payloads) (PacketTooLarge n) h in
    let q = both_true (nat_le (length payload) room) (nat_lt n 18446744073709551615) p.0 in
    (leb-true (length payload) room q.0, ltb-true n 18446744073709551615 q.1, p.1)

abbrev pub Within : ℕ → List (List ℕ) → Type 0
Within limit payloads = AllByRecursion (λ payload. length payload ≤ limit) payloads

within_more : (room limit n : ℕ) (payloads : List (List ℕ)) → room ≤ limit →
    too_large room n payloads ≡ None → Within limit payloads
within_more room limit n [] le h = tt
within_more room limit n (payload ∷ payloads) le h =
    let p = first_fits room n payload payloads h in
    (omega (arith, p.0), within_more room limit (n + 1) payloads le p.2)

few : (room n : ℕ) (payloads : List (List ℕ)) → n ≤ 18446744073709551615 →
    too_large room n payloads ≡ None → n + length payloads ≤ 18446744073709551615
few room n [] le h = omega arith
few room n (payload ∷ payloads) le h =
    let p = first_fits room n payload payloads h in
    omega (arith, few room (n + 1) payloads (omega (arith, p.1)) p.2)

-- of two lists
pub all_both : {X : Type 0} (P : X → Type 0) (xs ys : List X) → AllByRecursion P xs →
    AllByRecursion P ys → AllByRecursion P (xs ++ ys)
all_both P [] ys h k = k
all_both P (x ∷ xs) ys h k = (h.0, all_both P xs ys h.1 k)

min_le : (a b : ℕ) → min a b ≤ a
min_le a b = omega arith

room_below : (d : Bool) (limit : ℕ) → (if d then min limit 16777214 else limit) ≤ limit
room_below true limit = min_le limit 16777214
room_below false limit = omega arith

pub room_within : (w : Writing) (step : Step) → step_room w step ≤ w.limit
room_within w (ReportStep report) = omega arith
room_within w (OkStep more ok) = omega arith
room_within w (ColumnsStep columns) = omega arith
room_within w (RowStep columns row) = omega arith
room_within w (EndStep more ok) = room_below (deprecate_eof w.context) w.limit
room_within w (ErrorStep error) = omega arith
room_within w (FileStep name) = omega arith
room_within w (PreparedStep statement parameters columns) = omega arith
room_within w UnwrittenStep = omega arith

-- nothing speaks against a step and those behind it
pub record Allowed (w : Writing) (step : Step) (steps : List Step) : Type 0 where
  pub checks : first_cause (step_checks w step) ≡ None
  pub sizes : too_large (step_room w step) w.payloads (step_payloads w.context step) ≡ None
  pub rest : steps_cause (after_step w step) steps ≡ None

pub allowed : (w : Writing) (step : Step) (steps : List Step) → steps_cause w (step ∷ steps) ≡
    None → Allowed w step steps
allowed w step steps h =
    let p = neither (step_cause w step) (steps_cause (after_step w step) steps) h in
    let q = neither (first_cause (step_checks w step))
    (too_large (step_room w step) w.payloads (step_payloads w.context step)) p.0 in
    record { checks = q.0; sizes = q.1; rest = p.1 }

-- all payloads of such steps are within the limit
pub steps_within : (w : Writing) (steps : List Step) → steps_cause w steps ≡ None →
    Within w.limit (steps_payloads w.context steps)
steps_within w [] h = tt
steps_within w (step ∷ steps) h =
    let a = allowed w step steps h in
    all_both (λ payload. length payload ≤ w.limit) (step_payloads w.context step) (steps_payloads w.context steps)
    (within_more (step_room w step) w.limit w.payloads (step_payloads w.context step) (room_within w step) a.sizes)
    (steps_within (after_step w step) steps a.rest)

-- and few
pub steps_few : (w : Writing) (steps : List Step) → w.payloads ≤ 18446744073709551615 → steps_cause w steps ≡ None
    → w.payloads + length (steps_payloads w.context steps) ≤ 18446744073709551615
steps_few w [] le h = omega arith
steps_few w (step ∷ steps) le h =
    let a = allowed w step steps h in
    let here : w.payloads + length (step_payloads w.context step) ≤ 18446744073709551615 =
    few (step_room w step) w.payloads (step_payloads w.context step) le a.sizes in
    let there : (w.payloads + length (step_payloads w.context step)) + length
    (steps_payloads w.context steps) ≤ 18446744073709551615 =
    steps_few (after_step w step) steps here a.rest in
    omega (arith, there, length-append (step_payloads w.context step) (steps_payloads w.context steps))
