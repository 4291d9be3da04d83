-- What can be put isn't refused.
use Rattle.std.proofs.Common.{◌≡◌, ◌⊎◌, inl, inr, ℕ, ◌≤◌, ◌<◌, Bool, true, false, List, Option, Some, Ok, refl, ap, sym}
use Rattle.std.proofs.Common.{subst, ◌∙◌, length, arith}
use Rattle.std.specs.Prelude.{nat_le}
use Rattle.std.proofs.lemmas.Bool.Decides.{nat_tests}
use Rattle.mysql_connection_rules.specs.Events.{Event, side_of}
use Rattle.mysql_connection_rules.specs.Standing.{Standing, kept}
use Rattle.mysql_connection_rules.specs.Streams.{World, limit_of, room_to_keep}
use Rattle.mysql_connection_rules.specs.Puts.{is_due, step_for}
use Rattle.mysql_connection_rules.specs.AgreementLaws.{PutOrRefused, PutsAreNotRefused, RefusalsAreOne}
use Rattle.mysql_connection_rules.specs.Refusals.{IsPutBy, IsSaid, IsSaidBy, IsUnsaid, PutRefusal, Refuses, NotDue}
use Rattle.mysql_connection_rules.specs.Refusals.{BadEvent, TooLarge, Held}

same_payload : (a b : List ℕ) → Some a ≡ Some b → b ≡ a
same_payload a b e = cc

not_longer : (limit : ℕ) (a b : List ℕ) → b ≡ a → length a ≤ limit → limit < length b → ⊥
not_longer limit a b e h k = let same : length b ≡ length a = ap length e in omega arith

not_both : (a b : ℕ) → a ≤ b → b < a → ⊥
not_both a b h k = omega arith

-- a payload leads to one standing
one_after : (event : Event) (s : Standing) (a b : List ℕ) (x y : Standing) → b ≡ a →
    step_for event s a ≡ Ok (event, x) → step_for event s b ≡ Ok (event, y) → y ≡ x
one_after event s a b x y e p q =
    let said : Ok (event, y) ≡ Ok (event, x) = sym q ∙ ap (step_for event s) e ∙ p in
    let pair : (event, y) ≡ (event, x) = cc said in
    ap (λ (p : Event × Standing). p.1) pair

pub puts_are_not_refused : PutsAreNotRefused
puts_are_not_refused w event payload after NotDue may refused = cc (sym may.due ∙ refused)
puts_are_not_refused w event payload after BadEvent may refused = refused.1 after may.says
puts_are_not_refused w event payload after TooLarge may refused =
    not_longer (limit_of (side_of event) w.limits) payload refused.0
    (same_payload payload refused.0 refused.2.is_written) may.within refused.3
puts_are_not_refused w event payload after Held may refused =
    let said = refused.2 in
    let same = one_after event w.standing payload refused.0 after refused.1
    (same_payload payload refused.0 said.is_written) may.says said.says in
    not_both (kept refused.1) (room_to_keep w.limits)
    (subst (λ (s : Standing). kept s ≤ room_to_keep w.limits) (sym same) may.keeps) refused.4

-- ---- one cause

not_due : (w : World) (event : Event) → is_due w event ≡ true → is_due w event ≡ false → ⊥
not_due w event e h = cc (sym e ∙ h)

unsaid_not : (w : World) (event : Event) (written : Option (List ℕ)) (payload : List ℕ)
    (after : Standing) → IsSaid w event written payload after → IsUnsaid w event written → ⊥
unsaid_not w event written payload after said h = subst (IsUnsaid w event) said.is_written h after said.says

large_not : (w : World) (event : Event) (written : Option (List ℕ)) (a b : List ℕ)
    (x y : Standing) → IsSaid w event written a x → IsSaid w event written b y
    → length a ≤ limit_of (side_of event) w.limits → limit_of (side_of event) w.limits < length b → ⊥
large_not w event written a b x y p q h k =
    not_longer (limit_of (side_of event) w.limits) a b
    (same_payload a b (sym p.is_written ∙ q.is_written)) h k

pub refusals_are_one : RefusalsAreOne
refusals_are_one w event written NotDue NotDue p q = refl
refusals_are_one w event written NotDue BadEvent p q = absurd (not_due w event q.0 p)
refusals_are_one w event written NotDue TooLarge p q = absurd (not_due w event q.2.due p)
refusals_are_one w event written NotDue Held p q = absurd (not_due w event q.2.due p)
refusals_are_one w event written BadEvent NotDue p q = absurd (not_due w event p.0 q)
refusals_are_one w event written BadEvent BadEvent p q = refl
refusals_are_one w event written BadEvent TooLarge p q = absurd (unsaid_not w event written q.0 q.1 q.2 p.1)
refusals_are_one w event written BadEvent Held p q = absurd (unsaid_not w event written q.0 q.1 q.2 p.1)
refusals_are_one w event written TooLarge NotDue p q = absurd (not_due w event p.2.due q)
refusals_are_one w event written TooLarge BadEvent p q = absurd (unsaid_not w event written p.0 p.1 p.2 q.1)
refusals_are_one w event written TooLarge TooLarge p q = refl
refusals_are_one w event written TooLarge Held p q = absurd (large_not w event written q.0 p.0 q.1 p.1 q.2 p.2 q.3 p.3)
refusals_are_one w event written Held NotDue p q = absurd (not_due w event p.2.due q)
refusals_are_one w event written Held BadEvent p q = absurd (unsaid_not w event written p.0 p.1 p.2 q.1)
refusals_are_one w event written Held TooLarge p q = absurd (large_not w event written p.0 q.0 p.1 q.1 p.2 q.2 p.3 q.3)
refusals_are_one w event written Held Held p q = refl

-- ---- put or refused

within_or : (a b : ℕ) (fits : Bool) → nat_le a b ≡ fits → (a ≤ b) ⊎ (b < a)
within_or a b true e = inl (grind (arith, nat_tests))
within_or a b false e = inr (grind (arith, nat_tests))

abbrev Outcome : World → Event → Option (List ℕ) → Type 0
Outcome w event written = IsPutBy w event written ⊎ ((cause : PutRefusal) × Refuses w event written cause)

by_kept : (w : World) (event : Event) (written : Option (List ℕ)) (payload : List ℕ)
    (after : Standing) → IsSaid w event written payload after
    → length payload ≤ limit_of (side_of event) w.limits → (kept after ≤ room_to_keep w.limits) ⊎
    (room_to_keep w.limits < kept after) → Outcome w event written
by_kept w event written payload after said h (inl k) =
    inl (
      payload,
      after,
      said.is_written,
      record { due = said.due; says = said.says; within = h; keeps = k },
    )
by_kept w event written payload after said h (inr k) = inr (Held, (payload, after, said, h, k))

by_length : (w : World) (event : Event) (written : Option (List ℕ)) (payload : List ℕ)
    (after : Standing) → IsSaid w event written payload after
    → (length payload ≤ limit_of (side_of event) w.limits) ⊎
    (limit_of (side_of event) w.limits < length payload) → Outcome w event written
by_length w event written payload after said (inl h) =
    by_kept w event written payload after said h
    (within_or (kept after) (room_to_keep w.limits)
    (nat_le (kept after) (room_to_keep w.limits)) refl)
by_length w event written payload after said (inr h) = inr (TooLarge, (payload, after, said, h))

by_said : (w : World) (event : Event) (written : Option (List ℕ)) → is_due w event ≡ true →
    IsSaidBy w event written ⊎ IsUnsaid w event written → Outcome w event written
by_said w event written due (inl said) =
    let limit = limit_of (side_of event) w.limits in
    by_length w event written said.0 said.1 (record { due = due; is_written = said.2; says = said.3 })
    (within_or (length said.0) limit (nat_le (length said.0) limit) refl)
by_said w event written due (inr unsaid) = inr (BadEvent, (due, unsaid))

by_due : (w : World) (event : Event) (written : Option (List ℕ)) (due : Bool) → is_due w event ≡
    due → IsSaidBy w event written ⊎ IsUnsaid w event written → Outcome w event written
by_due w event written true e told = by_said w event written e told
by_due w event written false e told = inr (NotDue, e)

pub put_or_refused : PutOrRefused
put_or_refused w event written told = by_due w event written (is_due w event) refl told
