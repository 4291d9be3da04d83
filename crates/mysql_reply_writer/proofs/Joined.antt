-- Lists of payloads and of steps, one behind another.
use Rattle.std.proofs.Common.{◌≡◌, ℕ, ◌+◌, ◌≤◌, ◌&&◌, Bool, true, false, if◌then◌else◌, List, [], ◌∷◌, ◌++◌, length}
use Rattle.std.proofs.Common.{take, nat_le, nat_lt, Option, Some, None, refl, sym, ap, ◌∙◌, arith, append_assoc}
use Rattle.std.proofs.lemmas.List.{length-take, take-append-le, take-take}
use Rattle.mysql_wire.specs.Framing.{framing, number_after}
use Rattle.mysql_wire.specs.Stream.{framings}
use Rattle.mysql_wire.specs.Stream.Numbering.{OnFrom}
use Rattle.mysql_reply_writer.specs.declared.refusal.ReplyRefusal.{ReplyRefusal}
use Rattle.mysql_reply_writer.specs.declared.refusal.ReplyRefusal.TheVariants.{PacketTooLarge}
use Rattle.mysql_reply_writer.specs.Fits.{StepsFit}
use Rattle.mysql_reply_writer.specs.Refusals.{Writing, after_step, after_steps, or_cause, step_cause, steps_cause}
use Rattle.mysql_reply_writer.specs.Refusals.{too_large}
use Rattle.mysql_reply_writer.specs.Written.{Step}
use Rattle.mysql_reply_writer.specs.Puts.{number_behind}
use Rattle.mysql_reply_writer.proofs.Causes.{fits_then}

pub number_joined : (xs ys : List (List ℕ)) (number : ℕ) → number_behind (xs ++ ys) number ≡
    number_behind ys (number_behind xs number)
number_joined [] ys number = refl
number_joined (x ∷ xs) ys number = number_joined xs ys (number_after x number)

pub framings_joined : (xs ys : List (List ℕ)) (number : ℕ)
    → framings (xs ++ ys) (OnFrom number) ≡ framings xs (OnFrom number) ++
    framings ys (OnFrom (number_behind xs number))
framings_joined [] ys number = refl
framings_joined (x ∷ xs) ys number =
    ap (λ l. framing x number ++ l) (framings_joined xs ys (number_after x number))
    ∙ sym (append_assoc (framing x number) (framings xs (OnFrom (number_after x number)))
    (framings ys (OnFrom (number_behind xs (number_after x number)))))

-- what speaks against payloads behind others against which nothing does
pub large_joined : (room n : ℕ) (xs ys : List (List ℕ)) → too_large room n xs ≡ None →
    too_large room n (xs ++ ys) ≡ too_large room (n + length xs) ys
large_joined room n [] ys h = ap (λ (k : ℕ). too_large room k ys) (omega arith)
large_joined room n (x ∷ xs) ys h =
    let p = fits_then (nat_le (length x) room && nat_lt n 18446744073709551615)
    (too_large room (n + 1) xs) (PacketTooLarge n) h in
    rw p.0 (large_joined room (n + 1) xs ys p.1 ∙ ap (λ (k : ℕ). too_large room k ys) (omega arith))

-- what speaks against the first of them speaks against all
pub large_first : (room n : ℕ) (xs ys : List (List ℕ)) (cause : ReplyRefusal) →
    too_large room n xs ≡ Some cause → too_large room n (xs ++ ys) ≡ Some cause
large_first room n [] ys cause h = absurd cc
large_first room n (x ∷ xs) ys cause h =
    go (nat_le (length x) room && nat_lt n 18446744073709551615) (λ k. large_first room (n + 1) xs ys cause k) h where
      go : (b : Bool) → (too_large room (n + 1) xs ≡ Some cause → too_large room (n + 1) (xs ++ ys) ≡ Some cause)
          → (if b then too_large room (n + 1) xs else Some (PacketTooLarge n)) ≡ Some cause →
          (if b then too_large room (n + 1) (xs ++ ys) else Some (PacketTooLarge n)) ≡
          Some cause
      go true later k = later k
      go false later k = k

-- the same of steps
pub cause_joined : (w : Writing) (xs ys : List Step) → steps_cause w xs ≡ None →
    steps_cause w (xs ++ ys) ≡ steps_cause (after_steps w xs) ys
cause_joined w [] ys h = refl
cause_joined w (x ∷ xs) ys h = go (step_cause w x) (λ k. cause_joined (after_step w x) xs ys k) h where
  go : (c : Option ReplyRefusal)
      → (steps_cause (after_step w x) xs ≡ None → steps_cause (after_step w x) (xs ++ ys) ≡
      steps_cause (after_steps (after_step w x) xs) ys)
      → or_cause c (steps_cause (after_step w x) xs) ≡ None
      → or_cause c (steps_cause (after_step w x) (xs ++ ys)) ≡ steps_cause (after_steps (after_step w x) xs) ys
  go None later k = later k
  go (Some c) later k = absurd cc

pub cause_first : (w : Writing) (xs ys : List Step) (cause : ReplyRefusal) → steps_cause w xs ≡
    Some cause → steps_cause w (xs ++ ys) ≡ Some cause
cause_first w [] ys cause h = absurd cc
cause_first w (x ∷ xs) ys cause h = go (step_cause w x) (λ k. cause_first (after_step w x) xs ys cause k) h where
  go : (c : Option ReplyRefusal)
      → (steps_cause (after_step w x) xs ≡ Some cause → steps_cause (after_step w x) (xs ++ ys) ≡ Some cause)
      → or_cause c (steps_cause (after_step w x) xs) ≡ Some cause →
      or_cause c (steps_cause (after_step w x) (xs ++ ys)) ≡ Some cause
  go None later k = later k
  go (Some c) later k = k

pub after_joined : (w : Writing) (xs ys : List Step) → after_steps w (xs ++ ys) ≡ after_steps (after_steps w xs) ys
after_joined w [] ys = refl
after_joined w (x ∷ xs) ys = after_joined (after_step w x) xs ys

pub same_context : (w : Writing) (xs : List Step) → (after_steps w xs).context ≡ w.context
same_context w [] = refl
same_context w (x ∷ xs) = same_context (after_step w x) xs

pub fit_joined : (xs ys : List Step) → StepsFit xs → StepsFit ys → StepsFit (xs ++ ys)
fit_joined [] ys h k = k
fit_joined (x ∷ xs) ys h k = (h.0, fit_joined xs ys h.1 k)

-- what stood in front stands there still
pub kept_front : (old mid more : List ℕ) → take (length old) mid ≡ old → take (length old) (mid ++ more) ≡ old
kept_front old mid more h =
    let long : length old ≤ length mid = omega (arith, ap length h, length-take (length old) mid) in
    take-append-le (length old) mid more long ∙ h

pub kept_on : (old mid new : List ℕ) → take (length old) mid ≡ old → take (length mid) new ≡ mid →
    take (length old) new ≡ old
kept_on old mid new h k =
    let long : length old ≤ length mid = omega (arith, ap length h, length-take (length old) mid) in
    sym (take-take (length old) (length mid) new long) ∙ ap (λ (l : List ℕ). take (length old) l) k ∙ h
