-- Steps that are written one behind another: what is left goes on from what was written.
use Rattle.std.proofs.Common.{◌≡◌, ℕ, List, [], ◌++◌, length, take, refl, sym, ap, subst, ◌∙◌, arith, append_assoc}
use Rattle.std.proofs.Common.{append-nil}
use Rattle.std.proofs.lemmas.Grind.{flat_map-append}
use Rattle.std.proofs.lemmas.List.{take_all}
use Rattle.mysql_wire.specs.Stream.{framings}
use Rattle.mysql_wire.specs.Stream.Numbering.{OnFrom}
use Rattle.mysql_reply_events.specs.declared.context.Context.{Context}
use Rattle.mysql_reply_writer.specs.declared.refusal.ReplyRefusal.{ReplyRefusal}
use Rattle.mysql_reply_writer.specs.Fits.{StepsFit}
use Rattle.mysql_reply_writer.specs.Refusals.{Writing, after_steps, steps_cause}
use Rattle.mysql_reply_writer.specs.Written.{Step, step_payloads, steps_payloads}
use Rattle.mysql_reply_writer.specs.Puts.{number_behind}
use Rattle.mysql_reply_writer.specs.Writer.{Refuses, Writer, Wrote, payloads_of}
use Rattle.mysql_reply_writer.proofs.Joined.{after_joined, cause_first, cause_joined, fit_joined, framings_joined}
use Rattle.mysql_reply_writer.proofs.Joined.{kept_front, number_joined, same_context}

-- so many of the steps were written
pub record WroteSoFar (old : Writer) (steps : List Step) (now : Writer) (left : List Step)
    (before after : List ℕ) : Type 0 where
  pub causes : steps_cause old.so_far steps ≡ steps_cause now.so_far left
  pub so_far : after_steps old.so_far steps ≡ after_steps now.so_far left
  pub number : number_behind (payloads_of old steps) old.number ≡ number_behind (payloads_of now left) now.number
  pub bytes : before ++ framings (payloads_of old steps) (OnFrom old.number) ≡ after ++
      framings (payloads_of now left) (OnFrom now.number)
  pub fit : StepsFit left → StepsFit steps
  pub kept : take (length before) after ≡ before

pub none_written : (old : Writer) (steps : List Step) (before : List ℕ) → WroteSoFar old steps old steps before before
none_written old steps before = record {
  causes = refl;
  so_far = refl;
  number = refl;
  bytes = refl;
  fit = λ h. h;
  kept = take_all (length before) before (omega arith);
}

module _ (now : Writer) (these left : List Step) (new : Writer) (mid after : List ℕ)
    (wrote : Wrote now these new mid after) where
  context : new.so_far.context ≡ now.so_far.context
  context = ap (λ (w : Writing). w.context) wrote.so_far ∙ same_context now.so_far these

  payloads : payloads_of now (these ++ left) ≡ payloads_of now these ++ payloads_of new left
  payloads =
      flat_map-append (step_payloads now.so_far.context) these left
      ∙ ap (λ (c : Context). payloads_of now these ++ steps_payloads c left) (sym context)

  on_cause : steps_cause now.so_far (these ++ left) ≡ steps_cause new.so_far left
  on_cause = cause_joined now.so_far these left wrote.allowed ∙
      ap (λ (w : Writing). steps_cause w left) (sym wrote.so_far)

  on_standing : after_steps now.so_far (these ++ left) ≡ after_steps new.so_far left
  on_standing = after_joined now.so_far these left ∙ ap (λ (w : Writing). after_steps w left) (sym wrote.so_far)

  on_number : number_behind (payloads_of now (these ++ left)) now.number ≡
      number_behind (payloads_of new left) new.number
  on_number =
      ap (λ l. number_behind l now.number) payloads
      ∙ number_joined (payloads_of now these) (payloads_of new left) now.number
      ∙ ap (λ (k : ℕ). number_behind (payloads_of new left) k) (sym wrote.number)

  on_bytes : mid ++ framings (payloads_of now (these ++ left)) (OnFrom now.number) ≡ after ++
      framings (payloads_of new left) (OnFrom new.number)
  on_bytes =
      ap (λ l. mid ++ framings l (OnFrom now.number)) payloads
      ∙ ap (λ l. mid ++ l) (framings_joined (payloads_of now these) (payloads_of new left) now.number)
      ∙ sym (append_assoc mid (framings (payloads_of now these) (OnFrom now.number))
      (framings (payloads_of new left)
      (OnFrom (number_behind (payloads_of now these) now.number))))
      ∙ ap (λ l. l ++ framings (payloads_of new left)
      (OnFrom (number_behind (payloads_of now these) now.number))) (sym wrote.appended)
      ∙ ap (λ (k : ℕ). after ++ framings (payloads_of new left) (OnFrom k)) (sym wrote.number)

  pub written_on : (old : Writer) (steps : List Step) (before : List ℕ) →
      WroteSoFar old steps now (these ++ left) before mid →
      WroteSoFar old steps new left before after
  written_on old steps before s = record {
    causes = s.causes ∙ on_cause;
    so_far = s.so_far ∙ on_standing;
    number = s.number ∙ on_number;
    bytes = s.bytes ∙ on_bytes;
    fit = λ h. s.fit (fit_joined these left wrote.fit h);
    kept = ap (λ l. take (length before) l) wrote.appended ∙
        kept_front before mid (framings (payloads_of now these) (OnFrom now.number)) s.kept;
  }

-- all were written
pub all_written : (old : Writer) (steps : List Step) (now : Writer) (before after : List ℕ) →
    WroteSoFar old steps now [] before after → Wrote old steps now before after
all_written old steps now before after s = record {
  allowed = s.causes;
  so_far = sym s.so_far;
  number = sym s.number;
  appended = sym (append-nil after) ∙ sym s.bytes;
  fit = s.fit tt;
}

-- one of them is refused
pub refused_on : (old : Writer) (steps : List Step) (now : Writer) (these left : List Step)
    (before after : List ℕ) (refusal : ReplyRefusal)
    → WroteSoFar old steps now (these ++ left) before after → Refuses now these refusal → Refuses old steps refusal
refused_on old steps now these left before after refusal s refuses other =
    s.causes ∙ cause_first now.so_far these left refusal (refuses other)

-- steps and then others
pub two_written : (old now new : Writer) (xs ys : List Step) (before mid after : List ℕ) →
    Wrote old xs now before mid → Wrote now ys new mid after → Wrote old (xs ++ ys) new before after
two_written old now new xs ys before mid after first second =
    let p = written_on old xs ys now before mid first old (xs ++ ys) before (none_written old (xs ++ ys) before) in
    let q = written_on now ys [] new mid after second old (xs ++ ys) before
    (subst (λ (l : List Step). WroteSoFar old (xs ++ ys) now l before mid) (sym (append-nil ys)) p) in
    all_written old (xs ++ ys) new before after q

-- the first of them is refused
pub first_refused : (old : Writer) (xs ys : List Step) (refusal : ReplyRefusal) →
    Refuses old xs refusal → Refuses old (xs ++ ys) refusal
first_refused old xs ys refusal refuses other = cause_first old.so_far xs ys refusal (refuses other)

-- those behind them are
pub later_refused : (old now : Writer) (xs ys : List Step) (before mid : List ℕ)
    (refusal : ReplyRefusal) → Wrote old xs now before mid → Refuses now ys refusal →
    Refuses old (xs ++ ys) refusal
later_refused old now xs ys before mid refusal first refuses other =
    cause_joined old.so_far xs ys first.allowed ∙
    ap (λ (w : Writing). steps_cause w ys) (sym first.so_far) ∙ refuses other

-- what stood before stands in front
pub front_written : (old now : Writer) (xs : List Step) (before mid : List ℕ) →
    Wrote old xs now before mid → take (length before) mid ≡ before
front_written old now xs before mid wrote =
    ap (λ l. take (length before) l) wrote.appended ∙
    kept_front before before (framings (payloads_of old xs) (OnFrom old.number))
    (take_all (length before) before (omega arith))
