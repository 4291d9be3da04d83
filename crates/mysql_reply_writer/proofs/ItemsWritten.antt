-- The steps of a slice's items, written item by item.
use Rattle.std.proofs.Common.{◌≡◌, ℕ, ◌+◌, ◌≤◌, List, [], ◌∷◌, ◌++◌, length, drop, ap, subst, ◌∙◌}
use Rattle.std.proofs.lemmas.List.{drop_all}
use Rattle.mysql_reply_writer.specs.declared.refusal.ReplyRefusal.{ReplyRefusal}
use Rattle.mysql_reply_writer.specs.Written.{Step}
use Rattle.mysql_reply_writer.specs.Writer.{Refuses, Writer, Wrote}
use Rattle.mysql_reply_writer.proofs.Steps.{WroteSoFar, all_written, refused_on, written_on}

module _ {X : Type 0} (steps_of : List X → List Step) (old now : Writer) (xs : List X) (i : ℕ)
    (before mid : List ℕ) (s : WroteSoFar old (steps_of xs) now (steps_of (drop i xs)) before mid)
  where
    module _ (x : X) (here : drop i xs ≡ x ∷ drop (i + 1) xs) (these : List Step)
        (split : steps_of (x ∷ drop (i + 1) xs) ≡ these ++ steps_of (drop (i + 1) xs)) where
      from_here : WroteSoFar old (steps_of xs) now (these ++ steps_of (drop (i + 1) xs)) before mid
      from_here = subst (λ (l : List Step). WroteSoFar old (steps_of xs) now l before mid) (ap steps_of here ∙ split) s

      pub item_written : (new : Writer) (after : List ℕ) → Wrote now these new mid after →
          WroteSoFar old (steps_of xs) new (steps_of (drop (i + 1) xs)) before after
      item_written new after wrote =
          written_on now these (steps_of (drop (i + 1) xs)) new mid after wrote old (steps_of xs)
          before from_here

      pub item_refused : (refusal : ReplyRefusal) → Refuses now these refusal → Refuses old (steps_of xs) refusal
      item_refused refusal refuses =
          refused_on old (steps_of xs) now these (steps_of (drop (i + 1) xs)) before mid refusal
          from_here refuses

    -- all items were written
    pub all_items : length xs ≤ i → steps_of [] ≡ [] → Wrote old (steps_of xs) now before mid
    all_items passed none =
        all_written old (steps_of xs) now before mid
        (subst (λ (l : List Step). WroteSoFar old (steps_of xs) now l before mid)
        (ap steps_of (drop_all i xs passed) ∙ none) s)
