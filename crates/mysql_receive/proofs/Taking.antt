-- Sets that are taken of a receiver: once they are put back, it holds what it would hold had none been taken.
use Rattle.std.proofs.Common.{◌≡◌, ℕ, List, [], ◌++◌, Option, Some, None, refl, sym, ap, subst, ◌∙◌, append_assoc}
use Rattle.std.specs.List.{concat, flat_map}
use Rattle.std.proofs.lemmas.List.{append-nil}
use Rattle.mysql_wire.specs.GoingOn.{ReaderLaws}
use Rattle.mysql_receive.specs.declared.fault.StreamFault.{StreamFault}
use Rattle.mysql_receive.specs.Query.{Statement}
use Rattle.mysql_receive.specs.Reading.{Set}
use Rattle.mysql_receive.specs.Audit.{Audit, Audited, OutOfMemory}
use Rattle.mysql_receive.specs.GoingOn.{ReceiverState, ReceiverDecidesBy, ReceiverDecides, ReceiverGoesOn, TakesAll}
use Rattle.mysql_receive.specs.GoingOn.{RunsShort}
use Rattle.mysql_receive.specs.Taking.{with_sets, TakesSets, Feeds, Run, fresh, feeds, takes}
use Rattle.mysql_receive.specs.Laws.{TakenSetsAreTheAudit}
use Rattle.mysql_receive.proofs.About.{of_tokens}
use Rattle.mysql_receive.proofs.Receiving.{SoFar, so_far_nothing, so_far_next, audit_so_far, memory_so_far}

-- what is held with these sets before its own
abbrev pub put_back : List Set → ReceiverState → ReceiverState
put_back taken s = record s { sets = taken ++ s.sets }

module _ (c : Statement) (limit : ℕ) (taken : List Set) where
  -- it decides the audits with these sets before their own
  pub decides_more : (s : ReceiverState) (o : Option StreamFault) (z : List ℕ) (a : Audit) →
      ReceiverDecidesBy c limit s o z a →
      ReceiverDecidesBy c limit (put_back taken s) o z (with_sets taken a)
  decides_more s (Some f) z a d = (ap (λ (l : List Set). taken ++ l) d.0, d.1)
  decides_more s None z a d = (
    d.0,
    d.1,
    d.2,
    ap (λ (l : List Set). taken ++ l) d.3 ∙ sym (append_assoc taken s.sets d.1),
    d.4,
  )

  -- and no others
  decides_own : (s : ReceiverState) (o : Option StreamFault) (z : List ℕ) (a : Audit) →
      ReceiverDecidesBy c limit (put_back taken s) o z a
      → (b : Audit) × (with_sets taken b ≡ a) × ReceiverDecidesBy c limit s o z b
  decides_own s (Some f) z a d = (
    record { sets = s.sets; ending = a.ending },
    λ i. record { sets = sym d.0 i; ending = a.ending },
    (refl, d.1),
  )
  decides_own s None z a d = (
    record { sets = s.sets ++ d.1; ending = a.ending },
    λ i. record { sets = sym (d.3 ∙ append_assoc taken s.sets d.1) i; ending = a.ending },
    (d.0, d.1, d.2, refl, d.4),
  )

  module _ (old new : ReceiverState) (piece : List ℕ) where
    goes_more : ReceiverGoesOn c limit old piece new →
        ReceiverGoesOn c limit (put_back taken old) piece (put_back taken new)
    goes_more h z a are d =
        let own = decides_own new new.fault z a d in
        subst (λ (b : Audit). ReceiverDecides c limit (put_back taken old) (piece ++ z) b) own.1
        (decides_more old old.fault (piece ++ z) own.0 (h z own.0 are own.2))

    sets_more : (reads : List (List Set)) → new.sets ≡ old.sets ++ flat_map (λ sets. sets) reads →
        taken ++ new.sets ≡ (taken ++ old.sets) ++ flat_map (λ sets. sets) reads
    sets_more reads e = ap (λ (l : List Set). taken ++ l) e ∙
        sym (append_assoc taken old.sets (flat_map (λ sets. sets) reads))

    takes_more : TakesAll c limit old piece new → TakesAll c limit (put_back taken old) piece (put_back taken new)
    takes_more h = record {
      split = h.split;
      is_split = h.is_split;
      no_fault = h.no_fault;
      partial = h.partial;
      count = h.count;
      reads = h.reads;
      each = h.each;
      sets = sets_more h.reads h.sets;
      state = h.state;
    }

    short_more : RunsShort c limit old piece new → RunsShort c limit (put_back taken old) piece (put_back taken new)
    short_more h = record {
      split = h.split;
      is_split = h.is_split;
      reads = h.reads;
      each = h.each;
      sets = sets_more h.reads h.sets;
      count = h.count;
      fault = h.fault;
    }

    -- so a piece that is fed behind a take is fed as if none had been
    feeds_more : Feeds c limit old piece new → Feeds c limit (put_back taken old) piece (put_back taken new)
    feeds_more h = record {
      goes_on = λ never. goes_more (h.goes_on never);
      short = λ none memory. short_more (h.short none memory);
      takes = λ none. takes_more (h.takes none);
      stays = λ f e. ap (put_back taken) (h.stays f e);
    }

-- ---- a take

all_back : (s : ReceiverState) (taken : List Set) →
    put_back (taken ++ s.sets) (record s { sets = [] }) ≡ put_back taken s
all_back s taken = λ i. record s { sets = append-nil (taken ++ s.sets) i }

-- put back, the sets stand behind those that were taken before
taken_back : (old new : ReceiverState) (taken more : List Set) → TakesSets old more new →
    put_back taken old ≡ put_back (taken ++ more) new
taken_back old new taken more t =
    sym (ap (λ (l : List Set). put_back (taken ++ l) new) t.0 ∙
    ap (put_back (taken ++ old.sets)) t.1 ∙ all_back old taken)

-- ---- feeds and takes

so_far_run : ReaderLaws →
    (c : Statement) (limit : ℕ) (pieces : List (List ℕ)) (taken : List Set)
    (state : ReceiverState) → Run c limit pieces taken state →
    SoFar c limit pieces (put_back taken state)
so_far_run wire c limit pieces taken state fresh = so_far_nothing wire c limit
so_far_run wire c limit pieces taken state (feeds {pieces = front} {old = old} {piece = piece} run are fed) =
    so_far_next wire c limit (put_back taken old) (put_back taken state) front piece are
    (so_far_run wire c limit front taken old run) (feeds_more c limit taken old state piece fed)
so_far_run wire c limit pieces taken state (takes {taken = before} {more = more} {old = old} run t) =
    subst (λ (s : ReceiverState). SoFar c limit pieces s) (taken_back old state before more t)
    (so_far_run wire c limit pieces before old run)

pub taken_sets_are_the_audit : ReaderLaws → TakenSetsAreTheAudit
taken_sets_are_the_audit wire query id c limit pieces taken state a about run d =
    let h = so_far_run wire c limit pieces taken state run in
    let all = decides_more c limit taken state state.fault [] a d in (
      λ none. of_tokens (λ (s : Statement). Audited s limit (concat pieces) (with_sets taken a)) c
          query id about (audit_so_far wire c limit pieces (put_back taken state)
          (with_sets taken a) h all none),
      λ memory. of_tokens (λ (s : Statement). OutOfMemory s limit pieces (with_sets taken a)) c
          query id about (memory_so_far wire c limit pieces (put_back taken state)
          (with_sets taken a) h all memory),
    )
