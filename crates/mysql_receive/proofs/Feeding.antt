-- Bytes in pieces: what is held after a piece decides what was decided before it over the piece and the rest.
use Rattle.std.proofs.Common.{◌≡◌, ℕ, ◌+◌, List, [], ◌∷◌, ◌++◌, length, Option, Some, None, refl, sym, ap, subst, ◌∙◌}
use Rattle.std.proofs.Common.{append_assoc, arith, length-append}
use Rattle.std.specs.List.{flat_map}
use Rattle.std.proofs.lemmas.List.{append-nil}
use Rattle.std.proofs.lemmas.List.Concat.{flat_map-append}
use Rattle.mysql_receive.specs.declared.fault.StreamFault.{StreamFault}
use Rattle.mysql_receive.specs.declared.fault.StreamFault.TheVariants.{TooLarge, OutOfSync, Memory}
use Rattle.mysql_receive.specs.declared.audit.End.{End}
use Rattle.mysql_receive.specs.declared.audit.End.TheVariants as ends
use Rattle.mysql_wire.specs.Bytes.{AreBytes}
use Rattle.mysql_wire.specs.Stream.{Numbering, Rest, Split, IsSplit, IsRest, IsFault, first_number, with_payloads}
use Rattle.mysql_wire.specs.Stream.Rest.{Empty as EmptyRest, TooLarge as TooLargeRest, OutOfSync as OutOfSyncRest}
use Rattle.mysql_wire.specs.Stream.Rest.{Open as OpenRest}
use Rattle.mysql_wire.specs.Stream.Numbering.{EachFromZero}
use Rattle.mysql_wire.specs.GoingOn.{ReaderLaws}
use Rattle.mysql_receive.proofs.Readable.{IsReadable}
use Rattle.mysql_receive.specs.GoingOn as going
use Rattle.mysql_receive.specs.Query.{Statement}
use Rattle.mysql_receive.specs.InForce.{StatementState, state_after, nothing_yet}
use Rattle.mysql_receive.specs.Reading.{Set, Faulty}
use Rattle.mysql_receive.specs.Audit.{Audit, Reads, FrontReads, Audits, Audited, end_by_rest}
use Rattle.mysql_receive.specs.GoingOn.{ReceiverState, fresh_receiver, ReceiverDecidesBy, ReceiverDecides}
use Rattle.mysql_receive.specs.GoingOn.{ReceiverGoesOn, HasFoundNoFault, Fed, WhyStopped, TakesAll, RunsShort}
use Rattle.mysql_receive.specs.GoingOn.{fault_of_rest}
use Rattle.mysql_receive.proofs.Splits.{each_stays, split_append, some_split, rest_are_bytes, bytes_append}
use Rattle.mysql_receive.proofs.Auditing.{some_audit, one_audit, audits_append, audits_faulty, audits_whole}
use Rattle.mysql_receive.proofs.Auditing.{no_fault_alone, reads_length, reads_append, front_append, front_longer}
use Rattle.mysql_receive.proofs.Looking.{state_after_append}

module _ (wire : ReaderLaws) (c : Statement) (limit : ℕ) where
  -- the next bytes go on where all payloads read and the rest is no fault
  on_open : (old new : ReceiverState) (piece z : List ℕ) (a : Audit)
      (fed : Fed c limit old piece new) → fed.split.payloads ≡ fed.each.front → new.partial ≡
      fed.split.rest_bytes
      → new.state ≡ state_after c old.state fed.each.front →
      ReceiverDecidesBy c limit new None z a → ReceiverDecidesBy c limit old None (piece ++ z) a
  on_open old new piece z a fed all left state d =
      let next : Split = d.0 in
      let more : IsSplit limit EachFromZero (fed.split.rest_bytes ++ z) next =
      subst (λ (l : List ℕ). IsSplit limit EachFromZero (l ++ z) next) left d.2 in
      let joined = split_append wire limit (old.partial ++ piece) z fed.split next fed.is_split more in
      let b : Audit = record { sets = d.1; ending = a.ending } in
      let count : new.count ≡ old.count + length fed.each.front = fed.count ∙
      ap (λ (n : ℕ). old.count + n)
      (reads_length c old.state old.count fed.each.front fed.reads fed.each.each) in
      let on : Audits c (state_after c old.state fed.each.front) (old.count + length fed.each.front)
      next.payloads next.rest b =
      subst (λ (n : ℕ). Audits c (state_after c old.state fed.each.front) n next.payloads next.rest b) count
      (subst (λ (st : StatementState). Audits c st new.count next.payloads next.rest b) state d.4) in (
        with_payloads fed.split.payloads next,
        flat_map (λ sets. sets) fed.reads ++ d.1,
        subst (λ (l : List ℕ). IsSplit limit EachFromZero l (with_payloads fed.split.payloads next))
            (append_assoc old.partial piece z) joined,
        d.3 ∙ ap (λ (l : List Set). l ++ d.1) fed.sets ∙ append_assoc old.sets (flat_map (λ sets. sets) fed.reads) d.1,
        subst (λ (l : List (List ℕ)). Audits c old.state old.count (l ++ next.payloads) next.rest
            (record { sets = flat_map (λ sets. sets) fed.reads ++ d.1; ending = a.ending }))
            (sym all)
            (audits_append c old.state old.count fed.each.front next.payloads next.rest fed.reads b fed.each.each on),
      )

  -- a fault of the rest stays
  on_fault_rest : (old new : ReceiverState) (piece z : List ℕ) (a : Audit)
      (fed : Fed c limit old piece new) (f : StreamFault) → fed.split.payloads ≡ fed.each.front →
      IsFault fed.split.rest
      → ((st : StatementState) (n : ℕ) → end_by_rest c st n fed.split.rest ≡ ends.Fault n f)
      → ReceiverDecidesBy c limit new (Some f) z a → ReceiverDecidesBy c limit old None (piece ++ z) a
  on_fault_rest old new piece z a fed f all is_fault by d =
      let stays = wire.fault_stays limit EachFromZero (old.partial ++ piece) z fed.split is_fault fed.is_split in
      let ending : end_by_rest c (state_after c old.state fed.each.front)
      (old.count + length fed.reads) fed.split.rest ≡ a.ending =
      by (state_after c old.state fed.each.front) (old.count + length fed.reads) ∙
      sym (d.1 ∙ ap (λ (n : ℕ). ends.Fault n f) fed.count) in (
        record fed.split { rest_bytes = fed.split.rest_bytes ++ z },
        flat_map (λ sets. sets) fed.reads,
        subst (λ (l : List ℕ). IsSplit limit EachFromZero l
            (record fed.split { rest_bytes = fed.split.rest_bytes ++ z }))
            (append_assoc old.partial piece z) stays,
        d.0 ∙ fed.sets,
        subst (λ (e : End). Audits c old.state old.count fed.split.payloads fed.split.rest
            (record { sets = flat_map (λ sets. sets) fed.reads; ending = e })) ending
            (subst (λ (l : List (List ℕ)). Audits c old.state old.count l fed.split.rest
            (record {
              sets = flat_map (λ sets. sets) fed.reads;
              ending =
                  end_by_rest c (state_after c old.state fed.each.front)
                  (old.count + length fed.reads) fed.split.rest;
            })) (sym all)
            (audits_whole c old.state old.count fed.each.front fed.split.rest fed.reads fed.each.each)),
      )

  -- the split of the piece and the bytes behind it
  longer : (partial piece z : List ℕ) (split : Split) →
      IsSplit limit EachFromZero (partial ++ piece) split → AreBytes (partial ++ piece) → AreBytes z
      → (next : Split) × IsSplit limit EachFromZero (partial ++ (piece ++ z)) (with_payloads split.payloads next)
  longer partial piece z split is bytes more =
      let s = some_split wire limit (split.rest_bytes ++
      z) (bytes_append split.rest_bytes z
      (rest_are_bytes limit (partial ++ piece) split is bytes) more) in
      let joined = split_append wire limit (partial ++ piece) z split s.0 is s.1 in (
        s.0,
        subst (λ (l : List ℕ). IsSplit limit EachFromZero l (with_payloads split.payloads s.0))
            (append_assoc partial piece z) joined,
      )

  -- and so does a fault of a payload
  on_fault : (old new : ReceiverState) (piece z : List ℕ) (a : Audit)
      (fed : Fed c limit old piece new) (f : StreamFault) (p : List ℕ) (later : List (List ℕ)) →
      AreBytes (old.partial ++ piece) → AreBytes z
      → fed.split.payloads ≡ fed.each.front ++ p ∷ later →
      Faulty c (state_after c old.state fed.each.front) new.count p f
      → ReceiverDecidesBy c limit new (Some f) z a → ReceiverDecidesBy c limit old None (piece ++ z) a
  on_fault old new piece z a fed f p later bytes more cut faulty d =
      let s = longer old.partial piece z fed.split fed.is_split bytes more in
      let sets : List Set = flat_map (λ sets. sets) fed.reads in
      let all : fed.split.payloads ++ s.0.payloads ≡ fed.each.front ++ p ∷ (later ++ s.0.payloads) =
      ap (λ (l : List (List ℕ)). l ++ s.0.payloads) cut ∙
      append_assoc fed.each.front (p ∷ later) s.0.payloads in
      let h = audits_faulty c old.state old.count fed.each.front (later ++ s.0.payloads) p s.0.rest
      fed.reads f fed.each.each
      (subst (λ (n : ℕ). Faulty c (state_after c old.state fed.each.front) n p f) fed.count
      faulty) in (
        with_payloads fed.split.payloads s.0,
        sets,
        s.1,
        d.0 ∙ fed.sets,
        subst (λ (e : End). Audits c old.state old.count (fed.split.payloads ++
            s.0.payloads) s.0.rest (record { sets = sets; ending = e }))
            (sym (d.1 ∙ ap (λ (n : ℕ). ends.Fault n f) fed.count))
            (subst (λ (l : List (List ℕ)). Audits c old.state old.count l s.0.rest
            (record { sets = sets; ending = ends.Fault (old.count + length fed.reads) f }))
            (sym all) h),
      )

  by_rest : (old new : ReceiverState) (piece z : List ℕ) (a : Audit)
      (fed : Fed c limit old piece new) → fed.split.payloads ≡ fed.each.front → new.fault ≡
      fault_of_rest fed.split.rest
      → (new.fault ≡ None → (new.partial ≡ fed.split.rest_bytes) × (new.state ≡ state_after c old.state fed.each.front))
      → (kind : Rest) → fed.split.rest ≡ kind →
      ReceiverDecidesBy c limit new (fault_of_rest kind) z a →
      ReceiverDecidesBy c limit old None (piece ++ z) a
  by_rest old new piece z a fed all is rests EmptyRest e d = let r =
      rests (is ∙ ap fault_of_rest e) in on_open old new piece z a fed all r.0 r.1 d
  by_rest old new piece z a fed all is rests OpenRest e d = let r =
      rests (is ∙ ap fault_of_rest e) in on_open old new piece z a fed all r.0 r.1 d
  by_rest old new piece z a fed all is rests TooLargeRest e d =
      on_fault_rest old new piece z a fed TooLarge all (subst IsFault (sym e) tt)
      (λ st n. ap (end_by_rest c st n) e) d
  by_rest old new piece z a fed all is rests OutOfSyncRest e d =
      on_fault_rest old new piece z a fed OutOfSync all (subst IsFault (sym e) tt)
      (λ st n. ap (end_by_rest c st n) e) d

  pub goes_on : (old new : ReceiverState) (piece : List ℕ) → AreBytes (old.partial ++ piece) →
      old.fault ≡ None → Fed c limit old piece new → (new.fault ≡ Some Memory → ⊥) →
      ReceiverGoesOn c limit old piece new
  goes_on old new piece bytes none fed no_memory z a more d =
      subst (λ (o : Option StreamFault). ReceiverDecidesBy c limit old o (piece ++ z) a) (sym none)
      (by_left fed.each.left fed.each.cut fed.stopped)
    where
      by_left : (left : List (List ℕ)) → fed.split.payloads ≡ fed.each.front ++ left →
          WhyStopped c (state_after c old.state fed.each.front) fed.split new left →
          ReceiverDecidesBy c limit old None (piece ++ z) a
      by_left left cut (going.fault {payload = p} {payloads = later} f faulty is) =
          on_fault old new piece z a fed f p later bytes more cut faulty
          (subst (λ (o : Option StreamFault). ReceiverDecidesBy c limit new o z a) is d)
      by_left left cut (going.memory is) = absurd (no_memory is)
      by_left left cut (going.all_read is rests) =
          by_rest old new piece z a fed (cut ∙ append-nil fed.each.front) is rests fed.split.rest
          refl (subst (λ (o : Option StreamFault). ReceiverDecidesBy c limit new o z a) is d)

  -- ---- pieces one after another, payload by payload

  both_split : (old mid : ReceiverState) (front back : List ℕ) (s t : Split) →
      IsSplit limit EachFromZero (old.partial ++ front) s → mid.partial ≡ s.rest_bytes →
      IsSplit limit EachFromZero (mid.partial ++ back) t
      → IsSplit limit EachFromZero (old.partial ++ (front ++ back)) (with_payloads s.payloads t)
  both_split old mid front back s t p left q =
      subst (λ (l : List ℕ). IsSplit limit EachFromZero l (with_payloads s.payloads t))
      (append_assoc old.partial front back)
      (split_append wire limit (old.partial ++
      front) back s t p (subst (λ (l : List ℕ). IsSplit limit EachFromZero (l ++ back) t) left
      q))

  -- the payloads of the second, by what the first leaves in force
  behind_first : (old mid : ReceiverState) (front : List ℕ) (f : TakesAll c limit old front mid)
      (P : StatementState → ℕ → Type 0) → P mid.state mid.count →
      P (state_after c old.state f.split.payloads) (old.count + length f.split.payloads)
  behind_first old mid front f P h =
      subst (λ (n : ℕ). P (state_after c old.state f.split.payloads) n) f.count
      (subst (λ (s : StatementState). P s mid.count) f.state h)

  both_sets : (old mid : ReceiverState) (front : List ℕ) (f : TakesAll c limit old front mid)
      (more : List (List Set)) → mid.sets ++ flat_map (λ sets. sets) more ≡ old.sets ++
      flat_map (λ sets. sets) (f.reads ++ more)
  both_sets old mid front f more =
      ap (λ (l : List Set). l ++ flat_map (λ sets. sets) more) f.sets ∙
      append_assoc old.sets (flat_map (λ sets. sets) f.reads) (flat_map (λ sets. sets) more)
      ∙ ap (λ (l : List Set). old.sets ++ l) (sym (flat_map-append (λ sets. sets) f.reads more))

  pub takes_append : (old mid new : ReceiverState) (front back : List ℕ) →
      TakesAll c limit old front mid → TakesAll c limit mid back new →
      TakesAll c limit old (front ++ back) new
  takes_append old mid new front back f b = record {
    split = with_payloads f.split.payloads b.split;
    is_split = both_split old mid front back f.split b.split f.is_split f.partial b.is_split;
    no_fault = b.no_fault;
    partial = b.partial;
    count = omega (arith, f.count, b.count, length-append f.split.payloads b.split.payloads);
    reads = f.reads ++ b.reads;
    each = reads_append c old.state old.count f.split.payloads b.split.payloads f.reads b.reads
        f.each (behind_first old mid front f (λ s n. Reads c s n b.split.payloads b.reads) b.each);
    sets = b.sets ∙ both_sets old mid front f b.reads;
    state = b.state ∙ ap (λ (s : StatementState). state_after c s b.split.payloads) f.state ∙
        sym (state_after_append c old.state f.split.payloads b.split.payloads);
  }

  -- memory runs out over the second
  pub short_append : (old mid new : ReceiverState) (front back : List ℕ) →
      TakesAll c limit old front mid → RunsShort c limit mid back new →
      RunsShort c limit old (front ++ back) new
  short_append old mid new front back f b = record {
    split = with_payloads f.split.payloads b.split;
    is_split = both_split old mid front back f.split b.split f.is_split f.partial b.is_split;
    reads = f.reads ++ b.reads;
    each = front_append c old.state old.count f.split.payloads b.split.payloads f.reads b.reads
        f.each (behind_first old mid front f (λ s n. FrontReads c s n b.split.payloads b.reads)
        b.each);
    sets = b.sets ∙ both_sets old mid front f b.reads;
    count = omega (
      arith,
      f.count,
      reads_length c old.state old.count f.split.payloads f.reads f.each,
      b.count,
      length-append f.reads b.reads,
    );
    fault = b.fault;
  }

  -- bytes behind a want of memory change nothing
  pub short_longer : (old new : ReceiverState) (front back : List ℕ) →
      AreBytes (old.partial ++ front) → AreBytes back → RunsShort c limit old front new →
      RunsShort c limit old (front ++ back) new
  short_longer old new front back bytes more r =
      let s = longer old.partial front back r.split r.is_split bytes more in
      record {
        split = with_payloads r.split.payloads s.0;
        is_split = s.1;
        reads = r.reads;
        each = front_longer c old.state old.count r.split.payloads s.0.payloads r.reads r.each;
        sets = r.sets;
        count = r.count;
        fault = r.fault;
      }

  -- ---- no fault

  -- a packet that bytes to come can make whole is no fault over none
  pub none_found : (state : ReceiverState) (rest : Rest) → state.fault ≡ None →
      AreBytes state.partial → ¬ IsFault rest → IsRest limit 0 state.partial rest →
      HasFoundNoFault c limit state
  none_found state rest none are no_fault is_rest a d =
      let split : Split = record { payloads = []; rest_bytes = state.partial; rest = rest } in
      let is_split : IsSplit limit EachFromZero (state.partial ++ []) split =
      record { joined = append-nil state.partial; within = tt; ends = is_rest } in
      let by = subst (λ (o : Option StreamFault). ReceiverDecidesBy c limit state o [] a) none d in
      let one = wire.one_split limit EachFromZero (state.partial ++
      []) (subst AreBytes (sym (append-nil state.partial)) are) in
      let same : by.0 ≡ split = one.2 by.0 by.2 ∙ sym (one.2 split is_split) in
      let b : Audit = record { sets = by.1; ending = a.ending } in
      no_fault_alone c state.state state.count rest b no_fault
      (subst (λ (p : Split). Audits c state.state state.count p.payloads p.rest b) same by.4)

  pub none_taken : (old new : ReceiverState) (piece : List ℕ) → new.fault ≡ None →
      AreBytes (old.partial ++ piece) → (taken : TakesAll c limit old piece new) →
      ¬ IsFault taken.split.rest → HasFoundNoFault c limit new
  none_taken old new piece none are taken no_fault =
      let back : new.partial ≡ taken.split.rest_bytes = taken.partial in
      none_found new taken.split.rest none
      (subst AreBytes (sym back) (rest_are_bytes limit (old.partial ++ piece) taken.split taken.is_split are))
      no_fault
      (subst (λ (l : List ℕ). IsRest limit 0 l taken.split.rest) (sym back)
      (subst (λ (n : Numbering). IsRest limit (first_number n) taken.split.rest_bytes
      taken.split.rest) (each_stays taken.split.payloads) taken.is_split.ends))

  pub one_of_stream : IsReadable c.query → (bytes : List ℕ) → AreBytes bytes → (a : Audit) ×
      Audited c limit bytes a × ((b : Audit) → Audited c limit bytes b → b ≡ a)
  one_of_stream readable bytes are =
      let split = wire.one_split limit EachFromZero bytes are in
      let s : (split : Split) × IsSplit limit EachFromZero bytes split = (split.0, split.1) in
      let a = some_audit c readable s.0.payloads nothing_yet 0 s.0.rest in (
        a.0,
        (s.0, s.1, a.1),
        λ b q.
            let same : q.0 ≡ s.0 = split.2 q.0 q.1 ∙ sym (split.2 s.0 s.1) in
            one_audit c readable nothing_yet 0 s.0.payloads s.0.rest b a.0
            (subst (λ (p : Split). Audits c nothing_yet 0 p.payloads p.rest b) same q.2) a.1,
      )

pub start_decides : (c : Statement) (limit : ℕ) (z : List ℕ) (a : Audit) →
    (ReceiverDecides c limit fresh_receiver z a → Audited c limit z a) ×
    (Audited c limit z a → ReceiverDecides c limit fresh_receiver z a)
start_decides c limit z a = (
  λ d. (
    d.0,
    d.2,
    subst (λ (l : List Set). Audits c nothing_yet 0 d.0.payloads d.0.rest
        (record { sets = l; ending = a.ending })) (sym d.3) d.4,
  ),
  λ h. (h.0, a.sets, h.1, refl, h.2),
)
