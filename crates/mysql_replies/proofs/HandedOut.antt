-- What was handed out of a reply, and what its later bytes decide, are joined the reply.
use Rattle.std.proofs.Common.{◌≡◌, ℕ, ◌+◌, ◌≤◌, List, [], ◌∷◌, ◌++◌, length, Option, Some, None, Result, Ok, Err, refl}
use Rattle.std.proofs.Common.{ap, sym, subst, arith, ◌∙◌, ◌⊎◌, inl, inr, append_assoc, length-append}
use Rattle.std.specs.Prelude.{IfSome}
use Rattle.std.specs.List.{AllByRecursion, flat_map}
use Rattle.std.proofs.lemmas.List.{append-nil}
use Rattle.mysql_server_packets.specs.Packets.{ProgressReport}
use Rattle.mysql_wire.specs.Bytes.{AreBytes}
use Rattle.mysql_wire.specs.Stream as stream
use Rattle.mysql_wire.specs.Stream.{Rest, Split, IsSplit, IsRest, IsFault, first_number, after_all, framings}
use Rattle.mysql_wire.specs.Stream.{with_payloads}
use Rattle.mysql_wire.specs.Stream.Numbering.{OnFrom}
use Rattle.mysql_wire.specs.Stream.Rest.{Empty}
use Rattle.mysql_reply_events.specs.declared.context.Context.{Context}
use Rattle.mysql_replies.specs.declared.fault.ReplyFault.{ReplyFault}
use Rattle.mysql_replies.specs.declared.fault.ReplyFault.TheVariants as faults
use Rattle.mysql_replies.specs.Together.{Outcome}
use Rattle.mysql_replies.specs.Reply as reply
use Rattle.mysql_replies.specs.Reply.{Answer, FaultAt, OpenReply, Payload, ReplySoFar, GoingOn, Answered, answer_behind}
use Rattle.mysql_replies.specs.Reply.{fresh}
use Rattle.mysql_replies.specs.Bytes.{numbered, after_numbered, NumberedPayloadsDecide, IsReplyOf, StopsAfter}
use Rattle.mysql_replies.specs.Bytes.{IsShortReplyOf}
use Rattle.mysql_replies.specs.Holding.{ReaderState, fresh_reader, ReaderDecides, ReaderDecidesFrom, ReaderGoesOn}
use Rattle.mysql_replies.specs.Holding.{TakesAll, RunsShort, fault_of, count_of}
use Rattle.mysql_replies.specs.Taking.{behind_part, joined, results_in, without_results, reports_in, without_reports}
use Rattle.mysql_replies.specs.Taking.{joined_answer, Feeds, Runs, begins, feeds, takes_results, takes_reports}
use Rattle.mysql_replies.specs.Taking.{TakenResultsAreTheReply}
use Rattle.mysql_replies.proofs.GoingOn.{fresh_decides}
use Rattle.mysql_replies.proofs.Receiving.{bytes_append, empty_rest, on_from}
use Rattle.mysql_replies.proofs.Fed.{after_all-append, within-append, joined_more, joined_next, short_grows}
use Rattle.mysql_replies.proofs.Fed.{fresh_reader_decides}
use Rattle.mysql_replies.proofs.Joining.{Joins, handed, joined_later, joins_all, reports_all}
use Rattle.mysql_replies.proofs.Ordered.{reply_joined}

joins_on : (taken more : List Outcome) (reported others : List ProgressReport)
    (later middle whole : Answer) → Joins taken reported middle whole →
    Joins more others later middle → Joins (taken ++ more) (reported ++ others) later whole
joins_on taken more reported others later middle whole x y = record {
  results = x.results ∙ joined_later taken middle.results (more ++ later.results) y.results ∙
      ap joined (sym (append_assoc taken more later.results));
  progress = x.progress ∙ ap (λ (k : List ProgressReport). reported ++ k) y.progress ∙
      sym (append_assoc reported others later.progress);
  end = x.end ∙ y.end;
}

-- Over the payloads to come, an answer is decided that is joined of what was handed out and the later one.
abbrev DecidesJoined : ReplySoFar → List Payload → Rest → List Outcome → List ProgressReport → Answer → Type 0
DecidesJoined s payloads rest taken reported later = (whole : Answer) ×
    NumberedPayloadsDecide s payloads rest whole × Joins taken reported later whole

-- The same over the bytes to come.
abbrev ReaderDecidesJoined : ReplySoFar → ReaderState → List ℕ → List Outcome → List ProgressReport → Answer → Type 0
ReaderDecidesJoined s held more taken reported later = (whole : Answer) ×
    ReaderDecidesFrom s held more whole × Joins taken reported later whole

-- What is decided behind results that are handed out, and before.
results_going : (s : OpenReply) (payloads : List Payload) (rest : Rest) (later : Answer) →
    NumberedPayloadsDecide (without_results (GoingOn s)) payloads rest later →
    DecidesJoined (GoingOn s) payloads rest (results_in (GoingOn s)) [] later
results_going s payloads rest later h = (
  _,
  refl,
  subst (λ (a : Answer). Joins (results_in (GoingOn s)) [] a
      (answer_behind (reply.after_all (GoingOn s) (numbered s.count payloads))
      (after_numbered s.count payloads rest))) (sym h)
      (joins_all (numbered s.count payloads) (after_numbered s.count payloads rest)
      (results_in (GoingOn s)) s.results [] s.part (behind_part s.part) s.context s.so_far
      s.progress s.count (handed s.results s.part)),
)

reports_going : (s : OpenReply) (payloads : List Payload) (rest : Rest) (later : Answer) →
    NumberedPayloadsDecide (without_reports (GoingOn s)) payloads rest later →
    DecidesJoined (GoingOn s) payloads rest [] (reports_in (GoingOn s)) later
reports_going s payloads rest later h = (
  _,
  refl,
  subst (λ (a : Answer). Joins [] s.progress a
      (answer_behind (reply.after_all (GoingOn s) (numbered s.count payloads))
      (after_numbered s.count payloads rest))) (sym h)
      (subst (λ (k : List ProgressReport). Joins [] s.progress
      (answer_behind (reply.after_all (GoingOn (record s { progress = [] }))
      (numbered s.count payloads)) (after_numbered s.count payloads rest))
      (answer_behind (reply.after_all (GoingOn (record s { progress = k }))
      (numbered s.count payloads)) (after_numbered s.count payloads rest)))
      (append-nil s.progress)
      (reports_all (numbered s.count payloads) (after_numbered s.count payloads rest) s.progress []
      s.context s.so_far s.count s.results s.part)),
)

results_answered : (known later : Answer) → later ≡ record known { results = [] } → Joins known.results [] later known
results_answered known later h = record {
  results = sym (ap (λ (a : Answer). joined (known.results ++ a.results)) h ∙ ap joined (append-nil known.results));
  progress = sym (ap (λ (a : Answer). a.progress) h);
  end = sym (ap (λ (a : Answer). a.end) h);
}

reports_answered : (known later : Answer) → later ≡ record known { progress = [] } → Joins [] known.progress later known
reports_answered known later h = record {
  results = sym (ap (λ (a : Answer). joined a.results) h);
  progress = sym (ap (λ (a : Answer). known.progress ++ a.progress) h ∙ append-nil known.progress);
  end = sym (ap (λ (a : Answer). a.end) h);
}

-- What stood hands over these results and reports, and this stands then.
record HandsOver (old new : ReplySoFar) (more : List Outcome) (others : List ProgressReport) : Type 0 where
  fault : fault_of new ≡ fault_of old
  count : count_of new ≡ count_of old
  decides : (payloads : List Payload) (rest : Rest) (later : Answer) →
      NumberedPayloadsDecide new payloads rest later →
      DecidesJoined old payloads rest more others later
  bytes : (held : ReaderState) (bytes : List ℕ) (later : Answer) →
      ReaderDecides (record held { so_far = new }) bytes later →
      ReaderDecidesJoined old held bytes more others later
  answered : (known : Answer) → old ≡ Answered known → (later : Answer) × (new ≡ Answered later) ×
      Joins more others later known

known_is : (known other : Answer) → Answered known ≡ Answered other → known ≡ other
known_is known other e = cc

hands_results : (s : ReplySoFar) → HandsOver s (without_results s) (results_in s) []
hands_results (GoingOn s) = record {
  fault = refl;
  count = refl;
  decides = results_going s;
  bytes = λ held bytes later h. let d =
      results_going s h.split.payloads h.split.rest later h.decides in
      (d.0, record { split = h.split; splits = h.splits; decides = d.1 }, d.2);
  answered = λ known e. cc;
}
hands_results (Answered answer) = record {
  fault = refl;
  count = refl;
  decides = λ payloads rest later h. (answer, refl, results_answered answer later h);
  bytes = λ held bytes later h. (answer, refl, results_answered answer later h);
  answered = λ known e. (
    record answer { results = [] },
    refl,
    subst (λ (k : Answer). Joins answer.results [] (record answer { results = [] }) k)
        (known_is answer known e) (results_answered answer (record answer { results = [] }) refl),
  );
}

hands_reports : (s : ReplySoFar) → HandsOver s (without_reports s) [] (reports_in s)
hands_reports (GoingOn s) = record {
  fault = refl;
  count = refl;
  decides = reports_going s;
  bytes = λ held bytes later h. let d =
      reports_going s h.split.payloads h.split.rest later h.decides in
      (d.0, record { split = h.split; splits = h.splits; decides = d.1 }, d.2);
  answered = λ known e. cc;
}
hands_reports (Answered answer) = record {
  fault = refl;
  count = refl;
  decides = λ payloads rest later h. (answer, refl, reports_answered answer later h);
  bytes = λ held bytes later h. (answer, refl, reports_answered answer later h);
  answered = λ known e. (
    record answer { progress = [] },
    refl,
    subst (λ (k : Answer). Joins [] answer.progress (record answer { progress = [] }) k)
        (known_is answer known e) (reports_answered answer (record answer { progress = [] }) refl),
  );
}

-- All payloads of these bytes were taken, and these results and reports handed out: what stands
-- decides what a fresh reader does.
record TakenJoined (c : Context) (first_id limit : ℕ) (bytes : List ℕ) (taken : List Outcome)
    (reported : List ProgressReport) (held : ReaderState) : Type 0 where
  split : Split
  splits : IsSplit limit (OnFrom first_id) bytes split
  no_fault : ¬ IsFault split.rest
  left : held.bytes ≡ split.rest_bytes
  number : held.number ≡ first_number (after_all split.payloads (OnFrom first_id))
  limit_same : held.limit ≡ limit
  count : count_of held.so_far ≡ length split.payloads
  goes_on : (payloads : List Payload) (rest : Rest) (later : Answer) →
      NumberedPayloadsDecide held.so_far payloads rest later →
      DecidesJoined (fresh c) (split.payloads ++ payloads) rest taken reported later

-- What is held decides what a fresh reader decides over the bytes fed and others.
abbrev DecidedJoined : Context → ℕ → ℕ → List ℕ → List Outcome → List ProgressReport → ReaderState → Type 0
DecidedJoined c first_id limit fed taken reported held =
    (more : List ℕ) (later : Answer) → AreBytes more → ReaderDecides held more later →
    ReaderDecidesJoined (fresh c) (fresh_reader c first_id limit) (fed ++ more) taken reported
    later

-- What stands after these pieces and takes.
abbrev HasRun : Option ReplyFault → Context → ℕ → ℕ → List (List ℕ) → List Outcome →
    List ProgressReport → ReaderState → Type 0
HasRun None c first_id limit pieces taken reported held =
    TakenJoined c first_id limit (flat_map (λ piece. piece) pieces) taken reported held ×
    DecidedJoined c first_id limit (flat_map (λ piece. piece) pieces) taken reported held
HasRun (Some faults.Memory) c first_id limit pieces taken reported held =
    (later : Answer) × (held.so_far ≡ Answered later) × (whole : Answer) ×
    IsShortReplyOf c first_id limit pieces whole × Joins taken reported later whole
HasRun (Some fault) c first_id limit pieces taken reported held =
    DecidedJoined c first_id limit (flat_map (λ piece. piece) pieces) taken reported held

-- After a take.
decided_over : (c : Context) (first_id limit : ℕ) (fed : List ℕ) (taken more : List Outcome)
    (reported others : List ProgressReport) (held : ReaderState) (new : ReplySoFar) →
    HandsOver held.so_far new more others → DecidedJoined c first_id limit fed taken reported held →
    DecidedJoined c first_id limit fed (taken ++ more) (reported ++
    others) (record held { so_far = new })
decided_over c first_id limit fed taken more reported others held new hands decided bytes later are h =
    let one = hands.bytes held bytes later h in
    let two = decided bytes one.0 are one.1 in
    (two.0, two.1, joins_on taken more reported others later one.0 two.0 two.2 one.2)

taken_over : (c : Context) (first_id limit : ℕ) (fed : List ℕ) (taken more : List Outcome)
    (reported others : List ProgressReport) (held : ReaderState) (new : ReplySoFar) →
    HandsOver held.so_far new more others → TakenJoined c first_id limit fed taken reported held →
    TakenJoined c first_id limit fed (taken ++ more) (reported ++
    others) (record held { so_far = new })
taken_over c first_id limit fed taken more reported others held new hands t = record {
  split = t.split;
  splits = t.splits;
  no_fault = t.no_fault;
  left = t.left;
  number = t.number;
  limit_same = t.limit_same;
  count = hands.count ∙ t.count;
  goes_on = λ payloads rest later h.
      let one = hands.decides payloads rest later h in
      let two = t.goes_on payloads rest one.0 one.1 in
      (two.0, two.1, joins_on taken more reported others later one.0 two.0 two.2 one.2);
}

run_over : (met : Option ReplyFault) (c : Context) (first_id limit : ℕ) (pieces : List (List ℕ))
    (taken more : List Outcome) (reported others : List ProgressReport) (held : ReaderState)
    (new : ReplySoFar) → HandsOver held.so_far new more others →
    HasRun met c first_id limit pieces taken reported held →
    HasRun met c first_id limit pieces (taken ++ more) (reported ++
    others) (record held { so_far = new })
run_over None c first_id limit pieces taken more reported others held new hands h = (
  taken_over c first_id limit (flat_map (λ piece. piece) pieces) taken more reported others held
      new hands h.0,
  decided_over c first_id limit (flat_map (λ piece. piece) pieces) taken more
      reported others held new hands h.1,
)
run_over (Some faults.Memory) c first_id limit pieces taken more reported others held new hands h =
    let one = hands.answered h.0 h.1 in
    (one.0, one.1, h.2, h.3, joins_on taken more reported others one.0 h.0 h.2 h.4 one.2)
run_over (Some fault) c first_id limit pieces taken more reported others held new hands h =
    decided_over c first_id limit (flat_map (λ piece. piece) pieces) taken more reported others held new hands h

-- After a feed.
taken_next : (c : Context) (first_id limit : ℕ) (front back : List ℕ) (taken : List Outcome)
    (reported : List ProgressReport) (mid new : ReaderState) →
    TakenJoined c first_id limit front taken reported mid → TakesAll mid (mid.bytes ++ back) new →
    TakenJoined c first_id limit (front ++ back) taken reported new
taken_next c first_id limit front back taken reported mid new t u =
    let ps = t.split.payloads in
    let qs = u.split.payloads in
    let number : first_number (after_all qs (OnFrom mid.number)) ≡
    first_number (after_all (ps ++ qs) (OnFrom first_id)) =
    ap (λ k. first_number (after_all qs k)) (ap OnFrom t.number ∙ sym (on_from ps first_id)) ∙
    ap first_number (sym (after_all-append ps qs (OnFrom first_id))) in
    record {
      split = with_payloads ps u.split;
      splits = record {
        joined = joined_next first_id mid.number front back mid.bytes u.split.rest_bytes ps qs
            (t.splits.joined ∙ ap (λ k. framings ps (OnFrom first_id) ++ k) (sym t.left)) t.number
            u.splits.joined;
        within = within-append limit ps qs t.splits.within
            (subst (λ k. AllByRecursion (λ payload. length payload ≤ k) qs) t.limit_same
            u.splits.within);
        ends = subst (λ k. IsRest limit k u.split.rest_bytes u.split.rest) number
            (subst (λ k. IsRest k (first_number (after_all qs (OnFrom mid.number)))
            u.split.rest_bytes u.split.rest) t.limit_same u.splits.ends);
      };
      no_fault = u.no_fault;
      left = u.left;
      number = u.number ∙ number;
      limit_same = u.limit ∙ t.limit_same;
      count = omega (arith, t.count, u.count, length-append ps qs);
      goes_on = λ z rest later k. subst
          (λ ps'. DecidesJoined (fresh c) ps' rest taken reported later)
          (sym (append_assoc ps qs z)) (t.goes_on (qs ++ z) rest later (u.goes_on z rest later k));
    }

decided_next : (c : Context) (first_id limit : ℕ) (pieces : List (List ℕ)) (piece : List ℕ)
    (taken : List Outcome) (reported : List ProgressReport) (old new : ReaderState) →
    AreBytes piece → DecidedJoined c first_id limit (flat_map (λ p. p) pieces) taken reported old →
    ReaderGoesOn old piece new →
    DecidedJoined c first_id limit (flat_map (λ p. p) (pieces ++ piece ∷ [])) taken reported new
decided_next c first_id limit pieces piece taken reported old new bytes decided goes more later are h =
    let fed : List ℕ = flat_map (λ p. p) pieces in
    subst (λ k. ReaderDecidesJoined (fresh c) (fresh_reader c first_id limit) k taken reported
    later) (sym (append_assoc fed piece more) ∙
    ap (λ k. k ++ more) (sym (joined_more pieces piece)))
    (decided (piece ++ more) later (bytes_append piece more bytes are) (goes more later are h))

-- Memory ran out over a piece.
abbrev HasStopped : Context → ℕ → ℕ → List (List ℕ) → List Outcome → List ProgressReport → Answer → Type 0
HasStopped c first_id limit pieces taken reported later = (whole : Answer) ×
    IsShortReplyOf c first_id limit pieces whole × Joins taken reported later whole

stopped_next : (c : Context) (first_id limit : ℕ) (pieces : List (List ℕ)) (piece : List ℕ)
    (taken : List Outcome) (reported : List ProgressReport) (old : ReaderState) (later : Answer) →
    TakenJoined c first_id limit (flat_map (λ p. p) pieces) taken reported old →
    RunsShort old (old.bytes ++ piece) later →
    HasStopped c first_id limit (pieces ++ piece ∷ []) taken reported later
stopped_next c first_id limit pieces piece taken reported old later t r =
    let front : List ℕ = flat_map (λ p. p) pieces in
    let ps = t.split.payloads in
    let left = t.splits.joined ∙ ap (λ k. framings ps (OnFrom first_id) ++ k) (sym t.left) in
    let d = t.goes_on r.read stream.Open r.whole r.decided in
    let whole : Answer = record {
      results = d.0.results;
      progress = d.0.progress;
      end =
          FaultAt (length (ps ++ r.read)) faults.Memory;
    } in
    let stops : StopsAfter c first_id limit (front ++ piece) (ps ++ r.read) whole = record {
      first = record {
        more = r.first.more;
        joined = joined_next first_id old.number front piece old.bytes r.first.more ps r.read left
            t.number r.first.joined;
        within = within-append limit ps r.read t.splits.within
            (subst (λ k. AllByRecursion (λ payload. length payload ≤ k) r.read) t.limit_same
            r.first.within);
      };
      whole = d.0;
      reply = fresh_decides c (numbered 0 (ps ++ r.read)) (after_numbered 0 (ps ++ r.read) stream.Open) d.0 d.1;
      unfinished = d.2.end ∙ r.unfinished;
      results = refl;
      progress = refl;
      end = refl;
    } in
    let short : IsShortReplyOf c first_id limit (pieces ++ piece ∷ []) whole = record {
      before = pieces;
      piece = piece;
      after = [];
      parts = refl;
      came = t.split;
      splits = t.splits;
      no_fault = t.no_fault;
      read = ps ++ r.read;
      at_least = omega (arith, length-append ps r.read);
      stops = stops;
    } in
    let number : length (ps ++ r.read) ≡ count_of old.so_far + length r.read =
    omega (arith, t.count, length-append ps r.read) in
    let joins : Joins taken reported later whole = record {
      results = d.2.results ∙ ap (λ (k : List Outcome). joined (taken ++ k)) (sym r.results);
      progress = d.2.progress ∙ ap (λ (k : List ProgressReport). reported ++ k) (sym r.progress);
      end = ap (λ n. FaultAt n faults.Memory) number ∙ sym r.end;
    } in
    (whole, short, joins)

run_going : (c : Context) (first_id limit : ℕ) (pieces : List (List ℕ)) (piece : List ℕ)
    (taken : List Outcome) (reported : List ProgressReport) (old new : ReaderState)
    (r : Result Unit ReplyFault) → AreBytes piece → fault_of old.so_far ≡ None →
    Feeds old new piece r → HasRun None c first_id limit pieces taken reported old →
    HasRun (fault_of new.so_far) c first_id limit (pieces ++ piece ∷ []) taken reported new
run_going c first_id limit pieces piece taken reported old new (Ok x) bytes none f h =
    let next = subst (λ k. TakenJoined c first_id limit k taken reported new)
    (sym (joined_more pieces piece))
    (taken_next c first_id limit (flat_map (λ p. p) pieces) piece taken reported old new h.0
    f.takes) in
    subst (λ k. HasRun k c first_id limit (pieces ++ piece ∷ []) taken reported new) (sym f.going) (
      next,
      decided_next c first_id limit pieces piece taken reported old new bytes h.1
          (f.goes_on (λ e. cc)),
    )
run_going c first_id limit pieces piece taken reported old new (Err faults.Memory) bytes none f h =
    let s = f.short none refl in
    let stopped = stopped_next c first_id limit pieces piece taken reported old s.0 h.0 s.2 in
    subst (λ k. HasRun k c first_id limit (pieces ++ piece ∷ []) taken reported new) (sym f.fault)
    (s.0, s.1, stopped.0, stopped.1, stopped.2)
run_going c first_id limit pieces piece taken reported old new (Err fault) bytes none f h =
    subst (λ k. HasRun k c first_id limit (pieces ++ piece ∷ []) taken reported new) (sym f.fault)
    (decided_next c first_id limit pieces piece taken reported old new bytes h.1
    (f.goes_on (λ e. cc)))

run_next : (c : Context) (first_id limit : ℕ) (pieces : List (List ℕ)) (piece : List ℕ)
    (taken : List Outcome) (reported : List ProgressReport) (old new : ReaderState)
    (r : Result Unit ReplyFault) (met : Option ReplyFault) → AreBytes piece → fault_of old.so_far ≡
    met → Feeds old new piece r → HasRun met c first_id limit pieces taken reported old →
    HasRun (fault_of new.so_far) c first_id limit (pieces ++ piece ∷ []) taken reported new
run_next c first_id limit pieces piece taken reported old new r None bytes is f h =
    run_going c first_id limit pieces piece taken reported old new r bytes is f h
run_next c first_id limit pieces piece taken reported old new r (Some faults.Memory) bytes is f h =
    let s = subst (λ k. IfSome k (λ fault. (r ≡ Err fault) × (new ≡ old))) is f.stays in
    let met : fault_of new.so_far ≡ Some faults.Memory = ap (λ (k : ReaderState). fault_of k.so_far) s.1 ∙ is in
    subst (λ k. HasRun k c first_id limit (pieces ++ piece ∷ []) taken reported new) (sym met) (
      h.0,
      ap (λ (k : ReaderState). k.so_far) s.1 ∙ h.1,
      h.2,
      short_grows c first_id limit pieces piece h.2 h.3,
      h.4,
    )
run_next c first_id limit pieces piece taken reported old new r (Some fault) bytes is f h =
    let s = subst (λ k. IfSome k (λ fault. (r ≡ Err fault) × (new ≡ old))) is f.stays in
    let met : fault_of new.so_far ≡ Some fault = ap (λ (k : ReaderState). fault_of k.so_far) s.1 ∙ is in
    let goes = f.goes_on (λ e. let k = sym s.0 ∙ e in cc) in
    subst (λ k. HasRun k c first_id limit (pieces ++ piece ∷ []) taken reported new) (sym met)
    (decided_next c first_id limit pieces piece taken reported old new bytes h goes)

runs_begin : (c : Context) (first_id limit : ℕ) → HasRun None c first_id limit [] [] [] (fresh_reader c first_id limit)
runs_begin c first_id limit = (
  record {
    split = record { payloads = []; rest_bytes = []; rest = Empty };
    splits = record { joined = refl; within = tt; ends = empty_rest limit first_id };
    no_fault = λ f. f;
    left = refl;
    number = refl;
    limit_same = refl;
    count = refl;
    goes_on = λ z rest later h. (later, h, record { results = refl; progress = refl; end = refl });
  },
  λ more later are h. (later, h, record { results = refl; progress = refl; end = refl }),
)

has_run : (c : Context) (first_id limit : ℕ) (pieces : List (List ℕ)) (taken : List Outcome)
    (reported : List ProgressReport) (held : ReaderState) →
    Runs c first_id limit pieces taken reported held →
    HasRun (fault_of held.so_far) c first_id limit pieces taken reported held
has_run c first_id limit pieces taken reported held begins = runs_begin c first_id limit
has_run c first_id limit pieces taken reported held (feeds {pieces = before} {old = old} piece r new runs are f) =
    run_next c first_id limit before piece taken reported old new r (fault_of old.so_far) are refl f
    (has_run c first_id limit before taken reported old runs)
has_run c first_id limit pieces taken reported held (takes_results {taken = before} {old = old} runs) =
    let hands = hands_results old.so_far in
    subst (λ k. HasRun k c first_id limit pieces (before ++ results_in old.so_far) reported
    (record old { so_far = without_results old.so_far })) (sym hands.fault)
    (subst (λ k. HasRun (fault_of old.so_far) c first_id limit pieces (before ++
    results_in old.so_far) k (record old { so_far = without_results old.so_far }))
    (append-nil reported)
    (run_over (fault_of old.so_far) c first_id limit pieces before (results_in old.so_far) reported
    [] old (without_results old.so_far) hands
    (has_run c first_id limit pieces before reported old runs)))
has_run c first_id limit pieces taken reported held (takes_reports {reports = before} {old = old} runs) =
    let hands = hands_reports old.so_far in
    subst (λ k. HasRun k c first_id limit pieces taken (before ++ reports_in old.so_far)
    (record old { so_far = without_reports old.so_far })) (sym hands.fault)
    (subst (λ k. HasRun (fault_of old.so_far) c first_id limit pieces k (before ++
    reports_in old.so_far) (record old { so_far = without_reports old.so_far }))
    (append-nil taken)
    (run_over (fault_of old.so_far) c first_id limit pieces taken [] before (reports_in old.so_far)
    old (without_reports old.so_far) hands
    (has_run c first_id limit pieces taken before old runs)))

-- The answer that is joined.
whole_is : (taken : List Outcome) (reported : List ProgressReport) (later whole : Answer) →
    joined whole.results ≡ whole.results → Joins taken reported later whole → whole ≡
    joined_answer taken reported later
whole_is taken reported later whole same j =
    let results : whole.results ≡ joined (taken ++ later.results) = sym same ∙ j.results in
    λ i. record { results = results i; progress = j.progress i; end = j.end i }

run_decided : (c : Context) (first_id limit : ℕ) (fed : List ℕ) (taken : List Outcome)
    (reported : List ProgressReport) (held : ReaderState) (later : Answer) →
    DecidedJoined c first_id limit fed taken reported held → ReaderDecides held [] later →
    IsReplyOf c first_id limit fed (joined_answer taken reported later)
run_decided c first_id limit fed taken reported held later decided h =
    let d = decided [] later (λ i. omega arith) h in
    let reply : IsReplyOf c first_id limit fed d.0 =
    subst (λ k. IsReplyOf c first_id limit k d.0) (append-nil fed)
    (fresh_reader_decides c first_id limit (fed ++ []) d.0 d.1) in
    subst (IsReplyOf c first_id limit fed)
    (whole_is taken reported later d.0
    (reply_joined c (numbered 0 reply.split.payloads)
    (after_numbered 0 reply.split.payloads reply.split.rest) d.0 reply.reply) d.2) reply

run_stopped : (c : Context) (first_id limit : ℕ) (pieces : List (List ℕ)) (taken : List Outcome)
    (reported : List ProgressReport) (later whole : Answer) →
    IsShortReplyOf c first_id limit pieces whole → Joins taken reported later whole →
    IsShortReplyOf c first_id limit pieces (joined_answer taken reported later)
run_stopped c first_id limit pieces taken reported later whole short j =
    let stops = short.stops in
    let same : joined whole.results ≡ whole.results = ap joined stops.results ∙
    reply_joined c (numbered 0 short.read) (after_numbered 0 short.read stream.Open) stops.whole
    stops.reply ∙ sym stops.results in
    subst (IsShortReplyOf c first_id limit pieces) (whole_is taken reported later whole same j) short

run_ends : (met : Option ReplyFault) (c : Context) (first_id limit : ℕ) (pieces : List (List ℕ))
    (taken : List Outcome) (reported : List ProgressReport) (held : ReaderState) (later : Answer) →
    HasRun met c first_id limit pieces taken reported held → ReaderDecides held [] later
    → IsReplyOf c first_id limit (flat_map (λ piece. piece) pieces)
    (joined_answer taken reported later) ⊎
    IsShortReplyOf c first_id limit pieces (joined_answer taken reported later)
run_ends None c first_id limit pieces taken reported held later h d =
    inl (run_decided c first_id limit (flat_map (λ piece. piece) pieces) taken reported held later
    h.1 d)
run_ends (Some faults.Memory) c first_id limit pieces taken reported held later h d =
    let same : later ≡ h.0 = subst (λ k. ReaderDecidesFrom k held [] later) h.1 d in
    inr (run_stopped c first_id limit pieces taken reported later h.2 h.3
    (subst (λ k. Joins taken reported k h.2) (sym same) h.4))
run_ends (Some fault) c first_id limit pieces taken reported held later h d =
    inl (run_decided c first_id limit (flat_map (λ piece. piece) pieces) taken reported held later h
    d)

pub taken_are_the_reply : TakenResultsAreTheReply
taken_are_the_reply c first_id limit pieces taken reported held later runs d =
    run_ends (fault_of held.so_far) c first_id limit pieces taken reported held later
    (has_run c first_id limit pieces taken reported held runs) d
