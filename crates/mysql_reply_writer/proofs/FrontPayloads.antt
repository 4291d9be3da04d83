-- Fronts of the payloads of a whole reply are unfinished, and longer ones go on from shorter ones.
use Rattle.std.proofs.Common.{◌≡◌, ℕ, Bool, true, false, List, [], ◌∷◌, ◌++◌, Ok, Err, refl, ap, sym, subst, ◌∙◌}
use Rattle.mysql_server_packets.specs.Packets.{ProgressReport}
use Rattle.std.proofs.lemmas.List.{append-nil, append_assoc}
use Rattle.mysql_wire.specs.Stream.{Rest, IsFault}
use Rattle.mysql_wire.specs.Stream.Rest.{Empty, TooLarge, OutOfSync, Open as OpenRest}
use Rattle.mysql_reply_events.specs.declared.context.Context.{Context}
use Rattle.mysql_reply_events.specs.declared.fault.ReplyFault.TheVariants.{NotDue}
use Rattle.mysql_reply_events.specs.Table.{Step, event_at}
use Rattle.mysql_replies.specs.Together.{Outcome}
use Rattle.mysql_replies.specs.Reply.{Answer, Answered, End, FaultAt, GoingOn, IsReply, OpenReply, Payload, ReplySoFar}
use Rattle.mysql_replies.specs.Reply.{Unfinished, Whole, after, after_all, answer_behind, end_behind, fault_of}
use Rattle.mysql_replies.specs.Reply.{faulted_at, fresh, is_over, led_by}
use Rattle.mysql_replies.specs.Manual.{EachSuchListIsWhole}
use Rattle.mysql_replies.specs.Beginnings.{EachAnswerHasWhatStands, IsFrontOf}
use Rattle.mysql_replies.proofs.GoingOn.{after_all-append, answered_stays, not_due}
use Rattle.mysql_reply_writer.specs.Fronts.{IsFrontAnswer, EachFrontIsUnfinished, LongerFrontsGoOn}
use Rattle.mysql_reply_writer.proofs.FrontParts.{AreKnown, GoesFrom, front_known, front_of, goes_from, results_known}

-- ---- a reply of which payloads are missing goes on

abbrev HasFault : End → Type 0
HasFault (FaultAt count fault) = Unit {0}
HasFault end = ⊥

-- A reply that has its answer met a fault.
abbrev AnswersFault : ReplySoFar → Type 0
AnswersFault (GoingOn s) = Unit {0}
AnswersFault (Answered answer) = HasFault answer.end

led_fault : (s : OpenReply) (step : Step) → AnswersFault (led_by s step)
led_fault s (Ok x) = tt
led_fault s (Err fault) = tt

after_fault : (s : ReplySoFar) (payload : Payload) → AnswersFault s → AnswersFault (after s payload)
after_fault (GoingOn s) payload h = led_fault s (event_at s.context s.so_far payload)
after_fault (Answered answer) payload h = h

all_fault : (s : ReplySoFar) (payloads : List Payload) → AnswersFault s → AnswersFault (after_all s payloads)
all_fault s [] h = h
all_fault s (payload ∷ payloads) h = all_fault (after s payload) payloads (after_fault s payload h)

not_whole : (end : End) → HasFault end → end ≡ Whole → ⊥
not_whole (FaultAt count fault) h is = absurd cc
not_whole Whole h is = absurd h
not_whole Unfinished h is = absurd h

-- Behind the last result no payload follows.
over_next : (s : OpenReply) (next : Payload) (back : List Payload) → is_over s.so_far.awaited ≡
    true → after_all (GoingOn s) (next ∷ back) ≡ Answered (faulted_at s (fault_of NotDue))
over_next s next back over =
    ap (λ (step : Step). after_all (led_by s step) back) (not_due s.context s.so_far next over) ∙
    answered_stays (faulted_at s (fault_of NotDue)) back

-- A front of payloads behind which the reply goes on, and more of the server is awaited.
record IsOpen (c : Context) (front : List Payload) : Type 0 where
  s : OpenReply
  is : after_all (fresh c) front ≡ GoingOn s
  awaits : is_over s.so_far.awaited ≡ false

open_by : (c : Context) (front back : List Payload) (next : Payload) (answer : Answer) →
    IsReply c (front ++ next ∷ back) Empty answer → answer.end ≡ Whole → IsOpen c front
open_by c front back next answer read whole = by (after_all (fresh c) front) refl where
  same : answer ≡ answer_behind (after_all (after_all (fresh c) front) (next ∷ back)) Empty
  same = read ∙ ap (λ (t : ReplySoFar). answer_behind t Empty) (after_all-append (fresh c) front (next ∷ back))

  -- The answer isn't one that a fault gives.
  met : (known : Answer) → HasFault known.end → after_all (after_all (fresh c) front) (next ∷ back) ≡ Answered known → ⊥
  met known fault is =
      let e : answer ≡ known = same ∙ ap (λ (t : ReplySoFar). answer_behind t Empty) is in
      not_whole known.end fault (sym (ap (λ (a : Answer). a.end) e) ∙ whole)

  by_awaited : (s : OpenReply) → after_all (fresh c) front ≡ GoingOn s → (over : Bool) →
      is_over s.so_far.awaited ≡ over → IsOpen c front
  by_awaited s is false awaits = record { s = s; is = is; awaits = awaits }
  by_awaited s is true over =
      absurd (met (faulted_at s (fault_of NotDue)) tt
      (ap (λ (t : ReplySoFar). after_all t (next ∷ back)) is ∙ over_next s next back over))

  by : (t : ReplySoFar) → after_all (fresh c) front ≡ t → IsOpen c front
  by (GoingOn s) is = by_awaited s is (is_over s.so_far.awaited) refl
  by (Answered known) is =
      let fault : HasFault known.end = subst (λ (t : ReplySoFar). AnswersFault t) is (all_fault (fresh c) front tt) in
      absurd (met known fault (ap (λ (t : ReplySoFar). after_all t (next ∷ back)) is ∙
      answered_stays known (next ∷ back)))

-- So does a shorter front.
front_open : (c : Context) (front between back : List Payload) (next : Payload) (answer : Answer) →
    IsReply c ((front ++ between) ++ next ∷ back) Empty answer → answer.end ≡ Whole → IsOpen c front
front_open c front [] back next answer read whole =
    open_by c front back next answer
    (subst (λ (l : List Payload). IsReply c (l ++ next ∷ back) Empty answer) (append-nil front)
    read) whole
front_open c front (payload ∷ between) back next answer read whole =
    open_by c front (between ++ next ∷ back) payload answer
    (subst (λ (l : List Payload). IsReply c l Empty answer)
    (append_assoc front (payload ∷ between) (next ∷ back)) read) whole

-- ---- its answer

end_open : (over : Bool) (count : ℕ) (rest : Rest) → over ≡ false → ¬ IsFault rest →
    end_behind over count rest ≡ Unfinished
end_open true count rest awaits no_fault = absurd cc
end_open false count Empty awaits no_fault = refl
end_open false count OpenRest awaits no_fault = refl
end_open false count TooLarge awaits no_fault = absurd (no_fault tt)
end_open false count OutOfSync awaits no_fault = absurd (no_fault tt)

-- The answer to a front, beside one to more payloads.
front_answer : EachAnswerHasWhatStands →
    (c : Context) (front : List Payload) (rest : Rest) (answer whole : Answer)
    (o : IsOpen c front) → GoesFrom o.s whole → AreKnown whole.results → ¬ IsFault rest →
    IsReply c front rest answer →
    IsFrontAnswer c front whole.results whole.progress answer
front_answer has c front rest answer whole o goes known no_fault read =
    let own : Answer = answer_behind (GoingOn o.s) rest in
    let same : answer ≡ own = read ∙ ap (λ (t : ReplySoFar). answer_behind t rest) o.is in
    record {
      end = ap (λ (a : Answer). a.end) same ∙ end_open (is_over o.s.so_far.awaited) o.s.count rest o.awaits no_fault;
      results = subst (λ (a : Answer). IsFrontOf a.results whole.results) (sym same) (front_of o.s whole goes known);
      stands = has c front rest answer read;
      later = goes.later;
      progress = goes.progress ∙ ap (λ (a : Answer). a.progress ++ goes.later) (sym same);
    }

abbrev whole_answer : List Outcome → List ProgressReport → Answer
whole_answer listed reports = record { results = listed; progress = reports; end = Whole }

-- The answer to more payloads goes on from a front.
goes_on : (c : Context) (front more : List Payload) (rest : Rest) (answer : Answer)
    (o : IsOpen c front) → IsReply c (front ++ more) rest answer → GoesFrom o.s answer
goes_on c front more rest answer o read =
    subst (λ (a : Answer). GoesFrom o.s a)
    (sym (read ∙ ap (λ (t : ReplySoFar). answer_behind t rest)
    (after_all-append (fresh c) front more ∙ ap (λ (t : ReplySoFar). after_all t more) o.is)))
    (goes_from more rest o.s)

pub fronts_are_unfinished : EachAnswerHasWhatStands → EachSuchListIsWhole → EachFrontIsUnfinished
fronts_are_unfinished has some c front back next listed reports rest answer is no_fault read =
    let whole = some c (front ++ next ∷ back) listed reports is in
    let o = open_by c front back next (whole_answer listed reports) whole refl in
    front_answer has c front rest answer (whole_answer listed reports) o
    (goes_on c front (next ∷ back) Empty (whole_answer listed reports) o whole)
    (results_known c is.others listed is.results) no_fault read

pub longer_fronts_go_on : EachAnswerHasWhatStands → EachSuchListIsWhole → LongerFrontsGoOn
longer_fronts_go_on has some c front between back next listed reports rest other answer longer is
    no_fault no_other read read_longer =
    let unfinished = fronts_are_unfinished has some c (front ++ between) back next listed reports
    other longer is no_other read_longer in
    let known = front_known longer.results listed unfinished.results (results_known c is.others listed is.results) in
    let o = front_open c front between back next (whole_answer listed reports)
    (some c ((front ++ between) ++ next ∷ back) listed reports is) refl in
    front_answer has c front rest answer longer o
    (goes_on c front between other longer o read_longer) known no_fault read
