-- What a state lists, and what it keeps where that is handed out.
use Rattle.std.proofs.Common.{◌≡◌, ℕ, List, [], Option, Some, None, refl, ap, sym, subst, ◌∙◌}
use Rattle.std.specs.Prelude.{map}
use Rattle.mysql_server_packets.specs.Views.{progress_report_view}
use Rattle.mysql_replies.specs.declared.fault.ReplyFault.{ReplyFault}
use Rattle.mysql_replies.specs.declared.state.ReplyState.{ReplyState}
use Rattle.mysql_replies.specs.Reply.{OpenReply}
use Rattle.mysql_wire.specs.Codec.{Codec}
use Rattle.mysql_replies.specs.States.{open_reply, faulted, reply_so_far, IsOver, IsReading, IsPaused, IsReceiving}
use Rattle.mysql_replies.specs.Taking.{rows_awaited, reports_in, without_reports, Lists}
use Rattle.mysql_replies.specs.Views.{outcome_views, part_view, report_views}

-- What is lent is what is listed.
lists_by : (s : OpenReply) (f : Option ReplyFault) → Lists (faulted s f) s.results (rows_awaited s.part)
lists_by s None = (refl, refl)
lists_by s (Some fault) = (s.part, refl, refl)

pub state_lists : (s : ReplyState) →
    Lists (reply_so_far s) (outcome_views s.results.items) (rows_awaited (part_view s.part))
state_lists s = lists_by (open_reply s) s.fault

reports_by : (s : OpenReply) (f : Option ReplyFault) → s.progress ≡ reports_in (faulted s f)
reports_by s None = refl
reports_by s (Some fault) = refl

pub state_reports : (s : ReplyState) → report_views s.progress.items ≡ reports_in (reply_so_far s)
state_reports s = reports_by (open_reply s) s.fault

without_by : (s : OpenReply) (f : Option ReplyFault) → faulted (record s { progress = [] }) f ≡
    without_reports (faulted s f)
without_by s None = refl
without_by s (Some fault) = refl

pub state_without_reports : (old new : ReplyState) → new ≡ record old { progress = new.progress } →
    new.progress.items ≡ [] → reply_so_far new ≡ without_reports (reply_so_far old)
state_without_reports old new is none =
    ap reply_so_far is ∙ ap (λ items. faulted
    (record (open_reply old) { progress = map progress_report_view items }) old.fault) none ∙
    without_by (open_reply old) old.fault

paused_over : (s next : ReplyState) (codec : Codec) (src dst : List ℕ) → (IsOver next → IsOver s) →
    IsPaused s codec src dst → IsPaused next codec src dst
paused_over s next codec src dst over p = record {
  refused = p.refused;
  can_go_on = p.can_go_on;
  rest = p.rest;
  no_fault = p.no_fault;
  is_rest = p.is_rest;
  bytes = p.bytes;
  nothing_begun = λ none. p.nothing_begun (over none);
  over = λ none. p.over (over none);
}

-- What the parts of a reader keep where results were handed out.
pub receiving_over : (s next : ReplyState) (codec : Codec) (src dst : List ℕ) → IsReading next →
    next.fault ≡ s.fault → (IsOver next → next.fault ≡ None → IsOver s) →
    IsReceiving s codec src dst → IsReceiving next codec src dst
receiving_over s next codec src dst reading fault over r = record {
  reading = reading;
  paused = λ none. paused_over s next codec src dst (λ is_over. over is_over none) (r.paused (sym fault ∙ none));
}

-- The same of progress reports.
pub receiving_reports : (s next : ReplyState) (codec : Codec) (src dst : List ℕ) → next ≡
    record s { progress = next.progress } → IsReceiving s codec src dst →
    IsReceiving next codec src dst
receiving_reports s next codec src dst is r =
    let same : ReplyState = record s { progress = next.progress } in
    let kept : IsReading same =
    record {
      no_fault = r.reading.no_fault;
      fits = r.reading.fits;
      room =
          r.reading.room;
      spared = r.reading.spared;
      empty = r.reading.empty;
    } in
    subst (λ (x : ReplyState). IsReceiving x codec src dst) (sym is)
    (receiving_over s same codec src dst kept refl (λ over none. over) r)
