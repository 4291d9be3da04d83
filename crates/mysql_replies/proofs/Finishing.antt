-- What stands when no more payloads come.
use Rattle.std.proofs.Common.{◌≡◌, [], ◌++◌, Bool, true, false, ap, sym}
use Rattle.std.specs.Prelude.{map}
use Rattle.mysql_wire.specs.Stream.{Rest}
use Rattle.mysql_wire.specs.Stream.Rest.{OutOfSync, TooLarge}
use Rattle.mysql_server_packets.specs.Views.{progress_report_view}
use Rattle.mysql_replies.specs.declared.fault.ReplyFault.TheVariants as faults
use Rattle.mysql_replies.specs.declared.state.ReplyState.{ReplyState}
use Rattle.mysql_replies.specs.Together.{listed}
use Rattle.mysql_replies.specs.Reply.{Answer, FaultAt, GoingOn, PayloadsDecide, end_behind, is_over}
use Rattle.mysql_replies.specs.Views.{outcome_views, part_view}
use Rattle.mysql_replies.specs.States.{IsAwaiting, open_reply}

-- What no more payloads decide.
pub stops : (s : ReplyState) (rest : Rest) (answer : Answer) → answer.results ≡
    outcome_views s.results.items ++ listed (part_view s.part) → answer.progress ≡
    map progress_report_view s.progress.items → answer.end ≡
    end_behind (is_over s.events.so_far.awaited) s.count rest →
    PayloadsDecide (GoingOn (open_reply s)) [] rest answer
stops s rest answer results progress end = λ i. record { results = results i; progress = progress i; end = end i }

pub end_large : (s : ReplyState) → IsAwaiting s → FaultAt s.count faults.TooLarge ≡
    end_behind (is_over s.events.so_far.awaited) s.count TooLarge
end_large s some = sym (ap (λ b. end_behind b s.count TooLarge) some)

pub end_wrong_number : (s : ReplyState) → IsAwaiting s → FaultAt s.count faults.OutOfSync ≡
    end_behind (is_over s.events.so_far.awaited) s.count OutOfSync
end_wrong_number s some = sym (ap (λ b. end_behind b s.count OutOfSync) some)

-- Nothing is awaited, or something is.
pub never : (b : Bool) → b ≡ true → b ≡ false → ⊥
never true over some = let k : true ≡ false = some in cc
never false over some = let k : false ≡ true = over in cc
