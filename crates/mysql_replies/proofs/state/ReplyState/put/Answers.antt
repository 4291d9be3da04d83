use Rattle.std.proofs.Common.{◌+◌, ap, subst, arith}
use Rattle.mysql_reply_events.specs.Views.{event_view}
use Rattle.mysql_replies.specs.declared.part.Part.{Part as PartOf}
use Rattle.mysql_replies.specs.declared.part.Stepped.TheVariants.{Moved}
use Rattle.mysql_replies.specs.declared.state.ReplyState.{ReplyState}
use Rattle.mysql_replies.specs.Putting.{IsPut}
use Rattle.mysql_replies.specs.Together as together
use Rattle.mysql_replies.specs.Together.{listed}
use Rattle.mysql_replies.specs.Views.{part_view}
use Rattle.mysql_replies.proofs.Taken.{no_report, put_moved}
use Rattle.mysql_replies.proofs.state.ReplyState.put.Goals as goal

pub overflow_add-self : goal.overflow_add-self
overflow_add-self c = let same = ap (λ (s : ReplyState). s.count) c.list.ensures.rest in omega arith

pub returns-in-Moved : goal.returns-in-Moved
returns-in-Moved c =
    let old = c.args.self.now in
    let new : ReplyState = record c.list.new.self { count = c.list.new.self.count + 1 } in
    let stepped = Moved c.in-Moved.listed c.in-Moved.next in
    let put : IsPut (listed (part_view old.part))
    (together.put (part_view old.part) (event_view c.args.event) old.events.so_far) stepped =
    subst (λ (p : PartOf). IsPut (listed (part_view p))
    (together.put (part_view p) (event_view c.args.event) old.events.so_far) stepped)
    c.replace-part.ensures.value c.in-Moved.ensures in
    put_moved old new (event_view c.args.event) c.in-Moved.listed c.in-Moved.next
    (no_report c.args.event c.in_default.not-Progress) put c.list.ensures.results
    (ap (λ (s : ReplyState). let n : ReplyState = record s { count = s.count + 1 } in
    n) c.list.ensures.rest) c.list.ensures.room
