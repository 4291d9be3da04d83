use Rattle.std.proofs.Common.{◌+◌, ◌<◌, ◌^◌, Ok, Err, sym, subst, arith}
use Rattle.mysql_replies.specs.Putting.{HasTakenRow}
use Rattle.mysql_replies.specs.States.{NumberedStateGoesOn, UnlessMemory}
use Rattle.mysql_replies.proofs.Numbers.{numbered_unless, too_large}
use Rattle.mysql_replies.proofs.Taken.{IsBehind, behind_fault, behind_row, behind_same}
use Rattle.mysql_replies.proofs.state.ReplyState.take.Goals as goal

pub returns-then-self-clause-goes_on : goal.returns-then-self-clause-goes_on
returns-then-self-clause-goes_on c =
    subst (λ f. UnlessMemory {X =
    Unit {0}} (Err f) (NumberedStateGoesOn c.args.self.now c.args.payload.now c.fail.new.self))
    (sym c.fail.ensures.same)
    (too_large c.args.self.now c.fail.new.self c.args.payload.now c.requires.going
    c.fail.ensures.state c.if-self.true c.requires.awaiting)

pub returns-in-Ok-true : goal.returns-in-Ok-true
returns-in-Ok-true c =
    let old = c.args.self.now in
    let new = c.take_row.new.self in
    let payload = c.args.payload.now in
    let room : old.count + 1 < 2 ^ 64 = omega arith in
    let taken : HasTakenRow old payload new = rw c.in-Ok-true.field-0-test at c.in-Ok-true.ensures in
    let h = behind_row old new payload c.requires.going taken in
    record {
      reading = h.reading;
      ok = h.ok;
      fault = h.fault;
      goes_on = numbered_unless old new payload (Ok tt) c.requires.going room h.ok h.fault h.goes_on;
      short = h.short;
    }

pub returns-in-Ok-false : goal.returns-in-Ok-false
returns-in-Ok-false c =
    let old = c.args.self.now in
    let mid = c.take_row.new.self in
    let new = c.take_event.new.self in
    let payload = c.args.payload.now in
    let r = c.take_event.result in
    let e = c.take_event.ensures in
    let room : old.count + 1 < 2 ^ 64 = omega arith in
    let passed = rw c.in-Ok-false.field-0-test at c.in-Ok-false.ensures in
    let k : IsBehind mid payload r new =
    record {
      reading = e.reading;
      ok = e.ok;
      fault = e.fault;
      goes_on = e.goes_on;
      short =
          e.short;
    } in
    let h = behind_same old mid new payload r passed.0 k in
    record {
      reading = h.reading;
      ok = h.ok;
      fault = h.fault;
      goes_on = numbered_unless old new payload r c.requires.going room h.ok h.fault h.goes_on;
      short = h.short;
    }

pub returns-in-Err : goal.returns-in-Err
returns-in-Err c =
    let old = c.args.self.now in
    let new = c.take_row.new.self in
    let payload = c.args.payload.now in
    let room : old.count + 1 < 2 ^ 64 = omega arith in
    let h = behind_fault old new payload c.in-Err.fault c.requires.going c.in-Err.ensures in
    record {
      reading = h.reading;
      ok = h.ok;
      fault = h.fault;
      goes_on = numbered_unless old new payload (Err c.in-Err.fault) c.requires.going room h.ok h.fault h.goes_on;
      short = h.short;
    }
