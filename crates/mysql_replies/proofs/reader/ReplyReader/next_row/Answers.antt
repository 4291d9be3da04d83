use Rattle.std.proofs.Common.{[], Ok, Err, Some, None, refl, subst}
use Rattle.mysql_replies.specs.Borrowing.{BorrowsNext}
use Rattle.mysql_replies.specs.States.{reader_state}
use Rattle.mysql_wire.specs.Incoming.{codec_by}
use Rattle.mysql_replies.proofs.Found.{found_none}
use Rattle.mysql_replies.proofs.RowSteps.{next_fails, next_borrowed, next_none, next_stays}
use Rattle.mysql_replies.proofs.reader.ReplyReader.next_row.Goals as goal

pub returns-in-Some : goal.returns-in-Some
returns-in-Some c =
    let s = c.self.inside.parts.state in
    let old = c.self.inside.parts.packets in
    let piece = c.args.rest.now.now in (
      (
        refl,
        (λ _. tt),
        subst (λ held. BorrowsNext held piece (Err c.in-Some.fault)
            (reader_state s old) piece) c.self.view_is
            (next_stays s old piece c.in-Some.fault c.in-Some.is),
      ),
      record { after = tt; uses = tt },
    )

pub returns-in-Ok-Some : goal.returns-in-Ok-Some
returns-in-Ok-Some c =
    let start = c.self.inside.parts.state in
    let old = c.self.inside.parts.packets in
    let next = c.take_to_row.new.self.state in
    let new = c.take_to_row.new.self.packets in
    let piece = c.args.rest.now.now in
    let rest = c.take_to_row.new.rest.now in
    let behind = rw c.in-Ok-Some.field-0-is at c.in-Ok-Some.ensures.found in (
      (
        refl,
        (λ _. tt),
        subst (λ held. BorrowsNext held piece (Ok (Some c.row_ref.result)) (reader_state next new) rest) c.self.view_is
            (next_borrowed start next old new piece rest c.in-Ok-Some.place c.row_ref.result behind
            c.row_ref.ensures c.in-None.is c.in-Ok-Some.ensures.paused.0
            c.in-Ok-Some.ensures.keeps_none),
      ),
      record { after = tt; uses = rw c.in-Ok-Some.field-0-is at c.in-Ok-Some.ensures.uses },
    )

pub returns-in-Ok-None : goal.returns-in-Ok-None
returns-in-Ok-None c =
    let start = c.self.inside.parts.state in
    let old = c.self.inside.parts.packets in
    let next = c.take_to_row.new.self.state in
    let new = c.take_to_row.new.self.packets in
    let piece = c.args.rest.now.now in
    let rest = c.take_to_row.new.rest.now in
    let all = rw c.in-Ok-None.field-0-is at c.in-Ok-None.ensures.found in
    let paused = c.in-Ok-None.ensures.paused in
    let found = found_none c.framing_laws.ensures next (codec_by new) new.bytes []
    c.take_to_row.ensures.reading paused.0 paused.1 in (
      (
        refl,
        (λ _. tt),
        subst (λ held. BorrowsNext held piece (Ok None) (reader_state next new) rest) c.self.view_is
            (next_none start next old new piece rest all.0 c.in-None.is paused.0 all.1 all.2 found
            c.in-Ok-None.ensures.keeps_none),
      ),
      record { after = tt; uses = all.0 },
    )

pub returns-in-Err : goal.returns-in-Err
returns-in-Err c =
    let start = c.self.inside.parts.state in
    let old = c.self.inside.parts.packets in
    let next = c.take_to_row.new.self.state in
    let new = c.take_to_row.new.self.packets in
    let piece = c.args.rest.now.now in (
      (
        refl,
        (λ _. tt),
        subst (λ held. BorrowsNext held piece (Err c.in-Err.fault) (reader_state next new) piece) c.self.view_is
            (next_fails start next old new piece c.in-Err.fault c.in-None.is c.in-Err.ensures.fault
            c.in-Err.ensures.goes_on c.in-Err.ensures.short c.in-Err.ensures.keeps_none),
      ),
      record { after = tt; uses = tt },
    )
