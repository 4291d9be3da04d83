use Rattle.std.proofs.Common.{◌∙◌, ap, Some, sym, arith}
use Rattle.mysql_receive.proofs.Receiving.{fed_feed, fed_short, fed_takes, found_none, unless_by, on_by}
use Rattle.mysql_receive.proofs.receiver.Receiver.feed.Goals as goal

pub returns-in-Ok-clause-goes_on : goal.returns-in-Ok-clause-goes_on
returns-in-Ok-clause-goes_on c =
    λ _. fed_feed c.self.inside
    (record c.self.inside {
      packets = c.read_piece.new.packets;
      progress =
          c.read_piece.new.progress;
    }) c.args.self.now c.args.piece.now _
    c.self.view_is c.in_default.is c.reader_laws.ensures c.self.invariant c.in_default.is
    (λ i. omega (arith, c.type_inv.piece i)) (λ e. cc) c.in-Ok.ensures.fed

pub returns-in-Err-clause-goes_on : goal.returns-in-Err-clause-goes_on
returns-in-Err-clause-goes_on c =
    unless_by (Some c.fault_of-fault.result)
    (λ never. fed_feed c.self.inside
    (record c.self.inside {
      packets = c.read_piece.new.packets;
      progress =
          c.read_piece.new.progress;
      fault = Some c.fault_of-fault.result;
    }) c.args.self.now
    c.args.piece.now _
    c.self.view_is (ap (λ f. Some f) c.fault_of-fault.ensures) c.reader_laws.ensures
    c.self.invariant c.in_default.is (λ i. omega (arith, c.type_inv.piece i))
    (λ e. never (ap (λ f. Some f) c.fault_of-fault.ensures ∙ e)) c.in-Err.ensures.fed)

pub returns-in-Err-clause-short : goal.returns-in-Err-clause-short
returns-in-Err-clause-short c =
    λ none. on_by (Some c.fault_of-fault.result)
    (λ memory. fed_short c.self.inside
    (record c.self.inside {
      packets = c.read_piece.new.packets;
      progress =
          c.read_piece.new.progress;
      fault = Some c.fault_of-fault.result;
    }) c.args.self.now
    c.args.piece.now _
    c.self.view_is (ap (λ f. Some f) c.fault_of-fault.ensures) c.in_default.is
    (sym (ap (λ f. Some f) c.fault_of-fault.ensures) ∙ memory) c.in-Err.ensures.fed)

pub returns-in-Ok-clause-takes : goal.returns-in-Ok-clause-takes
returns-in-Ok-clause-takes c =
    fed_takes c.self.inside (record c.self.inside {
      packets = c.read_piece.new.packets;
      progress =
          c.read_piece.new.progress;
    }) c.args.self.now c.args.piece.now c.self.view_is c.in_default.is
    c.in_default.is c.in-Ok.ensures.fed

pub returns-in-Ok-clause-no_fault : goal.returns-in-Ok-clause-no_fault
returns-in-Ok-clause-no_fault c =
    found_none c.reader_laws.ensures
    (record c.self.inside {
      packets = c.read_piece.new.packets;
      progress =
          c.read_piece.new.progress;
    }) c.in_default.is c.in-Ok.ensures.is_open
