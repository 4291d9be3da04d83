use Rattle.std.proofs.Common.{◌++◌, ◌∙◌, ap, map, List, ℕ}
use Rattle.mysql_send.proofs.Lists.{where_appended}
use Rattle.mysql_send.specs.Executions.{whole_execution}
use Rattle.mysql_send.proofs.Pieces.{sent_short}
use Rattle.mysql_send.proofs.execute.executions.put_short.Goals as goal

pub returns-clause-ok : goal.returns-clause-ok
returns-clause-ok g c =
    where_appended c.put_execution.result c.extend_from_slice.new.self.items
    c.put_execution.new.out.items
    (whole_execution c.args.id (map g.V.HasValue.value c.args.values.now))
    (λ put.
    sent_short c.executions_have_sizes.ensures c.args.id c.args.size g.V.HasValue.value
    c.args.values.now c.args.out.now.items c.extend_from_slice.new.self.items
    c.put_execution.new.out.items c.packet_header.result c.requires.size c.requires.short
    c.packet_header.ensures (c.in_ok-extend_from_slice.ensures.items ∙
    ap (λ (l : List ℕ). l ++ c.packet_header.result) c.in_ok-reserve.ensures.items) put)
    c.put_execution.ensures
