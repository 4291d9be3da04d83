use Rattle.std.proofs.Common.{◌≡◌, ◌+◌, ◌-◌, ◌++◌, length, take, ◌∙◌, ap, arith}
use Rattle.mysql_wire.specs.Framing.{framing}
use Rattle.mysql_bulk_builder.specs.RowLists.{row_in, rows_in}
use Rattle.mysql_bulk_builder.specs.TypedRequests.{typing_of}
use Rattle.mysql_bulk_builder.specs.ValueTypes.{first_values}
use Rattle.mysql_command_rules.specs.Commands.{bulk_request}
use Rattle.mysql_send.proofs.SentRequests.{part_command, rows_up_to}
use Rattle.mysql_send.proofs.bulk.requests.put_part.Goals as goal

pub returns-in_err-put_request-clause-firsts : goal.returns-in_err-put_request-clause-firsts
returns-in_err-put_request-clause-firsts c =
    let cut : (c.args.start + c.args.part.count) - c.args.start ≡ c.args.part.count = omega arith in
    c.put_first_values.ensures (take c.args.start (rows_in c.args.rows.now)) c.requires.firsts ∙
    ap (first_values (length c.args.firsts.now))
    (rows_up_to c.args.rows.now c.args.start c.args.part.count _ cut)

pub returns-in_err-packet_to_chunks-clause-firsts : goal.returns-in_err-packet_to_chunks-clause-firsts
returns-in_err-packet_to_chunks-clause-firsts c =
    let cut : (c.args.start + c.args.part.count) - c.args.start ≡ c.args.part.count = omega arith in
    c.put_first_values.ensures (take c.args.start (rows_in c.args.rows.now)) c.requires.firsts ∙
    ap (first_values (length c.args.firsts.now))
    (rows_up_to c.args.rows.now c.args.start c.args.part.count _ cut)

pub returns-clause-firsts : goal.returns-clause-firsts
returns-clause-firsts c =
    let cut : (c.args.start + c.args.part.count) - c.args.start ≡ c.args.part.count = omega arith in
    c.put_first_values.ensures (take c.args.start (rows_in c.args.rows.now)) c.requires.firsts ∙
    ap (first_values (length c.args.firsts.now))
    (rows_up_to c.args.rows.now c.args.start c.args.part.count _ cut)

pub returns-clause-ok : goal.returns-clause-ok
returns-clause-ok c =
    let cut : (c.args.start + c.args.part.count) - c.args.start ≡ c.args.part.count = omega arith in
    let firsts : row_in c.put_first_values.new.firsts ≡
    first_values (length c.args.firsts.now)
    (take (c.args.start + c.args.part.count) (rows_in c.args.rows.now)) =
    c.put_first_values.ensures (take c.args.start (rows_in c.args.rows.now)) c.requires.firsts ∙
    ap (first_values (length c.args.firsts.now))
    (rows_up_to c.args.rows.now c.args.start c.args.part.count _ cut) in
    let command : c.put_request.new.command.items ≡
    bulk_request c.args.id (length c.args.firsts.now) (rows_in c.args.rows.now) c.args.start
    (typing_of c.args.part.typed) c.args.part.count =
    part_command c.args.id (length c.args.firsts.now) c.args.rows.now c.args.start
    ((c.args.start + c.args.part.count) - c.args.start) c.args.part
    c.put_first_values.new.firsts c.clear.new.self.items c.put_request.new.command.items
    firsts cut c.clear.ensures.items c.in_ok-put_request.ensures in
    c.in_ok-packet_to_chunks.ensures.ok ∙
    ap (λ l. c.args.out.now.items ++ framing l 0) (c.deref.ensures.value ∙ command)
