use Rattle.std.proofs.Common.{◌++◌, ◌∙◌, ap}
use Rattle.byteorder.specs.Endian.{little_bytes}
use Rattle.mysql_bulk_builder.specs.RowLists.{row_in}
use Rattle.mysql_send.proofs.RequestBytes.{flags_and_types}
use Rattle.mysql_send.proofs.bulk.command.put_flags_and_types.Goals as goal

pub returns-in_ok-serialize : goal.returns-in_ok-serialize
returns-in_ok-serialize c =
    flags_and_types c.put_types.result c.args.typed (row_in c.args.firsts.now)
    c.args.command.now.items c.serialize.new.buf.items c.put_types.new.command.items
    c.if-typed.true (c.in_ok-serialize.ensures ∙
    ap (λ n. c.args.command.now.items ++ little_bytes 2 n) c.new-flags.ensures)
    c.put_types.ensures
