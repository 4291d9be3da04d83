use Rattle.std.proofs.Common.{◌∙◌, sym}
use Rattle.mysql_connection_writer.proofs.PlainBytes.{file_written, no_file_data}
use Rattle.mysql_connection_writer.proofs.plain.write_file_data.Goals as goal

pub returns-then-awaits_file : goal.returns-then-awaits_file
returns-then-awaits_file c =
    file_written c.args.state.now.standing c.args.bytes.now c.args.out.now.items c.put_bytes.new.out.items
    c.put_bytes.result (sym c.awaits_file.ensures ∙ c.if-awaits_file.true) c.put_bytes.ensures

pub returns-else-awaits_file : goal.returns-else-awaits_file
returns-else-awaits_file c =
    no_file_data c.args.state.now.standing c.args.bytes.now c.args.out.now.items
    (sym c.awaits_file.ensures ∙ c.if-awaits_file.false)
