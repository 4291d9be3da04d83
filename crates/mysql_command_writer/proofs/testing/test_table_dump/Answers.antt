use Rattle.std.proofs.Common.{◌≡◌, true, false, refl, sym, ◌∙◌}
use Rattle.mysql_replication.specs.Packets.{whole_table_dump}
use Rattle.mysql_replication.specs.Views.{table_dump_view}
use Rattle.mysql_command_writer.proofs.Replication.{cut_tables, tables_read}
use Rattle.std.specs.Option.{option_copied}
use Rattle.mysql_command_writer.proofs.testing.test_table_dump.Goals as goal

pub returns-then-is_whole : goal.returns-then-is_whole
returns-then-is_whole c =
    let p = table_dump_view c.args.request.now in
    let whole : whole_table_dump p ≡ true = sym c.is_whole.ensures ∙ c.if-is_whole.true in
    tables_read c.args.capabilities (option_copied c.args.parameters) p whole

pub returns-else-is_whole : goal.returns-else-is_whole
returns-else-is_whole c =
    let p = table_dump_view c.args.request.now in
    let cut : whole_table_dump p ≡ false = sym c.is_whole.ensures ∙ c.if-is_whole.false in
    λ _. (refl, cut_tables c.args.capabilities (option_copied c.args.parameters) p cut)
