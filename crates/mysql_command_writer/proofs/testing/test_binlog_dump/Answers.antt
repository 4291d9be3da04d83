use Rattle.std.proofs.Common.{◌≡◌, true, false, refl, sym, ◌∙◌, arith, ap}
use Rattle.mysql_const.specs.BinlogDumpFlags.{binlog_dump_flags}
use Rattle.mysql_field_constants.specs.Flags.{are_named}
use Rattle.mysql_replication.specs.Views.{binlog_dump_view}
use Rattle.mysql_command_writer.proofs.Replication.{HasDumpNumbers, dumps_read, nameless_dumps}
use Rattle.std.specs.Option.{option_copied}
use Rattle.mysql_command_writer.proofs.testing.test_binlog_dump.Goals as goal

pub returns-then-have_names : goal.returns-then-have_names
returns-then-have_names c =
    let p = binlog_dump_view c.args.request.now in
    let named : are_named binlog_dump_flags p.flags ≡ true =
    ap (are_named binlog_dump_flags) (sym c.flags.ensures) ∙ sym c.have_names.ensures ∙ c.if-have_names.true in
    let numbers : HasDumpNumbers p =
    record { pos = omega arith; flags = omega arith; server_id = omega arith } in
    dumps_read c.args.capabilities (option_copied c.args.parameters) p numbers named

pub returns-else-have_names : goal.returns-else-have_names
returns-else-have_names c =
    let p = binlog_dump_view c.args.request.now in
    let nameless : are_named binlog_dump_flags p.flags ≡ false =
    ap (are_named binlog_dump_flags) (sym c.flags.ensures) ∙ sym c.have_names.ensures ∙ c.if-have_names.false in
    let numbers : HasDumpNumbers p =
    record { pos = omega arith; flags = omega arith; server_id = omega arith } in
    λ _. (refl, nameless_dumps c.args.capabilities (option_copied c.args.parameters) p numbers nameless)
