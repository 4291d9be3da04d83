use Rattle.std.proofs.Common.{◌≡◌, false, sym, ◌∙◌}
use Rattle.mysql_command_writer.proofs.FieldLists.{field_lists, has_zero}
use Rattle.std.specs.Option.{option_copied}
use Rattle.mysql_command_writer.proofs.testing.test_field_list.Goals as goal

pub returns : goal.returns
returns c =
    let none : has_zero c.args.table.now ≡ false = sym c.has_zero.ensures ∙ c.if-has_zero.false in
    field_lists c.args.capabilities (option_copied c.args.parameters) c.args.table.now c.args.wildcard.now none
