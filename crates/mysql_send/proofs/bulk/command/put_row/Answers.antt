use Rattle.std.specs.List.{flat_map}
use Rattle.std.proofs.Common.{take}
use Rattle.mysql_send.proofs.Lists.{kept_behind}
use Rattle.mysql_bulk_builder.specs.Bulk.{param_value_bytes, param_value_of}
use Rattle.mysql_send.proofs.RequestBytes.{over_refs, passed}
use Rattle.mysql_send.proofs.bulk.command.put_row.Goals as goal

pub returns-clause-ok : goal.returns-clause-ok
returns-clause-ok c =
    over_refs (λ value. param_value_bytes (param_value_of value)) c.args.row.now
    c.args.command.now.items c.loop-value.command.items
    (passed (λ value. param_value_bytes (param_value_of value.now)) c.args.row.now
    c.loop-value.value-index c.args.command.now.items c.loop-value.command.items
    c.loop-value-test.false c.loop-value.invariant)

pub returns-in_err-put_value-clause-kept : goal.returns-in_err-put_value-clause-kept
returns-in_err-put_value-clause-kept c =
    kept_behind c.args.command.now.items
    (flat_map (λ value. param_value_bytes (param_value_of value.now))
    (take c.loop-value.value-index c.args.row.now)) c.loop-value.command.items
    c.put_value.new.command.items c.loop-value.invariant c.put_value.ensures.kept
