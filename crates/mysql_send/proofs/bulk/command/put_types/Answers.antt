use Rattle.mysql_bulk_builder.specs.Bulk.{param_type_bytes, type_of_value}
use Rattle.mysql_send.proofs.RequestBytes.{over_refs, passed}
use Rattle.mysql_send.proofs.bulk.command.put_types.Goals as goal

pub returns : goal.returns
returns c =
    over_refs (λ value. param_type_bytes (type_of_value value)) c.args.values.now
    c.args.command.now.items c.loop-value.command.items
    (passed (λ value. param_type_bytes (type_of_value value.now)) c.args.values.now
    c.loop-value.value-index c.args.command.now.items c.loop-value.command.items
    c.loop-value-test.false c.loop-value.invariant)
