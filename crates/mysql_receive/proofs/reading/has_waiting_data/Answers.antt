use Rattle.std.proofs.Common.{◌-◌, length, arith}
use Rattle.std.specs.Prelude.{is_some}
use Rattle.mysql_receive.specs.InForce.{is_waiting}
use Rattle.mysql_receive.specs.Views.{statement_view, state_of, data_waiting}
use Rattle.mysql_receive.proofs.Loops.{any_goes_on}
use Rattle.mysql_receive.proofs.reading.has_waiting_data.Goals as goal

pub loop-place-preserved : goal.loop-place-preserved
loop-place-preserved c =
    any_goes_on (λ place. is_some (data_waiting c.args.state.now.long_data.items place))
    c.loop-place.place (length c.args.statement.now.places.items)
    (is_waiting (statement_view c.args.statement.now) (state_of c.args.state.now))
    (omega (arith, c.len-place-end.ensures)) c.if-has_data_for.ensures c.loop-place.invariant
