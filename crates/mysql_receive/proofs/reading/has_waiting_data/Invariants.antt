use Rattle.std.proofs.Common.{◌≡◌, ◌-◌, length}
use Rattle.std.specs.Prelude.{is_some}
use Rattle.std.specs.List.{list_any, range_with_len}
use Rattle.mysql_receive.specs.InForce.{is_waiting}
use Rattle.mysql_receive.specs.Views.{statement_view, state_of, data_waiting}
use Rattle.mysql_receive.proofs.reading.has_waiting_data.Given as goal

abbrev pub invariant-loop-place : goal.invariant-loop-place
invariant-loop-place l =
    list_any (λ place. is_some (data_waiting l.state.long_data.items place))
    (range_with_len l.place (length l.statement.places.items - l.place))
    ≡ is_waiting (statement_view l.statement) (state_of l.state)
