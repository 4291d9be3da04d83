use Rattle.std.proofs.Common.{◌≡◌, drop}
use Rattle.mysql_field_lists.specs.NullBitmap.{is_null_at}
use Rattle.mysql_executions.specs.Executions.{parameter_at, parameters_at}
use Rattle.mysql_executions.specs.Fields.{each_at}
use Rattle.mysql_executions.specs.InForce.{data_for}
use Rattle.mysql_executions.specs.Views.{types_by, types_of}
use Rattle.mysql_executions.proofs.Loops.{with_front}
use Rattle.mysql_executions.proofs.value_reading.read_parameters.Given as goal

abbrev pub invariant-loop-place : goal.invariant-loop-place
invariant-loop-place l =
    with_front l.values.items
    (each_at (λ place t b. parameter_at (data_for l.s.long_data place)
    (is_null_at 0 l.nulls place) t b) l.place
    (drop l.place (types_by (types_of l.own) l.s.types)) l.rest)
    ≡ parameters_at l.s.long_data l.nulls (types_by (types_of l.own) l.s.types) l.bytes
