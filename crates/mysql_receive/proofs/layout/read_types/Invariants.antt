use Rattle.std.proofs.Common.{◌≡◌, ◌-◌}
use Rattle.mysql_receive.specs.Layout.{types_at}
use Rattle.mysql_receive.proofs.Loops.{with_front}
use Rattle.mysql_receive.proofs.layout.read_types.Given as goal

abbrev pub invariant-loop : goal.invariant-loop
invariant-loop l = with_front l.types.items (types_at l.short (l.count - l.counter) l.rest) ≡
    types_at l.short l.count l.bytes
