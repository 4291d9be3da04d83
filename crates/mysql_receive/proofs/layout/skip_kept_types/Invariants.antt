use Rattle.std.proofs.Common.{◌≡◌, ◌-◌, take, length}
use Rattle.mysql_receive.specs.Layout.{types_at}
use Rattle.mysql_receive.specs.declared.fault.StreamFault.{StreamFault}
use Rattle.mysql_receive.proofs.Loops.{with_front}
use Rattle.mysql_receive.proofs.layout.skip_kept_types.Given as goal

abbrev pub invariant-loop-kind : goal.invariant-loop-kind
invariant-loop-kind l = (short : StreamFault) →
    with_front (take l.kind-index l.kept) (types_at short (length l.kept - l.kind-index) l.rest) ≡
    types_at short (length l.kept) l.bytes
