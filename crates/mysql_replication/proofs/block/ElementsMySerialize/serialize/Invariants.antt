use Rattle.std.proofs.Common.{◌≡◌, ◌++◌, take}
use Rattle.std.specs.List.{flat_map}
use Rattle.mysql_replication.proofs.block.ElementsMySerialize.serialize.Given as goal

abbrev pub invariant-loop-item : goal.invariant-loop-item
invariant-loop-item g l = l.buf.items ≡ l.initial.buf.items ++
    flat_map g.T.MySerialize.written (take l.item-index l.all)
