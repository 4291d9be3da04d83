use Rattle.std.proofs.Common.{◌≡◌, ◌++◌, take}
use Rattle.std.specs.List.{flat_map}
use Rattle.mysql_ok_packets.proofs.to_end.put_all.Given as goal

abbrev pub invariant-loop-one : goal.invariant-loop-one
invariant-loop-one g l = l.buf.items ≡ l.initial.buf.items ++ flat_map g.T.MySerialize.written (take l.one-index l.all)
