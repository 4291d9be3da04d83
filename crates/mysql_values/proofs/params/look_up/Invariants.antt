use Rattle.std.proofs.Common.{◌≡◌, map, drop}
use Rattle.mysql_values.specs.Params.{values_named}
use Rattle.mysql_values.proofs.Looked.{behind}
use Rattle.mysql_values.proofs.params.look_up.Given as goal

abbrev pub invariant-loop-name : goal.invariant-loop-name
invariant-loop-name g l = values_named l.entries.entries (map g.N.AsSlice.items l.names) ≡
    behind (map (λ value. value.now) l.values.items)
    (values_named l.entries.entries (map g.N.AsSlice.items (drop l.name-index l.names)))
