use Rattle.std.proofs.Common.{◌≡◌, ◌++◌, take}
use Rattle.std.specs.List.{flat_map}
use Rattle.mysql_field_lists.proofs.raw_seq.put_numbers.Given as goal

abbrev pub invariant-loop-number : goal.invariant-loop-number
invariant-loop-number g l = l.buf.items ≡ l.initial.buf.items ++
    flat_map g.T.IntRepr.form.written (take l.number-index l.all)
