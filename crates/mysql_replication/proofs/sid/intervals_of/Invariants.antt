use Rattle.std.proofs.Common.{◌≡◌, drop, length}
use Rattle.mysql_replication.specs.Intervals.{intervals_of}
use Rattle.mysql_replication.specs.Sids.{fields_of}
use Rattle.mysql_replication.proofs.Reading.{behind}
use Rattle.mysql_replication.proofs.sid.intervals_of.Given as goal

abbrev pub invariant-loop-field : goal.invariant-loop-field
invariant-loop-field l =
    intervals_of (fields_of l.text) ≡
    behind l.intervals.items (intervals_of (drop (length l.yielded) (fields_of l.text)))
