use Rattle.std.proofs.Common.{◌≡◌, length, map}
use denote.Text.{Utf8}
use denote.Shadow.{shadow}
use Rattle.mysql_replication.specs.Sids.{sid_view}
use Rattle.mysql_c_commands.specs.Gtids.{fields_of, sids_between}
use Rattle.mysql_c_commands.proofs.Fields.{behind}
use Rattle.mysql_c_commands.proofs.gtids.sids_between.Given as goal

abbrev pub invariant-loop-front : goal.invariant-loop-front
invariant-loop-front l =
    (sids_between (fields_of l.text) ≡
    behind (map sid_view l.sids.items) (sids_between (fields_of l.rest))) × shadow (Utf8 l.rest)

abbrev pub decreases-loop-front : goal.decreases-loop-front
decreases-loop-front l = length l.rest
