use Rattle.std.proofs.Common.{◌∷◌, []}
use Rattle.std.proofs.lemmas.List.{map-append}
use Rattle.mysql_replication.specs.Sids.{sid_view}
use Rattle.mysql_c_commands.proofs.gtids.push_sid.Goals as goal

pub returns-clause-ok : goal.returns-clause-ok
returns-clause-ok c = (
  sid_view c.in_ok-sid.sid,
  rw (← c.trim.ensures.trim) c.in_ok-sid.ensures,
  rw c.in_ok-push.ensures.items (map-append sid_view c.args.sids.now.items (c.in_ok-sid.sid ∷ [])),
)
