use Rattle.std.proofs.Common.{List, ℕ, map, subst, sym}
use Rattle.std.proofs.lemmas.List.Folds.{flat_map-map}
use Rattle.mysql_fields.specs.Wire.{Appends}
use Rattle.mysql_ok_packets.specs.SessionStates.{variable}
use Rattle.mysql_ok_packets.specs.SessionStateViews.{variable_view}
use Rattle.mysql_ok_packets.proofs.change.put_variables.Goals as goal

pub returns : goal.returns
returns c =
    subst (λ (bytes : List ℕ). Appends c.put_all.result c.args.buf.now.items c.put_all.new.buf.items bytes)
    (sym (flat_map-map variable variable_view c.args.all.now)) c.put_all.ensures
