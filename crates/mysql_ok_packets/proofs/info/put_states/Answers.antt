use Rattle.std.proofs.Common.{List, ℕ, map, subst, sym}
use Rattle.std.proofs.lemmas.List.Folds.{flat_map-map}
use Rattle.mysql_fields.specs.Wire.{Appends}
use Rattle.mysql_ok_packets.specs.SessionStates.{state}
use Rattle.mysql_ok_packets.specs.SessionStateViews.{state_view}
use Rattle.mysql_ok_packets.proofs.info.put_states.Goals as goal

pub returns : goal.returns
returns c =
    subst (λ (bytes : List ℕ). Appends c.put_all.result c.args.buf.now.items c.put_all.new.buf.items bytes)
    (sym (flat_map-map state state_view c.args.states.now)) c.put_all.ensures
