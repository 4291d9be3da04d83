use Rattle.std.proofs.Common.{◌≡◌, ◌++◌, map, take}
use Rattle.std.specs.List.{flat_map}
use Rattle.mysql_handshake_response.specs.Attributes.{attribute}
use Rattle.mysql_handshake_response.specs.AttributeViews.{shown_attribute}
use Rattle.mysql_handshake_response.proofs.attributes.put_all.Given as goal

abbrev pub invariant-loop-one : goal.invariant-loop-one
invariant-loop-one l = l.buf.items ≡ l.initial.buf.items ++
    flat_map attribute (map shown_attribute (take l.one-index l.one-items))
