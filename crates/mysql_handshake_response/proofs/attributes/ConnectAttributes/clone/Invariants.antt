use Rattle.std.proofs.Common.{◌≡◌, map, take}
use Rattle.mysql_handshake_response.specs.AttributeViews.{attributes_view, shown_attribute}
use Rattle.mysql_handshake_response.proofs.attributes.ConnectAttributes.clone.Given as goal

abbrev pub invariant-loop-key : goal.invariant-loop-key
invariant-loop-key l = attributes_view l.all ≡ map shown_attribute (take l.key-index l.key-items)
