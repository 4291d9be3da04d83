use Rattle.std.proofs.Common.{◌≡◌, length, map, take}
use Rattle.std.specs.List.{flat_map}
use Rattle.mysql_handshake_response.specs.Attributes.{attribute}
use Rattle.mysql_handshake_response.specs.AttributeViews.{shown_attribute}
use Rattle.mysql_handshake_response.proofs.attributes.bytes_of_all.Given as goal

abbrev pub invariant-loop-key : goal.invariant-loop-key
invariant-loop-key l = l.total ≡ length (flat_map attribute (map shown_attribute (take l.key-index l.key-items)))
