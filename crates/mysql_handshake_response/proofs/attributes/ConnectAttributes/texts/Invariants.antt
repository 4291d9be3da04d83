use Rattle.std.proofs.Common.{◌≡◌, map, take}
use Rattle.mysql_handshake_response.specs.AttributeViews.{lossy_attribute, shown_attribute, text_attribute}
use Rattle.mysql_handshake_response.proofs.attributes.ConnectAttributes.texts.Given as goal

abbrev pub invariant-loop-key : goal.invariant-loop-key
invariant-loop-key l = map text_attribute l.texts.items ≡
    map lossy_attribute (map shown_attribute (take l.key-index l.key-items))
