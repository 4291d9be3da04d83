use Rattle.std.proofs.Common.{◌≡◌, ◌++◌, map}
use Rattle.mysql_handshake_response.specs.AttributeViews.{attributes_view, text_attribute}
use Rattle.mysql_handshake_response.proofs.attributes.ConnectAttributes.from_texts.Given as goal

abbrev pub invariant-loop-key : goal.invariant-loop-key
invariant-loop-key l = attributes_view l.all ++ map text_attribute l.key-iterator ≡
    map text_attribute l.fn.texts.entries
