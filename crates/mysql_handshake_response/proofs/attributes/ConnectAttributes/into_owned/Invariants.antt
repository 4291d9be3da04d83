use Rattle.std.proofs.Common.{◌≡◌, ◌++◌, map}
use Rattle.std.specs.Vec.Iter.{into_iter_items}
use Rattle.mysql_handshake_response.specs.AttributeViews.{attributes_view, shown_attribute}
use Rattle.mysql_handshake_response.proofs.attributes.ConnectAttributes.into_owned.Given as goal

abbrev pub invariant-loop-key : goal.invariant-loop-key
invariant-loop-key l = attributes_view l.all ++
    map shown_attribute (into_iter_items l.key-iterator) ≡ attributes_view l.fn.self
