use Rattle.std.proofs.Common.{◌≡◌, drop, map, nat_eq, option_map}
use Rattle.std.specs.Cmp.Lexicographic.{pointwise}
use Rattle.std.specs.List.{filter, last_or}
use Rattle.mysql_handshake_response.specs.Attributes.{Attribute, last_value}
use Rattle.mysql_handshake_response.specs.AttributeViews.{shown_attribute}
use Rattle.mysql_handshake_response.proofs.attributes.ConnectAttributes.get.Given as goal

abbrev pub invariant-loop-name : goal.invariant-loop-name
invariant-loop-name l =
    last_or (option_map (λ value. value.now) l.last) (map (λ (one : Attribute). one.1)
    (filter (λ one. pointwise nat_eq one.0 l.key) (map shown_attribute (drop l.name-index l.name-items))))
    ≡ last_value l.key (map shown_attribute l.name-items)
