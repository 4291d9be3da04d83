use Rattle.std.proofs.Common.{◌≡◌, length, arith, refl}
use Rattle.mysql_handshake_response.specs.AttributeViews.{attributes_view}
use Rattle.mysql_command_writer.proofs.Lists.{same_lists}
use Rattle.mysql_command_writer.proofs.same.same_attributes.Goals as goal

pub returns : goal.returns
returns c =
    let one = attributes_view c.args.one.now in
    let other = attributes_view c.args.other.now in
    let len : length (attributes_view c.args.one.now) ≡ length (attributes_view c.args.other.now) = omega arith in
    (λ _. same_lists one other len (λ k h. c.loop-place.invariant k (omega arith)), λ _. refl)
