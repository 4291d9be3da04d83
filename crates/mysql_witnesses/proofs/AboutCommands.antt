-- Objects of another kind, numbers and roads.
use Rattle.std.proofs.Common.{inl, inr, refl, arith}
use Rattle.mysql_witnesses.specs.Commands.{NegativeNumbersAreShown, NoRoadIsNoSending, OtherObjectsAreTold}

pub other_objects_are_told : OtherObjectsAreTold
other_objects_are_told value bytes number new h = h.0

pub negative_numbers_are_shown : NegativeNumbersAreShown
negative_numbers_are_shown number shown (inl h) = h.0
negative_numbers_are_shown number shown (inr (inl h)) = h.0
negative_numbers_are_shown number shown (inr (inr h)) = absurd (h.1 (omega arith))

pub no_road_is_no_sending : NoRoadIsNoSending
no_road_is_no_sending flags query sets id limit old new place h = h.delivered refl
