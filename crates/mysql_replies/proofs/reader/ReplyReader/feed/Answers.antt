use Rattle.std.proofs.Common.{◌++◌, [], Err, ap, subst, sym, refl, ◌∙◌}
use Rattle.mysql_wire.specs.Incoming.{codec_by}
use Rattle.mysql_replies.specs.Holding.{ReaderGoesOn, StandsShort, fault_of}
use Rattle.mysql_replies.specs.States.{reader_state, UnlessMemory, OnMemory}
use Rattle.mysql_replies.proofs.Receiving.{fault_is, if_fault, if_no_fault, not_both, stays_going_on, unless_is, on_is}
use Rattle.mysql_replies.proofs.Found.{feed_found_none}
use Rattle.mysql_replies.proofs.reader.ReplyReader.feed.Goals as goal

pub returns-in-Some-clause-stays : goal.returns-in-Some-clause-stays
returns-in-Some-clause-stays c =
    if_fault _ _ c.in-Some.fault (ap (λ held. fault_of held.so_far) (sym c.self.view_is) ∙
    fault_is c.self.inside.parts.state ∙ c.in-Some.is) (refl, refl)

pub returns-in-Some-clause-fault : goal.returns-in-Some-clause-fault
returns-in-Some-clause-fault c = ap (λ held. fault_of held.so_far) (sym c.self.view_is) ∙
    fault_is c.self.inside.parts.state ∙ c.in-Some.is

pub returns-in-Some-clause-goes_on : goal.returns-in-Some-clause-goes_on
returns-in-Some-clause-goes_on c =
    λ never. unless_is (Err c.in-Some.fault) never
    (subst (λ held. UnlessMemory {X = Unit {0}} (Err c.in-Some.fault)
    (ReaderGoesOn held c.args.piece.now held)) c.self.view_is
    (stays_going_on c.self.inside.parts.state (codec_by c.self.inside.parts.packets)
    c.self.inside.parts.packets.bytes [] c.args.piece.now c.in-Some.fault c.in-Some.is))

pub returns-in-Some-clause-short : goal.returns-in-Some-clause-short
returns-in-Some-clause-short c =
    not_both _ c.in-Some.fault (ap (λ held. fault_of held.so_far) (sym c.self.view_is) ∙
    fault_is c.self.inside.parts.state ∙ c.in-Some.is)

pub returns-clause-stays : goal.returns-clause-stays
returns-clause-stays c = if_no_fault _ _ (ap (λ held. fault_of held.so_far) (sym c.self.view_is) ∙
    fault_is c.self.inside.parts.state ∙ c.in-None.is)

pub returns-clause-no_fault : goal.returns-clause-no_fault
returns-clause-no_fault c =
    feed_found_none c.framing_laws.ensures c.take_packets.new.self.state
    c.take_packets.new.self.packets c.take_packets.result c.take_packets.ensures.reading
    c.take_packets.ensures.paused

pub returns-clause-goes_on : goal.returns-clause-goes_on
returns-clause-goes_on c =
    λ never. unless_is c.take_packets.result never
    (subst (λ old. UnlessMemory c.take_packets.result
    (ReaderGoesOn old c.args.piece.now
    (reader_state c.take_packets.new.self.state c.take_packets.new.self.packets)))
    c.self.view_is c.take_packets.ensures.goes_on)

pub returns-clause-short : goal.returns-clause-short
returns-clause-short c =
    λ none memory. on_is c.take_packets.result memory
    (subst (λ old. OnMemory c.take_packets.result
    (StandsShort old (old.bytes ++ c.args.piece.now)
    (reader_state c.take_packets.new.self.state c.take_packets.new.self.packets)))
    c.self.view_is c.take_packets.ensures.short)
