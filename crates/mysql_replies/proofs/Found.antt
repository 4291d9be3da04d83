-- Where no fault was met, none was found.
use Rattle.std.proofs.Common.{◌≡◌, ℕ, List, [], Bool, true, false, None, refl, ap, arith, ◌∙◌}
use Rattle.std.specs.Prelude.{Result, Ok, Err, OnOk}
use Rattle.mysql_wire.specs.Codec.{Codec, held}
use Rattle.mysql_wire.specs.Incoming.{Incoming, codec_by}
use Rattle.mysql_replies.specs.declared.fault.ReplyFault.{ReplyFault}
use Rattle.mysql_replies.specs.declared.state.ReplyState.{ReplyState}
use Rattle.mysql_replies.specs.Reply.{end_behind, is_over}
use Rattle.mysql_wire.specs.Stream.Rest.{Empty}
use Rattle.mysql_replies.specs.Holding.{HasFoundNoFault, fault_of_end}
use Rattle.mysql_replies.specs.States.{open_reply, reader_state, reader_state_of, answer_of, end_of_state, IsReading}
use Rattle.mysql_replies.specs.States.{IsPaused, FramingLaws}
use Rattle.mysql_replies.proofs.Receiving.{bytes_append, finish_going}
use Rattle.mysql_replies.proofs.Fed.{readers_agree}

no_fault_at : (over : Bool) (count : ℕ) → fault_of_end (end_behind over count Empty) ≡ None
no_fault_at true count = refl
no_fault_at false count = refl

-- What the parts of a reader keep where no fault was met has none.
pub found_none : FramingLaws → (s : ReplyState) (codec : Codec) (src dst : List ℕ) → IsReading s →
    s.fault ≡ None → IsPaused s codec src dst → HasFoundNoFault (reader_state_of s codec src dst)
found_none laws s codec src dst reading going paused answer decides =
    let same : answer ≡ answer_of s =
    readers_agree laws.one (reader_state_of s codec src dst) [] answer (answer_of s)
    (bytes_append (held codec src dst) [] paused.bytes (λ i. omega arith)) decides
    (finish_going s codec src dst (answer_of s) reading going paused refl) in
    ap (λ a. fault_of_end a.end) same ∙
    ap (λ f. fault_of_end (end_of_state (open_reply s) f)) going ∙
    no_fault_at (is_over s.events.so_far.awaited) s.count

-- A feed without a fault.
pub feed_found_none : FramingLaws →
    (s : ReplyState) (packets : Incoming) (r : Result Unit ReplyFault) → IsReading s →
    OnOk r ((s.fault ≡ None) × IsPaused s (codec_by packets) packets.bytes []) →
    OnOk r (HasFoundNoFault (reader_state s packets))
feed_found_none laws s packets (Ok x) reading paused =
    found_none laws s (codec_by packets) packets.bytes [] reading paused.0 paused.1
feed_found_none laws s packets (Err fault) reading paused = tt
