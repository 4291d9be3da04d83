-- How many bytes are held of a packet that isn't whole.
use Rattle.std.proofs.Common.{◌≡◌, ℕ, zero, suc, ◌+◌, ◌*◌, ◌≤◌, ◌<◌, List, [], ◌++◌, length, take, drop, Option, Some}
use Rattle.std.proofs.Common.{None, ap, arith, inl, inr, ◌∙◌, length-append, length-take}
use Rattle.std.proofs.lemmas.List.{length-drop}
use Rattle.std.proofs.lemmas.Bool.{cases_lt}
use Rattle.mysql_wire.specs.Framing.{chunks, announced}
use Rattle.mysql_wire.specs.Codec.{held, packet_number}
use Rattle.mysql_wire.specs.Incoming.{Incoming, bytes_kept, codec_by}
use Rattle.mysql_wire.specs.Stream.{Rest, IsRest, IsTail, IsFault}
use Rattle.mysql_wire.specs.Stream.Rest.{Empty, TooLarge, OutOfSync, Open}
use Rattle.mysql_wire.proofs.Chunks.{chunks-zero, chunks_first, length-chunk}
use Rattle.mysql_replies.specs.declared.fault.ReplyFault.{ReplyFault}
use Rattle.mysql_replies.specs.declared.state.ReplyState.{ReplyState}
use Rattle.mysql_replies.specs.Holding.{fault_of}
use Rattle.mysql_replies.specs.Reply.{OpenReply}
use Rattle.mysql_replies.specs.States.{IsReceiving, faulted, open_reply, reader_state}

-- Each chunk that is full has four bytes more than it carries.
length-chunks : (payload : List ℕ) (id count : ℕ) → count * 16777215 ≤ length payload →
    length (chunks payload id count) ≡ count * 16777219
length-chunks payload id zero h = ap length (chunks-zero payload id)
length-chunks payload id (suc n) h =
    let others = chunks (drop 16777215 payload) (id + 1) n in
    let rest : n * 16777215 ≤ length (drop 16777215 payload) = omega (arith, h, length-drop 16777215 payload) in
    omega (
      arith,
      h,
      ap length (chunks_first payload id n []),
      length-append (chunks payload id (suc n)) [],
      length-chunk id (take 16777215 payload) (others ++ []),
      length-append others [],
      length-take 16777215 payload,
      length-chunks (drop 16777215 payload) (id + 1) n rest,
    )

few : (limit count came tail : ℕ) → came ≡ count * 16777219 + tail → count * 16777215 ≤ limit →
    tail < 4 → bytes_kept came ≤ limit + 3
few limit count came tail all within short = omega arith

many : (limit count came tail carried : ℕ) → came ≡ count * 16777219 + tail →
    count * 16777215 + carried ≤ limit → 4 ≤ tail → tail < 4 + carried → bytes_kept came ≤ limit + 3
many limit count came tail carried all within long short = omega arith

open_within : (limit count came tail carried : ℕ) → came ≡ count * 16777219 + tail →
    count * 16777215 + carried ≤ limit → tail < 4 + carried → bytes_kept came ≤ limit + 3
open_within limit count came tail carried all within short =
    elim (cases_lt tail 4) [
      | inl fewer ↦ few limit count came tail all (omega arith) fewer
      | inr long ↦ many limit count came tail carried all within long short
    ]

tail_within : (limit before number count came : ℕ) (tail : List ℕ) (rest : Rest) → came ≡
    count * 16777219 + length tail → before ≡ count * 16777215 → before ≤ limit → ¬ IsFault rest →
    IsTail limit before number tail rest → bytes_kept came ≤ limit + 3
tail_within limit before number count came tail Empty all full within none ends =
    few limit count came (length tail) all (omega arith) (omega (arith, ends.1))
tail_within limit before number count came tail TooLarge all full within none ends = absurd (none tt)
tail_within limit before number count came tail OutOfSync all full within none ends = absurd (none tt)
tail_within limit before number count came tail Open all full within none ends =
    elim ends.1 [
      | inl short ↦ few limit count came (length tail) all (omega arith) short
      | inr long ↦ open_within limit count came (length tail) (announced tail) all (omega (arith, long.1)) long.0
    ]

rest_within : (limit id : ℕ) (bytes : List ℕ) (rest : Rest) → ¬ IsFault rest →
    IsRest limit id bytes rest → bytes_kept (length bytes) ≤ limit + 3
rest_within limit id bytes rest none r =
    let whole : length (chunks r.body id r.count) ≡ r.count * 16777219 =
    length-chunks r.body id r.count (omega (arith, r.full)) in
    tail_within limit (length r.body) (id + r.count) r.count (length bytes) r.tail rest
    (ap length r.joined ∙ length-append (chunks r.body id r.count) r.tail ∙
    ap (λ n. n + length r.tail) whole) r.full r.within none r.ends

no_fault_by : (s : OpenReply) (f : Option ReplyFault) → fault_of (faulted s f) ≡ None → f ≡ None
no_fault_by s None none = none
no_fault_by s (Some fault) none = none

-- Where no fault was met, no more is held than the limit and three bytes of a header.
pub kept_within : (s : ReplyState) (packets : Incoming) →
    IsReceiving s (codec_by packets) packets.bytes [] → fault_of (reader_state s packets).so_far ≡
    None → bytes_kept (length (reader_state s packets).bytes) ≤ packets.limit + 3
kept_within s packets receiving none =
    let paused = receiving.paused (no_fault_by (open_reply s) s.fault none) in
    rest_within packets.limit (packet_number (codec_by packets) [])
    (held (codec_by packets) packets.bytes []) paused.rest paused.no_fault paused.is_rest
