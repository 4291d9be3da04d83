-- A packet of one chunk that stands whole at the front of a piece.
use Rattle.std.proofs.Common.{◌≡◌, ℕ, ◌+◌, ◌%◌, ◌<◌, List, [], ◌++◌, length, take, drop, refl, ap, sym, ◌∙◌, subst}
use Rattle.std.proofs.Common.{arith, length-drop, length-take}
use Rattle.std.specs.Prelude.{None}
use Rattle.mysql_buf.specs.Bytes.{AreBytes}
use Rattle.mysql_wire.specs.Framing.{chunk, number_at}
use Rattle.mysql_wire.specs.Codec.{HandsOut, codec_at}
use Rattle.mysql_wire.specs.Incoming.{Incoming, IsFrontChunk, codec_by}
use Rattle.mysql_wire.proofs.Chunks.{chunks_none}
use Rattle.mysql_wire.proofs.Exists.{front_chunk}
use Rattle.mysql_wire.proofs.Held.{last_taken, first_of}
use Rattle.mysql_wire.proofs.Reading.{held_between}

-- a codec between packets hands it out
hands_whole : (limit number count : ℕ) (bytes : List ℕ) → number < 256 → AreBytes bytes →
    IsFrontChunk limit number bytes count →
    HandsOut (codec_at number limit) bytes [] (codec_at ((number + 1) % 256) limit)
    (drop (4 + count) bytes) (take count (drop 4 bytes))
hands_whole limit number count bytes byte are s =
    let payload : List ℕ = take count (drop 4 bytes) in
    let rest : List ℕ = drop (4 + count) bytes in
    let len : length payload ≡ count = omega (arith, s.whole, length-take count (drop 4 bytes), length-drop 4 bytes) in
    let own : number_at bytes ≡ number % 256 = omega (arith, s.due) in
    let eaten : bytes ≡ chunk number payload ++ rest =
    front_chunk number bytes are (omega (arith, s.count_is, s.whole)) own ∙
    ap (λ k. chunk number (take k (drop 4 bytes)) ++ drop (4 + k) bytes) (sym s.count_is) in
    let done = last_taken number bytes [] rest payload payload (omega arith) byte eaten refl
    (omega (arith, len, s.short)) in
    record {
      framed = held_between (codec_at number limit) bytes [] refl refl ∙
          sym (chunks_none [] (first_of number []) bytes) ∙ done.0;
      within = omega (arith, len, s.within);
      number = done.1;
      limit = refl;
      between = (refl, refl);
    }

-- and so does a reader to which no byte of it came before
pub hands_in_place : (v new : Incoming) (count : ℕ) (piece left payload : List ℕ) → v.bytes ≡ [] →
    v.refused ≡ None → v.number < 256 → AreBytes piece → IsFrontChunk v.limit v.number piece count →
    new ≡ record v { number = (v.number + 1) % 256; payload = [] } → left ≡ drop (4 + count) piece →
    payload ≡ take count (drop 4 piece) →
    HandsOut (codec_by v) (v.bytes ++ piece) [] (codec_by new) (new.bytes ++ left) payload
hands_in_place v new count piece left payload none fine byte are s is behind taken =
    subst (λ (n : Incoming). HandsOut (codec_by v) (v.bytes ++ piece) [] (codec_by n) (n.bytes ++
    left) payload) (sym is)
    (subst (λ b. HandsOut (codec_by v) (b ++
    piece) [] (codec_by (record v { number = (v.number + 1) % 256; payload = [] })) (b ++
    left) payload) (sym none)
    (subst (λ o. HandsOut (record { limit = v.limit; number = v.number; begun = None; refused = o })
    piece [] (record {
      limit = v.limit;
      number = (v.number + 1) % 256;
      begun = None;
      refused =
          o;
    }) left payload) (sym fine)
    (subst (λ l. HandsOut (codec_at v.number v.limit) piece []
    (codec_at ((v.number + 1) % 256) v.limit) l payload) (sym behind)
    (subst (λ l. HandsOut (codec_at v.number v.limit) piece []
    (codec_at ((v.number + 1) % 256) v.limit) (drop (4 + count) piece) l) (sym taken)
    (hands_whole v.limit v.number count piece byte are s)))))
