-- The steps of reading a packet whose bytes go out as they come, as what is held goes through them.
use Rattle.std.proofs.Common.{◌≡◌, ◌≢◌, ◌⊎◌, inl, inr, ℕ, zero, suc, ◌+◌, ◌-◌, ◌*◌, ◌/◌, ◌%◌, ◌<◌, ◌≤◌, true, false}
use Rattle.std.proofs.Common.{cond, ltb, List, [], ◌∷◌, ◌++◌, length, take, drop, refl, ap, sym, ◌∙◌, subst}
use Rattle.std.proofs.Common.{append_assoc, arith, length-append, length-drop, length-take}
use Rattle.std.specs.Prelude.{Option, Some, None, IsTrue, ◌↔◌}
use Rattle.std.proofs.lemmas.List.{append-nil, take-append-drop, take-append-le, drop-append-le, drop_all}
use Rattle.std.proofs.lemmas.Bool.{cases_lt, false≢true, le-ltb, lt-ltb}
use Rattle.byteorder.specs.Endian.{little_bytes}
use Rattle.byteorder.specs.Numbers.{little_number-reads_back}
use Rattle.mysql_wire.specs.Framing.{chunk, chunks, framing, announced, number_after}
use Rattle.mysql_wire.specs.Stream.{Rest, IsRest}
use Rattle.mysql_wire.specs.Stream.Rest.{TooLarge, OutOfSync}
use Rattle.mysql_wire.specs.Chunk.{TakesChunk, info_number, is_last}
use Rattle.mysql_wire.specs.Codec.{held, begun_bytes, packet_number, whole_chunks, IsOfPacket, Waits, HandsOut}
use Rattle.mysql_wire.specs.Moving.{begun_of, codec_of}
use Rattle.mysql_wire.specs.declared.codec.packet.BegunChunk.{BegunChunk}
use Rattle.mysql_wire.specs.declared.codec.chunk.ChunkDecoder.TheVariants.{Idle}
use Rattle.mysql_wire.specs.declared.codec.chunk.ChunkInfo.{ChunkInfo}
use Rattle.mysql_wire.specs.declared.codec.chunk.ChunkInfo.TheVariants.{Middle, Last}
use Rattle.mysql_wire.proofs.Chunks.{chunks-suc, chunks-zero}
use Rattle.mysql_wire.proofs.Held.{both, first_of, middle_taken, last_taken, lacks_rest, passes_rest, wrong_rest}

-- the whole chunks in dst, the bytes after them, and what would lie in src if no byte had been moved
abbrev pub whole_part : List ℕ → List ℕ
whole_part dst = take (whole_chunks dst * 16777215) dst

abbrev pub begun_part : List ℕ → List ℕ
begun_part dst = drop (whole_chunks dst * 16777215) dst

abbrev pub unmoved : Option BegunChunk → List ℕ → List ℕ → List ℕ
unmoved begun src dst = begun_bytes (begun_of begun) (begun_part dst) ++ src

chunks_front : (front back : List ℕ) (id k : ℕ) → length front ≡ k * 16777215 →
    chunks (front ++ back) id k ≡ chunks front id k
chunks_front front back id zero full = chunks-zero (front ++ back) id ∙ sym (chunks-zero front id)
chunks_front front back id (suc k) full =
    let more : drop 16777215 (front ++ back) ≡ drop 16777215 front ++ back =
    drop-append-le 16777215 front back (omega arith) in
    chunks-suc (front ++ back) id k
    ∙ ap (λ s. chunk id s ++ chunks (drop 16777215 (front ++ back)) (id + 1) k)
    (take-append-le 16777215 front back (omega arith))
    ∙ ap (λ s. chunk id (take 16777215 front) ++ chunks s (id + 1) k) more
    ∙ ap (λ s. chunk id (take 16777215 front) ++
    s) (chunks_front (drop 16777215 front) back (id + 1) k
    (omega (arith, length-drop 16777215 front)))
    ∙ sym (chunks-suc front id k)

whole_length : (dst : List ℕ) → length (whole_part dst) ≡ whole_chunks dst * 16777215
whole_length dst = omega (arith, length-take (whole_chunks dst * 16777215) dst)

part_length : (dst : List ℕ) → length (begun_part dst) ≡ length dst % 16777215
part_length dst = omega (arith, length-drop (whole_chunks dst * 16777215) dst)

same_first : (number : ℕ) (dst : List ℕ) → first_of number (whole_part dst) ≡ first_of number dst
same_first number dst =
    let e = whole_length dst in
    let same : length (whole_part dst) / 16777215 ≡ length dst / 16777215 = omega arith in
    ap (λ k. (number + 255 * k) % 256) same

-- what is held, as if no byte of a chunk had been moved
pub held_is : (number limit : ℕ) (begun : Option BegunChunk) (src dst : List ℕ) →
    held (codec_of number limit begun) src dst ≡
    both number (unmoved begun src dst) (whole_part dst)
unfolding held
held_is number limit begun src dst =
    let e = whole_length dst in
    let same : length (whole_part dst) / 16777215 ≡ length dst / 16777215 = omega arith in
    ap (λ k. k ++ unmoved begun src dst)
    (ap (λ d. chunks d (first_of number dst) (whole_chunks dst))
    (sym (take-append-drop (whole_chunks dst * 16777215) dst))
    ∙ chunks_front (whole_part dst) (begun_part dst) (first_of number dst) (whole_chunks dst) e
    ∙ ap (λ k. chunks (whole_part dst) (first_of number dst) k) (sym same)
    ∙ ap (λ n. chunks (whole_part dst) n (length (whole_part dst) / 16777215)) (sym (same_first number dst)))

held_at : (number limit : ℕ) (src dst : List ℕ) → held (codec_of number limit None) src dst ≡ both number src dst
unfolding held
held_at number limit src dst = refl

-- a chunk of so many bytes, as a decoder of chunks tells of it
abbrev pub info_of : ℕ → ℕ → ChunkInfo
info_of count number = cond (ltb count 16777215) (Last number) (Middle number)

info_of_number : (count number : ℕ) → info_number (info_of count number) ≡ number
info_of_number count number =
    elim (ltb count 16777215) as (λ b. info_number (cond b (Last number) (Middle number)) ≡
    number) [ true ↦ refl | false ↦ refl ]

info_of_last : (count number : ℕ) → IsTrue (is_last (info_of count number)) ↔ (count < 16777215)
info_of_last count number = (
  λ e. elim (cases_lt count 16777215) [
    | inl short ↦ short
    | inr long ↦ absurd
        (false≢true (sym (ap (λ b. is_last (cond b (Last number) (Middle number)))
        (le-ltb count 16777215 long)) ∙ e))
  ],
  λ h. ap (λ b. is_last (cond b (Last number) (Middle number))) (lt-ltb count 16777215 h),
)

-- what a step starts from: what is held is what was held
pub record Reading (limit n0 : ℕ) (b0 : Option BegunChunk) (src0 dst0 : List ℕ) (number : ℕ)
    (begun : Option BegunChunk) (src dst : List ℕ) : Type 0 where
  pub fits : IsOfPacket limit (begun_of begun) dst
  pub stands : held (codec_of number limit begun) src dst ≡ held (codec_of n0 limit b0) src0 dst0
  pub first : first_of number dst ≡ first_of n0 dst0

-- the front of a chunk is seen in its header
pub announced_begun : (n number : ℕ) (part src : List ℕ) → n ≤ 16777215 →
    announced ((little_bytes 3 n ++ (number % 256 ∷ part)) ++ src) ≡ n
announced_begun n number part src h = little_number-reads_back 3 n ((number % 256 ∷ part) ++ src) (omega arith)

module _ (limit n0 : ℕ) (b0 : Option BegunChunk) (src0 dst0 : List ℕ) (number : ℕ) where
  -- a rest of what is held, from one of what would lie there unmoved
  rest_at : (begun : Option BegunChunk) (src dst : List ℕ) (rest : Rest) →
      Reading limit n0 b0 src0 dst0 number begun src dst →
      IsRest limit (first_of number (whole_part dst)) (both number (unmoved begun src dst) (whole_part dst)) rest →
      IsRest limit (packet_number (codec_of n0 limit b0) dst0) (held (codec_of n0 limit b0) src0 dst0) rest
  rest_at begun src dst rest start r =
      subst (λ k. IsRest limit (first_of n0 dst0) k rest) (sym (held_is number limit begun src dst) ∙ start.stands)
      (subst (λ k. IsRest limit k (both number (unmoved begun src dst) (whole_part dst)) rest)
      (same_first number dst ∙ start.first) r)

  -- no header stands
  pub waits_for_header : (src dst src' : List ℕ) →
      Reading limit n0 b0 src0 dst0 number None src dst → length src < 4 → src' ≡ src →
      Waits (codec_of n0 limit b0) src0 dst0 (codec_of number limit None) src' dst
  waits_for_header src dst src' start short same =
      let found = lacks_rest limit number src (whole_part dst) (omega (arith, whole_length dst))
      (omega (arith, whole_length dst, start.fits.0)) (inl short) in
      record {
        held_same = ap (λ k. held (codec_of number limit None) k dst) same ∙ start.stands;
        number = start.first;
        limit = refl;
        refused = refl;
        goes_on = λ _. start.fits;
        rest = found.0;
        no_fault = found.1;
        is_rest = rest_at None src dst found.0 start found.2;
      }

  pub too_large_at : (src dst : List ℕ) → Reading limit n0 b0 src0 dst0 number None src dst →
      4 ≤ length src → limit < length dst + announced src →
      IsRest limit (packet_number (codec_of n0 limit b0) dst0) (held (codec_of n0 limit b0) src0 dst0) TooLarge
  too_large_at src dst start four more =
      rest_at None src dst TooLarge start
      (passes_rest limit number src (whole_part dst) (omega (arith, whole_length dst))
      (omega (arith, whole_length dst, start.fits.0))
      (four, inl (omega (arith, whole_length dst, start.fits.1))))

  -- a header was taken
  pub opens : (src dst src' : List ℕ) (begun : BegunChunk) →
      Reading limit n0 b0 src0 dst0 number None src dst → src ≡ little_bytes 3 begun.awaited ++
      (begun.number % 256 ∷ src') →
      length dst + begun.awaited ≤ limit → begun.awaited ≤ 16777215 →
      Reading limit n0 b0 src0 dst0 number (Some begun) src' dst
  opens src dst src' begun start e within fits =
      let none : begun_part dst ≡ [] = drop_all (whole_chunks dst * 16777215) dst (omega (arith, start.fits.1)) in
      record {
        fits = (within, omega (arith, start.fits.1));
        stands = held_is number limit (Some begun) src' dst
            ∙ ap (λ k. both number ((little_bytes 3 (length k + begun.awaited) ++
            (begun.number % 256 ∷ k)) ++ src') (whole_part dst)) none
            ∙ ap (λ k. both number ((little_bytes 3 k ++ (begun.number % 256 ∷ [])) ++
            src') (whole_part dst)) (zero_first begun.awaited)
            ∙ ap (λ k. both number k (whole_part dst)) (sym e)
            ∙ sym (held_is number limit None src dst) ∙ start.stands;
        first = start.first;
      }
    where
      zero_first : (n : ℕ) → 0 + n ≡ n
      zero_first n = omega arith

  -- all of src was moved, and the chunk still awaits bytes
  pub waits_for_bytes : (src dst src' dst' : List ℕ) (begun left : BegunChunk) →
      Reading limit n0 b0 src0 dst0 number (Some begun) src dst → length src < begun.awaited →
      src' ≡ [] → dst' ≡ dst ++ src → left.number ≡ begun.number → left.awaited ≡ begun.awaited - length src →
      Waits (codec_of n0 limit b0) src0 dst0 (codec_of number limit (Some left)) src' dst'
  waits_for_bytes src dst src' dst' begun left start short empty put same_number less =
      let total : length dst' ≡ length dst + length src = ap length put ∙ length-append dst src in
      let more : whole_chunks dst' ≡ whole_chunks dst = omega (arith, start.fits.1) in
      let part : begun_part dst' ≡ begun_part dst ++ src =
      ap (λ k. drop (k * 16777215) dst') more ∙ ap (drop (whole_chunks dst * 16777215)) put ∙
      drop-append-le (whole_chunks dst * 16777215) dst src (omega arith) in
      let whole : whole_part dst' ≡ whole_part dst =
      ap (λ k. take (k * 16777215) dst') more ∙ ap (take (whole_chunks dst * 16777215)) put ∙
      take-append-le (whole_chunks dst * 16777215) dst src (omega arith) in
      let count : length (begun_part dst') + left.awaited ≡
      length (begun_part dst) + begun.awaited =
      omega (
        arith,
        part_length dst,
        part_length dst',
        ap length part,
        length-append (begun_part dst) src,
      ) in
      let stays : unmoved (Some left) src' dst' ≡ unmoved (Some begun) src dst =
      ap (λ k. (little_bytes 3 k ++ (left.number % 256 ∷ begun_part dst')) ++ src') count
      ∙ ap (λ k. (little_bytes 3 (length (begun_part dst) + begun.awaited) ++
      (k % 256 ∷ begun_part dst')) ++ src') same_number
      ∙ ap (λ k. (little_bytes 3 (length (begun_part dst) + begun.awaited) ++ (begun.number % 256 ∷ k)) ++ src') part
      ∙ ap (λ k. (little_bytes 3 (length (begun_part dst) + begun.awaited) ++
      (begun.number % 256 ∷ (begun_part dst ++ src))) ++ k) empty
      ∙ append-nil (little_bytes 3 (length (begun_part dst) + begun.awaited) ++
      (begun.number % 256 ∷ (begun_part dst ++ src))) in
      let has : announced (unmoved (Some begun) src dst) ≡ length (begun_part dst) + begun.awaited =
      announced_begun (length (begun_part dst) + begun.awaited) begun.number (begun_part dst) src
      (omega (arith, part_length dst, start.fits.1)) in
      let len : length (unmoved (Some begun) src dst) ≡ 4 + length (begun_part dst) + length src =
      omega (arith, length-append (begun_part dst) src) in
      let found = lacks_rest limit number (unmoved (Some begun) src dst) (whole_part dst)
      (omega (arith, whole_length dst)) (omega (arith, whole_length dst, start.fits.0))
      (inr (omega arith, tt, omega (arith, whole_length dst, part_length dst, start.fits.0))) in
      record {
        held_same = held_is number limit (Some left) src' dst' ∙
            ap (λ k. both number k (whole_part dst')) stays ∙
            ap (both number (unmoved (Some begun) src dst)) whole
            ∙ sym (held_is number limit (Some begun) src dst) ∙ start.stands;
        number = ap (λ k. (number + 255 * k) % 256) more ∙ start.first;
        limit = refl;
        refused = refl;
        goes_on = λ _. (omega (arith, start.fits.0), omega (arith, start.fits.1));
        rest = found.0;
        no_fault = found.1;
        is_rest = rest_at (Some begun) src dst found.0 start found.2;
      }

-- the chunk that is complete once its last bytes are moved
module _ (limit n0 : ℕ) (b0 : Option BegunChunk) (src0 dst0 : List ℕ) (number : ℕ)
    (src dst src' dst' : List ℕ) (begun : BegunChunk) (byte : number < 256)
    (byte' : begun.number < 256)
    (start : Reading limit n0 b0 src0 dst0 number (Some begun) src dst) (enough : begun.awaited ≤ length src)
    (left : src' ≡ drop begun.awaited src) (put : dst' ≡ dst ++ take begun.awaited src) where
  abbrev bytes : List ℕ
  bytes = begun_part dst ++ take begun.awaited src

  bytes_length : length bytes ≡ length dst % 16777215 + begun.awaited
  bytes_length = omega (
    arith,
    length-append (begun_part dst) (take begun.awaited src),
    part_length dst,
    length-take begun.awaited src,
  )

  completes : unmoved (Some begun) src dst ≡ chunk begun.number bytes ++ src'
  completes =
      let n : length (begun_part dst) + begun.awaited ≡ length bytes = omega (arith, bytes_length, part_length dst) in
      ap (λ k. (little_bytes 3 k ++ (begun.number % 256 ∷ begun_part dst)) ++ src) n
      ∙ ap (λ k. (little_bytes 3 (length bytes) ++ (begun.number % 256 ∷ begun_part dst)) ++
      k) (sym (take-append-drop begun.awaited src))
      ∙ ap (λ k. little_bytes 3 (length bytes) ++ (begun.number % 256 ∷ k))
      (sym (append_assoc (begun_part dst) (take begun.awaited src) (drop begun.awaited src)))
      ∙ ap (λ k. chunk begun.number bytes ++ k) (sym left)

  appends : dst' ≡ whole_part dst ++ bytes
  appends = put ∙ ap (λ k. k ++ take begun.awaited src)
      (sym (take-append-drop (whole_chunks dst * 16777215) dst)) ∙
      append_assoc (whole_part dst) (begun_part dst) (take begun.awaited src)

  full : length (whole_part dst) % 16777215 ≡ 0
  full = omega (arith, whole_length dst)

  total : length dst' ≡ length dst + begun.awaited
  total = omega (arith, ap length put, length-append dst (take begun.awaited src), length-take begun.awaited src)

  taken : TakesChunk Idle limit (unmoved (Some begun) src dst) (whole_part dst) src' dst'
      (info_of (length bytes) begun.number)
  taken = record {
    bytes = bytes;
    eaten = completes ∙ ap (λ n. chunk n bytes ++ src') (sym (info_of_number (length bytes) begun.number));
    appended = appends;
    fits = omega (arith, bytes_length, start.fits.1);
    within = omega (arith, total, start.fits.0);
    awaited = tt;
    last = info_of_last (length bytes) begun.number;
  }

  pub out_of_sync_at : begun.number ≢ number →
      IsRest limit (packet_number (codec_of n0 limit b0) dst0)
      (held (codec_of n0 limit b0) src0 dst0) OutOfSync
  out_of_sync_at wrong =
      let same = info_of_number (length bytes) begun.number in
      rest_at limit n0 b0 src0 dst0 number (Some begun) src dst OutOfSync start
      (wrong_rest limit number (unmoved (Some begun) src dst) (whole_part dst) src' dst'
      (info_of (length bytes) begun.number) full (omega (arith, whole_length dst, start.fits.0))
      byte
      (omega (arith, same)) (λ e. wrong (sym same ∙ e)) taken)

  pub handed_out_at : begun.number ≡ number → (begun.awaited ≡ 0) ⊎ (length dst' % 16777215 ≢ 0) →
      HandsOut (codec_of n0 limit b0) src0 dst0 (codec_of ((number + 1) % 256) limit None) src' dst'
  handed_out_at nth ends =
      let short : length bytes < 16777215 =
      elim ends [
        | inl none ↦ omega (arith, bytes_length)
        | inr some ↦ omega (
          arith,
          bytes_length,
          total,
          start.fits.1,
          some,
        )
      ] in
      let done = last_taken number (unmoved (Some begun) src dst) (whole_part dst) src' dst' bytes
      full byte (completes ∙ ap (λ n. chunk n bytes ++ src') nth) appends short in
      let first : first_of number (whole_part dst) ≡ first_of n0 dst0 = same_first number dst ∙ start.first in
      record {
        framed = sym start.stands ∙ held_is number limit (Some begun) src dst ∙ done.0 ∙
            ap (λ n. framing dst' n ++ src') first;
        within = omega (arith, total, start.fits.0);
        number = done.1 ∙ ap (number_after dst') first;
        limit = refl;
        between = (refl, refl);
      }

  pub next_at : begun.number ≡ number → 0 < begun.awaited → length dst' % 16777215 ≡ 0 →
      Reading limit n0 b0 src0 dst0 ((number + 1) % 256) None src' dst'
  next_at nth some whole =
      let is_full : length bytes ≡ 16777215 = omega (arith, bytes_length, total, start.fits.1) in
      let done = middle_taken number (unmoved (Some begun) src dst) (whole_part dst) src' dst' bytes
      full byte (completes ∙ ap (λ n. chunk n bytes ++ src') nth) appends is_full in
      record {
        fits = (omega (arith, total, start.fits.0), whole);
        stands = held_at ((number + 1) % 256) limit src' dst' ∙ done.0 ∙
            sym (held_is number limit (Some begun) src dst) ∙ start.stands;
        first = done.1 ∙ same_first number dst ∙ start.first;
      }
