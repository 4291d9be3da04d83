-- The steps of the loop, as its calls and tests tell of them.
use Rattle.std.proofs.Common.{◌≡◌, ◌≢◌, ◌⊎◌, inl, inr, ℕ, min, ◌+◌, ◌-◌, ◌%◌, ◌<◌, ◌≤◌, List, [], ◌++◌, length, take}
use Rattle.std.proofs.Common.{drop, refl, ap, sym, ◌∙◌, subst, arith, length-append, length-take}
use Rattle.std.specs.Prelude.{Option, Some, None, Ok, Err}
use Rattle.std.proofs.lemmas.List.{take_all, drop_all}
use Rattle.mysql_wire.specs.Stream.{IsRest}
use Rattle.mysql_wire.specs.Stream.Rest.{OutOfSync}
use Rattle.mysql_wire.specs.Codec.{Begun, Codec, IsOfPacket, held, packet_number, Waits, HandsOut, IsDue}
use Rattle.mysql_wire.specs.Moving.{begun_of, codec_of, NextChunk, EndsWithin}
use Rattle.mysql_wire.specs.declared.codec.packet.BegunChunk.{BegunChunk}
use Rattle.mysql_wire.specs.declared.codec.Refusal.{Refusal}
use Rattle.mysql_wire.proofs.OnePacket.{Reading, waits_for_header, too_large_at, opens, waits_for_bytes, out_of_sync_at}
use Rattle.mysql_wire.proofs.OnePacket.{handed_out_at, next_at}

-- so many bytes are of the packet once a part of the chunk was moved
pub more_filled : (src dst dst' : List ℕ) (awaited count filled : ℕ) → filled ≡ length dst → count ≡
    min awaited (length src) → dst' ≡ dst ++ take count src → filled + count ≡ length dst'
more_filled src dst dst' awaited count filled same least put =
    omega (arith, same, ap length put, length-append dst (take count src), length-take count src)

module _ (limit n0 : ℕ) (b0 : Option BegunChunk) (src0 dst0 : List ℕ) (number : ℕ) where
  pub next_none : (begun : Option BegunChunk) (src dst src' : List ℕ) (filled : ℕ) →
      Reading limit n0 b0 src0 dst0 number begun src dst →
      NextChunk begun src filled limit (Ok None) src' →
      Waits (codec_of n0 limit b0) src0 dst0 (codec_of number limit begun) src' dst × (length src' < 4)
  next_none None src dst src' filled start n = (
    waits_for_header limit n0 b0 src0 dst0 number src dst src' start n.0 n.1,
    omega (arith, ap length n.1, n.0),
  )
  next_none (Some begun) src dst src' filled start n = absurd n

  pub next_err : (begun : Option BegunChunk) (src dst src' : List ℕ) (filled : ℕ)
      (refusal : Refusal) → Reading limit n0 b0 src0 dst0 number begun src dst → filled ≡
      length dst →
      NextChunk begun src filled limit (Err refusal) src' → IsDue (codec_of n0 limit b0) src0 dst0 refusal
  next_err None src dst src' filled refusal start same n =
      subst (IsDue (codec_of n0 limit b0) src0 dst0) (sym n.0)
      (too_large_at limit n0 b0 src0 dst0 number src dst start n.1 (omega (arith, same, n.2)))
  next_err (Some begun) src dst src' filled refusal start same n = absurd n

  pub next_some : (begun : Option BegunChunk) (src dst src' : List ℕ) (filled : ℕ)
      (chunk : BegunChunk) → Reading limit n0 b0 src0 dst0 number begun src dst → filled ≡
      length dst →
      NextChunk begun src filled limit (Ok (Some chunk)) src' →
      Reading limit n0 b0 src0 dst0 number (Some chunk) src' dst
  next_some None src dst src' filled chunk start same n =
      opens limit n0 b0 src0 dst0 number src dst src' chunk start n.0 (omega (arith, same, n.1)) n.2
  next_some (Some begun) src dst src' filled chunk start same n =
      subst (λ k. Reading limit n0 b0 src0 dst0 number (Some chunk) k dst) (sym n.1)
      (subst (λ k. Reading limit n0 b0 src0 dst0 number (Some k) src dst) (sym n.0) start)

  pub moved_part : (chunk : BegunChunk) (src dst src' dst' : List ℕ) (count : ℕ) →
      Reading limit n0 b0 src0 dst0 number (Some chunk) src dst → count ≡
      min chunk.awaited (length src) → count < chunk.awaited →
      src' ≡ drop count src → dst' ≡ dst ++ take count src →
      Waits (codec_of n0 limit b0) src0 dst0
      (codec_of number limit (Some
      (record { number = chunk.number; awaited = chunk.awaited - count }))) src' dst' ×
      (length src' < 4)
  moved_part chunk src dst src' dst' count start least short left put =
      let all : count ≡ length src = omega arith in
      let none : src' ≡ [] = left ∙ drop_all count src (omega arith) in
      let more : dst' ≡ dst ++ src = put ∙ ap (λ k. dst ++ k) (take_all count src (omega arith)) in (
        waits_for_bytes limit n0 b0 src0 dst0 number src dst src' dst' chunk
            (record { number = chunk.number; awaited = chunk.awaited - count }) start (omega arith)
            none more refl (omega arith),
        omega (arith, ap length none),
      )

  module _ (chunk : BegunChunk) (src dst src' dst' : List ℕ) (count : ℕ) (byte : number < 256)
      (byte' : chunk.number < 256)
      (start : Reading limit n0 b0 src0 dst0 number (Some chunk) src dst)
      (least : count ≡ min chunk.awaited (length src)) (whole : chunk.awaited ≤ count)
      (left : src' ≡ drop count src) (put : dst' ≡ dst ++ take count src) where
    all : count ≡ chunk.awaited
    all = omega arith

    enough : chunk.awaited ≤ length src
    enough = omega arith

    left_all : src' ≡ drop chunk.awaited src
    left_all = left ∙ ap (λ k. drop k src) all

    put_all : dst' ≡ dst ++ take chunk.awaited src
    put_all = put ∙ ap (λ k. dst ++ take k src) all

    pub moved_wrong : chunk.number ≢ number →
        IsRest limit (packet_number (codec_of n0 limit b0) dst0)
        (held (codec_of n0 limit b0) src0 dst0) OutOfSync
    moved_wrong wrong = out_of_sync_at limit n0 b0 src0 dst0 number src dst src' dst' chunk byte
        byte' start enough left_all put_all wrong

    pub moved_last : chunk.number ≡ number → (count ≡ 0) ⊎ (length dst' % 16777215 ≢ 0) →
        HandsOut (codec_of n0 limit b0) src0 dst0 (codec_of ((number + 1) % 256) limit None) src'
        dst'
    moved_last nth ends = handed_out_at limit n0 b0 src0 dst0 number src dst src' dst' chunk byte
        byte' start enough left_all put_all nth
        (elim ends [ inl none ↦ inl (sym all ∙ none) | inr some ↦ inr some ])

    pub moved_middle : chunk.number ≡ number → (count ≢ 0) → length dst' % 16777215 ≡ 0 →
        Reading limit n0 b0 src0 dst0 ((number + 1) % 256) None src' dst'
    moved_middle nth some full =
        next_at limit n0 b0 src0 dst0 number src dst src' dst' chunk byte byte' start enough
        left_all put_all nth (omega (arith, some, all)) full

-- bytes that end within the chunk begun: the codec waits
pub waits_within : (codec new : Codec) (number limit : ℕ) (begun left : Option BegunChunk)
    (dst piece dst' : List ℕ) → codec_of number limit begun ≡ codec → codec_of number limit left ≡
    new →
    IsOfPacket codec.limit codec.begun dst → EndsWithin begun piece left → dst' ≡ dst ++ piece →
    (codec.begun ≢ None) × Waits codec piece dst new [] dst'
waits_within codec new number limit None left dst piece dst' old is fits within put = absurd within
waits_within codec new number limit (Some chunk) None dst piece dst' old is fits within put = absurd within
waits_within codec new number limit (Some chunk) (Some left) dst piece dst' old is fits within put =
    let fine : IsOfPacket limit (begun_of (Some chunk)) dst =
    subst (λ (k : Codec). IsOfPacket k.limit k.begun dst) (sym old) fits in
    let start : Reading limit number (Some chunk) piece dst number (Some chunk) piece dst =
    record { fits = fine; stands = refl; first = refl } in
    let waits = waits_for_bytes limit number (Some chunk) piece dst number piece dst [] dst' chunk
    left start within.0 refl put (ap (λ k. k.number) within.1) (ap (λ k. k.awaited) within.1) in (
      subst (λ (k : Codec). k.begun ≢ None) old (λ never. cc),
      subst (λ (k : Codec). Waits k piece dst new [] dst') old
          (subst (λ (k : Codec). Waits (codec_of number limit (Some chunk)) piece dst k [] dst') is
          waits),
    )

-- before a header of which fewer than four bytes stand the codec waits, and changes nothing
pub waits_before_header : (codec : Codec) (src dst src' : List ℕ) → codec.begun ≡ None →
    codec.refused ≡ None → IsOfPacket codec.limit codec.begun dst → length src < 4 → src' ≡ src →
    Waits codec src dst codec src' dst
waits_before_header codec src dst src' between fine fits short same =
    let is : codec_of codec.number codec.limit None ≡ codec =
    ap (λ (b : Option Begun). record {
      limit = codec.limit;
      number = codec.number;
      begun =
          b;
      refused = None;
    }) (sym between) ∙
    ap (λ (r : Option Refusal). record codec { refused = r }) (sym fine) in
    let start : Reading codec.limit codec.number None src dst codec.number None src dst =
    record {
      fits = subst (λ (b : Option Begun). IsOfPacket codec.limit b dst) between fits;
      stands = refl;
      first = refl;
    } in
    subst (λ (k : Codec). Waits k src dst k src' dst) is
    (waits_for_header codec.limit codec.number None src dst codec.number src dst src' start
    short same)
