-- How many bytes a receiver holds of a packet that isn't whole.
use Rattle.std.proofs.Common.{◌≡◌, ℕ, zero, suc, ◌+◌, ◌*◌, ◌<◌, ◌≤◌, ◌⊎◌, List, [], ◌++◌, length, Option, Some, None}
use Rattle.std.proofs.Common.{refl, ap, subst, ◌∙◌, arith, inl, inr, take, drop, length-append, length-drop}
use Rattle.std.proofs.Common.{length-take}
use Rattle.std.specs.Option.{IfSome}
use Rattle.mysql_wire.specs.Bytes.{AreBytes}
use Rattle.mysql_wire.specs.Framing.{chunks, announced}
use Rattle.mysql_wire.specs.Incoming.{bytes_kept}
use Rattle.mysql_wire.specs.Stream.{Rest, IsRest, IsTail, IsFault}
use Rattle.mysql_wire.specs.Stream.Rest.{Empty as EmptyRest, TooLarge as TooLargeRest, OutOfSync as OutOfSyncRest}
use Rattle.mysql_wire.specs.Stream.Rest.{Open as OpenRest}
use Rattle.mysql_wire.proofs.Chunks.{chunks-zero, chunks_first, length-chunk}
use Rattle.mysql_receive.specs.declared.fault.StreamFault.{StreamFault}
use Rattle.mysql_receive.specs.declared.receiver.Receiver.TheInside.{Inside}
use Rattle.mysql_receive.specs.Taking.{most_kept}
use Rattle.mysql_receive.specs.Received.{Received}
use Rattle.mysql_receive.specs.Inside.{received_of, IsKept}
use Rattle.mysql_receive.proofs.Splits.{bytes_behind}

length-chunks : (body : List ℕ) (id count : ℕ) → count * 16777215 ≤ length body →
    length (chunks body id count) ≡ count * 16777219
length-chunks body id zero h = ap length (chunks-zero body id)
length-chunks body id (suc n) h =
    let others = chunks (drop 16777215 body) (id + 1) n in
    let rest : n * 16777215 ≤ length (drop 16777215 body) = omega (arith, h, length-drop 16777215 body) in
    omega (
      arith,
      h,
      ap length (chunks_first body id n []),
      length-append (chunks body id (suc n)) [],
      length-chunk id (take 16777215 body) (others ++ []),
      length-append others [],
      length-take 16777215 body,
      length-chunks (drop 16777215 body) (id + 1) n rest,
    )

announced_most : (bytes : List ℕ) → AreBytes bytes → announced bytes ≤ 16777215
announced_most bytes are = omega (arith, are 0, are 1, are 2)

-- the bytes of a packet that isn't whole, but for the headers that stand whole
pub kept_most : (limit : ℕ) (bytes : List ℕ) (rest : Rest) → ¬ IsFault rest →
    IsRest limit 0 bytes rest → AreBytes bytes → bytes_kept (length bytes) ≤ most_kept limit
kept_most limit bytes rest none r are = by rest none r.ends
  where
    came : length bytes ≡ r.count * 16777219 + length r.tail
    came = omega (
      arith,
      ap length r.joined,
      length-append (chunks r.body 0 r.count) r.tail,
      length-chunks r.body 0 r.count (omega (arith, r.full)),
    )

    by : (kind : Rest) → ¬ IsFault kind → IsTail limit (length r.body) (0 + r.count) r.tail kind →
        bytes_kept (length bytes) ≤ most_kept limit
    by EmptyRest fine ends = omega (arith, came, r.full, ends.0, ends.1)
    by OpenRest fine ends = by_tail ends.1
      where
        by_tail : ((length r.tail < 4) ⊎
            ((length r.tail < 4 + announced r.tail) × (length r.body + announced r.tail ≤ limit))) →
            bytes_kept (length bytes) ≤ most_kept limit
        by_tail (inl few) = omega (arith, came, r.full, r.within, few)
        by_tail (inr part) = omega (
          arith,
          came,
          r.full,
          part.0,
          part.1,
          announced_most r.tail (bytes_behind (chunks r.body 0 r.count) r.tail bytes r.joined
              are),
        )
    by TooLargeRest fine ends = absurd (fine tt)
    by OutOfSyncRest fine ends = absurd (fine tt)

module _ (r : Inside) (v : Received) (n : ℕ) (view : received_of r ≡ v) (kept : IsKept r) (is : n ≡
    bytes_kept (length r.packets.bytes)) where
  none_stopped : IfSome r.fault (λ _. n ≡ 0)
  none_stopped = by r.fault kept.stopped
    where
      by : (o : Option StreamFault) → IfSome o (λ _. r.packets.bytes ≡ []) → IfSome o (λ _. n ≡ 0)
      by None e = tt
      by (Some f) e = is ∙ ap (λ (l : List ℕ). bytes_kept (length l)) e

  pub kept_within : n ≤ most_kept v.limit
  kept_within = subst (λ (x : Received). n ≤ most_kept x.limit) view (by r.fault refl none_stopped)
    where
      by : (o : Option StreamFault) → r.fault ≡ o → IfSome o (λ _. n ≡ 0) → n ≤ most_kept r.packets.limit
      by None e zero_is = let k = kept.stays e in
          omega (
            arith,
            is,
            kept_most r.packets.limit r.packets.bytes k.rest k.no_fault k.is_rest
                k.bytes,
          )
      by (Some f) e none = omega (arith, none)
