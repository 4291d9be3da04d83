-- The status that says whether another result follows.
use Rattle.std.proofs.Common.{◌≡◌, ℕ, ◌<◌, ◌^◌, Bool, true, false, refl, sym, ap, ◌∙◌, arith, eq-eqb}
use Rattle.std.specs.Int.RustNames.{bit_and, bit_or}
use Rattle.std.specs.Int.{bit_at}
use Rattle.std.proofs.Common.{min, max}
use Rattle.std.proofs.lemmas.Bool.{eqb-true}
use Rattle.std.proofs.lemmas.Nat.{and_assoc, and_comm, and_le_l, and_or_self, or_lt}
use Rattle.std.proofs.lemmas.Nat.Bits.{bit_at_and, bit_at_or, same_from_bits}
use Rattle.bitflags.specs.Sets.{known_from}
use Rattle.mysql_ok_packets.specs.OkPackets.{more_results_exist}
use Rattle.mysql_ok_packets.specs.Written.{is_named_status}
use Rattle.mysql_reply_writer.specs.Written.{with_more}

pub says_more : (more : Bool) (status : ℕ) → more_results_exist (with_more more status) ≡ more
says_more true status = rw (and_or_self 8 status) refl
says_more false status = rw (and_assoc 8 status 0xfff7, and_comm status 0) refl

-- `&` with a mask that leaves both alone
or_masked : (a m k : ℕ) → bit_and a k ≡ a → bit_and m k ≡ m → bit_and (bit_or a m) k ≡ bit_or a m
or_masked a m k ha hm = same_from_bits (bit_and (bit_or a m) k) (bit_or a m) (λ i.
    let x : bit_at (bit_and a k) i ≡ bit_at a i = ap (λ (n : ℕ). bit_at n i) ha in
    let y : bit_at (bit_and m k) i ≡ bit_at m i = ap (λ (n : ℕ). bit_at n i) hm in
    let u = bit_at_and a k i in
    let v = bit_at_and m k i in
    let p = bit_at_and (bit_or a m) k i in
    let q = bit_at_or a m i in
    in_bits (bit_at (bit_and (bit_or a m) k) i) (bit_at (bit_or a m) i) (bit_at a i) (bit_at m i)
    (bit_at k i) p q (sym x ∙ u) (sym y ∙ v)) where
      in_bits : (r o a m k : ℕ) → r ≡ min o k → o ≡ max a m → a ≡ min a k → m ≡ min m k → r ≡ o
      in_bits r o a m k hr ho ha hm = omega arith

and_masked : (a m k : ℕ) → bit_and a k ≡ a → bit_and (bit_and a m) k ≡ bit_and a m
and_masked a m k h = and_assoc k a m ∙ ap (λ (n : ℕ). bit_and a n) (and_comm m k) ∙
    sym (and_assoc m a k) ∙ ap (λ (n : ℕ). bit_and n m) h

-- Each bit of it still has a name.
pub stays_named : (more : Bool) (status : ℕ) → is_named_status status ≡ true →
    is_named_status (with_more more status) ≡ true
unfolding known_from
stays_named true status h = eq-eqb _ _ (or_masked status 8 65531 (eqb-true _ _ h) refl)
stays_named false status h = eq-eqb _ _ (and_masked status 0xfff7 65531 (eqb-true _ _ h))

pub stays_small : (more : Bool) (status : ℕ) → status < 2 ^ 16 → with_more more status < 2 ^ 16
stays_small true status h = or_lt 16 status 8 h (omega arith)
stays_small false status h = omega (arith, and_le_l status 0xfff7)
