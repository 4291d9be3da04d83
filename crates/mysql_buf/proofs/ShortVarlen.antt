-- A short number of variable length.
use Rattle.std.proofs.Common.{◌≡◌, ℕ, ◌+◌, ◌/◌, ◌^◌, List, take, drop, Some, refl, ap, ◌∙◌, arith}
use Rattle.std.specs.Int.{w8, trailing_ones}
use Rattle.byteorder.specs.Endian.{little_number}
use Rattle.byteorder.specs.Numbers.{little_from-take}
use Rattle.mysql_buf.specs.FirstBytes.{first-enough, first-some}
use Rattle.mysql_buf.specs.Reading.{bytes_at}
use Rattle.mysql_buf.specs.Varlen.{short_at}

-- what its bytes are is read of them
pub short_at-taken : (old bytes new : List ℕ) (b ones number : ℕ) → ones ≡ trailing_ones w8 b
    → bytes_at (ones + 1) old ≡ Some (bytes, new) → number ≡ little_number (ones + 1) bytes
    → short_at b old ≡ Some (number / 2 ^ (ones + 1), new)
short_at-taken old bytes new b ones number count all is =
    let part = first-some (ones + 1) (take (ones + 1)) old (bytes, new) all in
    let taken : bytes ≡ take (ones + 1) old = ap (λ p. p.0) part.1 in
    let left : new ≡ drop (ones + 1) old = ap (λ p. p.1) part.1 in
    let whole : number ≡ little_number (ones + 1) old = is ∙ ap (little_number (ones + 1)) taken ∙
    little_from-take 0 (ones + 1) (ones + 1) old (omega arith) in
    let there = first-enough (ones + 1) (λ bytes. little_number (ones + 1) bytes / 2 ^ (ones + 1)) old part.0 in
    rw (← count, there, whole, left) refl
