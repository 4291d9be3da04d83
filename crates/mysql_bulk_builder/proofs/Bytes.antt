-- What a cut takes on the wire, where each request is one chunk.
use Rattle.std.proofs.Common.{◌≡◌, ℕ, zero, suc, ◌+◌, ◌*◌, ◌/◌, ◌<◌, ◌≤◌, List, [], ◌∷◌, length, drop, refl, ap, arith}
use Rattle.std.proofs.Common.{zero-le}
use Rattle.std.specs.Prelude.{sum, sum_by}
use Rattle.std.proofs.Math.Nat.{div-eq_of_lt}
use Rattle.std.proofs.lemmas.List.Sums.{sum_by-cons, sum_by-take-drop}
use Rattle.std.proofs.lemmas.List.{drop-drop, drop_all}
use Rattle.mysql_bulk_builder.specs.Cut.{Row, row_size, types_size, size, parts_from, Fits, max_payload_len, wire_len}
use Rattle.mysql_bulk_builder.specs.CutLaws.{TightTakesFewestBytes}
use Rattle.mysql_bulk_builder.proofs.Greedy.{AllPositive, AllFit, sum-cons}
use Rattle.mysql_bulk_builder.proofs.Tight.{Room, tight_fits, tight_has_fewest, each_from, from_zero}

-- a payload of one chunk
one_chunk : (n : ℕ) → n < max_payload_len → wire_len n ≡ n + 4
one_chunk n lt = let e : n / max_payload_len ≡ 0 = div-eq_of_lt lt in omega (arith, e)

-- the types of a cut's first part
first_types : ℕ → ℕ → List ℕ → ℕ
first_types types s [] = 0
first_types types s (c ∷ cut) = types_size types s

no_types_later : (types s : ℕ) (cut : List ℕ) → 0 < s → first_types types s cut ≡ 0
unfolding first_types
no_types_later types s [] pos = refl
no_types_later types zero (c ∷ cut) pos = absurd (omega arith)
no_types_later types (suc s) (c ∷ cut) pos = refl

module _ (room types : ℕ) (rows : List Row) (small : room < max_payload_len) where
  bytes_from : (cut : List ℕ) (s : ℕ) → AllPositive cut → s + sum cut ≡ length rows →
      AllFit (length rows) (Room room types rows) s cut →
      sum_by (λ p. wire_len (size types rows p.0 p.1)) (parts_from s cut) ≡
      11 * length cut + first_types types s cut + sum_by row_size (drop s rows)
  unfolding first_types
  bytes_from [] s pos e fit =
      let none : drop s rows ≡ [] = drop_all s rows (omega (arith, e)) in
      omega (arith, ap (sum_by row_size) none)
  bytes_from (c ∷ cut) s pos e fit =
      let e1 : (s + c) + sum cut ≡ length rows = omega (arith, sum-cons c cut) in
      let rest = bytes_from cut (s + c) pos.1 e1 fit.1 in
      let later : first_types types (s + c) cut ≡ 0 = no_types_later types (s + c) cut (omega (arith, pos.0)) in
      let here : wire_len (size types rows s c) ≡ size types rows s c + 4 =
      one_chunk (size types rows s c) (omega (arith, fit.0)) in
      let total = sum_by-cons (λ p. wire_len (size types rows p.0 p.1)) (s, c) (parts_from (s + c) cut) in
      let split = sum_by-take-drop row_size (drop s rows) c in
      let moved : sum_by row_size (drop c (drop s rows)) ≡ sum_by row_size (drop (s + c) rows) =
      ap (sum_by row_size) (drop-drop c s rows) in
      omega (arith, total, here, rest, later, split, moved)

types_same : (types n : ℕ) (a b : List ℕ) → AllPositive a → sum a ≡ n → sum b ≡ n →
    first_types types 0 a ≤ first_types types 0 b
unfolding first_types
types_same types n [] b pos ea eb = zero-le
types_same types n (c ∷ a) [] pos ea eb = absurd (omega (arith, sum-cons c a, pos.0))
types_same types n (c ∷ a) (d ∷ b) pos ea eb = omega arith

pub tight_takes_fewest_bytes : TightTakesFewestBytes
tight_takes_fewest_bytes room types rows cut other small t is fits =
    let fewer = tight_has_fewest room types rows cut other t is fits in
    let fits' : Fits room types rows cut =
    (tight_fits room types rows cut t).1 (each_from room types rows other is fits) in
    let mine = bytes_from room types rows small cut 0 t.is_cut.0 (from_zero _ _ t.is_cut.1) fits' in
    let theirs = bytes_from room types rows small other 0 is.0 (from_zero _ _ is.1) fits in
    omega (arith, fewer, mine, theirs, types_same types (length rows) cut other t.is_cut.0 t.is_cut.1 is.1)
