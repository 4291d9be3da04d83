-- Reading elements one after the other, as a loop does.
use Rattle.std.proofs.Common.{◌≡◌, ℕ, suc, ◌-◌, ◌+◌, ◌≤◌, ◌<◌, List, [], ◌∷◌, ◌++◌, Ok, Err, refl, sym, ap, ◌∙◌}
use Rattle.std.proofs.Common.{append_assoc, append-nil, arith}
use Rattle.mysql_fields.specs.declared.error.WireError.{WireError}
use Rattle.mysql_fields.specs.Wire.{Reading, Refuses, ◌>>=◌}
use Rattle.mysql_field_lists.specs.Lists.{elements_at}

-- what was read before, and what is still read
abbrev pub with_front : {Y : Type 0} → List Y → Reading (List Y) → Reading (List Y)
with_front front read = read >>= λ x. Ok (front ++ x.0, x.1)

regroup : {Y : Type 0} (front : List Y) (y : Y) (read : Reading (List Y)) →
    with_front front (read >>= λ x. Ok (y ∷ x.0, x.1)) ≡ with_front (front ++ y ∷ []) read
regroup {Y = Y} front y (Ok x) = ap (λ (ys : List Y). Ok (ys, x.1)) (simp append_assoc)
regroup front y (Err f) = refl

pub goes_on : {Y : Type 0} (read_at : List ℕ → Reading Y) (front : List Y) (count i : ℕ)
    (bytes : List ℕ) (y : Y) (after : List ℕ) (total : Reading (List Y)) → i < count →
    read_at bytes ≡ Ok (y, after)
    → with_front front (elements_at read_at (count - i) bytes) ≡ total →
    with_front (front ++ y ∷ []) (elements_at read_at (count - (i + 1)) after) ≡ total
unfolding elements_at
goes_on read_at front count i bytes y after total lt h so_far =
    let k : count - i ≡ suc (count - (i + 1)) = omega arith in
    let one : with_front front (elements_at read_at (count - i) bytes) ≡
    with_front (front ++ y ∷ []) (elements_at read_at (count - (i + 1)) after) =
    rw (k, h) (regroup front y (elements_at read_at (count - (i + 1)) after)) in
    sym one ∙ so_far

pub ends : {Y : Type 0} (read_at : List ℕ → Reading Y) (e : WireError) (front : List Y)
    (count i : ℕ) (bytes : List ℕ) (total : Reading (List Y)) → i < count →
    Refuses e (read_at bytes)
    → with_front front (elements_at read_at (count - i) bytes) ≡ total → Refuses e total
unfolding elements_at
ends read_at e front count i bytes total lt h so_far ne =
    let k : count - i ≡ suc (count - (i + 1)) = omega arith in
    let one : with_front front (elements_at read_at (count - i) bytes) ≡ Err e = rw (k, h ne) refl in
    sym so_far ∙ one

pub is_done : {Y : Type 0} (read_at : List ℕ → Reading Y) (front : List Y) (count i : ℕ)
    (bytes : List ℕ) (total : Reading (List Y)) → count ≤ i →
    with_front front (elements_at read_at (count - i) bytes) ≡ total → total ≡ Ok (front, bytes)
unfolding elements_at
is_done {Y = Y} read_at front count i bytes total le so_far =
    let k : count - i ≡ 0 = omega arith in
    let one : with_front front (elements_at read_at (count - i) bytes) ≡ Ok (front, bytes) =
    rw k (ap (λ (ys : List Y). Ok (ys, bytes)) (append-nil front)) in
    sym so_far ∙ one
