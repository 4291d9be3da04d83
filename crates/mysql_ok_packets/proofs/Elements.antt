-- Reading elements one after the other to the end, as a loop does.
use Rattle.std.proofs.Common.{◌≡◌, ◌≢◌, ◌==◌, Bool, true, false, ℕ, List, [], ◌∷◌, ◌++◌, length, Ok, Err, refl, sym, ap}
use Rattle.std.proofs.Common.{◌∙◌, append_assoc, append-nil, arith}
use Rattle.std.proofs.lemmas.Bool.{eqb-false, eqb-true}
use Rattle.mysql_fields.specs.Wire.{Reading, Refuses, ◌>>=◌}
use Rattle.mysql_fields.specs.declared.error.WireError.{WireError}
use Rattle.mysql_field_lists.specs.ElementLaws.{with_front}
use Rattle.mysql_ok_packets.specs.Reading.{EatsBytes, at_most_at, to_end_at}
use Rattle.mysql_ok_packets.specs.ReadingLaws.{before_others, same-room}

regroup : {Y : Type 0} (front : List Y) (y : Y) (read : Reading (List Y)) →
    with_front front (read >>= before_others y) ≡ with_front (front ++ y ∷ []) read
regroup {Y = Y} front y (Ok x) = ap (λ (ys : List Y). Ok (ys, x.1)) (simp append_assoc)
regroup front y (Err f) = refl

pub goes_on : {Y : Type 0} (read_at : List ℕ → Reading Y) → EatsBytes read_at →
    (front : List Y) (bytes : List ℕ) (y : Y) (after : List ℕ) (total : Reading (List Y)) →
    length bytes ≢ 0 → read_at bytes ≡ Ok (y, after)
    → with_front front (to_end_at read_at bytes) ≡ total →
    with_front (front ++ y ∷ []) (to_end_at read_at after) ≡ total
unfolding at_most_at
goes_on read_at eats front [] y after total some is so_far = absurd (some refl)
goes_on read_at eats front (b ∷ bs) y after total some is so_far =
    let less = eats (b ∷ bs) (y, after) is in
    let rest = same-room read_at eats (length bs) (length after) after (omega arith) (omega arith) in
    let whole : with_front front (to_end_at read_at (b ∷ bs)) ≡
    with_front front (to_end_at read_at after >>= before_others y) = rw (is, rest) refl in
    sym (regroup front y (to_end_at read_at after)) ∙ sym whole ∙ so_far

pub ends : {Y : Type 0} (read_at : List ℕ → Reading Y) (e : WireError) (front : List Y)
    (bytes : List ℕ) (total : Reading (List Y)) → length bytes ≢ 0 → Refuses e (read_at bytes)
    → with_front front (to_end_at read_at bytes) ≡ total → Refuses e total
unfolding at_most_at
ends read_at e front [] total some h so_far ne = absurd (some refl)
ends read_at e front (b ∷ bs) total some h so_far ne =
    let whole : with_front front (to_end_at read_at (b ∷ bs)) ≡ Err e = rw (h ne) refl in
    sym so_far ∙ whole

pub is_done : {Y : Type 0} (read_at : List ℕ → Reading Y) (front : List Y) (bytes : List ℕ)
    (total : Reading (List Y)) → length bytes ≡ 0
    → with_front front (to_end_at read_at bytes) ≡ total → total ≡ Ok (front, [])
unfolding at_most_at
is_done {Y} read_at front [] total none so_far = sym so_far ∙ ap (λ (ys : List Y). Ok (ys, [])) (append-nil front)
is_done read_at front (b ∷ bs) total none so_far = absurd cc

-- what the test of a length says
pub some_bytes : (n : ℕ) (b : Bool) → b ≡ (n == 0) → b ≡ false → n ≢ 0
some_bytes n b e t = eqb-false n 0 (sym e ∙ t)

pub no_bytes : (n : ℕ) (b : Bool) → b ≡ (n == 0) → b ≡ true → n ≡ 0
no_bytes n b e t = eqb-true n 0 (sym e ∙ t)
