-- A walk over elements that stand one after another to the end, as a loop does it.
use Rattle.std.proofs.Common.{◌≡◌, ◌≢◌, ◌==◌, Bool, true, false, ℕ, List, [], ◌∷◌, length, Ok, Err, refl, sym, ap, ◌∙◌}
use Rattle.std.proofs.Common.{arith}
use Rattle.std.proofs.lemmas.Bool.{eqb-false, eqb-true}
use Rattle.mysql_fields.specs.Wire.{Reading, ◌>>=◌}
use Rattle.mysql_fields.specs.declared.error.WireError.{WireError}
use Rattle.mysql_ok_packets.specs.Reading.{EatsBytes, at_most_at, to_end_at}
use Rattle.mysql_ok_packets.specs.ReadingLaws.{before_others, same-room}
use Rattle.mysql_session_modes.specs.Told.{walked}

one_more : {A Y : Type 0} (step : A → Y → A) (failed so_far : A) (y : Y) (read : Reading (List Y)) →
    walked step failed so_far (read >>= before_others y) ≡ walked step failed (step so_far y) read
one_more step failed so_far y (Ok all) = refl
one_more step failed so_far y (Err e) = refl

module _ {A Y : Type 0} (step : A → Y → A) (read_at : List ℕ → Reading Y) (eats : EatsBytes read_at) (failed : A) where
  -- behind one element
  pub goes_on : (so_far : A) (bytes : List ℕ) (y : Y) (after : List ℕ) → length bytes ≢ 0 →
      read_at bytes ≡ Ok (y, after) →
      walked step failed so_far (to_end_at read_at bytes) ≡
      walked step failed (step so_far y) (to_end_at read_at after)
  unfolding at_most_at
  goes_on so_far [] y after some is = absurd (some refl)
  goes_on so_far (b ∷ bs) y after some is =
      let less = eats (b ∷ bs) (y, after) is in
      let rest = same-room read_at eats (length bs) (length after) after (omega arith) (omega arith) in
      let whole : to_end_at read_at (b ∷ bs) ≡ (to_end_at read_at after >>= before_others y) = rw (is, rest) refl in
      ap (λ (r : Reading (List Y)). walked step failed so_far r) whole
      ∙ one_more step failed so_far y (to_end_at read_at after)

  -- at one that can't be read
  pub gives_up : (so_far : A) (bytes : List ℕ) (e : WireError) → length bytes ≢ 0 → read_at bytes ≡ Err e →
      walked step failed so_far (to_end_at read_at bytes) ≡ failed
  unfolding at_most_at
  gives_up so_far [] e some is = absurd (some refl)
  gives_up so_far (b ∷ bs) e some is =
      let whole : to_end_at read_at (b ∷ bs) ≡ Err e = rw is refl in
      ap (λ (r : Reading (List Y)). walked step failed so_far r) whole

  -- at the end
  pub is_done : (so_far : A) (bytes : List ℕ) → length bytes ≡ 0 →
      walked step failed so_far (to_end_at read_at bytes) ≡ so_far
  unfolding at_most_at
  is_done so_far [] none = refl
  is_done so_far (b ∷ bs) none = absurd cc

-- what the test of a length says
pub some_bytes : (n : ℕ) (b : Bool) → b ≡ (n == 0) → b ≡ false → n ≢ 0
some_bytes n b e t = eqb-false n 0 (sym e ∙ t)

pub no_bytes : (n : ℕ) (b : Bool) → b ≡ (n == 0) → b ≡ true → n ≡ 0
no_bytes n b e t = eqb-true n 0 (sym e ∙ t)
