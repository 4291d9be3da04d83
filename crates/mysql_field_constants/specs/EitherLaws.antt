-- One of two values that was written is read again by its own context.
use Rattle.std.proofs.Common.{◌≡◌, ℕ, List, ◌++◌, Ok, refl}
use Rattle.mysql_fields.specs.Wire.{Reading}
use Rattle.mysql_field_constants.specs.Either.{EitherIsReadBack, either_at, either_shown, either_written}
use Rattle.mysql_field_constants.specs.declared.either.Either.{Either}
use Rattle.mysql_field_constants.specs.declared.either.Either.TheVariants.{Left, Right}

-- what was written as the first or the second is read again as it
pub either_at-back : {C D X Y V W : Type 0} (P : C → X → List ℕ → Type 0) (Q : D → Y → List ℕ → Type 0)
    → (left : X → List ℕ) (right : Y → List ℕ) (left_kept : X → V) (right_kept : Y → W)
    → (left_at : C → List ℕ → Reading V) (right_at : D → List ℕ → Reading W)
    → ((c : C) (x : X) (rest : List ℕ) → P c x rest → left_at c (left x ++ rest) ≡ Ok (left_kept x, rest))
    → ((d : D) (y : Y) (rest : List ℕ) → Q d y rest → right_at d (right y ++ rest) ≡ Ok (right_kept y, rest))
    → (ctx : Either C D) (z : Either X Y) (rest : List ℕ) → EitherIsReadBack P Q ctx z rest
    → either_at left_at right_at ctx (either_written left right z ++ rest) ≡
    Ok (either_shown left_kept right_kept z, rest)
either_at-back P Q left right left_kept right_kept left_at right_at left_back right_back (Left c)
    (Left x) rest h = rw (left_back c x rest h) refl
either_at-back P Q left right left_kept right_kept left_at right_at left_back right_back (Right d)
    (Right y) rest h = rw (right_back d y rest h) refl
either_at-back P Q left right left_kept right_kept left_at right_at left_back right_back (Left c)
    (Right y) rest h = absurd h
either_at-back P Q left right left_kept right_kept left_at right_at left_back right_back (Right d)
    (Left x) rest h = absurd h
