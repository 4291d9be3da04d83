-- What is written and read of one of two values.
-- (MySQL: Client/Server Protocol, "Protocol Basics: Basic Data Types".)
use Rattle.std.specs.Prelude.{ℕ, List, Ok, ◌⊎◌, ⊤}
use Rattle.std.proofs.Common.{inl, inr}
use Rattle.mysql_fields.specs.Wire.{Reading, ◌>>=◌}
use Rattle.mysql_field_constants.specs.declared.either.Either.{Either}
use Rattle.mysql_field_constants.specs.declared.either.Either.TheVariants.{Left, Right}

-- the first is held
abbrev pub IsLeft : {X Y : Type 0} → Either X Y → Type 0
IsLeft (Left x) = ⊤
IsLeft (Right y) = ⊥

-- the second is held
abbrev pub IsRight : {X Y : Type 0} → Either X Y → Type 0
IsRight (Left x) = ⊥
IsRight (Right y) = ⊤

abbrev pub either_written : {X Y : Type 0} → (X → List ℕ) → (Y → List ℕ) → Either X Y → List ℕ
either_written left right (Left x) = left x
either_written left right (Right y) = right y

abbrev pub either_shown : {X Y V W : Type 0} → (X → V) → (Y → W) → Either X Y → V ⊎ W
either_shown left right (Left x) = inl (left x)
either_shown left right (Right y) = inr (right y)

-- the context says which of the two is read
abbrev pub as_left : {V W : Type 0} → V × List ℕ → Reading (V ⊎ W)
as_left x = Ok (inl x.0, x.1)

abbrev pub as_right : {V W : Type 0} → W × List ℕ → Reading (V ⊎ W)
as_right y = Ok (inr y.0, y.1)

abbrev pub either_at : {C D V W : Type 0} → (C → List ℕ → Reading V) → (D → List ℕ → Reading W) →
    Either C D → List ℕ → Reading (V ⊎ W)
either_at left right (Left c) bytes = left c bytes >>= as_left
either_at left right (Right d) bytes = right d bytes >>= as_right

abbrev pub EitherIsReadBack : {C D X Y : Type 0} → (C → X → List ℕ → Type 0) →
    (D → Y → List ℕ → Type 0) → Either C D → Either X Y → List ℕ → Type 0
EitherIsReadBack left right (Left c) (Left x) rest = left c x rest
EitherIsReadBack left right (Right d) (Right y) rest = right d y rest
EitherIsReadBack left right _ _ rest = ⊥
