-- The types in force for each part of a cut.
use Rattle.std.specs.Prelude.{◌≡◌, ℕ, ◌+◌, ◌<◌, ◌≤◌, List, [], ◌∷◌, length, take, slice_index_or, None}
use Rattle.std.specs.List.{AllByRecursion}
use Rattle.mysql_bulk_builder.specs.Cut.{Row}
use Rattle.mysql_bulk_builder.specs.TypedCut.{Typing, Typed, Untyped, Part, TypedCutFits}
use Rattle.mysql_bulk_builder.specs.ValueTypes.{sent_type, first_in_column}
use Rattle.mysql_bulk_builder.specs.Causes.{mixed_kinds}
use Rattle.mysql_bulk_builder.specs.KindLaws.{value_in, HasValueAt}

-- A typed part brings the types of all rows up to its end, an untyped one leaves those before.
abbrev pub covered : Typing → ℕ → ℕ → ℕ
covered Typed end before = end
covered Untyped end before = before

-- a part, where it starts, and how many first rows the types in force for it are of
pub record InForce : Type 0 where
  pub start : ℕ
  pub count : ℕ
  pub covers : ℕ

abbrev pub in_force_from : ℕ → ℕ → List Part → List InForce
in_force_from start before [] = []
in_force_from start before (part ∷ cut) =
    let covers = covered part.typing (start + part.count) before in
    record { start = start; count = part.count; covers = covers } ∷ in_force_from (start + part.count) covers cut

abbrev pub in_force : List Part → List InForce
in_force cut = in_force_from 0 0 cut

-- the types in force are those of the part's values
abbrev pub TypesServe : List Row → InForce → Type 0
TypesServe rows part = (k column : ℕ) → part.start ≤ k → k < part.start + part.count → HasValueAt rows k column →
    sent_type (first_in_column column (take part.covers rows)) ≡ sent_type (value_in rows k column)

-- Where no column mixes kinds, the types in force serve each part of a cut that fits.
abbrev pub TypesInForceServe : Type 0
TypesInForceServe = (room columns : ℕ) (rows : List Row) (cut : List Part) →
    ((k : ℕ) → k < length rows → length (slice_index_or rows k []) ≡ columns) → mixed_kinds rows ≡ None →
    TypedCutFits room columns rows cut → AllByRecursion (TypesServe rows) (in_force cut)
