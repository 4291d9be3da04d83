-- What a call says that counts the placeholders of a query.
-- MySQL Reference Manual, "PREPARE Statement" (parameter markers).
use Rattle.std.specs.Prelude.{◌≡◌, ◌⊎◌, ℕ, List, Option, Some, None, MatchOption, length, true}
use Rattle.mysql_values.specs.Place.{Place}
use Rattle.mysql_values.specs.Queries.{HasMixed, HasPlaces}
use Rattle.mysql_values.specs.Sql.{Sql, read_by}
use Rattle.mysql_c_handles.specs.Codes.{code_number}
use Rattle.mysql_c_handles.specs.declared.code.Code.TheVariants.{Done, Memory, Mixed, NoSuchMode}
use Rattle.mysql_c_commands.specs.Modes.{flagged}

-- The query has so many placeholders.
abbrev pub HasCount : Sql → (count : ℕ) → Type 0
HasCount query count = (places : List Place) × HasPlaces query places × (count ≡ length places)

-- They are counted; or the number stays, since both kinds of placeholder occur, or memory ran out.
abbrev pub CountsIn : Sql → (old number new : ℕ) → Type 0
CountsIn query old number new = ((number ≡ code_number Done) × HasCount query new)
    ⊎ ((number ≡ code_number Mixed) × HasMixed query true × (new ≡ old))
    ⊎ ((number ≡ code_number Memory) × (new ≡ old))

-- They are counted in the mode that the flags tell.
abbrev pub CountsPlaces : (flags : ℕ) → List ℕ → (old number new : ℕ) → Type 0
CountsPlaces flags query old number new =
    MatchOption (flagged flags) ((number ≡ code_number NoSuchMode) × (new ≡ old))
    (λ told. CountsIn (read_by told.0 told.1 query) old number new)
