-- Why rows are not sent by bulk requests: the least row, and in it the least place, where a test holds.
use Rattle.std.specs.Prelude.{ℕ, ◌+◌, ◌*◌, ◌||◌, Bool, not, nat_lt, if◌then◌else◌, List, [], ◌∷◌, take, map, Option}
use Rattle.std.specs.Prelude.{Some, None}
use Rattle.std.specs.List.{enumerate_from}
use Rattle.std.specs.Option.{option_map, option_or}
use Rattle.mysql_cells.specs.declared.value.Value.{Value}
use Rattle.mysql_bulk_builder.specs.Cut.{Row, row_size}
use Rattle.mysql_bulk_builder.specs.ValueTypes.{is_null, first_in_column, same_kind}

-- the first answer in a list
abbrev pub first_some : {X : Type 0} → List (Option X) → Option X
first_some [] = None
first_some (o ∷ os) = option_or o (first_some os)

-- the first answer over the elements, each with its place
abbrev pub first_at : {X Y : Type 0} → (ℕ → X → Option Y) → List X → Option Y
first_at answer xs = first_some (map (λ p. answer p.0 p.1) (enumerate_from 0 xs))

-- the least place of a row that passes a test
abbrev pub place_where : (ℕ → Value → Bool) → Row → Option ℕ
place_where test row = first_at (λ place value. if test place value then Some place else None) row

-- a value of another kind than the column's first value in the rows before
abbrev pub is_of_other_kind : List Row → ℕ → Value → Bool
is_of_other_kind before column value =
    let first = first_in_column column before in not (is_null value || is_null first || same_kind first value)

-- the least row, and in it the least place, with a value of another kind than its column's earlier ones
abbrev pub mixed_kinds : List Row → Option (ℕ × ℕ)
mixed_kinds rows = first_at
    (λ set row. option_map (λ place. (set, place))
    (place_where (is_of_other_kind (take set rows)) row)) rows

-- the least row that no typed request of its own holds
abbrev pub row_too_large : ℕ → ℕ → List Row → Option ℕ
row_too_large room columns rows =
    first_at (λ set row. if nat_lt room (7 + 2 * columns + row_size row) then Some set else None)
    rows
