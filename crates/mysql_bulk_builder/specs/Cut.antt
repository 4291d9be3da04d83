-- How rows are cut into bulk requests.
use Rattle.std.specs.Prelude.{◌≡◌, ℕ, zero, suc, ◌+◌, ◌*◌, ◌/◌, ◌<◌, ◌≤◌, List, [], ◌∷◌, length, take, drop, sum}
use Rattle.std.specs.Prelude.{sum_by}
use Rattle.std.specs.List.{AllByRecursion}
use Rattle.mysql_cells.specs.declared.value.Value.{Value}
use Rattle.mysql_cells.specs.Cells.{bin_len}

-- the values of one parameter set, place by place
abbrev pub Row : Type 0
Row = List Value

-- what a row takes in a request: for each value an indicator and its cell
abbrev pub row_size : Row → ℕ
row_size row = sum_by (λ value. 1 + bin_len value) row

-- `count` rows from `start` on
abbrev pub rows_of : List Row → ℕ → ℕ → List Row
rows_of rows start count = take count (drop start rows)

-- what those rows take in a request
abbrev pub rows_size : List Row → ℕ → ℕ → ℕ
rows_size rows start count = sum_by row_size (rows_of rows start count)

-- A cut says how many rows each request takes: none takes no row, and together they take all.
abbrev pub IsCut : List Row → List ℕ → Type 0
IsCut rows cut = AllByRecursion (λ count. 0 < count) cut × (sum cut ≡ length rows)

-- where each part of a cut starts, and how many rows it has
abbrev pub parts_from : ℕ → List ℕ → List (ℕ × ℕ)
parts_from start [] = []
parts_from start (count ∷ cut) = (start, count) ∷ parts_from (start + count) cut

abbrev pub parts : List ℕ → List (ℕ × ℕ)
parts cut = parts_from 0 cut

-- The first request, the one that starts with row 0, has `types` bytes of types: two for each column, or none
-- where a request went out before. A later one has none.
abbrev pub types_size : ℕ → ℕ → ℕ
types_size types zero = types
types_size types (suc start) = 0

-- a part's request: its head, its types and its rows
abbrev pub size : ℕ → List Row → ℕ → ℕ → ℕ
size types rows start count = 7 + types_size types start + rows_size rows start count

-- each request has room
abbrev pub Fits : ℕ → ℕ → List Row → List ℕ → Type 0
Fits room types rows cut = AllByRecursion (λ p. size types rows p.0 p.1 ≤ room) (parts cut)

-- A part of more than one row fits, and unless it is the last it would not with one more row.
abbrev pub IsTightPart : ℕ → ℕ → List Row → ℕ → ℕ → Type 0
IsTightPart room types rows start count =
    (1 < count → size types rows start count ≤ room) ×
    (start + count < length rows → room < size types rows start (count + 1))

-- the cut that fills each request before it begins the next
pub record IsTight (room types : ℕ) (rows : List Row) (cut : List ℕ) : Type 0 where
  pub is_cut : IsCut rows cut
  pub parts_tight : AllByRecursion (λ p. IsTightPart room types rows p.0 p.1) (parts cut)

-- the most bytes of one chunk
abbrev pub max_payload_len : ℕ
max_payload_len = 16777215

-- a payload on the wire in chunks of at most so many bytes: its bytes, and four bytes before each chunk
abbrev pub wire_len_by : ℕ → ℕ → ℕ
wire_len_by most n = n + 4 * (n / most + 1)

abbrev pub wire_len : ℕ → ℕ
wire_len n = wire_len_by max_payload_len n

-- all requests of a cut on the wire
abbrev pub wire_bytes : ℕ → List Row → List ℕ → ℕ
wire_bytes types rows cut = sum_by (λ p. wire_len (size types rows p.0 p.1)) (parts cut)
