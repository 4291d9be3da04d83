-- What an iterator's requests are together.
use Rattle.std.specs.Prelude.{◌≡◌, ℕ, zero, suc, ◌+◌, ◌*◌, ◌≤◌, Bool, false, if◌then◌else◌, List, [], ◌∷◌, ◌++◌, length}
use Rattle.std.specs.Prelude.{map, Ok, Err}
use Rattle.std.specs.List.{AllByRecursion}
use Rattle.mysql_bulk_builder.specs.Builder.{Builder, Request, columns_of, most_rows}
use Rattle.mysql_bulk_builder.specs.Cut.{Row, IsTight, parts, rows_of, size}
use Rattle.mysql_bulk_builder.specs.Given.{Giving}
use Rattle.mysql_bulk_builder.specs.Iteration.{Iteration, GivesRequest}

-- the rows given before the first set that gives none
abbrev pub rows_given : Giving → List Row
rows_given [] = []
rows_given (Ok row ∷ given) = row ∷ rows_given given
rows_given (Err error ∷ given) = []

-- the rows held and given
abbrev pub waiting : Iteration → List Row
waiting it = it.builder.rows ++ rows_given it.given

-- the bytes of types of the first request: none where a request was built before
abbrev pub first_types : Bool → List Row → ℕ
first_types typed rows = if typed then 2 * columns_of rows else 0

-- only the request that starts with row 0 may be typed
abbrev pub typed_at : Bool → ℕ → Bool
typed_at typed zero = typed
typed_at typed (suc start) = false

-- the request of a part of the rows
abbrev pub request_at : Builder → List Row → ℕ → ℕ → Request
request_at builder rows start count =
    record {
      id = builder.id;
      results = builder.results;
      typed =
          typed_at builder.typed start;
      rows = rows_of rows start count;
    }

-- how many rows each request has
abbrev pub counts : List Request → List ℕ
counts requests = map (λ request. length request.rows) requests

-- requests given by calls one after another
abbrev pub Runs : Iteration → List Request → Iteration → Type 0
Runs it [] end = it ≡ end
Runs it (request ∷ requests) end = (next : Iteration) × GivesRequest it request next × Runs next requests end

-- the requests of the first parts of the tight cut, with this rest; each has room
pub record AreFirst (it : Iteration) (requests : List Request) (rest : List ℕ) : Type 0 where
  pub tight : IsTight it.builder.room (first_types it.builder.typed (waiting it)) (waiting it) (counts requests ++ rest)
  pub fit : AllByRecursion (λ p. size (first_types it.builder.typed (waiting it)) (waiting it) p.0
      p.1 ≤ it.builder.room) (parts (counts requests))
  pub requests_are : requests ≡ map (λ p. request_at it.builder (waiting it) p.0 p.1) (parts (counts requests))

-- The requests given are those of the first parts of the tight cut of the rows held and given, and
-- of all its parts where neither is left.
abbrev pub GivesFirst : Type 0
GivesFirst = (it end : Iteration) (requests : List Request) →
    length it.builder.rows + length it.given ≤ most_rows → Runs it requests end →
    (rest : List ℕ) × AreFirst it requests rest × (end.builder.rows ≡ [] → end.given ≡ [] → rest ≡ [])
