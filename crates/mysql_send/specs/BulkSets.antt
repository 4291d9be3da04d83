-- Sets as rows of bulk requests: what the private steps of sending them promise.
-- MariaDB: Client/Server Protocol, "COM_STMT_BULK_EXECUTE".
use Rattle.std.specs.Prelude.{◌≡◌, ◌≢◌, ◌⊎◌, ℕ, ◌||◌, Bool, true, false, if◌then◌else◌, is_none, List, [], ◌∷◌, ◌++◌}
use Rattle.std.specs.Prelude.{map, Some, None, Ok, length, slice_index_or}
use Rattle.std.specs.List.{AllByRecursion, flat_map, range_with_len}
use Rattle.byteorder.specs.Endian.{little_bytes}
use Rattle.mysql_wire.specs.Stream.{framings}
use Rattle.mysql_wire.specs.Stream.Numbering.{EachFromZero}
use Rattle.mysql_values.specs.Values.{FitsFields}
use Rattle.mysql_values.specs.Value.{Value}
use Rattle.mysql_cells.specs.declared.value.Value.TheVariants.{NULL}
use Rattle.mysql_values.specs.Values.{content_of, first_float}
use Rattle.mysql_bulk_builder.specs.Bulk.{all_values, param_type_bytes, param_value_bytes, param_value_of}
use Rattle.mysql_bulk_builder.specs.Bulk.{type_of_value}
use Rattle.mysql_bulk_builder.specs.declared.param_type.StmtBulkExecuteParamType.{StmtBulkExecuteParamType}
use Rattle.mysql_bulk_builder.specs.Causes.{is_of_other_kind, mixed_kinds, place_where}
use Rattle.mysql_bulk_builder.specs.Cut.{Row}
use Rattle.mysql_bulk_builder.specs.TypedCut.{IsTightTyped, Part, Typed, Typing, Untyped, placed_from}
use Rattle.mysql_bulk_builder.specs.TypedRequests.{typing_of}
use Rattle.mysql_bulk_builder.specs.ValueTypes.{first_in_column, first_values, is_null, same_kind}
use Rattle.mysql_command_rules.specs.declared.refusal.Refusal.{Refusal}
use Rattle.mysql_command_rules.specs.declared.refusal.Refusal.TheVariants as refusals
use Rattle.mysql_command_rules.specs.Commands.{bulk_request}
use Rattle.mysql_command_rules.specs.Sets.{Given}
use Rattle.mysql_send.specs.Executions.{Limits}
use Rattle.mysql_command_rules.specs.Cause.{bulk_cause, first_of_sets, set_cause}

-- values are those of rows of so many columns, one row after another
pub record AreRows (columns : ℕ) (values : List Value) (rows : List Row) : Type 0 where
  pub values_are : values ≡ all_values rows
  pub wide : AllByRecursion (λ row. length row ≡ columns) rows

-- sets share requests: no command carries one by itself
abbrev pub no_command : List Value → List ℕ
no_command values = []

-- why a set gives no row: Memory, or the cause that speaks against it
abbrev pub RefusesSet : Limits → ℕ → Given → Refusal → Type 0
RefusesSet limits set given refusal = (refusal ≡ refusals.Memory) ⊎
    (set_cause no_command limits.places limits.bytes set given ≡ Some refusal)

-- why sets give no rows: Memory, or the first cause that speaks against one of them
abbrev pub RefusesSets : Limits → List Given → Refusal → Type 0
RefusesSets limits given refusal = (refusal ≡ refusals.Memory) ⊎
    (first_of_sets (set_cause no_command limits.places limits.bytes) 0 given ≡ Some refusal)

-- a set gives a row against which nothing speaks, and its numbers fit their fields
pub record GivesRow (limits : Limits) (set : ℕ) (given : Given) (row : Row) : Type 0 where
  pub gives : given ≡ Ok row
  pub none : set_cause no_command limits.places limits.bytes set (Ok row) ≡ None
  pub fit : AllByRecursion (λ value. FitsFields value) row

-- sets give rows, and nothing speaks against any
pub record GivesRows (limits : Limits) (given : List Given) (rows : List Row) : Type 0 where
  pub gives : given ≡ map Ok rows
  pub none : first_of_sets (set_cause no_command limits.places limits.bytes) 0 given ≡ None
  pub fit : AllByRecursion (λ row. AllByRecursion (λ value. FitsFields value) row) rows

-- the values of a row as they are sent
abbrev pub row_bytes : Row → List ℕ
row_bytes row = flat_map (λ value. param_value_bytes (param_value_of value)) row

-- the types that values are sent by
abbrev pub types_bytes : List Value → List ℕ
types_bytes values = flat_map (λ value. param_type_bytes (type_of_value value)) values

-- the flags of a request: that types are sent, or none
abbrev pub request_flags : Typing → ℕ
request_flags Typed = 0x80
request_flags Untyped = 0

-- the types that it carries: of each column by its first value in these rows
abbrev pub request_types : Typing → ℕ → List Row → List StmtBulkExecuteParamType
request_types Typed columns rows =
    map (λ column. type_of_value (first_in_column column rows)) (range_with_len 0 columns)
request_types Untyped columns rows = []

-- the types that a request carries, by the first values of its columns
abbrev pub types_by : Bool → List Value → List StmtBulkExecuteParamType
types_by true firsts = map (λ value. type_of_value value) firsts
types_by false firsts = []

-- the bytes of a request up to its rows
abbrev pub front_bytes : ℕ → Bool → List Value → List ℕ
front_bytes id typed firsts = (250 ∷ []) ++
    (little_bytes 4 id ++ (little_bytes 2 (request_flags (typing_of typed)) ++
    flat_map param_type_bytes (types_by typed firsts)))

-- the requests of the parts of a cut from a row on
abbrev pub requests_from : ℕ → ℕ → List Row → ℕ → List Part → List (List ℕ)
requests_from id columns rows start cut =
    map (λ p. bulk_request id columns rows p.0 p.1.typing p.1.count) (placed_from start cut)

-- the requests of the tight cut are appended, and nothing speaks against the rows
pub record AppendsRequests (id columns room : ℕ) (rows : List Row) (old new : List ℕ) : Type 0 where
  pub none : bulk_cause columns room rows ≡ None
  pub cut : List Part
  pub tight : IsTightTyped room columns rows cut
  pub appended : new ≡ old ++ framings (requests_from id columns rows 0 cut) EachFromZero

-- Memory, or the first cause that speaks against the rows
abbrev pub RefusesRows : ℕ → ℕ → List Row → Refusal → Type 0
RefusesRows columns room rows refusal = (refusal ≡ refusals.Memory) ⊎ (bulk_cause columns room rows ≡ Some refusal)

-- a set's row is appended: nothing speaks against it, and each value is of the kind of its column's
-- first value in the rows before; the first values are then those with this row
pub record AppendsRow (limits : Limits) (set : ℕ) (given : Given) (firsts new_firsts : Row)
    (old new : List ℕ) : Type 0 where
  pub row : Row
  pub gives : GivesRow limits set given row
  pub one_kind : (before : List Row) → firsts ≡ first_values limits.places before →
      place_where (is_of_other_kind before) row ≡ None
  pub firsts_are : (before : List Row) → firsts ≡ first_values limits.places before → new_firsts ≡
      first_values limits.places (before ++ row ∷ [])
  pub appended : new ≡ old ++ row_bytes row

-- a value joins its column: it is no float, and NULL or of the kind of the column's first value
-- where that isn't NULL; a first value that is NULL gives way to it, and those of other columns
-- stay
pub record JoinsColumn (firsts new_firsts : Row) (column : ℕ) (value : Value) : Type 0 where
  pub no_float : is_none (content_of value) ≡ false
  pub one_kind : (is_null value || is_null (slice_index_or firsts column NULL) ||
      same_kind (slice_index_or firsts column NULL) value) ≡ true
  pub first : slice_index_or new_firsts column NULL ≡
      (if is_null (slice_index_or firsts column NULL) then value else slice_index_or firsts column
      NULL)
  pub others : (other : ℕ) → other ≢ column → slice_index_or new_firsts other NULL ≡ slice_index_or firsts other NULL

-- a row is appended: it has a value for each column, none is a float, and each is of the kind of
-- its column's first value in the rows before; the first values are then those with this row
pub record PutsRow (firsts new_firsts row : Row) (old new : List ℕ) : Type 0 where
  pub wide : length row ≡ length firsts
  pub no_float : first_float row ≡ None
  pub fit : AllByRecursion (λ value. FitsFields value) row
  pub one_kind : (before : List Row) → firsts ≡ first_values (length firsts) before →
      place_where (is_of_other_kind before) row ≡ None
  pub firsts_are : (before : List Row) → firsts ≡ first_values (length firsts) before → new_firsts ≡
      first_values (length firsts) (before ++ row ∷ [])
  pub appended : new ≡ old ++ row_bytes row

-- the rows of sets are appended: nothing speaks against any, and no column mixes kinds
pub record AppendsRows (limits : Limits) (given : List Given) (firsts : Row) (old new : List ℕ) : Type 0 where
  pub rows : List Row
  pub gives : GivesRows limits given rows
  pub one_kind : mixed_kinds rows ≡ None
  pub firsts_are : firsts ≡ first_values limits.places rows
  pub appended : new ≡ old ++ flat_map row_bytes rows

-- all sets are sent by one request: they give rows, and it is appended
pub record AppendsAll (id : ℕ) (limits : Limits) (given : List Given) (old new : List ℕ) : Type 0 where
  pub rows : List Row
  pub gives : GivesRows limits given rows
  pub sent : AppendsRequests id limits.places limits.bytes rows old new

-- Memory, or the first cause that speaks against the sets: against one of them, or against the rows that they give
abbrev pub RefusesAll : Limits → List Given → Refusal → Type 0
RefusesAll limits given refusal = RefusesSets limits given refusal ⊎
    ((rows : List Row) × GivesRows limits given rows ×
    RefusesRows limits.places limits.bytes rows refusal)
