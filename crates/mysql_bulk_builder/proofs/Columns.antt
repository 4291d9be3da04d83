-- The type of a column, value by value.
use Rattle.std.proofs.Common.{◌≡◌, ℕ, zero, suc, ◌+◌, ◌*◌, ◌<◌, ◌==◌, ◌||◌, Bool, true, false, List, [], ◌∷◌, ◌++◌}
use Rattle.std.proofs.Common.{length, get_or, map, refl, sym, ap, ◌∙◌, arith}
use Rattle.std.specs.Prelude.{if◌then◌else◌}
use Rattle.std.specs.List.{range_with_len}
use Rattle.std.proofs.lemmas.Nat.{mul-le}
use Rattle.std.proofs.lemmas.List.FromFn.{map-range_with_len_more}
use Rattle.mysql_const.specs.ColumnTypes.{column_type_number}
use Rattle.mysql_cells.specs.declared.value.Value.{Value}
use Rattle.mysql_cells.specs.declared.value.Value.TheVariants.{NULL, Bytes, Int, UInt, Float, Double, Date, Time}
use Rattle.mysql_cells.specs.Cells.{type_number, type_of}
use Rattle.mysql_bulk_builder.specs.Bulk.{column_type, column_type_of, first_of, first_value, has_unsigned}
use Rattle.mysql_bulk_builder.specs.Bulk.{is_unsigned_of, merged, type_of_value}
use Rattle.mysql_bulk_builder.specs.declared.param_type.StmtBulkExecuteParamType.{StmtBulkExecuteParamType}
use Rattle.mysql_bulk_builder.specs.declared.param_value.StmtBulkExecuteParamValue.{StmtBulkExecuteParamValue}

or_true : (b : Bool) → b || true ≡ true
or_true true = refl
or_true false = refl

or_false : (b : Bool) → b || false ≡ b
or_false true = refl
or_false false = refl

or_assoc : (a b c : Bool) → a || (b || c) ≡ (a || b) || c
or_assoc true b c = refl
or_assoc false b c = refl

first_of-assoc : (a b c : Value) → first_of a (first_of b c) ≡ first_of (first_of a b) c
first_of-assoc NULL b c = refl
first_of-assoc (Bytes bytes) b c = refl
first_of-assoc (Int z) b c = refl
first_of-assoc (UInt n) b c = refl
first_of-assoc (Float bits) b c = refl
first_of-assoc (Double bits) b c = refl
first_of-assoc (Date year month day hour minute second micros) b c = refl
first_of-assoc (Time negative days hours minutes seconds micros) b c = refl

first_of-null : (a : Value) → first_of a NULL ≡ a
first_of-null NULL = refl
first_of-null (Bytes bytes) = refl
first_of-null (Int z) = refl
first_of-null (UInt n) = refl
first_of-null (Float bits) = refl
first_of-null (Double bits) = refl
first_of-null (Date year month day hour minute second micros) = refl
first_of-null (Time negative days hours minutes seconds micros) = refl

first_more : (column : List Value) (value : Value) → first_value (column ++ value ∷ []) ≡
    first_of (first_value column) value
unfolding first_value
first_more [] value = first_of-null value
first_more (v ∷ column) value = ap (λ (w : Value). first_of v w) (first_more column value) ∙
    first_of-assoc v (first_value column) value

unsigned_more : (number : ℕ) (column : List Value) (value : Value) →
    has_unsigned number (column ++ value ∷ []) ≡ has_unsigned number column ||
    is_unsigned_of number value
unfolding has_unsigned
unsigned_more number [] value = or_false (is_unsigned_of number value)
unsigned_more number (v ∷ column) value =
    ap (λ (b : Bool). is_unsigned_of number v || b) (unsigned_more number column value) ∙
    or_assoc (is_unsigned_of number v) (has_unsigned number column)
    (is_unsigned_of number value)

-- a column of NULLs alone has no number
none_unsigned : (number : ℕ) (column : List Value) → first_value column ≡ NULL → has_unsigned number column ≡ false
unfolding first_value has_unsigned
none_unsigned number [] none = refl
none_unsigned number (NULL ∷ column) none = none_unsigned number column none
none_unsigned number (Bytes bytes ∷ column) none = absurd cc
none_unsigned number (Int z ∷ column) none = absurd cc
none_unsigned number (UInt n ∷ column) none = absurd cc
none_unsigned number (Float bits ∷ column) none = absurd cc
none_unsigned number (Double bits ∷ column) none = absurd cc
none_unsigned number (Date year month day hour minute second micros ∷ column) none = absurd cc
none_unsigned number (Time negative days hours minutes seconds micros ∷ column) none = absurd cc

abbrev pub made : Value → Bool → StmtBulkExecuteParamType
made first unsigned = record { column_type = type_of first; flags = record { 0 = if unsigned then 0x80 else 0 } }

-- the first value alone
alone : (value : Value) → made value (is_unsigned_of (type_number value) value) ≡ type_of_value value
alone NULL = refl
alone (Bytes bytes) = refl
alone (Int z) = refl
alone (UInt n) = refl
alone (Float bits) = refl
alone (Double bits) = refl
alone (Date year month day hour minute second micros) = refl
alone (Time negative days hours minutes seconds micros) = refl

-- a later value that has a sign, or is no whole number
plain : (first value : Value) (b : Bool) → (column_type_number (type_of first) == 6) ≡ false →
    is_unsigned_of (type_number first) value ≡ false
    → made first (b || is_unsigned_of (type_number first) value) ≡ merged (made first b) value
plain first value b some signed = rw (some, signed, or_false b) refl

-- a later value without a sign
unsigned : (n : ℕ) (first : Value) (b : Bool) → (column_type_number (type_of first) == 6) ≡ false →
    made first (b || is_unsigned_of (type_number first) (UInt n)) ≡ merged (made first b) (UInt n)
unsigned n NULL b some = absurd cc
unsigned n (Bytes bytes) b some = plain (Bytes bytes) (UInt n) b refl refl
unsigned n (Int z) b some = ap (λ (u : Bool). made (Int z) u) (or_true b)
unsigned n (UInt m) b some = ap (λ (u : Bool). made (UInt m) u) (or_true b)
unsigned n (Float bits) b some = plain (Float bits) (UInt n) b refl refl
unsigned n (Double bits) b some = plain (Double bits) (UInt n) b refl refl
unsigned n (Date year month day hour minute second micros) b some =
    plain (Date year month day hour minute second micros) (UInt n) b refl refl
unsigned n (Time negative days hours minutes seconds micros) b some =
    plain (Time negative days hours minutes seconds micros) (UInt n) b refl refl

later : (first value : Value) (b : Bool) → (column_type_number (type_of first) == 6) ≡ false →
    made first (b || is_unsigned_of (type_number first) value) ≡ merged (made first b) value
later first NULL b some = plain first NULL b some refl
later first (Bytes bytes) b some = plain first (Bytes bytes) b some refl
later first (Int z) b some = plain first (Int z) b some refl
later first (UInt n) b some = unsigned n first b some
later first (Float bits) b some = plain first (Float bits) b some refl
later first (Double bits) b some = plain first (Double bits) b some refl
later first (Date year month day hour minute second micros) b some =
    plain first (Date year month day hour minute second micros) b some refl
later first (Time negative days hours minutes seconds micros) b some =
    plain first (Time negative days hours minutes seconds micros) b some refl

step : (first : Value) (column : List Value) (value : Value) → first_value column ≡ first
    → made (first_of first value) (has_unsigned (type_number (first_of first value)) column ||
    is_unsigned_of (type_number (first_of first value)) value) ≡
    merged (made first (has_unsigned (type_number first) column)) value
step NULL column value is =
    ap (λ (b : Bool). made value (b || is_unsigned_of (type_number value) value))
    (none_unsigned (type_number value) column is) ∙ alone value
step (Bytes bytes) column value is = later (Bytes bytes) value (has_unsigned 253 column) refl
step (Int z) column value is = later (Int z) value (has_unsigned 8 column) refl
step (UInt n) column value is = later (UInt n) value (has_unsigned 8 column) refl
step (Float bits) column value is = later (Float bits) value (has_unsigned 4 column) refl
step (Double bits) column value is = later (Double bits) value (has_unsigned 5 column) refl
step (Date year month day hour minute second micros) column value is =
    later (Date year month day hour minute second micros) value (has_unsigned 12 column) refl
step (Time negative days hours minutes seconds micros) column value is =
    later (Time negative days hours minutes seconds micros) value (has_unsigned 11 column) refl

-- one value more
pub type_more : (column : List Value) (value : Value) → column_type (column ++ value ∷ []) ≡
    merged (column_type column) value
type_more column value =
    ap (λ (first : Value). made first (has_unsigned (type_number first) (column ++ value ∷ [])))
    (first_more column value)
    ∙ ap (λ (b : Bool). made (first_of (first_value column) value) b)
    (unsigned_more (type_number (first_of (first_value column) value)) column value)
    ∙ step (first_value column) column value refl

-- the values of the first so many rows
abbrev pub so_far : ℕ → List StmtBulkExecuteParamValue → ℕ → ℕ → List Value
so_far arity values column rows =
    map (λ row. get_or (map (λ (value : StmtBulkExecuteParamValue). value.value) values)
    (row * arity + column) NULL) (range_with_len 0 rows)

value_here : (values : List StmtBulkExecuteParamValue) (i : ℕ) (p : StmtBulkExecuteParamValue) →
    i < length values → get_or (map (λ (value : StmtBulkExecuteParamValue). value.value) values) i
    NULL ≡ (get_or values i p).value
value_here [] i p inside = absurd (omega arith)
value_here (v ∷ values) zero p inside = refl
value_here (v ∷ values) (suc i) p inside = value_here values i p (omega arith)

pub no_rows : type_of_value NULL ≡ column_type []
unfolding first_value has_unsigned
no_rows = refl

pub inside : (row count arity column all : ℕ) → row < count → column < arity → all ≡ count * arity →
    row * arity + column < all
inside row count arity column all below few is =
    grind (
      arith,
      below,
      few,
      is,
      mul-le (row + 1) arity count arity (omega (arith, below)) (omega arith),
    )

pub one_more_row : (values : List StmtBulkExecuteParamValue) (arity column row : ℕ)
    (found new : StmtBulkExecuteParamType) (p : StmtBulkExecuteParamValue) (value : Value) →
    row * arity + column < length values
    → p ≡ get_or values (row * arity + column) p → value ≡ p.value → found ≡
    column_type (so_far arity values column row) → new ≡ merged found value → new ≡
    column_type (so_far arity values column (row + 1))
one_more_row values arity column row found new p value inside here is before put =
    let last : get_or (map (λ (value : StmtBulkExecuteParamValue). value.value) values)
    (row * arity + column) NULL ≡ value =
    value_here values (row * arity + column) p inside ∙
    ap (λ (q : StmtBulkExecuteParamValue). q.value) (sym here) ∙ sym is in
    put ∙ ap (λ (t : StmtBulkExecuteParamType). merged t value) before ∙
    sym (type_more (so_far arity values column row) value)
    ∙ ap (λ (v : Value). column_type (so_far arity values column row ++ v ∷ [])) (sym last)
    ∙ ap column_type (sym (map-range_with_len_more
    (λ r. get_or (map (λ (value : StmtBulkExecuteParamValue). value.value) values)
    (r * arity + column) NULL) 0 row row (omega arith)))

-- one type more
pub one_more_type : (arity count : ℕ) (values : List Value)
    (types new : List StmtBulkExecuteParamType) (column : ℕ) (t : StmtBulkExecuteParamType) →
    types ≡ map (column_type_of arity count values) (range_with_len 0 column)
    → t ≡ column_type_of arity count values column → new ≡ types ++ t ∷ [] → new ≡
    map (column_type_of arity count values) (range_with_len 0 (column + 1))
one_more_type arity count values types new column t before is put =
    put ∙ ap (λ (l : List StmtBulkExecuteParamType). l ++ t ∷ []) before
    ∙ ap (λ (one : StmtBulkExecuteParamType). map (column_type_of arity count values)
    (range_with_len 0 column) ++ one ∷ []) is
    ∙ sym (map-range_with_len_more (column_type_of arity count values) 0 column column (omega arith))
