-- What `==` says of lists of values and of columns.
use Rattle.std.proofs.Common.{◌≡◌, List, [], ◌∷◌, Bool, Option, Some, None, refl, ap}
use Rattle.std.specs.Prelude.{◌&&◌, map}
use Rattle.std.specs.Bool.{Decides}
use Rattle.std.specs.Option.{option_eq}
use Rattle.std.specs.Cmp.Lexicographic.{pointwise}
use Rattle.std.proofs.Common.{rules}
use Rattle.std.proofs.lemmas.Bool.Decides.{Decides-and, Decides-at, Decides-eqb, Decides-like}
use Rattle.std.proofs.lemmas.Slice.Eq.{bytes_eq-Decides, slice_eq-Decides}
use Rattle.mysql_cells.specs.declared.value.Value.{Value}
use Rattle.mysql_cells.specs.contracts.value.ValuePartialEq as values
use Rattle.std.specs.Rc.{rc_slice_items}
use Rattle.mysql_columns.specs.Columns.{ColumnDefinition, ColumnNames}
use Rattle.mysql_columns.specs.Views.{column_view, same_names, shared_view}
use Rattle.mysql_const.specs.declared.column_flags.ColumnFlags.{ColumnFlags}
use Rattle.mysql_const.specs.contracts.column_flags.ColumnFlagsPartialEq as flags
use Rattle.mysql_const.specs.declared.column_type.ColumnType.{ColumnType}
use Rattle.mysql_const.specs.contracts.column_type.ColumnTypePartialEq as types
use Rattle.mysql_rows.specs.Rows.{Row as RowOf}
use Rattle.mysql_rows.specs.Views.{row_view}
use Rattle.mysql_rows.specs.declared.row.Row.{Row}
use Rattle.mysql_columns.specs.declared.column.Column.{Column}
use Rattle.mysql_columns.specs.contracts.column.ColumnPartialEq as columns

-- Lists are compared element by element.
pub pointwise_by : {A X : Type 0} (E : A → A → Bool) (f : A → X) →
    ((a b : A) → Decides (E a b) (f a ≡ f b)) → (xs ys : List A) →
    Decides (pointwise E xs ys) (map f xs ≡ map f ys)
pointwise_by E f each [] [] = (λ h. refl, λ h. refl)
pointwise_by E f each [] (y ∷ ys) = (λ h. absurd cc, λ h. absurd cc)
pointwise_by E f each (x ∷ xs) [] = (λ h. absurd cc, λ h. absurd cc)
pointwise_by E f each (x ∷ xs) (y ∷ ys) =
    let both = Decides-and (E x y) (pointwise E xs ys) (each x y) (pointwise_by E f each xs ys) in
    (λ h. let p = both.0 h in cc, λ h. let p : f x ≡ f y = cc in let q : map f xs ≡ map f ys = cc in both.1 (p, q))

value_decides : (a b : Value) → Decides (values.TheImpl.eq-value.it a b) (a ≡ b)
value_decides a b = search rules

type_decides : (a b : ColumnType) → Decides (types.TheImpl.eq-value.it a b) (a ≡ b)
type_decides a b = search rules

flags_decide : (a b : ColumnFlags) → Decides (flags.TheImpl.eq-value.it a b) (a ≡ b)
flags_decide a b = search rules

-- Five names of each are the same.
abbrev NamesAgree : ColumnNames → ColumnNames → Type 0
NamesAgree a b =
    (a.schema ≡ b.schema) × ((a.table ≡ b.table) ×
    ((a.org_table ≡ b.org_table) × ((a.name ≡ b.name) × (a.org_name ≡ b.org_name))))

names_decide : (a b : ColumnNames) → Decides (same_names a b) (NamesAgree a b)
names_decide a b =
    Decides-and _ _ (bytes_eq-Decides a.schema b.schema) (Decides-and _ _ (bytes_eq-Decides a.table b.table)
    (Decides-and _ _ (bytes_eq-Decides a.org_table b.org_table) (Decides-and _ _ (bytes_eq-Decides a.name b.name)
    (bytes_eq-Decides a.org_name b.org_name))))

-- The fields of two columns are the same.
abbrev FieldsAgree : Column → Column → Type 0
FieldsAgree a b =
    NamesAgree (shared_view a.names) (shared_view b.names) × ((a.character_set ≡ b.character_set) ×
    ((a.column_length ≡ b.column_length) ×
    ((a.column_type ≡ b.column_type) × ((a.flags ≡ b.flags) × (a.decimals ≡ b.decimals)))))

fields_agree : (a b : Column) → column_view a ≡ column_view b → FieldsAgree a b
fields_agree a b h = (
  (
    ap (λ (v : ColumnDefinition). v.schema) h,
    (
      ap (λ (v : ColumnDefinition). v.table) h,
      (
        ap (λ (v : ColumnDefinition). v.org_table) h,
        (ap (λ (v : ColumnDefinition). v.name) h, ap (λ (v : ColumnDefinition). v.org_name) h),
      ),
    ),
  ),
  (
    ap (λ (v : ColumnDefinition). v.character_set) h,
    (
      ap (λ (v : ColumnDefinition). v.column_length) h,
      (
        ap (λ (v : ColumnDefinition). v.column_type) h,
        (ap (λ (v : ColumnDefinition). v.flags) h, ap (λ (v : ColumnDefinition). v.decimals) h),
      ),
    ),
  ),
)

pub column_decides : (a b : Column) → Decides (columns.TheImpl.eq-value.it a b) (column_view a ≡ column_view b)
column_decides a b =
    Decides-like (columns.TheImpl.eq-value.it a b) (λ (h : FieldsAgree a b). cc) (fields_agree a b)
    (Decides-and _ _ (names_decide (shared_view a.names) (shared_view b.names))
    (Decides-and _ _ (Decides-eqb a.character_set b.character_set)
    (Decides-and _ _ (Decides-eqb a.column_length b.column_length)
    (Decides-and _ _ (type_decides a.column_type b.column_type)
    (Decides-and _ _ (flags_decide a.flags b.flags) (Decides-eqb a.decimals b.decimals))))))

pub columns_decide : (a b : List Column) →
    Decides (pointwise columns.TheImpl.eq-value.it a b) (map column_view a ≡ map column_view b)
columns_decide a b = pointwise_by columns.TheImpl.eq-value.it column_view column_decides a b

cell_decides : (a b : Option Value) → Decides (option_eq values.TheImpl.eq-value.it a b) (a ≡ b)
cell_decides (Some a) (Some b) =
    Decides-like _ (λ h. ap (λ v. let cell : Option Value = Some v in cell) h) (λ h. cc)
    (value_decides a b)
cell_decides (Some a) None = (λ h. absurd cc, λ h. absurd cc)
cell_decides None (Some b) = (λ h. absurd cc, λ h. absurd cc)
cell_decides None None = (λ h. refl, λ h. refl)

pub row_decides : (a b : Row) (r : Bool) →
    r ≡ (pointwise (option_eq values.TheImpl.eq-value.it) a.cells.items b.cells.items &&
    pointwise columns.TheImpl.eq-value.it (rc_slice_items a.columns) (rc_slice_items b.columns))
    →
    Decides r (row_view a ≡ row_view b)
row_decides a b r is =
    let cells = slice_eq-Decides cell_decides a.cells.items b.cells.items _ refl in
    let columns = columns_decide (rc_slice_items a.columns) (rc_slice_items b.columns) in
    let both = Decides-and _ _ cells columns in
    Decides-like r (λ h. cc) (λ h. (ap (λ (v : RowOf). v.cells) h, ap (λ (v : RowOf). v.columns) h))
    (Decides-at r _ is both)
