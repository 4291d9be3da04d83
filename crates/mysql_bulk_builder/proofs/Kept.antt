-- Rows in one flat list, and what a builder keeps of them.
use Rattle.std.proofs.Common.{◌≡◌, ◌≢◌, ℕ, zero, suc, ◌+◌, ◌*◌, ◌<◌, ◌≤◌, List, [], ◌∷◌, ◌++◌, length, take, drop}
use Rattle.std.proofs.Common.{Option, Some, None, refl, sym, suc-mul, Vec, ◌∙◌, ap, subst, map, Bool, true, false}
use Rattle.std.proofs.Common.{arith, length-append, length-drop}
use Rattle.std.specs.Prelude.{sum_by, unwrap_or, MatchOption, if◌then◌else◌}
use Rattle.std.specs.List.{AllByRecursion}
use Rattle.std.proofs.lemmas.List.{take-append-le, take-append-drop, drop-append-le, length-take-le, map-append}
use Rattle.std.proofs.lemmas.List.{take_all}
use Rattle.std.proofs.lemmas.List.Sums.{sum_by_push}
use Rattle.std.specs.Bool.{beq}
use Rattle.std.specs.Cmp.Lexicographic.{pointwise}
use Rattle.std.specs.Option.{option_eq}
use Rattle.std.specs.Prelude.{◌&&◌, nat_eq, option_copied}
use Rattle.mysql_values.specs.Params.{names_given}
use Rattle.mysql_bulk_builder.specs.SameBuilder.{same_builder, values_held}
use Rattle.std.specs.declared.alloc.Global.{Global}
use Rattle.mysql_bulk_builder.specs.Bulk.{BulkExecution, all_values, column_types_of, param_value_of, sends_types}
use Rattle.mysql_bulk_builder.specs.declared.param_type.StmtBulkExecuteParamType.{StmtBulkExecuteParamType}
use Rattle.mysql_bulk_builder.specs.declared.param_value.StmtBulkExecuteParamValue.{StmtBulkExecuteParamValue}
use Rattle.mysql_bulk_builder.specs.RequestView.{bulk_flags, execution_of}
use Rattle.mysql_cells.specs.declared.value.Value.{Value}
use Rattle.mysql_bulk_builder.specs.Cut.{Row, row_size}
use Rattle.mysql_bulk_builder.specs.FlatRows.{rows_from}
use Rattle.mysql_bulk_builder.specs.declared.builder.ComStmtBulkExecuteRequestBuilder.TheInside.{Inside}
use Rattle.mysql_bulk_builder.specs.BuilderView.{builder_of, IsBuilder, values_in}
use Rattle.mysql_bulk_builder.specs.Builder.{columns_of, request_of, Builder, HasArity, HasRoom, HasOneMore, IsFilled}
use Rattle.mysql_bulk_builder.specs.Builder.{most_rows, request_size, rows_with, with_row}

pub length_rows : (count arity : ℕ) (values : List Value) → length (rows_from count arity values) ≡ count
length_rows zero arity values = refl
length_rows (suc count) arity values = omega (arith, length_rows count arity (drop arity values))

empty : (values : List Value) → length values ≡ 0 → values ≡ []
empty [] e = refl
empty (v ∷ values) e = absurd (omega (arith, e))

zero-mul : (n : ℕ) → 0 * n ≡ 0
zero-mul n = omega arith

-- one more row behind the others
pub rows_more : (count arity : ℕ) (values row : List Value) → length values ≡ count * arity →
    length row ≡ arity → rows_from (suc count) arity (values ++ row) ≡
    rows_from count arity values ++ row ∷ []
rows_more zero arity values row len is =
    let none : values ≡ [] = empty values (omega (arith, len)) in
    let whole : take arity row ≡ row = take_all arity row (omega (arith, is)) in
    ap (λ (vs : List Value). rows_from 1 arity (vs ++ row)) none ∙
    ap (λ (r : Row). let rs : List Row = r ∷ [] in rs) whole
rows_more (suc count) arity values row len is =
    let grown : suc count * arity ≡ arity + count * arity = omega (arith, suc-mul count arity) in
    let le : arity ≤ length values = omega (arith, len, grown) in
    let rest : length (drop arity values) ≡ count * arity = omega (arith, length-drop arity values, len, grown) in
    let front = take-append-le arity values row le in
    let back = drop-append-le arity values row le in
    ap (λ (r : Row). r ∷ rows_from (suc count) arity (drop arity (values ++ row))) front ∙
    ap (λ (vs : List Value). take arity values ∷ rows_from (suc count) arity vs) back ∙
    ap (λ (rs : List Row). take arity values ∷ rs) (rows_more count arity (drop arity values) row rest is)

pub all_push : {X : Type 0} (P : X → Type 0) (xs : List X) (x : X) → AllByRecursion P xs → P x →
    AllByRecursion P (xs ++ x ∷ [])
all_push P [] x h p = (p, tt)
all_push P (y ∷ xs) x h p = (h.0, all_push P xs x h.1 p)

pub has_beside : (builder : Builder) (row : Row) (held count n : ℕ) → held ≡
    sum_by row_size builder.rows → count ≡ length builder.rows → count < most_rows →
    n ≡ row_size row → 7 + (if builder.typed then 2 * length row else 0) + held + n ≤ builder.room →
    HasOneMore builder row (Some (held + n, count + 1))
has_beside builder row held count n is len few size has = (
  omega (arith, sum_by_push row_size builder.rows row, is, size),
  omega (arith, len),
  (omega (arith, len, few), omega (arith, sum_by_push row_size builder.rows row, is, size, has)),
)

-- what a builder's fields have to keep
pub record IsKept (builder : Builder) (bytes count : ℕ) (values : List Value) : Type 0 where
  pub rows : builder.rows ≡ rows_from count (unwrap_or builder.arity 0) values
  pub len : length values ≡ count * unwrap_or builder.arity 0
  pub held : bytes ≡ sum_by row_size builder.rows
  pub filled : IsFilled builder

-- the flat list with one more row
pub rows_with_more : (builder : Builder) (held count : ℕ) (values row : List Value) →
    IsKept builder held count values → HasArity builder row →
    rows_from (suc count) (length row) (values ++ row) ≡ rows_with builder row
rows_with_more builder held count values row k has = by builder.arity k.rows k.len k.filled has
  where
    by : (arity : Option ℕ) → builder.rows ≡ rows_from count (unwrap_or arity 0) values →
        length values ≡ count * unwrap_or arity 0 →
        MatchOption arity (builder.rows ≡
        []) (λ n. AllByRecursion (λ row. length row ≡ n) builder.rows ×
        (builder.rows ≢ [] → request_size builder.typed n builder.rows ≤ builder.room)) →
        MatchOption arity (Unit {0}) (λ n. length row ≡ n) →
        rows_from (suc count) (length row) (values ++ row) ≡ builder.rows ++ row ∷ []
    by None rows len none has =
        let first : count ≡ 0 = omega (arith, length_rows count 0 values, ap length (sym rows ∙ none)) in
        let same : rows_from (suc count) (length row) (values ++ row) ≡
        rows_from 1 (length row) (values ++ row) =
        ap (λ (n : ℕ). rows_from (suc n) (length row) (values ++ row)) first in
        same ∙ rows_more 0 (length row) values row (omega (arith, len)) refl ∙
        ap (λ (rs : List Row). rs ++ row ∷ []) (sym none)
    by (Some n) rows len filled has =
        let same : rows_from (suc count) (length row) (values ++ row) ≡
        rows_from (suc count) n (values ++ row) =
        ap (λ (m : ℕ). rows_from (suc count) m (values ++ row)) has in
        same ∙ rows_more count n values row len has ∙ ap (λ (rs : List Row). rs ++ row ∷ []) (sym rows)

-- the fields with one more row
pub kept_more : (builder : Builder) (held count more : ℕ) (values row : List Value) →
    IsKept builder held count values → HasArity builder row → HasRoom builder row → more ≡
    sum_by row_size (rows_with builder row) →
    IsKept (with_row builder row) more (suc count) (values ++ row)
kept_more builder held count more values row k has room is = record {
  rows = sym (rows_with_more builder held count values row k has);
  len =
      let grown : suc count * length row ≡ length row + count * length row =
      omega (arith, suc-mul count (length row)) in
      let same : length values ≡ count * length row = flat_len builder.arity k.rows k.len k.filled has in
      omega (arith, length-append values row, grown, same);
  held = is;
  filled = (
    all_push (λ r. length r ≡ length row) builder.rows row
        (one_arity builder.arity k.filled has) refl,
    λ _. room.1,
  );
}
  where
    flat_len : (arity : Option ℕ) → builder.rows ≡ rows_from count (unwrap_or arity 0) values →
        length values ≡ count * unwrap_or arity 0 →
        MatchOption arity (builder.rows ≡
        []) (λ n. AllByRecursion (λ row. length row ≡ n) builder.rows ×
        (builder.rows ≢ [] → request_size builder.typed n builder.rows ≤ builder.room)) →
        MatchOption arity (Unit {0}) (λ n. length row ≡ n) → length values ≡ count * length row
    flat_len None rows len none has =
        let first : count ≡ 0 = omega (arith, length_rows count 0 values, ap length (sym rows ∙ none)) in
        let none_in : count * length row ≡ 0 = ap (λ (n : ℕ). n * length row) first ∙ zero-mul (length row) in
        let none_at : count * 0 ≡ 0 = omega arith in
        len ∙ none_at ∙ sym none_in
    flat_len (Some n) rows len filled has = len ∙ ap (λ (m : ℕ). count * m) (sym has)

    one_arity : (arity : Option ℕ) →
        MatchOption arity (builder.rows ≡
        []) (λ n. AllByRecursion (λ row. length row ≡ n) builder.rows ×
        (builder.rows ≢ [] → request_size builder.typed n builder.rows ≤ builder.room)) →
        MatchOption arity (Unit {0}) (λ n. length row ≡ n) → AllByRecursion (λ r. length r ≡ length row) builder.rows
    one_arity None none has = subst (λ rs. AllByRecursion (λ r. length r ≡ length row) rs) (sym none) tt
    one_arity (Some n) filled has = subst (λ m. AllByRecursion (λ r. length r ≡ m) builder.rows) (sym has) filled.0

-- values as they are sent, and back
values_sent : (row : List Value) → values_in (map param_value_of row) ≡ row
values_sent [] = refl
values_sent (value ∷ row) = ap (λ (vs : List Value). value ∷ vs) (values_sent row)

values_more : (held : List StmtBulkExecuteParamValue) (row : List Value) →
    values_in (held ++ map param_value_of row) ≡ values_in held ++ row
values_more held row = map-append (λ (v : StmtBulkExecuteParamValue). v.value) held
    (map param_value_of row) ∙ ap (λ (vs : List Value). values_in held ++ vs) (values_sent row)

sent_more : (held : List StmtBulkExecuteParamValue) (row : List Value) → held ≡
    map param_value_of (values_in held) → held ++ map param_value_of row ≡
    map param_value_of (values_in (held ++ map param_value_of row))
sent_more held row sent =
    ap (λ (vs : List StmtBulkExecuteParamValue). vs ++ map param_value_of row) sent ∙
    sym (map-append param_value_of (values_in held) row) ∙
    sym (ap (map param_value_of) (values_more held row))

-- a builder whose list has one more row
pub closed : (old : Inside) (row : Row) (columns held count : ℕ)
    (values : Vec StmtBulkExecuteParamValue Global) → IsBuilder old →
    HasArity (builder_of old) row → HasRoom (builder_of old) row →
    held ≡ sum_by row_size (rows_with (builder_of old) row) → count ≡
    length (rows_from old.count (unwrap_or old.arity 0) (values_in old.values.items)) + 1 →
    columns ≡ length row → values.items ≡ old.values.items ++ map param_value_of row →
    IsBuilder (record old { arity = Some columns; held = held; count = count; values = values }) ×
    (builder_of (record old {
      arity = Some columns;
      held = held;
      count = count;
      values =
          values;
    }) ≡ with_row (builder_of old) row)
closed old row columns held count values is has room bytes counted cols items =
    let b = builder_of old in
    let vs : values_in values.items ≡ values_in old.values.items ++ row = ap values_in items ∙
    values_more old.values.items row in
    let k0 : IsKept (builder_of old) old.held old.count (values_in old.values.items) =
    record { rows = refl; len = is.len; held = is.bytes; filled = is.filled } in
    let k = kept_more (builder_of old) old.held old.count held (values_in old.values.items) row k0 has room bytes in
    let n : count ≡ suc old.count =
    omega (
      arith,
      counted,
      length_rows old.count (unwrap_or old.arity 0)
          (values_in old.values.items),
    ) in
    let rows : rows_from count columns (values_in values.items) ≡ rows_with (builder_of old) row =
    ap (λ (m : ℕ). rows_from m columns (values_in values.items)) n ∙
    ap (λ (m : ℕ). rows_from (suc old.count) m (values_in values.items)) cols ∙
    ap (λ (vs : List Value). rows_from (suc old.count) (length row) vs) vs ∙ sym k.rows in (
      record {
        len = ap length vs ∙ k.len ∙ sym (ap (λ (m : ℕ). m * length row) n) ∙ sym (ap (λ (m : ℕ). count * m) cols);
        sent = items ∙ sent_more old.values.items row is.sent ∙
            sym (ap (λ (xs : List StmtBulkExecuteParamValue). map param_value_of (values_in xs))
            items);
        bytes = bytes ∙ sym (ap (sum_by row_size) rows);
        filled =
            subst (λ rs. IsFilled (record (builder_of old) { arity = Some columns; rows = rs })) (sym rows)
            (subst (λ m. IsFilled (record (builder_of old) {
              arity = Some m;
              rows =
                  rows_with (builder_of old) row;
            })) (sym cols) k.filled);
      },
      ap (λ (m : ℕ). let r : Builder =
          record (builder_of old) {
            arity = Some m;
            rows =
                rows_from count columns (values_in values.items);
          } in r) cols ∙
          ap (λ (rs : List Row). let r : Builder =
          record (builder_of old) { arity = Some (length row); rows = rs } in r) rows,
    )

-- all values of rows in one list are the list
all_values_are : (count arity : ℕ) (values : List Value) → length values ≡ count * arity →
    all_values (rows_from count arity values) ≡ values
all_values_are zero arity values len = sym (empty values (omega (arith, len)))
all_values_are (suc count) arity values len =
    let grown : suc count * arity ≡ arity + count * arity = omega (arith, suc-mul count arity) in
    let rest : length (drop arity values) ≡ count * arity = omega (arith, length-drop arity values, len, grown) in
    ap (λ (vs : List Value). take arity values ++
    vs) (all_values_are count arity (drop arity values) rest) ∙ take-append-drop arity values

columns_are : (count arity : ℕ) (values : List Value) → length values ≡ count * arity → 0 < count →
    columns_of (rows_from count arity values) ≡ arity
columns_are zero arity values len pos = absurd (omega (arith, pos))
columns_are (suc count) arity values len pos =
    let grown : suc count * arity ≡ arity + count * arity = omega (arith, suc-mul count arity) in
    length-take-le arity values (omega (arith, len, grown))

sends_is : (results typed : Bool) → sends_types (bulk_flags results typed) ≡ typed
sends_is false false = refl
sends_is false true = refl
sends_is true false = refl
sends_is true true = refl

-- the request of a builder's list
pub execution_is : (b : Inside) (flags arity : ℕ) → IsBuilder b → 0 < b.count → flags ≡
    bulk_flags b.with_results b.with_types → arity ≡ unwrap_or b.arity 0 →
    (let e : BulkExecution = record {
      stmt_id = b.stmt_id;
      flags = flags;
      types =
          if sends_types flags then column_types_of arity b.count (values_in b.values.items) else [];
      values = b.values.items;
    } in e) ≡ execution_of (request_of (builder_of b))
execution_is b flags arity is pos e by_arity =
    let vs = values_in b.values.items in
    let rows = rows_from b.count (unwrap_or b.arity 0) (values_in b.values.items) in
    let whole : all_values (rows_from b.count (unwrap_or b.arity 0) (values_in b.values.items)) ≡
    values_in b.values.items =
    all_values_are b.count (unwrap_or b.arity 0) (values_in b.values.items) is.len in
    let cols = columns_are b.count (unwrap_or b.arity 0) (values_in b.values.items) is.len pos in
    let len = length_rows b.count (unwrap_or b.arity 0) (values_in b.values.items) in
    let sends : sends_types flags ≡ b.with_types = ap sends_types e ∙ sends_is b.with_results b.with_types in
    let types : column_types_of (unwrap_or b.arity 0) b.count (values_in b.values.items) ≡
    column_types_of (columns_of rows) (length rows) (all_values rows) =
    ap (λ (a : ℕ). column_types_of a b.count (values_in b.values.items)) (sym cols) ∙
    ap (λ (n : ℕ). column_types_of (columns_of rows) n (values_in b.values.items)) (sym len) ∙
    ap (λ (xs : List Value). column_types_of (columns_of rows) (length rows) xs) (sym whole) in
    ap (λ (a : ℕ). let x : BulkExecution =
    record {
      stmt_id = b.stmt_id;
      flags = flags;
      types =
          if sends_types flags then column_types_of a b.count (values_in b.values.items) else [];
      values = b.values.items;
    } in x) by_arity ∙
    ap (λ (n : ℕ). let x : BulkExecution =
    record {
      stmt_id = b.stmt_id;
      flags = n;
      types =
          if sends_types flags then column_types_of (unwrap_or b.arity 0) b.count
          (values_in b.values.items) else [];
      values = b.values.items;
    } in x) e ∙
    ap (λ (t : Bool). let x : BulkExecution =
    record {
      stmt_id = b.stmt_id;
      flags = bulk_flags b.with_results b.with_types;
      types =
          if t then column_types_of (unwrap_or b.arity 0) b.count (values_in b.values.items) else [];
      values = b.values.items;
    } in x) sends ∙
    ap (λ (ts : List StmtBulkExecuteParamType). let x : BulkExecution =
    record {
      stmt_id = b.stmt_id;
      flags = bulk_flags b.with_results b.with_types;
      types =
          if b.with_types then ts else [];
      values = b.values.items;
    } in x) types ∙
    ap (λ (ps : List StmtBulkExecuteParamValue). let x : BulkExecution =
    record {
      stmt_id = b.stmt_id;
      flags = bulk_flags b.with_results b.with_types;
      types =
          if b.with_types then column_types_of (columns_of rows) (length rows) (all_values rows) else
          [];
      values = ps;
    } in x) (is.sent ∙ sym (ap (map param_value_of) whole))

-- the values held are the list
values_held_are : (b : Inside) → IsBuilder b → values_held (builder_of b) ≡ b.values.items
values_held_are b is = ap (map param_value_of)
    (all_values_are b.count (unwrap_or b.arity 0) (values_in b.values.items) is.len) ∙ sym is.sent

-- builders are equal by their fields and these lists, which are their values
pub same_by_fields : (same_value : StmtBulkExecuteParamValue → StmtBulkExecuteParamValue →
    Bool) (a b : Inside) (xs ys : List StmtBulkExecuteParamValue) → IsBuilder a → IsBuilder b →
    xs ≡ a.values.items → ys ≡ b.values.items →
    same_builder same_value (builder_of a) (builder_of b) ≡
    (((((((nat_eq a.stmt_id b.stmt_id && nat_eq a.room b.room) &&
    beq a.with_results b.with_results) && beq a.with_types b.with_types) &&
    option_eq nat_eq a.arity b.arity) && nat_eq a.count b.count) &&
    pointwise (pointwise nat_eq) (names_given (option_copied a.named_params))
    (names_given (option_copied b.named_params))) &&
    pointwise same_value xs ys)
same_by_fields same_value a b xs ys is_a is_b xs_are ys_are =
    let rows_a = length_rows a.count (unwrap_or a.arity 0) (values_in a.values.items) in
    let rows_b = length_rows b.count (unwrap_or b.arity 0) (values_in b.values.items) in
    let values_a : values_held (builder_of a) ≡ xs = values_held_are a is_a ∙ sym xs_are in
    let values_b : values_held (builder_of b) ≡ ys = values_held_are b is_b ∙ sym ys_are in
    λ i.
    (((((((nat_eq a.stmt_id b.stmt_id && nat_eq a.room b.room) &&
    beq a.with_results b.with_results) && beq a.with_types b.with_types) &&
    option_eq nat_eq a.arity b.arity) && nat_eq (rows_a i) (rows_b i)) &&
    pointwise (pointwise nat_eq) (names_given (option_copied a.named_params))
    (names_given (option_copied b.named_params))) &&
    pointwise same_value (values_a i) (values_b i))
