-- Rows of a bulk that `receive` reads are those that the execution has.
use Rattle.std.proofs.Common.{◌≡◌, ℕ, zero, suc, ◌+◌, ◌<◌, ◌≤◌, Bool, true, false, List, [], ◌∷◌, length, Option, Some}
use Rattle.std.proofs.Common.{Ok, refl, ap, subst, ◌∙◌, arith}
use Rattle.std.specs.Prelude.{map, nat_le, nat_lt, ◌==◌, if◌then◌else◌, unwrap_or}
use Rattle.std.specs.Option.{option_map}
use Rattle.std.proofs.lemmas.Bool.{lt-ltb}
use Rattle.std.proofs.lemmas.Bool.Decides.{nat_tests}
use Rattle.mysql_buf.specs.Reading.{first, little_at}
use Rattle.mysql_executions.specs.Bulks.{bulk_value_at, rows_at, with_row}
use Rattle.mysql_executions.specs.Fields.{each_at}
use Rattle.mysql_executions.specs.declared.bulk.BulkValue.{BulkValue}
use Rattle.mysql_executions.specs.declared.bulk.BulkValue.TheVariants as bulk
use Rattle.mysql_executions.specs.declared.types.ParameterType.{ParameterType}
use Rattle.mysql_receive.specs.Fields.{◌>>◌, must, number_or}
use Rattle.mysql_receive.specs.Reading.{RowsAt, Set, column_at, columns_at, content_at, row_at as received_row_at}
use Rattle.mysql_receive.specs.declared.fault.StreamFault.{StreamFault}
use Rattle.mysql_receive.specs.declared.fault.StreamFault.TheVariants.{BadBulk, Indicator}
use Rattle.mysql_receive.proofs.Rows.{row_left}
use Rattle.mysql_values.specs.Content.{Content}
use Rattle.mysql_values.specs.Content.TheVariants as content
use Rattle.mysql_values.specs.Value.TheVariants.{NULL}
use Rattle.mysql_wire.specs.Wire.{◌>>=◌}
use Rattle.mysql_connection_recoding.specs.Agreement.{bulk_meant, numbered}
use Rattle.mysql_connection_recoding.proofs.Binds.{bind_ok, found_is, must_then, ok_is}
use Rattle.mysql_connection_recoding.proofs.Options.{some_then}
use Rattle.mysql_connection_recoding.proofs.Values.{content_is}

-- a content that was read is that of a parameter in a row
abbrev ColumnIs : ParameterType → List ℕ → Content × List ℕ → Type 0
ColumnIs t bytes p = (v : BulkValue) × (bulk_value_at t bytes ≡ Some (v, p.1)) × (bulk_meant v ≡ Some p.0)

null_column : (t : ParameterType) (bytes : List ℕ) (indicator : ℕ) (rest : List ℕ) →
    little_at 1 bytes ≡ Some (indicator, rest) → indicator ≡ 1 →
    ColumnIs t bytes (content.Null, rest)
unfolding bulk_value_at
null_column t bytes indicator rest here one =
    (bulk.Value NULL, some_then _ _ (1, rest) _ (here ∙ ap (λ n. Some (n, rest)) one) refl, refl)

some_column : (t : ParameterType) (bytes : List ℕ) (indicator : ℕ) (rest : List ℕ) (p : Content ×
    List ℕ) → little_at 1 bytes ≡ Some (indicator, rest) → indicator ≡ 0 →
    content_at BadBulk (numbered t) rest ≡ Ok p → ColumnIs t bytes p
unfolding bulk_value_at
some_column t bytes indicator rest p here none e =
    let v = content_is BadBulk t rest p e in (
      bulk.Value v.0,
      some_then _ _ (0, rest) _ (here ∙ ap (λ n. Some (n, rest)) none)
          (some_then _ _ (v.0, p.1) _ v.1 refl),
      v.2,
    )

column_by : (t : ParameterType) (bytes : List ℕ) (indicator : ℕ) (rest : List ℕ) (p : Content ×
    List ℕ) (null : Bool) → little_at 1 bytes ≡ Some (indicator, rest) → nat_le indicator 1 ≡ true →
    (indicator == 1) ≡ null
    → (if null then Ok (content.Null, rest) else content_at BadBulk (numbered t) rest) ≡ Ok p → ColumnIs t bytes p
column_by t bytes indicator rest p true here few is e =
    subst (ColumnIs t bytes) (ok_is {F = StreamFault} (content.Null, rest) p e)
    (null_column t bytes indicator rest here (grind (arith, nat_tests)))
column_by t bytes indicator rest p false here few is e =
    some_column t bytes indicator rest p here (grind (arith, nat_tests)) e

column_is : (t : ParameterType) (bytes : List ℕ) (p : Content × List ℕ) →
    column_at (numbered t) bytes ≡ Ok p → ColumnIs t bytes p
column_is t bytes p e =
    let held = λ (indicator : ℕ × List ℕ). if indicator.0 == 1 then Ok (
      content.Null,
      indicator.1,
    ) else content_at BadBulk (numbered t) indicator.1 in
    let a = bind_ok (number_or BadBulk 1 bytes)
    (λ indicator. must Indicator (nat_le indicator.0 1) >> held indicator) p e in
    let b = must_then Indicator (nat_le a.0.0 1) (held a.0) p a.2 in
    column_by t bytes a.0.0 a.0.1 p (a.0.0 == 1) (found_is (little_at 1 bytes) BadBulk a.0 a.1) b.0 refl b.1

-- a row that was read is that of parameters
abbrev ColumnsAre : ℕ → List ParameterType → List ℕ → Set × List ℕ → Type 0
ColumnsAre place types bytes p = (vs : List BulkValue) ×
    (each_at (λ at t b. bulk_value_at t b) place types bytes ≡ Some (vs, p.1)) ×
    (map bulk_meant vs ≡ map Some p.0)

columns_found : (place : ℕ) (t : ParameterType) (types : List ParameterType) (bytes : List ℕ)
    (first : Content × List ℕ) (others : Set × List ℕ) → ColumnIs t bytes first →
    ColumnsAre (place + 1) types first.1 others
    → ColumnsAre place (t ∷ types) bytes (first.0 ∷ others.0, others.1)
unfolding each_at
columns_found place t types bytes first others v vs = (
  v.0 ∷ vs.0,
  some_then _ _ (v.0, first.1) _ v.1 (some_then _ _ (vs.0, others.1) _ vs.1 refl),
  ap (λ c. c ∷ map bulk_meant vs.0) v.2 ∙ ap (λ cs. Some first.0 ∷ cs) vs.2,
)

columns_are : (place : ℕ) (types : List ParameterType) (bytes : List ℕ) (p : Set × List ℕ) →
    columns_at (map numbered types) bytes ≡ Ok p → ColumnsAre place types bytes p
unfolding columns_at each_at
columns_are place [] bytes p e =
    subst (ColumnsAre place [] bytes) (ok_is {F = StreamFault} ([], bytes) p e) ([], refl, refl)
columns_are place (t ∷ types) bytes p e =
    let a = bind_ok (column_at (numbered t) bytes)
    (λ first. columns_at (map numbered types) first.1 >>= λ others. Ok (
      first.0 ∷ others.0,
      others.1,
    )) p e in
    let b = bind_ok (columns_at (map numbered types) a.0.1) (λ others. Ok (a.0.0 ∷ others.0, others.1)) p a.2 in
    subst (ColumnsAre place (t ∷ types) bytes) (ok_is {F = StreamFault} (a.0.0 ∷ b.0.0, b.0.1) p b.2)
    (columns_found place t types bytes a.0 b.0 (column_is t bytes a.0 a.1)
    (columns_are (place + 1) types a.0.1 b.0 b.1))

row_is : (types : List ParameterType) (bytes : List ℕ) (p : Set × List ℕ) →
    received_row_at (map numbered types) bytes ≡ Ok p → ColumnsAre 0 types bytes p
row_is [] bytes p e = absurd cc
row_is (t ∷ types) bytes p e = columns_are 0 (t ∷ types) bytes p e

-- rows that were read to the end of the bytes are those of parameters
abbrev pub RowsAre : (most : ℕ) → List ParameterType → List ℕ → List Set → Type 0
RowsAre most types bytes sets = (rows : List (List BulkValue)) ×
    (rows_at most types bytes ≡ (rows, [])) ×
    (map (λ row. map bulk_meant row) rows ≡ map (λ set. map Some set) sets)

rows_found : (most : ℕ) (types : List ParameterType) (bytes : List ℕ) (first : Set ×
    List ℕ) (sets : List Set) → ColumnsAre 0 types bytes first → RowsAre most types first.1 sets →
    RowsAre (suc most) types bytes (first.0 ∷ sets)
unfolding rows_at
rows_found most types bytes first sets v vs = (
  v.0 ∷ vs.0,
  ap (λ (r : Option (List BulkValue × List ℕ)). unwrap_or
      (option_map (λ row. with_row row.0 (rows_at most types row.1)) r) ([], bytes)) v.1 ∙
      ap (with_row v.0) vs.1,
  ap (λ c. c ∷ map (λ row. map bulk_meant row) vs.0) v.2 ∙
      ap (λ (cs : List (List (Option Content))). map Some first.0 ∷ cs) vs.2,
)

no_rows : (most : ℕ) (types : List ParameterType) (bytes : List ℕ) → 0 < length types → bytes ≡ [] →
    RowsAre most types bytes []
unfolding rows_at each_at bulk_value_at first
no_rows most [] bytes some none = absurd (omega (arith, some))
no_rows zero (t ∷ types) [] some none = ([], refl, refl)
no_rows (suc most) (t ∷ types) [] some none = ([], refl, refl)
no_rows zero (t ∷ types) (byte ∷ bytes) some none = absurd cc
no_rows (suc most) (t ∷ types) (byte ∷ bytes) some none = absurd cc

pub rows_are : (most : ℕ) (types : List ParameterType) (bytes : List ℕ) (sets : List Set) →
    0 < length types → length bytes ≤ most → RowsAt (map numbered types) bytes sets [] →
    RowsAre most types bytes sets
rows_are most types bytes [] some few rows = no_rows most types bytes some rows
rows_are most types [] (set ∷ sets) some few rows =
    absurd (omega (arith, row_left (map numbered types) [] (set, rows.0) rows.1))
rows_are zero types (byte ∷ bytes) (set ∷ sets) some few rows = absurd (omega arith)
rows_are (suc most) types (byte ∷ bytes) (set ∷ sets) some few rows =
    rows_found most types (byte ∷ bytes) (set, rows.0) sets (row_is types (byte ∷ bytes) (set, rows.0) rows.1)
    (rows_are most types rows.0 sets some
    (omega (arith, row_left (map numbered types) (byte ∷ bytes) (set, rows.0) rows.1)) rows.2)

some_bytes : (bytes : List ℕ) → nat_lt 0 (length bytes) ≡ true → bytes ≡ [] → ⊥
some_bytes [] some none = cc
some_bytes (byte ∷ bytes) some none = cc

-- a row that was read has values, and where bytes stand there is a row
pub some_types : (types : List ParameterType) (bytes : List ℕ) (sets : List Set) →
    nat_lt 0 (length bytes) ≡ true → RowsAt (map numbered types) bytes sets [] → 0 < length types
some_types types bytes [] some rows = absurd (some_bytes bytes some rows)
some_types [] bytes (set ∷ sets) some rows = absurd (cc (rows.1))
some_types (t ∷ types) bytes (set ∷ sets) some rows = omega arith

pub some_rows : (types : List ParameterType) (bytes : List ℕ) (sets : List Set)
    (rows : List (List BulkValue)) → nat_lt 0 (length bytes) ≡ true →
    RowsAt (map numbered types) bytes sets []
    → map (λ row. map bulk_meant row) rows ≡ map (λ set. map Some set) sets → nat_lt 0 (length rows) ≡ true
some_rows types bytes [] rows some read same = absurd (some_bytes bytes some read)
some_rows types bytes (set ∷ sets) [] some read same = absurd cc
some_rows types bytes (set ∷ sets) (row ∷ rows) some read same = lt-ltb 0 (length (row ∷ rows)) (omega arith)
