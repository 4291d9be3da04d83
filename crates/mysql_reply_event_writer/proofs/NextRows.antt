-- A row behind another one is read as it, where its cells are read as themselves.
use Rattle.std.proofs.Common.{◌≡◌, ◌<◌, ◌+◌, if◌then◌else◌, ℕ, suc, Bool, true, false, List, [], ◌∷◌, ◌++◌, length, map}
use Rattle.std.proofs.Common.{Option, None, Some, Result, Ok, Err, refl, sym, ap, ◌∙◌, subst, arith, append-nil}
use Rattle.std.proofs.Common.{slice_get}
use Rattle.std.specs.Prelude.{is_none, zip}
use Rattle.std.specs.declared.alloc.AllocError.{AllocError}
use Rattle.std.specs.List.{AllByRecursion, position_from}
use Rattle.std.specs.Option.{option_and_then, option_flatten}
use Rattle.mysql_cells.specs.Values.{FitsFields}
use Rattle.mysql_cells.specs.declared.value.Value.{Value}
use Rattle.mysql_columns.specs.Columns.{ColumnDefinition}
use Rattle.mysql_row_refs.specs.Lines.{begins_with}
use Rattle.mysql_rows.specs.Rows.{Row, binary_resultset_row_at, text_row_at, whole_row}
use Rattle.mysql_rows.specs.Written.{as_text, binary_cause, binary_row, cell_in, text_cause, text_cell, text_row}
use Rattle.mysql_rows.specs.Written.{values_of}
use Rattle.mysql_rows.specs.WrittenLaws.{BinaryRowsReadBack, TextRowsBegin, TextRowsReadBack}
use Rattle.mysql_reply_events.specs.declared.context.Context.{Context}
use Rattle.mysql_reply_events.specs.Events.{Payload, ReplySoFar}
use Rattle.mysql_reply_events.specs.Events.Awaited.{Rows}
use Rattle.mysql_reply_events.specs.Events.Event.{RowEvent}
use Rattle.mysql_reply_events.specs.Readings.{begins_terminator, deprecate_eof, is_binary}
use Rattle.mysql_reply_events.specs.Table.{event_at}
use Rattle.mysql_reply_event_writer.proofs.ReadEvents.{BeginsRow, gave, no_report, row_payload, text_begins_row}
use Rattle.mysql_reply_event_writer.specs.NextRows.{IsReadAmongRows, WritesNextRow, under}
use Rattle.mysql_reply_event_writer.specs.OwnCells.{FitsCell, IsOwnText, WritesOwnCells, as_read}

-- CELLS

-- where each cell of a text row has a form none was taken
text_whole : (n : ℕ) (cells : List (Option Value)) →
    position_from (λ cell. is_none (option_and_then text_cell cell)) n cells ≡ None → cells ≡ map Some (values_of cells)
text_whole n [] h = refl
text_whole n (None ∷ cells) h = absurd cc
text_whole n (Some value ∷ cells) h = go (is_none (text_cell value)) (text_whole (n + 1) cells) h where
  go : (bad : Bool) →
      (position_from (λ cell. is_none (option_and_then text_cell cell)) (n + 1) cells ≡ None →
      cells ≡ map Some (values_of cells)) →
      (if bad then Some n else position_from (λ cell. is_none (option_and_then text_cell cell)) (n + 1) cells) ≡ None →
      Some value ∷ cells ≡ map Some (values_of (Some value ∷ cells))
  go true others e = absurd cc
  go false others e = ap (λ (rest : List (Option Value)). Some value ∷ rest) (others e)

binary_whole : (n : ℕ) (columns : List ColumnDefinition) (cells : List (Option Value)) → length columns ≡ length cells →
    position_from (λ placed. is_none (option_and_then (cell_in placed.0) placed.1)) n (zip columns cells) ≡ None →
    cells ≡ map Some (values_of cells)
binary_whole n [] [] same h = refl
binary_whole n [] (cell ∷ cells) same h = absurd (omega (arith, same))
binary_whole n (column ∷ columns) [] same h = absurd (omega (arith, same))
binary_whole n (column ∷ columns) (None ∷ cells) same h = absurd cc
binary_whole n (column ∷ columns) (Some value ∷ cells) same h =
    go (is_none (cell_in column value)) (binary_whole (n + 1) columns cells (omega (arith, same))) h where
      go : (bad : Bool) → (position_from
          (λ placed. is_none (option_and_then (cell_in placed.0) placed.1)) (n + 1)
          (zip columns cells) ≡
          None → cells ≡ map Some (values_of cells)) →
          (if bad then Some n else position_from (λ placed. is_none (option_and_then (cell_in placed.0) placed.1))
          (n + 1) (zip columns cells)) ≡ None → Some value ∷ cells ≡ map Some (values_of (Some value ∷ cells))
      go true others e = absurd cc
      go false others e = ap (λ (rest : List (Option Value)). Some value ∷ rest) (others e)

none_taken : (binary : Bool) (columns : List ColumnDefinition) (cells : List (Option Value)) →
    length columns ≡ length cells →
    (if binary then binary_cause columns cells else text_cause cells) ≡ None → cells ≡ map Some (values_of cells)
none_taken true columns cells same h = binary_whole 0 columns cells same h
none_taken false columns cells same h = text_whole 0 cells h

-- the value of the cell at each place fits its fields
abbrev AllFit : List (Option Value) → Type 0
AllFit cells = (place : ℕ) → place < length cells → FitsCell (option_flatten (slice_get cells place))

fitting_values : (cells : List (Option Value)) → AllFit cells →
    AllByRecursion (λ value. FitsFields value) (values_of cells)
fitting_values [] fit = tt
fitting_values (None ∷ cells) fit = fitting_values cells (λ place below. fit (suc place) (omega (arith, below)))
fitting_values (Some value ∷ cells) fit =
    let first : FitsCell (Some value) = fit 0 (omega arith) in
    (first, fitting_values cells (λ place below. fit (suc place) (omega (arith, below))))

-- that of a text row is read as itself
abbrev pub AllOwnTexts : List (Option Value) → Type 0
AllOwnTexts cells = (place : ℕ) → place < length cells → IsOwnText (option_flatten (slice_get cells place))

pub own_texts : (cells : List (Option Value)) → AllOwnTexts cells → map as_text (values_of cells) ≡ values_of cells
own_texts [] own = refl
own_texts (None ∷ cells) own = own_texts cells (λ place below. own (suc place) (omega (arith, below)))
own_texts (Some value ∷ cells) own =
    let first : IsOwnText (Some value) = own 0 (omega arith) in
    let others = own_texts cells (λ place below. own (suc place) (omega (arith, below))) in
    ap (λ (v : Value). v ∷ map as_text (values_of cells)) first ∙ ap (λ (vs : List Value). value ∷ vs) others

-- values that fit, each of which is read as itself
abbrev OwnValues : Bool → List Value → Type 0
OwnValues binary values = AllByRecursion (λ value. FitsFields value) values × (as_read binary values ≡ values)

-- READ AGAIN

-- the laws of rows that are written
pub record NextRowLaws : Type 0 where
  pub text_back : TextRowsReadBack
  pub text_begins : TextRowsBegin
  pub binary_back : BinaryRowsReadBack

abbrev bytes_of : Bool → List ColumnDefinition → List Value → List ℕ
bytes_of binary columns values = if binary then binary_row columns values else text_row values

begins_row : NextRowLaws → (binary : Bool) (columns : List ColumnDefinition) (values : List Value) →
    BeginsRow (bytes_of binary columns values)
begins_row laws true columns values = (refl, λ deprecated. refl)
begins_row laws false columns values = text_begins_row (text_row values) (laws.text_begins values)

read_values : NextRowLaws →
    (binary : Bool) (columns : List ColumnDefinition) (values : List Value) → length columns ≡
    length values →
    (if binary then binary_cause columns (map Some values) else text_cause (map Some values)) ≡
    None → OwnValues binary values →
    (if binary then binary_resultset_row_at columns (bytes_of binary columns values)
    else text_row_at columns (bytes_of binary columns values)) ≡ gave values []
read_values laws true columns values same none own =
    ap (binary_resultset_row_at columns) (sym (append-nil (binary_row columns values)))
    ∙ laws.binary_back columns values [] same own.0 none ∙ ap (λ (v : List Value). gave v []) own.1
read_values laws false columns values same none own =
    ap (text_row_at columns) (sym (append-nil (text_row values)))
    ∙ laws.text_back columns values [] same own.0 none ∙ ap (λ (v : List Value). gave v []) own.1

-- a reply among rows of these columns
abbrev among : List ColumnDefinition → ReplySoFar
among columns = record { awaited = Rows true; columns = Some columns }

row_step : (c : Context) (columns : List ColumnDefinition) (values : List Value) (payload : Payload) →
    begins_with 255 payload ≡ false → begins_terminator c payload ≡ false →
    (if is_binary c.kind then binary_resultset_row_at columns payload else text_row_at columns
    payload) ≡ gave values [] →
    event_at c (among columns) payload ≡ Ok (RowEvent (whole_row columns values), among columns)
row_step c columns values payload other going reads = rw (no_report c payload other, other, going, reads) refl

whole_read : NextRowLaws → (c : Context) (columns : List ColumnDefinition) (values : List Value) →
    length columns ≡ length values →
    (if is_binary c.kind then binary_cause columns (map Some values) else text_cause (map Some values)) ≡ None →
    OwnValues (is_binary c.kind) values →
    IsReadAmongRows c (whole_row columns values) (bytes_of (is_binary c.kind) columns values)
whole_read laws c columns values same none own so_far awaited known =
    let payload = bytes_of (is_binary c.kind) columns values in
    let begins = begins_row laws (is_binary c.kind) columns values in
    let reads = read_values laws (is_binary c.kind) columns values same none own in
    let step = row_step c columns values payload begins.0 (begins.1 (deprecate_eof c)) reads in
    let stands : among columns ≡ so_far = λ i. record { awaited = sym awaited i; columns = sym known i } in
    subst (λ (s : ReplySoFar). event_at c s payload ≡ Ok (RowEvent (whole_row columns values), s)) stands step

pub map_length : {A X : Type 0} (f : A → X) (xs : List A) → length (map f xs) ≡ length xs
map_length f [] = refl
map_length f (x ∷ xs) = ap (λ (n : ℕ). suc n) (map_length f xs)

-- a row of values that are read as themselves, as it was written
whole_written : NextRowLaws →
    (c : Context) (columns : List ColumnDefinition) (values : List Value) (before after : List ℕ) →
    length columns ≡ length values →
    (if is_binary c.kind then binary_cause columns (map Some values) else text_cause (map Some values)) ≡ None →
    OwnValues (is_binary c.kind) values → after ≡ before ++ bytes_of (is_binary c.kind) columns values →
    WritesNextRow c (whole_row columns values) (Ok true) before after
whole_written laws c columns values before after same none own appended = (
  bytes_of (is_binary c.kind) columns values,
  row_payload c columns values none,
  appended,
  whole_read laws c columns values same none own,
  same ∙ sym (map_length Some values),
)

cells_written : NextRowLaws →
    (c : Context) (columns : List ColumnDefinition) (cells : List (Option Value))
    (values : List Value)
    (before after : List ℕ) → cells ≡ map Some values → length columns ≡ length cells →
    (if is_binary c.kind then binary_cause columns cells else text_cause cells) ≡ None →
    OwnValues (is_binary c.kind) values →
    after ≡ before ++ bytes_of (is_binary c.kind) columns values →
    WritesNextRow c (record { columns = columns; cells = cells }) (Ok true) before after
cells_written laws c columns cells values before after whole =
    subst (λ (cells : List (Option Value)). length columns ≡ length cells →
    (if is_binary c.kind then binary_cause columns cells else text_cause cells) ≡ None →
    OwnValues (is_binary c.kind) values →
    after ≡ before ++ bytes_of (is_binary c.kind) columns values →
    WritesNextRow c (record { columns = columns; cells = cells }) (Ok true) before after) (sym whole)
    (λ same none own appended. whole_written laws c columns values before after (same ∙
    map_length Some values) none own appended)

next_row_written : NextRowLaws → (c : Context) (columns : List ColumnDefinition) (cells : List (Option Value))
    (before after : List ℕ) → length columns ≡ length cells → AllFit cells →
    WritesOwnCells (is_binary c.kind) (record { columns = columns; cells = cells }) (Ok true) before after →
    WritesNextRow c (record { columns = columns; cells = cells }) (Ok true) before after
next_row_written laws c columns cells before after same fit h =
    cells_written laws c columns cells (values_of cells) before after
    (none_taken (is_binary c.kind) columns cells same h.0)
    same h.0 (fitting_values cells fit, h.2) h.1

pub next_row_by : NextRowLaws →
    (c : Context) (binary : Bool) (columns : List ColumnDefinition) (r : Row)
    (result : Result Bool AllocError)
    (before after : List ℕ) → binary ≡ is_binary c.kind → length columns ≡ length r.cells → AllFit r.cells →
    WritesOwnCells binary (under columns r) result before after → WritesNextRow c (under columns r) result before after
next_row_by laws c binary columns r (Ok true) before after kind same fit h =
    next_row_written laws c columns r.cells before after same fit
    (subst (λ (b : Bool). WritesOwnCells b (under columns r) (Ok true) before after) kind h)
next_row_by laws c binary columns r (Ok false) before after kind same fit h = h
next_row_by laws c binary columns r (Err refused) before after kind same fit h = h
