-- Rows under their columns, step by step.
use Rattle.std.proofs.Common.{◌≡◌, ℕ, ◌+◌, ◌==◌, Bool, true, false, if◌then◌else◌, List, [], ◌∷◌, ◌++◌, length, map}
use Rattle.std.proofs.Common.{Option, Some, None, option_map, refl}
use Rattle.std.proofs.lemmas.Bool.{eqb-true}
use Rattle.mysql_columns.specs.Columns.{ColumnDefinition}
use Rattle.mysql_rows.specs.Rows.{Row}
use Rattle.mysql_reply_events.specs.declared.context.Context.{Context}
use Rattle.mysql_reply_events.specs.Readings.{is_binary}
use Rattle.mysql_replies.specs.Manual.{AreRows, IsRow}
use Rattle.mysql_reply_writer.specs.declared.refusal.ReplyRefusal.TheVariants.{CellCount, NoForm}
use Rattle.mysql_reply_writer.specs.Fits.{CellsFit, StepsFit}
use Rattle.mysql_reply_writer.specs.Refusals.{OpenRows, Writing, after_steps, cells_cause, form_cause, row_number}
use Rattle.mysql_reply_writer.specs.Refusals.{steps_cause}
use Rattle.mysql_reply_writer.specs.Written.{RowStep, Step, cells_payload, row_read, steps_payloads}
use Rattle.mysql_reply_writer.proofs.Causes.{allowed, neither}

-- a row that has a cell for each column, and a form for each cell, is read back
abbrev pub RowsReadBack : Type 0
RowsReadBack = (c : Context) (columns : List ColumnDefinition) (row : Row) → length row.cells ≡ length columns →
    form_cause (is_binary c.kind) columns row.cells ≡ None → CellsFit row.cells →
    IsRow c columns (cells_payload (is_binary c.kind) columns row.cells) (row_read c columns row)

-- a writing with these rows open
abbrev pub going : Writing → OpenRows → ℕ → Writing
going w open_rows n = record {
  context = w.context;
  limit = w.limit;
  payloads = n;
  results =
      w.results;
  rows = Some open_rows;
  over = w.over;
}

cells_none : (b : Bool) (form : Option ℕ) (result row : ℕ) →
    (if b then option_map (λ place. NoForm result row place) form else Some
    (CellCount result row)) ≡ None
    → (b ≡ true) × (form ≡ None)
cells_none true (Some place) result row h = absurd cc
cells_none true None result row h = (refl, refl)
cells_none false form result row h = absurd cc

pub row_is_read : RowsReadBack → (w : Writing) (columns : List ColumnDefinition) (row : Row) →
    CellsFit row.cells → cells_cause w columns row.cells ≡ None
    → IsRow w.context columns (cells_payload (is_binary w.context.kind) columns row.cells)
    (row_read w.context columns row)
row_is_read back w columns row fit h =
    let r = cells_none (length row.cells == length columns)
    (form_cause (is_binary w.context.kind) columns row.cells) w.results (row_number w.rows) h in
    back w.context columns row (eqb-true (length row.cells) (length columns) r.0) r.1 fit

-- nothing speaks against some rows: they are rows, and what follows them goes on from where they end
pub record RowsDone (w : Writing) (columns : List ColumnDefinition) (rows : List Row)
    (rest : List Step) (open_rows : OpenRows) (n : ℕ) : Type 0 where
  pub are_rows : AreRows w.context columns (steps_payloads w.context (map (RowStep columns) rows))
      (map (row_read w.context columns) rows)
  pub later : OpenRows
  pub count : ℕ
  pub allowed : steps_cause (going w later count) rest ≡ None
  pub so_far : after_steps (going w open_rows n) (map (RowStep columns) rows ++ rest) ≡
      after_steps (going w later count) rest

pub rows_done : RowsReadBack →
    (w : Writing) (columns : List ColumnDefinition) (rows : List Row) (rest : List Step)
    (open_rows : OpenRows) (n : ℕ)
    → StepsFit (map (RowStep columns) rows) →
    steps_cause (going w open_rows n) (map (RowStep columns) rows ++ rest) ≡ None
    → RowsDone w columns rows rest open_rows n
rows_done back w columns [] rest open_rows n fit h =
    record { are_rows = tt; later = open_rows; count = n; allowed = h; so_far = refl }
rows_done back w columns (row ∷ rows) rest open_rows n fit h =
    let a = allowed (going w open_rows n) (RowStep columns row) (map (RowStep columns) rows ++ rest) h in
    let p = neither _ _ a.checks in
    let q = neither _ _ p.1 in
    let later = rows_done back w columns rows rest
    (record { columns = open_rows.columns; count = open_rows.count + 1 }) (n + 1) fit.1
    a.rest in
    record {
      are_rows = (row_is_read back (going w open_rows n) columns row fit.0 q.0, later.are_rows);
      later = later.later;
      count = later.count;
      allowed = later.allowed;
      so_far = later.so_far;
    }
