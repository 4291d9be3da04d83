-- The columns of rows that go on, over steps of rows.
use Rattle.std.proofs.Common.{◌≡◌, ℕ, List, [], ◌∷◌, Option, Some, None, refl, ap, ◌∙◌}
use Rattle.mysql_columns.specs.Columns.{ColumnDefinition}
use Rattle.mysql_rows.specs.Rows.{Row}
use Rattle.mysql_reply_writer.specs.Refusals.{OpenRows, Writing, one_more}
use Rattle.mysql_reply_writer.specs.Written.{ColumnsStep, RowStep}
use Rattle.mysql_reply_writer.specs.Writer.{Writer, Wrote, columns_of}

one_more_columns : (rows : Option OpenRows) → columns_of (one_more rows) ≡ columns_of rows
one_more_columns None = refl
one_more_columns (Some rows) = refl

-- behind a row they are the same
pub row_columns : (old new : Writer) (columns : List ColumnDefinition) (row : Row)
    (before after : List ℕ) → Wrote old (RowStep columns row ∷ []) new before after
    → columns_of new.so_far.rows ≡ columns_of old.so_far.rows
row_columns old new columns row before after wrote =
    ap (λ (w : Writing). columns_of w.rows) wrote.so_far ∙ one_more_columns old.so_far.rows

-- behind columns they are these
pub begun_columns : (old new : Writer) (columns : List ColumnDefinition) (before after : List ℕ) →
    Wrote old (ColumnsStep columns ∷ []) new before after
    → columns_of new.so_far.rows ≡ columns
begun_columns old new columns before after wrote = ap (λ (w : Writing). columns_of w.rows) wrote.so_far
