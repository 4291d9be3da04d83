use Rattle.std.proofs.Common.{List, [], ◌∷◌, map, refl, subst, ◌∙◌, arith}
use Rattle.std.proofs.lemmas.Result.{err_from_is_err_and}
use Rattle.mysql_columns.specs.Columns.{ColumnDefinition}
use Rattle.mysql_replies.specs.Views.{row_views}
use Rattle.mysql_rows.specs.Views.{row_view}
use Rattle.mysql_reply_writer.specs.Written.{RowStep}
use Rattle.mysql_reply_writer.specs.Writer.{Refuses, Wrote, columns_of}
use Rattle.mysql_reply_writer.proofs.Items.{next_item}
use Rattle.mysql_reply_writer.proofs.ItemsWritten.{all_items, item_refused, item_written}
use Rattle.mysql_reply_writer.proofs.OpenColumns.{row_columns}
use Rattle.mysql_reply_writer.proofs.Steps.{none_written}
use Rattle.mysql_reply_writer.proofs.whole.put_rows.Goals as goal

pub rows-init : goal.rows-init
rows-init c = (
  refl,
  none_written c.args.writer.now
      (map (RowStep (columns_of c.args.writer.now.so_far.rows)) (row_views c.args.rows.now))
      c.args.out.now.items,
)

pub rows-preserved : goal.rows-preserved
rows-preserved c =
    let columns = columns_of c.args.writer.now.so_far.rows in (
      row_columns c.rows.writer c.row.new.self (columns_of c.rows.writer.so_far.rows)
          (row_view c.row-item.result) c.rows.out.items c.row.new.out.items c.in_ok-row.ensures.ok ∙
          c.rows.invariant.0,
      item_written (λ l. map (RowStep columns) (row_views l)) c.args.writer.now c.rows.writer
          c.args.rows.now c.rows.row-index c.args.out.now.items c.rows.out.items c.rows.invariant.1
          c.row-item.result (next_item c.args.rows.now c.rows.row-index c.row-item.result
          c.rows-test.true c.row-item.is) (RowStep columns (row_view c.row-item.result) ∷
          []) refl
          c.row.new.self c.row.new.out.items
          (subst (λ (l : List ColumnDefinition). Wrote c.rows.writer
          (RowStep l (row_view c.row-item.result) ∷ []) c.row.new.self c.rows.out.items
          c.row.new.out.items) c.rows.invariant.0 c.in_ok-row.ensures.ok),
    )

pub returns-in_err-row-clause-err : goal.returns-in_err-row-clause-err
returns-in_err-row-clause-err c =
    let columns = columns_of c.args.writer.now.so_far.rows in
    let p = err_from_is_err_and c.from_residual.result c.from_residual.ensures.1 in
    rw (p.1, p.2) (item_refused (λ l. map (RowStep columns) (row_views l)) c.args.writer.now
    c.rows.writer c.args.rows.now c.rows.row-index c.args.out.now.items c.rows.out.items
    c.rows.invariant.1
    c.row-item.result (next_item c.args.rows.now c.rows.row-index c.row-item.result c.rows-test.true
    c.row-item.is) (RowStep columns (row_view c.row-item.result) ∷ []) refl
    c.in_err-row.field-0.0
    (subst (λ (l : List ColumnDefinition). Refuses c.rows.writer
    (RowStep l (row_view c.row-item.result) ∷ []) c.in_err-row.field-0.0) c.rows.invariant.0
    c.in_err-row.ensures.err))

pub returns-clause-ok : goal.returns-clause-ok
returns-clause-ok c =
    all_items (λ l. map (RowStep (columns_of c.args.writer.now.so_far.rows)) (row_views l))
    c.args.writer.now c.rows.writer c.args.rows.now c.rows.row-index c.args.out.now.items
    c.rows.out.items c.rows.invariant.1 (omega arith) refl
