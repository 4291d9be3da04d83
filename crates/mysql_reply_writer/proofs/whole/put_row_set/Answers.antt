use Rattle.std.proofs.Common.{List, [], ◌∷◌, ◌++◌, map, option_map, subst}
use Rattle.std.proofs.lemmas.Result.{err_from_is_err_and}
use Rattle.mysql_columns.specs.Columns.{ColumnDefinition}
use Rattle.mysql_ok_packets.specs.Views.{ok_packet_view}
use Rattle.mysql_replies.specs.Views.{row_views}
use Rattle.mysql_rows.specs.Views.{shared_columns}
use Rattle.mysql_reply_writer.specs.Written.{ColumnsStep, RowStep, end_steps}
use Rattle.mysql_reply_writer.specs.Writer.{Refuses, Wrote}
use Rattle.mysql_reply_writer.proofs.Answers.{on_err, on_ok}
use Rattle.mysql_reply_writer.proofs.Joined.{kept_on}
use Rattle.mysql_reply_writer.proofs.OpenColumns.{begun_columns}
use Rattle.mysql_reply_writer.proofs.Steps.{first_refused, front_written, later_refused, two_written}
use Rattle.mysql_reply_writer.proofs.whole.put_row_set.Goals as goal

pub returns-in_err-put_rows-clause-err : goal.returns-in_err-put_rows-clause-err
returns-in_err-put_rows-clause-err c =
    let columns = shared_columns c.args.columns.now in
    let rows = row_views c.args.rows.now in
    let end = end_steps c.args.more (option_map ok_packet_view c.args.terminator.now) in
    let same = begun_columns c.args.writer.now c.columns.new.self columns c.args.out.now.items
    c.columns.new.out.items c.in_ok-columns.ensures.ok in
    let p = err_from_is_err_and c.from_residual-in_err-put_rows.result c.from_residual-in_err-put_rows.ensures.1 in
    rw (p.1, p.2) (later_refused c.args.writer.now c.columns.new.self (ColumnsStep columns ∷
    []) (map (RowStep columns) rows ++ end) c.args.out.now.items c.columns.new.out.items
    c.in_err-put_rows.field-0.0 c.in_ok-columns.ensures.ok
    (first_refused c.columns.new.self (map (RowStep columns) rows) end c.in_err-put_rows.field-0.0
    (subst (λ (l : List ColumnDefinition). Refuses c.columns.new.self (map (RowStep l) rows)
    c.in_err-put_rows.field-0.0) same c.in_err-put_rows.ensures.err)))

pub returns-in_err-put_rows-clause-kept : goal.returns-in_err-put_rows-clause-kept
returns-in_err-put_rows-clause-kept c =
    kept_on c.args.out.now.items c.columns.new.out.items c.put_rows.new.out.items
    (front_written c.args.writer.now c.columns.new.self
    (ColumnsStep (shared_columns c.args.columns.now) ∷ []) c.args.out.now.items
    c.columns.new.out.items c.in_ok-columns.ensures.ok) c.put_rows.ensures.kept

pub returns-clause-ok : goal.returns-clause-ok
returns-clause-ok c =
    let columns = shared_columns c.args.columns.now in
    let rows = row_views c.args.rows.now in
    let end = end_steps c.args.more (option_map ok_packet_view c.args.terminator.now) in
    let same = begun_columns c.args.writer.now c.columns.new.self columns c.args.out.now.items
    c.columns.new.out.items c.in_ok-columns.ensures.ok in
    let second = subst (λ (l : List ColumnDefinition). Wrote c.columns.new.self
    (map (RowStep l) rows) c.put_rows.new.writer c.columns.new.out.items
    c.put_rows.new.out.items) same c.in_ok-put_rows.ensures.ok in
    on_ok c.put_end.result
    (λ third. two_written c.args.writer.now c.columns.new.self c.put_end.new.writer
    (ColumnsStep columns ∷ []) (map (RowStep columns) rows ++ end) c.args.out.now.items
    c.columns.new.out.items c.put_end.new.out.items c.in_ok-columns.ensures.ok
    (two_written c.columns.new.self c.put_rows.new.writer c.put_end.new.writer
    (map (RowStep columns) rows) end c.columns.new.out.items c.put_rows.new.out.items
    c.put_end.new.out.items second third))
    c.put_end.ensures.ok

pub returns-clause-err : goal.returns-clause-err
returns-clause-err c =
    let columns = shared_columns c.args.columns.now in
    let rows = row_views c.args.rows.now in
    let end = end_steps c.args.more (option_map ok_packet_view c.args.terminator.now) in
    let same = begun_columns c.args.writer.now c.columns.new.self columns c.args.out.now.items
    c.columns.new.out.items c.in_ok-columns.ensures.ok in
    let second = subst (λ (l : List ColumnDefinition). Wrote c.columns.new.self
    (map (RowStep l) rows) c.put_rows.new.writer c.columns.new.out.items
    c.put_rows.new.out.items) same c.in_ok-put_rows.ensures.ok in
    on_err c.put_end.result
    (λ e refuses. later_refused c.args.writer.now c.columns.new.self (ColumnsStep columns ∷
    []) (map (RowStep columns) rows ++ end) c.args.out.now.items c.columns.new.out.items e
    c.in_ok-columns.ensures.ok
    (later_refused c.columns.new.self c.put_rows.new.writer (map (RowStep columns) rows) end
    c.columns.new.out.items c.put_rows.new.out.items e second refuses))
    c.put_end.ensures.err

pub returns-clause-kept : goal.returns-clause-kept
returns-clause-kept c =
    kept_on c.args.out.now.items c.columns.new.out.items c.put_end.new.out.items
    (front_written c.args.writer.now c.columns.new.self
    (ColumnsStep (shared_columns c.args.columns.now) ∷ []) c.args.out.now.items
    c.columns.new.out.items c.in_ok-columns.ensures.ok)
    (kept_on c.columns.new.out.items c.put_rows.new.out.items c.put_end.new.out.items
    c.put_rows.ensures.kept c.put_end.ensures.kept)
