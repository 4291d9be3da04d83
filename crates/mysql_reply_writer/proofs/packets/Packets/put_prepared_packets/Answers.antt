use Rattle.std.proofs.Common.{List, [], ◌∷◌, ◌++◌, ◌≡◌, length, subst, sym}
use Rattle.std.proofs.lemmas.List.{length-map}
use Rattle.std.proofs.lemmas.Result.{err_from_is_err_and}
use Rattle.mysql_columns.specs.Views.{column_view}
use Rattle.mysql_columns.specs.declared.column.Column.{Column}
use Rattle.mysql_server_packets.specs.Packets.{PrepareOk, prepare_ok}
use Rattle.mysql_server_packets.specs.Views.{prepare_ok_view}
use Rattle.mysql_replies.specs.Views.{column_views}
use Rattle.mysql_reply_writer.specs.Written.{columns_follow, counting, group_payloads}
use Rattle.mysql_reply_writer.specs.Puts.{Puts}
use Rattle.mysql_reply_writer.specs.Views.{place_view}
use Rattle.mysql_reply_writer.proofs.Answers.{on_err, on_ok}
use Rattle.mysql_reply_writer.proofs.Joined.{kept_on}
use Rattle.mysql_reply_writer.proofs.Putting.{first_refused, front_put, later_refused, two_put}
use Rattle.mysql_reply_writer.proofs.packets.Packets.put_prepared_packets.Goals as goal

-- the counts of the lists
same_counts : (s : PrepareOk) (parameters columns : List Column)
    → record s { num_params = length parameters; num_columns = length columns } ≡
    counting s (column_views parameters) (column_views columns)
same_counts s parameters columns =
    let p : length parameters ≡ length (column_views parameters) = sym (length-map parameters column_view) in
    let q : length columns ≡ length (column_views columns) = sym (length-map columns column_view) in
    cc

pub returns-in_err-put_group-clause-err : goal.returns-in_err-put_group-clause-err
returns-in_err-put_group-clause-err c =
    let s = counting (prepare_ok_view c.args.statement.now) (column_views c.args.parameters.now)
    (column_views c.args.columns.now) in
    let first = subst (λ (x : PrepareOk). Puts c.args.self.now.limit (place_view c.args.self.now)
    ((prepare_ok x ++ columns_follow c.args.context) ∷ []) (place_view c.put_statement.new.self)
    c.args.out.now.items c.put_statement.new.out.items)
    (same_counts (prepare_ok_view c.args.statement.now) c.args.parameters.now
    c.args.columns.now) c.in_ok-put_statement.ensures.ok in
    let p = err_from_is_err_and c.from_residual-in_err-put_group.result c.from_residual-in_err-put_group.ensures.1 in
    rw (p.1, p.2) (later_refused c.args.self.now.limit c.put_statement.new.self.limit
    (place_view c.args.self.now) (place_view c.put_statement.new.self)
    ((prepare_ok s ++ columns_follow c.args.context) ∷ [])
    (group_payloads c.args.context (column_views c.args.parameters.now) ++
    group_payloads c.args.context (column_views c.args.columns.now)) c.args.out.now.items
    c.put_statement.new.out.items c.in_err-put_group.field-0.0 c.put_statement.ensures.limit
    first
    (first_refused c.put_statement.new.self.limit (place_view c.put_statement.new.self)
    (group_payloads c.args.context (column_views c.args.parameters.now))
    (group_payloads c.args.context (column_views c.args.columns.now))
    c.in_err-put_group.field-0.0 c.in_err-put_group.ensures.err))

pub returns-in_err-put_group-clause-kept : goal.returns-in_err-put_group-clause-kept
returns-in_err-put_group-clause-kept c =
    kept_on c.args.out.now.items c.put_statement.new.out.items c.put_group.new.out.items
    (front_put _ _ _ _ _ _ c.in_ok-put_statement.ensures.ok) c.put_group.ensures.kept

pub returns-clause-ok : goal.returns-clause-ok
returns-clause-ok c =
    let s = counting (prepare_ok_view c.args.statement.now) (column_views c.args.parameters.now)
    (column_views c.args.columns.now) in
    let first = subst (λ (x : PrepareOk). Puts c.args.self.now.limit (place_view c.args.self.now)
    ((prepare_ok x ++ columns_follow c.args.context) ∷ []) (place_view c.put_statement.new.self)
    c.args.out.now.items c.put_statement.new.out.items)
    (same_counts (prepare_ok_view c.args.statement.now) c.args.parameters.now
    c.args.columns.now) c.in_ok-put_statement.ensures.ok in
    on_ok c.put_group-2.result
    (λ third. two_put c.args.self.now.limit c.put_statement.new.self.limit
    (place_view c.args.self.now) (place_view c.put_statement.new.self)
    (place_view c.put_group-2.new.self) ((prepare_ok s ++ columns_follow c.args.context) ∷ [])
    (group_payloads c.args.context (column_views c.args.parameters.now) ++
    group_payloads c.args.context (column_views c.args.columns.now)) c.args.out.now.items
    c.put_statement.new.out.items c.put_group-2.new.out.items c.put_statement.ensures.limit
    first
    (two_put c.put_statement.new.self.limit c.put_group.new.self.limit
    (place_view c.put_statement.new.self) (place_view c.put_group.new.self)
    (place_view c.put_group-2.new.self)
    (group_payloads c.args.context (column_views c.args.parameters.now))
    (group_payloads c.args.context (column_views c.args.columns.now))
    c.put_statement.new.out.items c.put_group.new.out.items c.put_group-2.new.out.items
    c.put_group.ensures.limit c.in_ok-put_group.ensures.ok third))
    c.put_group-2.ensures.ok

pub returns-clause-err : goal.returns-clause-err
returns-clause-err c =
    let s = counting (prepare_ok_view c.args.statement.now) (column_views c.args.parameters.now)
    (column_views c.args.columns.now) in
    let first = subst (λ (x : PrepareOk). Puts c.args.self.now.limit (place_view c.args.self.now)
    ((prepare_ok x ++ columns_follow c.args.context) ∷ []) (place_view c.put_statement.new.self)
    c.args.out.now.items c.put_statement.new.out.items)
    (same_counts (prepare_ok_view c.args.statement.now) c.args.parameters.now
    c.args.columns.now) c.in_ok-put_statement.ensures.ok in
    on_err c.put_group-2.result
    (λ e refuses. later_refused c.args.self.now.limit c.put_statement.new.self.limit
    (place_view c.args.self.now) (place_view c.put_statement.new.self)
    ((prepare_ok s ++ columns_follow c.args.context) ∷ [])
    (group_payloads c.args.context (column_views c.args.parameters.now) ++
    group_payloads c.args.context (column_views c.args.columns.now)) c.args.out.now.items
    c.put_statement.new.out.items e c.put_statement.ensures.limit first
    (later_refused c.put_statement.new.self.limit c.put_group.new.self.limit
    (place_view c.put_statement.new.self) (place_view c.put_group.new.self)
    (group_payloads c.args.context (column_views c.args.parameters.now))
    (group_payloads c.args.context (column_views c.args.columns.now))
    c.put_statement.new.out.items c.put_group.new.out.items e c.put_group.ensures.limit
    c.in_ok-put_group.ensures.ok refuses))
    c.put_group-2.ensures.err

pub returns-clause-kept : goal.returns-clause-kept
returns-clause-kept c =
    kept_on c.args.out.now.items c.put_statement.new.out.items c.put_group-2.new.out.items
    (front_put _ _ _ _ _ _ c.in_ok-put_statement.ensures.ok)
    (kept_on c.put_statement.new.out.items c.put_group.new.out.items c.put_group-2.new.out.items
    c.put_group.ensures.kept c.put_group-2.ensures.kept)
