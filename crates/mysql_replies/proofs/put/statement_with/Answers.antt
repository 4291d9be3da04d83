use Rattle.std.proofs.Common.{◌≡◌, List, ◌∷◌, [], ◌++◌, false, length, nat_lt, subst, arith}
use Rattle.std.proofs.lemmas.Bool.Decides.{nat_tests}
use Rattle.std.proofs.lemmas.Grind.{common_steps}
use Rattle.std.proofs.lemmas.List.{map_push}
use Rattle.mysql_columns.specs.Columns.{ColumnDefinition}
use Rattle.mysql_columns.specs.Views.{column_view}
use Rattle.mysql_rows.specs.Views.{column_views}
use Rattle.mysql_server_packets.specs.Views.{prepare_ok_view}
use Rattle.mysql_replies.specs.Putting.{IsPut}
use Rattle.mysql_replies.specs.Together.{statement_at}
use Rattle.mysql_replies.proofs.put.statement_with.Goals as goal

pub returns : goal.returns
returns c =
    let statement = prepare_ok_view c.args.stmt in
    let parameters = column_views c.args.params.items in
    let awaited = c.args.events.now.so_far.awaited in
    let full : nat_lt (length parameters) statement.num_params ≡ false = grind (arith, common_steps, nat_tests) in
    let pushed : column_views c.push-2.new.self.items ≡ column_views c.args.columns.items ++
    column_view c.args.column ∷ [] =
    rw (c.push-2.ensures.items, c.if-is_err-2.ensures.negation)
    (map_push column_view c.args.columns.items c.args.column) in
    rw full
    (subst (λ (columns : List ColumnDefinition). IsPut []
    (statement_at statement parameters columns awaited) c.statement_at-2.result) pushed
    c.statement_at-2.ensures)
