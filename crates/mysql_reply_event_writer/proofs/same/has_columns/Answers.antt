use Rattle.std.proofs.Common.{◌≡◌, List, subst}
use Rattle.std.specs.Bool.{Decides}
use Rattle.std.proofs.lemmas.Bool.Decides.{Decides-at}
use Rattle.mysql_columns.specs.Columns.{ColumnDefinition}
use Rattle.mysql_rows.specs.Views.{column_views}
use Rattle.mysql_reply_event_writer.proofs.Comparing.{columns_decide}
use Rattle.mysql_reply_event_writer.proofs.same.has_columns.Goals as goal

pub returns : goal.returns
returns c =
    subst (λ (own : List ColumnDefinition). Decides c.eq.result (own ≡
    column_views c.args.columns.now)) c.columns_ref.ensures
    (Decides-at c.eq.result _ c.eq.ensures (columns_decide c.columns_ref.result.now c.args.columns.now))
