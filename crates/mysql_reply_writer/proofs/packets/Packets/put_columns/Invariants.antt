use Rattle.std.proofs.Common.{◌≡◌}
use Rattle.mysql_reply_writer.specs.Views.{place_view}
use Rattle.mysql_reply_writer.proofs.ColumnsPut.{ColumnsPut}
use Rattle.mysql_reply_writer.proofs.packets.Packets.put_columns.Given as goal

abbrev pub invariant-columns : goal.invariant-columns
invariant-columns l =
    (l.self.limit ≡ l.fn.self.limit)
    × ColumnsPut l.fn.self.limit (place_view l.fn.self) (place_view l.self) l.columns l.column-index
    l.fn.out.items l.out.items
