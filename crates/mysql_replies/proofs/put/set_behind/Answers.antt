use Rattle.std.proofs.Common.{◌≡◌, List, ◌∷◌, [], Bool, false, refl, ap, sym, ◌∙◌}
use Rattle.mysql_columns.specs.Columns.{ColumnDefinition}
use Rattle.mysql_ok_packets.specs.OkPackets.{OkPacket}
use Rattle.mysql_ok_packets.specs.Views.{ok_packet_view}
use Rattle.mysql_reply_events.specs.Due.{bare}
use Rattle.mysql_reply_events.specs.Events.{Awaited}
use Rattle.mysql_reply_events.specs.Events.Awaited.{Columns, ColumnsEnd, Fields, FileData, First, Nothing, Rows}
use Rattle.mysql_replies.specs.Putting.{awaits_rows}
use Rattle.mysql_replies.specs.Together.{Outcome, Part, Put, columns_in, ended, makes_whole, rows_due, set_behind}
use Rattle.mysql_replies.proofs.put.set_behind.Goals as goal

-- Where no rows are due it is whole.
whole : (known : Bool) (columns : List ColumnDefinition) (ok : OkPacket) (awaited : Awaited) →
    awaits_rows (bare awaited) ≡ false →
    makes_whole (ended (rows_due known columns) ok) ≡ set_behind known columns ok awaited
whole known columns ok (Rows read) none = absurd cc
whole known columns ok (Columns group n earlier) none = refl
whole known columns ok (ColumnsEnd group read) none = refl
whole known columns ok First none = refl
whole known columns ok Fields none = refl
whole known columns ok FileData none = refl
whole known columns ok Nothing none = refl

pub returns-else-is_rows : goal.returns-else-is_rows
returns-else-is_rows c =
    let s = c.args.events.now.so_far in
    let ok = ok_packet_view c.args.ok in
    let none : awaits_rows (bare s.awaited) ≡ false = ap awaits_rows (sym c.due.ensures) ∙
    sym c.is_rows.ensures ∙ c.if-is_rows.false in
    let is = whole c.args.known (columns_in s) ok s.awaited none in (
      ap (λ (x : Outcome). x ∷ []) (c.ended.ensures ∙
          ap (λ (p : Part). ended p ok) c.in-Moved.ensures.1) ∙ ap (λ (p : Put). p.results) is,
      ap (λ (p : Put). p.part) is,
    )
