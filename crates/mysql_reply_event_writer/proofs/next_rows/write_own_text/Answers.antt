use Rattle.std.proofs.Common.{rules}
use Rattle.mysql_rows.specs.Views.{row_view}
use Rattle.mysql_reply_event_writer.proofs.NextRows.{AllOwnTexts, own_texts}
use Rattle.mysql_reply_event_writer.proofs.next_rows.write_own_text.Goals as goal

pub returns-in-Ok : goal.returns-in-Ok
returns-in-Ok c =
    let own : AllOwnTexts (row_view c.args.row.now).cells = c.are_own_texts.ensures (search rules) in
    (c.in-Ok.ensures.0, c.in-Ok.ensures.1, own_texts (row_view c.args.row.now).cells own)
