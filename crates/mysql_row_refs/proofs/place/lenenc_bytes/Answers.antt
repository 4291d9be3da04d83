use Rattle.std.proofs.Common.{ap, sym, ◌∙◌}
use Rattle.std.specs.Option.{is_some}
use Rattle.mysql_row_refs.specs.Places.{bytes_read}
use Rattle.mysql_row_refs.proofs.Tails.{short_lenenc}
use Rattle.mysql_row_refs.proofs.place.lenenc_bytes.Goals as goal

pub short_bytes-requires : goal.short_bytes-requires
short_bytes-requires c = ap is_some
    (sym (short_lenenc c.args.payload.now c.args.at c.requires c.if-payload-at-lt251.true)) ∙
    c.requires

pub returns-then-payload-at-lt251 : goal.returns-then-payload-at-lt251
returns-then-payload-at-lt251 c = c.short_bytes.ensures ∙
    ap bytes_read (sym (short_lenenc c.args.payload.now c.args.at c.requires
    c.if-payload-at-lt251.true))
