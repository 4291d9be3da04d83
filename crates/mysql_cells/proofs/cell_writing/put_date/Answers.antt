use Rattle.std.proofs.Common.{◌++◌, if◌then◌else◌, is_ok, List, ℕ, ap, ◌∙◌}
use Rattle.mysql_cells.proofs.ShortForms.{appended, date_front}
use Rattle.mysql_cells.proofs.cell_writing.put_date.Goals as goal

pub returns : goal.returns
returns c =
    let front = c.split_at.ensures.front
    ∙ date_front c.args.year c.args.month c.args.day c.args.hour c.args.minute c.args.second
    c.args.micros c.from.result c.date_size-size.result c.to_le_bytes.result
    c.to_le_bytes-2.result c.from.ensures c.date_size-size.ensures c.to_le_bytes.ensures
    c.to_le_bytes-2.ensures in
    appended c.extend_from_slice.result _ _ _ (c.extend_from_slice.ensures.items ∙
    ap (λ (bytes : List ℕ). if is_ok c.extend_from_slice.result then c.args.out.now.items ++
    bytes else c.args.out.now.items) front)
