use Rattle.std.proofs.Common.{◌++◌, if◌then◌else◌, is_ok, List, ℕ, ap, ◌∙◌}
use Rattle.mysql_cells.proofs.ShortForms.{appended, sign_byte, time_front}
use Rattle.mysql_cells.proofs.cell_writing.put_time.Goals as goal

pub returns : goal.returns
returns c =
    let front = c.split_at.ensures.front
    ∙ time_front c.from.result c.args.days c.args.hours c.args.minutes c.args.seconds c.args.micros
    c.from-2.result c.time_size-size.result c.args.negative c.to_le_bytes.result
    c.to_le_bytes-2.result c.from-2.ensures c.time_size-size.ensures (c.from.ensures ∙
    sign_byte c.args.negative) c.to_le_bytes.ensures c.to_le_bytes-2.ensures in
    appended c.extend_from_slice.result _ _ _ (c.extend_from_slice.ensures.items ∙
    ap (λ (bytes : List ℕ). if is_ok c.extend_from_slice.result then c.args.out.now.items ++
    bytes else c.args.out.now.items) front)
