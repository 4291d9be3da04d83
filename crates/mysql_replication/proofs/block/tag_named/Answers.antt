use Rattle.std.proofs.Common.{◌≡◌, ◌∙◌}
use Rattle.mysql_replication.proofs.Blocks.{no_text, no_utf8, tag_text, text_at_fault}
use Rattle.mysql_replication.proofs.block.tag_named.Goals as goal

pub returns-then-is_empty : goal.returns-then-is_empty
returns-then-is_empty c = no_text c.args.text.now c.if-is_empty.ensures

pub returns-in_default : goal.returns-in_default
returns-in_default c = no_utf8 c.args.text.now c.in_default.ensures.cases.0 c.if-is_empty.ensures

pub returns-in-Ok-try_from : goal.returns-in-Ok-try_from
returns-in-Ok-try_from c =
    let same : c.in-Ok-try_from.tag ≡ c.args.text.now = c.in-Ok-try_from.ensures.0.0 ∙ c.in-Ok.ensures.cases.0 in
    rw same (tag_text c.args.text.now c.in-Ok.ensures.cases.1
    (rw same at c.in-Ok-try_from.ensures.0.1) c.if-is_empty.ensures)

pub returns-in-Err : goal.returns-in-Err
returns-in-Err c = text_at_fault c.args.text.now c.in-Err.field-0
    (rw c.in-Ok.ensures.cases.0 at c.in-Err.ensures.1) c.if-is_empty.ensures
