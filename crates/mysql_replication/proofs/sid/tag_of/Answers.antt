use Rattle.std.proofs.Common.{◌∙◌, sym}
use Rattle.mysql_replication.proofs.Fields.{tag_read, tag_refused}
use Rattle.mysql_replication.proofs.sid.tag_of.Goals as goal

pub returns-in-Ok : goal.returns-in-Ok
returns-in-Ok c =
    tag_read c.args.rest.now c.in-Some.front.now c.in-Some.intervals.now c.in-Ok.tag
    (sym c.begins_with_digit.ensures ∙ c.if-begins_with_digit.false)
    c.in-Some.ensures.1 c.in-Some.ensures.0 c.in-Ok.ensures.ok.0 c.in-Ok.ensures.ok.1

pub returns-in-Err : goal.returns-in-Err
returns-in-Err c =
    tag_refused c.args.rest.now c.in-Some.front.now c.in-Some.intervals.now c.in-Err.field-0
    (sym c.begins_with_digit.ensures ∙ c.if-begins_with_digit.false)
    c.in-Some.ensures.1 c.in-Some.ensures.0 c.in-Err.ensures.err
