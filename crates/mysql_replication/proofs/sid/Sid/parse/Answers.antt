use Rattle.std.proofs.Common.{sym}
use Rattle.std.proofs.lemmas.Result.{err_from_is_err_and}
use Rattle.mysql_replication.specs.Intervals.{intervals_of}
use Rattle.mysql_replication.specs.Sids.{fields_of, sid_of}
use Rattle.mysql_replication.proofs.Reading.{refuses}
use Rattle.mysql_replication.proofs.Whole.{refused_on, sid_read, sid_without_colon, sid_without_intervals}
use Rattle.mysql_replication.proofs.Whole.{sid_without_tag, sid_without_uuid}
use Rattle.mysql_replication.proofs.sid.Sid.parse.Goals as goal

pub returns-in_default : goal.returns-in_default
returns-in_default c = sid_without_colon c.args.text.now c.in_default.ensures

pub returns-in_err-uuid : goal.returns-in_err-uuid
returns-in_err-uuid c =
    let p = err_from_is_err_and c.from_residual.result c.from_residual.ensures.1 in
    rw (p.1, p.2) (refuses c.in_err-uuid.field-0.0 (sid_of c.args.text.now)
    (sid_without_uuid c.args.text.now c.in-Some.front.now c.in-Some.rest.now c.in_err-uuid.field-0.0
    c.in-Some.ensures.0 (sym c.in_err-uuid.ensures)))

pub returns-in_err-tag : goal.returns-in_err-tag
returns-in_err-tag c =
    let p = err_from_is_err_and c.from_residual-in_err-tag.result c.from_residual-in_err-tag.ensures.1 in
    rw (p.1, p.2) (refuses c.in_err-tag.field-0.0 (sid_of c.args.text.now)
    (sid_without_tag c.args.text.now c.in-Some.front.now c.in-Some.rest.now c.in_ok-uuid.uuid
    c.in_err-tag.field-0.0 c.in-Some.ensures.0 (sym c.in_ok-uuid.ensures) c.in_err-tag.ensures))

pub returns-in_err-intervals : goal.returns-in_err-intervals
returns-in_err-intervals c =
    let p = err_from_is_err_and c.from_residual-in_err-intervals.result c.from_residual-in_err-intervals.ensures.1 in
    rw (p.1, p.2) (refused_on c.in_err-intervals.field-0.0
    (intervals_of (fields_of c.in_ok-tag.rest.now)) (sid_of c.args.text.now)
    c.in_err-intervals.ensures
    (sid_without_intervals c.args.text.now c.in-Some.front.now c.in-Some.rest.now c.in_ok-uuid.uuid
    c.in_ok-tag.tag (fields_of c.in_ok-tag.rest.now) c.in_err-intervals.field-0.0
    c.in-Some.ensures.0 (sym c.in_ok-uuid.ensures) c.in_ok-tag.ensures))

pub returns : goal.returns
returns c =
    rw c.in_ok-tag-2.ensures (sid_read c.args.text.now c.in-Some.front.now c.in-Some.rest.now
    c.in_ok-uuid.uuid c.in_ok-tag.tag (fields_of c.in_ok-tag.rest.now)
    c.in_ok-intervals.intervals.items
    c.in-Some.ensures.0 (sym c.in_ok-uuid.ensures) c.in_ok-tag.ensures c.in_ok-intervals.ensures)
