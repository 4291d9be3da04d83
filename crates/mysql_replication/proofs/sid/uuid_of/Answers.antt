use Rattle.std.proofs.Common.{Ok, true≢false, sym, ap, ◌∙◌}
use Rattle.uuid.specs.Text.{parsed}
use Rattle.mysql_replication.specs.Sids.{uuid_of}
use Rattle.mysql_replication.proofs.Uuids.{none_uuid, some_uuid}
use Rattle.mysql_replication.proofs.sid.uuid_of.Goals as goal

pub returns-in-Ok : goal.returns-in-Ok
unfolding uuid_of
returns-in-Ok c = ap Ok c.into_bytes.ensures ∙ some_uuid (parsed c.args.text.now) c.in-Ok.uuid c.in-Ok.ensures.bytes

pub returns-in-Err : goal.returns-in-Err
unfolding uuid_of
returns-in-Err c = none_uuid (parsed c.args.text.now) (λ read. true≢false (sym (c.in-Err.ensures.ok.1 read)))
