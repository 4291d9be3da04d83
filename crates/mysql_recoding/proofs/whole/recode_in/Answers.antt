use Rattle.std.specs.List.{flat_map}
use Rattle.mysql_values.specs.Sql.{read_by}
use Rattle.mysql_receive.specs.Receiving.{audit_of}
use Rattle.mysql_recoding.proofs.Recodings.{refused_is_cause, sent_is_recoded}
use Rattle.mysql_recoding.proofs.whole.recode_in.Goals as goal

pub returns-in-Ok-clause-recoded : goal.returns-in-Ok-clause-recoded
returns-in-Ok-clause-recoded c =
    sent_is_recoded (read_by c.args.mode c.args.spelling c.args.query.now) c.args.stmt_id
    c.args.limit (flat_map (λ piece. piece.now) c.args.pieces.now) (audit_of c.in_ok-audit.audit)
    c.in_ok-audit.ensures.says c.in_ok-audit.ensures.whole c.args.out.now.items
    c.put_contents.new.out.items c.in-Ok.ensures.sent.sends

pub returns-in-Err-clause-refused : goal.returns-in-Err-clause-refused
returns-in-Err-clause-refused c =
    refused_is_cause (read_by c.args.mode c.args.spelling c.args.query.now) c.args.stmt_id
    c.args.limit (flat_map (λ piece. piece.now) c.args.pieces.now)
    (audit_of c.in_ok-audit.audit) c.in_ok-audit.ensures.says c.in_ok-audit.ensures.whole
    c.in-Err.refusal c.refused.result c.refused.ensures c.in-Err.ensures.refused
