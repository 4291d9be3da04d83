use Rattle.std.specs.List.{flat_map}
use Rattle.mysql_values.specs.Sql.{read_by}
use Rattle.mysql_receive.specs.Receiving.{audit_of}
use Rattle.mysql_recoding.proofs.Recodings.{end_is_cause, received_audit, refused_before, whole_is_known}
use Rattle.mysql_recoding.proofs.whole.whole_audit.Goals as goal

pub returns-in_err-audit-clause-refused : goal.returns-in_err-audit-clause-refused
returns-in_err-audit-clause-refused c =
    refused_before c.stream_has_one_audit.ensures
    (read_by c.args.mode c.args.spelling c.args.query.now) c.args.stmt_id c.args.limit
    (flat_map (λ piece. piece.now) c.args.pieces.now) c.all_are_bytes.ensures
    c.from_residual.result c.in_err-audit.field-0.0 c.from_residual.ensures.1 c.in_err-audit.ensures.mixed

pub returns-in-Some-clause-refused : goal.returns-in-Some-clause-refused
returns-in-Some-clause-refused c =
    end_is_cause (read_by c.args.mode c.args.spelling c.args.query.now) c.args.stmt_id c.args.limit
    (flat_map (λ piece. piece.now) c.args.pieces.now) (audit_of c.in_ok-audit.audit)
    c.in-Some.error c.in_ok-audit.ensures.one_kind
    (received_audit (λ piece. piece.now) c.args.pieces.now
    (read_by c.args.mode c.args.spelling c.args.query.now) c.args.stmt_id c.args.limit
    (audit_of c.in_ok-audit.audit) c.in_ok-audit.ensures.received) c.in-Some.ensures.some

pub returns-in-None-clause-says : goal.returns-in-None-clause-says
returns-in-None-clause-says c =
    received_audit (λ piece. piece.now) c.args.pieces.now
    (read_by c.args.mode c.args.spelling c.args.query.now) c.args.stmt_id c.args.limit
    (audit_of c.in_ok-audit.audit) c.in_ok-audit.ensures.received
    (whole_is_known c.in_ok-audit.audit.end c.in-None.ensures.none)
