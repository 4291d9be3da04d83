use Rattle.std.proofs.Common.{subst}
use Rattle.std.proofs.lemmas.Result.{err_from_is_err_and}
use Rattle.mysql_receive.specs.Views.{sets_of}
use Rattle.mysql_recoding.specs.AsItComes.{Recoded, RefusesPiece, recoder_state}
use Rattle.mysql_recoding.specs.Inside.{recoder_of}
use Rattle.mysql_recoding.proofs.RecoderSteps.{fault_refused, set_refused}
use Rattle.mysql_recoding.proofs.recoder.Recoder.recode_piece.Goals as goal

pub returns-in_err-put-clause-refused : goal.returns-in_err-put-clause-refused
returns-in_err-put-clause-refused c =
    let p = err_from_is_err_and c.from_residual-in_err-put.result c.from_residual-in_err-put.ensures.1 in
    rw (p.1, p.2) (subst (λ (r : Recoded). RefusesPiece (recoder_state r) c.args.piece.now
    c.in_err-put.field-0.0) c.self.view_is
    (set_refused (recoder_of c.self.inside) c.read_piece.new.receiver c.args.piece.now
    (sets_of c.in_ok-sets.sets.items) c.one_split.ensures c.there_is_one_audit.ensures
    c.self.invariant.query
    c.read_piece.ensures.statement c.read_piece.ensures.limit c.in_ok-sets.fault
    c.in_ok-sets.ensures.ok c.in_err-put.field-0.0 c.in_err-put.ensures.err))

pub returns-in-Some-clause-refused : goal.returns-in-Some-clause-refused
returns-in-Some-clause-refused c =
    subst (λ (r : Recoded). RefusesPiece (recoder_state r) c.args.piece.now c.in-Some.error) c.self.view_is
    (fault_refused (recoder_of c.self.inside) c.read_piece.new.receiver c.args.piece.now
    (sets_of c.in_ok-sets.sets.items) c.read_piece.ensures.statement c.read_piece.ensures.limit
    c.in_ok-sets.fault c.in-Some.error c.in-Some.is c.in_ok-sets.ensures.ok c.in_ok-put.ensures.ok.none)
