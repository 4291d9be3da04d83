use Rattle.std.proofs.Common.{subst}
use Rattle.mysql_receive.specs.Receiving.{audit_of}
use Rattle.mysql_recoding.specs.AsItComes.{Recoded, RefusesEnd, recoder_state}
use Rattle.mysql_recoding.specs.Inside.{recoder_of}
use Rattle.mysql_recoding.proofs.RecoderSteps.{end_refused}
use Rattle.mysql_recoding.proofs.recoder.Recoder.finish.Goals as goal

pub returns-in-Some-of_end-clause-refused : goal.returns-in-Some-of_end-clause-refused
returns-in-Some-of_end-clause-refused c = λ none.
    subst (λ (r : Recoded). RefusesEnd (recoder_state r) c.in-Some-of_end.error) c.self.view_is
    (end_refused (recoder_of c.self.inside) (audit_of c.finish.result) c.in-Some-of_end.error
    c.finish.ensures c.in-Some-of_end.ensures.some)
