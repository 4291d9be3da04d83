-- What is refused.
use Rattle.std.proofs.Common.{◌≡◌, Bool, false, Err}
use Rattle.mysql_execution_writer.specs.Answers.{FitsIf}
use Rattle.mysql_execution_writer.specs.declared.refusal.PutRefusal.{PutRefusal}
use Rattle.mysql_execution_writer.specs.declared.refusal.PutRefusal.TheVariants.{Unreadable, Memory}

-- one of many is refused, and so are all
pub one_refused : (refusal : PutRefusal) (can total : Bool) → FitsIf can (Err refusal) → (can ≡ false → total ≡ false) →
    FitsIf total (Err refusal)
one_refused Unreadable can total refused fails = fails refused
one_refused Memory can total refused fails = tt
