use Rattle.std.proofs.Common.{inl, inr}
use Rattle.mysql_c_commands.specs.Adding.{parameter_value}
use Rattle.mysql_c_commands.proofs.FirstError.{first_error_at}
use Rattle.mysql_c_commands.proofs.parameter.values_of.Goals as goal

pub returns-in-Err-clause-err : goal.returns-in-Err-clause-err
returns-in-Err-clause-err c =
    elim c.in-Err.ensures.err [
      | inl memory ↦ inl memory
      | inr why ↦ inr (first_error_at (parameter_value c.args.bytes.now) c.args.parameters.now
          c.loop-parameter.parameter-index c.loop-parameter.values.items _ c.in-Err.code
          c.loop-parameter-test.true c.loop-parameter.invariant why)
    ]
