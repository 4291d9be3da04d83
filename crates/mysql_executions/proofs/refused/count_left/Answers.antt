use Rattle.std.proofs.Common.{◌≡◌, ℕ, List, length, take, arith}
use Rattle.std.proofs.lemmas.Grind.{common_steps}
use Rattle.std.proofs.lemmas.List.{length-take, length-take-le, take_min}
use Rattle.std.proofs.lemmas.List.Sums.{prefix_len-le-length}
use Rattle.mysql_executions.specs.After.{is_disputed, undisputed}
use Rattle.std.specs.Prelude.{not}
use Rattle.mysql_executions.specs.declared.types.ParameterType.{ParameterType}
use Rattle.mysql_executions.proofs.refused.count_left.Goals as goal

-- how many of the first ones are kept is how many are left of all
length_kept : (carried : ℕ) (types : List ParameterType) →
    length (take (undisputed (take carried types)) types) ≡ undisputed (take carried types)
length_kept carried types =
    let front = take carried types in
    length-take-le (undisputed front) types
    (omega (
      arith,
      prefix_len-le-length (λ (t : ParameterType). not (is_disputed t.column_type))
          front,
      length-take carried types,
    ))

pub returns-else-kept-carried : goal.returns-else-kept-carried
returns-else-kept-carried c =
    let same = take_min c.args.carried c.args.types.now in
    let count = length_kept c.args.carried c.args.types.now in
    grind (arith, common_steps)
