use Rattle.std.proofs.Common.{◌≡◌, ℕ, Bool, true, false, if◌then◌else◌, Some, nat_eq, arith, refl}
use Rattle.mysql_connection_statements.specs.Statements.{having_columns, prepared_as}
use Rattle.mysql_connection_statements.proofs.Totals.{changed_twice}
use Rattle.mysql_connection_statements.proofs.statements.Statements.size_prepared_with_columns.Goals as goal

by_zero : (columns : ℕ) (zero : Bool) → nat_eq columns 0 ≡ zero → (if zero then 0 else columns) ≡ columns
by_zero columns true is = grind arith
by_zero columns false is = refl

pub returns-clause-size : goal.returns-clause-size
returns-clause-size c = λ text count kept.
    let twice = changed_twice c.args.self.now c.args.id (prepared_as text count c.args.size)
    (having_columns kept c.args.columns) (Some c.args.id) in
    let described = by_zero c.args.columns _ refl in
    omega arith
