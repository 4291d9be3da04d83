use Rattle.std.proofs.Common.{drop, map}
use Rattle.mysql_queries.specs.Sql.{read_by}
use Rattle.mysql_values.proofs.TextWritten.{WrittenTo}
use Rattle.mysql_values.proofs.bind.put_text.Given as goal

abbrev pub invariant-loop-i : goal.invariant-loop-i
invariant-loop-i l = WrittenTo (read_by l.mode l.spelling l.query) l.places
    (map (λ value. value.now) l.listed) l.at (drop l.i l.places) l.i l.fn.out.items l.out.items
