-- A stream that was sent to a server in the default mode is recoded in that mode.
use Rattle.std.proofs.Common.{subst}
use Rattle.std.specs.Prelude.{IfErr, OnOk}
use Rattle.std.specs.List.{flat_map}
use Rattle.mysql_values.specs.Sql.{read_in}
use Rattle.mysql_recoding.specs.Recoding.{Recodes, RefusesRecoding}
use Rattle.mysql_recoding.proofs.Modes.{is_default}
use Rattle.mysql_recoding.proofs.whole.recode.Goals as goal

pub returns-clause-recoded : goal.returns-clause-recoded
returns-clause-recoded c =
    subst (λ m. OnOk c.recode_in.result
    (Recodes (read_in m c.args.query.now) c.args.stmt_id c.args.limit
    (flat_map (λ piece. piece.now) c.args.pieces.now) c.args.out.now.items
    c.recode_in.new.out.items))
    (is_default c.default.result c.default.ensures) c.recode_in.ensures.recoded

pub returns-clause-refused : goal.returns-clause-refused
returns-clause-refused c =
    subst (λ m. IfErr c.recode_in.result
    (RefusesRecoding (read_in m c.args.query.now) c.args.stmt_id c.args.limit
    (flat_map (λ piece. piece.now) c.args.pieces.now)))
    (is_default c.default.result c.default.ensures) c.recode_in.ensures.refused
