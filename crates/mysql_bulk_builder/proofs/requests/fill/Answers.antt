use Rattle.std.proofs.Common.{◌≡◌, ◌∷◌, None, Ok, ap, rules, subst, sym}
use Rattle.mysql_bulk_builder.specs.Adds.{Adds}
use Rattle.mysql_bulk_builder.specs.Builder.{Builder}
use Rattle.mysql_bulk_builder.specs.Given.{Giving, giving}
use Rattle.mysql_bulk_builder.specs.Iteration.{Took}
use Rattle.mysql_bulk_builder.proofs.Filling.{took_more}
use Rattle.mysql_bulk_builder.proofs.requests.fill.Goals as goal

pub loop-row-preserved : goal.loop-row-preserved
loop-row-preserved c =
    let adds : Adds c.loop-row.builder c.in-Some.row.items c.add_row.new.self (Ok None) = search rules in
    let first : giving c.loop-row.builder.names c.loop-row.given ≡ Ok c.in-Some.row.items ∷
    giving c.loop-row.builder.names c.next_row.new.self = search rules in
    let names : giving c.loop-row.builder.names c.next_row.new.self ≡
    giving c.add_row.new.self.names c.next_row.new.self =
    ap (λ (b : Builder). giving b.names c.next_row.new.self) (sym adds.2) in
    let given = giving c.args.builder.now.names c.args.given.now in
    let before : Took c.args.builder.now given c.loop-row.builder (Ok c.in-Some.row.items ∷
    giving c.loop-row.builder.names c.next_row.new.self) =
    subst (λ (g : Giving). Took c.args.builder.now given c.loop-row.builder g) first c.loop-row.invariant in
    subst (λ (g : Giving). Took c.args.builder.now given c.add_row.new.self g) names
    (took_more c.args.builder.now given c.loop-row.builder c.add_row.new.self c.in-Some.row.items
    (giving c.loop-row.builder.names c.next_row.new.self) before adds.2)
