use Rattle.std.proofs.Common.{refl, sym, ◌∙◌, inr}
use Rattle.mysql_receive.proofs.Readable.{each_alone}
use Rattle.mysql_receive.proofs.step.read_text_query.Goals as goal

pub read_text_in-requires-clause-alone : goal.read_text_in-requires-clause-alone
read_text_in-requires-clause-alone c =
    let all = each_alone c.args.statement.now.places.items (sym c.args.statement.now.alone_is ∙
    c.if-not-statement.false) in
    rw c.deref-2.ensures.value all

pub returns-in-None : goal.returns-in-None
returns-in-None c = let none = rw (c.in-None.is, c.deref.ensures.value) at c.in_ok-set.ensures in
    λ s. inr (
      sym c.args.statement.now.alone_is ∙ c.if-not-statement.false,
      (λ contents reads. none contents reads.0),
      refl,
    )
