use Rattle.std.proofs.Common.{◌≡◌, true, false, sym, ◌∙◌}
use Rattle.mysql_queries.proofs.Cuts.{escape_at, byte_at}
use Rattle.mysql_queries.proofs.tokens.part_len.Goals as goal
use Rattle.mysql_queries.proofs.tokens.part_len.Goals.{else-b-eq92-via-then-b-eq92+else-escapes}
use Rattle.mysql_queries.proofs.tokens.part_len.Goals.{else-b-eq92-via-else-b-eq92}

pub returns-then-at-text-2-clause-part : goal.returns-then-at-text-2-clause-part
returns-then-at-text-2-clause-part c =
    escape_at c.args.escapes c.args.quote c.args.text.now c.args.at c.if-b-eq92.true
    c.if-escapes.true c.if-at-text-2.true

pub returns-else-b-eq92-clause-part : goal.returns-else-b-eq92-clause-part
returns-else-b-eq92-clause-part c =
    byte_at c.args.escapes c.args.quote c.args.text.now c.args.at c.if-b-quote.false
    (λ h e. elim c.else-b-eq92.branch [
      | else-b-eq92-via-then-b-eq92+else-escapes w ↦ (let k : true ≡ false = sym h ∙ w.if-escapes.false in cc)
      | else-b-eq92-via-else-b-eq92 w ↦ w.if-b-eq92.false e
    ])
    c.requires
