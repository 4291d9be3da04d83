use Rattle.std.proofs.Common.{List, ℕ, ◌++◌, ap, arith, length, subst, ◌∙◌}
use Rattle.mysql_send.specs.Statement.{IsStatement, SentStatement}
use Rattle.mysql_send.proofs.Statements.{prepared, room_and_command}
use Rattle.mysql_send.proofs.execute.statement.put_prepare.Goals as goal

pub returns-clause-ok : goal.returns-clause-ok
returns-clause-ok c =
    let s = c.args.statement.now in
    let is = subst (λ (s : SentStatement). IsStatement s.sql s.parsed s.places) c.statement.view_is
    c.statement.invariant in
    let marked = c.as_slice-marked.ensures.value ∙ ap (λ (s : SentStatement). s.parsed.query) c.statement.view_is in
    let mid = c.extend_from_slice.new.self.items in
    prepared s.sql s.parsed s.places is s.id c.args.room
    (omega (arith, c.place_count.ensures.count)) (omega (arith, ap length marked))
    c.args.out.now.items mid c.extend_from_slice-2.new.self.items c.frame_in_place.new.out.items
    c.len-start.result (omega arith)
    (c.in_ok-extend_from_slice.ensures.items ∙ ap (λ (l : List ℕ). l ++ room_and_command) c.in_ok-reserve.ensures.items)
    (c.in_ok-extend_from_slice-2.ensures.items ∙ ap (λ (l : List ℕ). mid ++ l) marked)
    c.in_ok-frame_in_place.ensures.ok
