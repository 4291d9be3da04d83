use Rattle.std.proofs.Common.{◌≡◌, ℕ, sym, subst, ◌∙◌}
use Rattle.mysql_c_handles.specs.Codes.{code_number}
use Rattle.mysql_c_handles.specs.declared.object.Object.{Object}
use Rattle.mysql_c_replies.specs.Finding.{ShowsChangeIn}
use Rattle.mysql_c_replies.proofs.finding.reply_state.Goals as goal

pub returns-clause-shown : goal.returns-clause-shown
returns-clause-shown c =
    let held : c.deref.result.now ≡ c.args.handle.now.object = c.deref.ensures ∙ c.in-Some.ensures.taken in
    subst (λ (number : ℕ). ShowsChangeIn c.args.handle.now.object c.args.number c.args.position.now
    number c.state_of-code.new.position c.state_of-code.new.kind c.state_of-code.new.len)
    (sym c.number-2.ensures)
    (subst (λ (object : Object). ShowsChangeIn object c.args.number c.args.position.now
    (code_number c.state_of-code.result) c.state_of-code.new.position c.state_of-code.new.kind
    c.state_of-code.new.len) held c.state_of-code.ensures)
