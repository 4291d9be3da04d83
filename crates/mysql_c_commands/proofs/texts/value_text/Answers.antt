use Rattle.std.proofs.Common.{◌∙◌, subst, sym}
use Rattle.mysql_c_handles.specs.Codes.{code_number}
use Rattle.mysql_c_handles.specs.declared.object.Object.{Object}
use Rattle.mysql_c_commands.specs.Texts.{PutsLiteralFrom}
use Rattle.mysql_c_commands.proofs.texts.value_text.Goals as goal

pub returns-clause-put : goal.returns-clause-put
returns-clause-put c =
    rw (sym c.in-Some.ensures, c.number-2.ensures)
    (subst (λ (held : Object). PutsLiteralFrom c.in-Some.mode c.in-Some.spelling held c.args.set
    c.args.place c.args.out.now.object (code_number c.put_literal_from-code.result)
    c.put_literal_from-code.new.out.object)
    (c.deref.ensures ∙ c.in-Some-take.ensures.taken) c.put_literal_from-code.ensures)
