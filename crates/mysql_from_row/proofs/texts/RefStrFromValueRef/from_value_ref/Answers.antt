use Rattle.mysql_row_refs.specs.Places.{value_of}
use Rattle.mysql_from_row.proofs.Utf8Texts.{a_text_held, no_text_held}
use Rattle.mysql_from_row.proofs.texts.RefStrFromValueRef.from_value_ref.Goals as goal

pub returns-in-Ok : goal.returns-in-Ok
returns-in-Ok c = a_text_held (value_of c.args.value) c.in-Some.bytes.now c.in-Ok.text.now
    c.in-Some.ensures c.in-Ok.ensures.cases.1 c.in-Ok.ensures.cases.0

pub returns-in-Err : goal.returns-in-Err
returns-in-Err c = no_text_held (value_of c.args.value) c.in-Some.bytes.now c.in-Some.ensures c.in-Err.ensures.cases.0
