use Rattle.std.proofs.Common.{◌∙◌}
use Rattle.mysql_convert.proofs.Utf8Texts.{a_text_held, no_text_held}
use Rattle.mysql_convert.proofs.texts.copied_text.Goals as goal

pub returns-in_ok-from_str-in-Ok : goal.returns-in_ok-from_str-in-Ok
returns-in_ok-from_str-in-Ok c =
    a_text_held c.args.value.now c.in-Some.bytes.now _ c.in-Some.ensures c.in-Ok.ensures.cases.1
    (c.in_ok-from_str-in-Ok.ensures.ok ∙ c.in-Ok.ensures.cases.0)

pub returns-in-Err : goal.returns-in-Err
returns-in-Err c = no_text_held c.args.value.now c.in-Some.bytes.now c.in-Some.ensures c.in-Err.ensures.cases.0
