use Rattle.std.proofs.Common.{◌∙◌, ap, length, refl, sym}
use Rattle.mysql_ok_packets.specs.Reading.{to_end_at}
use Rattle.mysql_ok_packets.specs.SessionStates.{variable_at}
use Rattle.mysql_ok_packets.specs.StateLaws.{variable_at-eats}
use Rattle.mysql_session_modes.specs.Told.{told_by_variable, walked}
use Rattle.mysql_session_modes.specs.Told.Told.{Unreadable}
use Rattle.mysql_session_modes.specs.Views.{told_view}
use Rattle.mysql_session_modes.proofs.Walking.{gives_up, goes_on, is_done, no_bytes, some_bytes}
use Rattle.mysql_session_modes.proofs.told.by_variables.Goals as goal

pub loop-rest-init : goal.loop-rest-init
loop-rest-init c = refl

pub returns-in_default : goal.returns-in_default
returns-in_default c =
    let some = some_bytes (length c.loop-rest.rest.0.now) c.is_empty.result c.is_empty.ensures c.loop-rest-test.true in
    sym (gives_up (told_by_variable c.args.wanted.now) variable_at variable_at-eats Unreadable
    (told_view c.loop-rest.told) c.loop-rest.rest.0.now
    c.in_default.field-0 some c.in_default.ensures.0)
    ∙ c.loop-rest.invariant

pub loop-rest-smaller : goal.loop-rest-smaller
loop-rest-smaller c =
    variable_at-eats c.loop-rest.rest.0.now (
      record { name = c.in-Ok.variable.name.now; value = c.in-Ok.variable.value.now },
      c.read_variable.new.buf.0.now,
    ) c.in-Ok.ensures

pub loop-rest-preserved : goal.loop-rest-preserved
loop-rest-preserved c =
    let some = some_bytes (length c.loop-rest.rest.0.now) c.is_empty.result c.is_empty.ensures c.loop-rest-test.true in
    ap (λ told. walked (told_by_variable c.args.wanted.now) Unreadable told
    (to_end_at variable_at c.read_variable.new.buf.0.now)) c.by_variable-told.ensures
    ∙ sym (goes_on (told_by_variable c.args.wanted.now) variable_at variable_at-eats Unreadable
    (told_view c.loop-rest.told) c.loop-rest.rest.0.now
    (record { name = c.in-Ok.variable.name.now; value = c.in-Ok.variable.value.now })
    c.read_variable.new.buf.0.now some c.in-Ok.ensures)
    ∙ c.loop-rest.invariant

pub returns : goal.returns
returns c =
    let none = no_bytes (length c.loop-rest.rest.0.now) c.is_empty.result c.is_empty.ensures c.loop-rest-test.false in
    sym (is_done (told_by_variable c.args.wanted.now) variable_at variable_at-eats Unreadable
    (told_view c.loop-rest.told) c.loop-rest.rest.0.now none)
    ∙ c.loop-rest.invariant
