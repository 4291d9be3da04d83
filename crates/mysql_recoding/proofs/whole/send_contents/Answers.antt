-- Contents for a server in the default mode are sent in that mode.
use Rattle.std.proofs.Common.{subst}
use Rattle.std.specs.Prelude.{IfErr, OnOk}
use Rattle.mysql_values.specs.Sql.{read_in}
use Rattle.mysql_receive.specs.Views.{sets_of}
use Rattle.mysql_command_rules.specs.Reading.{SentReadable}
use Rattle.mysql_command_rules.specs.Sending.{RefusesGiven}
use Rattle.mysql_command_rules.specs.Sets.{all_given_in_places}
use Rattle.mysql_command_rules.specs.declared.road.Road.TheVariants.{Execute}
use Rattle.mysql_recoding.specs.Causes.{values_of_sets}
use Rattle.mysql_recoding.proofs.Modes.{is_default}
use Rattle.mysql_recoding.proofs.whole.send_contents.Goals as goal

pub returns-clause-sent : goal.returns-clause-sent
returns-clause-sent c =
    subst (λ m. OnOk c.send_contents_in.result
    (SentReadable Execute (read_in m c.args.query.now)
    (all_given_in_places (values_of_sets (sets_of c.args.sets.items))) c.args.stmt_id
    c.args.limit c.args.out.now.items
    c.send_contents_in.new.out.items)) (is_default c.default.result c.default.ensures) c.send_contents_in.ensures.sent

pub returns-clause-refused : goal.returns-clause-refused
returns-clause-refused c =
    subst (λ m. IfErr c.send_contents_in.result
    (RefusesGiven Execute (read_in m c.args.query.now)
    (all_given_in_places (values_of_sets (sets_of c.args.sets.items))) c.args.stmt_id
    c.args.limit))
    (is_default c.default.result c.default.ensures) c.send_contents_in.ensures.refused
