use Rattle.std.proofs.Common.{sym, ◌∙◌}
use Rattle.std.proofs.lemmas.List.{append-nil}
use Rattle.mysql_command_rules.specs.declared.road.Road.TheVariants.{Text}
use Rattle.mysql_send.proofs.Texts.{no_cause}
use Rattle.mysql_send.proofs.text.text_queries.check_places.Goals as goal

pub returns-in-None-clause-begins : goal.returns-in-None-clause-begins
returns-in-None-clause-begins c = λ sets id limit out.
    let why = no_cause c.args.query.now.sql c.args.query.now.places c.places-places.ensures.of_text
    (sym c.is_mixed.ensures.mixed ∙ c.if-is_mixed.false) (sym c.first_not_alone.ensures.first ∙
    c.in-None.is) in
    c.sent_in_turn.ensures.begin Text tt c.args.query.now.sql sets id limit out out why.0 why.1
    why.2 (sym (append-nil out))
