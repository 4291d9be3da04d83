use Rattle.std.proofs.Common.{List, ℕ, subst}
use Rattle.mysql_connection_modes.specs.Modes.{BehindEffect, Effect, effect_of_payload}
use Rattle.mysql_connection_modes.proofs.Effects.{by_number}
use Rattle.mysql_connection_modes.proofs.modes.mode_behind_payload.Goals as goal

pub returns : goal.returns
returns c = λ before plain.
    let s = c.args.state.now.standing in
    let one : (text : List ℕ) (effect : Effect) → Type 0 =
    λ text effect. BehindEffect s effect text c.args.session c.behind_effect.result in
    by_number before s c.args.payload.now c.args.session c.behind_effect.result plain
    (subst (λ text. one text (effect_of_payload c.args.payload.now)) c.body_of.ensures
    (subst (one c.body_of.result.now) c.effect_of_payload.ensures c.behind_effect.ensures))
