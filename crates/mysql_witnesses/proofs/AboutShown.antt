-- What events show of prepared statements.
use Rattle.std.proofs.Common.{refl}
use Rattle.mysql_buf.specs.Reading.{first}
use Rattle.mysql_witnesses.specs.Shown.{ChangesOfUserAreShown, ClosesAreShown, ExecutionsOfTheLastAreShown}
use Rattle.mysql_witnesses.specs.Shown.{PreparesShowTheirTexts, ResetsAreShown}

pub prepares_show_their_texts : PreparesShowTheirTexts
prepares_show_their_texts = (refl, refl, refl)

pub closes_are_shown : ClosesAreShown
unfolding first
closes_are_shown = (refl, refl, refl)

pub changes_of_user_are_shown : ChangesOfUserAreShown
changes_of_user_are_shown = refl

pub resets_are_shown : ResetsAreShown
resets_are_shown = λ ok. (refl, refl, refl)

pub executions_of_the_last_are_shown : ExecutionsOfTheLastAreShown
executions_of_the_last_are_shown = λ e. (refl, refl)
