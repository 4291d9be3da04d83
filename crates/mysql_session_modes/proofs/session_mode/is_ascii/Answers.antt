use Rattle.std.proofs.Common.{nat_lt, rules, tests}
use Rattle.std.proofs.lemmas.Iterator.{YieldsList-from_slice}
use Rattle.std.proofs.lemmas.Iterator.Search.{all_from_yields_List}
use Rattle.mysql_session_modes.proofs.session_mode.is_ascii.Goals as goal

pub returns : goal.returns
returns c =
    all_from_yields_List (λ b. nat_lt b 0x80) _ _ c.all.result c.all.ensures.ran
    (YieldsList-from_slice c.args.text.now cc)
    (λ x b q called. search (rules, tests))
