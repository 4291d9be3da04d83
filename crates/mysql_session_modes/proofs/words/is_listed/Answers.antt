use Rattle.std.proofs.Common.{◌∙◌, rules, tests}
use Rattle.std.proofs.lemmas.Iterator.{YieldsList-from_slice}
use Rattle.std.proofs.lemmas.Iterator.Search.{any_from_yields_List}
use Rattle.std.specs.Str.{str_eq_ignore_ascii_case}
use Rattle.mysql_bytes.proofs.SqlModes.{list_any-map}
use Rattle.mysql_session_modes.proofs.words.is_listed.Goals as goal

pub returns : goal.returns
returns c =
    any_from_yields_List (λ listed. str_eq_ignore_ascii_case c.args.word.now listed.now) _ _
    c.any.result c.any.ensures.ran (YieldsList-from_slice c.args.words.now cc) (λ x b q called. search (rules, tests))
    ∙ list_any-map (str_eq_ignore_ascii_case c.args.word.now) (λ listed. listed.now) c.args.words.now
