use Rattle.std.proofs.Common.{◌∙◌, map, rules, tests}
use Rattle.std.proofs.lemmas.Iterator.Search.{any_from_yields_List}
use Rattle.std.proofs.lemmas.Iterator.Splits.{YieldsList-from_slice_split}
use Rattle.mysql_bytes.specs.Modes.{is_one_of, within_blanks}
use Rattle.mysql_bytes.proofs.SqlModes.{list_any-map}
use Rattle.mysql_bytes.proofs.mode.tells_one_of.Goals as goal

pub returns : goal.returns
returns c =
    any_from_yields_List (λ name. is_one_of (map (λ listed. listed.now) c.args.names.now)
    (within_blanks name)) _ _ c.any.result c.any.ensures.ran
    (YieldsList-from_slice_split _ _ c.args.value.now c.split.ensures.rest c.split.ensures.done c.split.ensures.closure
    (λ x b q called. search (rules, tests)))
    (λ x b q called. search rules)
    ∙ list_any-map (is_one_of (map (λ listed. listed.now) c.args.names.now)) within_blanks _
