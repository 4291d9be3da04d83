use Rattle.std.proofs.Common.{◌∙◌, ◌==◌, rules, sym, tests}
use Rattle.std.proofs.lemmas.Iterator.Search.{all_from_yields_List}
use Rattle.std.proofs.lemmas.Iterator.Splits.{YieldsList-from_slice_split}
use Rattle.std.proofs.lemmas.List.Folds.{list_all-map}
use Rattle.std.specs.List.{slice_split}
use Rattle.mysql_bytes.specs.Modes.{is_known_mode, within_blanks}
use Rattle.mysql_bytes.proofs.mode.are_known.Goals as goal

pub returns : goal.returns
returns c =
    all_from_yields_List (λ name. is_known_mode (within_blanks name)) _ _ c.all.result c.all.ensures.ran
    (YieldsList-from_slice_split _ _ c.args.value.now c.split.ensures.rest c.split.ensures.done c.split.ensures.closure
    (λ x b q called. search (rules, tests)))
    (λ x b q called. search rules)
    ∙ sym (list_all-map is_known_mode within_blanks (slice_split (λ b. b == 0x2c) c.args.value.now))
