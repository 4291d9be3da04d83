use Rattle.mysql_session_modes.specs.Texts.{behind_skipped}
use Rattle.mysql_session_modes.proofs.TextWalks.{none_behind}
use Rattle.mysql_session_modes.proofs.texts.is_all_skipped.Goals as goal

pub returns : goal.returns
returns c = λ tokens h.
    none_behind c.args.mode c.args.text.now c.skipped_end.result (behind_skipped tokens)
    c.skipped_end.ensures.in_range (c.skipped_end.ensures.rest tokens h)
