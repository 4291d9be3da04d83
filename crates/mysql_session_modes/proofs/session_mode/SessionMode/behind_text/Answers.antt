use Rattle.std.proofs.Common.{◌∙◌, Bool, ap, not}
use Rattle.mysql_session_modes.specs.SessionModes.{kept_behind, mode_behind_tokens, mode_read}
use Rattle.mysql_session_modes.specs.declared.session_mode.SessionMode.{SessionMode}
use Rattle.mysql_session_modes.proofs.session_mode.SessionMode.behind_text.Goals as goal

pub returns : goal.returns
unfolding mode_behind_tokens
returns c =
    let text = c.args.text.now in
    let found = c.tokens_of_a_text.ensures.some (mode_read c.args.self) text in (
      found.0,
      found.1,
      ap (λ (kept : SessionMode). record kept { counts = not c.has_statement-counts.result })
          (c.kept_behind-kept.ensures found.0 found.1)
          ∙ ap (λ (b : Bool). record (kept_behind found.0 text c.args.self) { counts = not b })
          c.has_statement-counts.ensures,
    )
