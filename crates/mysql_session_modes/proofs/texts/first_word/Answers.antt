use Rattle.std.proofs.Common.{◌∙◌, ap, sym, take}
use Rattle.mysql_queries.proofs.TokenWalks.{to_end}
use Rattle.mysql_session_modes.specs.Texts.{word_of}
use Rattle.mysql_session_modes.proofs.TextWalks.{left}
use Rattle.mysql_session_modes.proofs.texts.first_word.Goals as goal

pub returns : goal.returns
returns c = λ tokens h.
    let text = c.args.text.now in
    let n = c.skipped_end.result in
    let there = c.skipped_end.ensures.rest tokens h in
    ap (λ n. take n (left text c.skipped_end.result)) c.word_len.ensures.len ∙
    ap word_of (to_end text n ∙ sym there.joined)
