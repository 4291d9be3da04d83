use Rattle.std.proofs.Common.{sym, ◌∙◌}
use Rattle.mysql_digests.specs.Digest.{agreed, lexemes_of}
use Rattle.mysql_digests.proofs.LeftOut.{byte_left, word_left}
use Rattle.mysql_digests.proofs.Lexing.{digit_tokens, value_tokens}
use Rattle.mysql_digests.proofs.left_out.Before.leaves_out.Goals as goal

pub returns-then-string_prefix : goal.returns-then-string_prefix
returns-then-string_prefix c last tokens h =
    word_left c.args.self c.args.found c.args.bytes.now
    (lexemes_of c.args.mode (agreed last tokens)) c.value_first.result c.in-Word.is
    c.if-at_power.ensures c.if-string_prefix.ensures
    (c.value_first.ensures ∙ sym (value_tokens c.args.mode last c.args.after.now tokens h))

pub returns-then-signs : goal.returns-then-signs
returns-then-signs c last tokens h =
    byte_left c.args.self c.args.found c.in-Byte.b c.args.bytes.now
    (lexemes_of c.args.mode (agreed last tokens)) c.digit_first.result c.in-Byte.is
    c.if-signs.ensures
    (c.digit_first.ensures ∙ sym (digit_tokens c.args.mode last c.args.after.now tokens h))
