use Rattle.std.proofs.Common.{sym}
use Rattle.mysql_digests.proofs.Lexing.{blank_begins, operator_begins, word_begins}
use Rattle.mysql_digests.proofs.lexemes.lexeme_at.Goals as goal

pub returns-then-word_byte-clause-lexeme : goal.returns-then-word_byte-clause-lexeme
returns-then-word_byte-clause-lexeme c last d =
    word_begins c.args.mode last c.args.text.now c.word_end.result c.word_end.ensures.some
    c.word_end.ensures.in_range d c.word_end.ensures.run c.word_end.ensures.calm
    c.word_end.ensures.ends

pub returns-then-operator_byte-clause-lexeme : goal.returns-then-operator_byte-clause-lexeme
returns-then-operator_byte-clause-lexeme c last d =
    operator_begins c.args.mode last c.args.text.now c.operator_end.result
    c.operator_end.ensures.some c.operator_end.ensures.in_range c.operator_end.ensures.run
    c.operator_end.ensures.ends

pub returns-then-blank-clause-lexeme : goal.returns-then-blank-clause-lexeme
returns-then-blank-clause-lexeme c last d =
    blank_begins c.args.mode last c.args.text.now c.requires d (sym c.if-word_byte.ensures)
    (sym c.if-operator_byte.ensures) (sym c.if-blank.ensures)
