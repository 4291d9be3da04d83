use Rattle.std.proofs.Common.{drop}
use Rattle.mysql_queries.proofs.TextReading.{ReadTo}
use Rattle.mysql_queries.proofs.texts.read_text_in.Given as goal

abbrev pub invariant-loop-place : goal.invariant-loop-place
invariant-loop-place l = ReadTo l.mode l.spelling l.query l.places l.text l.at
    (drop l.place-index l.places) l.contents.items l.rest
