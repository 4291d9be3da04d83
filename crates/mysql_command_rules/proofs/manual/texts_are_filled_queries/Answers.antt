use Rattle.std.proofs.Common.{refl}
use Rattle.mysql_command_rules.proofs.Fillings.{QueryLaws, filled_of, text_of}
use Rattle.mysql_command_rules.proofs.manual.texts_are_filled_queries.Goals as goal

pub returns-clause-some : goal.returns-clause-some
returns-clause-some a c s number text set is early filled =
    let laws : QueryLaws = record {
      one_places = a.tokens_of_a_text.ensures.places;
      pieces =
          a.pieces_of_a_query.ensures.pieces;
      lexed = a.one_reading.ensures.sliced;
    } in
    (early, (filled.alone, (set, text_of laws c.query text set is filled, refl)))

pub returns-clause-only : goal.returns-clause-only
returns-clause-only a c s number text sets is reads =
    let laws : QueryLaws = record {
      one_places = a.tokens_of_a_text.ensures.places;
      pieces =
          a.pieces_of_a_query.ensures.pieces;
      lexed = a.one_reading.ensures.sliced;
    } in
    let (alone, (set, read, same)) = reads.1 in
    (set, filled_of laws c.query text set is alone read, same)
