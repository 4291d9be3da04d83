use Rattle.mysql_command_rules.proofs.Fillings.{QueryLaws}
use Rattle.mysql_command_rules.proofs.Streams.{each_framed, only_framed}
use Rattle.mysql_command_rules.proofs.manual.whole_streams_are_framed_commands.Goals as goal

pub returns-clause-some : goal.returns-clause-some
returns-clause-some a c limit bytes sets is framed =
    let laws : QueryLaws = record {
      one_places = a.tokens_of_a_text.ensures.places;
      pieces =
          a.pieces_of_a_query.ensures.pieces;
      lexed = a.one_reading.ensures.sliced;
    } in
    each_framed laws a.reader_laws.ensures.rests c limit is bytes sets framed

pub returns-clause-only : goal.returns-clause-only
returns-clause-only a c limit bytes audit is are audited whole =
    let laws : QueryLaws = record {
      one_places = a.tokens_of_a_text.ensures.places;
      pieces =
          a.pieces_of_a_query.ensures.pieces;
      lexed = a.one_reading.ensures.sliced;
    } in
    only_framed laws a.reader_laws.ensures.rests c limit is a.names_are_read_back.ensures.commands
    bytes audit are audited whole
