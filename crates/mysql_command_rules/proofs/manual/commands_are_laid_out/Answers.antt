use Rattle.mysql_command_rules.proofs.Fillings.{QueryLaws}
use Rattle.mysql_command_rules.proofs.Commands.{each_reads, only_reads}
use Rattle.mysql_command_rules.proofs.manual.commands_are_laid_out.Goals as goal

pub returns-clause-some : goal.returns-clause-some
returns-clause-some a c s behind number payload sets is early command =
    let laws : QueryLaws = record {
      one_places = a.tokens_of_a_text.ensures.places;
      pieces =
          a.pieces_of_a_query.ensures.pieces;
      lexed = a.one_reading.ensures.sliced;
    } in
    let read = each_reads laws c s payload sets behind is command in
    ((early, read.0), read.1)

pub returns-clause-only : goal.returns-clause-only
returns-clause-only a c s number payload sets is are reads =
    let laws : QueryLaws = record {
      one_places = a.tokens_of_a_text.ensures.places;
      pieces =
          a.pieces_of_a_query.ensures.pieces;
      lexed = a.one_reading.ensures.sliced;
    } in
    only_reads laws c s is a.names_are_read_back.ensures.commands payload sets are reads.1
