use Rattle.mysql_queries.specs.Sql.{read_by_default}
use Rattle.mysql_values.proofs.bind.bind_text_at.Goals as goal

pub names_among-requires : goal.names_among-requires
names_among-requires c = c.pieces_of_a_query.ensures.order (read_by_default c.args.query.now)
    c.args.places.now c.requires
