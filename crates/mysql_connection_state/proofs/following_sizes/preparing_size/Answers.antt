use Rattle.std.proofs.Common.{arith}
use Rattle.mysql_server_packets.specs.Views.{prepare_ok_view}
use Rattle.mysql_connection_state.proofs.following_sizes.preparing_size.Goals as goal

pub returns-in-Prepared-clause-size : goal.returns-in-Prepared-clause-size
returns-in-Prepared-clause-size c = λ text.
    let size = c.size_prepared.ensures.size text (prepare_ok_view c.in-Prepared.statement).num_params in
    rw (c.in-Prepared.is, ← c.statement_id.ensures) (omega arith)
