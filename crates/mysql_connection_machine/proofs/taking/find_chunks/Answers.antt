use Rattle.std.proofs.Common.{inr, refl}
use Rattle.std.proofs.lemmas.Result.{err_from_is_err_and}
use Rattle.mysql_wire.specs.FirstPacket.{first_packet}
use Rattle.mysql_connection_machine.proofs.Coming.{is_whole}
use Rattle.mysql_connection_machine.proofs.taking.find_chunks.Goals as goal

pub returns-in_err-first_packet-clause-found : goal.returns-in_err-first_packet-clause-found
returns-in_err-first_packet-clause-found c =
    let p = err_from_is_err_and c.from_residual.result c.from_residual.ensures.1 in
    rw (p.1, p.2) (inr (
      refl,
      is_whole (first_packet c.args.limit c.args.number c.args.bytes.now)
          c.in_err-first_packet.ensures.err,
    ))
