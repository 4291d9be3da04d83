use Rattle.std.proofs.Common.{inr, drop, rules}
use Rattle.mysql_connection_machine.proofs.taking.take_lent.Goals as goal

pub returns-in-Err-say_in_place-clause-taken : goal.returns-in-Err-say_in_place-clause-taken
returns-in-Err-say_in_place-clause-taken c = inr (
  c.in-Borrowed.lent.now,
  c.in-Some.packet.next,
  drop c.in-Some.packet.used c.args.stream.now.stream.bytes,
  search rules,
  c.in-Err-say_in_place.ensures.says,
)
