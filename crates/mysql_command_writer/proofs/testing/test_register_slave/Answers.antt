use Rattle.std.proofs.Common.{◌≡◌, true, false, refl, sym, ◌∙◌, arith}
use Rattle.mysql_replication.specs.Packets.{whole_register_slave}
use Rattle.mysql_replication.specs.Views.{register_slave_view}
use Rattle.mysql_command_writer.proofs.Replication.{HasReplicaNumbers, cut_replicas, replicas_read}
use Rattle.std.specs.Option.{option_copied}
use Rattle.mysql_command_writer.proofs.testing.test_register_slave.Goals as goal

pub returns-then-is_whole : goal.returns-then-is_whole
returns-then-is_whole c =
    let p = register_slave_view c.args.replica.now in
    let whole : whole_register_slave p ≡ true = sym c.is_whole.ensures ∙ c.if-is_whole.true in
    let numbers : HasReplicaNumbers p = record {
      server_id = omega arith;
      port = omega arith;
      replication_rank = omega arith;
      master_id = omega arith;
    } in
    replicas_read c.args.capabilities (option_copied c.args.parameters) p numbers whole

pub returns-else-is_whole : goal.returns-else-is_whole
returns-else-is_whole c =
    let p = register_slave_view c.args.replica.now in
    let cut : whole_register_slave p ≡ false = sym c.is_whole.ensures ∙ c.if-is_whole.false in
    let numbers : HasReplicaNumbers p = record {
      server_id = omega arith;
      port = omega arith;
      replication_rank = omega arith;
      master_id = omega arith;
    } in
    λ _. (refl, cut_replicas c.args.capabilities (option_copied c.args.parameters) p numbers cut)
