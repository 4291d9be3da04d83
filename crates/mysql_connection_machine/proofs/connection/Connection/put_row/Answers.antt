use Rattle.std.proofs.Common.{ap}
use Rattle.mysql_rows.specs.Views.{row_view}
use Rattle.mysql_connection_writer.specs.NextRows.{row_due}
use Rattle.mysql_connection_machine.specs.Machines.{Machine}
use Rattle.mysql_connection_machine.proofs.Knowing.{row_known}
use Rattle.mysql_connection_machine.proofs.connection.Connection.put_row.Goals as goal

pub returns-clause-mode : goal.returns-clause-mode
returns-clause-mode c =
    row_known c.put_row.new.self.world.standing (row_due c.args.self.now.world.standing (row_view c.args.row.now))
    c.put_row.result c.args.self.now.mode c.self.inside.mode (ap (λ (m : Machine). m.mode) c.self.view_is)
