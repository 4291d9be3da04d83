use Rattle.std.proofs.Common.{Err, sym, subst}
use Rattle.mysql_connection_state.specs.Views.{event_view}
use Rattle.mysql_connection_machine.specs.Inside.{lending_inside}
use Rattle.mysql_connection_machine.specs.Writing.{WritesBehindRoom}
use Rattle.mysql_connection_machine.specs.declared.put_refusal.PutRefusal.{PutRefusal}
use Rattle.mysql_connection_machine.proofs.InPlace.{room_refused}
use Rattle.mysql_connection_machine.proofs.both_streams.BothStreams.write_behind_room.Goals as goal

pub returns-in-Err : goal.returns-in-Err
returns-in-Err c =
    let event = event_view c.args.event.now in
    rw (← c.self.view_is) (subst
    (λ (refusal : PutRefusal). WritesBehindRoom (lending_inside c.self.inside).world event
    c.args.out.now.items (Err refusal)
    c.write_event.new.out.items) (sym c.refused_as.ensures)
    (room_refused (lending_inside c.self.inside).world event c.args.out.now.items c.extend_from_slice.new.self.items
    c.write_event.new.out.items c.in-Err.refusal (rw (← c.self.view_is) at c.requires)
    c.in_ok-extend_from_slice.ensures.items c.in-Err.ensures))
