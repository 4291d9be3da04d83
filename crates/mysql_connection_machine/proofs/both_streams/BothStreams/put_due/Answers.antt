use Rattle.std.proofs.Common.{◌≡◌, ◌≤◌, ℕ, List, length, arith, rules, subst, sym}
use Rattle.mysql_connection_rules.specs.Events.{side_of}
use Rattle.mysql_connection_rules.specs.Streams.{limit_of}
use Rattle.mysql_connection_state.specs.Views.{event_view}
use Rattle.mysql_connection_writer.specs.Writes.{Says}
use Rattle.mysql_connection_machine.proofs.InPlace.{payload_behind, puts_due, room_length}
use Rattle.mysql_connection_machine.proofs.both_streams.BothStreams.put_due.Goals as goal

pub put_chunk-requires-clause-said : goal.put_chunk-requires-clause-said
put_chunk-requires-clause-said c =
    let w = c.in_ok-write_behind_room.ensures in
    let at : c.len-start.result ≡ length c.args.out.now.items = search rules in
    subst (λ (p : List ℕ). Says c.args.self.now.world.standing (event_view c.args.event.now) p)
    (sym (payload_behind c.args.out.now.items w.0 c.write_behind_room.new.out.items c.len-start.result w.3 at)) w.2

pub put_chunks-requires-clause-said : goal.put_chunks-requires-clause-said
put_chunks-requires-clause-said c =
    let w = c.in_ok-write_behind_room.ensures in
    let at : c.len-start.result ≡ length c.args.out.now.items = search rules in
    subst (λ (p : List ℕ). Says c.args.self.now.world.standing (event_view c.args.event.now) p)
    (sym (payload_behind c.args.out.now.items w.0 c.write_behind_room.new.out.items c.len-start.result w.3 at)) w.2

pub returns-then-size-lt-MAX_PAYLOAD_LEN : goal.returns-then-size-lt-MAX_PAYLOAD_LEN
returns-then-size-lt-MAX_PAYLOAD_LEN c =
    let w = c.in_ok-write_behind_room.ensures in
    let at : c.len-start.result ≡ length c.args.out.now.items = search rules in
    let size = room_length c.args.out.now.items w.0 c.write_behind_room.new.out.items c.len-start.result w.3 at in
    let held : c.len.result ≡ length c.write_behind_room.new.out.items = search rules in
    let limit : c.limit_of.result ≡
    limit_of (side_of (event_view c.args.event.now)) c.args.self.now.world.limits =
    search rules in
    let within : length w.0 ≤ limit_of (side_of (event_view c.args.event.now)) c.args.self.now.world.limits =
    omega (arith, size, held, limit, c.if-size-limit_of.false) in
    puts_due c.args.self.now c.put_chunk.new.self (event_view c.args.event.now) c.args.out.now.items w.0
    c.write_behind_room.new.out.items c.put_chunk.new.out.items c.len-start.result c.put_chunk.result w.3 at
    c.requires w.1 within c.put_chunk.ensures

pub returns-else-size-lt-MAX_PAYLOAD_LEN : goal.returns-else-size-lt-MAX_PAYLOAD_LEN
returns-else-size-lt-MAX_PAYLOAD_LEN c =
    let w = c.in_ok-write_behind_room.ensures in
    let at : c.len-start.result ≡ length c.args.out.now.items = search rules in
    let size = room_length c.args.out.now.items w.0 c.write_behind_room.new.out.items c.len-start.result w.3 at in
    let held : c.len.result ≡ length c.write_behind_room.new.out.items = search rules in
    let limit : c.limit_of.result ≡
    limit_of (side_of (event_view c.args.event.now)) c.args.self.now.world.limits =
    search rules in
    let within : length w.0 ≤ limit_of (side_of (event_view c.args.event.now)) c.args.self.now.world.limits =
    omega (arith, size, held, limit, c.if-size-limit_of.false) in
    puts_due c.args.self.now c.put_chunks.new.self (event_view c.args.event.now) c.args.out.now.items w.0
    c.write_behind_room.new.out.items c.put_chunks.new.out.items c.len-start.result c.put_chunks.result w.3 at
    c.requires w.1 within c.put_chunks.ensures
