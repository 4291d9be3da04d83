use Rattle.std.proofs.Common.{◌≡◌, ◌≤◌, ◌<◌, ◌+◌, ◌-◌, ◌∙◌, ℕ, List, length, take, drop, ◌++◌, ap, arith, rules, subst}
use Rattle.std.proofs.Common.{sym, length-drop, length-take-le}
use Rattle.mysql_connection_rules.specs.Puts.{number_for}
use Rattle.mysql_connection_state.specs.Views.{event_view}
use Rattle.mysql_connection_writer.specs.Writes.{Says}
use Rattle.mysql_wire.specs.Framing.{framing, max_payload_len, number_after}
use Rattle.mysql_connection_machine.specs.Writing.{GoesOnBehind}
use Rattle.mysql_connection_machine.proofs.InPlace.{framed_dropped, framed_length, puts_behind}
use Rattle.mysql_connection_machine.proofs.both_streams.BothStreams.put_chunk.Goals as goal

pub behind-requires : goal.behind-requires
behind-requires c =
    let held = c.args.out.now.items in
    let inside : c.args.start ≤ length held = omega (arith, c.requires.there) in
    let short : length (drop (c.args.start + 4) held) < max_payload_len =
    omega (arith, c.requires.short, length-drop (c.args.start + 4) held) in
    let long = framed_length (take c.args.start held) (drop (c.args.start + 4) held)
    c.frame_in_place.new.out.items c.args.start
    c.number_for.result short (sym (length-take-le c.args.start held inside)) c.in_ok-next.ensures.ok in
    rw c.deref.ensures.value (omega (arith, long))

pub go_on-requires : goal.go_on-requires
go_on-requires c =
    let held = c.args.out.now.items in
    let inside : c.args.start ≤ length held = omega (arith, c.requires.there) in
    let short : length (drop (c.args.start + 4) held) < max_payload_len =
    omega (arith, c.requires.short, length-drop (c.args.start + 4) held) in
    let same : c.behind.result.now ≡ drop (c.args.start + 4) held =
    c.behind.ensures ∙ ap (drop (c.args.start + 4)) c.deref.ensures.value
    ∙ framed_dropped (take c.args.start held) (drop (c.args.start + 4) held) c.frame_in_place.new.out.items c.args.start
    c.number_for.result short (sym (length-take-le c.args.start held inside)) c.in_ok-next.ensures.ok in
    record {
      said = subst (λ (p : List ℕ). Says c.args.self.now.world.standing
          (event_view c.args.event.now) p) (sym same) c.requires.said;
    }

pub returns : goal.returns
returns c =
    let held = c.args.out.now.items in
    let inside : c.args.start ≤ length held = omega (arith, c.requires.there) in
    let short : length (drop (c.args.start + 4) held) < max_payload_len =
    omega (arith, c.requires.short, length-drop (c.args.start + 4) held) in
    let same : c.behind.result.now ≡ drop (c.args.start + 4) held =
    c.behind.ensures ∙ ap (drop (c.args.start + 4)) c.deref.ensures.value
    ∙ framed_dropped (take c.args.start held) (drop (c.args.start + 4) held) c.frame_in_place.new.out.items c.args.start
    c.number_for.result short (sym (length-take-le c.args.start held inside)) c.in_ok-next.ensures.ok in
    let event = event_view c.args.event.now in
    let framed : c.frame_in_place.new.out.items ≡ take c.args.start held ++ framing (drop (c.args.start + 4) held)
    (number_for event c.args.self.now.world.standing) =
    c.in_ok-next.ensures.ok ∙
    ap (λ (n : ℕ). take c.args.start held ++ framing (drop (c.args.start + 4) held) n)
    c.number_for.ensures in
    let number : c.in_ok-next.next ≡
    number_after (drop (c.args.start + 4) held)
    (number_for event c.args.self.now.world.standing) =
    c.in_ok-next.ensures.next ∙ ap (λ (n : ℕ). number_after (drop (c.args.start + 4) held) n) c.number_for.ensures in
    let long : c.len.result ≡ length c.frame_in_place.new.out.items = search rules in
    puts_behind c.args.self.now c.go_on.new.self event held c.frame_in_place.new.out.items
    c.args.start c.in_ok-next.next
    (c.len.result - c.args.start) c.go_on.result inside framed number (ap (λ (n : ℕ). n - c.args.start) long)
    (subst (λ (p : List ℕ). GoesOnBehind c.args.self.now event p c.in_ok-next.next
    (c.len.result - c.args.start) c.go_on.result c.go_on.new.self)
    same c.go_on.ensures)
