use Rattle.std.proofs.Common.{◌+◌, drop, length-drop, length-take, take, refl, ap, arith, ◌∙◌}
use Rattle.std.proofs.lemmas.List.{take_all}
use Rattle.mysql_reply_writer.proofs.FramedInPlace.{fits_room, framed_put}
use Rattle.mysql_reply_writer.proofs.packets.Packets.frame.Goals as goal

pub returns-in-Ok-clause-ok : goal.returns-in-Ok-clause-ok
returns-in-Ok-clause-ok c =
    let payload = drop (c.args.start + 4) c.args.out.now.items in
    framed_put c.args.self.now.limit c.args.self.now.number c.args.self.now.payloads _ _ payload
    (take c.args.start c.args.out.now.items) c.frame_in_place.new.out.items
    (fits_room c.args.self.now.limit c.args.self.now.payloads payload
    (omega (
      arith,
      c.len.ensures,
      c.args.out.now.ok,
      length-drop (c.args.start + 4) c.args.out.now.items,
      c.if-size-self.false,
    ))
    (omega (arith, c.if-self.false, c.fits-self)))
    c.in-Ok.ensures.ok c.in-Ok.ensures.next refl

pub returns-in-Err-clause-kept : goal.returns-in-Err-clause-kept
returns-in-Err-clause-kept c =
    ap (take c.args.start) c.in-Err.ensures.kept ∙
    take_all c.args.start (take c.args.start c.args.out.now.items)
    (omega (arith, length-take c.args.start c.args.out.now.items))
