use Rattle.mysql_stmt.proofs.Eights.{eight_pushed}
use Rattle.mysql_stmt.proofs.in_room.push_eight.Goals as goal

pub returns-clause-items : goal.returns-clause-items
returns-clause-items c =
    eight_pushed c.args.bytes c.args.out.now.items c.push_reserved.new.self.items
    c.push_reserved-2.new.self.items c.push_reserved-3.new.self.items
    c.push_reserved-4.new.self.items c.push_reserved-5.new.self.items
    c.push_reserved-6.new.self.items c.push_reserved-7.new.self.items
    c.push_reserved-8.new.self.items
    c.requires.all c.push_reserved.ensures.items c.push_reserved-2.ensures.items
    c.push_reserved-3.ensures.items c.push_reserved-4.ensures.items
    c.push_reserved-5.ensures.items c.push_reserved-6.ensures.items
    c.push_reserved-7.ensures.items c.push_reserved-8.ensures.items
