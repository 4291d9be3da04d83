use Rattle.std.proofs.Common.{◌≡◌, ◌==◌, false, length, refl, rules}
use Rattle.mysql_reply_events.specs.declared.context.Context.{Context}
use Rattle.mysql_replies.specs.Reply.{context_by}
use Rattle.mysql_replies.specs.Views.{outcome_views, report_views}
use Rattle.mysql_reply_writer.proofs.Replied.{replied}
use Rattle.mysql_reply_writer.proofs.WholeReplies.{reply_allowed, reply_read, reply_written}
use Rattle.mysql_reply_writer.proofs.reply.write_reply.Goals as goal

pub returns-in-Ok-clause-delivered : goal.returns-in-Ok-clause-delivered
returns-in-Ok-clause-delivered c =
    let context : Context = context_by c.args.kind c.args.capabilities in
    let results = c.args.results.now in
    let progress = report_views c.args.progress.now in
    let old = c.args.out.now.items in
    let new = c.put_reply.new.out.items in
    let some : (length results == 0) ≡ false = search rules in
    replied c.whole_bytes_are_framed_results.ensures.some c.byte_fronts_are_unfinished.ensures.whole
    c.byte_fronts_are_unfinished.ensures.unfinished
    context c.args.first_id c.args.limit (outcome_views results) progress old new
    (reply_allowed context c.args.first_id c.args.limit results progress some c.new-writer.result
    c.new-writer.ensures c.put_reply.new.writer old new c.in-Ok.ensures.ok
    c.in-Ok.ensures.whole)
    (reply_written context c.args.first_id c.args.limit results progress some c.new-writer.result
    c.new-writer.ensures c.put_reply.new.writer old new c.in-Ok.ensures.ok
    c.in-Ok.ensures.whole)
    (reply_read context c.args.first_id c.args.limit results progress some c.new-writer.result
    c.new-writer.ensures c.put_reply.new.writer old new c.in-Ok.ensures.ok c.in-Ok.ensures.whole
    refl c.written_replies_are_whole.ensures.framed)
