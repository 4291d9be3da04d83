use Rattle.std.proofs.Common.{arith}
use Rattle.mysql_send.proofs.Texts.{framed_query, refused, refused_behind}
use Rattle.mysql_send.proofs.text.text_queries.put_query.Goals as goal

pub returns-in-Err-clause-err : goal.returns-in-Err-clause-err
returns-in-Err-clause-err c =
    rw c.refusal_of.ensures
    (λ id. refused c.pieces_of_a_query.ensures.pieces c.tokens_of_a_text.ensures.one
    c.args.query.now.sql c.args.query.now.places c.places-places.ensures.of_text
    c.requires.one_kind c.requires.alone
    c.args.params.now c.args.set c.args.limit id c.in-Err.error c.in-Err.ensures.err)

pub returns-then-len-start-clause-err : goal.returns-then-len-start-clause-err
returns-then-len-start-clause-err c =
    let mid = c.extend_from_slice.new.self.items in
    let new = c.bind_query_onto.new.out.items in λ id.
    refused_behind c.pieces_of_a_query.ensures.pieces c.tokens_of_a_text.ensures.one
    c.args.query.now.sql c.args.query.now.places c.places-places.ensures.of_text
    c.requires.one_kind c.requires.alone
    c.args.params.now c.args.set c.args.limit id c.len-start.result c.args.out.now.items mid new
    (omega arith) c.in_ok-extend_from_slice.ensures.items
    c.in_default.ensures.ok c.requires.limit (omega arith)

pub returns-clause-ok : goal.returns-clause-ok
returns-clause-ok c =
    let mid = c.extend_from_slice.new.self.items in
    let new = c.bind_query_onto.new.out.items in λ id.
    framed_query c.pieces_of_a_query.ensures.pieces c.tokens_of_a_text.ensures.one
    c.args.query.now.sql c.args.query.now.places c.places-places.ensures.of_text
    c.requires.one_kind c.requires.alone
    c.args.params.now c.args.set c.args.limit id c.len-start.result c.args.out.now.items mid new
    (omega arith) c.in_ok-extend_from_slice.ensures.items
    c.in_default.ensures.ok (omega arith) c.frame_in_place.new.out.items c.in_ok-frame_in_place.ensures.ok
