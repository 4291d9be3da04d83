use Rattle.std.proofs.Common.{◌++◌, ap, map, sym, ◌∙◌}
use Rattle.std.proofs.lemmas.Bool.{le-ltb, lt-ltb}
use Rattle.mysql_wire.specs.Framing.{framing}
use Rattle.mysql_stmt.specs.Executions.{execute_command}
use Rattle.mysql_send.proofs.Pieces.{long_by_size, sent_apart, sent_whole}
use Rattle.mysql_send.proofs.Lists.{on_ok}
use Rattle.mysql_send.proofs.execute.executions.put_long.Goals as goal
use Rattle.mysql_send.proofs.execute.executions.put_long.Goals.{then-apart+in_ok-put_pieces, else-apart}

pub returns-clause-ok : goal.returns-clause-ok
returns-clause-ok g c =
    let values = map g.V.HasValue.value c.args.values.now in
    let long = long_by_size c.executions_have_sizes.ensures c.args.id c.args.size g.V.HasValue.value
    c.args.values.now c.requires.size in
    on_ok c.put_buffered.result
    (λ put.
    elim c.if-apart.branch [
      | then-apart+in_ok-put_pieces w ↦
          sent_apart c.args.id values c.args.out.now.items c.if-apart.out.items
          c.put_buffered.new.out.items (sym (lt-ltb 16777215 c.args.size w.if-apart.true) ∙
          sym long) (ap (λ o. o.items) w.out-is ∙ w.in_ok-put_pieces.ensures.ok)
          (put ∙ ap (λ b. c.if-apart.out.items ++ framing (execute_command c.args.id values b) 0) (sym long))
      | else-apart w ↦
          sent_whole c.args.id values c.args.out.now.items c.if-apart.out.items
          c.put_buffered.new.out.items (sym (le-ltb 16777215 c.args.size w.if-apart.false) ∙
          sym long) (ap (λ o. o.items) w.out-is)
          (put ∙ ap (λ b. c.if-apart.out.items ++ framing (execute_command c.args.id values b) 0) (sym long))
    ])
    c.put_buffered.ensures.ok
