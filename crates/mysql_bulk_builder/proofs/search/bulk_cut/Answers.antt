use Rattle.std.proofs.Common.{◌≡◌, ◌+◌, ◌++◌, Bool, Vec, length, take, drop, sym, ◌∙◌, ap, subst, arith}
use Rattle.std.proofs.lemmas.List.{take_at}
use Rattle.std.specs.declared.alloc.Global.{Global}
use Rattle.mysql_bulk_builder.specs.Seen.{AreSeen}
use Rattle.mysql_bulk_builder.specs.RowLists.{rows_in}
use Rattle.mysql_bulk_builder.proofs.OneKindLemmas.{none_too_large}
use Rattle.mysql_bulk_builder.proofs.LongestPart.{push_part}
use Rattle.mysql_bulk_builder.proofs.search.bulk_cut.Goals as goal
use Rattle.mysql_bulk_builder.proofs.search.bulk_cut.Goals.{then-end-rows, else-end-rows}

pub next_part-part-requires-clause-fits : goal.next_part-part-requires-clause-fits
next_part-part-requires-clause-fits c =
    none_too_large c.args.room c.args.columns (rows_in c.args.rows.now) c.in_ok-sizes.ensures.none

pub loop-start-preserved : goal.loop-start-preserved
loop-start-preserved c =
    let end = c.loop-start.start + c.next_part-part.result.count in
    record {
      seen = λ more. elim c.if-end-rows.branch [
        | then-end-rows w ↦
            let columns : length w.deref_mut.result.now ≡ c.args.columns =
            ap length w.deref_mut.ensures.value ∙
            (c.loop-start.invariant.seen c.loop-start-test.true).len in
            let seen = subst (λ n. AreSeen n (rows_in c.args.rows.now) end w.mark_rows.new.seen)
            columns w.mark_rows.ensures in
            let len : length w.mark_rows.new.seen ≡ c.loop-start.seen.len =
            omega (
              arith,
              w.mark_rows.auto.seen,
              ap length w.deref_mut.ensures.value,
              c.loop-start.seen.ok.0,
            ) in
            let back : take c.loop-start.seen.len (w.mark_rows.new.seen ++
            drop (length w.mark_rows.new.seen) c.loop-start.seen.items) ≡ w.mark_rows.new.seen =
            take_at w.mark_rows.new.seen
            (drop (length w.mark_rows.new.seen) c.loop-start.seen.items) c.loop-start.seen.len
            len in
            subst (AreSeen c.args.columns (rows_in c.args.rows.now) end)
            (sym (ap (λ (v : Vec Bool Global). v.items) w.seen-is ∙ back)) seen
        | else-end-rows w ↦ absurd (omega (arith, more, w.if-end-rows.false))
      ];
      within = c.next_part-part.ensures.within;
      cut = push_part c.args.room c.args.columns (rows_in c.args.rows.now) c.loop-start.start
          c.loop-start.cut.items c.push.new.self.items c.next_part-part.result
          c.loop-start.invariant.cut c.next_part-part.ensures.some c.next_part-part.ensures.tight
          c.in_ok-push.ensures.items;
    }
