use Rattle.std.proofs.Common.{[], ◌∙◌, refl, sym, arith}
use Rattle.std.specs.Prelude.{unwrap_or}
use Rattle.mysql_rows.specs.CellsWritten.{temporal_text}
use Rattle.mysql_rows.proofs.TextWriting.{length_set, small_count, temporal_short, text_put}
use Rattle.mysql_rows.proofs.text_writing.put_temporal.Goals as goal

pub overflow_cast-len : goal.overflow_cast-len
overflow_cast-len c =
    let text = unwrap_or (temporal_text c.args.temporal.now) [] in
    let put = text_put text c.args.out.now.items c.push.new.self.items
    c.put_temporal_text.new.out.items c.put_temporal_text.result c.in_ok-push.ensures.items
    c.put_temporal_text.ensures (sym c.is_err.ensures.value ∙ c.if-is_err.false) in
    let small = small_count c.args.out.now.items text c.put_temporal_text.new.out.items
    c.len-start.result c.len.result (temporal_short c.args.temporal.now c.fields_fit.ensures)
    put (c.len-start.ensures ∙ c.args.out.now.ok.0) (c.len.ensures ∙
    c.put_temporal_text.new.out.ok.0) in
    omega (arith, small)

pub returns : goal.returns
returns c =
    let text = unwrap_or (temporal_text c.args.temporal.now) [] in
    let put = text_put text c.args.out.now.items c.push.new.self.items
    c.put_temporal_text.new.out.items c.put_temporal_text.result c.in_ok-push.ensures.items
    c.put_temporal_text.ensures (sym c.is_err.ensures.value ∙ c.if-is_err.false) in
    length_set c.args.out.now.items text c.put_temporal_text.new.out.items _ c.len-start.result
    c.len.result (temporal_short c.args.temporal.now c.fields_fit.ensures) put
    (c.len-start.ensures ∙ c.args.out.now.ok.0) (c.len.ensures ∙
    c.put_temporal_text.new.out.ok.0) refl
