use Rattle.std.proofs.Common.{◌≡◌, ◌+◌, ◌<◌, ◌∷◌, [], ◌++◌, Option, Some, true, Result, Ok, Err, ap, subst, arith, ◌∙◌}
use Rattle.std.specs.Prelude.{OnOk, is_ok, vec_capacity, vec_len}
use Rattle.mysql_rows.specs.Views.{row_view}
use Rattle.mysql_rows.specs.declared.row.Row.{Row as RowOf}
use Rattle.mysql_reply_events.specs.NextRows.{KeepsRow}
use Rattle.mysql_replies.specs.OpenRows.{RowsSoFar}
use Rattle.mysql_replies.specs.declared.part.Part.TheVariants as parts
use Rattle.mysql_replies.specs.declared.state.ReplyState.{ReplyState}
use Rattle.mysql_replies.proofs.Taken.{row_taken}
use Rattle.mysql_replies.proofs.state.ReplyState.take_row.Goals as goal

ok_of : {T E : Type 0} (r : Result T E) (P : Type 0) → is_ok r ≡ true → OnOk r P → P
ok_of (Ok x) P is h = h
ok_of (Err e) P is h = absurd cc

pub returns : goal.returns
returns c =
    let old = c.args.self.now in
    let open_rows = c.in-Rows.open_rows in
    let row = c.in-Ok-Some.row in
    let new : ReplyState = record old {
      events = c.read_row.new.self;
      spare =
          c.reserve.new.self;
      part = parts.Rows c.push.new.self;
      count = old.count + 1;
    } in
    let kept : KeepsRow old.events c.args.payload.now (Ok (Some row)) new.events =
    subst (λ (r : Option RowOf). KeepsRow old.events c.args.payload.now (Ok r) new.events)
    c.in-Ok-Some.field-0-is c.in-Ok-Some.ensures in
    let pushed : c.push.new.self ≡ record open_rows { rows = open_rows.rows ++ row_view row ∷ [] } =
    ok_of c.push.result _ c.if-is_err-2.ensures.negation c.push.ensures.ok in
    let room = ok_of c.reserve.result _ c.if-is_err.ensures.negation c.reserve.ensures.ok in
    let spare : vec_len new.spare < vec_capacity new.spare = omega arith in
    row_taken old new c.args.payload.now open_rows row c.requires.reading c.requires.going c.in-Rows.is kept
    (ap (λ (o : RowsSoFar). let s : ReplyState =
    record old {
      events = c.read_row.new.self;
      spare = c.reserve.new.self;
      part =
          parts.Rows o;
      count = old.count + 1;
    } in s) pushed)
    spare (c.reserve.ensures.items ∙ c.requires.reading.empty)
