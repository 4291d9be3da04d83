use Rattle.std.proofs.Common.{◌≡◌, length, sym, ap, ◌∙◌}
use Rattle.std.proofs.lemmas.List.{length-map}
use Rattle.std.specs.Rc.{rc_slice_items}
use Rattle.mysql_columns.specs.Views.{column_view}
use Rattle.mysql_rows.specs.Views.{shared_columns}
use Rattle.mysql_row_refs.specs.StoredRows.{ResultSet}
use Rattle.mysql_row_refs.proofs.KeptRows.{kept_after, set_after}
use Rattle.mysql_row_refs.proofs.stored.StoredRows.push.Goals as goal

pub invariant_of-self : goal.invariant_of-self
invariant_of-self c =
    let row = c.args.row.now in
    let inside = c.self.inside in
    let new = c.put_row.new in
    let as_long : length row.places.now ≡ length (shared_columns inside.columns) =
    row.as_long ∙ sym (length-map (rc_slice_items row.columns.now) column_view) ∙ c.requires ∙
    ap (λ (set : ResultSet). length set.columns) (sym c.self.view_is) in
    kept_after (shared_columns inside.columns) inside.payloads.items row.payload.now
    inside.payload_ends.items inside.places.items row.places.now c.self.invariant
    new.payloads.items new.ends.items new.places.items as_long
    c.put_row.result c.put_row.ensures.payloads c.put_row.ensures.ends c.put_row.ensures.places
    c.put_row.ensures.err row.inside

pub returns-clause-row : goal.returns-clause-row
returns-clause-row c =
    let row = c.args.row.now in
    let inside = c.self.inside in
    let new = c.put_row.new in
    let as_long : length row.places.now ≡ length (shared_columns inside.columns) =
    row.as_long ∙ sym (length-map (rc_slice_items row.columns.now) column_view) ∙ c.requires ∙
    ap (λ (set : ResultSet). length set.columns) (sym c.self.view_is) in
    rw (← c.self.view_is) (set_after (shared_columns inside.columns) inside.payloads.items
    row.payload.now inside.payload_ends.items inside.places.items row.places.now
    c.self.invariant
    new.payloads.items new.ends.items new.places.items as_long
    c.put_row.result c.put_row.ensures.payloads c.put_row.ensures.ends c.put_row.ensures.places)
