use Rattle.std.proofs.Common.{◌∙◌, ap, sym, Some}
use Rattle.mysql_row_refs.specs.Places.{is_inside}
use Rattle.mysql_row_refs.proofs.PlacedCells.{found_cell, found_inside, no_cell}
use Rattle.mysql_row_refs.proofs.row_ref.RowRef.as_ref.Goals as goal

pub value_at-requires : goal.value_at-requires
value_at-requires c =
    found_inside (is_inside c.args.self.now.payload.now) c.args.self.now.places.now c.args.index
    c.in-Some.place c.args.self.now.inside
    (sym c.place_at.ensures ∙ c.in-Some.is)

pub returns-in-Some : goal.returns-in-Some
returns-in-Some c =
    ap (λ x. Some x) c.value_at.ensures ∙
    found_cell c.args.self.now.payload.now c.args.self.now.places.now c.args.index
    c.in-Some.place
    (sym c.place_at.ensures ∙ c.in-Some.is)

pub returns-in-None : goal.returns-in-None
returns-in-None c =
    no_cell c.args.self.now.payload.now c.args.self.now.places.now c.args.index
    (sym c.place_at.ensures ∙ c.in-None.is)
