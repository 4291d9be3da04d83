use Rattle.std.proofs.Common.{refl, sym, ap, ◌∙◌, inl, inr}
use Rattle.std.specs.Int.{w8, w16, w32, w64}
use Rattle.mysql_cells.specs.Cells.{form_of, whole_value}
use Rattle.mysql_cells.specs.declared.cell_form.CellForm.TheVariants.{Whole1, Whole2, Whole4, Whole8, FloatBits}
use Rattle.mysql_cells.specs.declared.cell_form.CellForm.TheVariants.{DoubleBits}
use Rattle.mysql_cells.specs.declared.value.Value.TheVariants.{Float, Double}
use Rattle.mysql_executions.proofs.CellsPassed.{skipped}
use Rattle.mysql_executions.proofs.skipping.skip_typed_value.Goals as goal

pub returns-in-Whole1 : goal.returns-in-Whole1
returns-in-Whole1 c = skipped c.args.kind Whole1 1 (whole_value w8 c.args.kind.unsigned)
    c.args.bytes.now _ (sym c.in-Whole1.is ∙ c.form.ensures ∙ ap form_of c.from.ensures) refl
    c.behind.ensures

pub returns-in-Whole2 : goal.returns-in-Whole2
returns-in-Whole2 c = skipped c.args.kind Whole2 2 (whole_value w16 c.args.kind.unsigned)
    c.args.bytes.now _ (sym c.in-Whole2.is ∙ c.form.ensures ∙ ap form_of c.from.ensures) refl
    c.behind-in-Whole2.ensures

pub returns-in-Whole4 : goal.returns-in-Whole4
returns-in-Whole4 c = elim c.in-Whole4.is [
  | inl is ↦ skipped c.args.kind Whole4 4 (whole_value w32 c.args.kind.unsigned) c.args.bytes.now _
      (sym is ∙ c.form.ensures ∙ ap form_of c.from.ensures) refl c.behind-in-Whole4.ensures
  | inr is ↦ skipped c.args.kind FloatBits 4 (λ n. Float n) c.args.bytes.now _ (sym is ∙
      c.form.ensures ∙ ap form_of c.from.ensures) refl c.behind-in-Whole4.ensures
]

pub returns-in-Whole8 : goal.returns-in-Whole8
returns-in-Whole8 c = elim c.in-Whole8.is [
  | inl is ↦ skipped c.args.kind Whole8 8 (whole_value w64 c.args.kind.unsigned) c.args.bytes.now _
      (sym is ∙ c.form.ensures ∙ ap form_of c.from.ensures) refl c.behind-in-Whole8.ensures
  | inr is ↦ skipped c.args.kind DoubleBits 8 (λ n. Double n) c.args.bytes.now _ (sym is ∙
      c.form.ensures ∙ ap form_of c.from.ensures) refl c.behind-in-Whole8.ensures
]
