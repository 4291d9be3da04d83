use Rattle.std.proofs.Common.{◌+◌, Bool, ap, sym, ◌∙◌, arith, refl, if◌then◌else◌}
use Rattle.mysql_cells.specs.Values.{is_null}
use Rattle.mysql_stmt.proofs.Bitmaps.{all_bits, ends, next_bit, small_byte, small_weight}
use Rattle.mysql_stmt.proofs.null_bits.null_byte.Goals as goal
use Rattle.mysql_stmt.proofs.null_bits.null_byte.Goals.{then-is_null, else-is_null}

pub overflow_add-byte : goal.overflow_add-byte
overflow_add-byte g c =
    omega (
      arith,
      small_byte g.V.HasValue.value c.args.values.now c.loop-place.place
          c.loop-place.byte c.loop-place.bit c.loop-place.invariant,
      small_weight g.V.HasValue.value c.args.values.now c.loop-place.place c.loop-place.byte
          c.loop-place.bit c.loop-place.invariant,
    )

pub loop-place-preserved : goal.loop-place-preserved
loop-place-preserved g c =
    next_bit g.V.HasValue.value c.args.values.now c.loop-place.place c.loop-place.byte
    c.loop-place.bit c.if-is_null.byte _ c.index-values-place.result c.loop-place.invariant
    (omega arith) (omega arith) c.index-values-place.is
    (elim c.if-is_null.branch [
      | then-is_null w ↦ w.byte-is ∙
          ap (λ (null : Bool). if null then c.loop-place.byte + c.loop-place.bit else
          c.loop-place.byte) (sym w.if-is_null.true ∙ c.is_null.ensures ∙
          ap is_null c.value.ensures)
      | else-is_null w ↦ w.byte-is ∙
          ap (λ (null : Bool). if null then c.loop-place.byte + c.loop-place.bit else
          c.loop-place.byte) (sym w.if-is_null.false ∙ c.is_null.ensures ∙
          ap is_null c.value.ensures)
    ])
    refl

pub overflow_cast-result : goal.overflow_cast-result
overflow_cast-result g c =
    omega (
      arith,
      small_byte g.V.HasValue.value c.args.values.now c.loop-place.place
          c.loop-place.byte c.loop-place.bit c.loop-place.invariant,
    )

pub returns : goal.returns
returns g c = all_bits g.V.HasValue.value c.args.values.now c.loop-place.place c.loop-place.byte
    c.loop-place.bit c.loop-place.invariant (ends _ c.loop-place.place (omega arith))
