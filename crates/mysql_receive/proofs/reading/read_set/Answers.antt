use Rattle.std.proofs.Common.{◌≡◌, ◌++◌, ◌∷◌, [], get_or, false, length, arith, ap, ◌∙◌}
use Rattle.std.proofs.lemmas.Result.{err_from_is_err_and}
use Rattle.mysql_receive.specs.Reading.{set_at}
use Rattle.mysql_receive.specs.Views.{data_waiting}
use Rattle.mysql_receive.proofs.Loops.{at_place, behind_nothing, set_done, set_ends, set_goes_on, set_left, zero_type}
use Rattle.mysql_receive.proofs.Nulls.{say_all, say_others, says_of}
use Rattle.mysql_field_lists.specs.NullBitmap.{nulls_of}
use Rattle.mysql_field_lists.specs.NullBits.{bits_left}
use Rattle.mysql_receive.proofs.reading.read_set.Goals as goal

pub returns-in_err-next : goal.returns-in_err-next
returns-in_err-next c =
    let p = err_from_is_err_and c.from_residual-in_err-next.result c.from_residual-in_err-next.ensures.1 in
    let waiting = data_waiting c.args.state.now.long_data.items in
    let types = c.args.types.now in
    rw (p.1, p.2) (set_ends waiting c.args.nulls.now types
    (set_at waiting c.args.nulls.now 0 types c.args.cells.now) c.in_err-next.field-0.0
    c.loop-place.set.items c.loop-place.place (get_or types c.loop-place.place zero_type)
    c.next_bit-is_null.result c.loop-place.rest.now
    (at_place types c.loop-place.place zero_type c.loop-place-test.true)
    (says_of c.args.nulls.now (bits_left c.loop-place.bits) c.loop-place.place (length types)
    c.next_bit-is_null.result c.loop-place-test.true c.loop-place.invariant.1
    c.next_bit-is_null.ensures.bit)
    c.in_err-next.ensures c.loop-place.invariant.0)

pub loop-place-init : goal.loop-place-init
loop-place-init c =
    let count = c.bit_count.result in
    let bits : bits_left c.iter-bits.result ≡ nulls_of 0 c.args.nulls.now count =
    c.iter-bits.ensures ∙ ap (λ bytes. nulls_of 0 bytes.now count)
    c.from_bytes-bitmap.ensures in (
      rw c.in_ok-set.ensures.items
          (behind_nothing (set_at (data_waiting c.args.state.now.long_data.items) c.args.nulls.now 0
          c.args.types.now c.args.cells.now)),
      rw bits (say_all c.args.nulls.now count (length c.args.types.now) c.bit_count.ensures.all),
      c.in_ok-set.ensures.capacity,
      c.in_ok-set.ensures.len,
    )

pub loop-place-preserved : goal.loop-place-preserved
loop-place-preserved c =
    let waiting = data_waiting c.args.state.now.long_data.items in
    let types = c.args.types.now in
    let e : c.push_reserved.new.self.items ≡ c.loop-place.set.items ++ c.in_ok-next.next ∷ [] =
    c.push_reserved.ensures.items in (
      rw e (set_goes_on waiting c.args.nulls.now types
          (set_at waiting c.args.nulls.now 0 types c.args.cells.now) c.loop-place.set.items
          c.loop-place.place (get_or types c.loop-place.place zero_type) c.next_bit-is_null.result
          c.loop-place.rest.now c.in_ok-next.next c.in_ok-next.after.now
          (at_place types c.loop-place.place zero_type c.loop-place-test.true)
          (says_of c.args.nulls.now (bits_left c.loop-place.bits) c.loop-place.place (length types)
          c.next_bit-is_null.result c.loop-place-test.true c.loop-place.invariant.1
          c.next_bit-is_null.ensures.bit)
          c.in_ok-next.ensures c.loop-place.invariant.0),
      rw c.next_bit-is_null.ensures.left
          (say_others (bits_left c.loop-place.bits) c.args.nulls.now c.loop-place.place
          (length types) c.loop-place.invariant.1),
      omega (arith, c.push_reserved.ensures.capacity, c.loop-place.invariant.2),
      omega (arith, c.push_reserved.ensures.len, c.loop-place.invariant.3),
    )

pub returns-then-not-is_empty : goal.returns-then-not-is_empty
returns-then-not-is_empty c =
    let waiting = data_waiting c.args.state.now.long_data.items in
    let types = c.args.types.now in
    set_left waiting c.args.nulls.now types
    (set_at waiting c.args.nulls.now 0 types c.args.cells.now) c.loop-place.set.items
    c.loop-place.place c.loop-place.rest.now c.loop-place-test.false c.if-not-is_empty.ensures
    c.loop-place.invariant.0

pub returns : goal.returns
returns c =
    let waiting = data_waiting c.args.state.now.long_data.items in
    let types = c.args.types.now in
    set_done waiting c.args.nulls.now types
    (set_at waiting c.args.nulls.now 0 types c.args.cells.now) c.loop-place.set.items
    c.loop-place.place c.loop-place.rest.now c.loop-place-test.false c.if-not-is_empty.ensures
    c.loop-place.invariant.0
