use Rattle.std.proofs.Common.{◌≡◌, ◌≢◌, ◌≤◌, ◌<◌, ◌^◌, [], arith, slice_range, length, refl, get_or, subst, sym, take}
use Rattle.std.proofs.Common.{◌-◌}
use Rattle.std.proofs.lemmas.Bool.Decides.{nat_tests}
use Rattle.mysql_queries.specs.Literals.{digits_value}
use Rattle.mysql_queries.specs.Tokens.{dash}
use Rattle.mysql_queries.proofs.Decimals.{negative_number, positive_number}
use Rattle.mysql_queries.proofs.numbers.read_number.Goals as goal
use Rattle.mysql_queries.proofs.numbers.read_number.Goals.{else-not-is_empty-via-then-not-is_empty+else-text-eq45}
use Rattle.mysql_queries.proofs.numbers.read_number.Goals.{else-not-is_empty-via-else-not-is_empty}

pub returns-then-end-eq1-clause-none : goal.returns-then-end-eq1-clause-none
returns-then-end-eq1-clause-none c run rest z j r k =
    let some : 0 < length c.args.text.now = omega arith in
    let e : slice_range c.args.text.now 1 c.digits_end-end.result ≡ [] = rw c.if-end-eq1.true refl in
    (negative_number c.args.text.now c.digits_end-end.result some c.if-text-eq45.true
    c.digits_end-end.ensures.order c.digits_end-end.ensures.each c.digits_end-end.ensures.ends
    run rest z j r k).0 e

pub returns-in_default-clause-none : goal.returns-in_default-clause-none
returns-in_default-clause-none c run rest z j r k =
    let some : 0 < length c.args.text.now = omega arith in
    omega (
      arith,
      (negative_number c.args.text.now c.digits_end-end.result some c.if-text-eq45.true
          c.digits_end-end.ensures.order c.digits_end-end.ensures.each c.digits_end-end.ensures.ends
          run rest z j r k).1,
      c.in_default.ensures.large,
    )

pub returns-then-n-clause-none : goal.returns-then-n-clause-none
returns-then-n-clause-none c run rest z j r k =
    let some : 0 < length c.args.text.now = omega arith in
    omega (
      arith,
      (negative_number c.args.text.now c.digits_end-end.result some c.if-text-eq45.true
          c.digits_end-end.ensures.order c.digits_end-end.ensures.each c.digits_end-end.ensures.ends
          run rest z j r k).1,
      c.in-Some.ensures.value,
      c.if-n.true,
    )

pub returns-then-end-eq0-clause-none : goal.returns-then-end-eq0-clause-none
returns-then-end-eq0-clause-none c run rest z j r k =
    let no_dash : 0 < length c.args.text.now → get_or c.args.text.now 0 0 ≢ dash =
    λ some e. elim c.else-not-is_empty.branch [
      | else-not-is_empty-via-then-not-is_empty+else-text-eq45 w ↦ w.if-text-eq45.false e
      | else-not-is_empty-via-else-not-is_empty w ↦ absurd
          (grind (arith, nat_tests, w.if-not-is_empty.false, c.is_empty.ensures))
    ] in
    let e : slice_range c.args.text.now 0 c.digits_end-end-else-not-is_empty.result ≡ [] = rw c.if-end-eq0.true refl in
    (positive_number c.args.text.now c.digits_end-end-else-not-is_empty.result no_dash
    c.digits_end-end-else-not-is_empty.ensures.each
    c.digits_end-end-else-not-is_empty.ensures.ends run rest z j r k).0 e

pub returns-in_default-number_of-clause-none : goal.returns-in_default-number_of-clause-none
returns-in_default-number_of-clause-none c run rest z j r k =
    let no_dash : 0 < length c.args.text.now → get_or c.args.text.now 0 0 ≢ dash =
    λ some e. elim c.else-not-is_empty.branch [
      | else-not-is_empty-via-then-not-is_empty+else-text-eq45 w ↦ w.if-text-eq45.false e
      | else-not-is_empty-via-else-not-is_empty w ↦ absurd
          (grind (arith, nat_tests, w.if-not-is_empty.false, c.is_empty.ensures))
    ] in
    let zero_off : c.digits_end-end-else-not-is_empty.result - 0 ≡
    c.digits_end-end-else-not-is_empty.result = omega arith in
    let m : 2 ^ 64 ≤ digits_value
    (slice_range c.args.text.now 0 c.digits_end-end-else-not-is_empty.result) =
    subst (λ n. 2 ^ 64 ≤ digits_value (take n c.args.text.now)) (sym zero_off)
    c.in_default-number_of.ensures.large in
    omega (
      arith,
      (positive_number c.args.text.now c.digits_end-end-else-not-is_empty.result no_dash
          c.digits_end-end-else-not-is_empty.ensures.each
          c.digits_end-end-else-not-is_empty.ensures.ends run rest z j r k).1,
      m,
    )
