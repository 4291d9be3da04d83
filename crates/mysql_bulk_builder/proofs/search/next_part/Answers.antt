use Rattle.std.proofs.Common.{◌<◌, ◌-◌, length, take, drop, arith}
use Rattle.std.proofs.lemmas.List.{take_rest}
use Rattle.mysql_bulk_builder.proofs.LongestPart.{longest_typed, longest_untyped, tight_typed, tight_untyped}
use Rattle.mysql_bulk_builder.specs.RowLists.{rows_in}
use Rattle.mysql_bulk_builder.proofs.search.next_part.Goals as goal

pub returns-then-typed-untyped-clause-tight : goal.returns-then-typed-untyped-clause-tight
returns-then-typed-untyped-clause-tight c =
    let t = longest_typed c.args.room c.args.columns c.args.rows.now c.args.sizes.now
    (take (length c.args.sizes.now - c.args.start) (drop c.args.start c.args.sizes.now))
    c.args.start c.requires.sizes (take_rest c.args.sizes.now c.args.start) c.requires.start
    c.requires.fits
    c.longest_within-typed.result c.longest_within-typed.ensures.within
    c.longest_within-typed.ensures.fits c.longest_within-typed.ensures.longest in
    let u = longest_untyped c.args.room c.args.columns c.args.rows.now c.args.sizes.now
    (take (length c.args.sizes.now - c.args.start) (drop c.args.start c.args.sizes.now))
    c.args.start c.requires.sizes (take_rest c.args.sizes.now c.args.start) c.requires.start
    c.requires.fits
    (take (length c.args.rows.now - c.args.start) (drop c.args.start c.args.rows.now))
    (take_rest c.args.rows.now c.args.start) c.args.seen.now c.longest_within-within.result
    c.longest_known-untyped.result c.if-start-gt0.true c.requires.seen
    c.longest_within-within.ensures.fits c.longest_within-within.ensures.longest
    c.longest_known-untyped.ensures.known c.longest_known-untyped.ensures.longest
    c.longest_known-untyped.ensures.within in
    let some : 0 < c.longest_known-untyped.result = omega (arith, t.2, c.if-typed-untyped.true) in
    tight_untyped c.args.room c.args.columns (rows_in c.args.rows.now) c.args.start
    c.longest_within-typed.result c.longest_known-untyped.result some t.0 u
    c.if-typed-untyped.true

pub returns-then-typed-untyped-clause-some : goal.returns-then-typed-untyped-clause-some
returns-then-typed-untyped-clause-some c =
    let t = longest_typed c.args.room c.args.columns c.args.rows.now c.args.sizes.now
    (take (length c.args.sizes.now - c.args.start) (drop c.args.start c.args.sizes.now))
    c.args.start c.requires.sizes (take_rest c.args.sizes.now c.args.start) c.requires.start
    c.requires.fits
    c.longest_within-typed.result c.longest_within-typed.ensures.within
    c.longest_within-typed.ensures.fits c.longest_within-typed.ensures.longest in
    omega (arith, t.2, c.if-typed-untyped.true)

pub returns-else-typed-untyped-clause-tight : goal.returns-else-typed-untyped-clause-tight
returns-else-typed-untyped-clause-tight c =
    let t = longest_typed c.args.room c.args.columns c.args.rows.now c.args.sizes.now
    (take (length c.args.sizes.now - c.args.start) (drop c.args.start c.args.sizes.now))
    c.args.start c.requires.sizes (take_rest c.args.sizes.now c.args.start) c.requires.start
    c.requires.fits
    c.longest_within-typed.result c.longest_within-typed.ensures.within
    c.longest_within-typed.ensures.fits c.longest_within-typed.ensures.longest in
    let u = longest_untyped c.args.room c.args.columns c.args.rows.now c.args.sizes.now
    (take (length c.args.sizes.now - c.args.start) (drop c.args.start c.args.sizes.now))
    c.args.start c.requires.sizes (take_rest c.args.sizes.now c.args.start) c.requires.start
    c.requires.fits
    (take (length c.args.rows.now - c.args.start) (drop c.args.start c.args.rows.now))
    (take_rest c.args.rows.now c.args.start) c.args.seen.now c.longest_within-within.result
    c.longest_known-untyped.result c.if-start-gt0.true c.requires.seen
    c.longest_within-within.ensures.fits c.longest_within-within.ensures.longest
    c.longest_known-untyped.ensures.known c.longest_known-untyped.ensures.longest
    c.longest_known-untyped.ensures.within in
    tight_typed c.args.room c.args.columns (rows_in c.args.rows.now) c.args.start
    c.longest_within-typed.result t.2 t.1 t.0
    (λ later. (c.longest_known-untyped.result, u, c.if-typed-untyped.false))

pub returns-else-start-gt0-clause-tight : goal.returns-else-start-gt0-clause-tight
returns-else-start-gt0-clause-tight c =
    let t = longest_typed c.args.room c.args.columns c.args.rows.now c.args.sizes.now
    (take (length c.args.sizes.now - c.args.start) (drop c.args.start c.args.sizes.now))
    c.args.start c.requires.sizes (take_rest c.args.sizes.now c.args.start) c.requires.start
    c.requires.fits
    c.longest_within-typed.result c.longest_within-typed.ensures.within
    c.longest_within-typed.ensures.fits c.longest_within-typed.ensures.longest in
    tight_typed c.args.room c.args.columns (rows_in c.args.rows.now) c.args.start
    c.longest_within-typed.result t.2 t.1 t.0
    (λ later. absurd (omega (arith, later, c.if-start-gt0.false)))

pub returns-else-start-gt0-clause-some : goal.returns-else-start-gt0-clause-some
returns-else-start-gt0-clause-some c =
    let t = longest_typed c.args.room c.args.columns c.args.rows.now c.args.sizes.now
    (take (length c.args.sizes.now - c.args.start) (drop c.args.start c.args.sizes.now))
    c.args.start c.requires.sizes (take_rest c.args.sizes.now c.args.start) c.requires.start
    c.requires.fits
    c.longest_within-typed.result c.longest_within-typed.ensures.within
    c.longest_within-typed.ensures.fits c.longest_within-typed.ensures.longest in
    t.2
