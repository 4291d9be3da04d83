use Rattle.std.proofs.Common.{◌≡◌, Some, ◌+◌, length, subst, rules}
use Rattle.std.specs.Prelude.{sum_by, unwrap_or}
use Rattle.mysql_bulk_builder.specs.Builder.{Builder, HasArity, HasRoom, rows_with, with_row}
use Rattle.mysql_bulk_builder.specs.BuilderView.{builder_of, values_in}
use Rattle.mysql_bulk_builder.specs.Cut.{row_size}
use Rattle.mysql_bulk_builder.specs.FlatRows.{rows_from}
use Rattle.mysql_bulk_builder.proofs.Kept.{closed}
use Rattle.mysql_bulk_builder.proofs.builder.ComStmtBulkExecuteRequestBuilder.add_row.Goals as goal

pub invariant_of-self-2 : goal.invariant_of-self-2
invariant_of-self-2 c =
    let has : HasArity (builder_of c.self.inside) c.args.row.items = search rules in
    let room : HasRoom (builder_of c.self.inside) c.args.row.items = search rules in
    let bytes : c.in-Some-with_one_more.held ≡
    sum_by row_size (rows_with (builder_of c.self.inside) c.args.row.items) = search rules in
    let counted : c.in-Some-with_one_more.count ≡
    length (rows_from c.self.inside.count (unwrap_or c.self.inside.arity 0)
    (values_in c.self.inside.values.items)) + 1 = search rules in
    let columns : c.len-arity.result ≡ length c.args.row.items = search rules in
    (closed c.self.inside c.args.row.items c.len-arity.result c.in-Some-with_one_more.held
    c.in-Some-with_one_more.count c.append_row.new.values c.self.invariant has room bytes
    counted columns c.in_ok-append_row.ensures.ok).0

pub returns-clause-adds : goal.returns-clause-adds
returns-clause-adds c =
    let has : HasArity (builder_of c.self.inside) c.args.row.items = search rules in
    let room : HasRoom (builder_of c.self.inside) c.args.row.items = search rules in
    let bytes : c.in-Some-with_one_more.held ≡
    sum_by row_size (rows_with (builder_of c.self.inside) c.args.row.items) = search rules in
    let counted : c.in-Some-with_one_more.count ≡
    length (rows_from c.self.inside.count (unwrap_or c.self.inside.arity 0)
    (values_in c.self.inside.values.items)) + 1 = search rules in
    let columns : c.len-arity.result ≡ length c.args.row.items = search rules in
    let new = (closed c.self.inside c.args.row.items c.len-arity.result c.in-Some-with_one_more.held
    c.in-Some-with_one_more.count c.append_row.new.values c.self.invariant has room bytes
    counted columns c.in_ok-append_row.ensures.ok).1 in
    subst (λ (b : Builder). HasArity b c.args.row.items × HasRoom b c.args.row.items ×
    (builder_of (record c.self.inside {
      arity = Some c.len-arity.result;
      held =
          c.in-Some-with_one_more.held;
      count = c.in-Some-with_one_more.count;
      values =
          c.append_row.new.values;
    }) ≡ with_row b c.args.row.items)) c.self.view_is (has, room, new)
