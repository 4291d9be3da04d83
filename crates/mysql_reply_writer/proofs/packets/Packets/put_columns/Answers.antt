use Rattle.std.proofs.Common.{ℕ, List, [], ◌∷◌, refl, ap, length, subst, take, ◌∙◌, arith}
use Rattle.std.proofs.lemmas.List.{take_all}
use Rattle.std.proofs.lemmas.Result.{err_from_is_err_and}
use Rattle.mysql_columns.specs.Columns.{column}
use Rattle.mysql_columns.specs.Views.{column_view}
use Rattle.mysql_reply_writer.specs.Puts.{Puts, RefusesPayloads}
use Rattle.mysql_reply_writer.specs.Views.{place_view}
use Rattle.mysql_reply_writer.proofs.ColumnsPut.{all_columns_put, column_put, column_refused, no_columns_put}
use Rattle.mysql_reply_writer.proofs.Items.{next_item}
use Rattle.mysql_reply_writer.proofs.Joined.{kept_on}
use Rattle.mysql_reply_writer.proofs.packets.Packets.put_columns.Goals as goal

pub columns-init : goal.columns-init
columns-init c = (
  refl,
  no_columns_put c.args.self.now.limit (place_view c.args.self.now)
      c.args.columns.now c.args.out.now.items,
)

pub columns-preserved : goal.columns-preserved
columns-preserved c =
    let same = c.columns.invariant.0 in (
      c.put.ensures.limit ∙ same,
      column_put c.args.self.now.limit (place_view c.args.self.now) (place_view c.columns.self)
          c.args.columns.now c.columns.column-index c.args.out.now.items c.columns.out.items
          c.columns.invariant.1
          c.column-item.result (next_item c.args.columns.now c.columns.column-index
          c.column-item.result c.columns-test.true c.column-item.is) (place_view c.put.new.self)
          c.put.new.out.items
          (subst (λ (n : ℕ). Puts n (place_view c.columns.self)
          (column (column_view c.column-item.result) ∷ []) (place_view c.put.new.self)
          c.columns.out.items c.put.new.out.items) same c.in_ok-put.ensures.ok)
          c.column_fits.ensures,
    )

pub returns-in_err-put-clause-err : goal.returns-in_err-put-clause-err
returns-in_err-put-clause-err c =
    let p = err_from_is_err_and c.from_residual.result c.from_residual.ensures.1 in
    rw (p.1, p.2) (column_refused c.args.self.now.limit (place_view c.args.self.now)
    (place_view c.columns.self) c.args.columns.now c.columns.column-index c.args.out.now.items
    c.columns.out.items c.columns.invariant.1
    c.column-item.result (next_item c.args.columns.now c.columns.column-index c.column-item.result
    c.columns-test.true c.column-item.is) c.in_err-put.field-0.0
    (subst (λ (n : ℕ). RefusesPayloads n (place_view c.columns.self)
    (column (column_view c.column-item.result) ∷ []) c.in_err-put.field-0.0)
    c.columns.invariant.0 c.in_err-put.ensures.err))

pub returns-in_err-put-clause-kept : goal.returns-in_err-put-clause-kept
returns-in_err-put-clause-kept c =
    kept_on c.args.out.now.items c.columns.out.items c.put.new.out.items c.columns.invariant.1.put.kept
    (ap (λ (l : List ℕ). take (length c.columns.out.items) l) c.in_err-put.ensures.kept ∙
    take_all (length c.columns.out.items) c.columns.out.items (omega arith))

pub returns-in_err-put-clause-limit : goal.returns-in_err-put-clause-limit
returns-in_err-put-clause-limit c = c.put.ensures.limit ∙ c.columns.invariant.0

pub returns-clause-ok : goal.returns-clause-ok
returns-clause-ok c =
    (all_columns_put c.args.self.now.limit (place_view c.args.self.now) (place_view c.columns.self)
    c.args.columns.now c.columns.column-index c.args.out.now.items c.columns.out.items
    c.columns.invariant.1 (omega arith)).0

pub returns-clause-fit : goal.returns-clause-fit
returns-clause-fit c =
    (all_columns_put c.args.self.now.limit (place_view c.args.self.now) (place_view c.columns.self)
    c.args.columns.now c.columns.column-index c.args.out.now.items c.columns.out.items
    c.columns.invariant.1 (omega arith)).1

pub returns-clause-kept : goal.returns-clause-kept
returns-clause-kept c = c.columns.invariant.1.put.kept

pub returns-clause-limit : goal.returns-clause-limit
returns-clause-limit c = c.columns.invariant.0
