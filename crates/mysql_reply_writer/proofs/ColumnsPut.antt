-- Columns that are put one by one.
use Rattle.std.proofs.Common.{◌≡◌, ℕ, ◌+◌, ◌≤◌, List, [], ◌∷◌, ◌++◌, length, map, drop, sym, subst}
use Rattle.std.proofs.lemmas.List.{drop_all}
use Rattle.mysql_columns.specs.Columns.{IsColumn, column}
use Rattle.mysql_columns.specs.Views.{column_view}
use Rattle.mysql_columns.specs.declared.column.Column.{Column}
use Rattle.mysql_replies.specs.Views.{column_views}
use Rattle.mysql_reply_writer.specs.declared.refusal.ReplyRefusal.{ReplyRefusal}
use Rattle.mysql_reply_writer.specs.Fits.{ColumnsFit}
use Rattle.mysql_reply_writer.specs.Puts.{Place, Puts, RefusesPayloads}
use Rattle.mysql_reply_writer.proofs.Putting.{PutSoFar, all_put, none_put, put_on, refused_on}

abbrev packets_of : List Column → List (List ℕ)
packets_of columns = map column (column_views columns)

-- so many columns were put
pub record ColumnsPut (room : ℕ) (old now : Place) (columns : List Column) (i : ℕ)
    (before after : List ℕ) : Type 0 where
  pub put : PutSoFar room old (packets_of columns) now (packets_of (drop i columns)) before after
  pub fit : ColumnsFit (column_views (drop i columns)) → ColumnsFit (column_views columns)

pub no_columns_put : (room : ℕ) (old : Place) (columns : List Column) (before : List ℕ) →
    ColumnsPut room old old columns 0 before before
no_columns_put room old columns before = record { put = none_put room old (packets_of columns) before; fit = λ h. h }

module _ (room : ℕ) (old now : Place) (columns : List Column) (i : ℕ) (before mid : List ℕ)
    (s : ColumnsPut room old now columns i before mid) where
  module _ (this : Column) (here : drop i columns ≡ this ∷ drop (i + 1) columns) where
    from_here : PutSoFar room old (packets_of columns) now ((column (column_view this) ∷ []) ++
        packets_of (drop (i + 1) columns)) before mid
    from_here = subst (λ (l : List Column). PutSoFar room old (packets_of columns) now
        (packets_of l) before mid) here s.put

    pub column_put : (new : Place) (after : List ℕ) →
        Puts room now (column (column_view this) ∷ []) new mid after → IsColumn (column_view this) →
        ColumnsPut room old new columns (i + 1) before after
    column_put new after puts is = record {
      put = put_on room old (packets_of columns) now (column (column_view this) ∷
          []) (packets_of (drop (i + 1) columns)) new before mid after from_here puts;
      fit = λ h. s.fit (subst (λ (l : List Column). ColumnsFit (column_views l)) (sym here) (is, h));
    }

    pub column_refused : (refusal : ReplyRefusal) →
        RefusesPayloads room now (column (column_view this) ∷ []) refusal →
        RefusesPayloads room old (packets_of columns) refusal
    column_refused refusal refuses =
        refused_on room old (packets_of columns) now (column (column_view this) ∷
        []) (packets_of (drop (i + 1) columns)) before mid refusal from_here refuses

  pub all_columns_put : length columns ≤ i → Puts room old (packets_of columns) now before mid ×
      ColumnsFit (column_views columns)
  all_columns_put passed =
      let none = drop_all i columns passed in (
        all_put room old (packets_of columns) now before mid
            (subst (λ (l : List Column). PutSoFar room old (packets_of columns) now (packets_of l)
            before mid) none s.put),
        s.fit (subst (λ (l : List Column). ColumnsFit (column_views l)) (sym none) tt),
      )
