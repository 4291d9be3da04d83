-- A row that was borrowed where nothing else is listed is as one that was handed out.
use Rattle.std.proofs.Common.{◌≡◌, ℕ, zero, suc, List, [], ◌∷◌, ◌++◌, None, Ok, refl, ap, sym, subst, arith, ◌∙◌}
use Rattle.mysql_columns.specs.Columns.{ColumnDefinition}
use Rattle.mysql_rows.specs.Rows.{Row}
use Rattle.mysql_wire.specs.Bytes.{AreBytes}
use Rattle.mysql_replies.specs.Together.{Outcome, RowsPart, RowsResult}
use Rattle.mysql_replies.specs.Borrowing.{BorrowedRowsAreHandedOut}
use Rattle.mysql_replies.specs.Reply.{OpenReply, ReplySoFar, GoingOn}
use Rattle.mysql_replies.specs.Taking.{Runs, feeds, part_of, results_in, takes_results, without_results}

front_bytes : (front back : List ℕ) → AreBytes (front ++ back) → AreBytes front
front_bytes [] back are i = omega arith
front_bytes (x ∷ front) back are zero = are zero
front_bytes (x ∷ front) back are (suc i) = front_bytes front back (λ j. are (suc j)) i

no_front : (front back : List Outcome) → front ++ back ≡ [] → (front ≡ []) × (back ≡ [])
no_front [] back none = (refl, none)
no_front (x ∷ front) back none = absurd cc

no_rows : (columns : List ColumnDefinition) (rows : List Row) → part_of (RowsPart columns rows) ≡ [] → rows ≡ []
no_rows columns [] none = refl
no_rows columns (row ∷ rows) none = absurd cc

pub borrowed_out : BorrowedRowsAreHandedOut
borrowed_out c first_id limit pieces taken reports old new piece rest row run are borrowed none =
    let s = borrowed.s in
    let listed = no_front s.results (part_of s.part) (ap results_in (sym borrowed.going) ∙ none) in
    let empty : borrowed.rows ≡ [] =
    no_rows borrowed.columns borrowed.rows (ap part_of (sym borrowed.part) ∙ listed.1) in
    let kept : OpenReply = record s { part = RowsPart borrowed.columns (borrowed.rows ++ row ∷ []) } in
    let alone : results_in (GoingOn kept) ≡ RowsResult borrowed.columns (row ∷ []) None ∷ [] =
    ap (λ (k : List Outcome). k ++ part_of (RowsPart borrowed.columns (borrowed.rows ++ row ∷ [])))
    listed.0 ∙ ap (λ (these : List Row). part_of
    (RowsPart borrowed.columns (these ++ row ∷ []))) empty in
    let left : without_results (GoingOn kept) ≡ new.so_far =
    sym (borrowed.going ∙ (λ i. GoingOn
    (record s {
      results = listed.0 i;
      part =
          (borrowed.part ∙ ap (RowsPart borrowed.columns) empty) i;
    }))) in
    let used : AreBytes borrowed.used = front_bytes borrowed.used rest (subst AreBytes borrowed.cut are) in
    let fed = feeds borrowed.used (Ok tt) (record new { so_far = GoingOn kept }) run used borrowed.feeds in
    subst (λ (x : ReplySoFar). Runs c first_id limit (pieces ++ borrowed.used ∷ []) (taken ++
    RowsResult borrowed.columns (row ∷ []) None ∷ []) reports (record new { so_far = x })) left
    (subst (λ (l : List Outcome). Runs c first_id limit (pieces ++ borrowed.used ∷ []) (taken ++
    l) reports (record new { so_far = without_results (GoingOn kept) })) alone
    (takes_results fed))
