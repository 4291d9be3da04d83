-- What is kept behind a row that was put, and what stands then.
use Rattle.std.proofs.Common.{◌≡◌, ◌≤◌, ◌+◌, ℕ, Ok, arith, None, ap, subst, sym, ◌∙◌}
use Rattle.mysql_connection_rules.specs.Standing.{about_size}
use Rattle.mysql_connection_rules.specs.Steps.{about_after, changed_by, reply_after}
use Rattle.mysql_connection_statements.specs.Statements.{Statements}
use Rattle.mysql_reply_events.specs.Events.{Event as ReplySaid}
use Rattle.mysql_reply_events.specs.Events.Event.{RowEvent}
use Rattle.mysql_reply_events.specs.Reader.{ReaderState}
use Rattle.mysql_rows.specs.Rows.{Row}
use Rattle.mysql_connection_state.proofs.Parts.{no_change}
use Rattle.mysql_connection_state.specs.Follows.{IsPassed, Passes, going_size, kept_behind, next_of}
use Rattle.mysql_connection_state.specs.Views.{about_view, in_reply_view}
use Rattle.mysql_connection_state.specs.declared.due.InReply.{InReply as HeldReply}

-- what is kept behind it, whatever its payload counts
row_kept : (old : HeldReply) (size : ℕ) (row : Row) (s : Statements) →
    going_size (about_view old.about) 0 (RowEvent row) s + (old.earlier + old.coming) ≡
    kept_behind old size (RowEvent row) s
row_kept old size row s =
    let about = about_view old.about in
    let kept_for : Statements → ℕ = λ these. these.stored + about_size these (about_after about (RowEvent row)) in
    let same : kept_for (changed_by about 0 (RowEvent row) s) ≡ kept_for (changed_by about size (RowEvent row) s) =
    ap kept_for (no_change about 0 row s) ∙ sym (ap kept_for (no_change about size row s)) in
    omega (arith, same)

-- a reader that was passed a row
abbrev passed : HeldReply → Row → ReaderState
passed old row = record old.reader { so_far = next_of old (RowEvent row) }

row_passed : (old new : HeldReply) (size : ℕ) (row : Row) (s : Statements) → old.reader.fault ≡
    None → new.reader ≡ passed old row →
    in_reply_view new ≡ reply_after (in_reply_view (record old { reader = passed old row })) size
    (RowEvent row) (next_of old (RowEvent row)) →
    IsPassed old s size (RowEvent row) new s
row_passed old new size row s going reader came = record {
  reply = came;
  goes_on = record {
    context = ap (λ (r : ReaderState). r.context) reader;
    fault = ap (λ (r : ReaderState). r.fault) reader ∙ going;
  };
  statements = sym (no_change (about_view old.about) size row s);
}

pub passes_row : (old new : HeldReply) (size room total : ℕ) (event : ReplySaid) (row : Row)
    (s : Statements) → event ≡ RowEvent row →
    old.reader.fault ≡ None → new.reader ≡ record old.reader { so_far = next_of old event } →
    in_reply_view new ≡ reply_after
    (in_reply_view (record old { reader = record old.reader { so_far = next_of old event } }))
    size (RowEvent row) (next_of old event) →
    total ≡ going_size (about_view old.about) 0 event s + (old.earlier + old.coming) → total ≤ room →
    Passes old s size event room (Ok tt) new s
passes_row old new size room total event row s is going reader came sum within =
    subst (λ (e : ReplySaid). new.reader ≡ record old.reader { so_far = next_of old e } →
    in_reply_view new ≡ reply_after
    (in_reply_view (record old { reader = record old.reader { so_far = next_of old e } })) size
    (RowEvent row) (next_of old e) →
    total ≡ going_size (about_view old.about) 0 e s + (old.earlier + old.coming) →
    Passes old s size e room (Ok tt) new s) (sym is)
    (λ reader came sum. (
      row_passed old new size row s going reader came,
      subst (λ (n : ℕ). n ≤ room) (sum ∙ row_kept old size row s) within,
    )) reader came sum
