-- A payload that is taken as the next row is the row of the table, and one that isn't is none.
use Rattle.std.proofs.Common.{◌≡◌, List, [], ◌∷◌, Bool, true, false, Some, None, Result, Ok, Err, arith, inl, inr, refl}
use Rattle.std.proofs.Common.{ap, sym, subst, ◌∙◌}
use Rattle.std.specs.Prelude.{◌==◌, ◌&&◌, ℕ, bytes_eq, nat_lt, take}
use Rattle.std.proofs.lemmas.Bool.Decides.{nat_tests}
use Rattle.mysql_columns.specs.Columns.{ColumnDefinition}
use Rattle.mysql_fields.specs.Wire.{◌>>=◌}
use Rattle.mysql_row_refs.specs.RowRefs.{row_of}
use Rattle.mysql_row_refs.specs.declared.errors.RowError.{RowError}
use Rattle.mysql_row_refs.specs.declared.format.RowFormat.{RowFormat}
use Rattle.mysql_rows.specs.Rows.{Row}
use Rattle.mysql_reply_events.specs.declared.context.Context.{Context}
use Rattle.mysql_reply_events.specs.declared.fault.ReplyFault.{ReplyFault}
use Rattle.mysql_reply_events.specs.declared.fault.ReplyFault.TheVariants.{BadRow}
use Rattle.mysql_reply_events.specs.Events.{Awaited, Payload, ReplySoFar}
use Rattle.mysql_reply_events.specs.Events.Awaited.{Columns, ColumnsEnd, Fields, FileData, First, Nothing, Rows}
use Rattle.mysql_reply_events.specs.Events.Event.{RowEvent}
use Rattle.mysql_reply_events.specs.NextRows.{TakesRow, TakesRowAt, is_next_row}
use Rattle.mysql_reply_events.specs.Reader.{ReaderState, is_row_due}
use Rattle.mysql_reply_events.specs.Readings.{has_report_form, has_reports, reports_progress, row}
use Rattle.mysql_reply_events.specs.Standing.{ReadsAt, Standing, format_of, or_bad_row}
use Rattle.mysql_reply_events.specs.Table.{event_at}
use Rattle.mysql_reply_events.proofs.RowsInPlace.{reads_row, row_due, row_is}

other : (first least : ℕ) → nat_lt first 254 ≡ true → nat_lt 253 least ≡ true → (first == least) ≡ false
other first least h k = grind (arith, nat_tests)

never : (x y : Bool) → (x && y && false) ≡ false
never true true = refl
never true false = refl
never false y = refl

starts_none : (b c : Bool) → b ≡ false → (b && c) ≡ false
starts_none b c h = rw h refl

no_report : (c : Context) (first : ℕ) (rest : Payload) → nat_lt first 254 ≡ true →
    has_report_form c (first ∷ rest) ≡ false
no_report c first rest h =
    ap (λ (b : Bool). has_reports c.kind && reports_progress c && b)
    (starts_none (first == 255) (bytes_eq (take 2 rest) (255 ∷ 255 ∷ [])) (other first 255 h refl))
    ∙ never (has_reports c.kind) (reports_progress c)

awaits : (awaited : Awaited) (payload : Payload) → is_next_row awaited payload ≡ true → awaited ≡ Rows true
awaits (Rows true) payload h = refl
awaits (Rows false) payload h = absurd cc
awaits First payload h = absurd cc
awaits (Columns group n earlier) payload h = absurd cc
awaits (ColumnsEnd group known) payload h = absurd cc
awaits Fields payload h = absurd cc
awaits FileData payload h = absurd cc
awaits Nothing payload h = absurd cc

begins : (payload : Payload) → is_next_row (Rows true) payload ≡ true →
    (c : Context) (columns : List ColumnDefinition) →
    is_row_due c (record { awaited = Rows true; columns = Some columns }) payload ≡ true
begins [] h c columns = absurd cc
begins (first ∷ rest) h c columns =
    rw (no_report c first rest h, other first 255 h refl, other first 254 h refl) refl

due_by : (c : Context) (s : ReplySoFar) (payload : Payload) (columns : List ColumnDefinition) → s.awaited ≡ Rows true →
    s.columns ≡ Some columns → is_next_row s.awaited payload ≡ true → is_row_due c s payload ≡ true
due_by c s payload columns awaited stand next =
    let rows : is_next_row (Rows true) payload ≡ true = ap (λ a. is_next_row a payload) (sym awaited) ∙ next in
    let same : s ≡ record { awaited = Rows true; columns = Some columns } =
    (λ i. record { awaited = awaited i; columns = stand i }) in
    ap (λ (s : ReplySoFar). is_row_due c s payload) same ∙ begins payload rows c columns

row_refused : (c : Context) (payload : Payload) (format : RowFormat)
    (columns these : List ColumnDefinition) (error : RowError) →
    format ≡ format_of c.kind → columns ≡ these → row_of format columns payload ≡ Err error →
    row c these payload ≡ Err BadRow
row_refused c payload format columns these error same e none =
    row_is c these payload ∙ (λ i. or_bad_row (row_of (sym same i) (sym e i) payload)) ∙ ap or_bad_row none

refused : (old : ReaderState) (payload : Payload) (format : RowFormat)
    (columns : List ColumnDefinition) (error : RowError) →
    is_row_due old.context old.so_far payload ≡ true → format ≡ format_of old.context.kind →
    old.so_far.columns ≡ Some columns →
    row_of format columns payload ≡ Err error → event_at old.context old.so_far payload ≡ Err BadRow
refused old payload format columns error due same stand none =
    let step = row_due old.context old.so_far payload due in
    let these : columns ≡ step.0 = cc in
    let read = row_refused old.context payload format columns step.0 error same these none in
    step.2 ∙ ap (λ (r : Result Row ReplyFault). r >>= λ found. Ok (
      RowEvent found,
      record old.so_far { awaited = Rows true },
    )) read

-- By what the reader of rows answers.
pub takes : (old new : ReaderState) (payload : Payload) (standing : Standing) (taken : Bool) →
    is_next_row old.so_far.awaited payload ≡ true → standing.columns ≡ old.so_far.columns → standing.reader ≡ old.rows →
    standing.format ≡ format_of old.context.kind → old.fault ≡ None → new ≡ record old { rows = new.rows } →
    TakesRowAt standing payload taken new.rows → TakesRow old payload taken new
takes old new payload standing true next columns rows format fault same took =
    let awaited = awaits old.so_far.awaited payload next in
    let stand : old.so_far.columns ≡ Some took.0 = sym columns ∙ took.1 in
    let due = due_by old.context old.so_far payload took.0 awaited stand next in (
      awaited,
      reads_row old new payload standing.format due format (ap (λ (s : ReaderState). s.context) same)
          (ap (λ (s : ReaderState). s.so_far) same ∙
          ap (λ a. let s : ReplySoFar = record { awaited = a; columns = old.so_far.columns } in
          s) awaited)
          (ap (λ (s : ReaderState). s.fault) same ∙ fault)
          (λ these h. let e : took.0 ≡ these = cc in
          subst (λ (columns : List ColumnDefinition). ReadsAt standing.format columns payload
          (Ok tt) new.rows) e took.2),
    )
takes old new payload standing false next columns rows format fault same (inl none) = (same, inl (sym rows ∙ none))
takes old new payload standing false next columns rows format fault same (inr (these, error, stand, none)) =
    let awaited = awaits old.so_far.awaited payload next in
    let stands : old.so_far.columns ≡ Some these = sym columns ∙ stand in
    let due = due_by old.context old.so_far payload these awaited stands next in
    (same, inr (inr (awaited, refused old payload standing.format these error due format stands none)))
