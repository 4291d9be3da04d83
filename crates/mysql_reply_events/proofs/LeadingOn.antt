-- What a payload leads to is what its event leads to.
use Rattle.std.proofs.Common.{◌≡◌, ℕ, List, Bool, true, false, Option, Some, None, Result, Ok, Err, refl, ap, sym, ◌∙◌}
use Rattle.std.specs.Prelude.{◌&&◌, ◌||◌, ◌==◌, length, if◌then◌else◌}
use Rattle.mysql_columns.specs.Columns.{ColumnDefinition}
use Rattle.mysql_fields.specs.Wire.{◌>>=◌}
use Rattle.mysql_row_refs.specs.Lines.{begins_with}
use Rattle.mysql_reply_events.specs.declared.context.Context.{Context}
use Rattle.mysql_reply_events.specs.declared.context.ReplyKind.{ReplyKind}
use Rattle.mysql_reply_events.specs.declared.context.ReplyKind.TheVariants as kinds
use Rattle.mysql_reply_events.specs.declared.fault.ReplyFault.{ReplyFault}
use Rattle.mysql_reply_events.specs.declared.fault.ReplyFault.TheVariants.{BadCount, BadRow}
use Rattle.mysql_reply_events.specs.Behind.{EventsLeadOn, behind}
use Rattle.mysql_reply_events.specs.Events.{Awaited, Event, Payload, ReplySoFar}
use Rattle.mysql_reply_events.specs.Events.Awaited.{Columns, ColumnsEnd, Fields, FileData, First, Nothing, Rows}
use Rattle.mysql_reply_events.specs.Events.Event.{CountEvent, RawRowEvent, RowEvent}
use Rattle.mysql_reply_events.specs.Events.Group.{ResultSet}
use Rattle.mysql_reply_events.specs.Readings.{begins_ok, begins_terminator, column, column_count, eof, field}
use Rattle.mysql_reply_events.specs.Readings.{has_report_form}
use Rattle.mysql_reply_events.specs.Readings.{ok_packet, optional_metadata, prepared, report, row, server_error}
use Rattle.mysql_reply_events.specs.Readings.{terminator}
use Rattle.mysql_reply_events.specs.Table.{Step, after_columns, after_count, count_step, error_or, error_step, event_at}
use Rattle.mysql_reply_events.specs.Table.{first}
use Rattle.mysql_reply_events.specs.Table.{first_of_result, first_of_statement, goes_on, in_end, in_fields, in_place}
use Rattle.mysql_reply_events.specs.Table.{in_rows, is_due, ok_step}
use Rattle.mysql_reply_events.specs.Table.{plain, row_event, stand}

-- A step leads to what its event leads to.
abbrev pub LeadsOn : Context → ReplySoFar → Step → Type 0
LeadsOn c s (Ok x) = x.1 ≡ behind c s x.0
LeadsOn c s (Err fault) = Unit {0}

by_test : (c : Context) (s : ReplySoFar) (b : Bool) (x y : Step) → LeadsOn c s x → LeadsOn c s y →
    LeadsOn c s (if b then x else y)
by_test c s true x y h k = h
by_test c s false x y h k = k

by_read : {A : Type 0} (c : Context) (s : ReplySoFar) (r : Result A ReplyFault) (f : A → Step) →
    ((a : A) → LeadsOn c s (f a)) → LeadsOn c s (r >>= f)
by_read c s (Ok a) f h = h a
by_read c s (Err fault) f h = tt

-- What ends results, and what stands alone.
errors : (c : Context) (s : ReplySoFar) (payload : Payload) → LeadsOn c s (error_step c s payload)
errors c s payload = by_read c s (server_error c payload) _ (λ error. refl)

ends : (c : Context) (s : ReplySoFar) (payload : Payload) → LeadsOn c s (in_end c s payload)
ends c s payload = by_read c s (terminator c payload) _ (λ ok. refl)

oks : (c : Context) (s : ReplySoFar) (payload : Payload) → LeadsOn c s (ok_step c s payload)
oks c s payload = by_read c s (ok_packet c payload) _ (λ ok. refl)

-- A count of columns.
unlisted : (c : Context) (s : ReplySoFar) (n : ℕ) (b : Bool) →
    LeadsOn c s ((if b then Ok (after_columns c ResultSet (stand c n s.columns)) else Err BadCount)
    >>= λ next. goes_on s (CountEvent n false) next)
unlisted c s n true = refl
unlisted c s n false = tt

counted : (c : Context) (s : ReplySoFar) (n : ℕ) (follow : Bool) →
    LeadsOn c s (after_count c s.columns (n, follow) >>= λ next. goes_on s (CountEvent n follow) next)
counted c s n true = refl
counted c s n false = unlisted c s n (stand c n s.columns || optional_metadata c)

counts : (c : Context) (s : ReplySoFar) (payload : Payload) → LeadsOn c s (count_step c s payload)
counts c s payload = by_read c s (column_count c payload) _ (λ count. counted c s count.0 count.1)

-- Rows, where they are awaited, or a fetch's first one.
raw_rows : (c : Context) (s : ReplySoFar) (known : Bool) (payload : Payload) (b : Bool) →
    Rows known ≡ (behind c s (RawRowEvent payload)).awaited →
    LeadsOn c s ((if b then Ok (RawRowEvent payload) else Err BadRow) >>= λ event. goes_on s event (Rows known))
raw_rows c s known payload true h =
    ap (λ (awaited : Awaited). let next : ReplySoFar =
    record { awaited = awaited; columns = s.columns } in next) h
raw_rows c s known payload false h = tt

a_row : (c : Context) (awaited : Awaited) (columns : Option (List ColumnDefinition)) (known : Bool)
    (payload : Payload) →
    Rows known ≡ (behind c (record { awaited = awaited; columns = columns }) (RawRowEvent payload)).awaited →
    LeadsOn c (record { awaited = awaited; columns = columns })
    (row_event c known columns payload >>= λ event. goes_on
    (record { awaited = awaited; columns = columns }) event (Rows known))
a_row c awaited (Some columns) true payload h = a_known_row (row c columns payload)
  where
    a_known_row : (r : Result _ ReplyFault) → LeadsOn c (record { awaited = awaited; columns = Some columns })
        ((r >>= λ found. Ok (RowEvent found)) >>= λ event. goes_on
        (record { awaited = awaited; columns = Some columns }) event (Rows true))
    a_known_row (Ok found) = refl
    a_known_row (Err fault) = tt
a_row c awaited None true payload h =
    raw_rows c (record { awaited = awaited; columns = None }) true payload (optional_metadata c) h
a_row c awaited columns false payload h =
    raw_rows c (record { awaited = awaited; columns = columns }) false payload (optional_metadata c)
    h

rows : (c : Context) (s : ReplySoFar) (known : Bool) (payload : Payload) → Rows known ≡
    (behind c s (RawRowEvent payload)).awaited →
    LeadsOn c s (in_rows c s known payload)
rows c s known payload h =
    by_test c s (begins_terminator c payload) _ _ (ends c s payload)
    (a_row c s.awaited s.columns known payload h)

-- Columns of a table.
fields : (c : Context) (s : ReplySoFar) (payload : Payload) → LeadsOn c s (in_fields c s payload)
fields c s payload = by_test c s (begins_terminator c payload) _ _ (ends c s payload)
    (by_read c s (field c payload) _ (λ field. refl))

-- First payloads.
results : (c : Context) (s : ReplySoFar) (payload : Payload) → LeadsOn c s (first_of_result c s payload)
results c s payload =
    by_test c s (begins_ok c payload) _ _ (oks c s payload)
    (by_test c s (begins_with 251 payload) _ _ refl
    (by_test c s (length payload == 0) _ _ tt (counts c s payload)))

statements : (c : Context) (s : ReplySoFar) (payload : Payload) → LeadsOn c s (first_of_statement c s payload)
statements c s payload = by_test c s (begins_with 0 payload) _ _ (by_read c s (prepared c payload) _ (λ x. refl)) tt

plains : (c : Context) (s : ReplySoFar) (payload : Payload) → LeadsOn c s (plain c s payload)
plains c s payload =
    by_test c s (begins_with 0 payload) _ _ (oks c s payload)
    (by_test c s (begins_terminator c payload) _ _ (ends c s payload) tt)

firsts : (c : Context) (columns : Option (List ColumnDefinition)) (kind : ReplyKind) (payload : Payload) →
    LeadsOn c (record { awaited = First; columns = columns })
    (first c (record { awaited = First; columns = columns }) kind payload)
firsts c columns kinds.Text payload = results c _ payload
firsts c columns kinds.Binary payload = results c _ payload
firsts c columns kinds.Prepare payload = statements c _ payload
firsts c columns kinds.Plain payload = plains c _ payload
firsts c columns kinds.Line payload = refl
firsts c columns kinds.FieldList payload = fields c _ payload
firsts c columns kinds.Fetch payload = rows c (record { awaited = First; columns = columns }) true payload refl

-- What is in its place.
or_errors : (c : Context) (s : ReplySoFar) (payload : Payload) (x : Step) → LeadsOn c s x →
    LeadsOn c s (error_or c s payload x)
or_errors c s payload x h = by_test c s (begins_with 255 payload) _ x (errors c s payload) h

places : (c : Context) (awaited : Awaited) (columns : Option (List ColumnDefinition)) (payload : Payload) →
    LeadsOn c (record { awaited = awaited; columns = columns })
    (in_place c (record { awaited = awaited; columns = columns }) awaited payload)
places c First columns payload = or_errors c _ payload _ (firsts c columns c.kind payload)
places c (Columns group n earlier) columns payload = by_read c _ (column c payload) _ (λ column. refl)
places c (ColumnsEnd group known) columns payload = by_read c _ (eof payload) _ (λ ok. refl)
places c (Rows known) columns payload =
    or_errors c _ payload _ (rows c (record { awaited = Rows known; columns = columns }) known
    payload refl)
places c Fields columns payload = or_errors c _ payload _ (fields c _ payload)
places c FileData columns payload = tt
places c Nothing columns payload = tt

pub leads_on : (c : Context) (s : ReplySoFar) (payload : Payload) → LeadsOn c s (event_at c s payload)
leads_on c s payload =
    by_test c s (is_due s.awaited && has_report_form c payload) _ _ (by_read c s (report payload) _ (λ report. refl))
    (places c s.awaited s.columns payload)

next_is : (c : Context) (s : ReplySoFar) (step : Step) (event : Event) (next : ReplySoFar) →
    LeadsOn c s step → step ≡ Ok (event, next) → next ≡ behind c s event
next_is c s (Ok x) event next h e =
    let pair : x ≡ (event, next) = cc in
    sym (ap (λ (p : Event × ReplySoFar). p.1) pair) ∙ h ∙ ap (λ (p : Event × ReplySoFar). behind c s p.0) pair
next_is c s (Err fault) event next h e = absurd cc

pub events_lead_on : EventsLeadOn
events_lead_on c s payload event next e = next_is c s (event_at c s payload) event next (leads_on c s payload) e
