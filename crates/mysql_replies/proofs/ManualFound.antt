-- What the table makes of a payload is what the manual calls it.
use Rattle.std.proofs.Common.{◌≡◌, ℕ, ◌-◌, List, [], ◌∷◌, length, Bool, true, false, Some, Ok, Err, refl, ap, sym}
use Rattle.std.proofs.Common.{subst, ◌∙◌, if◌then◌else◌}
use Rattle.std.specs.Prelude.{◌==◌, ◌&&◌, nat_lt, drop}
use Rattle.std.proofs.lemmas.Bool.{true≢false, eqb-true, ltb-true, and_parts}
use Rattle.std.proofs.lemmas.List.{nil_from_length}
use Rattle.mysql_fields.specs.Forms.{lenenc_number_at}
use Rattle.mysql_fields.specs.Wire.{Reading, ◌>>=◌}
use Rattle.mysql_columns.specs.Columns.{ColumnDefinition}
use Rattle.mysql_columns.specs.Extended.{ExtendedDefinition, extended_column_at}
use Rattle.mysql_ok_packets.specs.OkPackets.{OkPacket, ok_packet_at, old_eof_at, result_set_terminator_at}
use Rattle.mysql_server_packets.specs.Packets.{PrepareOk, ServerError, error_at, prepare_ok_at}
use Rattle.mysql_row_refs.specs.Lines.{begins_with}
use Rattle.mysql_rows.specs.Rows.{Row}
use Rattle.mysql_reply_events.specs.Events.{Event, Group, Payload, ReplySoFar}
use Rattle.mysql_reply_events.specs.Events.Awaited.{Columns, FileData, First, Nothing, Rows}
use Rattle.mysql_reply_events.specs.Events.Event.{ColumnEvent, ColumnsEndEvent, CountEvent, ErrorEvent, FileEvent}
use Rattle.mysql_reply_events.specs.Events.Event.{OkEvent, PreparedEvent, RowEvent, RowsEndEvent}
use Rattle.mysql_reply_events.specs.Events.Group.{ResultSet}
use Rattle.mysql_reply_events.specs.Readings.{begins_ok, begins_terminator, cached_metadata, count_at, deprecate_eof}
use Rattle.mysql_reply_events.specs.Readings.{mariadb, optional_metadata, or_fault, prepared_at, protocol}
use Rattle.mysql_reply_events.specs.Readings.{whole_or_fault, within}
use Rattle.mysql_reply_events.specs.Table.{Step, after_columns_end, after_count, after_result, after_statement}
use Rattle.mysql_reply_events.specs.Table.{column_came, error_or, first, goes_on, has_results, in_columns}
use Rattle.mysql_reply_events.specs.Table.{in_columns_end, in_place, in_rows, with_column}
use Rattle.mysql_reply_events.specs.declared.context.Context.{Context}
use Rattle.mysql_reply_events.specs.declared.fault.ReplyFault.{ReplyFault}
use Rattle.mysql_reply_events.specs.declared.fault.ReplyFault.TheVariants.{BadColumn, BadCount, BadError, BadOk}
use Rattle.mysql_reply_events.specs.declared.fault.ReplyFault.TheVariants.{BadPrepare, BadRow, BadTerminator}
use Rattle.mysql_replies.specs.Manual.{IsColumnPacket, IsCount, IsEof, IsError, IsOk, IsRow, IsTerminator, Reads}
use Rattle.mysql_replies.specs.Manual.{is_prepare, row_at}
use Rattle.mysql_replies.proofs.Fitting.{OnStep}
use Rattle.mysql_replies.proofs.ManualReadings.{first_is, statement_is}

by_test : (P : Event → ReplySoFar → Type 0) (b : Bool) (one other : Step) →
    (b ≡ true → OnStep P one) → (b ≡ false → OnStep P other) → OnStep P (if b then one else other)
by_test P true one other yes_is no_is = yes_is refl
by_test P false one other yes_is no_is = no_is refl

by_reading : {A : Type 0} (P : Event → ReplySoFar → Type 0) (fault : ReplyFault) (r : Reading A)
    (f : A → Step) → ((a : A) → Reads r a → OnStep P (f a)) → OnStep P (or_fault fault r >>= f)
by_reading P fault (Ok x) f each = each x.0 (x.1, refl)
by_reading P fault (Err e) f each = tt

abbrev read_as : {A : Type 0} → A → List ℕ → Reading A
read_as a left = Ok (a, left)

nothing_left : {A : Type 0} (a : A) (left : List ℕ) → (length left == 0) ≡ true → read_as a left ≡ read_as a []
nothing_left a left none = ap (read_as a) (nil_from_length left (eqb-true (length left) 0 none))

-- FIRST PAYLOADS

pub data FirstIs (c : Context) (s : ReplySoFar) (payload : Payload) : Event → ReplySoFar → Type 0 where
  ok_first : {ok : OkPacket} → IsOk c payload ok →
      FirstIs c s payload (OkEvent ok) (record s { awaited = after_result c ok })
  error_first : {error : ServerError} → IsError c payload error →
      FirstIs c s payload (ErrorEvent error) (record s { awaited = Nothing })
  file_first : {name : List ℕ} → payload ≡ 251 ∷ name →
      FirstIs c s payload (FileEvent name) (record s { awaited = FileData })
  count_first : {n : ℕ} → IsCount c payload n →
      FirstIs c s payload (CountEvent n true) (record s { awaited = Columns ResultSet (n - 1) [] })

begins_as : (b : ℕ) (payload : Payload) → begins_with b payload ≡ true → payload ≡ b ∷ drop 1 payload
begins_as b [] begins = absurd (true≢false (sym begins))
begins_as b (first_one ∷ rest) begins = ap (λ (x : ℕ). x ∷ rest) (eqb-true first_one b begins)

error_found : (c : Context) (s : ReplySoFar) (P : Event → ReplySoFar → Type 0) (payload : Payload)
    (otherwise : Step) → ((error : ServerError) → IsError c payload error →
    P (ErrorEvent error) (record s { awaited = Nothing })) →
    (begins_with 255 payload ≡ false → OnStep P otherwise) →
    OnStep P (error_or c s payload otherwise)
error_found c s P payload otherwise each no_error =
    by_test P (begins_with 255 payload) _ otherwise
    (λ header. by_reading P BadError (error_at (protocol c) payload) _
    (λ error reads. each error (record { header = header; fields = reads })))
    no_error

-- Where columns always follow.
pub record Follow (c : Context) : Type 0 where
  pub no_optional : optional_metadata c ≡ false
  pub no_cached : cached_metadata c ≡ false

counted : (c : Context) (s : ReplySoFar) (payload : Payload) (n : ℕ) (left : List ℕ) →
    count_at c payload ≡ Ok ((n, true), left) →
    OnStep (FirstIs c s payload)
    ((whole_or_fault BadCount (Ok ((n, true), left)) >>= within) >>= λ count. after_count c
    s.columns count >>= λ next. goes_on s (CountEvent count.0 count.1) next)
counted c s payload n left is = by_left (length left == 0) refl where
  by_bounds : (b : Bool) → (nat_lt 0 n && nat_lt n 65536) ≡ b → (length left == 0) ≡ true →
      OnStep (FirstIs c s payload)
      ((if b then Ok (n, true) else Err BadCount) >>= λ count. after_count c s.columns count >>=
      λ next. goes_on s (CountEvent count.0 count.1) next)
  by_bounds true bounds none =
      let both = and_parts (nat_lt 0 n) (nat_lt n 65536) bounds in
      count_first (record {
        number = is ∙ nothing_left (n, true) left none;
        some =
            ltb-true 0 n both.0;
        below = ltb-true n 65536 both.1;
      })
  by_bounds false bounds none = tt

  by_left : (b : Bool) → (length left == 0) ≡ b →
      OnStep (FirstIs c s payload)
      (((if b then Ok (n, true) else Err BadCount) >>= within) >>= λ count. after_count c s.columns
      count >>= λ next. goes_on s (CountEvent count.0 count.1) next)
  by_left true none = by_bounds (nat_lt 0 n && nat_lt n 65536) refl none
  by_left false some = tt

count_found : (c : Context) (s : ReplySoFar) (payload : Payload) → Follow c →
    OnStep (FirstIs c s payload)
    ((whole_or_fault BadCount (count_at c payload) >>= within) >>= λ count. after_count c
    s.columns count >>= λ next. goes_on s (CountEvent count.0 count.1) next)
count_found c s payload follow = by_number (lenenc_number_at payload) plain where
  plain : count_at c payload ≡ (lenenc_number_at payload >>= λ count. Ok ((count.0, true), count.1))
  plain = rw (follow.no_optional, follow.no_cached) refl

  by_number : (r : Reading ℕ) → count_at c payload ≡ (r >>= λ count. Ok ((count.0, true), count.1)) →
      OnStep (FirstIs c s payload)
      ((whole_or_fault BadCount (count_at c payload) >>= within) >>= λ count. after_count c
      s.columns count >>= λ next. goes_on s (CountEvent count.0 count.1) next)
  by_number (Ok x) is = subst
      (λ r. OnStep (FirstIs c s payload)
      ((whole_or_fault BadCount r >>= within) >>= λ count. after_count c s.columns count >>= λ next.
      goes_on s (CountEvent count.0 count.1) next)) (sym is) (counted c s payload x.0 x.1 is)
  by_number (Err e) is = subst
      (λ r. OnStep (FirstIs c s payload)
      ((whole_or_fault BadCount r >>= within) >>= λ count. after_count c s.columns count >>= λ next.
      goes_on s (CountEvent count.0 count.1) next)) (sym is) tt

pub first_found : (c : Context) (s : ReplySoFar) (payload : Payload) → has_results c.kind ≡ true →
    Follow c → OnStep (FirstIs c s payload) (in_place c s First payload)
first_found c s payload kind follow =
    let P = FirstIs c s payload in
    error_found c s P payload (first c s c.kind payload) (λ error is. error_first is) (λ no_error.
    subst (OnStep P) (sym (first_is c s c.kind payload kind))
    (by_test P (begins_ok c payload) _ _
    (λ header. by_reading P BadOk (ok_packet_at (protocol c) payload) _
    (λ ok reads. ok_first (record { header = header; fields = reads })))
    (λ no_ok. by_test P (begins_with 251 payload) _ _
    (λ header. file_first (begins_as 251 payload header))
    (λ no_file. by_test P (length payload == 0) _ _ (λ none. tt) (λ some. count_found c s payload follow)))))

pub data StatementIs (c : Context) (s : ReplySoFar) (payload : Payload) : Event → ReplySoFar → Type 0 where
  error_packet : {error : ServerError} → IsError c payload error →
      StatementIs c s payload (ErrorEvent error) (record s { awaited = Nothing })
  statement_packet : {statement : PrepareOk} → begins_with 0 payload ≡ true →
      Reads (prepared_at c payload) (statement, true) →
      StatementIs c s payload (PreparedEvent statement true)
      (record s { awaited = after_statement c statement.num_params statement.num_columns true })

-- They follow.
abbrev follow_of : Reading (PrepareOk × Bool) → Bool
follow_of (Ok x) = x.0.1
follow_of (Err e) = true

follows : (r : Reading PrepareOk) → follow_of (r >>= λ statement. Ok ((statement.0, true), statement.1)) ≡ true
follows (Ok x) = refl
follows (Err e) = refl

prepared_follows : (c : Context) (payload : Payload) (x : PrepareOk × Bool) → Follow c →
    Reads (prepared_at c payload) x → x.1 ≡ true
prepared_follows c payload x follow reads =
    let plain : prepared_at c payload ≡
    (prepare_ok_at payload >>= λ statement. Ok ((statement.0, true), statement.1)) =
    rw follow.no_optional refl in
    sym (ap follow_of reads.1) ∙ ap follow_of plain ∙ follows (prepare_ok_at payload)

prepared_found : (c : Context) (s : ReplySoFar) (payload : Payload) (x : PrepareOk ×
    Bool) (follow : Bool) → follow ≡ true → begins_with 0 payload ≡ true →
    Reads (prepared_at c payload) (x.0, follow) →
    StatementIs c s payload (PreparedEvent x.0 follow)
    (record s { awaited = after_statement c x.0.num_params x.0.num_columns follow })
prepared_found c s payload x true is header reads = statement_packet header reads
prepared_found c s payload x false is header reads = absurd (true≢false (sym is))

pub statement_found : (c : Context) (s : ReplySoFar) (payload : Payload) → is_prepare c.kind ≡
    true → Follow c → OnStep (StatementIs c s payload) (in_place c s First payload)
statement_found c s payload kind follow =
    let P = StatementIs c s payload in
    error_found c s P payload (first c s c.kind payload) (λ error is. error_packet is) (λ no_error.
    subst (OnStep P) (sym (statement_is c s c.kind payload kind))
    (by_test P (begins_with 0 payload) _ _
    (λ header. by_reading P BadPrepare (prepared_at c payload) _
    (λ x reads. prepared_found c s payload x x.1 (prepared_follows c payload x follow reads)
    header reads))
    (λ other. tt)))

-- COLUMNS AND ROWS

pub data ColumnIs (c : Context) (s : ReplySoFar) (group : Group) (n : ℕ)
    (earlier : List ColumnDefinition) (payload : Payload) : Event → ReplySoFar → Type 0 where
  column_is : (found : ExtendedDefinition) → IsColumnPacket c payload found.column →
      ColumnIs c s group n earlier payload (ColumnEvent found)
      (column_came c s group n (with_column group earlier found.column))

pub column_found : (c : Context) (s : ReplySoFar) (group : Group) (n : ℕ)
    (earlier : List ColumnDefinition) (payload : Payload) →
    OnStep (ColumnIs c s group n earlier payload) (in_columns c s group n earlier payload)
column_found c s group n earlier payload =
    by_reading (ColumnIs c s group n earlier payload) BadColumn
    (extended_column_at (mariadb c) payload) _
    (λ found reads. column_is found (record { found = found; fields = reads; listed = refl }))

pub data EofIs (c : Context) (s : ReplySoFar) (group : Group) (known : Bool) (payload : Payload)
    : Event → ReplySoFar → Type 0 where
  eof_is : {says : OkPacket} → IsEof payload says →
      EofIs c s group known payload (ColumnsEndEvent says)
      (record s { awaited = after_columns_end c group known says })

pub eof_found : (c : Context) (s : ReplySoFar) (group : Group) (known : Bool) (payload : Payload) →
    OnStep (EofIs c s group known payload) (in_columns_end c s group known payload)
eof_found c s group known payload = by_length (nat_lt (length payload) 9) refl where
  by_length : (b : Bool) → nat_lt (length payload) 9 ≡ b →
      OnStep (EofIs c s group known payload)
      ((if b then or_fault BadTerminator (old_eof_at payload) else Err BadTerminator) >>= λ ok.
      goes_on s (ColumnsEndEvent ok) (after_columns_end c group known ok))
  by_length true below = by_reading (EofIs c s group known payload) BadTerminator
      (old_eof_at payload) _ (λ ok reads. eof_is
      (record { below = ltb-true (length payload) 9 below; fields = reads }))
  by_length false above = tt

pub data RowIs (c : Context) (columns : List ColumnDefinition) (payload : Payload) : Event → ReplySoFar → Type 0 where
  row_is : {row : Row} → IsRow c columns payload row →
      RowIs c columns payload (RowEvent row)
      (record { awaited = Rows true; columns = Some columns })
  terminator_is : {ok : OkPacket} → IsTerminator c payload ok →
      RowIs c columns payload (RowsEndEvent ok)
      (record { awaited = after_result c ok; columns = Some columns })
  error_is : {error : ServerError} → IsError c payload error →
      RowIs c columns payload (ErrorEvent error)
      (record { awaited = Nothing; columns = Some columns })

-- A reading that leaves nothing, of which an event is made.
by_whole : (P : Event → ReplySoFar → Type 0) (s : ReplySoFar) (r : Reading Row) →
    ((row : Row) → r ≡ Ok (row, []) → P (RowEvent row) (record s { awaited = Rows true })) →
    OnStep P ((whole_or_fault BadRow r >>= λ found. Ok (RowEvent found)) >>= λ event. goes_on s event (Rows true))
by_whole P s (Err e) each = tt
by_whole P s (Ok x) each = by_left (length x.1 == 0) refl where
  by_left : (b : Bool) → (length x.1 == 0) ≡ b →
      OnStep P (((if b then Ok x.0 else Err BadRow) >>= λ found. Ok (RowEvent found)) >>= λ event.
      goes_on s event (Rows true))
  by_left true none = each x.0 (nothing_left x.0 x.1 none)
  by_left false some = tt

pub row_found : (c : Context) (columns : List ColumnDefinition) (payload : Payload) →
    OnStep (RowIs c columns payload)
    (in_place c (record { awaited = Rows true; columns = Some columns }) (Rows true) payload)
row_found c columns payload =
    let P = RowIs c columns payload in
    let s : ReplySoFar = record { awaited = Rows true; columns = Some columns } in
    error_found c s P payload (in_rows c s true payload) (λ error is. error_is is) (λ no_error.
    by_test P (begins_terminator c payload) _ _
    (λ ends. by_reading P BadTerminator
    (if deprecate_eof c then result_set_terminator_at (protocol c) payload else old_eof_at
    payload) _ (λ ok reads. terminator_is (record { ends = ends; fields = reads })))
    (λ no_end. by_whole P s (row_at c columns payload)
    (λ row reads. row_is (record {
      no_error = no_error;
      no_terminator = no_end;
      cells =
          reads;
    }))))
