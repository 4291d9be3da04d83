-- What a payload is in the manual's words leads to the table's event.
use Rattle.std.proofs.Common.{◌≡◌, ℕ, ◌-◌, List, [], ◌∷◌, length, Bool, true, false, Some, Result, Ok, Err, refl, ap}
use Rattle.std.proofs.Common.{sym, arith, ◌∙◌, if◌then◌else◌}
use Rattle.std.specs.Prelude.{◌==◌, ◌&&◌, nat_lt}
use Rattle.std.proofs.lemmas.Bool.{true≢false, eqb-true, ne_eqb, false_from_ne_true, lt-ltb, and_parts}
use Rattle.mysql_buf.specs.NumberLaws.{first-append}
use Rattle.mysql_buf.specs.Reading.{first as first_bytes, little_at}
use Rattle.mysql_fields.specs.Forms.{lenenc_number_at}
use Rattle.mysql_fields.specs.Wire.{Reading, ◌>>=◌}
use Rattle.mysql_columns.specs.Columns.{ColumnDefinition}
use Rattle.mysql_ok_packets.specs.OkPackets.{OkPacket, ok_packet_at, old_eof_at, result_set_terminator_at}
use Rattle.mysql_server_packets.specs.Packets.{PrepareOk, ServerError, error_at}
use Rattle.mysql_columns.specs.Extended.{extended_column_at}
use Rattle.mysql_row_refs.specs.Lines.{begins_with, terminator_limit}
use Rattle.mysql_rows.specs.Rows.{Row}
use Rattle.mysql_reply_events.specs.Events.{Awaited, Group, Payload, ReplySoFar}
use Rattle.mysql_reply_events.specs.Events.Awaited.{Columns, ColumnsEnd, FileData, First, Nothing, Rows}
use Rattle.mysql_reply_events.specs.Events.Event.{ColumnEvent, ColumnsEndEvent, CountEvent, ErrorEvent, FileEvent}
use Rattle.mysql_reply_events.specs.Events.Event.{OkEvent, PreparedEvent, RowEvent, RowsEndEvent}
use Rattle.mysql_reply_events.specs.Events.Group.{ResultSet}
use Rattle.mysql_reply_events.specs.Readings.{begins_ok, begins_terminator, cached_metadata, count_at, deprecate_eof}
use Rattle.mysql_reply_events.specs.Readings.{follow_at, mariadb, optional_metadata, or_fault, prepared_at, protocol}
use Rattle.mysql_reply_events.specs.Readings.{whole_or_fault, within}
use Rattle.mysql_reply_events.specs.Table.{Step, after_columns_end, after_count, after_result, after_statement}
use Rattle.mysql_reply_events.specs.Table.{column_came, error_or, first, first_of_result, first_of_statement, goes_on}
use Rattle.mysql_reply_events.specs.Table.{has_results, in_place, with_column}
use Rattle.mysql_reply_events.specs.declared.context.Context.{Context}
use Rattle.mysql_reply_events.specs.declared.context.ReplyKind.{ReplyKind}
use Rattle.mysql_reply_events.specs.declared.context.ReplyKind.TheVariants as kinds
use Rattle.mysql_reply_events.specs.declared.fault.ReplyFault.{ReplyFault}
use Rattle.mysql_reply_events.specs.declared.fault.ReplyFault.TheVariants.{BadColumn, BadCount, BadError, BadOk}
use Rattle.mysql_reply_events.specs.declared.fault.ReplyFault.TheVariants.{BadPrepare, BadRow, BadTerminator}
use Rattle.mysql_replies.specs.Manual.{IsColumnPacket, IsCount, IsEof, IsError, IsOk, IsRow, IsTerminator, Reads}
use Rattle.mysql_replies.specs.Manual.{is_prepare, row_at}

pub if_true : {A : Type 0} (b : Bool) (x y : A) → b ≡ true → (if b then x else y) ≡ x
if_true true x y is = refl
if_true false x y is = absurd (true≢false (sym is))

pub if_false : {A : Type 0} (b : Bool) (x y : A) → b ≡ false → (if b then x else y) ≡ y
if_false true x y is = absurd (true≢false is)
if_false false x y is = refl

pub first_read : {A : Type 0} (fault : ReplyFault) (r : Reading A) (a : A) → Reads r a → or_fault fault r ≡ Ok a
first_read fault r a h = ap (or_fault fault) h.1

pub whole_read : {A : Type 0} (fault : ReplyFault) (r : Reading A) (a : A) → r ≡ Ok (a, []) →
    whole_or_fault fault r ≡ Ok a
whole_read fault r a h = ap (whole_or_fault fault) h

pub begins_apart : (a b : ℕ) (payload : Payload) → begins_with a payload ≡ true → (a == b) ≡ false →
    begins_with b payload ≡ false
begins_apart a b [] begins apart = absurd (true≢false (sym begins))
begins_apart a b (first ∷ rest) begins apart = rw (eqb-true first a begins) apart

-- FIRST PAYLOADS

pub first_is : (c : Context) (s : ReplySoFar) (kind : ReplyKind) (payload : Payload) →
    has_results kind ≡ true → first c s kind payload ≡ first_of_result c s payload
first_is c s kinds.Text payload is = refl
first_is c s kinds.Binary payload is = refl
first_is c s kinds.Prepare payload is = absurd (true≢false (sym is))
first_is c s kinds.Plain payload is = absurd (true≢false (sym is))
first_is c s kinds.Line payload is = absurd (true≢false (sym is))
first_is c s kinds.FieldList payload is = absurd (true≢false (sym is))
first_is c s kinds.Fetch payload is = absurd (true≢false (sym is))

pub statement_is : (c : Context) (s : ReplySoFar) (kind : ReplyKind) (payload : Payload) →
    is_prepare kind ≡ true → first c s kind payload ≡ first_of_statement c s payload
statement_is c s kinds.Prepare payload is = refl
statement_is c s kinds.Text payload is = absurd (true≢false (sym is))
statement_is c s kinds.Binary payload is = absurd (true≢false (sym is))
statement_is c s kinds.Plain payload is = absurd (true≢false (sym is))
statement_is c s kinds.Line payload is = absurd (true≢false (sym is))
statement_is c s kinds.FieldList payload is = absurd (true≢false (sym is))
statement_is c s kinds.Fetch payload is = absurd (true≢false (sym is))

pub ok_event : (c : Context) (s : ReplySoFar) (payload : Payload) (ok : OkPacket) →
    has_results c.kind ≡ true → IsOk c payload ok → in_place c s First payload ≡
    Ok (OkEvent ok, record s { awaited = after_result c ok })
ok_event c s payload ok kind is =
    let begins = (and_parts (begins_with 0 payload)
    (if optional_metadata c then nat_lt 6 (length payload) else true) is.header).0 in
    if_false (begins_with 255 payload) _ _ (begins_apart 0 255 payload begins refl)
    ∙ first_is c s c.kind payload kind
    ∙ if_true (begins_ok c payload) _ _ is.header
    ∙ ap (λ (r : Result OkPacket ReplyFault). r >>= λ ok. goes_on s (OkEvent ok)
    (after_result c ok)) (first_read BadOk (ok_packet_at (protocol c) payload) ok is.fields)

pub error_event : (c : Context) (s : ReplySoFar) (payload : Payload) (error : ServerError)
    (otherwise : Step) → IsError c payload error → error_or c s payload otherwise ≡
    Ok (ErrorEvent error, record s { awaited = Nothing })
error_event c s payload error otherwise is =
    if_true (begins_with 255 payload) _ _ is.header
    ∙ ap (λ (r : Result ServerError ReplyFault). r >>= λ error. goes_on s (ErrorEvent error)
    Nothing) (first_read BadError (error_at (protocol c) payload) error is.fields)

pub file_event : (c : Context) (s : ReplySoFar) (name : List ℕ) → has_results c.kind ≡ true →
    in_place c s First (251 ∷ name) ≡ Ok (FileEvent name, record s { awaited = FileData })
file_event c s name kind = first_is c s c.kind (251 ∷ name) kind

-- A count of columns that follow begins with neither 00, fb nor ff.
abbrev columns_of : Reading (ℕ × Bool) → ℕ
columns_of (Ok x) = if x.0.1 then x.0.0 else 0
columns_of (Err e) = 0

none_counted : (r : Reading ℕ) (follow : Bool) → follow ≡ false →
    columns_of (r >>= λ count. Ok ((count.0, follow), count.1)) ≡ 0
none_counted (Ok x) follow is = if_false follow x.0 0 is
none_counted (Err e) follow is = refl

none_told : (r : Reading Bool) → columns_of (r >>= λ follow. Ok ((0, follow.0), follow.1)) ≡ 0
none_told (Ok (true, rest)) = refl
none_told (Ok (false, rest)) = refl
none_told (Err e) = refl

byte_given : (b : ℕ) (rest : List ℕ) → little_at 1 (b ∷ rest) ≡ Some (b, rest)
byte_given b rest = first-append 1 _ (b ∷ []) rest refl ∙ ap (λ (n : ℕ). Some (n, rest)) (omega arith)

not_follow : (rest : List ℕ) → follow_at (0 ∷ rest) ≡ Ok (false, rest)
not_follow rest = rw (byte_given 0 rest) refl

abbrev told_first : Reading Bool → Reading (ℕ × Bool)
told_first r = r >>= λ follow. lenenc_number_at follow.1 >>= λ count. Ok ((count.0, follow.0), count.1)

none_by : (c : Context) (b : ℕ) (rest : List ℕ) (optional cached : Bool) → lenenc_number_at (b ∷ rest) ≡ Ok (0, rest) →
    columns_of (told_first (follow_at (b ∷ rest))) ≡ 0 →
    columns_of (if optional then
    (follow_at (b ∷ rest) >>= λ follow. lenenc_number_at follow.1 >>= λ count. Ok
    ((count.0, follow.0), count.1))
    else if cached then (lenenc_number_at (b ∷ rest) >>= λ count. follow_at count.1 >>= λ follow. Ok
    ((count.0, follow.0), follow.1))
    else (lenenc_number_at (b ∷ rest) >>= λ count. Ok ((count.0, true), count.1))) ≡ 0
none_by c b rest true cached zero_read none = none
none_by c b rest false true zero_read none =
    ap (λ (r : Reading ℕ). columns_of
    (r >>= λ count. follow_at count.1 >>= λ follow. Ok ((count.0, follow.0), follow.1)))
    zero_read ∙ none_told (follow_at rest)
none_by c b rest false false zero_read none =
    ap (λ (r : Reading ℕ). columns_of (r >>= λ count. Ok ((count.0, true), count.1))) zero_read

begins_no_count : (c : Context) (b n : ℕ) (payload : Payload) →
    ((rest : List ℕ) → columns_of (count_at c (b ∷ rest)) ≡ 0) → IsCount c payload n →
    begins_with b payload ≡ false
begins_no_count c b n [] none is = refl
begins_no_count c b n (first ∷ rest) none is =
    false_from_ne_true (first == b) (λ begins.
    let same : columns_of (count_at c (first ∷ rest)) ≡ columns_of (count_at c (b ∷ rest)) =
    ap (λ (x : ℕ). columns_of (count_at c (x ∷ rest))) (eqb-true first b begins) in
    let zero_columns : 0 ≡ n = sym (none rest) ∙ sym same ∙ ap columns_of is.number in
    let some = is.some in
    omega (arith, zero_columns, some))

no_ok_count : (c : Context) (rest : List ℕ) → columns_of (count_at c (0 ∷ rest)) ≡ 0
no_ok_count c rest = none_by c 0 rest (optional_metadata c) (cached_metadata c) refl
    (ap (λ (r : Reading Bool). columns_of (told_first r)) (not_follow rest) ∙
    none_counted (lenenc_number_at rest) false refl)

no_file_count : (c : Context) (rest : List ℕ) → columns_of (count_at c (251 ∷ rest)) ≡ 0
no_file_count c rest = none_by c 251 rest (optional_metadata c) (cached_metadata c) refl (rw (byte_given 251 rest) refl)

no_error_count : (c : Context) (rest : List ℕ) → columns_of (count_at c (255 ∷ rest)) ≡ 0
no_error_count c rest = none_by c 255 rest (optional_metadata c) (cached_metadata c) refl
    (rw (byte_given 255 rest) refl)

none_in_nothing : (optional cached : Bool) →
    columns_of (if optional then
    (follow_at [] >>= λ follow. lenenc_number_at follow.1 >>= λ count. Ok (
      (count.0, follow.0),
      count.1,
    ))
    else if cached then (lenenc_number_at [] >>= λ count. follow_at count.1 >>= λ follow. Ok
    ((count.0, follow.0), follow.1))
    else (lenenc_number_at [] >>= λ count. Ok ((count.0, true), count.1))) ≡ 0
unfolding first_bytes
none_in_nothing true cached = refl
none_in_nothing false true = refl
none_in_nothing false false = refl

count_has_bytes : (c : Context) (n : ℕ) (payload : Payload) → IsCount c payload n → (length payload == 0) ≡ false
count_has_bytes c n [] is =
    let none : 0 ≡ n = sym (none_in_nothing (optional_metadata c) (cached_metadata c)) ∙ ap columns_of is.number in
    let some = is.some in
    absurd (omega (arith, none, some))
count_has_bytes c n (first ∷ rest) is = ne_eqb (length (first ∷ rest)) 0 (λ e. omega (arith, e))

and_false : (b k : Bool) → b ≡ false → (b && k) ≡ false
and_false true k is = absurd (true≢false is)
and_false false k is = refl

pub count_event : (c : Context) (s : ReplySoFar) (payload : Payload) (n : ℕ) → has_results c.kind ≡
    true → IsCount c payload n → in_place c s First payload ≡
    Ok (CountEvent n true, record s { awaited = Columns ResultSet (n - 1) [] })
count_event c s payload n kind is =
    let counted : whole_or_fault BadCount (count_at c payload) ≡ Ok (n, true) =
    whole_read BadCount (count_at c payload) (n, true) is.number in
    let bounds : (nat_lt 0 n && nat_lt n 65536) ≡ true = rw (lt-ltb 0 n is.some, lt-ltb n 65536 is.below) refl in
    let found : (whole_or_fault BadCount (count_at c payload) >>= within) ≡ Ok (n, true) =
    ap (λ (r : Result (ℕ × Bool) ReplyFault). r >>= within) counted ∙
    if_true (nat_lt 0 n && nat_lt n 65536) _ _ bounds in
    if_false (begins_with 255 payload) _ _ (begins_no_count c 255 n payload (no_error_count c) is)
    ∙ first_is c s c.kind payload kind
    ∙ if_false (begins_ok c payload) _ _
    (and_false (begins_with 0 payload) _ (begins_no_count c 0 n payload (no_ok_count c) is))
    ∙ if_false (begins_with 251 payload) _ _ (begins_no_count c 251 n payload (no_file_count c) is)
    ∙ if_false (length payload == 0) _ _ (count_has_bytes c n payload is)
    ∙ ap (λ (r : Result (ℕ × Bool) ReplyFault). r >>= λ count. after_count c s.columns count >>=
    λ next. goes_on s (CountEvent count.0 count.1) next) found

pub prepared_event : (c : Context) (s : ReplySoFar) (payload : Payload) (statement : PrepareOk) →
    is_prepare c.kind ≡ true → begins_with 0 payload ≡ true →
    Reads (prepared_at c payload) (statement, true) →
    in_place c s First payload ≡
    Ok (
      PreparedEvent statement true,
      record s { awaited = after_statement c statement.num_params statement.num_columns true },
    )
prepared_event c s payload statement kind begins reads =
    if_false (begins_with 255 payload) _ _ (begins_apart 0 255 payload begins refl)
    ∙ statement_is c s c.kind payload kind
    ∙ if_true (begins_with 0 payload) _ _ begins
    ∙ ap (λ (r : Result (PrepareOk × Bool) ReplyFault). r >>= λ x. goes_on s (PreparedEvent x.0 x.1)
    (after_statement c x.0.num_params x.0.num_columns x.1))
    (first_read BadPrepare (prepared_at c payload) (statement, true) reads)

-- COLUMNS AND ROWS

pub column_event : (c : Context) (s : ReplySoFar) (group : Group) (n : ℕ)
    (earlier : List ColumnDefinition) (payload : Payload) (column : ColumnDefinition)
    (is : IsColumnPacket c payload column) →
    in_place c s (Columns group n earlier) payload ≡
    Ok (
      ColumnEvent is.found,
      column_came c s group n (with_column group earlier is.found.column),
    )
column_event c s group n earlier payload column is =
    ap (λ r. r >>= λ found. Ok (
      ColumnEvent found,
      column_came c s group n (with_column group earlier found.column),
    ))
    (first_read BadColumn (extended_column_at (mariadb c) payload) is.found is.fields)

pub eof_event : (c : Context) (s : ReplySoFar) (group : Group) (known : Bool) (payload : Payload)
    (says : OkPacket) → IsEof payload says →
    in_place c s (ColumnsEnd group known) payload ≡
    Ok (ColumnsEndEvent says, record s { awaited = after_columns_end c group known says })
eof_event c s group known payload says is =
    ap (λ (r : Result OkPacket ReplyFault). r >>= λ ok. goes_on s (ColumnsEndEvent ok)
    (after_columns_end c group known ok))
    (if_true (nat_lt (length payload) 9) _ _ (lt-ltb (length payload) 9 is.below) ∙
    first_read BadTerminator (old_eof_at payload) says is.fields)

pub terminator_event : (c : Context) (s : ReplySoFar) (known : Bool) (payload : Payload)
    (ok : OkPacket) → IsTerminator c payload ok →
    in_place c s (Rows known) payload ≡ Ok (RowsEndEvent ok, record s { awaited = after_result c ok })
terminator_event c s known payload ok is =
    let begins = (and_parts (begins_with 254 payload)
    (nat_lt (length payload) (terminator_limit (deprecate_eof c))) is.ends).0 in
    if_false (begins_with 255 payload) _ _ (begins_apart 254 255 payload begins refl)
    ∙ if_true (begins_terminator c payload) _ _ is.ends
    ∙ ap (λ (r : Result OkPacket ReplyFault). r >>= λ ok. goes_on s (RowsEndEvent ok)
    (after_result c ok)) (first_read BadTerminator
    (if deprecate_eof c then result_set_terminator_at (protocol c) payload else old_eof_at
    payload) ok is.fields)

pub row_event : (c : Context) (a : Awaited) (columns : List ColumnDefinition) (payload : Payload)
    (row : Row) → IsRow c columns payload row →
    in_place c (record { awaited = a; columns = Some columns }) (Rows true) payload ≡
    Ok (RowEvent row, record { awaited = Rows true; columns = Some columns })
row_event c a columns payload row is =
    if_false (begins_with 255 payload) _ _ is.no_error
    ∙ if_false (begins_terminator c payload) _ _ is.no_terminator
    ∙ ap (λ (r : Result Row ReplyFault). (r >>= λ found. Ok (RowEvent found)) >>= λ event. goes_on
    (record { awaited = a; columns = Some columns }) event (Rows true))
    (whole_read BadRow (row_at c columns payload) row is.cells)
