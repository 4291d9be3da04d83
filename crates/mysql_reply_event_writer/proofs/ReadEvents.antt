-- An event that was read is put, place by place of a reply.
use Rattle.std.proofs.Common.{◌≡◌, ◌≢◌, ◌<◌, ◌≤◌, ◌^◌, ◌==◌, ◌&&◌, if◌then◌else◌, nat_lt, ℕ, Bool, true, false, List}
use Rattle.std.proofs.Common.{[], ◌∷◌, ◌++◌, length}
use Rattle.std.proofs.Common.{take, drop, map, Option, None, Some, Result, Ok, Err, inl, inr, refl, sym, ap, ◌∙◌, subst}
use Rattle.std.proofs.Common.{arith, lit<, append-nil}
use Rattle.std.proofs.lemmas.Bool.{eqb-true, le-ltb, lt-ltb, ltb-true, ne_eqb}
use Rattle.std.proofs.lemmas.Bool.Decides.{eqb_tells, nat_tests}
use Rattle.std.specs.Str.{bytes_eq}
use Rattle.byteorder.specs.Endian.{little_bytes}
use Rattle.mysql_buf.specs.Bytes.{AreBytes}
use Rattle.mysql_buf.specs.Writing.{lenenc_int}
use Rattle.mysql_cells.specs.Values.{without_zero_sign}
use Rattle.mysql_cells.specs.declared.value.Value.{Value}
use Rattle.mysql_columns.specs.Columns.{ColumnDefinition}
use Rattle.mysql_columns.specs.Extended.{ExtendedDefinition, ListedDefinition, extended_column, extended_column_at}
use Rattle.mysql_columns.specs.Extended.{listed_column, listed_column_at}
use Rattle.mysql_fields.specs.Forms.{lenenc_number_at}
use Rattle.mysql_fields.specs.Laws.{bind_ok, fixed_number_at-back, lenenc_number_at-back, ok_same}
use Rattle.mysql_fields.specs.Wire.{Reading, ◌>>=◌}
use Rattle.mysql_ok_packets.specs.OkPackets.{OkPacket, ok_packet_at, old_eof_at, result_set_terminator_at}
use Rattle.mysql_ok_packets.specs.Written.{eof_bytes, ok_packet_bytes}
use Rattle.mysql_row_refs.specs.Lines.{begins_with, terminator_limit}
use Rattle.mysql_rows.specs.Rows.{Row, binary_resultset_row_at, text_row_at, whole_row}
use Rattle.mysql_rows.specs.Written.{binary_cause, binary_row, text_cause, text_row, values_of}
use Rattle.mysql_rows.specs.WrittenLaws.{BinaryRowsReadBack, ReadBinaryRowsAreWritten, ReadTextRowsAreWritten}
use Rattle.mysql_rows.specs.WrittenLaws.{TextRowsBegin, TextRowsReadBack}
use Rattle.mysql_server_packets.specs.PacketLaws.{prepare_ok_at-back}
use Rattle.mysql_server_packets.specs.Packets.{Error, PrepareOk, Progress, ProgressReport, err_packet, error_at}
use Rattle.mysql_server_packets.specs.Packets.{local_infile, prepare_ok, prepare_ok_at, progress_report_at}
use Rattle.mysql_reply_events.specs.declared.context.Context.{Context}
use Rattle.mysql_reply_events.specs.declared.context.ReplyKind.{ReplyKind}
use Rattle.mysql_reply_events.specs.declared.context.ReplyKind.TheVariants as kinds
use Rattle.mysql_reply_events.specs.declared.fault.ReplyFault.{ReplyFault}
use Rattle.mysql_reply_events.specs.declared.fault.ReplyFault.TheVariants.{BadColumn, BadCount, BadError, BadHeader}
use Rattle.mysql_reply_events.specs.declared.fault.ReplyFault.TheVariants.{BadOk}
use Rattle.mysql_reply_events.specs.declared.fault.ReplyFault.TheVariants.{BadPrepare, BadRow, BadTerminator}
use Rattle.mysql_reply_events.specs.Events.{Awaited, Event, Group, Payload, ReplySoFar}
use Rattle.mysql_reply_events.specs.Events.Awaited.{Columns, ColumnsEnd, Fields, FileData, First, Nothing, Rows}
use Rattle.mysql_reply_events.specs.Events.Event.{ColumnEvent, ColumnsEndEvent, CountEvent, ErrorEvent, FieldEvent}
use Rattle.mysql_reply_events.specs.Events.Event.{FileEvent, LineEvent, OkEvent, PreparedEvent, ProgressEvent}
use Rattle.mysql_reply_events.specs.Events.Event.{RawRowEvent, RowEvent, RowsEndEvent}
use Rattle.mysql_reply_events.specs.Readings.{begins_ok, begins_terminator, cached_metadata, column, column_count}
use Rattle.mysql_reply_events.specs.Readings.{count_at}
use Rattle.mysql_reply_events.specs.Readings.{deprecate_eof, eof, field, follow_at, has_report_form, has_reports}
use Rattle.mysql_reply_events.specs.Readings.{is_binary}
use Rattle.mysql_reply_events.specs.Readings.{mariadb, ok_packet, optional_metadata, or_fault, prepared, prepared_at}
use Rattle.mysql_reply_events.specs.Readings.{protocol, report, reports_progress, row, server_error, terminator}
use Rattle.mysql_reply_events.specs.Readings.{whole_or_fault, within}
use Rattle.mysql_reply_events.specs.Table.{Step, after_count, after_statement, error_or, error_step, first}
use Rattle.mysql_reply_events.specs.Table.{first_of_result}
use Rattle.mysql_reply_events.specs.Table.{first_of_statement, goes_on, in_columns, in_columns_end, in_end, in_fields}
use Rattle.mysql_reply_events.specs.Table.{count_step, in_place, in_rows, is_due, ok_step, plain, row_event}
use Rattle.mysql_reply_event_writer.proofs.PacketsRead.{column_again, eof_again, error_again, field_again, ok_again}
use Rattle.mysql_reply_event_writer.proofs.PacketsRead.{report_again, statement_read, terminator_again}
use Rattle.mysql_reply_event_writer.proofs.RowsRead.{binary_row_fits, text_row_fits}
use Rattle.mysql_reply_event_writer.proofs.Terminators.{ok_size, terminator_short}
use Rattle.mysql_reply_event_writer.specs.Laws.{HasOwnForm, IsPutThere, ReadEventsArePut}
use Rattle.mysql_reply_event_writer.specs.Written.{count_bytes, event_payload, follow_byte, follow_told}
use Rattle.mysql_reply_event_writer.specs.Written.{terminator_bytes}

-- the laws of rows
pub record RowLaws : Type 0 where
  pub text_back : TextRowsReadBack
  pub text_written : ReadTextRowsAreWritten
  pub text_begins : TextRowsBegin
  pub binary_back : BinaryRowsReadBack
  pub binary_written : ReadBinaryRowsAreWritten

-- STEPS

-- a reading that gave this, and the bytes left
abbrev pub gave : {X : Type 0} → X → List ℕ → Reading X
gave x rest = Ok (x, rest)

step_ok : {A B : Type 0} (r : Result A ReplyFault) (f : A → Result B ReplyFault) (y : B) → (r >>= f) ≡ Ok y →
    (x : A) × (r ≡ Ok x) × (f x ≡ Ok y)
step_ok (Ok x) f y h = (x, refl, h)
step_ok (Err e) f y h = absurd cc

read_ok : {A : Type 0} (fault : ReplyFault) (r : Reading A) (x : A) → or_fault fault r ≡ Ok x →
    (rest : List ℕ) × (r ≡ gave x rest)
read_ok {A} fault (Ok y) x h = let same : y.0 ≡ x = cc in (y.1, ap (λ (v : A). gave v y.1) same)
read_ok {A} fault (Err e) x h = absurd cc

no_bytes : (bytes : List ℕ) → (length bytes == 0) ≡ true → bytes ≡ []
no_bytes [] h = refl
no_bytes (b ∷ bytes) h = absurd (omega (arith, eqb-true (length (b ∷ bytes)) 0 h))

whole_ok : {A : Type 0} (fault : ReplyFault) (r : Reading A) (x : A) → whole_or_fault fault r ≡ Ok x → r ≡ gave x []
whole_ok {A} fault (Err e) x h = absurd cc
whole_ok {A} fault (Ok y) x h = go (length y.1 == 0) refl h where
  go : (none : Bool) → (length y.1 == 0) ≡ none → (if none then Ok y.0 else Err fault) ≡ Ok x → gave y.0 y.1 ≡ gave x []
  go true is e =
      let same : y.0 ≡ x = cc in
      let left = no_bytes y.1 is in
      ap (λ (v : A). gave v y.1) same ∙ ap (λ (rest : List ℕ). gave x rest) left
  go false is e = absurd cc

-- a step that leads to an event
abbrev pub leads : Event → ReplySoFar → Step
leads event next = Ok (event, next)

abbrev pub both : Event → ReplySoFar → Event × ReplySoFar
both event next = (event, next)

same_event : (a b : Event) (s t : ReplySoFar) → leads a s ≡ leads b t → a ≡ b
same_event a b s t h =
    let same : both a s ≡ both b t = cc in
    ap (λ (x : Event × ReplySoFar). x.0) same

-- an event has a payload that begins no error, and is read as it by a step
abbrev pub Again : (Payload → Step) → Context → Event → ReplySoFar → Type 0
Again step c event next = (written : Payload) × (event_payload c event ≡ Some written) ×
    (begins_with 255 written ≡ false) × (step written ≡ Ok (event, next))

-- the payload of an event that is another by name
payload_of : (c : Context) (a event : Event) (written : Payload) → a ≡ event → event_payload c a ≡ Some written →
    event_payload c event ≡ Some written
payload_of c a event written is h = ap (event_payload c) (sym is) ∙ h

-- COLUMNS

begins_column : (b : ℕ) (p : ExtendedDefinition) → (3 == b) ≡ false → begins_with b (extended_column p) ≡ false
unfolding extended_column
begins_column b p other = other

begins_field : (b : ℕ) (p : ListedDefinition) → (3 == b) ≡ false → begins_with b (listed_column p) ≡ false
unfolding listed_column extended_column
begins_field b p other = other

column_put : (c : Context) (s : ReplySoFar) (group : Group) (n : ℕ)
    (earlier : List ColumnDefinition) (payload : Payload)
    (event : Event) (next : ReplySoFar) → AreBytes payload → in_columns c s group n earlier payload ≡ Ok (event, next) →
    Again (in_columns c s group n earlier) c event next
column_put c s group n earlier payload event next small h =
    let part = step_ok (column c payload) _ (event, next) h in
    let read = read_ok BadColumn (extended_column_at (mariadb c) payload) part.0 part.1 in
    let again = column_again (mariadb c) payload (part.0, read.0) small read.1 in
    let is = same_event (ColumnEvent part.0) event _ next part.2 in (
      extended_column part.0,
      payload_of c (ColumnEvent part.0) event (extended_column part.0) is refl,
      begins_column 255 part.0 refl,
      rw again part.2,
    )

field_put : (c : Context) (s : ReplySoFar) (payload : Payload) (event : Event) (next : ReplySoFar) → AreBytes payload →
    (field c payload >>= λ found. goes_on s (FieldEvent found) Fields) ≡ Ok (event, next) →
    (p : ListedDefinition) × (FieldEvent p ≡ event) ×
    ((field c (listed_column p) >>= λ found. goes_on s (FieldEvent found) Fields) ≡ Ok (event, next))
field_put c s payload event next small h =
    let part = step_ok (field c payload) _ (event, next) h in
    let read = read_ok BadColumn (listed_column_at (mariadb c) payload) part.0 part.1 in
    let again = field_again (mariadb c) payload (part.0, read.0) small read.1 in
    (part.0, same_event (FieldEvent part.0) event _ next part.2, rw again part.2)

-- THE EOF BEHIND COLUMNS

eof_by : (payload : Payload) (ok : OkPacket) → AreBytes payload → length payload < 2 ^ 64 → eof payload ≡ Ok ok →
    eof (eof_bytes ok) ≡ Ok ok
unfolding eof_bytes
eof_by payload ok small few h = go (nat_lt (length payload) 9) h where
  go : (short : Bool) → (if short then or_fault BadTerminator (old_eof_at payload) else Err BadTerminator) ≡ Ok ok →
      eof (eof_bytes ok) ≡ Ok ok
  go true e =
      let read = read_ok BadTerminator (old_eof_at payload) ok e in
      ap (or_fault BadTerminator) (eof_again payload (ok, read.0) small few read.1)
  go false e = absurd cc

begins_eof : (b : ℕ) (ok : OkPacket) → begins_with b (eof_bytes ok) ≡ (254 == b)
unfolding eof_bytes
begins_eof b ok = refl

columns_end_put : (c : Context) (s : ReplySoFar) (group : Group) (known : Bool) (payload : Payload) (event : Event)
    (next : ReplySoFar) → AreBytes payload → length payload < 2 ^ 64 →
    in_columns_end c s group known payload ≡ Ok (event, next) →
    Again (in_columns_end c s group known) c event next
columns_end_put c s group known payload event next small few h =
    let part = step_ok (eof payload) _ (event, next) h in
    let again = eof_by payload part.0 small few part.1 in
    let is = same_event (ColumnsEndEvent part.0) event _ next part.2 in (
      eof_bytes part.0,
      payload_of c (ColumnsEndEvent part.0) event (eof_bytes part.0) is refl,
      begins_eof 255 part.0,
      rw again part.2,
    )

-- OK PACKETS

begins_packet : (header b capabilities : ℕ) (ok : OkPacket) →
    begins_with b (ok_packet_bytes header capabilities ok) ≡ (header == b)
unfolding ok_packet_bytes
begins_packet header b capabilities ok = refl

-- an OK packet that a step reads
abbrev pub OkPut : Context → ReplySoFar → Event → ReplySoFar → Type 0
OkPut c s event next = (ok : OkPacket) × (OkEvent ok ≡ event) ×
    (ok_step c s (ok_packet_bytes 0 (protocol c) ok) ≡ Ok (event, next))

ok_put : (c : Context) (s : ReplySoFar) (payload : Payload) (event : Event) (next : ReplySoFar) → AreBytes payload →
    length payload < 2 ^ 64 → ok_step c s payload ≡ Ok (event, next) → OkPut c s event next
ok_put c s payload event next small few h =
    let part = step_ok (ok_packet c payload) _ (event, next) h in
    let read = read_ok BadOk (ok_packet_at (protocol c) payload) part.0 part.1 in
    let again = ok_again (protocol c) payload (part.0, read.0) small few read.1 in
    (part.0, same_event (OkEvent part.0) event _ next part.2, rw again part.2)

begins_ok_packet : (c : Context) (ok : OkPacket) → begins_ok c (ok_packet_bytes 0 (protocol c) ok) ≡ true
begins_ok_packet c ok = rw (begins_packet 0 0 (protocol c) ok) (go (optional_metadata c)) where
  go : (optional : Bool) → (if optional then nat_lt 6 (length (ok_packet_bytes 0 (protocol c) ok)) else true) ≡ true
  go true = lt-ltb 6 (length (ok_packet_bytes 0 (protocol c) ok)) (ok_size (protocol c) ok)
  go false = refl

-- TERMINATORS

-- a terminator, by whether EOF packets are deprecated
abbrev pub end_at : Bool → ℕ → Payload → Reading OkPacket
end_at deprecated capabilities payload =
    if deprecated then result_set_terminator_at capabilities payload else old_eof_at payload

abbrev pub end_bytes : Bool → ℕ → OkPacket → Payload
end_bytes deprecated capabilities ok = if deprecated then ok_packet_bytes 254 capabilities ok else eof_bytes ok

abbrev pub begins_end : Bool → Payload → Bool
begins_end deprecated payload = begins_with 254 payload && nat_lt (length payload) (terminator_limit deprecated)

-- it is read as it, and stands where it stood
abbrev pub EndPut : Bool → ℕ → OkPacket → Type 0
EndPut deprecated capabilities ok =
    (end_at deprecated capabilities (end_bytes deprecated capabilities ok) ≡ gave ok []) ×
    (begins_end deprecated (end_bytes deprecated capabilities ok) ≡ true) ×
    (begins_with 255 (end_bytes deprecated capabilities ok) ≡ false) ×
    (begins_with 0 (end_bytes deprecated capabilities ok) ≡ false)

second : (a b : Bool) → a && b ≡ true → b ≡ true
second true b h = h
second false b h = absurd cc

begins_short : (ok : OkPacket) → begins_end false (eof_bytes ok) ≡ true
unfolding eof_bytes
begins_short ok = refl

end_put : (deprecated : Bool) (capabilities : ℕ) (payload : Payload) (x : OkPacket × List ℕ) → AreBytes payload →
    length payload < 2 ^ 64 → begins_end deprecated payload ≡ true → end_at deprecated capabilities payload ≡ Ok x →
    EndPut deprecated capabilities x.0
end_put true capabilities payload x small few begins h =
    let short = ltb-true (length payload) 16777215
    (second (begins_with 254 payload) (nat_lt (length payload) 16777215) begins) in
    let written = terminator_short capabilities payload x small short h in (
      terminator_again capabilities payload x small few h,
      rw (begins_packet 254 254 capabilities x.0)
          (lt-ltb (length (ok_packet_bytes 254 capabilities x.0)) 16777215 written),
      begins_packet 254 255 capabilities x.0,
      begins_packet 254 0 capabilities x.0,
    )
end_put false capabilities payload x small few begins h =
    (eof_again payload x small few h, begins_short x.0, begins_eof 255 x.0, begins_eof 0 x.0)

-- a terminator that a step reads
abbrev pub TerminatorPut : Context → ReplySoFar → Event → ReplySoFar → Type 0
TerminatorPut c s event next = (written : Payload) × (event_payload c event ≡ Some written) ×
    (begins_with 255 written ≡ false) × (begins_with 0 written ≡ false) × (begins_terminator c written ≡ true) ×
    (in_end c s written ≡ Ok (event, next))

terminator_put : (c : Context) (s : ReplySoFar) (payload : Payload) (event : Event)
    (next : ReplySoFar) → AreBytes payload →
    length payload < 2 ^ 64 → begins_terminator c payload ≡ true → in_end c s payload ≡ Ok (event, next) →
    TerminatorPut c s event next
terminator_put c s payload event next small few begins h =
    let part = step_ok (terminator c payload) _ (event, next) h in
    let read = read_ok BadTerminator (end_at (deprecate_eof c) (protocol c) payload) part.0 part.1 in
    let again = end_put (deprecate_eof c) (protocol c) payload (part.0, read.0) small few begins read.1 in
    let is = same_event (RowsEndEvent part.0) event _ next part.2 in (
      terminator_bytes c part.0,
      payload_of c (RowsEndEvent part.0) event (terminator_bytes c part.0) is refl,
      again.2,
      again.3,
      again.1,
      rw again.0 part.2,
    )

-- COUNTS

-- a count's first byte begins no OK packet, no error and no request for a file; few others follow
abbrev pub CountBegins : ℕ → Type 0
CountBegins n = (b : ℕ) × (rest : List ℕ) × (lenenc_int n ≡ b ∷ rest) × (b ≢ 0) × (b ≢ 251) ×
    (b ≢ 255) × (length rest ≤ 2)

count_begins : (n : ℕ) → 0 < n → n < 65536 → CountBegins n
count_begins n some few = go (nat_lt n 251) (nat_lt n (2 ^ 16)) refl (lt-ltb n (2 ^ 16) few) where
  go : (one two : Bool) → nat_lt n 251 ≡ one → two ≡ true → (b : ℕ) × (rest : List ℕ) ×
      ((if one then n ∷ [] else if two then 252 ∷ little_bytes 2 n else if nat_lt n (2 ^ 24) then 253 ∷ little_bytes 3 n
      else 254 ∷ little_bytes 8 n) ≡ b ∷ rest) × (b ≢ 0) × (b ≢ 251) × (b ≢ 255) × (length rest ≤ 2)
  go true two is fits =
      let low = ltb-true n 251 is in
      (n, [], refl, λ e. absurd (omega arith), λ e. absurd (omega arith), λ e. absurd (omega arith), omega arith)
  go false true is fits = (
    252,
    little_bytes 2 n,
    refl,
    λ e. absurd (omega arith),
    λ e. absurd (omega arith),
    λ e. absurd (omega arith),
    omega arith,
  )
  go false false is fits = absurd cc

-- a payload of a count stands where it stood
abbrev pub CountStands : Context → Payload → Type 0
CountStands c written = (begins_ok c written ≡ false) × (begins_with 251 written ≡ false) ×
    ((length written == 0) ≡ false) ×
    (begins_with 255 written ≡ false)

some_bytes : (b : ℕ) (rest : List ℕ) → (length (b ∷ rest) == 0) ≡ false
some_bytes b rest = grind (arith, nat_tests)

few_bytes : (b : ℕ) (rest : List ℕ) → length rest ≤ 3 → nat_lt 6 (length (b ∷ rest)) ≡ false
few_bytes b rest few = grind (arith, nat_tests)

never : (a : Bool) → a && false ≡ false
never true = refl
never false = refl

follow_stands : (c : Context) (follow : Bool) (n : ℕ) → optional_metadata c ≡ true → CountBegins n →
    CountStands c (follow_byte follow ++ lenenc_int n)
follow_stands c true n optional begins = rw (begins.2) (refl, refl, some_bytes 1 (begins.0 ∷ begins.1), refl)
follow_stands c false n optional begins =
    rw (optional, begins.2) (
      few_bytes 0 (begins.0 ∷ begins.1) (omega (arith, begins.6)),
      refl,
      some_bytes 0 (begins.0 ∷ begins.1),
      refl,
    )

number_stands : (c : Context) (n : ℕ) (behind : List ℕ) → CountBegins n → CountStands c (lenenc_int n ++ behind)
number_stands c n behind begins =
    rw (begins.2) (
      rw (ne_eqb begins.0 0 begins.3) refl,
      ne_eqb begins.0 251 begins.4,
      some_bytes begins.0 (begins.1 ++ behind),
      ne_eqb begins.0 255 begins.5,
    )

count_stands : (c : Context) (n : ℕ) (follow : Bool) → CountBegins n → CountStands c (count_bytes c n follow)
count_stands c n follow begins = go (optional_metadata c) (cached_metadata c) refl where
  go : (optional cached : Bool) → optional_metadata c ≡ optional →
      CountStands c (if optional then follow_byte follow ++ lenenc_int n
      else if cached then lenenc_int n ++ follow_byte follow else lenenc_int n)
  go true cached is = follow_stands c follow n is begins
  go false true is = number_stands c n (follow_byte follow) begins
  go false false is = subst (CountStands c) (append-nil (lenenc_int n)) (number_stands c n [] begins)

follow_back : (follow : Bool) (rest : List ℕ) → follow_at (follow_byte follow ++ rest) ≡ Ok (follow, rest)
follow_back true rest = rw (fixed_number_at-back 1 1 rest (lit< tt)) refl
follow_back false rest = rw (fixed_number_at-back 1 0 rest (lit< tt)) refl

follow_alone : (follow : Bool) → follow_at (follow_byte follow) ≡ Ok (follow, [])
follow_alone follow = ap follow_at (sym (append-nil (follow_byte follow))) ∙ follow_back follow []

number_alone : (n : ℕ) → n < 2 ^ 64 → lenenc_number_at (lenenc_int n) ≡ Ok (n, [])
number_alone n few = ap lenenc_number_at (sym (append-nil (lenenc_int n))) ∙ lenenc_number_at-back n [] few

-- a count by what is agreed on
abbrev pub count_by : Bool → Bool → List ℕ → Reading (ℕ × Bool)
count_by optional cached bytes =
    if optional then (follow_at bytes >>= λ follow. lenenc_number_at follow.1 >>= λ count. Ok
    ((count.0, follow.0), count.1))
    else if cached then (lenenc_number_at bytes >>= λ count. follow_at count.1 >>= λ follow. Ok
    ((count.0, follow.0), follow.1))
    else (lenenc_number_at bytes >>= λ count. Ok ((count.0, true), count.1))

abbrev pub bytes_by : Bool → Bool → ℕ × Bool → List ℕ
bytes_by optional cached count =
    if optional then follow_byte count.1 ++ lenenc_int count.0
    else if cached then lenenc_int count.0 ++ follow_byte count.1
    else lenenc_int count.0

count_back : (optional cached : Bool) (payload : Payload) (count : ℕ × Bool) (rest : List ℕ) → count.0 < 2 ^ 64 →
    count_by optional cached payload ≡ gave count rest →
    count_by optional cached (bytes_by optional cached count) ≡ gave count []
count_back true cached payload count rest few h =
    rw (follow_back count.1 (lenenc_int count.0), number_alone count.0 few) refl
count_back false true payload count rest few h =
    rw (lenenc_number_at-back count.0 (follow_byte count.1) few, follow_alone count.1) refl
count_back false false payload count rest few h =
    let number = bind_ok (lenenc_number_at payload) (λ n. gave (n.0, true) n.1) (count, rest) h in
    let follows : true ≡ count.1 =
    ap (λ (x : (ℕ × Bool) × List ℕ). x.0.1)
    (ok_same ((number.0.0, true), number.0.1) (count, rest) number.2) in
    rw (number_alone count.0 few) (ap (λ (follow : Bool). gave (count.0, follow) []) follows)

within_ok : (x count : ℕ × Bool) → within x ≡ Ok count → (x ≡ count) × (0 < count.0) × (count.0 < 65536)
within_ok x count h = go (nat_lt 0 x.0) (nat_lt x.0 65536) refl refl h where
  go : (some few : Bool) → nat_lt 0 x.0 ≡ some → nat_lt x.0 65536 ≡ few →
      (if some && few then Ok x else Err BadCount) ≡ Ok count
      → (x ≡ count) × (0 < count.0) × (count.0 < 65536)
  go true true some few e =
      let same : x ≡ count = cc in
      subst (λ (y : ℕ × Bool). (x ≡ y) × (0 < y.0) × (y.0 < 65536)) same (
        refl,
        ltb-true 0 x.0 some,
        ltb-true x.0 65536 few,
      )
  go true false some few e = absurd cc
  go false few some fits e = absurd cc

within_again : (count : ℕ × Bool) → 0 < count.0 → count.0 < 65536 → within count ≡ Ok count
within_again count some few = rw (lt-ltb 0 count.0 some, lt-ltb count.0 65536 few) refl

-- a count is read again of what is written of it
column_count_again : (c : Context) (payload : Payload) (count : ℕ × Bool) → column_count c payload ≡ Ok count →
    (column_count c (count_bytes c count.0 count.1) ≡ Ok count) × (0 < count.0) × (count.0 < 65536)
column_count_again c payload count h =
    let part = step_ok (whole_or_fault BadCount (count_at c payload)) within count h in
    let read = whole_ok BadCount (count_at c payload) part.0 part.1 in
    let inside = within_ok part.0 count part.2 in
    let reads : count_at c payload ≡ gave count [] = read ∙ ap (λ (x : ℕ × Bool). gave x []) inside.0 in
    let again = count_back (optional_metadata c) (cached_metadata c) payload count [] (omega (arith, inside.2)) reads in
    (rw again (within_again count inside.1 inside.2), inside.1, inside.2)

count_put : (c : Context) (s : ReplySoFar) (payload : Payload) (event : Event) (next : ReplySoFar) →
    count_step c s payload ≡ Ok (event, next) → Again (first_of_result c s) c event next
count_put c s payload event next h =
    let part = step_ok (column_count c payload) _ (event, next) h in
    let goes = step_ok (after_count c s.columns part.0) _ (event, next) part.2 in
    let again = column_count_again c payload part.0 part.1 in
    let is = same_event (CountEvent part.0.0 part.0.1) event _ next goes.2 in
    let stands = count_stands c part.0.0 part.0.1 (count_begins part.0.0 again.1 again.2) in (
      count_bytes c part.0.0 part.0.1,
      payload_of c (CountEvent part.0.0 part.0.1) event (count_bytes c part.0.0 part.0.1) is refl,
      stands.3,
      rw (stands.0, stands.1, stands.2, again.0) part.2,
    )

-- FIRST PAYLOADS

file_put : (c : Context) (s : ReplySoFar) (payload : Payload) (event : Event) (next : ReplySoFar) →
    goes_on s (FileEvent (drop 1 payload)) FileData ≡ Ok (event, next) → Again (first_of_result c s) c event next
unfolding local_infile
file_put c s payload event next h =
    let name = drop 1 payload in
    let is = same_event (FileEvent (drop 1 payload)) event _ next h in (
      local_infile (drop 1 payload),
      payload_of c (FileEvent (drop 1 payload)) event (local_infile (drop 1 payload)) is refl,
      refl,
      ap (λ (n : List ℕ). goes_on s (FileEvent n) FileData) (append-nil (drop 1 payload)) ∙ h,
    )

result_put : (c : Context) (s : ReplySoFar) (payload : Payload) (event : Event) (next : ReplySoFar) → AreBytes payload →
    length payload < 2 ^ 64 → first_of_result c s payload ≡ Ok (event, next) → Again (first_of_result c s) c event next
result_put c s payload event next small few h =
    go (begins_ok c payload) (begins_with 251 payload) (length payload == 0) h where
      go : (ok file none : Bool) →
          (if ok then ok_step c s payload else if file then goes_on s (FileEvent (drop 1 payload))
          FileData
          else if none then Err BadHeader else count_step c s payload) ≡ Ok (event, next) →
          Again (first_of_result c s) c event next
      go true file none e =
          let put = ok_put c s payload event next small few e in (
            ok_packet_bytes 0 (protocol c) put.0,
            payload_of c (OkEvent put.0) event (ok_packet_bytes 0 (protocol c) put.0) put.1 refl,
            begins_packet 0 255 (protocol c) put.0,
            rw (begins_ok_packet c put.0) put.2,
          )
      go false true none e = file_put c s payload event next e
      go false false true e = absurd cc
      go false false false e = count_put c s payload event next e

plain_put : (c : Context) (s : ReplySoFar) (payload : Payload) (event : Event) (next : ReplySoFar) → AreBytes payload →
    length payload < 2 ^ 64 → plain c s payload ≡ Ok (event, next) → Again (plain c s) c event next
plain_put c s payload event next small few h = go (begins_with 0 payload) (begins_terminator c payload) refl h where
  go : (ok end : Bool) → begins_terminator c payload ≡ end →
      (if ok then ok_step c s payload else if end then in_end c s payload
      else Err BadHeader) ≡ Ok (event, next) → Again (plain c s) c event next
  go true end is e =
      let put = ok_put c s payload event next small few e in (
        ok_packet_bytes 0 (protocol c) put.0,
        payload_of c (OkEvent put.0) event (ok_packet_bytes 0 (protocol c) put.0) put.1 refl,
        begins_packet 0 255 (protocol c) put.0,
        rw (begins_packet 0 0 (protocol c) put.0) put.2,
      )
  go false true is e =
      let put = terminator_put c s payload event next small few is e in
      (put.0, put.1, put.2, rw (put.3, put.4) put.5)
  go false false is e = absurd cc

-- behind a statement, by whether a byte says that columns follow
abbrev pub follow_behind : Bool → PrepareOk × List ℕ → Reading (PrepareOk × Bool)
follow_behind optional statement =
    if optional then (follow_at statement.1 >>= λ follow. Ok ((statement.0, follow.0), follow.1))
    else Ok ((statement.0, true), statement.1)

follow_again : (optional : Bool) (statement : PrepareOk × List ℕ) (x : (PrepareOk × Bool) × List ℕ) →
    follow_behind optional statement ≡ Ok x →
    (statement.0 ≡ x.0.0) × (follow_behind optional (
      statement.0,
      if optional then follow_byte x.0.1 else [],
    ) ≡ gave x.0 [])
follow_again true statement x h =
    let follow = bind_ok (follow_at statement.1) (λ follow. gave (statement.0, follow.0) follow.1) x h in
    let made : (PrepareOk × Bool) × List ℕ = ((statement.0, follow.0.0), follow.0.1) in
    subst (λ (y : (PrepareOk × Bool) × List ℕ). (statement.0 ≡ y.0.0) ×
    (follow_behind true (statement.0, follow_byte y.0.1) ≡ gave y.0 [])) (ok_same made x follow.2)
    (refl, rw (follow_alone follow.0.0) refl)
follow_again false statement x h =
    let made : (PrepareOk × Bool) × List ℕ = ((statement.0, true), statement.1) in
    subst (λ (y : (PrepareOk × Bool) × List ℕ). (statement.0 ≡ y.0.0) ×
    (follow_behind false (statement.0, []) ≡ gave y.0 [])) (ok_same made x h) (refl, refl)

prepared_again : (c : Context) (payload : Payload) (x : (PrepareOk × Bool) × List ℕ) → AreBytes payload →
    prepared_at c payload ≡ Ok x → prepared_at c (prepare_ok x.0.0 ++ follow_told c x.0.1) ≡ gave x.0 []
prepared_again c payload x small h =
    let statement = bind_ok (prepare_ok_at payload) (λ statement. follow_behind (optional_metadata c) statement) x h in
    let read = statement_read payload statement.0 small statement.1 in
    let again = follow_again (optional_metadata c) statement.0 x statement.2 in
    ap (λ (p : PrepareOk). prepared_at c (prepare_ok p ++ follow_told c x.0.1)) (sym again.0)
    ∙ ap (λ (r : Reading PrepareOk). r >>= λ found. follow_behind (optional_metadata c) found)
    (prepare_ok_at-back statement.0.0 (follow_told c x.0.1) read.0)
    ∙ again.1

begins_statement : (b : ℕ) (p : PrepareOk) (behind : List ℕ) → begins_with b (prepare_ok p ++ behind) ≡ (0 == b)
unfolding prepare_ok
begins_statement b p behind = refl

statement_put : (c : Context) (s : ReplySoFar) (payload : Payload) (event : Event)
    (next : ReplySoFar) → AreBytes payload →
    first_of_statement c s payload ≡ Ok (event, next) → Again (first_of_statement c s) c event next
statement_put c s payload event next small h = go (begins_with 0 payload) h where
  read : (x : PrepareOk × Bool) → prepared c payload ≡ Ok x → prepared c (prepare_ok x.0 ++ follow_told c x.1) ≡ Ok x
  read x e =
      let found = read_ok BadPrepare (prepared_at c payload) x e in
      ap (or_fault BadPrepare) (prepared_again c payload (x, found.0) small found.1)

  go : (is : Bool) → (if is then
      (prepared c payload >>= λ x. goes_on s (PreparedEvent x.0 x.1)
      (after_statement c x.0.num_params x.0.num_columns x.1)) else Err BadHeader) ≡
      Ok (event, next) → Again (first_of_statement c s) c event next
  go true e =
      let part = step_ok (prepared c payload) _ (event, next) e in
      let is = same_event (PreparedEvent part.0.0 part.0.1) event _ next part.2 in (
        prepare_ok part.0.0 ++ follow_told c part.0.1,
        payload_of c (PreparedEvent part.0.0 part.0.1) event (prepare_ok part.0.0 ++ follow_told c part.0.1) is refl,
        begins_statement 255 part.0.0 (follow_told c part.0.1),
        rw (begins_statement 0 part.0.0 (follow_told c part.0.1), read part.0 part.1) part.2,
      )
  go false e = absurd cc

-- ROWS

pub same_values : (values : List Value) → values_of (map Some values) ≡ values
same_values [] = refl
same_values (value ∷ values) = ap (λ (others : List Value). value ∷ others) (same_values values)

-- a row's payload begins neither an error nor a terminator
abbrev pub BeginsRow : Payload → Type 0
BeginsRow payload = (begins_with 255 payload ≡ false) × ((deprecated : Bool) → begins_end deprecated payload ≡ false)

below_limit : (deprecated : Bool) → terminator_limit deprecated ≤ 16777215
below_limit true = omega arith
below_limit false = omega arith

pub text_begins_row : (bytes : List ℕ) →
    ((b : ℕ) (others : List ℕ) → bytes ≡ b ∷ others → (b ≢ 255) ×
    (b ≡ 254 → 2 ^ 24 ≤ length bytes)) →
    BeginsRow bytes
text_begins_row [] begins = (refl, λ deprecated. refl)
text_begins_row (b ∷ others) begins =
    let part = begins b others refl in (
      ne_eqb b 255 part.0,
      λ deprecated. elim (eqb_tells b 254) [
        | inl same ↦ rw (same.0)
            (le-ltb (length (b ∷ others)) (terminator_limit deprecated)
            (omega (arith, below_limit deprecated, part.1 same.1)))
        | inr other ↦ rw (other.0) refl
      ],
    )

-- a row that is written is read as it
abbrev pub RowPut : Bool → List ColumnDefinition → List Value → Type 0
RowPut binary columns values =
    ((if binary then binary_cause columns (map Some values) else text_cause (map Some values)) ≡ None) ×
    ((if binary then binary_resultset_row_at columns (if binary then binary_row columns values else text_row values)
    else text_row_at columns (if binary then binary_row columns values else text_row values)) ≡ gave values []) ×
    BeginsRow (if binary then binary_row columns values else text_row values)

row_put : RowLaws → (binary : Bool) (columns : List ColumnDefinition) (payload : Payload)
    (values : List Value) → AreBytes payload →
    (if binary then binary_resultset_row_at columns payload else text_row_at columns payload) ≡ gave values [] →
    (binary ≡ true → map without_zero_sign values ≡ values) → RowPut binary columns values
row_put laws true columns payload values small h own =
    let read = laws.binary_written columns payload [] values small h in
    let fit = binary_row_fits columns payload (values, []) small h in
    let back = laws.binary_back columns values [] (sym fit.0) fit.1 read.0 in (
      read.0,
      ap (binary_resultset_row_at columns) (sym (append-nil (binary_row columns values))) ∙ back
          ∙ ap (λ (v : List Value). gave v []) (read.1 ∙ own refl),
      (refl, λ deprecated. refl),
    )
row_put laws false columns payload values small h own =
    let read = laws.text_written columns payload [] values h in
    let fit = text_row_fits columns payload (values, []) small h in
    let back = laws.text_back columns values [] (sym fit.0) fit.1 read.0 in (
      read.0,
      ap (text_row_at columns) (sym (append-nil (text_row values))) ∙ back ∙ ap (λ (v : List Value). gave v []) read.1,
      text_begins_row (text_row values) (laws.text_begins values),
    )

-- an event of a row that is read again
abbrev pub RowEventPut : Context → Bool → Option (List ColumnDefinition) → Event → Type 0
RowEventPut c known columns event = (written : Payload) × (event_payload c event ≡ Some written) ×
    (begins_with 255 written ≡ false) × (begins_terminator c written ≡ false) ×
    (row_event c known columns written ≡ Ok event)

-- the payload of a row of these values
pub row_payload : (c : Context) (columns : List ColumnDefinition) (values : List Value) →
    (if is_binary c.kind then binary_cause columns (map Some values) else text_cause (map Some values)) ≡ None →
    event_payload c (RowEvent (whole_row columns values)) ≡
    Some (if is_binary c.kind then binary_row columns values else text_row values)
row_payload c columns values none = rw (none, same_values values) refl

known_row_put : RowLaws →
    (c : Context) (columns : List ColumnDefinition) (payload : Payload) (event : Event) →
    AreBytes payload →
    HasOwnForm c event → row_event c true (Some columns) payload ≡ Ok event → RowEventPut c true (Some columns) event
known_row_put laws c columns payload event small own h =
    let part = step_ok (row c columns payload) _ event h in
    let is : RowEvent part.0 ≡ event = cc in
    let read = whole_ok BadRow _ part.0 part.1 in
    let values = bind_ok (if is_binary c.kind then binary_resultset_row_at columns payload else
    text_row_at columns payload)
    (λ x. gave (whole_row columns x.0) x.1) (part.0, []) read in
    let made : Row × List ℕ = (whole_row columns values.0.0, values.0.1) in
    let same = ok_same made (part.0, []) values.2 in
    let row_is : whole_row columns values.0.0 ≡ part.0 = ap (λ (x : Row × List ℕ). x.0) same in
    let none_left : values.0.1 ≡ [] = ap (λ (x : Row × List ℕ). x.1) same in
    let event_is : RowEvent (whole_row columns values.0.0) ≡ event = ap (λ (r : Row). RowEvent r) row_is ∙ is in
    let reads : (if is_binary c.kind then binary_resultset_row_at columns payload else text_row_at
    columns payload) ≡ gave values.0.0 [] =
    values.1 ∙ ap (λ (rest : List ℕ). gave values.0.0 rest) none_left in
    let form : HasOwnForm c (RowEvent (whole_row columns values.0.0)) = subst (HasOwnForm c) (sym event_is) own in
    let keeps : is_binary c.kind ≡ true → map without_zero_sign values.0.0 ≡ values.0.0 =
    λ binary. rw (same_values values.0.0) at (form binary) in
    let put = row_put laws (is_binary c.kind) columns payload values.0.0 small reads keeps in (
      if is_binary c.kind then binary_row columns values.0.0 else text_row values.0.0,
      payload_of c (RowEvent (whole_row columns values.0.0)) event _ event_is (row_payload c columns values.0.0 put.0),
      put.2.0,
      put.2.1 (deprecate_eof c),
      rw (put.1) (ap (λ (e : Event). let found : Result Event ReplyFault = Ok e in found) event_is),
    )

-- a row as it came
raw_row_put : (c : Context) (known : Bool) (columns : Option (List ColumnDefinition))
    (payload : Payload) (event : Event) →
    begins_with 255 payload ≡ false → begins_terminator c payload ≡ false →
    (if optional_metadata c then Ok (RawRowEvent payload) else Err BadRow) ≡ Ok event →
    row_event c known columns payload ≡ Ok event →
    RowEventPut c known columns event
raw_row_put c known columns payload event quiet goes_on h reads = go (optional_metadata c) h where
  go : (optional : Bool) → (if optional then Ok (RawRowEvent payload) else Err BadRow) ≡ Ok event →
      RowEventPut c known columns event
  go true e =
      let is : RawRowEvent payload ≡ event = cc in
      (payload, payload_of c (RawRowEvent payload) event payload is refl, quiet, goes_on, reads)
  go false e = absurd cc

row_event_put : RowLaws →
    (c : Context) (known : Bool) (columns : Option (List ColumnDefinition)) (payload : Payload)
    (event : Event) →
    AreBytes payload → begins_with 255 payload ≡ false → begins_terminator c payload ≡ false → HasOwnForm c event →
    row_event c known columns payload ≡ Ok event → RowEventPut c known columns event
row_event_put laws c true (Some columns) payload event small quiet goes_on own h =
    known_row_put laws c columns payload event small own h
row_event_put laws c true None payload event small quiet goes_on own h =
    raw_row_put c true None payload event quiet goes_on h h
row_event_put laws c false columns payload event small quiet goes_on own h =
    raw_row_put c false columns payload event quiet goes_on h h

rows_put : RowLaws → (c : Context) (s : ReplySoFar) (known : Bool) (payload : Payload)
    (event : Event) (next : ReplySoFar) →
    AreBytes payload → length payload < 2 ^ 64 → begins_with 255 payload ≡ false → HasOwnForm c event →
    in_rows c s known payload ≡ Ok (event, next) → Again (in_rows c s known) c event next
rows_put laws c s known payload event next small few quiet own h = go (begins_terminator c payload) refl h where
  go : (end : Bool) → begins_terminator c payload ≡ end → (if end then in_end c s payload
      else row_event c known s.columns payload >>= λ found. goes_on s found (Rows known)) ≡ Ok (event, next) →
      Again (in_rows c s known) c event next
  go true is e =
      let put = terminator_put c s payload event next small few is e in
      (put.0, put.1, put.2, rw (put.4) put.5)
  go false is e =
      let part = step_ok (row_event c known s.columns payload) _ (event, next) e in
      let same = same_event part.0 event _ next part.2 in
      let found = subst (λ (x : Event). row_event c known s.columns payload ≡ Ok x) same part.1 in
      let put = row_event_put laws c known s.columns payload event small quiet is own found in
      let leads_on : goes_on s event (Rows known) ≡ Ok (event, next) =
      subst (λ (x : Event). goes_on s x (Rows known) ≡ Ok (event, next)) same part.2 in
      (put.0, put.1, put.2, rw (put.3, put.4) leads_on)

fields_put : (c : Context) (s : ReplySoFar) (payload : Payload) (event : Event) (next : ReplySoFar) → AreBytes payload →
    length payload < 2 ^ 64 → in_fields c s payload ≡ Ok (event, next) → Again (in_fields c s) c event next
fields_put c s payload event next small few h = go (begins_terminator c payload) refl h where
  go : (end : Bool) → begins_terminator c payload ≡ end → (if end then in_end c s payload
      else field c payload >>= λ found. goes_on s (FieldEvent found) Fields) ≡ Ok (event, next) →
      Again (in_fields c s) c event next
  go true is e =
      let put = terminator_put c s payload event next small few is e in
      (put.0, put.1, put.2, rw (put.4) put.5)
  go false is e =
      let put = field_put c s payload event next small e in (
        listed_column put.0,
        payload_of c (FieldEvent put.0) event (listed_column put.0) put.1 refl,
        begins_field 255 put.0 refl,
        rw (begins_field 254 put.0 refl) put.2,
      )

-- PLACES

-- an event has a payload that begins no progress report, and is read as it by a step
abbrev pub Placed : (Payload → Step) → Context → Event → ReplySoFar → Type 0
Placed step c event next = (written : Payload) × (event_payload c event ≡ Some written) ×
    (has_report_form c written ≡ false) × (step written ≡ Ok (event, next))

neither : (a b d : Bool) → d ≡ false → a && b && d ≡ false
neither true true d h = h
neither true false d h = refl
neither false b d h = refl

other_front : (payload : Payload) → begins_with 255 payload ≡ false →
    bytes_eq (take 3 payload) (255 ∷ 255 ∷ 255 ∷ []) ≡ false
other_front [] h = refl
other_front (b ∷ others) h = rw h refl

pub no_report : (c : Context) (payload : Payload) → begins_with 255 payload ≡ false → has_report_form c payload ≡ false
no_report c payload h =
    neither (has_reports c.kind) (reports_progress c)
    (bytes_eq (take 3 payload) (255 ∷ 255 ∷ 255 ∷ [])) (other_front payload h)

placed : (step : Payload → Step) (c : Context) (event : Event) (next : ReplySoFar) → Again step c event next →
    Placed step c event next
placed step c event next put = (put.0, put.1, no_report c put.0 put.2, put.3)

error_put : (c : Context) (s : ReplySoFar) (step : Payload → Step) (payload : Payload)
    (event : Event) (next : ReplySoFar) →
    AreBytes payload → has_report_form c payload ≡ false → error_step c s payload ≡ Ok (event, next) →
    Placed (λ p. error_or c s p (step p)) c event next
error_put c s step payload event next small quiet h =
    let part = step_ok (server_error c payload) _ (event, next) h in
    let read = read_ok BadError (error_at (protocol c) payload) part.0 part.1 in
    let again = error_again (protocol c) payload (part.0, read.0) small read.1 in
    let is = same_event (ErrorEvent part.0) event _ next part.2 in
    let front : has_report_form c (err_packet (Error part.0)) ≡ has_report_form c payload =
    ap (λ (three : List ℕ). has_reports c.kind && reports_progress c &&
    bytes_eq three (255 ∷ 255 ∷ 255 ∷ [])) again.1 in (
      err_packet (Error part.0),
      payload_of c (ErrorEvent part.0) event (err_packet (Error part.0)) is refl,
      front ∙ quiet,
      rw again.0 part.2,
    )

error_or_put : (c : Context) (s : ReplySoFar) (step : Payload → Step) (payload : Payload)
    (event : Event) (next : ReplySoFar) →
    AreBytes payload → has_report_form c payload ≡ false →
    (begins_with 255 payload ≡ false → step payload ≡ Ok (event, next) → Again step c event next) →
    error_or c s payload (step payload) ≡ Ok (event, next) → Placed (λ p. error_or c s p (step p)) c event next
error_or_put c s step payload event next small quiet again h = go (begins_with 255 payload) refl h where
  go : (error : Bool) → begins_with 255 payload ≡ error →
      (if error then error_step c s payload else step payload) ≡ Ok (event, next) →
      Placed (λ p. error_or c s p (step p)) c event next
  go true is e = error_put c s step payload event next small quiet e
  go false is e =
      let put = again is e in
      (put.0, put.1, no_report c put.0 put.2, rw (put.2) put.3)

first_put : RowLaws → (c : Context) (s : ReplySoFar) (kind : ReplyKind) (payload : Payload)
    (event : Event) (next : ReplySoFar) →
    AreBytes payload → length payload < 2 ^ 64 → HasOwnForm c event → begins_with 255 payload ≡ false →
    first c s kind payload ≡ Ok (event, next) → Again (first c s kind) c event next
first_put laws c s kinds.Text payload event next small few own quiet h = result_put c s payload event next small few h
first_put laws c s kinds.Binary payload event next small few own quiet h = result_put c s payload event next small few h
first_put laws c s kinds.Prepare payload event next small few own quiet h = statement_put c s payload event next small h
first_put laws c s kinds.Plain payload event next small few own quiet h = plain_put c s payload event next small few h
first_put laws c s kinds.Line payload event next small few own quiet h =
    let is = same_event (LineEvent payload) event _ next h in
    (payload, payload_of c (LineEvent payload) event payload is refl, quiet, h)
first_put laws c s kinds.FieldList payload event next small few own quiet h =
    fields_put c s payload event next small few h
first_put laws c s kinds.Fetch payload event next small few own quiet h =
    rows_put laws c s true payload event next small few quiet own h

place_put : RowLaws → (c : Context) (s : ReplySoFar) (a : Awaited) (payload : Payload)
    (event : Event) (next : ReplySoFar) →
    AreBytes payload → length payload < 2 ^ 64 → HasOwnForm c event → is_due a && has_report_form c payload ≡ false →
    in_place c s a payload ≡ Ok (event, next) → Placed (in_place c s a) c event next
place_put laws c s First payload event next small few own quiet h =
    error_or_put c s (first c s c.kind) payload event next small quiet
    (first_put laws c s c.kind payload event next small few own) h
place_put laws c s (Columns group n earlier) payload event next small few own quiet h =
    placed (in_columns c s group n earlier) c event next (column_put c s group n earlier payload event next small h)
place_put laws c s (ColumnsEnd group known) payload event next small few own quiet h =
    placed (in_columns_end c s group known) c event next
    (columns_end_put c s group known payload event next small few h)
place_put laws c s (Rows known) payload event next small few own quiet h =
    error_or_put c s (in_rows c s known) payload event next small quiet
    (λ other e. rows_put laws c s known payload event next small few other own e) h
place_put laws c s Fields payload event next small few own quiet h =
    error_or_put c s (in_fields c s) payload event next small quiet
    (λ other e. fields_put c s payload event next small few e) h
place_put laws c s FileData payload event next small few own quiet h = absurd cc
place_put laws c s Nothing payload event next small few own quiet h = absurd cc

-- PROGRESS REPORTS

first_of : (a b : Bool) → a && b ≡ true → a ≡ true
first_of true b h = refl
first_of false b h = absurd cc

still_reports : (a b d : Bool) → a && b && d ≡ true → a && b && true ≡ true
still_reports true true d h = refl
still_reports true false d h = absurd cc
still_reports false b d h = absurd cc

report_form : (c : Context) (payload : Payload) (r : ProgressReport) → has_report_form c payload ≡ true →
    has_report_form c (err_packet (Progress r)) ≡ true
report_form c payload r h =
    still_reports (has_reports c.kind) (reports_progress c) (bytes_eq (take 3 payload) (255 ∷ 255 ∷ 255 ∷ [])) h

progress_put : (c : Context) (s : ReplySoFar) (payload : Payload) (event : Event)
    (next : ReplySoFar) → AreBytes payload →
    is_due s.awaited && has_report_form c payload ≡ true →
    (report payload >>= λ found. leads (ProgressEvent found) s) ≡ Ok (event, next) → IsPutThere c s event next
progress_put c s payload event next small due h =
    let part = step_ok (report payload) (λ found. leads (ProgressEvent found) s) (event, next) h in
    let read = read_ok BadError (progress_report_at payload) part.0 part.1 in
    let again = report_again payload (part.0, read.0) small read.1 in
    let is = same_event (ProgressEvent part.0) event s next part.2 in
    let form = report_form c payload part.0 (second (is_due s.awaited) (has_report_form c payload) due) in (
      err_packet (Progress part.0),
      payload_of c (ProgressEvent part.0) event (err_packet (Progress part.0)) is refl,
      rw (first_of (is_due s.awaited) (has_report_form c payload) due, form, again) part.2,
    )

pub events_are_put : RowLaws → ReadEventsArePut
events_are_put laws c s payload event next small few h own =
    go (is_due s.awaited && has_report_form c payload) refl h where
      go : (reports : Bool) → is_due s.awaited && has_report_form c payload ≡ reports →
          (if reports then (report payload >>= λ found. leads (ProgressEvent found) s) else in_place c s
          s.awaited payload) ≡
          Ok (event, next) → IsPutThere c s event next
      go true is e = progress_put c s payload event next small is e
      go false is e =
          let put = place_put laws c s s.awaited payload event next small few own is e in
          (put.0, put.1, rw (put.2, never (is_due s.awaited)) put.3)
