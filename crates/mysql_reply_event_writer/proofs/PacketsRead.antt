-- Packets that were read hold what their types hold, and are read again of what is written of them.
use Rattle.std.proofs.Common.{◌≡◌, ◌<◌, ◌^◌, ◌/◌, ◌%◌, ◌==◌, if◌then◌else◌, ℕ, Bool, true, false, List, [], ◌∷◌, ◌++◌}
use Rattle.std.proofs.Common.{length, take}
use Rattle.std.proofs.Common.{Option, None, Some, Ok, Err, refl, sym, ap, ◌∙◌, subst, arith, lit<, append-nil}
use Rattle.std.specs.Prelude.{is_some}
use Rattle.std.specs.Option.{IfSome}
use Rattle.byteorder.specs.Endian.{little_bytes}
use Rattle.mysql_buf.specs.Bytes.{AreBytes}
use Rattle.mysql_columns.specs.Columns.{ColumnFields, ColumnNames, IsColumn, catalog, column_fields_at}
use Rattle.mysql_columns.specs.Columns.{column_names_at, column_with}
use Rattle.mysql_columns.specs.Extended.{ExtendedDefinition, IsExtended, IsListed, ListedDefinition, default_at}
use Rattle.mysql_columns.specs.Extended.{extended_column, extended_column_at, extended_metadata, listed_column}
use Rattle.mysql_columns.specs.Extended.{listed_column_at, metadata_at}
use Rattle.mysql_columns.specs.ExtendedLaws.{extended_column_at-back, listed_column_at-back}
use Rattle.mysql_const.specs.ColumnTypes.{column_type_named}
use Rattle.mysql_const.specs.declared.column_type.ColumnType.{ColumnType}
use Rattle.mysql_field_constants.specs.ConstantLaws.{constant_at-back}
use Rattle.mysql_field_constants.specs.Constants.{constant_at, named_at, or_unknown, skipped_at, text_constant_at}
use Rattle.mysql_fields.specs.Forms.{bytes_at, fixed_number_at}
use Rattle.mysql_fields.specs.Laws.{bind_ok, bytes_at-back, fixed_number_at-back, ok_same}
use Rattle.mysql_fields.specs.Texts.{lenenc_text_at}
use Rattle.mysql_fields.specs.Wire.{Reading, from_block, lacks, ◌>>=◌}
use Rattle.mysql_fields.specs.declared.error.WireError.TheVariants.{UnexpectedEof}
use Rattle.mysql_ok_packets.specs.BackLaws.{eof-back, ok_packet-back, terminator-back}
use Rattle.mysql_ok_packets.specs.OkPackets.{OkPacket, ok_packet_at, old_eof_at, result_set_terminator_at}
use Rattle.mysql_ok_packets.specs.OwnLaws.{eof_own, ok_packet_own, terminator_own}
use Rattle.mysql_ok_packets.specs.Written.{eof_bytes, ok_packet_bytes}
use Rattle.mysql_server_packets.specs.PacketLaws.{progress_body_at-back, server_error_at-back}
use Rattle.mysql_server_packets.specs.Packets.{Error, HasState, IsPrepareOk, IsProgressReport, PrepareOk, Progress}
use Rattle.mysql_server_packets.specs.Packets.{ProgressReport, ServerError, StageProgress, err_packet, error_at}
use Rattle.mysql_server_packets.specs.Packets.{error_code_at, prepare_ok_at, prepare_ok_fields_at}
use Rattle.mysql_server_packets.specs.Packets.{progress_body, progress_body_at, progress_report_at, protocol_41}
use Rattle.mysql_server_packets.specs.Packets.{server_error, server_error_at, sql_state_at, sql_state_fields_at}
use Rattle.mysql_server_packets.specs.Packets.{stage_progress_at, state_part_at}
use Rattle.mysql_reply_event_writer.proofs.FieldsRead.{block_read, constant_own, constant_read, constant_text_read}
use Rattle.mysql_reply_event_writer.proofs.FieldsRead.{number_own, number_read, skipped_read, text_read}

-- a reading that gave this, with nothing left
abbrev pub all : {X : Type 0} → X → Reading X
all x = Ok (x, [])

block_by : {X : Type 0} (few : Bool) (reading : Reading X) (x : X × List ℕ) →
    (if few then Err UnexpectedEof else reading) ≡ Ok x → reading ≡ Ok x
block_by true reading x h = absurd cc
block_by false reading x h = h

-- what is read behind a block that is there
in_block : {X : Type 0} (n : ℕ) (read_at : List ℕ → Reading X) (bytes : List ℕ) (x : X × List ℕ) →
    from_block n read_at bytes ≡ Ok x → read_at bytes ≡ Ok x
in_block {X} n read_at bytes x h = block_by (lacks (Some n) (length bytes)) (read_at bytes) x h

-- OK PACKETS

pub ok_again : (capabilities : ℕ) (bytes : List ℕ) (x : OkPacket × List ℕ) → AreBytes bytes → length bytes < 2 ^ 64 →
    ok_packet_at capabilities bytes ≡ Ok x →
    ok_packet_at capabilities (ok_packet_bytes 0 capabilities x.0) ≡ Ok (x.0, [])
ok_again capabilities bytes x small few h =
    let own = ok_packet_own capabilities bytes x.1 x.0 small few h in
    ok_packet-back capabilities x.0 own.0 ∙ ap (λ (p : OkPacket). all p) own.1

pub terminator_again : (capabilities : ℕ) (bytes : List ℕ) (x : OkPacket × List ℕ) →
    AreBytes bytes → length bytes < 2 ^ 64 →
    result_set_terminator_at capabilities bytes ≡ Ok x →
    result_set_terminator_at capabilities (ok_packet_bytes 254 capabilities x.0) ≡ Ok (x.0, [])
terminator_again capabilities bytes x small few h =
    let own = terminator_own capabilities bytes x.1 x.0 small few h in
    terminator-back capabilities x.0 own.0 ∙ ap (λ (p : OkPacket). all p) own.1

pub eof_again : (bytes : List ℕ) (x : OkPacket × List ℕ) → AreBytes bytes → length bytes < 2 ^ 64 →
    old_eof_at bytes ≡ Ok x →
    old_eof_at (eof_bytes x.0) ≡ Ok (x.0, [])
eof_again bytes x small few h =
    let own = eof_own bytes x.1 x.0 small few h in
    eof-back x.0 own.0 ∙ ap (λ (p : OkPacket). all p) own.1

-- ERRORS

-- three bytes, by the code that they say
three_bytes : (bytes : List ℕ) (header code : ℕ × List ℕ) → length bytes ≡ 3 → AreBytes bytes →
    constant_at 1 255 bytes ≡ Ok header → fixed_number_at 2 header.1 ≡ Ok code → bytes ≡ 255 ∷ little_bytes 2 code.0
three_bytes [] header code len small first second = absurd (omega (arith, len))
three_bytes (a ∷ []) header code len small first second = absurd (omega (arith, len))
three_bytes (a ∷ b ∷ []) header code len small first second = absurd (omega (arith, len))
three_bytes (a ∷ b ∷ d ∷ []) header code len small first second =
    let one = constant_own 1 255 (a ∷ b ∷ d ∷ []) header first in
    let two : fixed_number_at 2 (b ∷ d ∷ []) ≡ Ok code = ap (fixed_number_at 2) (sym one.1) ∙ second in
    let own = number_own 2 (b ∷ d ∷ []) code two in
    let x = small 0 in
    let y = small 1 in
    let z = small 2 in
    let begins : a ≡ 255 = omega (arith, one.0, x) in
    let low : b ≡ code.0 % 256 = omega (arith, own.0, y, z) in
    let high : d ≡ code.0 / 256 % 256 = omega (arith, own.0, y, z) in
    cc
three_bytes (a ∷ b ∷ d ∷ e ∷ bytes) header code len small first second = absurd (omega (arith, len))

-- a code that was read, and the bytes that say so
abbrev pub CodeRead : List ℕ → ℕ × List ℕ → Type 0
CodeRead bytes x = (x.0 < 2 ^ 16) × (take 3 bytes ≡ 255 ∷ little_bytes 2 x.0) × AreBytes x.1

code_read : (bytes : List ℕ) (x : ℕ × List ℕ) → AreBytes bytes → error_code_at bytes ≡ Ok x → CodeRead bytes x
unfolding error_code_at
code_read bytes x small h =
    let block = bind_ok (bytes_at 3 bytes) _ x h in
    let three = block_read 3 bytes block.0 small block.1 in
    let header = bind_ok (constant_at 1 255 block.0.0) _ x block.2 in
    let code = bind_ok (fixed_number_at 2 header.0.1) _ x header.2 in
    let rest = constant_read 1 255 block.0.0 header.0 three.2 header.1 in
    let number = number_read 2 header.0.1 code.0 rest.1 code.1 in
    let low : code.0.0 < 256 ^ 2 = number.0 in
    let are = three_bytes block.0.0 header.0 code.0 three.1 three.2 header.1 code.1 in
    let made : ℕ × List ℕ = (code.0.0, block.0.1) in
    subst (CodeRead bytes) (ok_same made x code.2) (omega arith, sym three.0 ∙ are, three.3.1)

state_five : (bytes : List ℕ) (x : List ℕ × List ℕ) → AreBytes bytes → sql_state_at bytes ≡ Ok x → length x.0 ≡ 5
unfolding sql_state_at sql_state_fields_at
state_five bytes x small h =
    let fields = in_block 6 sql_state_fields_at bytes x h in
    let marker = bind_ok (constant_at 1 35 bytes) _ x fields in
    let rest = constant_read 1 35 bytes marker.0 small marker.1 in
    (block_read 5 marker.0.1 x rest.1 marker.2).1

state_read : (protocol : Bool) (bytes : List ℕ) (x : Option (List ℕ) × List ℕ) → AreBytes bytes →
    state_part_at protocol bytes ≡ Ok x → HasState protocol x.0
state_read true bytes x small h =
    let state = bind_ok (sql_state_at bytes) _ x h in
    let made : Option (List ℕ) × List ℕ = (Some state.0.0, state.0.1) in
    subst (λ (y : Option (List ℕ) × List ℕ). HasState true y.0) (ok_same made x state.2)
    (state_five bytes state.0 small state.1)
state_read false bytes x small h =
    let made : Option (List ℕ) × List ℕ = (None, bytes) in
    subst (λ (y : Option (List ℕ) × List ℕ). HasState false y.0) (ok_same made x h) tt

code_back : (code : ℕ) (rest : List ℕ) → code < 2 ^ 16 →
    error_code_at (255 ∷ (little_bytes 2 code ++ rest)) ≡ Ok (code, rest)
unfolding error_code_at
code_back code rest small = rw (
  bytes_at-back 3 (255 ∷ little_bytes 2 code) rest refl,
  constant_at-back 1 255 (little_bytes 2 code) (lit< tt),
  fixed_number_at-back 2 code [] small,
) refl

error_back : (capabilities : ℕ) (e : ServerError) → e.error_code < 2 ^ 16 →
    HasState (protocol_41 capabilities) e.sql_state →
    error_at capabilities (err_packet (Error e)) ≡ Ok (e, [])
unfolding error_at
error_back capabilities e code state = rw (
  code_back e.error_code (server_error e ++ []) code,
  server_error_at-back (protocol_41 capabilities) e.error_code e []
      (record { error_code = refl; sql_state = state }) refl,
) refl

-- an error is read again, and what is written of it begins as it did
abbrev pub ErrorAgain : ℕ → List ℕ → ServerError × List ℕ → Type 0
ErrorAgain capabilities bytes x = (error_at capabilities (err_packet (Error x.0)) ≡ Ok (x.0, [])) ×
    (take 3 (err_packet (Error x.0)) ≡ take 3 bytes)

pub error_again : (capabilities : ℕ) (bytes : List ℕ) (x : ServerError × List ℕ) → AreBytes bytes →
    error_at capabilities bytes ≡ Ok x → ErrorAgain capabilities bytes x
unfolding error_at server_error_at
error_again capabilities bytes x small h =
    let code = bind_ok (error_code_at bytes) _ x h in
    let read = code_read bytes code.0 small code.1 in
    let state = bind_ok (state_part_at (protocol_41 capabilities) code.0.1) _ x code.2 in
    let has = state_read (protocol_41 capabilities) code.0.1 state.0 read.2 state.1 in
    let e : ServerError = record { error_code = code.0.0; sql_state = state.0.0; error_message = state.0.1 } in
    let made : ServerError × List ℕ =
    (record { error_code = code.0.0; sql_state = state.0.0; error_message = state.0.1 }, []) in
    subst (ErrorAgain capabilities bytes) (ok_same made x state.2)
    (error_back capabilities made.0 read.0 has, sym read.1)

-- PROGRESS REPORTS

abbrev pub StageRead : StageProgress → Type 0
StageRead p = (p.stage < 2 ^ 8) × (p.max_stage < 2 ^ 8) × (p.progress < 2 ^ 24)

stage_read : (bytes : List ℕ) (x : StageProgress × List ℕ) → AreBytes bytes →
    stage_progress_at bytes ≡ Ok x → StageRead x.0
unfolding stage_progress_at
stage_read bytes x small h =
    let count = bind_ok (fixed_number_at 1 bytes) _ x h in
    let a = number_read 1 bytes count.0 small count.1 in
    let stage = bind_ok (fixed_number_at 1 count.0.1) _ x count.2 in
    let b = number_read 1 count.0.1 stage.0 a.1.1 stage.1 in
    let most = bind_ok (fixed_number_at 1 stage.0.1) _ x stage.2 in
    let d = number_read 1 stage.0.1 most.0 b.1.1 most.1 in
    let progress = bind_ok (fixed_number_at 3 most.0.1) _ x most.2 in
    let e = number_read 3 most.0.1 progress.0 d.1.1 progress.1 in
    let one : stage.0.0 < 256 ^ 1 = b.0 in
    let two : most.0.0 < 256 ^ 1 = d.0 in
    let three : progress.0.0 < 256 ^ 3 = e.0 in
    let made : StageProgress × List ℕ = (
      record { stage = stage.0.0; max_stage = most.0.0; progress = progress.0.0 },
      progress.0.1,
    ) in
    subst (λ (y : StageProgress × List ℕ). StageRead y.0) (ok_same made x progress.2) (
      omega arith,
      omega arith,
      omega arith,
    )

report_read : (bytes : List ℕ) (x : ProgressReport × List ℕ) → AreBytes bytes → progress_body_at bytes ≡ Ok x →
    IsProgressReport x.0
unfolding progress_body_at
report_read bytes x small h =
    let block = bind_ok (bytes_at 6 bytes) _ x h in
    let six = block_read 6 bytes block.0 small block.1 in
    let numbers = bind_ok (stage_progress_at block.0.0) _ x block.2 in
    let read = stage_read block.0.0 numbers.0 six.2 numbers.1 in
    let info = bind_ok (lenenc_text_at block.0.1) _ x numbers.2 in
    let text = text_read block.0.1 info.0 six.3.1 info.1 in
    let made : ProgressReport × List ℕ = (
      record {
        stage = numbers.0.0.stage;
        max_stage = numbers.0.0.max_stage;
        progress = numbers.0.0.progress;
        progress_info = info.0.0;
      },
      info.0.1,
    ) in
    subst (λ (y : ProgressReport × List ℕ). IsProgressReport y.0) (ok_same made x info.2)
    (record { stage = read.0; max_stage = read.1; progress = read.2; progress_info = text.0 })

report_back : (r : ProgressReport) → IsProgressReport r → progress_report_at (err_packet (Progress r)) ≡ Ok (r, [])
unfolding progress_report_at
report_back r h = rw (
  bytes_at-back 3 (255 ∷ 255 ∷ 255 ∷ []) (progress_body r ++ []) refl,
  progress_body_at-back r [] h,
) refl

pub report_again : (bytes : List ℕ) (x : ProgressReport × List ℕ) → AreBytes bytes → progress_report_at bytes ≡ Ok x →
    progress_report_at (err_packet (Progress x.0)) ≡ Ok (x.0, [])
unfolding progress_report_at
report_again bytes x small h =
    let header = bind_ok (bytes_at 3 bytes) _ x h in
    let three = block_read 3 bytes header.0 small header.1 in
    report_back x.0 (report_read header.0.1 x three.3.1 header.2)

-- COLUMNS

-- names that fit their lengths, and bytes are left
abbrev pub NamesRead : ColumnNames × List ℕ → Type 0
NamesRead x = (length x.0.schema < 2 ^ 64) × (length x.0.table < 2 ^ 64) × (length x.0.org_table < 2 ^ 64) ×
    (length x.0.name < 2 ^ 64) × (length x.0.org_name < 2 ^ 64) × AreBytes x.1

names_read : (bytes : List ℕ) (x : ColumnNames × List ℕ) → AreBytes bytes → column_names_at bytes ≡ Ok x → NamesRead x
unfolding column_names_at
names_read bytes x small h =
    let schema = bind_ok (lenenc_text_at bytes) _ x h in
    let a = text_read bytes schema.0 small schema.1 in
    let table = bind_ok (lenenc_text_at schema.0.1) _ x schema.2 in
    let b = text_read schema.0.1 table.0 a.2.1 table.1 in
    let org_table = bind_ok (lenenc_text_at table.0.1) _ x table.2 in
    let d = text_read table.0.1 org_table.0 b.2.1 org_table.1 in
    let name = bind_ok (lenenc_text_at org_table.0.1) _ x org_table.2 in
    let e = text_read org_table.0.1 name.0 d.2.1 name.1 in
    let org_name = bind_ok (lenenc_text_at name.0.1) _ x name.2 in
    let f = text_read name.0.1 org_name.0 e.2.1 org_name.1 in
    let made : ColumnNames × List ℕ = (
      record {
        schema = schema.0.0;
        table = table.0.0;
        org_table = org_table.0.0;
        name = name.0.0;
        org_name = org_name.0.0;
      },
      org_name.0.1,
    ) in
    subst NamesRead (ok_same made x org_name.2) (a.0, b.0, d.0, e.0, f.0, f.2.1)

-- bytes behind a type's number
type_by : (found : Option ColumnType) (rest : List ℕ) (x : ColumnType × List ℕ) →
    or_unknown found rest ≡ Ok x → rest ≡ x.1
type_by None rest x h = absurd cc
type_by (Some t) rest x h = ap (λ (y : ColumnType × List ℕ). y.1) (ok_same (t, rest) x h)

type_read : (bytes : List ℕ) (x : ColumnType × List ℕ) → AreBytes bytes →
    named_at column_type_named (fixed_number_at 1) bytes ≡ Ok x → AreBytes x.1
type_read bytes x small h =
    let number = bind_ok (fixed_number_at 1 bytes) _ x h in
    let read = number_read 1 bytes number.0 small number.1 in
    subst AreBytes (type_by (column_type_named number.0.0) number.0.1 x number.2) read.1.1

abbrev pub NumbersRead : ColumnFields → Type 0
NumbersRead f = (f.character_set < 2 ^ 16) × (f.column_length < 2 ^ 32) × (f.flags.0 < 2 ^ 16) × (f.decimals < 2 ^ 8)

fields_read : (bytes : List ℕ) (x : ColumnFields × List ℕ) → AreBytes bytes →
    column_fields_at bytes ≡ Ok x → NumbersRead x.0
unfolding column_fields_at
fields_read bytes x small h =
    let size = bind_ok (constant_at 1 12 bytes) _ x h in
    let a = constant_read 1 12 bytes size.0 small size.1 in
    let set = bind_ok (fixed_number_at 2 size.0.1) _ x size.2 in
    let b = number_read 2 size.0.1 set.0 a.1 set.1 in
    let len = bind_ok (fixed_number_at 4 set.0.1) _ x set.2 in
    let d = number_read 4 set.0.1 len.0 b.1.1 len.1 in
    let kind = bind_ok (named_at column_type_named (fixed_number_at 1) len.0.1) _ x len.2 in
    let e = type_read len.0.1 kind.0 d.1.1 kind.1 in
    let flags = bind_ok (fixed_number_at 2 kind.0.1) _ x kind.2 in
    let f = number_read 2 kind.0.1 flags.0 e flags.1 in
    let decimals = bind_ok (fixed_number_at 1 flags.0.1) _ x flags.2 in
    let g = number_read 1 flags.0.1 decimals.0 f.1.1 decimals.1 in
    let one : set.0.0 < 256 ^ 2 = b.0 in
    let two : len.0.0 < 256 ^ 4 = d.0 in
    let three : flags.0.0 < 256 ^ 2 = f.0 in
    let four : decimals.0.0 < 256 ^ 1 = g.0 in
    let made : ColumnFields × List ℕ = (
      record {
        character_set = set.0.0;
        column_length = len.0.0;
        column_type = kind.0.0;
        flags = record { 0 = flags.0.0 };
        decimals = decimals.0.0;
      },
      decimals.0.1,
    ) in
    subst (λ (y : ColumnFields × List ℕ). NumbersRead y.0) (ok_same made x decimals.2)
    (omega arith, omega arith, omega arith, omega arith)

-- metadata where they are in force, and bytes are left
abbrev pub MetadataRead : Bool → Option (List ℕ) × List ℕ → Type 0
MetadataRead in_force x = (is_some x.0 ≡ in_force) × IfSome x.0 (λ metadata. length metadata < 2 ^ 64) × AreBytes x.1

metadata_read : (in_force : Bool) (bytes : List ℕ) (x : Option (List ℕ) × List ℕ) → AreBytes bytes →
    metadata_at in_force bytes ≡ Ok x → MetadataRead in_force x
metadata_read false bytes x small h =
    let made : Option (List ℕ) × List ℕ = (None, bytes) in
    subst (MetadataRead false) (ok_same made x h) (refl, tt, small)
metadata_read true bytes x small h =
    let text = bind_ok (lenenc_text_at bytes) _ x h in
    let read = text_read bytes text.0 small text.1 in
    let made : Option (List ℕ) × List ℕ = (Some text.0.0, text.0.1) in
    subst (MetadataRead true) (ok_same made x text.2) (refl, read.0, read.2.1)

-- a column that may be written by these capabilities, and bytes are left
abbrev pub ColumnRead : ℕ → ExtendedDefinition × List ℕ → Type 0
ColumnRead capabilities x = IsExtended capabilities x.0 × AreBytes x.1

column_read : (capabilities : ℕ) (bytes : List ℕ) (x : ExtendedDefinition × List ℕ) → AreBytes bytes →
    extended_column_at capabilities bytes ≡ Ok x → ColumnRead capabilities x
unfolding extended_column_at
column_read capabilities bytes x small h =
    let def = bind_ok (text_constant_at 4 catalog bytes) _ x h in
    let a = constant_text_read 4 catalog bytes def.0 small def.1 in
    let names = bind_ok (column_names_at def.0.1) _ x def.2 in
    let b = names_read def.0.1 names.0 a.1 names.1 in
    let metadata = bind_ok (metadata_at (extended_metadata capabilities) names.0.1) _ x names.2 in
    let d = metadata_read (extended_metadata capabilities) names.0.1 metadata.0 b.5 metadata.1 in
    let block = bind_ok (bytes_at 13 metadata.0.1) _ x metadata.2 in
    let e = block_read 13 metadata.0.1 block.0 d.2 block.1 in
    let fields = bind_ok (column_fields_at block.0.0) _ x block.2 in
    let f = fields_read block.0.0 fields.0 e.2 fields.1 in
    let column : IsColumn (column_with names.0.0 fields.0.0) = record {
      schema = b.0;
      table = b.1;
      org_table = b.2;
      name = b.3;
      org_name = b.4;
      character_set = f.0;
      column_length = f.1;
      flags = f.2;
      decimals = f.3;
    } in
    let made : ExtendedDefinition × List ℕ =
    (record { column = column_with names.0.0 fields.0.0; metadata = metadata.0.0 }, block.0.1) in
    subst (ColumnRead capabilities) (ok_same made x fields.2)
    (record { column = column; in_force = d.0; metadata = d.1 }, e.3.1)

pub column_again : (capabilities : ℕ) (bytes : List ℕ) (x : ExtendedDefinition × List ℕ) → AreBytes bytes →
    extended_column_at capabilities bytes ≡ Ok x → extended_column_at capabilities (extended_column x.0) ≡ Ok (x.0, [])
column_again capabilities bytes x small h =
    ap (extended_column_at capabilities) (sym (append-nil (extended_column x.0)))
    ∙ extended_column_at-back capabilities x.0 [] (column_read capabilities bytes x small h).0

default_read : (bytes : List ℕ) (x : Option (List ℕ) × List ℕ) → AreBytes bytes → default_at bytes ≡ Ok x →
    IfSome x.0 (λ text. length text < 2 ^ 64)
default_read [] x small h =
    let made : Option (List ℕ) × List ℕ = (None, []) in
    subst (λ (y : Option (List ℕ) × List ℕ). IfSome y.0 (λ text. length text < 2 ^ 64)) (ok_same made x h) tt
default_read (b ∷ bytes) x small h = go (b == 0xfb) h where
  go : (none : Bool) → (if none then Ok (None, bytes)
      else lenenc_text_at (b ∷ bytes) >>= λ text. Ok (Some text.0, text.1)) ≡ Ok x →
      IfSome x.0 (λ text. length text < 2 ^ 64)
  go true e =
      let made : Option (List ℕ) × List ℕ = (None, bytes) in
      subst (λ (y : Option (List ℕ) × List ℕ). IfSome y.0 (λ text. length text < 2 ^ 64)) (ok_same made x e) tt
  go false e =
      let text = bind_ok (lenenc_text_at (b ∷ bytes)) _ x e in
      let read = text_read (b ∷ bytes) text.0 small text.1 in
      let made : Option (List ℕ) × List ℕ = (Some text.0.0, text.0.1) in
      subst (λ (y : Option (List ℕ) × List ℕ). IfSome y.0 (λ text. length text < 2 ^ 64)) (ok_same made x text.2) read.0

pub field_again : (capabilities : ℕ) (bytes : List ℕ) (x : ListedDefinition × List ℕ) → AreBytes bytes →
    listed_column_at capabilities bytes ≡ Ok x → listed_column_at capabilities (listed_column x.0) ≡ Ok (x.0, [])
unfolding listed_column_at
field_again capabilities bytes x small h =
    let column = bind_ok (extended_column_at capabilities bytes) _ x h in
    let read = column_read capabilities bytes column.0 small column.1 in
    let default = bind_ok (default_at column.0.1) _ x column.2 in
    let text = default_read column.0.1 default.0 read.1 default.1 in
    let made : ListedDefinition × List ℕ = (record { column = column.0.0; default_value = default.0.0 }, default.0.1) in
    let is : IsListed capabilities made.0 = record { column = read.0; default_value = text } in
    subst (λ (y : ListedDefinition × List ℕ). listed_column_at capabilities (listed_column y.0) ≡
    all y.0) (ok_same made x default.2)
    (ap (listed_column_at capabilities) (sym (append-nil (listed_column made.0))) ∙
    listed_column_at-back capabilities made.0 [] is)

-- STATEMENTS

-- a statement that may be written, and bytes are left
abbrev pub StatementRead : PrepareOk × List ℕ → Type 0
StatementRead x = IsPrepareOk x.0 × AreBytes x.1

fields_of_statement : (bytes : List ℕ) (x : PrepareOk × List ℕ) → AreBytes bytes → prepare_ok_fields_at bytes ≡ Ok x →
    StatementRead x
unfolding prepare_ok_fields_at
fields_of_statement bytes x small h =
    let header = bind_ok (constant_at 1 0 bytes) _ x h in
    let a = constant_read 1 0 bytes header.0 small header.1 in
    let id = bind_ok (fixed_number_at 4 header.0.1) _ x header.2 in
    let b = number_read 4 header.0.1 id.0 a.1 id.1 in
    let columns = bind_ok (fixed_number_at 2 id.0.1) _ x id.2 in
    let d = number_read 2 id.0.1 columns.0 b.1.1 columns.1 in
    let parameters = bind_ok (fixed_number_at 2 columns.0.1) _ x columns.2 in
    let e = number_read 2 columns.0.1 parameters.0 d.1.1 parameters.1 in
    let filler = bind_ok (skipped_at 1 parameters.0.1) _ x parameters.2 in
    let f = skipped_read 1 parameters.0.1 filler.0 e.1.1 filler.1 in
    let warnings = bind_ok (fixed_number_at 2 filler.0.1) _ x filler.2 in
    let g = number_read 2 filler.0.1 warnings.0 f.1 warnings.1 in
    let one : id.0.0 < 256 ^ 4 = b.0 in
    let two : columns.0.0 < 256 ^ 2 = d.0 in
    let three : parameters.0.0 < 256 ^ 2 = e.0 in
    let four : warnings.0.0 < 256 ^ 2 = g.0 in
    let made : PrepareOk × List ℕ = (
      record {
        statement_id = id.0.0;
        num_columns = columns.0.0;
        num_params = parameters.0.0;
        warning_count = warnings.0.0;
      },
      warnings.0.1,
    ) in
    subst StatementRead (ok_same made x warnings.2) (
      record {
        statement_id = omega arith;
        num_columns = omega arith;
        num_params =
            omega arith;
        warning_count = omega arith;
      },
      g.1.1,
    )

pub statement_read : (bytes : List ℕ) (x : PrepareOk × List ℕ) → AreBytes bytes →
    prepare_ok_at bytes ≡ Ok x → StatementRead x
unfolding prepare_ok_at
statement_read bytes x small h = fields_of_statement bytes x small (in_block 12 prepare_ok_fields_at bytes x h)
