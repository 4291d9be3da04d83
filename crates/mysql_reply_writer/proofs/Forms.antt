-- No payload of a result has the form of a progress report.
use Rattle.std.proofs.Common.{◌≡◌, ℕ, ◌/◌, ◌%◌, ◌<◌, ◌≤◌, ◌⊎◌, ◌^◌, ◌==◌, ◌&&◌, nat_lt, Bool, true, false}
use Rattle.std.proofs.Common.{if◌then◌else◌, inl, inr, List, [], ◌∷◌, ◌++◌, map, take, bytes_eq, refl, ap, ◌∙◌, arith}
use Rattle.std.specs.List.{AllByRecursion}
use Rattle.std.proofs.lemmas.Bool.{lt-ltb, ltb-false, ltb-true}
use Rattle.std.proofs.lemmas.Bool.Decides.{eqb_tells}
use Rattle.mysql_buf.specs.Writing.{lenenc_int}
use Rattle.mysql_columns.specs.Columns.{ColumnDefinition, column}
use Rattle.mysql_ok_packets.specs.Written.{eof_bytes, ok_packet_bytes}
use Rattle.mysql_ok_packets.specs.OkPackets.{OkPacket}
use Rattle.mysql_server_packets.specs.Packets.{Error, PrepareOk, Progress, ProgressReport, ServerError, err_packet}
use Rattle.mysql_server_packets.specs.Packets.{local_infile, prepare_ok}
use Rattle.mysql_reply_events.specs.declared.context.Context.{Context}
use Rattle.mysql_row_refs.specs.Lines.{begins_with}
use Rattle.mysql_reply_events.specs.Readings.{deprecate_eof, has_report_form, optional_metadata, protocol}
use Rattle.mysql_reply_writer.specs.Refusals.{reads_as_report}
use Rattle.mysql_reply_writer.specs.Written.{count_payload, eof_due, group_payloads, nothing_said, tells_progress}
use Rattle.mysql_reply_writer.specs.Written.{terminator_payload}
use Rattle.mysql_reply_writer.proofs.Causes.{all_both}
use Rattle.mysql_reply_writer.proofs.Groups.{and_false}

abbrev pub NoForms : Context → List (List ℕ) → Type 0
NoForms c payloads = AllByRecursion (λ payload. has_report_form c payload ≡ false) payloads

-- a payload that begins with another byte than ff
pub no_form : (c : Context) (payload : List ℕ) → begins_with 255 payload ≡ false → has_report_form c payload ≡ false
no_form c [] h = and_false (tells_progress c)
no_form c (b ∷ rest) h = rw h (and_false (tells_progress c))

two_bytes : (low high : ℕ) → (low ≡ 255 → high ≡ 255 → ⊥) →
    bytes_eq (255 ∷ low ∷ high ∷ []) (255 ∷ 255 ∷ 255 ∷ []) ≡ false
two_bytes low high other = elim (eqb_tells low 255) [
  | inl a ↦ elim (eqb_tells high 255) [ inl b ↦ absurd (other a.1 b.1) | inr b ↦ rw (a.0, b.0) refl ]
  | inr a ↦ rw a.0 refl
]

-- an error of another code, or of any where there are no reports
pub error_no_form : (c : Context) (e : ServerError) → e.error_code < 2 ^ 16 → reads_as_report c e ≡
    false → has_report_form c (err_packet (Error e)) ≡ false
error_no_form c e small h = elim (eqb_tells e.error_code 0xffff) [
  | inl same ↦ let none : tells_progress c ≡ false =
      unless_code (e.error_code == 0xffff) (tells_progress c) same.0 h in rw none refl
  | inr other ↦ ap (λ (b : Bool). tells_progress c && b) (other_bytes other.1) ∙ and_false (tells_progress c)
] where
  unless_code : (a b : Bool) → a ≡ true → (a && b) ≡ false → b ≡ false
  unless_code a b ha h = rw ha at h

  other_bytes : (e.error_code ≡ 0xffff → ⊥) → bytes_eq (take 3 (err_packet (Error e))) (255 ∷ 255 ∷ 255 ∷ []) ≡ false
  other_bytes other = two_bytes (e.error_code % 256) (e.error_code / 256 % 256) (λ low high. other (omega arith))

column_no_form : (c : Context) (p : ColumnDefinition) → has_report_form c (column p) ≡ false
unfolding column
column_no_form c p = no_form c (column p) refl

columns_no_forms : (c : Context) (columns : List ColumnDefinition) → NoForms c (map column columns)
columns_no_forms c [] = tt
columns_no_forms c (first ∷ others) = (column_no_form c first, columns_no_forms c others)

eof_no_forms : (c : Context) (columns : List ColumnDefinition) → NoForms c (eof_due c columns)
unfolding eof_bytes
eof_no_forms c [] = tt
eof_no_forms c (first ∷ others) = go (deprecate_eof c) where
  go : (d : Bool) → NoForms c (if d then [] else eof_bytes nothing_said ∷ [])
  go true = tt
  go false = (no_form c (eof_bytes nothing_said) refl, tt)

pub group_no_forms : (c : Context) (columns : List ColumnDefinition) → NoForms c (group_payloads c columns)
group_no_forms c columns =
    all_both (λ payload. has_report_form c payload ≡ false) (map column columns) (eof_due c columns)
    (columns_no_forms c columns) (eof_no_forms c columns)

pub ok_no_form : (c : Context) (p : OkPacket) → has_report_form c (ok_packet_bytes 0 (protocol c) p) ≡ false
unfolding ok_packet_bytes
ok_no_form c p = no_form c (ok_packet_bytes 0 (protocol c) p) refl

pub terminator_no_form : (c : Context) (p : OkPacket) → has_report_form c (terminator_payload c p) ≡ false
unfolding ok_packet_bytes eof_bytes
terminator_no_form c p = no_form c (terminator_payload c p) (go (deprecate_eof c)) where
  go : (d : Bool) → begins_with 255 (if d then ok_packet_bytes 254 (protocol c) p else eof_bytes p) ≡ false
  go true = refl
  go false = refl

pub file_no_form : (c : Context) (name : List ℕ) → has_report_form c (local_infile name) ≡ false
unfolding local_infile
file_no_form c name = no_form c (local_infile name) refl

pub statement_no_form : (c : Context) (s : PrepareOk) (behind : List ℕ) →
    has_report_form c (prepare_ok s ++ behind) ≡ false
unfolding prepare_ok
statement_no_form c s behind = no_form c (prepare_ok s ++ behind) refl

lt_tells : (a b : ℕ) → ((nat_lt a b ≡ true) × (a < b)) ⊎ ((nat_lt a b ≡ false) × (b ≤ a))
lt_tells a b = go (nat_lt a b) refl where
  go : (x : Bool) → nat_lt a b ≡ x → ((nat_lt a b ≡ true) × (a < b)) ⊎ ((nat_lt a b ≡ false) × (b ≤ a))
  go true e = inl (e, ltb-true a b e)
  go false e = inr (e, ltb-false a b e)

count_first : (n : ℕ) → n < 65536 → begins_with 255 (lenenc_int n) ≡ false
count_first n h = elim (lt_tells n 251) [
  | inl a ↦ elim (eqb_tells n 255)
      [ inl same ↦ absurd (omega (arith, a.1, same.1)) | inr other ↦ rw (a.0, other.0) refl ]
  | inr a ↦ rw (a.0, lt-ltb n 65536 h) refl
]

pub count_no_form : (c : Context) (n : ℕ) → n < 65536 → has_report_form c (count_payload c n) ≡ false
count_no_form c n h = no_form c (count_payload c n) (by (optional_metadata c)) where
  by : (b : Bool) → begins_with 255 ((if b then 1 ∷ [] else []) ++ lenenc_int n) ≡ false
  by true = refl
  by false = count_first n h

-- a report has it
pub report_form : (c : Context) (r : ProgressReport) → tells_progress c ≡ true →
    has_report_form c (err_packet (Progress r)) ≡ true
report_form c r h = rw h refl
