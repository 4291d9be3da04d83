-- What the code holds, as values; and what its functions put.
use Rattle.std.specs.Prelude.{ℕ, ◌+◌, List, Bool, option_map, Option, Some, None, Result, Ok, Err}
use Rattle.mysql_rows.specs.Views.{row_view, shared_columns}
use Rattle.mysql_rows.specs.declared.row.Row.{Row}
use Rattle.mysql_server_packets.specs.Packets.{PrepareOk}
use Rattle.mysql_server_packets.specs.Views.{prepare_ok_view}
use Rattle.mysql_server_packets.specs.declared.statement.StmtPacket.{StmtPacket}
use Rattle.mysql_reply_writer.specs.declared.refusal.ReplyRefusal.{ReplyRefusal}
use Rattle.mysql_reply_writer.specs.Refusals as refusals
use Rattle.mysql_reply_writer.specs.Refusals.{cells_cause_at}
use Rattle.mysql_reply_writer.specs.Written.{cells_payload}
use Rattle.mysql_reply_writer.specs.declared.packets.Packets.{Packets}
use Rattle.mysql_reply_writer.specs.declared.writer.OpenRows.{OpenRows}
use Rattle.mysql_reply_writer.specs.Puts.{Place, Puts, RefusesPayloads}

abbrev pub place_view : Packets → Place
place_view packets = record { number = packets.number; payloads = packets.payloads }

abbrev pub rows_view : Option OpenRows → Option refusals.OpenRows
rows_view rows = option_map
    (λ open_rows. record { columns = shared_columns open_rows.columns; count = open_rows.count })
    rows

-- How many payloads rows that go on have at least.
abbrev pub payloads_in : Option OpenRows → ℕ
payloads_in None = 0
payloads_in (Some rows) = rows.count + 1

-- The cause that a check found.
abbrev pub cause_in : Result (Unit {0}) ReplyRefusal → Option ReplyRefusal
cause_in (Ok _) = None
cause_in (Err refusal) = Some refusal

-- Payloads within the limit of the packets were put behind these bytes.
abbrev pub PutsPayloads : Packets → List (List ℕ) → Packets → List ℕ → List ℕ → Type 0
PutsPayloads old payloads new before after = Puts old.limit (place_view old) payloads (place_view new) before after

-- One of the payloads is refused, or memory ran out.
abbrev pub RefusesPayload : Packets → List (List ℕ) → ReplyRefusal → Type 0
RefusesPayload old payloads refusal = RefusesPayloads old.limit (place_view old) payloads refusal

-- The payload of a row under the columns of the rows that go on.
abbrev pub row_payload : Bool → OpenRows → Row → List ℕ
row_payload binary rows row = cells_payload binary (shared_columns rows.columns) (row_view row).cells

-- What speaks against that row, before its size is looked at.
abbrev pub row_cause : Bool → ℕ → OpenRows → Row → Option ReplyRefusal
row_cause binary result_number rows row =
    cells_cause_at binary result_number rows.count (shared_columns rows.columns) (row_view row).cells

-- A statement with these counts.
abbrev pub with_counts : StmtPacket → ℕ → ℕ → PrepareOk
with_counts statement parameters columns =
    record (prepare_ok_view statement) { num_params = parameters; num_columns = columns }
