-- What speaks against writing a reply: step by step, the first cause that holds.
-- MySQL: Client/Server Protocol, "COM_QUERY Response", "Text Resultset" and "COM_STMT_PREPARE Response".
use Rattle.std.specs.Prelude.{ℕ, ◌+◌, ◌==◌, ◌&&◌, List, [], ◌∷◌, length, Bool, true, false, not, min, nat_le, nat_lt}
use Rattle.std.specs.Prelude.{is_some, Option, Some, None, option_map, if◌then◌else◌}
use Rattle.mysql_cells.specs.declared.value.Value.{Value}
use Rattle.mysql_ok_packets.specs.OkPackets.{OkPacket}
use Rattle.mysql_server_packets.specs.Packets.{ProgressReport, ServerError}
use Rattle.mysql_columns.specs.Columns.{ColumnDefinition}
use Rattle.mysql_reply_events.specs.declared.context.Context.{Context}
use Rattle.mysql_replies.specs.Bytes.{number_bound}
use Rattle.mysql_reply_events.specs.Readings.{deprecate_eof, is_binary}
use Rattle.mysql_reply_events.specs.Table.{has_results}
use Rattle.mysql_replies.specs.Manual.{is_prepare}
use Rattle.mysql_replies.specs.Reply.{Payload}
use Rattle.mysql_replies.specs.Together.{Outcome}
use Rattle.mysql_reply_writer.specs.declared.refusal.ReplyRefusal.{ReplyRefusal}
use Rattle.mysql_reply_writer.specs.declared.refusal.ReplyRefusal.TheVariants.{AfterEnd, CellCount, NoColumns, NoForm}
use Rattle.mysql_reply_writer.specs.declared.refusal.ReplyRefusal.TheVariants.{NoResults, NotBegun, NotEnded}
use Rattle.mysql_reply_writer.specs.declared.refusal.ReplyRefusal.TheVariants.{PacketTooLarge, ReadsAsReport, Status}
use Rattle.mysql_reply_writer.specs.declared.refusal.ReplyRefusal.TheVariants.{TooManyColumns, WrongKind}
use Rattle.mysql_ok_packets.specs.Written.{is_named_status}
use Rattle.mysql_rows.specs.Written.{binary_cause, text_cause}
use Rattle.mysql_reply_writer.specs.Written.{ColumnsStep, EndStep, ErrorStep, FileStep, OkStep, PreparedStep}
use Rattle.mysql_reply_writer.specs.Written.{ReportStep, RowStep, Step, UnwrittenStep, reply_steps, step_payloads}
use Rattle.mysql_reply_writer.specs.Written.{tells_progress}

-- A cause, where this holds.
abbrev pub cause_if : Bool → ReplyRefusal → Option ReplyRefusal
cause_if true cause = Some cause
cause_if false cause = None

-- The first cause, or else the second.
abbrev pub or_cause : Option ReplyRefusal → Option ReplyRefusal → Option ReplyRefusal
or_cause (Some cause) other = Some cause
or_cause None other = other

-- The first of some causes.
abbrev pub first_cause : List (Option ReplyRefusal) → Option ReplyRefusal
first_cause [] = None
first_cause (cause ∷ others) = or_cause cause (first_cause others)

-- Rows that were begun: their columns, and how many rows were written.
pub record OpenRows : Type 0 where
  pub columns : List ColumnDefinition
  pub count : ℕ

-- How far a reply is written.
pub record Writing : Type 0 where
  pub context : Context
  -- The most bytes of a payload.
  pub limit : ℕ
  -- How many payloads were written.
  pub payloads : ℕ
  -- How many results were written whole.
  pub results : ℕ
  -- Rows that go on.
  pub rows : Option OpenRows
  -- The last result is written.
  pub over : Bool

-- Nothing was written.
abbrev pub nothing_written : Context → ℕ → Writing
nothing_written c limit = record { context = c; limit = limit; payloads = 0; results = 0; rows = None; over = false }

-- The first of payloads, numbered on from this one, that exceeds the limit; no payload has the number 2^64 - 1.
abbrev pub too_large : ℕ → ℕ → List Payload → Option ReplyRefusal
too_large limit number [] = None
too_large limit number (payload ∷ payloads) =
    if nat_le (length payload) limit && nat_lt number number_bound then too_large limit (number + 1) payloads
    else Some (PacketTooLarge number)

-- Nothing follows the last result.
abbrev pub over_cause : Writing → Option ReplyRefusal
over_cause w = cause_if w.over (AfterEnd w.results)

-- A result begins only behind the end of the one before it.
abbrev pub place_cause : Writing → Option ReplyRefusal
place_cause w = or_cause (over_cause w) (cause_if (is_some w.rows) (NotEnded w.results))

-- What belongs to rows follows their columns.
abbrev pub rows_cause : Writing → Option ReplyRefusal
rows_cause w = or_cause (over_cause w) (cause_if (not (is_some w.rows)) (NotBegun w.results))

abbrev pub kind_cause : Writing → Bool → Option ReplyRefusal
kind_cause w wrong = cause_if wrong (WrongKind w.results)

-- Each bit of a status has a name.
abbrev pub status_cause : Writing → OkPacket → Option ReplyRefusal
status_cause w ok = cause_if (not (is_named_status ok.status_flags)) (Status w.results)

abbrev pub count_cause : Writing → List ColumnDefinition → Option ReplyRefusal
count_cause w columns = cause_if (nat_lt 65535 (length columns)) (TooManyColumns w.results)

-- The number of the row that comes.
abbrev pub row_number : Option OpenRows → ℕ
row_number None = 0
row_number (Some rows) = rows.count

-- The first cell without a form.
abbrev pub form_cause : Bool → List ColumnDefinition → List (Option Value) → Option ℕ
form_cause binary columns cells = if binary then binary_cause columns cells else text_cause cells

-- A row has a cell for each column, and each has a form: of this row of this result.
abbrev pub cells_cause_at : Bool → ℕ → ℕ → List ColumnDefinition → List (Option Value) → Option ReplyRefusal
cells_cause_at binary result row columns cells =
    if length cells == length columns then option_map (λ place. NoForm result row place)
    (form_cause binary columns cells)
    else Some (CellCount result row)

abbrev pub cells_cause : Writing → List ColumnDefinition → List (Option Value) → Option ReplyRefusal
cells_cause w columns cells = cells_cause_at (is_binary w.context.kind) w.results (row_number w.rows) columns cells

-- The number of an error: behind the rows that it ends, if it ends some.
abbrev pub error_number : Writing → ℕ
error_number w = if is_some w.rows then w.results + 1 else w.results

-- An error of the code of progress reports is read as one, where the reply may have some.
abbrev pub reads_as_report : Context → ServerError → Bool
reads_as_report c error = error.error_code == 0xffff && tells_progress c

-- What speaks against a step before its payloads are looked at, in this order.
abbrev pub step_checks : Writing → Step → List (Option ReplyRefusal)
step_checks w (ReportStep report) = over_cause w ∷ []
step_checks w (OkStep more ok) =
    place_cause w ∷ kind_cause w (not (has_results w.context.kind)) ∷ status_cause w ok ∷ []
step_checks w (ColumnsStep columns) =
    place_cause w ∷ kind_cause w (not (has_results w.context.kind)) ∷
    cause_if (length columns == 0) (NoColumns w.results) ∷ count_cause w columns ∷ []
step_checks w (RowStep columns row) = rows_cause w ∷ cells_cause w columns row.cells ∷ []
step_checks w (EndStep more ok) = rows_cause w ∷ status_cause w ok ∷ []
step_checks w (ErrorStep error) =
    over_cause w ∷ cause_if (reads_as_report w.context error) (ReadsAsReport (error_number w)) ∷ []
step_checks w (FileStep name) = place_cause w ∷ kind_cause w (not (has_results w.context.kind)) ∷ []
step_checks w (PreparedStep statement parameters columns) =
    place_cause w ∷ kind_cause w (not (is_prepare w.context.kind)) ∷ count_cause w parameters ∷
    count_cause w columns ∷ []
step_checks w UnwrittenStep = place_cause w ∷ kind_cause w true ∷ []

-- The most bytes of a step's payloads: the limit; with DEPRECATE_EOF a packet that ends rows has
-- fewer than 16777215, since a longer one is read as a row.
abbrev pub step_room : Writing → Step → ℕ
step_room w (EndStep more ok) = if deprecate_eof w.context then min w.limit 16777214 else w.limit
step_room w step = w.limit

-- What speaks against a step: the first of those causes, and then a payload that is too large.
abbrev pub step_cause : Writing → Step → Option ReplyRefusal
step_cause w step = or_cause (first_cause (step_checks w step))
    (too_large (step_room w step) w.payloads (step_payloads w.context step))

-- How many results stand whole behind a step.
abbrev pub results_behind : Writing → Step → ℕ
results_behind w (ReportStep report) = w.results
results_behind w (ColumnsStep columns) = w.results
results_behind w (RowStep columns row) = w.results
results_behind w (ErrorStep error) = error_number w + 1
results_behind w step = w.results + 1

-- With one row more.
abbrev pub one_more : Option OpenRows → Option OpenRows
one_more None = None
one_more (Some rows) = Some (record { columns = rows.columns; count = rows.count + 1 })

-- The rows that go on behind a step.
abbrev pub rows_behind : Writing → Step → Option OpenRows
rows_behind w (ReportStep report) = w.rows
rows_behind w (ColumnsStep columns) = Some (record { columns = columns; count = 0 })
rows_behind w (RowStep columns row) = one_more w.rows
rows_behind w step = None

-- Whether the last result stands behind a step.
abbrev pub over_behind : Writing → Step → Bool
over_behind w (OkStep more ok) = not more
over_behind w (EndStep more ok) = not more
over_behind w (ErrorStep error) = true
over_behind w (FileStep name) = true
over_behind w (PreparedStep statement parameters columns) = true
over_behind w step = w.over

-- How far it is written behind a step.
abbrev pub after_step : Writing → Step → Writing
after_step w step = record {
  context = w.context;
  limit = w.limit;
  payloads = w.payloads + length (step_payloads w.context step);
  results = results_behind w step;
  rows = rows_behind w step;
  over = over_behind w step;
}

-- How far it is written behind some steps.
abbrev pub after_steps : Writing → List Step → Writing
after_steps w [] = w
after_steps w (step ∷ steps) = after_steps (after_step w step) steps

-- What speaks against the first of some steps that is not written.
abbrev pub steps_cause : Writing → List Step → Option ReplyRefusal
steps_cause w [] = None
steps_cause w (step ∷ steps) = or_cause (step_cause w step) (steps_cause (after_step w step) steps)

-- What speaks against an end here: no result, or rows that go on or a result that was said to follow.
abbrev pub end_cause : Writing → Option ReplyRefusal
end_cause w = if w.over then None else if w.results == 0 &&
    not (is_some w.rows) then Some NoResults else Some (NotEnded w.results)

-- What speaks against steps and the end behind them.
abbrev pub whole_cause : Writing → List Step → Option ReplyRefusal
whole_cause w steps = or_cause (steps_cause w steps) (end_cause (after_steps w steps))

-- What speaks against writing a reply: it has no result, or in the order of the stream the first cause.
abbrev pub refusal_of : Context → ℕ → List Outcome → List ProgressReport → Option ReplyRefusal
refusal_of c limit [] progress = Some NoResults
refusal_of c limit (first ∷ others) progress =
    whole_cause (nothing_written c limit) (reply_steps (first ∷ others) progress)
