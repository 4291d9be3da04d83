-- What the types of a step's fields hold.
use Rattle.std.specs.Prelude.{◌≡◌, ℕ, ◌<◌, ◌^◌, List, length, Option, Some, None, ⊤}
use Rattle.std.specs.List.{AllByRecursion}
use Rattle.mysql_cells.specs.Values.{FitsFields}
use Rattle.mysql_ok_packets.specs.OkPackets.{OkPacket}
use Rattle.mysql_server_packets.specs.Packets.{PrepareOk, ProgressReport, ServerError}
use Rattle.mysql_columns.specs.Columns.{ColumnDefinition, IsColumn}
use Rattle.mysql_ok_packets.specs.Written.{or_empty, or_zero}
use Rattle.mysql_cells.specs.declared.value.Value.{Value}
use Rattle.mysql_reply_writer.specs.Written.{ColumnsStep, EndStep, ErrorStep, FileStep, OkStep, PreparedStep}
use Rattle.mysql_reply_writer.specs.Written.{ReportStep, RowStep, Step, UnwrittenStep}

-- Numbers and lengths of an OK packet.
pub record OkFits (p : OkPacket) : Type 0 where
  pub affected_rows : p.affected_rows < 2 ^ 64
  pub last_insert_id : or_zero p.last_insert_id < 2 ^ 64
  pub status_flags : p.status_flags < 2 ^ 16
  pub warnings : p.warnings < 2 ^ 16
  pub info : length (or_empty p.info) < 2 ^ 64
  pub session_state_info : length (or_empty p.session_state_info) < 2 ^ 64

-- A state has five bytes.
abbrev pub StateFits : Option (List ℕ) → Type 0
StateFits None = ⊤
StateFits (Some state) = length state ≡ 5

pub record ErrorFits (e : ServerError) : Type 0 where
  pub error_code : e.error_code < 2 ^ 16
  pub sql_state : StateFits e.sql_state

pub record ReportFits (r : ProgressReport) : Type 0 where
  pub stage : r.stage < 2 ^ 8
  pub max_stage : r.max_stage < 2 ^ 8
  pub progress_info : length r.progress_info < 2 ^ 64

-- A cell, where its value wasn't taken.
abbrev pub CellFits : Option Value → Type 0
CellFits None = ⊤
CellFits (Some value) = FitsFields value

abbrev pub CellsFit : List (Option Value) → Type 0
CellsFit cells = AllByRecursion (λ cell. CellFits cell) cells

abbrev pub ColumnsFit : List ColumnDefinition → Type 0
ColumnsFit columns = AllByRecursion (λ column. IsColumn column) columns

pub record StatementFits (s : PrepareOk) : Type 0 where
  pub statement_id : s.statement_id < 2 ^ 32
  pub warning_count : s.warning_count < 2 ^ 16

abbrev pub StepFits : Step → Type 0
StepFits (ReportStep report) = ReportFits report
StepFits (OkStep more ok) = OkFits ok
StepFits (ColumnsStep columns) = ColumnsFit columns
StepFits (RowStep columns row) = CellsFit row.cells
StepFits (EndStep more ok) = OkFits ok
StepFits (ErrorStep error) = ErrorFits error
StepFits (FileStep name) = ⊤
StepFits (PreparedStep statement parameters columns) = StatementFits statement ×
    ColumnsFit parameters × ColumnsFit columns
StepFits UnwrittenStep = ⊤

-- What the types of the fields of each of some steps hold.
abbrev pub StepsFit : List Step → Type 0
StepsFit steps = AllByRecursion (λ step. StepFits step) steps
