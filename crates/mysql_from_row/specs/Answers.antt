-- What a conversion answers of a cell: what it gave, or the value that doesn't convert.
-- MySQL: Client/Server Protocol, "Text Resultset Row" and "Binary Protocol Resultset Row".
use Rattle.std.specs.Prelude.{Option, Some, None, Result, Ok, Err}
use Rattle.mysql_cells.specs.declared.value.Value.{Value}
use Rattle.mysql_convert.specs.declared.errors.FromValueError.{FromValueError}
use Rattle.mysql_row_refs.specs.Places.{value_of}
use Rattle.mysql_row_refs.specs.declared.value_ref.ValueRef.{ValueRef}

-- what a value converts to, or the value itself
abbrev pub converted_or_value : {Shown : Type 0} → (Value → Option Shown) → Value → Result Shown Value
converted_or_value converted value = or_value (converted value) where
  or_value : {Shown : Type 0} → Option Shown → Result Shown Value
  or_value (Some x) = Ok x
  or_value None = Err value

-- what was answered of a row's cell, whose error holds the value
abbrev pub answer_view : {X Shown : Type 0} → (X → Shown) → Result X FromValueError → Result Shown Value
answer_view shown (Ok x) = Ok (shown x)
answer_view shown (Err e) = Err e.0

-- what was answered of a cell that is read where it lies, whose error is the value
abbrev pub ref_answer_view : {X Shown : Type 0} → (X → Shown) → Result X ValueRef → Result Shown Value
ref_answer_view shown (Ok x) = Ok (shown x)
ref_answer_view shown (Err value) = Err (value_of value)
