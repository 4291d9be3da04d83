-- What is sent of a set by execute is no longer than the execution that carries all of its values.
use Rattle.std.proofs.Common.{◌≡◌, ℕ, ◌+◌, ◌≤◌, Bool, true, false, List, [], ◌∷◌, ◌++◌, length, map, sym, subst, arith}
use Rattle.std.proofs.Common.{le_refl, le_trans, length-append}
use Rattle.std.specs.Prelude.{if◌then◌else◌}
use Rattle.std.specs.List.{AllByRecursion, flat_map}
use Rattle.byteorder.specs.Endian.{little_bytes}
use Rattle.byteorder.specs.Numbers.{length-bytes_low_first}
use Rattle.mysql_const.specs.Commands.{command_number}
use Rattle.mysql_const.specs.declared.command.Command.TheVariants.{COM_STMT_EXECUTE, COM_STMT_SEND_LONG_DATA}
use Rattle.mysql_values.specs.Cells.{cell}
use Rattle.mysql_values.specs.Value.{Value}
use Rattle.mysql_values.specs.Value.TheVariants.{Bytes}
use Rattle.mysql_wire.specs.Writing.{lenenc_int}
use Rattle.mysql_stmt.specs.Commands.{long_data}
use Rattle.mysql_stmt.specs.Executions.{execute_command, execution, null_bitmap, parameters, sent_cell, type_bytes}
use Rattle.mysql_command_rules.specs.Commands.{pieces_from}
use Rattle.mysql_command_rules.specs.Sent.{SentPayload, last_of, on_the_way, payloads_of}

-- no payload is longer than this
abbrev pub Within : ℕ → List (List ℕ) → Type 0
Within most payloads = AllByRecursion (λ payload. length payload ≤ most) payloads

-- payloads and others behind them
pub within_append : (most : ℕ) (xs ys : List SentPayload) → Within most (payloads_of xs) →
    Within most (payloads_of ys) → Within most (payloads_of (xs ++ ys))
within_append most [] ys first second = second
within_append most (x ∷ xs) ys first second = (first.0, within_append most xs ys first.1 second)

-- payloads that are no set's last
pub within_on_the_way : (most : ℕ) (payloads : List (List ℕ)) → Within most payloads →
    Within most (payloads_of (map on_the_way payloads))
within_on_the_way most [] short = tt
within_on_the_way most (payload ∷ payloads) short = (short.0, within_on_the_way most payloads short.1)

-- ---- executions

-- ten bytes stand before what is carried of the values
head_length : (command : ℕ) (id count rest : List ℕ) → length id ≡ 4 → length count ≡ 4 →
    length (command ∷ (id ++ 0 ∷ (count ++ rest))) ≡ 10 + length rest
head_length command id count rest first second =
    omega (arith, first, second, length-append id (0 ∷ (count ++ rest)), length-append count rest)

-- the length of an execution
execution_length : (id : ℕ) (values : List Value) (apart : Bool) →
    length (execute_command id values apart) ≡
    10 + length (parameters (null_bitmap values) values apart)
unfolding execution
execution_length id values apart =
    head_length (command_number COM_STMT_EXECUTE) (little_bytes 4 id) (little_bytes 4 1)
    (parameters (null_bitmap values) values apart) (length-bytes_low_first 0 4 id)
    (length-bytes_low_first 0 4 1)

-- the length of what is carried of values
parts_length : (bitmap types cells : List ℕ) → length (bitmap ++ 1 ∷ (types ++ cells)) ≡
    length bitmap + 1 + length types + length cells
parts_length bitmap types cells = omega (arith, length-append bitmap (1 ∷ (types ++ cells)), length-append types cells)

-- a cell that is left out is no longer than one that stands
cell_fewer : (apart : Bool) (value : Value) → length (sent_cell apart value) ≤ length (cell value)
cell_fewer true (Bytes bytes) = omega arith
cell_fewer true value = le_refl (length (cell value))
cell_fewer false value = le_refl (length (cell value))

-- so with the cells of values
cells_fewer : (apart : Bool) (values : List Value) →
    length (flat_map (sent_cell apart) values) ≤ length (flat_map cell values)
cells_fewer apart [] = omega arith
cells_fewer apart (value ∷ values) =
    longer (sent_cell apart value) (flat_map (sent_cell apart) values) (cell value)
    (flat_map cell values) (cell_fewer apart value) (cells_fewer apart values)
  where
    longer : (xs ys zs ws : List ℕ) → length xs ≤ length zs → length ys ≤ length ws →
        length (xs ++ ys) ≤ length (zs ++ ws)
    longer xs ys zs ws first second = omega (arith, first, second, length-append xs ys, length-append zs ws)

-- fewer cells make less to carry
parts_fewer : (bitmap types cells others : List ℕ) → length cells ≤ length others →
    length (bitmap ++ 1 ∷ (types ++ cells)) ≤ length (bitmap ++ 1 ∷ (types ++ others))
parts_fewer bitmap types cells others fewer =
    omega (arith, fewer, parts_length bitmap types cells, parts_length bitmap types others)

-- no more is carried of values where byte strings are left out
parameters_fewer : (bitmap : List ℕ) (values : List Value) (apart : Bool) →
    length (parameters bitmap values apart) ≤ length (parameters bitmap values false)
parameters_fewer bitmap [] apart = omega arith
parameters_fewer bitmap (value ∷ values) apart =
    parts_fewer bitmap (flat_map type_bytes (value ∷ values))
    (flat_map (sent_cell apart) (value ∷ values)) (flat_map cell (value ∷ values))
    (cells_fewer apart (value ∷ values))

-- an execution is no longer where byte strings are left out
pub execution_fewer : (id : ℕ) (values : List Value) (apart : Bool) →
    length (execute_command id values apart) ≤ length (execute_command id values false)
execution_fewer id values apart =
    shorter _ _ _ _ (execution_length id values apart) (execution_length id values false)
    (parameters_fewer (null_bitmap values) values apart)
  where
    shorter : (x y n m : ℕ) → x ≡ 10 + n → y ≡ 10 + m → n ≤ m → x ≤ y
    shorter x y n m first second fewer = omega (arith, first, second, fewer)

-- what is carried of values holds all cells
cells_inside : (bitmap : List ℕ) (values : List Value) →
    length (flat_map cell values) ≤ length (parameters bitmap values false)
cells_inside bitmap [] = omega arith
cells_inside bitmap (value ∷ values) = inside (flat_map type_bytes (value ∷ values)) (flat_map cell (value ∷ values))
  where
    inside : (types cells : List ℕ) → length cells ≤ length (bitmap ++ 1 ∷ (types ++ cells))
    inside types cells = omega (arith, parts_length bitmap types cells)

-- ten bytes stand beside the cells at least
pub cells_in_execution : (id : ℕ) (values : List Value) →
    10 + length (flat_map cell values) ≤ length (execute_command id values false)
cells_in_execution id values =
    longer _ _ _ (execution_length id values false) (cells_inside (null_bitmap values) values)
  where
    longer : (x n m : ℕ) → x ≡ 10 + n → m ≤ n → 10 + m ≤ x
    longer x n m is fewer = omega (arith, is, fewer)

-- ---- pieces

-- seven bytes stand before the bytes of a piece
piece_parts : (command id place bytes : List ℕ) → length command ≡ 1 → length id ≡ 4 →
    length place ≡ 2 → length (command ++ (id ++ (place ++ (bytes ++ [])))) ≡ 7 + length bytes
piece_parts command id place bytes first second third =
    omega (
      arith,
      first,
      second,
      third,
      length-append command (id ++ (place ++ (bytes ++ []))),
      length-append id (place ++ (bytes ++ [])),
      length-append place (bytes ++ []),
      length-append bytes [],
    )

-- the length of a piece
piece_length : (id place : ℕ) (bytes : List ℕ) →
    length (long_data (record { stmt_id = id; place = place; bytes = bytes })) ≡ 7 + length bytes
unfolding long_data
piece_length id place bytes =
    piece_parts (little_bytes 1 (command_number COM_STMT_SEND_LONG_DATA)) (little_bytes 4 id)
    (little_bytes 2 place) bytes
    (length-bytes_low_first 0 1 (command_number COM_STMT_SEND_LONG_DATA))
    (length-bytes_low_first 0 4 id) (length-bytes_low_first 0 2 place)

-- a byte string and the cells behind it are within the cells
cell_parts : (most : ℕ) (count bytes cells : List ℕ) →
    7 + length ((count ++ bytes) ++ cells) ≤ most → (7 + length bytes ≤ most) ×
    (7 + length cells ≤ most)
cell_parts most count bytes cells short =
    let all = length-append (count ++ bytes) cells in
    let text = length-append count bytes in
    (omega (arith, short, all, text), omega (arith, short, all))

-- pieces have seven bytes beside those of their byte strings
pub pieces_within : (most id place : ℕ) (values : List Value) →
    7 + length (flat_map cell values) ≤ most → Within most (pieces_from id place values)
unfolding pieces_from
pieces_within most id place [] short = tt
pieces_within most id place (Bytes bytes ∷ values) short =
    let parts = cell_parts most (lenenc_int (length bytes)) bytes (flat_map cell values) short in (
      subst (λ (n : ℕ). n ≤ most) (sym (piece_length id place bytes)) parts.0,
      pieces_within most id (place + 1) values parts.1,
    )
pieces_within most id place (value ∷ values) short =
    pieces_within most id (place + 1) values (behind_cell (cell value) (flat_map cell values) short)
  where
    behind_cell : (xs cells : List ℕ) → 7 + length (xs ++ cells) ≤ most → 7 + length cells ≤ most
    behind_cell xs cells all = omega (arith, all, length-append xs cells)

-- ---- a set

-- a set as an execution, with its byte strings before it or in it
abbrev pub sent_as : Bool → ℕ → List Value → List SentPayload
sent_as apart id values = map on_the_way (if apart then pieces_from id 0 values else []) ++
    last_of values (execute_command id values apart) ∷ []

-- its payloads are no longer than the execution that carries all of its values
pub one_within : (most id : ℕ) (values : List Value) (apart : Bool) →
    length (execute_command id values false) ≤ most →
    Within most (payloads_of (sent_as apart id values))
one_within most id values false short = (short, tt)
one_within most id values true short =
    within_append most (map on_the_way (pieces_from id 0 values)) (last_of values (execute_command id values true) ∷ [])
    (within_on_the_way most (pieces_from id 0 values)
    (pieces_within most id 0 values (room _ _ (cells_in_execution id values) short)))
    (le_trans (execution_fewer id values true) short, tt)
  where
    room : (n m : ℕ) → 10 + n ≤ m → m ≤ most → 7 + n ≤ most
    room n m inside whole = omega (arith, inside, whole)
