-- The payloads of the commands that carry a query or its values. MySQL: Client/Server Protocol,
-- "COM_QUERY", "COM_STMT_PREPARE", "COM_STMT_SEND_LONG_DATA"; MariaDB: Client/Server Protocol,
-- "COM_STMT_BULK_EXECUTE". An execution's payload is `execute_command` of `mysql_stmt`.
use Rattle.std.specs.Prelude.{ℕ, ◌+◌, ◌*◌, List, [], ◌∷◌, ◌++◌, map, take}
use Rattle.std.specs.List.{flat_map, range_with_len}
use Rattle.mysql_const.specs.Commands.{command_number}
use Rattle.mysql_const.specs.declared.command.Command.TheVariants.{COM_QUERY, COM_STMT_PREPARE}
use Rattle.mysql_cells.specs.declared.value.Value.{Value}
use Rattle.mysql_cells.specs.declared.value.Value.TheVariants.{Bytes}
use Rattle.mysql_stmt.specs.Commands.{long_data}
use Rattle.mysql_bulk_builder.specs.Bulk.{bulk_execution, param_value_of, type_of_value}
use Rattle.mysql_bulk_builder.specs.Cut.{Row, rows_of}
use Rattle.mysql_bulk_builder.specs.TypedCut.{Typed, Typing, Untyped}
use Rattle.mysql_bulk_builder.specs.ValueTypes.{first_in_column}

-- a text query: its number, and the text to the end
abbrev pub query_command : List ℕ → List ℕ
query_command text = command_number COM_QUERY ∷ text

-- a prepare: its number, and the query with a question mark for each placeholder
abbrev pub prepare_command : List ℕ → List ℕ
prepare_command parsed = command_number COM_STMT_PREPARE ∷ parsed

-- the byte string at a place as long data, in one piece; other values are none
abbrev pub piece_of : ℕ → ℕ → Value → List (List ℕ)
piece_of id place (Bytes bytes) = long_data (record { stmt_id = id; place = place; bytes = bytes }) ∷ []
piece_of id place value = []

-- a piece for each byte string among values that stand at this place and the next ones, also for an empty one
unfoldable pub pieces_from : ℕ → ℕ → List Value → List (List ℕ)
pieces_from id place [] = []
pieces_from id place (value ∷ values) = piece_of id place value ++ pieces_from id (place + 1) values

-- the bulk request of so many rows from this one on. A typed one carries the type of each column by
-- its first value up to the request's end, NULL where it has none
abbrev pub bulk_request : ℕ → ℕ → List Row → ℕ → Typing → ℕ → List ℕ
bulk_request id columns rows start Typed count =
    bulk_execution (record {
      stmt_id = id;
      flags = 0x80;
      types = map (λ column. type_of_value (first_in_column column (take (start + count) rows)))
          (range_with_len 0 columns);
      values = map param_value_of (flat_map (λ row. row) (rows_of rows start count));
    })
bulk_request id columns rows start Untyped count =
    bulk_execution (record {
      stmt_id = id;
      flags = 0;
      types = [];
      values =
          map param_value_of (flat_map (λ row. row) (rows_of rows start count));
    })

-- the bytes of the types that a bulk request carries
abbrev pub types_size : Typing → ℕ → ℕ
types_size Typed columns = 2 * columns
types_size Untyped columns = 0
