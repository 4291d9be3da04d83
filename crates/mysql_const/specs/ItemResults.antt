-- Types of results of expressions by their numbers.
-- MySQL: Extending MySQL, "Adding a Loadable Function" (Item_result); -1 is the server's own mark for no result.
use Rattle.std.specs.Prelude.{◌∷◌, [], List, Option, ℤ, pos, negsuc}
use Rattle.std.specs.Ordering.{int_eq}
use Rattle.mysql_const.specs.Tables.{numbered, entry_of}
use Rattle.mysql_const.specs.declared.item_result.ItemResult.{ItemResult}
use Rattle.mysql_const.specs.declared.item_result.ItemResult.TheVariants.{INVALID_RESULT, STRING_RESULT, REAL_RESULT}
use Rattle.mysql_const.specs.declared.item_result.ItemResult.TheVariants.{INT_RESULT, ROW_RESULT, DECIMAL_RESULT}

-- each name's number
abbrev pub item_result_number : ItemResult → ℤ
item_result_number INVALID_RESULT = negsuc 0
item_result_number STRING_RESULT = pos 0
item_result_number REAL_RESULT = pos 1
item_result_number INT_RESULT = pos 2
item_result_number ROW_RESULT = pos 3
item_result_number DECIMAL_RESULT = pos 4

-- the table: each number and its name
abbrev pub item_results : List (ℤ × ItemResult)
item_results =
    numbered item_result_number (
    INVALID_RESULT ∷ STRING_RESULT ∷ REAL_RESULT ∷ INT_RESULT ∷ ROW_RESULT ∷ DECIMAL_RESULT ∷ [])

-- the name of a number, where it has one
abbrev pub item_result_named : ℤ → Option ItemResult
item_result_named number = entry_of int_eq item_results number
