-- Indicators of the values of a bulk request by their numbers.
-- MariaDB: Client/Server Protocol, "COM_STMT_BULK_EXECUTE".
use Rattle.std.specs.Prelude.{◌∷◌, [], List, Option, ℕ, nat_eq}
use Rattle.mysql_const.specs.Tables.{numbered, entry_of}
use Rattle.mysql_const.specs.declared.bulk.MariadbBulkIndicator.{MariadbBulkIndicator}
use Rattle.mysql_const.specs.declared.bulk.MariadbBulkIndicator.TheVariants.{BULK_INDICATOR_NONE, BULK_INDICATOR_NULL}
use Rattle.mysql_const.specs.declared.bulk.MariadbBulkIndicator.TheVariants.{BULK_INDICATOR_DEFAULT}
use Rattle.mysql_const.specs.declared.bulk.MariadbBulkIndicator.TheVariants.{BULK_INDICATOR_IGNORE}

-- each name's number
abbrev pub bulk_indicator_number : MariadbBulkIndicator → ℕ
bulk_indicator_number BULK_INDICATOR_NONE = 0
bulk_indicator_number BULK_INDICATOR_NULL = 1
bulk_indicator_number BULK_INDICATOR_DEFAULT = 2
bulk_indicator_number BULK_INDICATOR_IGNORE = 3

-- the table: each number and its name
abbrev pub bulk_indicators : List (ℕ × MariadbBulkIndicator)
bulk_indicators =
    numbered bulk_indicator_number (
    BULK_INDICATOR_NONE ∷ BULK_INDICATOR_NULL ∷ BULK_INDICATOR_DEFAULT ∷ BULK_INDICATOR_IGNORE ∷ [])

-- the name of a number, where it has one
abbrev pub bulk_indicator_named : ℕ → Option MariadbBulkIndicator
bulk_indicator_named number = entry_of nat_eq bulk_indicators number
