-- Columns that were written are read again.
use Rattle.mysql_columns.specs.ColumnLaws.{column_at-back}
use Rattle.mysql_columns.specs.ExtendedLaws.{extended_column_at-back, listed_column_at-back, plain_columns}
use Rattle.mysql_columns.specs.ExtendedLaws.{values_found}
use Rattle.mysql_columns.specs.Statements.{ColumnsReadBack, ExtendedColumnsReadBack, ListedColumnsReadBack}
use Rattle.mysql_columns.specs.Statements.{PlainColumnsAreColumns, ValuesAreFound}

pub columns_read_back : ColumnsReadBack
columns_read_back = column_at-back

pub extended_back : ExtendedColumnsReadBack
extended_back = extended_column_at-back

pub listed_back : ListedColumnsReadBack
listed_back = listed_column_at-back

pub plain_back : PlainColumnsAreColumns
plain_back = plain_columns

pub ruleset extended_read_back = (extended_back, listed_back, plain_back)

pub values_are_found : ValuesAreFound
values_are_found = values_found
