-- The column packet as a value, without where it lies in memory (MySQL: Client/Server Protocol, "Column Definition").
use Rattle.mysql_columns.specs.declared.column.Column.{Column}
use Rattle.mysql_columns.specs.declared.column.FixedFields.{FixedFields}
use Rattle.mysql_columns.specs.declared.names.HeldNames.{HeldNames}
use Rattle.mysql_columns.specs.declared.names.Names.{Names}
use Rattle.mysql_columns.specs.declared.names.SharedNames.{SharedNames}
use Rattle.mysql_columns.specs.Columns.{ColumnDefinition, ColumnFields, ColumnNames}
use Rattle.mysql_columns.specs.Extended.{ExtendedDefinition, ListedDefinition}
use Rattle.mysql_columns.specs.declared.extended.ExtendedColumn.{ExtendedColumn}
use Rattle.mysql_columns.specs.declared.extended.ListedColumn.{ListedColumn}
use Rattle.std.specs.Prelude.{ℕ, Bool, ◌&&◌, List, [], length, slice_range, nat_eq, Option, None, Some, Vec, option_map}
use Rattle.std.specs.Cmp.Lexicographic.{pointwise}
use Rattle.std.specs.declared.alloc.Global.{Global}
use Rattle.std.specs.declared.rc.Rc.{Rc}

abbrev pub names_view : Names → ColumnNames
names_view p = record {
  schema = p.schema.now;
  table = p.table.now;
  org_table = p.org_table.now;
  name = p.name.now;
  org_name = p.org_name.now;
}

-- Each name ends where the next one begins.
abbrev pub held_view : HeldNames → ColumnNames
held_view p = record {
  schema = slice_range p.bytes.items 0 p.schema_end;
  table = slice_range p.bytes.items p.schema_end p.table_end;
  org_table = slice_range p.bytes.items p.table_end p.org_table_end;
  name = slice_range p.bytes.items p.org_table_end p.name_end;
  org_name = slice_range p.bytes.items p.name_end (length p.bytes.items);
}

abbrev pub no_names : ColumnNames
no_names = record { schema = []; table = []; org_table = []; name = []; org_name = [] }

-- Where nothing is held, all names are empty.
abbrev pub held_names : Option (Rc HeldNames Global) → ColumnNames
held_names None = no_names
held_names (Some held) = held_view held.value

abbrev pub shared_view : SharedNames → ColumnNames
shared_view p = held_names p.held

-- Each name has the same bytes in both.
abbrev pub same_names : ColumnNames → ColumnNames → Bool
same_names a b =
    pointwise nat_eq a.schema b.schema && (pointwise nat_eq a.table b.table && (pointwise nat_eq a.org_table b.org_table
    && (pointwise nat_eq a.name b.name && pointwise nat_eq a.org_name b.org_name)))

abbrev pub column_view : Column → ColumnDefinition
column_view p = record {
  schema = (shared_view p.names).schema;
  table = (shared_view p.names).table;
  org_table = (shared_view p.names).org_table;
  name = (shared_view p.names).name;
  org_name = (shared_view p.names).org_name;
  character_set = p.character_set;
  column_length = p.column_length;
  column_type = p.column_type;
  flags = p.flags;
  decimals = p.decimals;
}

abbrev pub fields_view : FixedFields → ColumnFields
fields_view p = record {
  character_set = p.character_set;
  column_length = p.column_length;
  column_type = p.column_type;
  flags = p.flags;
  decimals = p.decimals;
}

-- a text, where there is one
abbrev pub text_view : Option (Vec ℕ Global) → Option (List ℕ)
text_view text = option_map (λ bytes. bytes.items) text

abbrev pub extended_view : ExtendedColumn → ExtendedDefinition
extended_view p = record { column = column_view p.column; metadata = text_view p.metadata }

abbrev pub listed_view : ListedColumn → ListedDefinition
listed_view p = record { column = extended_view p.column; default_value = text_view p.default_value }
