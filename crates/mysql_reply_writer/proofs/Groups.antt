-- Columns and the EOF behind them are a column group.
use Rattle.std.proofs.Common.{◌≡◌, ◌&&◌, Bool, true, false, if◌then◌else◌, List, [], ◌∷◌, length, map, Option, Some}
use Rattle.std.proofs.Common.{None, refl, sym, ap, ◌∙◌, append-nil, lit<}
use Rattle.mysql_columns.specs.Columns.{ColumnDefinition, IsColumn, column, column_at}
use Rattle.mysql_columns.specs.ColumnLaws.{column_at-back}
use Rattle.mysql_columns.specs.Extended.{extended_metadata}
use Rattle.mysql_columns.specs.ExtendedLaws.{plain_columns}
use Rattle.mysql_ok_packets.specs.BackLaws.{eof-back}
use Rattle.mysql_ok_packets.specs.OkPackets.{OkPacket}
use Rattle.mysql_ok_packets.specs.Written.{IsWritable, as_eof, eof_bytes}
use Rattle.mysql_reply_events.specs.declared.context.Context.{Context}
use Rattle.mysql_reply_events.specs.Readings.{deprecate_eof, mariadb}
use Rattle.mysql_reply_events.specs.Table.{is_execution}
use Rattle.mysql_replies.specs.Manual.{AreColumns, IsColumnGroup, IsColumnPacket, IsEof, IsEofDue, deprecated, eof}
use Rattle.mysql_replies.specs.Manual.{group, no_columns, opens_cursor}
use Rattle.mysql_reply_writer.specs.Fits.{ColumnsFit}
use Rattle.mysql_reply_writer.specs.Written.{eof_due, group_payloads, nothing_said}

-- none of MariaDB's capabilities is in force
not_extended : (c : Context) → mariadb c ≡ 0 → extended_metadata (mariadb c) ≡ false
not_extended c plain = rw plain refl

is_column : (c : Context) → mariadb c ≡ 0 → (p : ColumnDefinition) → IsColumn p → IsColumnPacket c (column p) p
is_column c plain p h = record {
  found = record { column = p; metadata = None };
  fields = (
    [],
    plain_columns (mariadb c) (column p) (not_extended c plain) ∙
        rw (ap column_at (sym (append-nil (column p))) ∙ column_at-back p [] h) refl,
  );
  listed = refl;
}

are_columns : (c : Context) → mariadb c ≡ 0 → (columns : List ColumnDefinition) →
    ColumnsFit columns → AreColumns c (map column columns) columns
are_columns c plain [] h = tt
are_columns c plain (first ∷ others) h = (is_column c plain first h.0, are_columns c plain others h.1)

nothing_writable : IsWritable nothing_said
nothing_writable = record {
  affected_rows = lit< tt;
  last_insert_id = lit< tt;
  status_flags = lit< tt;
  named = refl;
  warnings = lit< tt;
  info = lit< tt;
  session_state_info = lit< tt;
}

-- What is read of the EOF behind columns.
abbrev pub says : OkPacket
says = as_eof nothing_said

is_eof : IsEof (eof_bytes nothing_said) says
unfolding eof_bytes
is_eof = record { below = lit< tt; fields = ([], eof-back nothing_said nothing_writable) }

-- What the EOF that is due says, where one is.
abbrev pub due_says : Context → List ColumnDefinition → Option OkPacket
due_says c [] = None
due_says c (first ∷ others) = if deprecate_eof c then None else Some says

eof_is_due : (c : Context) (columns : List ColumnDefinition) →
    IsEofDue c columns (eof_due c columns) (due_says c columns)
eof_is_due c [] = no_columns
eof_is_due c (first ∷ others) = due (deprecate_eof c) refl where
  due : (d : Bool) → deprecate_eof c ≡ d →
      IsEofDue c (first ∷ others) (if d then [] else eof_bytes nothing_said ∷
      []) (if d then None else Some says)
  due true e = deprecated e
  due false e = eof e is_eof

pub is_group : (c : Context) → mariadb c ≡ 0 → (columns : List ColumnDefinition) → ColumnsFit columns
    → IsColumnGroup c (length columns) (group_payloads c columns) columns (due_says c columns)
is_group c plain columns h =
    group (map column columns) (eof_due c columns) (are_columns c plain columns h)
    (eof_is_due c columns)

pub and_false : (a : Bool) → (a && false) ≡ false
and_false true = refl
and_false false = refl

-- It opens no cursor.
pub no_cursor : (c : Context) (columns : List ColumnDefinition) → opens_cursor c (due_says c columns) ≡ false
no_cursor c [] = refl
no_cursor c (first ∷ others) = by (deprecate_eof c) where
  by : (d : Bool) → opens_cursor c (if d then None else Some says) ≡ false
  by true = refl
  by false = and_false (is_execution c.kind)
