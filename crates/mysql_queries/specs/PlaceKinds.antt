-- The kinds of token that are placeholders.
-- MySQL Reference Manual, "PREPARE Statement" (parameter markers).
use Rattle.std.specs.Prelude.{Bool, ◌||◌}
use Rattle.mysql_queries.specs.Tokens.{Kind}
use Rattle.mysql_queries.specs.Alone.{is_name_kind, is_mark_kind}

-- the kinds of placeholders
abbrev pub is_place_kind : Kind → Bool
is_place_kind kind = is_name_kind kind || is_mark_kind kind
