-- The placeholder that a token of a kind is, as it is found.
-- MySQL Reference Manual, "PREPARE Statement" (parameter markers).
use Rattle.std.specs.Prelude.{ℕ, Bool, false, not, ◌&&◌, List}
use Rattle.mysql_queries.specs.Alone.{is_name_kind, stands_apart}
use Rattle.mysql_queries.specs.Tokens.{Kind}
use Rattle.mysql_queries.specs.declared.placeholders.Place.{Place}

-- The placeholder from start up to end that a token of this kind is, where servers agree about the
-- query: behind `/*!` or not, behind a string or not, before a string or not.
abbrev pub place_between : List ℕ → Kind → ℕ → ℕ → (opening behind_string before_string : Bool) → Place
place_between query kind start end opening behind_string before_string =
    record {
      start = start;
      end = end;
      name = is_name_kind kind;
      alone = stands_apart query start end && not opening && not behind_string && not before_string;
    }

-- a placeholder where servers disagree about the query
abbrev pub not_alone : Place → Place
not_alone place = record place { alone = false }
