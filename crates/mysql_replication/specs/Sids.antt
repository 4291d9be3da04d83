-- Sets of global transaction identifiers of one source, as texts: a UUID, a tag if there is one, and intervals,
-- with colons between.
-- MySQL Reference Manual, "GTID Sets".
use Rattle.std.specs.Prelude.{ℕ, List, [], ◌∷◌, ◌++◌, Bool, false, Option, Some, None, Result, Ok, Err, ◌==◌}
use Rattle.std.specs.Prelude.{if◌then◌else◌, is_none}
use Rattle.std.specs.List.{flat_map, slice_split}
use Rattle.std.specs.Option.{ok_or}
use Rattle.uuid.specs.Text.{parsed, hyphenated_text, lower}
use Rattle.mysql_fields.specs.Wire.{◌>>=◌}
use Rattle.mysql_replication.specs.Tags.{is_digit, tag_fault}
use Rattle.mysql_replication.specs.Intervals.{intervals_of, interval_text}
use Rattle.mysql_replication.specs.declared.error.SidError.{SidError}
use Rattle.mysql_replication.specs.declared.error.SidError.TheVariants.{NoColon, BadUuid, Empty, BadTag, NoIntervals}
use Rattle.mysql_replication.specs.declared.interval.GnoInterval.{GnoInterval}
use Rattle.mysql_replication.specs.declared.sid.Sid.{Sid}

-- What a set holds: the sixteen bytes of a UUID, a tag's text if there is one, and intervals.
pub record SidParts : Type 0 where
  pub uuid : List ℕ
  pub tag : Option (List ℕ)
  pub intervals : List GnoInterval

-- What a `Sid` holds.
abbrev pub sid_view : Sid → SidParts
sid_view sid = record { uuid = sid.uuid; tag = sid.tag; intervals = sid.intervals.items }

-- The fields of a text, between its colons.
abbrev pub fields_of : List ℕ → List (List ℕ)
fields_of text = slice_split (λ c. c == 58) text

-- The UUID that a field writes, in any of the forms of UUIDs.
unfoldable pub uuid_of : List ℕ → Result (List ℕ) SidError
uuid_of field = ok_or (parsed field) BadUuid

-- Whether a field begins with a digit.
abbrev pub begins_with_digit : List ℕ → Bool
begins_with_digit [] = false
begins_with_digit (c ∷ field) = is_digit c

-- A field that is a tag, before those of the intervals.
abbrev pub tag_before : List ℕ → List (List ℕ) → Result (Option (List ℕ) × List (List ℕ)) SidError
tag_before field [] = Err NoIntervals
tag_before field (other ∷ others) = if is_none (tag_fault field) then Ok (Some field, other ∷ others) else Err BadTag

-- The tag, where the first field doesn't begin with a digit, and the fields of the intervals.
abbrev pub tag_and_intervals : List (List ℕ) → Result (Option (List ℕ) × List (List ℕ)) SidError
tag_and_intervals [] = Err Empty
tag_and_intervals ([] ∷ []) = Err Empty
tag_and_intervals (field ∷ fields) =
    if begins_with_digit field then Ok (None, field ∷ fields) else tag_before field fields

-- The set that fields write.
unfoldable pub sid_of_fields : List (List ℕ) → Result SidParts SidError
sid_of_fields [] = Err NoColon
sid_of_fields (front ∷ []) = Err NoColon
sid_of_fields (front ∷ field ∷ fields) = do
  uuid ← uuid_of front
  rest ← tag_and_intervals (field ∷ fields)
  intervals ← intervals_of rest.1
  Ok (record { uuid = uuid; tag = rest.0; intervals = intervals })

-- The set that a text writes.
abbrev pub sid_of : List ℕ → Result SidParts SidError
sid_of text = sid_of_fields (fields_of text)

-- A tag's text behind a colon.
abbrev pub tag_text : Option (List ℕ) → List ℕ
tag_text None = []
tag_text (Some tag) = 58 ∷ tag

-- The text of a set: its UUID in lower case, its tag, and its intervals, each behind a colon.
abbrev pub sid_text : SidParts → List ℕ
sid_text sid = hyphenated_text lower sid.uuid ++ tag_text sid.tag ++
    flat_map (λ interval. 58 ∷ interval_text interval) sid.intervals
