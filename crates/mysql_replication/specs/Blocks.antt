-- Sets of global transaction identifiers as bytes: each alone, and in the block of a request for the binary log.
-- MySQL: Client/Server Protocol, "COM_BINLOG_DUMP_GTID"; Source Code Documentation, "Gtid_set::encode".
-- A reading takes bytes from the front: x.0 is what was read and x.1 the bytes left; the first refusal counts.
use Rattle.std.specs.Prelude.{◌≡◌, ℕ, ◌+◌, ◌*◌, ◌/◌, ◌%◌, ◌^◌, ◌<◌, List, [], ◌∷◌, ◌++◌, length, Bool, true, false}
use Rattle.std.specs.Prelude.{Option, Some, None, is_some, is_none, unwrap_or, Result, Ok, Err, ◌==◌, ◌&&◌}
use Rattle.std.specs.Prelude.{if◌then◌else◌}
use Rattle.std.specs.List.{AllByRecursion, flat_map, list_any}
use Rattle.std.specs.Str.{is_utf8}
use Rattle.byteorder.specs.Endian.{little_bytes}
use Rattle.mysql_fields.specs.Forms.{bytes_at, fixed_number_at}
use Rattle.mysql_fields.specs.Wire.{Reading, ◌>>=◌}
use Rattle.mysql_fields.specs.declared.error.WireError.{WireError}
use Rattle.mysql_fields.specs.declared.error.WireError.TheVariants.{UnknownValue}
use Rattle.mysql_fields.specs.Texts.{varlen_text, varlen_text_at}
use Rattle.mysql_field_lists.specs.Lists.{counted_at, elements_at}
use Rattle.mysql_replication.specs.Sids.{SidParts}
use Rattle.mysql_replication.specs.Tags.{tag_fault}
use Rattle.mysql_replication.specs.declared.interval.GnoInterval.{GnoInterval}

-- An interval: its first number and the number after its last, eight bytes each.
unfoldable pub interval_bytes : GnoInterval → List ℕ
interval_bytes interval = little_bytes 8 interval.start ++ little_bytes 8 interval.end

unfoldable pub interval_at : List ℕ → Reading GnoInterval
interval_at bytes = do
  start ← fixed_number_at 8 bytes
  end ← fixed_number_at 8 start.1
  Ok (record { start = start.0; end = end.0 }, end.1)

-- These bytes are a tag's text.
abbrev pub is_tag : List ℕ → Bool
is_tag text = is_none (tag_fault text) && is_utf8 text

-- The tag that a text is: none where it is empty.
unfoldable pub tag_named : List ℕ → Result (Option (List ℕ)) WireError
tag_named [] = Ok None
tag_named (c ∷ text) = if is_tag (c ∷ text) then Ok (Some (c ∷ text)) else Err UnknownValue

-- A tag after its length as a number of variable length, in a tagged block alone; the length 0 where there is no tag.
abbrev pub tag_bytes : Bool → Option (List ℕ) → List ℕ
tag_bytes false tag = []
tag_bytes true tag = varlen_text (unwrap_or tag [])

abbrev pub tag_at : Bool → List ℕ → Reading (Option (List ℕ))
tag_at false bytes = Ok (None, bytes)
tag_at true bytes = do
  text ← varlen_text_at bytes
  tag ← tag_named text.0
  Ok (tag, text.1)

-- A set: its UUID, its tag in a tagged block, and its intervals after their count in eight bytes.
unfoldable pub sid_bytes : Bool → SidParts → List ℕ
sid_bytes tagged sid = sid.uuid ++
    (tag_bytes tagged sid.tag ++
    (little_bytes 8 (length sid.intervals) ++ flat_map interval_bytes sid.intervals))

unfoldable pub sid_at : Bool → List ℕ → Reading SidParts
sid_at tagged bytes = do
  uuid ← bytes_at 16 bytes
  tag ← tag_at tagged uuid.1
  intervals ← counted_at (fixed_number_at 8) interval_at tag.1
  Ok (record { uuid = uuid.0; tag = tag.0; intervals = intervals.0 }, intervals.1)

-- A block is tagged where one of its sets has a tag.
abbrev pub any_tag : List SidParts → Bool
any_tag sids = list_any (λ sid. is_some sid.tag) sids

-- The number at the front of a block: how many sets follow; in a tagged block bits 8 to 55 say it,
-- and the top byte is 1.
unfoldable pub block_number : Bool → ℕ → ℕ
block_number tagged count = if tagged then 2 ^ 56 + 256 * (count % 2 ^ 48) else count

abbrev pub says_tagged : ℕ → Bool
says_tagged number = number / 2 ^ 56 == 1

abbrev pub count_said : ℕ → ℕ
count_said number = if says_tagged number then number / 256 % 2 ^ 48 else number % 2 ^ 56

-- A block: its number, and the sets one after another.
unfoldable pub block_bytes : List SidParts → List ℕ
block_bytes sids = little_bytes 8 (block_number (any_tag sids) (length sids)) ++
    flat_map (sid_bytes (any_tag sids)) sids

unfoldable pub block_at : List ℕ → Reading (List SidParts)
block_at bytes = do
  number ← fixed_number_at 8 bytes
  elements_at (sid_at (says_tagged number.0)) (count_said number.0) number.1

-- An interval of numbers below 2^64, as each is.
pub record IsInterval (interval : GnoInterval) : Type 0 where
  pub start : interval.start < 2 ^ 64
  pub end : interval.end < 2 ^ 64

-- A tag's text, where there is one.
abbrev pub IsTagOrNone : Option (List ℕ) → Type 0
IsTagOrNone None = Unit {0}
IsTagOrNone (Some text) = is_tag text ≡ true

-- A set of sixteen bytes of a UUID, a tag, and intervals of numbers below 2^64, as each is.
pub record IsSid (sid : SidParts) : Type 0 where
  pub uuid : length sid.uuid ≡ 16
  pub tag : IsTagOrNone sid.tag
  pub intervals : AllByRecursion IsInterval sid.intervals
  pub count : length sid.intervals < 2 ^ 64

-- Such sets, whose block has less than 2^32 bytes.
pub record IsBlock (sids : List SidParts) : Type 0 where
  pub sets : AllByRecursion IsSid sids
  pub short : length (block_bytes sids) < 2 ^ 32
