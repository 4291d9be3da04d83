-- Tags of global transaction identifiers, as texts.
-- MySQL Reference Manual, "GTID Format and Storage".
use Rattle.std.specs.Prelude.{ℕ, List, [], ◌∷◌, length, Bool, Option, Some, None, nat_lt, nat_le, not, ◌==◌, ◌&&◌, ◌||◌}
use Rattle.std.specs.Prelude.{if◌then◌else◌}
use Rattle.std.specs.List.{find}
use Rattle.std.specs.Str.{chars}
use Rattle.mysql_replication.specs.declared.tag.InvalidTag.{InvalidTag}
use Rattle.mysql_replication.specs.declared.tag.InvalidTag.TheVariants.{Empty, TooLong, InvalidFirstChar, InvalidChar}

-- A lower-case letter of ASCII or an underscore, with which a tag begins.
abbrev pub begins_tag : ℕ → Bool
begins_tag c = (nat_le 97 c && nat_le c 122) || (c == 95)

-- A decimal digit.
abbrev pub is_digit : ℕ → Bool
is_digit c = nat_le 48 c && nat_le c 57

-- What may follow in a tag: such a letter, an underscore or a digit.
abbrev pub goes_on_tag : ℕ → Bool
goes_on_tag c = begins_tag c || is_digit c

-- A character that may not stand behind a tag's first, where there is one.
abbrev pub fault_of_others : Option ℕ → Option InvalidTag
fault_of_others None = None
fault_of_others (Some c) = Some (InvalidChar c)

-- The fault of a tag's characters, the leftmost one.
abbrev pub fault_of_chars : List ℕ → Option InvalidTag
fault_of_chars [] = None
fault_of_chars (c ∷ others) =
    if begins_tag c then fault_of_others (find (λ other. not (goes_on_tag other)) others) else Some (InvalidFirstChar c)

-- Why a text is no tag: it is empty, has more than 32 bytes, or has a character that may not stand there.
abbrev pub tag_fault : List ℕ → Option InvalidTag
tag_fault text =
    if length text == 0 then Some Empty
    else if nat_lt 32 (length text) then Some (TooLong (length text))
    else fault_of_chars (chars text)
