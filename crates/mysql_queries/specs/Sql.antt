-- A text in SQL, with the mode of the server that reads it and the spelling of byte strings in it.
-- MySQL Reference Manual, "Server SQL Modes", "Hexadecimal Literals", "Character Set Introducers".
use Rattle.std.specs.Prelude.{ℕ, false, List}
use Rattle.mysql_bytes.specs.declared.mode.Mode.{Mode}
use Rattle.mysql_bytes.specs.declared.spelling.Spelling.{Spelling}
use Rattle.mysql_bytes.specs.declared.spelling.Spelling.TheVariants as spellings

-- the text, the mode in which it is read, and how byte strings are spelled in the texts made of it
pub record Sql : Type 0 where
  pub text : List ℕ
  pub mode : Mode
  pub spelling : Spelling

-- the mode of a server whose backslashes escape and whose double quotes are strings
abbrev pub default_mode : Mode
default_mode = record { no_backslash_escapes = false; ansi_quotes = false }

-- the text for a server in this mode, with byte strings in this spelling
abbrev pub read_by : Mode → Spelling → List ℕ → Sql
read_by mode spelling text = record { text = text; mode = mode; spelling = spelling }

-- the text for a server in this mode, with byte strings in quotes
abbrev pub read_in : Mode → List ℕ → Sql
read_in mode text = read_by mode spellings.Quoted text

-- the text for a server in the default mode, with byte strings in quotes
abbrev pub read_by_default : List ℕ → Sql
read_by_default text = read_in default_mode text
