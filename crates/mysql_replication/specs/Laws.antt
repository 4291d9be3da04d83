-- The laws of texts of sets.
-- MySQL Reference Manual, "GTID Sets".
use Rattle.std.specs.Prelude.{◌≡◌, ◌↔◌, ℕ, List, Ok}
use Rattle.std.specs.Str.{IsUtf8}
use Rattle.mysql_replication.specs.Sids.{SidParts, sid_of, sid_text}

-- A set that a text writes is read from its own text.
abbrev pub ParsedReadsBack : Type 0
ParsedReadsBack = (text : List ℕ) (sid : SidParts) → IsUtf8 text → sid_of text ≡ Ok sid → sid_of (sid_text sid) ≡ Ok sid

-- Two sets that texts write are equal exactly where their own texts are.
abbrev pub ParsedEqualByText : Type 0
ParsedEqualByText = (text other : List ℕ) (a b : SidParts) → IsUtf8 text → IsUtf8 other →
    sid_of text ≡ Ok a → sid_of other ≡ Ok b
    → (a ≡ b) ↔ (sid_text a ≡ sid_text b)
