-- A literal that was read, as the definitions have it.
-- MySQL Reference Manual, "Literal Values".
use Rattle.std.specs.Prelude.{◌≡◌, ◌++◌, ℕ, List, []}
use Rattle.mysql_queries.specs.LiteralRuns.{IsLiteralRun}
use Rattle.mysql_queries.specs.Literals.{IsLiteral}
use Rattle.mysql_bytes.specs.declared.content.Content.{Content}
use Rattle.mysql_bytes.specs.declared.mode.Mode.{Mode}
use Rattle.mysql_bytes.specs.declared.spelling.Spelling.{Spelling}
use Rattle.mysql_bytes.specs.declared.content.Content.TheVariants as content
use Rattle.mysql_queries.specs.declared.literals.Literal.{Literal}
use Rattle.mysql_queries.specs.declared.literals.Literal.TheVariants.{Null, Number, Bytes}

-- its content, with what lies in the buffer
abbrev pub literal_content : Literal → List ℕ → Content
literal_content Null items = content.Null
literal_content (Number z) items = content.Number z
literal_content Bytes items = content.Bytes items

-- the buffer holds nothing beside a literal that has no bytes
abbrev pub IsHeld : Literal → List ℕ → Type 0
IsHeld Null items = items ≡ []
IsHeld (Number z) items = items ≡ []
IsHeld Bytes items = Unit {0}

-- a literal stands at the front of the text before the rest: all of its form that stands there, and
-- it spells what was read
abbrev pub ReadsLiteral : Mode → Spelling → List ℕ → Literal → List ℕ → List ℕ → Type 0
ReadsLiteral mode spelling text literal items rest = (run : List ℕ) × (text ≡ run ++ rest) ×
    IsLiteralRun mode spelling run rest × IsLiteral mode spelling run (literal_content literal items)

-- no run at the front of the text is a literal
abbrev pub IsNoLiteral : Mode → Spelling → List ℕ → Type 0
IsNoLiteral mode spelling text = (run rest : List ℕ) (content : Content) → text ≡ run ++ rest →
    IsLiteralRun mode spelling run rest → IsLiteral mode spelling run content → ⊥
