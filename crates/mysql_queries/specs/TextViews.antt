-- What is told of a text that was read over a query.
-- MySQL Reference Manual, "PREPARE Statement" (parameter markers), "Literal Values".
use Rattle.std.specs.Prelude.{ℕ, List, Option, None, Some, Vec}
use Rattle.std.specs.declared.alloc.Global.{Global}
use Rattle.mysql_queries.specs.Queries.{Lexes, Slices}
use Rattle.mysql_queries.specs.Sql.{Sql}
use Rattle.mysql_bytes.specs.declared.content.Content.{Content}

-- the contents of the text over the query, by its pieces and by its tokens; or that there are none
abbrev pub TellsContents : Sql → List ℕ → Option (Vec Content Global) → Type 0
TellsContents query text (Some contents) = Slices query text contents.items × Lexes query text contents.items
TellsContents query text None = (contents : List Content) → Slices query text contents → ⊥
