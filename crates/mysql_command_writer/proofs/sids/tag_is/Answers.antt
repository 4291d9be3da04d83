use Rattle.std.proofs.Common.{◌≡◌, List, ℕ, None, Some, true, refl, sym, subst}
use Rattle.std.proofs.lemmas.Str.{is_utf8-from_IsUtf8}
use Rattle.std.specs.Str.{IsUtf8}
use Rattle.mysql_replication.specs.Blocks.{IsTagOrNone, is_tag}
use Rattle.mysql_replication.specs.Tags.{tag_fault}
use Rattle.mysql_command_writer.proofs.sids.tag_is.Goals as goal

-- a text without a fault, in UTF-8
tag_of : (text : List ℕ) → tag_fault text ≡ None → IsUtf8 text → is_tag text ≡ true
tag_of text h valid = rw (h, is_utf8-from_IsUtf8 text valid) refl

pub returns-in-Some : goal.returns-in-Some
returns-in-Some c =
    let text = c.in-Some.tag.now in
    let is : IsTagOrNone (Some text) =
    tag_of text c.as_str-text.ensures.valid (rw c.as_str-text.ensures.text at c.as_str-text.utf8) in
    subst IsTagOrNone (sym c.in-Some.ensures) is
