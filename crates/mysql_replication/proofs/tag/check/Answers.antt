use Rattle.std.proofs.Common.{sym, ap, ◌∙◌, ◌++◌, ℕ, List}
use Rattle.std.specs.Char.{encode_utf8}
use Rattle.mysql_replication.proofs.Characters.{tag_fault_behind}
use Rattle.mysql_replication.specs.Tags.{fault_of_others}
use Rattle.mysql_replication.proofs.tag.check.Goals as goal

pub returns-in-None : goal.returns-in-None
returns-in-None c =
    tag_fault_behind c.args.text.now c.as_str.result.now c.in-Some.first c.bad_later_char.result c.utf8.text
    (sym c.chars-chars.ensures.rest ∙ c.in-Some.ensures.steps.0 ∙
    ap (λ (rest : List ℕ). encode_utf8 c.in-Some.first ++ rest) (sym c.as_str.ensures))
    c.if-text-gt-MAX_LEN.false (sym c.is_first_char.ensures ∙ c.if-not-is_first_char.false)
    c.bad_later_char.ensures ∙ ap fault_of_others c.in-None.is

pub returns-in-Some-bad_later_char : goal.returns-in-Some-bad_later_char
returns-in-Some-bad_later_char c =
    tag_fault_behind c.args.text.now c.as_str.result.now c.in-Some.first c.bad_later_char.result c.utf8.text
    (sym c.chars-chars.ensures.rest ∙ c.in-Some.ensures.steps.0 ∙
    ap (λ (rest : List ℕ). encode_utf8 c.in-Some.first ++ rest) (sym c.as_str.ensures))
    c.if-text-gt-MAX_LEN.false (sym c.is_first_char.ensures ∙ c.if-not-is_first_char.false)
    c.bad_later_char.ensures ∙ ap fault_of_others c.in-Some-bad_later_char.is
