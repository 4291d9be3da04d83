-- A request for a table's columns reads as it exactly where the table's name has no zero.
use Rattle.std.proofs.Common.{◌≡◌, ℕ, List, Option, Bool, true, false, length}
use Rattle.std.proofs.Common.{refl, sym, ap, ◌∙◌, arith, not, nat_lt}
use Rattle.std.proofs.lemmas.Bool.{ltb-false, ltb-true}
use Rattle.std.proofs.lemmas.List.{take_all}
use Rattle.std.proofs.lemmas.List.Folds.{length-prefix_len}
use Rattle.std.specs.List.{before_first, position_or_len}
use Rattle.mysql_buf.specs.Reading.{is_zero}
use Rattle.mysql_executions.specs.InForce.{InForce}
use Rattle.mysql_const.specs.declared.capabilities.Capabilities.{Capabilities}
use Rattle.mysql_fields.specs.TextLaws.{null_text_at-back}
use Rattle.mysql_commands.specs.Commands.{FieldList, command_at}
use Rattle.mysql_command_writer.specs.Refusals.{ReadsBack}
use Rattle.mysql_command_writer.specs.Written.{command_bytes}

-- a zero stands in a name
abbrev pub has_zero : List ℕ → Bool
has_zero name = nat_lt (position_or_len is_zero name) (length name)

-- what is read of a name that is written to its first zero
pub cut : (capabilities : Capabilities) (parameters : Option InForce) (table wildcard : List ℕ) →
    command_at capabilities parameters
    (command_bytes capabilities parameters (FieldList table wildcard)) ≡
    FieldList (before_first is_zero table) wildcard
cut capabilities parameters table wildcard = rw (null_text_at-back table wildcard) refl

-- a name without a zero is written whole
pub whole : (table : List ℕ) → has_zero table ≡ false → before_first is_zero table ≡ table
whole table h = take_all (position_or_len is_zero table) table
    (ltb-false (position_or_len is_zero table) (length table) h)

pub field_lists : (capabilities : Capabilities) (parameters : Option InForce)
    (table wildcard : List ℕ) → has_zero table ≡ false →
    ReadsBack capabilities parameters (FieldList table wildcard)
field_lists capabilities parameters table wildcard h =
    cut capabilities parameters table wildcard ∙ ap (λ (name : List ℕ). FieldList name wildcard) (whole table h)

same_table : (a b w : List ℕ) → FieldList a w ≡ FieldList b w → a ≡ b
same_table a b w e = cc

pub cut_lists : (capabilities : Capabilities) (parameters : Option InForce)
    (table wildcard : List ℕ) → has_zero table ≡ true →
    ReadsBack capabilities parameters (FieldList table wildcard) → ⊥
cut_lists capabilities parameters table wildcard h e =
    let same : before_first is_zero table ≡ table =
    same_table (before_first is_zero table) table wildcard (sym (cut capabilities parameters table wildcard) ∙ e) in
    let short : length (before_first is_zero table) ≡ position_or_len is_zero table =
    length-prefix_len (λ x. not (is_zero x)) table in
    omega (arith, short, ap length same, ltb-true (position_or_len is_zero table) (length table) h)
