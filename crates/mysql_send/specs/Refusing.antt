-- The refusal of a set for which no text is bound.
-- MySQL: Client/Server Protocol, "COM_QUERY".
use Rattle.std.specs.Prelude.{ℕ}
use Rattle.mysql_values.specs.declared.bind.BindError.{BindError}
use Rattle.mysql_values.specs.declared.bind.BindError.TheVariants as bind_error
use Rattle.mysql_values.specs.declared.params.SetError.TheVariants as set_error
use Rattle.mysql_command_rules.specs.declared.refusal.Refusal.{Refusal}
use Rattle.mysql_command_rules.specs.declared.refusal.Refusal.TheVariants as refusals

-- the refusal that stands for an error of binding a set's text
abbrev pub refusal_by : ℕ → BindError → Refusal
refusal_by set bind_error.Mixed = refusals.Mixed
refusal_by set (bind_error.NotAlone place) = refusals.NotAlone place
refusal_by set (bind_error.Params error) = refusals.Params set (set_error.Params error)
refusal_by set bind_error.WrongCount = refusals.WrongCount set
refusal_by set (bind_error.Float place) = refusals.Float set place
refusal_by set bind_error.Memory = refusals.Memory
