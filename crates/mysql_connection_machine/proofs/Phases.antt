-- The phase that is due.
use Rattle.std.proofs.Common.{◌≡◌, refl}
use Rattle.mysql_connection_rules.specs.Standing.{Phase}
use Rattle.mysql_connection_rules.specs.Standing as phases
use Rattle.mysql_reply_events.specs.Events.{Awaited}
use Rattle.mysql_reply_events.specs.Events as awaiting
use Rattle.mysql_connection_state.specs.Views.{plain_phase, plain_reply}
use Rattle.mysql_connection_state.specs.declared.phase.Phase.TheVariants as plain

in_reply : (awaited : Awaited) → plain_reply awaited ≡ plain.Command → ⊥
in_reply awaiting.FileData e = cc
in_reply awaited e = cc

-- a command, where it is told so
pub command_due : (phase : Phase) → plain_phase phase ≡ plain.Command → phase ≡ phases.Command
command_due phases.Command e = refl
command_due (phases.Reply r) e = absurd (in_reply r.so_far.awaited e)
command_due phase e = absurd cc
