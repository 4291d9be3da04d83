-- A change of user reads as it exactly where its own reading says so.
use Rattle.std.proofs.Common.{◌≡◌, ℕ, List, Option, Some, None, refl, sym, ap, ◌∙◌}
use Rattle.std.specs.Option.{option_map}
use Rattle.mysql_const.specs.declared.capabilities.Capabilities.{Capabilities}
use Rattle.mysql_executions.specs.InForce.{InForce}
use Rattle.mysql_login.specs.ChangedUsers.{ChangeUserFields, change_in_force, change_in_force_at}
use Rattle.mysql_commands.specs.Commands.{ChangeUser, Command, command_at, first_of, or_other}
use Rattle.mysql_command_writer.specs.Refusals.{ReadsBack}
use Rattle.mysql_command_writer.specs.Written.{command_bytes}

-- what is read of the front of its payload
abbrev read_by : ℕ → ChangeUserFields → Option ChangeUserFields
read_by capabilities p = first_of (change_in_force_at capabilities (change_in_force capabilities p))

-- what a payload says by what is read of its front
abbrev by_reading : List ℕ → Option ChangeUserFields → Command
by_reading payload read = or_other payload (option_map ChangeUser read)

said_is : (capabilities : Capabilities) (parameters : Option InForce) (p : ChangeUserFields) →
    command_at capabilities parameters (command_bytes capabilities parameters (ChangeUser p)) ≡
    by_reading (change_in_force capabilities.protocol.0 p) (read_by capabilities.protocol.0 p)
unfolding change_in_force
said_is capabilities parameters p = refl

pub logins_read : (capabilities : Capabilities) (parameters : Option InForce) (p : ChangeUserFields) →
    first_of (change_in_force_at capabilities.protocol.0 (change_in_force capabilities.protocol.0 p)) ≡ Some p →
    ReadsBack capabilities parameters (ChangeUser p)
logins_read capabilities parameters p h = said_is capabilities parameters p ∙
    ap (by_reading (change_in_force capabilities.protocol.0 p)) h

same_login : (p q : ChangeUserFields) → ChangeUser p ≡ ChangeUser q → p ≡ q
same_login p q e = cc

-- only where it is read of the front a payload says a change of user
front_is_read : (payload : List ℕ) (read : Option ChangeUserFields) (p : ChangeUserFields) →
    by_reading payload read ≡ ChangeUser p → read ≡ Some p
front_is_read payload None p h = absurd cc
front_is_read payload (Some q) p h = ap (λ (x : ChangeUserFields). Some x) (same_login q p h)

pub logins_are_read : (capabilities : Capabilities) (parameters : Option InForce) (p : ChangeUserFields) →
    ReadsBack capabilities parameters (ChangeUser p) →
    first_of (change_in_force_at capabilities.protocol.0 (change_in_force capabilities.protocol.0 p)) ≡ Some p
logins_are_read capabilities parameters p e =
    front_is_read (change_in_force capabilities.protocol.0 p) (read_by capabilities.protocol.0 p) p
    (sym (said_is capabilities parameters p) ∙ e)
