-- A payload of another number is no execution, of which values could be unclear.
use Rattle.std.proofs.Common.{◌≡◌, ℕ, List, ◌∷◌, Option, Some, None}
use Rattle.std.specs.Prelude.{IfOk, IfSome, Result, Ok, Err}
use Rattle.mysql_const.specs.declared.capabilities.Capabilities.{Capabilities}
use Rattle.mysql_executions.specs.InForce.{InForce}
use Rattle.mysql_commands.specs.Views.{HasUnclear}
use Rattle.mysql_commands.specs.declared.command.Command.{Command as Held}
use Rattle.mysql_commands.specs.declared.command.Command.TheVariants as held

module _ (c : Capabilities) (number : ℕ) (body : List ℕ) (no_execution : number ≡ 0x17 →
    ⊥) (no_bulk : number ≡ 0xfa → ⊥) where
  no_values : (parameters : Option InForce) (command : Held) → HasUnclear c parameters (number ∷ body) command
  no_values (Some s) (held.Execute e) = λ is. absurd (no_execution is)
  no_values None (held.Execute e) = tt
  no_values (Some s) (held.BulkExecute e) = λ is. absurd (no_bulk is)
  no_values None (held.BulkExecute e) = tt
  no_values parameters command = tt

  pub others_have_none : {E : Type 0} (parameters : Option InForce)
      (result : Result (Option Held) E) →
      IfOk result (λ found. IfSome found
      (λ command. HasUnclear c parameters (number ∷ body) command))
  others_have_none parameters (Ok (Some command)) = no_values parameters command
  others_have_none parameters (Ok None) = tt
  others_have_none parameters (Err e) = tt
