-- No payload says last words by the table of steps.
use Rattle.std.proofs.Common.{◌≡◌, ℕ, List, Ok}
use Rattle.mysql_authentication.specs.Readings.{authentication_at, greeting_at, response_at}
use Rattle.mysql_commands.specs.Commands.{command_at}
use Rattle.mysql_connection_rules.specs.declared.side.Side.{Side}
use Rattle.mysql_connection_rules.specs.declared.side.Side.TheVariants.{Client, Server}
use Rattle.mysql_connection_rules.specs.Events.{Event}
use Rattle.mysql_connection_rules.specs.Events as events
use Rattle.mysql_connection_rules.specs.Standing.{InReply, Phase, Standing}
use Rattle.mysql_connection_rules.specs.Standing as phases
use Rattle.mysql_connection_rules.specs.StepLaws.{step_said}
use Rattle.mysql_connection_rules.specs.Steps.{after_authentication, after_command, after_event, after_greeting}
use Rattle.mysql_connection_rules.specs.Steps.{after_response, by_turn, context_of, greets_anew, in_phase, in_turn}
use Rattle.mysql_connection_rules.specs.Steps.{of_login, of_reply, parameters_in_question, says, step, turn_in_reply}
use Rattle.mysql_connection_statements.specs.Statements.{counted}
use Rattle.mysql_reply_events.specs.Events.{Event as ReplySaid, ReplySoFar}
use Rattle.mysql_reply_events.specs.Table.{event_at, file_data_at}
use Rattle.mysql_server_packets.specs.Packets.{ServerError}
use Rattle.mysql_connection_contents.proofs.Ids.{not_anew, said_is, says_is}

module _ (error : ServerError) where
  abbrev last : Event
  last = events.Farewell error

  turn_says : (side : Side) (r : InReply) (s : Standing) (payload : List ℕ) (mid : Standing) →
      by_turn side r s payload ≡ Ok (last, mid) → ⊥
  turn_says Client r s payload mid h =
      let x = says_is (λ so_far. events.FileData payload)
      (λ so_far. in_phase (phases.Reply (record r { so_far = so_far })) s)
      (of_reply (file_data_at r.so_far r.so_far.awaited payload)) last mid h in
      (let same : last ≡ events.FileData payload = x.1 in cc)
  turn_says Server r s payload mid h =
      let x = says_is (λ (x : ReplySaid × ReplySoFar). events.Replied x.0)
      (λ x. after_event r (counted payload) x.0 x.1 s)
      (of_reply (event_at (context_of s r) r.so_far payload)) last mid h in
      (let same : last ≡ events.Replied x.0.0 = x.1 in cc)

  phase_says : (phase : Phase) (s : Standing) (payload : List ℕ) (mid : Standing) →
      in_turn phase s payload ≡ Ok (last, mid) → ⊥
  phase_says phases.Greeting s payload mid h =
      let x = says_is events.Greeting (after_greeting s) (of_login (greeting_at payload)) last mid h in
      (let same : last ≡ events.Greeting x.0 = x.1 in cc)
  phase_says phases.Response s payload mid h =
      let x = says_is events.Response (after_response s)
      (of_login (response_at s.offered.protocol.0 payload)) last mid h in
      (let same : last ≡ events.Response x.0 = x.1 in cc)
  phase_says (phases.Authentication exchange) s payload mid h =
      let read = of_login (authentication_at s.capabilities.protocol.0 payload) in
      let x = says_is events.Authentication (after_authentication exchange s) read last mid
      (not_anew (greets_anew exchange payload)
      (says events.Authentication (after_authentication exchange s) read) last mid h) in
      (let same : last ≡ events.Authentication x.0 = x.1 in cc)
  phase_says (phases.Answer exchange) s payload mid h =
      (let same : events.Answer payload ≡ last =
      (said_is (events.Answer payload) last (in_phase (phases.Authentication exchange) s) mid
      h).0 in cc)
  phase_says phases.Command s payload mid h =
      let command = command_at s.capabilities (parameters_in_question s.statements payload) payload in
      (let same : events.Asked command ≡ last =
      (said_is (events.Asked command) last (after_command s payload command) mid h).0 in cc)
  phase_says (phases.Reply r) s payload mid h = turn_says (turn_in_reply r.so_far.awaited) r s payload mid h
  phase_says (phases.Over reason) s payload mid h = absurd cc

  pub no_last_words : (s : Standing) (payload : List ℕ) (mid : Standing) → step s payload ≡ Ok (last, mid) → ⊥
  no_last_words s payload mid h =
      phase_says s.phase s payload mid (step_said s payload last mid h)
