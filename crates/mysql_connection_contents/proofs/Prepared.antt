-- Behind the reply to a prepare the statement stands.
use Rattle.std.proofs.Common.{◌≡◌, ℕ, ◌+◌, Bool, List, Ok, refl, sym, subst}
use Rattle.mysql_connection_rules.specs.declared.side.Side.{Side}
use Rattle.mysql_connection_rules.specs.declared.side.Side.TheVariants.{Client, Server}
use Rattle.mysql_connection_rules.specs.Events.{Event}
use Rattle.mysql_connection_rules.specs.Events as events
use Rattle.mysql_connection_rules.specs.Standing.{About, InReply, Phase, Standing}
use Rattle.mysql_connection_rules.specs.Standing.About.{Preparing}
use Rattle.mysql_connection_rules.specs.Standing as phases
use Rattle.mysql_connection_rules.specs.StepLaws.{step_said}
use Rattle.mysql_connection_rules.specs.Steps.{after_event, behind_reply, by_turn, changed_by, context_of, in_phase}
use Rattle.mysql_connection_rules.specs.Steps.{in_turn, is_whole, of_reply, reply_after, step, turn_in_reply}
use Rattle.mysql_connection_rules.specs.Steps.{with_columns, with_statements}
use Rattle.mysql_connection_statements.specs.Statements.{Statements, counted, prepared_as}
use Rattle.mysql_executions.specs.After.{freshly_prepared}
use Rattle.mysql_reply_events.specs.Events.{Event as ReplySaid, ReplySoFar}
use Rattle.mysql_reply_events.specs.Events.Event.{PreparedEvent}
use Rattle.mysql_reply_events.specs.Table.{event_at, file_data_at}
use Rattle.mysql_server_packets.specs.Packets.{PrepareOk}
use Rattle.mysql_connection_contents.specs.Contents.{BothBeginWithNone, IdsStayOwn, IdsBeginOwn, IsPreparing}
use Rattle.mysql_connection_contents.specs.Contents.{PreparedStatementsStand, PreparesAs, PreparesIn, Stands}
use Rattle.mysql_connection_contents.proofs.Commands.{Goes, either}
use Rattle.mysql_connection_contents.proofs.Ids.{no_ids, says_is, step_ids}
use Rattle.mysql_connection_contents.proofs.Replies.{columns_leave, phase_logged_in}
use Rattle.mysql_connection_contents.proofs.Statements.{OwnIds, put_own}

module _ (id count : ℕ) where
  abbrev pub Made : Standing → Standing → Type 0
  Made s mid = Goes s id (freshly_prepared count) mid

  own_made : (s : Statements) (about : About) (text : List ℕ) (size more : ℕ) (p : PrepareOk)
      (follow : Bool) → about ≡ Preparing text size → p.statement_id ≡ id → p.num_params ≡ count →
      Stands (changed_by about more (PreparedEvent p follow) s) id (freshly_prepared count)
  own_made s about text size more p follow is its counts =
      let put = put_own s p.statement_id (freshly_prepared p.num_params)
      (prepared_as text p.num_params (size + more)) refl in
      let made : Stands (changed_by (Preparing text size) more (PreparedEvent p follow) s)
      p.statement_id (freshly_prepared p.num_params) =
      record { statement = put.statement; found = put.found; parameters = put.parameters } in
      subst (λ a. Stands (changed_by a more (PreparedEvent p follow) s) id (freshly_prepared count)) (sym is)
      (subst (λ n. Stands (changed_by (Preparing text size) more (PreparedEvent p follow) s) id
      (freshly_prepared n)) counts
      (subst (λ n. Stands (changed_by (Preparing text size) more (PreparedEvent p follow) s) n
      (freshly_prepared p.num_params)) its made))

  said_made : (s : Standing) (r : InReply) (text : List ℕ) (size more : ℕ) (said : ReplySaid)
      (so_far : ReplySoFar) → r.about ≡ Preparing text size →
      PreparesAs id count (events.Replied said) → Made s (after_event r more said so_far s)
  said_made s r text size more (PreparedEvent p follow) so_far is prepares =
      let said = PreparedEvent p follow in
      let now = reply_after r more said so_far in
      let changed_so = with_statements (changed_by r.about more said s.statements) s in
      let there = own_made s.statements r.about text size more p follow is prepares.0 prepares.1 in
      either (Made s) (is_whole now.so_far.awaited)
      (behind_reply now.about said
      (with_statements (with_columns now now.about changed_so.statements) changed_so))
      (in_phase (phases.Reply now) changed_so)
      (λ whole. record {
        stands =
            columns_leave changed_so.statements id (freshly_prepared count) now now.about there;
        capabilities = refl;
        logged_in = phase_logged_in now.about said;
      })
      (λ more. record { stands = there; capabilities = refl; logged_in = refl })
  said_made s r text size more said so_far is prepares = absurd prepares

  turn_made : (side : Side) (s : Standing) (r : InReply) (text : List ℕ) (size : ℕ)
      (payload : List ℕ) (e : Event) (mid : Standing) → r.about ≡ Preparing text size →
      by_turn side r s payload ≡ Ok (e, mid) → PreparesAs id count e → Made s mid
  turn_made Client s r text size payload e mid is h prepares =
      let x = says_is (λ so_far. events.FileData payload)
      (λ so_far. in_phase (phases.Reply (record r { so_far = so_far })) s)
      (of_reply (file_data_at r.so_far r.so_far.awaited payload)) e mid h in
      absurd (subst (PreparesAs id count) x.1 prepares)
  turn_made Server s r text size payload e mid is h prepares =
      let x = says_is (λ (x : ReplySaid × ReplySoFar). events.Replied x.0)
      (λ x. after_event r (counted payload) x.0 x.1 s)
      (of_reply (event_at (context_of s r) r.so_far payload)) e mid h in
      subst (Made s) (sym x.2) (said_made s r text size (counted payload) x.0.0 x.0.1 is
      (subst (PreparesAs id count) x.1 prepares))

  preparing_is : (about : About) → IsPreparing about → (text : List ℕ) × (size : ℕ) × (about ≡ Preparing text size)
  preparing_is (Preparing text size) is = (text, size, refl)
  preparing_is about is = absurd is

  phase_made : (phase : Phase) (s : Standing) (payload : List ℕ) (e : Event) (mid : Standing) →
      in_turn phase s payload ≡ Ok (e, mid) → PreparesIn id count phase e → Made s mid
  phase_made (phases.Reply r) s payload e mid h prepares =
      let about = preparing_is r.about prepares.0 in
      turn_made (turn_in_reply r.so_far.awaited) s r about.0 about.1 payload e mid about.2 h prepares.1
  phase_made phase s payload e mid h prepares = absurd prepares

  -- behind the answer to a prepare the statement stands
  pub prepared_goes : (s : Standing) (payload : List ℕ) (e : Event) (mid : Standing) →
      step s payload ≡ Ok (e, mid) → PreparesIn id count s.phase e → Made s mid
  prepared_goes s payload e mid h prepares =
      phase_made s.phase s payload e mid (step_said s payload e mid h) prepares

pub prepared_statements_stand : PreparedStatementsStand
prepared_statements_stand s mid payload event id count h prepares =
    (prepared_goes id count s payload event mid h prepares).stands

pub both_begin_with_none : BothBeginWithNone
both_begin_with_none limits = (refl, λ capabilities. refl)

pub ids_begin_own : IdsBeginOwn
ids_begin_own begun begins = subst OwnIds (sym begins) no_ids

pub ids_stay_own : IdsStayOwn
ids_stay_own s mid payload event h own = step_ids s payload event mid own h
