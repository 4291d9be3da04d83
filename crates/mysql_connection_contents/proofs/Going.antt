-- A client's calls go on with a record of what it put and took.
use Rattle.std.proofs.Common.{◌≡◌, ◌⊎◌, ◌<◌, inl, inr, ℕ, true, false, List, [], ◌∷◌, ◌++◌, Some, refl, sym, ap, subst}
use Rattle.std.proofs.Common.{◌∙◌, append_assoc, append-nil}
use Rattle.mysql_connection_contents.proofs.Commanding.{client_turn}
use Rattle.mysql_connection_contents.proofs.Events.{put_events_are_spoken}
use Rattle.mysql_connection_contents.proofs.Histories.{Keeps, history}
use Rattle.mysql_connection_contents.proofs.Parties.{any_keeps, other_of, own_of, side_may, whose}
use Rattle.mysql_connection_contents.proofs.Putting.{events_behind, had_too, speaks}
use Rattle.mysql_connection_contents.proofs.Runs.{SaidAt, turn_says}
use Rattle.mysql_connection_contents.proofs.Statements.{both}
use Rattle.mysql_connection_contents.specs.Calls.{feeds_other}
use Rattle.mysql_connection_contents.specs.Contents.{Spoken, events_of}
use Rattle.mysql_connection_contents.specs.PacketLaws.{ClientsGoOn}
use Rattle.mysql_connection_contents.specs.Records.{HasSpoken, PutsSpoken, TakesSpoken, spoken_by}
use Rattle.mysql_connection_contents.specs.Records.HasSpoken.{comes, ends, puts, takes}
use Rattle.mysql_connection_rules.proofs.Packets.{PacketLaws}
use Rattle.mysql_connection_rules.specs.AgreementLaws.{NumbersAreBytes, PutsAreRead}
use Rattle.mysql_connection_rules.specs.Events.{Event, side_of}
use Rattle.mysql_connection_rules.specs.Machines.{IsOpen}
use Rattle.mysql_connection_rules.specs.Puts.{has_place, is_free, is_of, is_turn, packets_for}
use Rattle.mysql_connection_rules.specs.PuttingMachines.{HadOrPut}
use Rattle.mysql_connection_rules.specs.Refusals.{Written}
use Rattle.mysql_connection_rules.specs.Standing.{Phase}
use Rattle.mysql_connection_rules.specs.Standing as phases
use Rattle.mysql_connection_rules.specs.Steps.{turn}
use Rattle.mysql_connection_rules.specs.Streams.{Beginning, Coming, End, Piece, Says, Streams, Waits, World, come, grow}
use Rattle.mysql_connection_rules.specs.Streams.{next, next_by, stream_of}
use Rattle.mysql_connection_rules.specs.declared.reason.Reason.TheVariants as reasons
use Rattle.mysql_connection_rules.specs.declared.side.Side.{Side}
use Rattle.mysql_connection_rules.specs.declared.side.Side.TheVariants.{Client, Server}
use Rattle.mysql_wire.specs.FirstPacketLaws.{FramingsAreFound}

-- ---- the record goes on, or the server's last words ended the connection

abbrev IsOver : World → Type 0
IsOver w = w.standing.phase ≡ phases.Over reasons.Farewell

module _ (begun : Beginning) (xs : List Spoken) where
  abbrev Goes : Streams → List Event → World → Type 0
  Goes s ev w = (more : List Spoken) × HasSpoken Client Server begun s (xs ++ more) w × (events_of more ≡ ev)

  abbrev GoesOrOver : Streams → List Event → World → Type 0
  GoesOrOver s ev w = Goes s ev w ⊎ IsOver w

  one_more : (s : Streams) (ev : List Event) (event : Event) (new : World) (more : List Spoken)
      (x : Spoken) → events_of more ≡ ev → x.event ≡ event →
      HasSpoken Client Server begun s ((xs ++ more) ++ x ∷ []) new → Goes s (ev ++ event ∷ []) new
  one_more s ev event new more x are its spoken = (
    more ++ x ∷ [],
    subst (λ (l : List Spoken). HasSpoken Client Server begun s l new) (append_assoc xs more (x ∷ [])) spoken,
    events_behind more x ∙ ap (λ (l : List Event). l ++ x.event ∷ []) are ∙ ap (λ (e : Event). ev ++ e ∷ []) its,
  )

  come_said : (s : Streams) (ev : List Event) (old : World) (side : Side) (coming : Coming) → side ≡
      Server → GoesOrOver s ev old → IsOpen old side →
      GoesOrOver (grow side coming s) ev (come side coming old)
  come_said s ev old side coming its (inl goes) is_open =
      subst (λ (x : Side). GoesOrOver (grow x coming s) ev (come x coming old)) (sym its)
      (inl (
        goes.0,
        comes {old = old} coming goes.1 (subst (IsOpen old) its is_open) refl,
        goes.2,
      ))
  come_said s ev old side coming its (inr gone) is_open = inr gone

  end_said : (s : Streams) (ev : List Event) (old : World) (side : Side) → side ≡ Client →
      GoesOrOver s ev old → IsOpen old side → GoesOrOver (grow side End s) ev (come side End old)
  end_said s ev old side its (inl goes) is_open =
      subst (λ (x : Side). GoesOrOver (grow x End s) ev (come x End old)) (sym its)
      (inl (goes.0, ends {old = old} goes.1 (subst (IsOpen old) its is_open) refl, goes.2))
  end_said s ev old side its (inr gone) is_open = inr gone

  ends_said : (s : Streams) (ev : List Event) (old : World) (side : Side) → GoesOrOver s ev old →
      IsOpen old side → GoesOrOver (grow side End s) ev (come side End old)
  ends_said s ev old side said is_open = elim (whose Client Server side refl) [
    | inl its ↦ end_said s ev old side its said is_open
    | inr its ↦ come_said s ev old side End its said is_open
  ]

  event_taken : (s : Streams) (ev : List Event) (old : World) (side : Side) (event : Event)
      (new : World) → Goes s ev old → next old ≡ Says event new → turn old.standing.phase ≡
      Some side → SaidAt old side event new → GoesOrOver s (ev ++ event ∷ []) new
  event_taken s ev old side event new goes is due (inl p) =
      let x : Spoken = record {
        side = side;
        number = p.number;
        standing = old.standing;
        payload =
            p.payload;
        event = event;
      } in
      let taken : TakesSpoken old x new =
      record { takes = is; heard = (refl, (p.mid, p.rest, due, p.found, p.read, p.leads)) } in
      inl (one_more s ev event new goes.0 x goes.2 refl (takes x goes.1 taken))
  event_taken s ev old side event new goes is due (inr words) = inr (ap (λ (v : World). v.standing.phase) (sym words.4))

  taken_said : (s : Streams) (ev : List Event) (old : World) (event : Event) (new : World) →
      GoesOrOver s ev old → next old ≡ Says event new → GoesOrOver s (ev ++ event ∷ []) new
  taken_said s ev old event new (inl goes) is =
      let turned = turn_says old (turn old.standing.phase) event new is in
      event_taken s ev old turned.0 event new goes is turned.1 turned.2
  taken_said s ev old event new (inr gone) is =
      absurd (let none : Waits ≡ Says event new =
      sym (ap (λ (p : Phase). next_by old (turn p)) gone) ∙ is in cc)

  event_put : (s : Streams) (ev : List Event) (old : World) (event : Event) (payload : List ℕ)
      (new : World) (before behind : List ℕ) → side_of event ≡ Client → Goes s ev old →
      Written old event payload new before behind
      → GoesOrOver (grow (side_of event) (Piece (packets_for event old.standing payload)) s) (ev ++ event ∷ []) new
  event_put s ev old event payload new before behind its goes written =
      elim (put_events_are_spoken old event payload written.after written.may) [
        | inl p ↦ (let x = spoken_by old event payload in
            let grown = grow Client (Piece (packets_for event old.standing payload)) s in
            let put : HasSpoken Client Server begun grown ((xs ++ goes.0) ++ x ∷ []) new =
            puts x goes.1 its (subst (PutsSpoken old x) (sym written.goes) p) in
            subst (λ (side : Side). GoesOrOver
            (grow side (Piece (packets_for event old.standing payload)) s) (ev ++ event ∷ []) new)
            (sym its) (inl (one_more grown ev event new goes.0 x goes.2 refl put)))
        | inr words ↦ absurd (let other : Server ≡ Client = sym (ap side_of words.1) ∙ its in cc)
      ]

  put_said : (s : Streams) (ev : List Event) (old : World) (event : Event) (payload : List ℕ)
      (new : World) (before behind : List ℕ) → side_of event ≡ Client → GoesOrOver s ev old →
      Written old event payload new before behind
      → GoesOrOver (grow (side_of event) (Piece (packets_for event old.standing payload)) s) (ev ++ event ∷ []) new
  put_said s ev old event payload new before behind its (inl goes) written =
      event_put s ev old event payload new before behind its goes written
  put_said s ev old event payload new before behind its (inr gone) written =
      let place : has_place old event ≡ true =
      (both (is_free (stream_of (side_of event) old.unread)) (has_place old event)
      written.may.due).1 in
      let turned = client_turn old event its place in
      absurd (let none : false ≡ true = sym (ap (λ (p : Phase). is_turn Client (turn p)) gone) ∙ turned in cc)

  -- ---- call by call

  module _ (packets : PacketLaws) (numbers : NumbersAreBytes) (reads : PutsAreRead)
      (small : begun.first.number < 256) where
    abbrev Kept : List Event → Streams → List Event → World → Type 0
    Kept put s ev w = HadOrPut begun s (events_of xs ++ ev) w × GoesOrOver s ev w

    more_had : (s : Streams) (ev : List Event) (event : Event) (new : World) →
        HadOrPut begun s ((events_of xs ++ ev) ++ event ∷ []) new →
        HadOrPut begun s (events_of xs ++ (ev ++ event ∷ [])) new
    more_had s ev event new had =
        subst (λ (l : List Event). HadOrPut begun s l new)
        (append_assoc (events_of xs) ev (event ∷ [])) had

    goes_keeps : Keeps (λ call. feeds_other Client call ≡ true) (is_of Client) Kept
    goes_keeps = let any = any_keeps packets numbers reads begun small in record {
      closed = λ put s ev w had side. any.closed put s (events_of xs ++ ev) w had.0 side;
      small = λ put s ev w had. any.small put s (events_of xs ++ ev) w had.0;
      comes = λ put s ev old side piece fed had is_open. (
        any.comes put s (events_of xs ++ ev) old side piece tt had.0 is_open,
        come_said s ev old side (Piece piece) (other_of Client Server side refl fed) had.1
            is_open,
      );
      ends = λ put s ev old side had is_open. (
        any.ends put s (events_of xs ++ ev) old side had.0 is_open,
        ends_said s ev old side had.1 is_open,
      );
      takes = λ put s ev old event new had is. (
        more_had s ev event new (any.takes put s (events_of xs ++ ev) old event new had.0 is),
        taken_said s ev old event new had.1 is,
      );
      puts = λ put s ev old event payload new before behind said had written. (
        more_had (grow (side_of event) (Piece (packets_for event old.standing payload)) s) ev event
            new (any.puts put s (events_of xs ++ ev) old event payload new before behind refl had.0
            written),
        put_said s ev old event payload new before behind (own_of Client (side_of event) said) had.1 written,
      );
    }

pub clients_go_on : PacketLaws → FramingsAreFound → PutsAreRead → NumbersAreBytes → ClientsGoOn
clients_go_on packets found reads numbers begun streams xs old new calls small spoken did may =
    let s = speaks packets.stay found reads numbers Client Server begun small streams xs old.world spoken in
    let had : HadOrPut begun streams (events_of xs ++ []) old.world =
    subst (λ (l : List Event). HadOrPut begun streams l old.world)
    (sym (append-nil (events_of xs)))
    (had_too Client Server begun s.put streams (events_of xs) old.world s.had) in
    let first : Goes begun xs streams [] old.world = (
      [],
      subst (λ (l : List Spoken). HasSpoken Client Server begun streams l old.world)
          (sym (append-nil xs)) spoken,
      refl,
    ) in
    let all = history (λ call. feeds_other Client call ≡ true) (is_of Client)
    (λ put s ev w. Kept begun xs packets numbers reads small put s ev w)
    (goes_keeps begun xs packets numbers reads small)
    [] streams [] old new calls did (side_may Client calls may) (had, inl first) in
    elim all.1 [
      | inl goes ↦ inl (record { more = goes.0; spoken = goes.1; events = goes.2 })
      | inr gone ↦ inr gone
    ]
