-- The texts of the statements that stand are those that the events of a run show.
use Rattle.std.proofs.Common.{◌≡◌, inl, inr, List, [], ◌∷◌, refl, sym, subst}
use Rattle.mysql_connection_contents.proofs.Ids.{no_ids, step_ids}
use Rattle.mysql_connection_contents.proofs.Knowing.{Knows}
use Rattle.mysql_connection_contents.proofs.Runs.{IsFarewell, Payload, SaidAt, turn_says}
use Rattle.mysql_connection_contents.proofs.Telling.{step_knows}
use Rattle.mysql_connection_contents.specs.Shown.{IsBeginning, Known, TextsAreShown, at_greeting, behind, behind_login}
use Rattle.mysql_connection_contents.specs.Shown.{known_from, nothing_known}
use Rattle.mysql_connection_rules.specs.Events.{Event}
use Rattle.mysql_connection_rules.specs.Runs.{Runs}
use Rattle.mysql_connection_rules.specs.Standing.{Standing}
use Rattle.mysql_connection_rules.specs.Steps.{turn}
use Rattle.mysql_connection_rules.specs.Streams.{Beginning, World, start}
use Rattle.mysql_connection_rules.specs.declared.side.Side.{Side}
use Rattle.mysql_connection_statements.specs.Statements.{IsOrdered}

-- what is known fits a world, and the ids of its statements ascend
pub record Fits (w : World) (k : Known) : Type 0 where
  pub knows : Knows w.standing k
  pub own : IsOrdered w.standing.statements

pub payload_fits : (w : World) (side : Side) (event : Event) (new : World) (k : Known) → Fits w k →
    Payload w side event new → Fits new (behind event k)
payload_fits w side event new k fits p =
    let its = step_knows w.standing p.mid p.payload event k fits.own p.read fits.knows in
    subst (λ (v : World). Fits v (behind event k)) p.leads (record {
      knows = record { texts = its.texts; asked = its.asked };
      own = step_ids w.standing p.payload event p.mid fits.own p.read;
    })

words_fit : (w : World) (event : Event) (new : World) (k : Known) → Fits w k →
    IsFarewell w event new → Fits new (behind event k)
words_fit w event new k fits words =
    subst (λ (x : Event). Fits new (behind x k)) (sym words.1)
    (subst (λ (v : World). Fits v k) words.4
    (record { knows = record { texts = fits.knows.texts; asked = tt }; own = fits.own }))

said_fits : (w : World) (side : Side) (event : Event) (new : World) (k : Known) → Fits w k →
    SaidAt w side event new → Fits new (behind event k)
said_fits w side event new k fits (inl payload) = payload_fits w side event new k fits payload
said_fits w side event new k fits (inr words) = words_fit w event new k fits words

pub run_fits : (events : List Event) (w last : World) (k : Known) → Fits w k → Runs w events last →
    Fits last (known_from k events)
run_fits [] w last k fits runs = subst (λ (v : World). Fits v k) runs fits
run_fits (event ∷ events) w last k fits runs =
    let turned = turn_says w (turn w.standing.phase) event runs.0 runs.1 in
    run_fits events runs.0 last (behind event k) (said_fits w turned.0 event runs.0 k fits turned.2) runs.2

pub first_fits : (begun : Beginning) (w : World) → IsBeginning begun → w.standing ≡ begun.first → Fits w nothing_known
first_fits begun w (at_greeting limits) same =
    subst (λ (s : Standing). Fits (record { limits = w.limits; standing = s; unread = w.unread })
    nothing_known) (sym same)
    (record { knows = record { texts = (λ id. refl, refl); asked = tt }; own = no_ids })
first_fits begun w (behind_login limits capabilities) same =
    subst (λ (s : Standing). Fits (record { limits = w.limits; standing = s; unread = w.unread })
    nothing_known) (sym same)
    (record { knows = record { texts = (λ id. refl, refl); asked = tt }; own = no_ids })

pub texts_are_shown : TextsAreShown
texts_are_shown begun streams events held begins runs id =
    (run_fits events (start begun streams) held nothing_known
    (first_fits begun (start begun streams) begins refl) runs).knows.texts.0 id
