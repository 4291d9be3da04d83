-- What is put by its payload.
use Rattle.std.proofs.Common.{◌≡◌, ◌<◌, ◌≤◌, ℕ, Bool, true, false, List, Option, None, Ok, Err, length, refl, subst}
use Rattle.std.proofs.Common.{sym, ap, ◌∙◌}
use Rattle.std.specs.Prelude.{◌&&◌}
use Rattle.mysql_connection_rules.proofs.Putting.{both}
use Rattle.mysql_connection_rules.specs.AgreementLaws.{PutsAreRead}
use Rattle.mysql_connection_rules.specs.Puts.{has_place, is_due, is_free, is_turn, same_side, step_for}
use Rattle.mysql_connection_state.specs.Laws.{IsInTurn, PayloadsAreInTurn}
use Rattle.mysql_connection_state.specs.Peeks.{said_in}
use Rattle.mysql_connection_rules.specs.Events.{Event, side_of}
use Rattle.mysql_connection_rules.specs.Standing.{Standing}
use Rattle.mysql_connection_rules.specs.Steps.{Step, step, turn}
use Rattle.mysql_connection_rules.specs.Streams.{World, limit_of, stream_of}
use Rattle.mysql_connection_rules.specs.declared.side.Side.{Side}
use Rattle.mysql_connection_rules.specs.declared.side.Side.TheVariants.{Client, Server}
use Rattle.mysql_connection_writer.specs.Writes.{Says}
use Rattle.mysql_connection_machine.specs.Machines.{LendingWorld}
use Rattle.mysql_connection_machine.specs.PuttingPayloads.{AppendsPayload, IsDue, RefusesPayload, awaits_payload}
use Rattle.mysql_connection_machine.specs.Writing.{IsReadFrom, PutsPayload}
use Rattle.mysql_connection_machine.specs.declared.payload_refusal.PayloadRefusal.TheVariants as refusals
use Rattle.mysql_connection_machine.specs.declared.put_refusal.PutRefusal.TheVariants.{Held}
use Rattle.mysql_connection_machine.proofs.PutEvents.{read_written}

-- ---- tests that hold

and_holds : (a b : Bool) → a ≡ true → b ≡ true → (a && b) ≡ true
and_holds true b h k = k
and_holds false b h k = absurd (cc h)

same_is : (side own : Side) → same_side side own ≡ true → side ≡ own
same_is Client Client h = refl
same_is Client Server h = absurd (cc h)
same_is Server Client h = absurd (cc h)
same_is Server Server h = refl

-- ---- an event that is due

-- the side is the event's, where it is its turn
its_side : (w : World) (side : Side) (payload : List ℕ) (event : Event) (after : Standing) →
    awaits_payload w side ≡ true → IsInTurn w payload event after → side ≡ side_of event
its_side w side payload event after awaited its =
    let parts = both (is_turn side (turn w.standing.phase)) (is_free (stream_of side w.unread)) awaited in
    same_is side (side_of event) (subst (λ (x : Option Side). is_turn side x ≡ true) its.its_turn parts.0)

event_due : (w : World) (side : Side) (payload : List ℕ) (event : Event) (after : Standing) →
    awaits_payload w side ≡ true → IsInTurn w payload event after → is_due w event ≡ true
event_due w side payload event after awaited its =
    let parts = both (is_turn side (turn w.standing.phase)) (is_free (stream_of side w.unread)) awaited in
    let free = subst (λ (x : Side). is_free (stream_of x w.unread) ≡ true)
    (its_side w side payload event after awaited its) parts.1 in
    and_holds (is_free (stream_of (side_of event) w.unread)) (has_place w event) free its.place

-- ---- what was looked at

pub led : (x : Step) (event : Event) → said_in x ≡ Ok event → (after : Standing) × (x ≡ Ok (event, after))
led (Ok said) event e =
    let same : said.0 ≡ event = cc e in (said.1, ap (λ (y : Event). Ok (y, said.1)) same)
led (Err fault) event e = absurd (cc e)

-- its event can be put: it is in turn
pub said : PayloadsAreInTurn → (w : World) (payload : List ℕ) (event : Event) →
    said_in (step w.standing payload) ≡ Ok event → Says w.standing event payload
said law w payload event e =
    let led_to = led (step w.standing payload) event e in (led_to.0, (law w payload event led_to.0 led_to.1).put)

-- ---- what is put, and what is held back

-- the step leads to what the put says
leads_there : (w : World) (payload : List ℕ) (event : Event) (after there : Standing) →
    step w.standing payload ≡ Ok (event, after) → IsInTurn w payload event after →
    step_for event w.standing payload ≡ Ok (event, there) → step w.standing payload ≡ Ok (event, there)
leads_there w payload event after there e its put = e ∙ sym its.put ∙ put

appended_so : (old : LendingWorld) (side : Side) (payload : List ℕ) (event : Event) (before : List ℕ)
    (done : Unit {0}) (new : LendingWorld) (behind : List ℕ) (after : Standing) →
    IsDue old.world side payload → step old.world.standing payload ≡ Ok (event, after) →
    IsInTurn old.world payload event after → PutsPayload old event payload before (Ok done) new behind →
    AppendsPayload old.world side payload event new.world before behind × (new.row ≡ None)
appended_so old side payload event before done new behind after due e its puts =
    let same = its_side old.world side payload event after due.awaited its in (
      record {
        its_own = sym same;
        written = record {
          after = puts.0;
          may = record {
            due = event_due old.world side payload event after due.awaited its;
            says = puts.1;
            within = subst (λ (x : Side). length payload ≤ limit_of x old.world.limits) same due.within;
            keeps = puts.2;
          };
          goes = ap (λ (x : LendingWorld). x.world) puts.3;
          appended = puts.4;
        };
        says = leads_there old.world payload event after puts.0 e its puts.1;
      },
      ap (λ (x : LendingWorld). x.row) puts.3,
    )

held_so : (old : LendingWorld) (side : Side) (payload : List ℕ) (event : Event) (before : List ℕ)
    (new : LendingWorld) (behind : List ℕ) (after : Standing) →
    IsDue old.world side payload → step old.world.standing payload ≡ Ok (event, after) →
    IsInTurn old.world payload event after → PutsPayload old event payload before (Err Held) new behind →
    (new ≡ old) × (behind ≡ before) × RefusesPayload old.world side payload refusals.Held
held_so old side payload event before new behind after due e its puts =
    let more = puts.2 in (
      puts.0,
      puts.1,
      (due, event, more.0, leads_there old.world payload event after more.0 e its more.1, more.2),
    )

pub appended : PayloadsAreInTurn →
    (old : LendingWorld) (side : Side) (payload : List ℕ) (event : Event) (before : List ℕ)
    (done : Unit {0}) (new : LendingWorld) (behind : List ℕ) → IsDue old.world side payload →
    said_in (step old.world.standing payload) ≡ Ok event → PutsPayload old event payload before (Ok done) new behind →
    AppendsPayload old.world side payload event new.world before behind × (new.row ≡ None)
appended law old side payload event before done new behind due e puts =
    let led_to = led (step old.world.standing payload) event e in
    appended_so old side payload event before done new behind led_to.0 due led_to.1
    (law old.world payload event led_to.0 led_to.1) puts

pub held_back : PayloadsAreInTurn →
    (old : LendingWorld) (side : Side) (payload : List ℕ) (event : Event) (before : List ℕ)
    (new : LendingWorld) (behind : List ℕ) → IsDue old.world side payload →
    said_in (step old.world.standing payload) ≡ Ok event → PutsPayload old event payload before (Err Held) new behind →
    (new ≡ old) × (behind ≡ before) × RefusesPayload old.world side payload refusals.Held
held_back law old side payload event before new behind due e puts =
    let led_to = led (step old.world.standing payload) event e in
    held_so old side payload event before new behind led_to.0 due led_to.1
    (law old.world payload event led_to.0 led_to.1) puts

-- ---- what was put is read

pub read_payload : PutsAreRead → (old new : World) (side : Side) (payload : List ℕ) (event : Event)
    (before behind : List ℕ) → old.standing.number < 256 →
    AppendsPayload old side payload event new before behind → IsReadFrom old event before behind new
read_payload law old new side payload event before behind byte appends =
    read_written law old new event payload before behind byte appends.written
