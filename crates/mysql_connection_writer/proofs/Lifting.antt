-- What was put, by what it reads as.
use Rattle.std.proofs.Common.{◌≡◌, ℕ, List, Option, Some, None, Result, Ok, Err, refl, sym, ap}
use Rattle.mysql_connection_rules.specs.Events.{Event}
use Rattle.mysql_connection_rules.specs.Standing.{Standing}
use Rattle.mysql_connection_rules.specs.Steps.{of_login, says}
use Rattle.mysql_connection_rules.specs.declared.fault.Fault.{Fault}
use Rattle.mysql_authentication.specs.declared.fault.LoginFault.{LoginFault}
use Rattle.mysql_connection_writer.specs.Payloads.{Payload}
use Rattle.mysql_connection_writer.specs.Writes.{Writes}
use Rattle.mysql_connection_writer.specs.declared.refusal.BadEvent.{BadEvent}
use Rattle.mysql_connection_writer.specs.declared.refusal.BadEvent.TheVariants.{ReadsOtherwise}
use Rattle.mysql_connection_writer.specs.declared.refusal.EventRefusal.{EventRefusal}
use Rattle.mysql_connection_writer.specs.declared.refusal.EventRefusal.TheVariants as refusals

-- what was put by one reading was put by another that holds of the same payloads
pub lifted : (Q R : Payload → Type 0) (found : Option Payload) (cause : BadEvent)
    (old new : List ℕ) (result : Result (Unit {0}) EventRefusal) →
    ((p : Payload) → found ≡ Some p → Q p → R p) → ((p : Payload) → found ≡ Some p → R p → Q p) →
    Writes Q found cause old new result → Writes R found cause old new result
lifted Q R found cause old new (Ok done) to from h = record {
  payload = h.payload;
  is_payload = h.is_payload;
  appended = h.appended;
  reads = to h.payload h.is_payload h.reads;
}
lifted Q R found cause old new (Err (refusals.BadEvent told)) to from h =
    (h.0, λ p is r. h.1 p is (from p is r), h.2)
lifted Q R found cause old new (Err refusals.Memory) to from h = h

no_payload : {X : Type 0} (p : X) → None ≡ Some p → ⊥
no_payload p e = cc

-- where there is no payload none is put
pub unwritten : (R : Payload → Type 0) (found : Option Payload) (cause : BadEvent) (old : List ℕ) →
    found ≡ None → cause ≡ ReadsOtherwise →
    Writes R found cause old old (Err (refusals.BadEvent ReadsOtherwise))
unwritten R found cause old none other =
    (refl, λ p is r. no_payload p (rw none at is), sym other)

pub some_same : {X : Type 0} (x y : X) → Some x ≡ Some y → x ≡ y
some_same x y e = cc

abbrev okay : {X E : Type 0} → X → Result X E
okay x = Ok x

pub ok_same : {X E : Type 0} (x y : X) → okay {E = E} x ≡ okay y → x ≡ y
ok_same x y e = cc

-- what a step says comes of what was read
pub said_of : {X : Type 0} (event : X → Event) (after : X → Standing) (r : Result X Fault)
    (told : Event) (s : Standing) → says event after r ≡ Ok (told, s) →
    (x : X) × (r ≡ Ok x) × (event x ≡ told)
said_of event after (Ok x) told s e = (
  x,
  refl,
  ap (λ (q : Event × Standing). q.0)
      (ok_same (event x, after x) (told, s) e),
)
said_of event after (Err fault) told s e = absurd cc

-- and what it leads to comes of that too
pub led_to : {X : Type 0} (event : X → Event) (after : X → Standing) (r : Result X Fault)
    (told : Event) (s : Standing) → says event after r ≡ Ok (told, s) →
    (x : X) × (r ≡ Ok x) × (event x ≡ told) × (after x ≡ s)
led_to event after (Ok x) told s e = (
  x,
  refl,
  ap (λ (q : Event × Standing). q.0) (ok_same (event x, after x) (told, s) e),
  ap (λ (q : Event × Standing). q.1) (ok_same (event x, after x) (told, s) e),
)
led_to event after (Err fault) told s e = absurd cc

pub of_login_ok : {X : Type 0} (r : Result X LoginFault) (x : X) → of_login r ≡ Ok x → r ≡ Ok x
of_login_ok (Ok y) x e = ap (λ y. Ok y) (ok_same y x e)
of_login_ok (Err fault) x e = absurd cc
