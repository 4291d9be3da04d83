-- The server's last words: an error that is read as a refusal in place of a greeting is.
use Rattle.std.proofs.Common.{◌≡◌, ◌==◌, ℕ, Bool, true, false, List, [], ◌∷◌, Result, Ok, Err, refl, ap, subst}
use Rattle.mysql_authentication.specs.Events.Greeting.{Greeted, Rejected}
use Rattle.mysql_authentication.specs.Readings.{early_error_at, greeting_at, or_fault}
use Rattle.mysql_authentication.specs.Written.{greeting_bytes, greeting_cause}
use Rattle.mysql_authentication.specs.declared.fault.LoginFault.TheVariants.{BadError, BadGreeting}
use Rattle.mysql_connection_rules.specs.Puts.{words_at, words_step}
use Rattle.mysql_connection_rules.specs.Events.{Event}
use Rattle.mysql_connection_rules.specs.Events as events
use Rattle.mysql_connection_rules.specs.Standing.{Standing}
use Rattle.mysql_connection_rules.specs.Steps.{over}
use Rattle.mysql_connection_rules.specs.declared.reason.Reason.TheVariants as reasons
use Rattle.mysql_connection_writer.proofs.Lifting.{lifted, ok_same}
use Rattle.mysql_connection_writer.specs.Payloads.{Payload, login_cause, unless_cause}
use Rattle.mysql_connection_writer.specs.Writes.{Says, Writes, WritesEvent}
use Rattle.mysql_connection_writer.specs.declared.refusal.EventRefusal.{EventRefusal}
use Rattle.mysql_fields.specs.Wire.{Reading}
use Rattle.mysql_handshake.specs.Handshakes.{HandshakeFields, handshake_at}
use Rattle.mysql_server_packets.specs.Packets.{ServerError}

same_error : (a b : ServerError) → Rejected a ≡ Rejected b → a ≡ b
same_error a b e = cc

same_words : (a b : ServerError) → events.Farewell a ≡ events.Farewell b → a ≡ b
same_words a b e = cc

-- an error that was read is told either way
told_words : (s : Standing) (error : ServerError) (read : Reading ServerError) →
    or_fault BadError Rejected read ≡ Ok (Rejected error) →
    words_at s read ≡ Ok (events.Farewell error, over reasons.Farewell s)
told_words s error (Ok x) h = ap (λ (e : ServerError). Ok (events.Farewell e, over reasons.Farewell s))
    (same_error x.0 error (ok_same (Rejected x.0) (Rejected error) h))
told_words s error (Err e) h = absurd cc

told_refusal : (s after : Standing) (error : ServerError) (read : Reading ServerError) →
    words_at s read ≡ Ok (events.Farewell error, after) →
    or_fault BadError Rejected read ≡ Ok (Rejected error)
told_refusal s after error (Ok x) h =
    let pairs : (events.Farewell x.0, over reasons.Farewell s) ≡ (events.Farewell error, after) =
    ok_same (events.Farewell x.0, over reasons.Farewell s) (events.Farewell error, after) h in
    ap (λ (e : ServerError). Ok (Rejected e))
    (same_words x.0 error (ap (λ (q : Event × Standing). q.0) pairs))
told_refusal s after error (Err e) h = absurd cc

no_greeted : (read : Reading HandshakeFields) (error : ServerError) →
    or_fault BadGreeting Greeted read ≡ Ok (Rejected error) → ⊥
no_greeted (Ok x) error h = cc
no_greeted (Err e) error h = cc

-- by whether the first byte is ff, and whether it is 10
words_by : (s : Standing) (error : ServerError) (b : ℕ) (bytes : List ℕ) (is ten : Bool) →
    (b == 255) ≡ is → (b == 10) ≡ ten →
    greeting_at (b ∷ bytes) ≡ Ok (Rejected error) →
    words_step s (b ∷ bytes) ≡ Ok (events.Farewell error, over reasons.Farewell s)
unfolding greeting_at
words_by s error b bytes true ten is t h =
    rw is (told_words s error (early_error_at (b ∷ bytes)) (rw is at h))
words_by s error b bytes false true is t h =
    absurd (no_greeted (handshake_at (b ∷ bytes)) error (rw (is, t) at h))
words_by s error b bytes false false is t h = absurd (cc (rw (is, t) at h))

words_to : (s : Standing) (error : ServerError) (p : Payload) → greeting_at p ≡ Ok (Rejected error) →
    Says s (events.Farewell error) p
unfolding greeting_at
words_to s error [] h = absurd cc
words_to s error (b ∷ bytes) h = (over reasons.Farewell s, words_by s error b bytes (b == 255) (b == 10) refl refl h)

greeting_by : (s after : Standing) (error : ServerError) (b : ℕ) (bytes : List ℕ) (is : Bool) →
    (b == 255) ≡ is → words_step s (b ∷ bytes) ≡ Ok (events.Farewell error, after) →
    greeting_at (b ∷ bytes) ≡ Ok (Rejected error)
unfolding greeting_at
greeting_by s after error b bytes true is h =
    rw is (told_refusal s after error (early_error_at (b ∷ bytes)) (rw is at h))
greeting_by s after error b bytes false is h = absurd (cc (rw is at h))

words_from : (s : Standing) (error : ServerError) (p : Payload) → Says s (events.Farewell error) p →
    greeting_at p ≡ Ok (Rejected error)
words_from s error [] h = absurd (cc h.1)
words_from s error (b ∷ bytes) h = greeting_by s h.0 error b bytes (b == 255) refl h.1

written_words : (s : Standing) (error : ServerError) (old new : List ℕ)
    (result : Result (Unit {0}) EventRefusal) →
    Writes (λ p. greeting_at p ≡ Ok (Rejected error))
    (unless_cause (greeting_cause (Rejected error)) (greeting_bytes (Rejected error)))
    (login_cause (greeting_cause (Rejected error))) old new result →
    WritesEvent s (events.Farewell error) old new result
written_words s error old new result w =
    lifted (λ p. greeting_at p ≡ Ok (Rejected error)) (Says s (events.Farewell error))
    (unless_cause (greeting_cause (Rejected error)) (greeting_bytes (Rejected error)))
    (login_cause (greeting_cause (Rejected error))) old new result
    (λ p is r. words_to s error p r) (λ p is r. words_from s error p r) w

-- a copy of the error was put
pub words_written : (s : Standing) (copy error : ServerError) (old new : List ℕ)
    (result : Result (Unit {0}) EventRefusal) → copy ≡ error →
    Writes (λ p. greeting_at p ≡ Ok (Rejected copy))
    (unless_cause (greeting_cause (Rejected copy)) (greeting_bytes (Rejected copy)))
    (login_cause (greeting_cause (Rejected copy))) old new result →
    WritesEvent s (events.Farewell error) old new result
words_written s copy error old new result same w =
    subst (λ (e : ServerError). WritesEvent s (events.Farewell e) old new result) same
    (written_words s copy old new result w)
