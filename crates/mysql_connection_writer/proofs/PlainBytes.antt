-- Bytes as they stand: answers, and the client's file.
use Rattle.std.proofs.Common.{◌≡◌, ◌==◌, ℕ, Bool, true, false, List, length, Some, None, Result, Ok, Err, refl, sym, ap}
use Rattle.std.proofs.Common.{◌∙◌, subst}
use Rattle.mysql_reply_events.specs.Events.{Awaited, ReplySoFar}
use Rattle.mysql_reply_events.specs.Events.Awaited.{FileData, First}
use Rattle.mysql_reply_events.specs.Table.{event_at, file_data_at}
use Rattle.mysql_connection_rules.specs.declared.side.Side.{Side}
use Rattle.mysql_connection_rules.specs.declared.side.Side.TheVariants.{Client, Server}
use Rattle.mysql_connection_rules.specs.Events as events
use Rattle.mysql_connection_rules.specs.Standing.{InReply, Phase, Standing}
use Rattle.mysql_connection_rules.specs.Standing as phases
use Rattle.mysql_connection_rules.specs.Steps.{after_event, by_turn, context_of, file_step, in_phase, of_reply}
use Rattle.mysql_connection_rules.specs.Steps.{reply_step}
use Rattle.mysql_connection_rules.specs.Steps.{turn_in_reply}
use Rattle.mysql_connection_statements.specs.Statements.{counted}
use Rattle.mysql_connection_writer.proofs.Lifting.{lifted, said_of, some_same, unwritten}
use Rattle.mysql_connection_writer.specs.Payloads.{Payload}
use Rattle.mysql_connection_writer.specs.Phases.{awaits_answer, awaits_file, is_file}
use Rattle.mysql_connection_writer.specs.Writes.{Writes, WritesEvent}
use Rattle.mysql_connection_writer.specs.declared.refusal.EventRefusal.{EventRefusal}
use Rattle.mysql_connection_writer.specs.declared.refusal.BadEvent.TheVariants.{ReadsOtherwise}
use Rattle.mysql_connection_writer.specs.declared.refusal.EventRefusal.TheVariants as refusals
use Rattle.mysql_connection_writer.proofs.InLogin.{SaysIn, WritesIn, by_the_table}

-- ANSWERS

-- bytes that were appended say an event that they are
said_bytes : (R : Payload → Type 0) (bytes old new : List ℕ) (result : Result (Unit {0}) EventRefusal) → R bytes →
    Writes (λ p. p ≡ bytes) (Some bytes) ReadsOtherwise old new result →
    Writes R (Some bytes) ReadsOtherwise old new result
said_bytes R bytes old new result says w =
    lifted (λ p. p ≡ bytes) R (Some bytes) ReadsOtherwise old new result
    (λ p is same. subst R (some_same bytes p is) says) (λ p is r. sym (some_same bytes p is)) w

answer_in : (phase : Phase) (s : Standing) (bytes old new : List ℕ) (result : Result (Unit {0}) EventRefusal) →
    awaits_answer phase ≡ true → Writes (λ p. p ≡ bytes) (Some bytes) ReadsOtherwise old new result →
    WritesIn phase s (events.Answer bytes) old new result
answer_in (phases.Answer exchange) s bytes old new result h w =
    said_bytes (SaysIn (phases.Answer exchange) s (events.Answer bytes)) bytes old new result
    (in_phase (phases.Authentication exchange) s, refl) w
answer_in phase s bytes old new result h w = absurd cc

pub answer_written : (s : Standing) (bytes old new : List ℕ) (result : Result (Unit {0}) EventRefusal) →
    awaits_answer s.phase ≡ true → Writes (λ p. p ≡ bytes) (Some bytes) ReadsOtherwise old new result →
    WritesEvent s (events.Answer bytes) old new result
answer_written s bytes old new result h w =
    by_the_table s (events.Answer bytes) old new result
    (answer_in s.phase s bytes old new result h w)

no_answer_in : (phase : Phase) (s : Standing) (bytes old : List ℕ) → awaits_answer phase ≡ false →
    WritesIn phase s (events.Answer bytes) old old (Err (refusals.BadEvent ReadsOtherwise))
no_answer_in (phases.Answer exchange) s bytes old h = absurd cc
no_answer_in phase s bytes old h = unwritten (SaysIn phase s (events.Answer bytes)) None ReadsOtherwise old refl refl

pub no_answer : (s : Standing) (bytes old : List ℕ) → awaits_answer s.phase ≡ false →
    WritesEvent s (events.Answer bytes) old old (Err (refusals.BadEvent ReadsOtherwise))
no_answer s bytes old h =
    by_the_table s (events.Answer bytes) old old (Err (refusals.BadEvent ReadsOtherwise))
    (no_answer_in s.phase s bytes old h)

-- THE CLIENT'S FILE

client_turn : (awaited : Awaited) → is_file awaited ≡ true → turn_in_reply awaited ≡ Client
client_turn FileData h = refl
client_turn awaited h = absurd cc

server_turn : (awaited : Awaited) → is_file awaited ≡ false → turn_in_reply awaited ≡ Server
server_turn FileData h = absurd cc
server_turn awaited h = refl

pub by_client : (r : InReply) (s : Standing) (p : Payload) → is_file r.so_far.awaited ≡ true →
    by_turn (turn_in_reply r.so_far.awaited) r s p ≡ file_step r s p
by_client r s p h = ap (λ (side : Side). by_turn side r s p) (client_turn r.so_far.awaited h)

pub by_server : (r : InReply) (s : Standing) (p : Payload) → is_file r.so_far.awaited ≡ false →
    by_turn (turn_in_reply r.so_far.awaited) r s p ≡ reply_step r s p
by_server r s p h = ap (λ (side : Side). by_turn side r s p) (server_turn r.so_far.awaited h)

taken_by : (so_far : ReplySoFar) (p : Payload) (ends : Bool) → (length p == 0) ≡ ends →
    (next : ReplySoFar) × (file_data_at so_far FileData p ≡ Ok next)
taken_by so_far p true is = (record so_far { awaited = First }, rw is refl)
taken_by so_far p false is = (so_far, rw is refl)

file_taken : (so_far : ReplySoFar) (awaited : Awaited) (p : Payload) → is_file awaited ≡ true →
    (next : ReplySoFar) × (file_data_at so_far awaited p ≡ Ok next)
file_taken so_far FileData p h = taken_by so_far p (length p == 0) refl
file_taken so_far awaited p h = absurd cc

file_by : (r : InReply) (s : Standing) (p : Payload) → is_file r.so_far.awaited ≡ true →
    SaysIn (phases.Reply r) s (events.FileData p) p
file_by r s p h =
    let next = file_taken r.so_far r.so_far.awaited p h in
    let step : file_step r s p ≡
    Ok (events.FileData p, in_phase (phases.Reply (record r { so_far = next.0 })) s) = rw next.1 refl in
    (in_phase (phases.Reply (record r { so_far = next.0 })) s, by_client r s p h ∙ step)

file_in : (phase : Phase) (s : Standing) (bytes old new : List ℕ) (result : Result (Unit {0}) EventRefusal) →
    awaits_file phase ≡ true → Writes (λ p. p ≡ bytes) (Some bytes) ReadsOtherwise old new result →
    WritesIn phase s (events.FileData bytes) old new result
file_in (phases.Reply r) s bytes old new result h w =
    said_bytes (SaysIn (phases.Reply r) s (events.FileData bytes)) bytes old new result (file_by r s bytes h) w
file_in phase s bytes old new result h w = absurd cc

pub file_written : (s : Standing) (bytes old new : List ℕ) (result : Result (Unit {0}) EventRefusal) →
    awaits_file s.phase ≡ true → Writes (λ p. p ≡ bytes) (Some bytes) ReadsOtherwise old new result →
    WritesEvent s (events.FileData bytes) old new result
file_written s bytes old new result h w =
    by_the_table s (events.FileData bytes) old new result
    (file_in s.phase s bytes old new result h w)

-- a server's payload says none
no_file : (r : InReply) (s after : Standing) (p bytes : Payload) →
    by_turn (turn_in_reply r.so_far.awaited) r s p ≡ Ok (events.FileData bytes, after) →
    is_file r.so_far.awaited ≡ false → ⊥
no_file r s after p bytes e h =
    let told : reply_step r s p ≡ Ok (events.FileData bytes, after) = sym (by_server r s p h) ∙ e in
    let x = said_of (λ x. events.Replied x.0) (λ x. after_event r (counted p) x.0 x.1 s)
    (of_reply (event_at (context_of s r) r.so_far p)) (events.FileData bytes) after told in
    let differs : events.Replied x.0.0 ≡ events.FileData bytes = x.2 in cc

no_file_in : (phase : Phase) (s : Standing) (bytes old : List ℕ) → awaits_file phase ≡ false →
    WritesIn phase s (events.FileData bytes) old old (Err (refusals.BadEvent ReadsOtherwise))
no_file_in (phases.Reply r) s bytes old h = (refl, λ p is says. no_file r s says.0 p bytes says.1 h, refl)
no_file_in phase s bytes old h = unwritten (SaysIn phase s (events.FileData bytes)) None ReadsOtherwise old refl refl

pub no_file_data : (s : Standing) (bytes old : List ℕ) → awaits_file s.phase ≡ false →
    WritesEvent s (events.FileData bytes) old old (Err (refusals.BadEvent ReadsOtherwise))
no_file_data s bytes old h =
    by_the_table s (events.FileData bytes) old old (Err (refusals.BadEvent ReadsOtherwise))
    (no_file_in s.phase s bytes old h)
