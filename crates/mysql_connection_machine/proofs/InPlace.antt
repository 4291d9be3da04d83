-- Payloads that are written and framed where they stand in a buffer.
use Rattle.std.proofs.Common.{◌≡◌, ◌<◌, ◌≤◌, ◌+◌, ◌-◌, ◌/◌, ℕ, true, List, [], ◌∷◌, ◌++◌, length, take, drop, Some}
use Rattle.std.proofs.Common.{Result, Ok, Err}
use Rattle.std.proofs.Common.{refl, sym, ap, ◌∙◌, subst, arith, length-append, length-take-le}
use Rattle.std.proofs.lemmas.Grind.{common_steps}
use Rattle.std.proofs.lemmas.List.{append-nil, drop-drop, drop_at, take_all}
use Rattle.mysql_connection_rules.specs.Puts.{is_due, number_for, packets_for, put_on, step_for}
use Rattle.mysql_connection_rules.specs.Events.{Event, side_of}
use Rattle.mysql_connection_rules.specs.Standing.{Standing}
use Rattle.mysql_connection_rules.specs.Streams.{World, limit_of}
use Rattle.mysql_connection_writer.specs.Payloads.{payload_of}
use Rattle.mysql_connection_writer.specs.Writes.{WritesEvent}
use Rattle.mysql_connection_writer.specs.declared.refusal.EventRefusal.{EventRefusal}
use Rattle.mysql_connection_writer.specs.declared.refusal.EventRefusal.TheVariants as writing
use Rattle.mysql_wire.specs.Framing.{chunk, chunks, framing, max_payload_len, number_after, slice}
use Rattle.mysql_connection_machine.proofs.PutEvents.{unread_unsaid}
use Rattle.mysql_connection_machine.specs.Machines.{LendingWorld, lending_none}
use Rattle.mysql_connection_machine.specs.Writing.{GoesOnBehind, IsNotHeld, PutsBehind, PutsDue, WritesBehindRoom}
use Rattle.mysql_connection_machine.specs.Writing.{passed_by, refused_as}
use Rattle.mysql_connection_machine.specs.declared.put_refusal.PutRefusal.{PutRefusal}
use Rattle.mysql_connection_machine.specs.declared.put_refusal.PutRefusal.TheVariants.{BadEvent, Held, Memory, NotDue}
use Rattle.mysql_connection_machine.specs.declared.put_refusal.PutRefusal.TheVariants.{TooLarge}

-- BEHIND ROOM FOR A HEADER

abbrev pub behind_room : List ℕ → List ℕ → List ℕ
behind_room before payload = before ++ (0 ∷ 0 ∷ 0 ∷ 0 ∷ payload)

front_stays : (before rest : List ℕ) → take (length before) (before ++ rest) ≡ before
front_stays before rest = grind (arith, common_steps)

pub front_of : (before rest all : List ℕ) (n : ℕ) → all ≡ before ++ rest → n ≡ length before → take n all ≡ before
front_of before rest all n is at = rw (is, at) (front_stays before rest)

four_dropped : (before payload : List ℕ) → drop (length before + 4) (behind_room before payload) ≡ payload
four_dropped before payload =
    sym (drop-drop 4 (length before) (behind_room before payload))
    ∙ ap (drop 4) (drop_at before (0 ∷ 0 ∷ 0 ∷ 0 ∷ payload) (length before) refl)

pub payload_behind : (before payload held : List ℕ) (start : ℕ) → held ≡
    behind_room before payload → start ≡ length before →
    drop (start + 4) held ≡ payload
payload_behind before payload held start is at = rw (is, at) (four_dropped before payload)

pub room_length : (before payload held : List ℕ) (start : ℕ) → held ≡ behind_room before payload →
    start ≡ length before →
    length held ≡ start + 4 + length payload
room_length before payload held start is at = rw is (omega (arith, at, length-append before (0 ∷ 0 ∷ 0 ∷ 0 ∷ payload)))

pub room_refused : (w : World) (event : Event) (before room behind : List ℕ)
    (refusal : EventRefusal) → is_due w event ≡ true →
    room ≡ before ++ (0 ∷ 0 ∷ 0 ∷ 0 ∷ []) → WritesEvent w.standing event room behind (Err refusal) →
    WritesBehindRoom w event before (Err (refused_as refusal)) behind
room_refused w event before room behind (writing.BadEvent cause) due made written = (
  ((due, unread_unsaid w event (payload_of w.standing event) written.1), written.2),
  front_of before (0 ∷ 0 ∷ 0 ∷ 0 ∷ []) behind (length before) (written.0 ∙ made) refl,
)
room_refused w event before room behind writing.Memory due made written =
    (tt, front_of before (0 ∷ 0 ∷ 0 ∷ 0 ∷ []) behind (length before) (written ∙ made) refl)

-- ONE CHUNK

chunks_one : (payload : List ℕ) (id : ℕ) → length payload < max_payload_len → chunks payload id 1 ≡ chunk id payload
unfolding chunks
chunks_one payload id short =
    let number : id + 0 ≡ id = omega arith in
    append-nil (chunk (id + 0) (slice payload 0))
    ∙ ap (λ (n : ℕ). chunk n (slice payload 0)) number
    ∙ ap (chunk id) (take_all 16777215 payload (omega (arith, short)))

-- a payload that one chunk holds
framing_short : (payload : List ℕ) (id : ℕ) → length payload < max_payload_len → framing payload id ≡ chunk id payload
unfolding framing
framing_short payload id short =
    let one : length payload / 16777215 + 1 ≡ 1 = omega (arith, short) in
    ap (chunks payload id) one ∙ chunks_one payload id short

pub framed_dropped : (before payload framed : List ℕ) (start id : ℕ) →
    length payload < max_payload_len → start ≡ length before →
    framed ≡ before ++ framing payload id → drop (start + 4) framed ≡ payload
framed_dropped before payload framed start id short at is =
    let four : framed ≡ before ++ chunk id payload = is ∙
    ap (λ (f : List ℕ). before ++ f) (framing_short payload id short) in
    rw (four, at) (sym (drop-drop 4 (length before) (before ++ chunk id payload))
    ∙ ap (drop 4) (drop_at before (chunk id payload) (length before) refl))

pub framed_length : (before payload framed : List ℕ) (start id : ℕ) →
    length payload < max_payload_len → start ≡ length before →
    framed ≡ before ++ framing payload id → length framed ≡ start + 4 + length payload
framed_length before payload framed start id short at is =
    let four : framed ≡ before ++ chunk id payload = is ∙
    ap (λ (f : List ℕ). before ++ f) (framing_short payload id short) in
    rw four (omega (arith, at, length-append before (chunk id payload)))

-- THE CONNECTION GOES ON

-- behind packets that were appended
pub gone : (w : World) (event : Event) (p before framed : List ℕ) (next count : ℕ) (after : Standing) →
    framed ≡ before ++ packets_for event w.standing p → next ≡ number_after p (number_for event w.standing) →
    count ≡ length framed - length before → passed_by w (side_of event) next count after ≡ put_on w event p after
gone w event p before framed next count after is number size =
    let few : count ≡ length (packets_for event w.standing p) =
    size ∙ ap (λ (f : List ℕ). length f - length before) is
    ∙ omega (arith, length-append before (packets_for event w.standing p)) in
    ap (λ (n : ℕ). passed_by w (side_of event) n count after) number
    ∙ ap (λ (n : ℕ). passed_by w (side_of event) (number_after p (number_for event w.standing)) n after) few

pub puts_behind : (old new : LendingWorld) (event : Event) (held framed : List ℕ) (start next count : ℕ)
    (result : Result (Unit {0}) PutRefusal) → start ≤ length held →
    framed ≡ take start held ++ packets_for event old.world.standing (drop (start + 4) held) →
    next ≡ number_after (drop (start + 4) held) (number_for event old.world.standing) →
    count ≡ length framed - start →
    GoesOnBehind old event (drop (start + 4) held) next count result new →
    PutsBehind old event start held result new framed
puts_behind old new event held framed start next count (Ok done) inside is number size goes =
    let many : count ≡ length framed - length (take start held) = size ∙
    omega (arith, length-take-le start held inside) in (
      goes.0,
      goes.1,
      goes.2,
      goes.3 ∙ ap lending_none (gone old.world event (drop (start + 4) held) (take start held)
          framed next count goes.0 is number many),
      is,
    )
puts_behind old new event held framed start next count (Err Held) inside is number size goes =
    (goes.0, front_of (take start held) _ framed start is (sym (length-take-le start held inside)), goes.1)
puts_behind old new event held framed start next count (Err Memory) inside is number size goes =
    (goes, front_of (take start held) _ framed start is (sym (length-take-le start held inside)))
puts_behind old new event held framed start next count (Err NotDue) inside is number size goes = absurd goes
puts_behind old new event held framed start next count (Err (BadEvent cause)) inside is number size goes = absurd goes
puts_behind old new event held framed start next count (Err TooLarge) inside is number size goes = absurd goes

-- AN EVENT THAT IS DUE

-- what was put of the payload that stands behind room is what was put of the event
due_by : (old new : LendingWorld) (event : Event) (before payload behind : List ℕ)
    (result : Result (Unit {0}) PutRefusal) →
    (start : ℕ) → start ≡ length before → is_due old.world event ≡ true →
    payload_of old.world.standing event ≡ Some payload →
    length payload ≤ limit_of (side_of event) old.world.limits →
    PutsBehind old event start (behind_room before payload) result new behind →
    (take start (behind_room before payload) ≡ before) × (drop (start + 4) (behind_room before payload) ≡ payload) →
    PutsDue old event before result new behind
due_by old new event before payload behind (Ok done) start at due there within puts parts =
    let says : step_for event old.world.standing payload ≡ Ok (event, puts.0) =
    subst (λ (p : List ℕ). step_for event old.world.standing p ≡ Ok (event, puts.0)) parts.1 puts.1 in
    let goes : new ≡ lending_none (put_on old.world event payload puts.0) =
    subst (λ (p : List ℕ). new ≡ lending_none (put_on old.world event p puts.0)) parts.1 puts.3 in
    let appended : behind ≡ before ++ packets_for event old.world.standing payload =
    puts.4 ∙ ap (λ (f : List ℕ). f ++
    packets_for event old.world.standing (drop (start + 4) (behind_room before payload)))
    parts.0
    ∙ ap (λ (p : List ℕ). before ++ packets_for event old.world.standing p) parts.1 in (
      (
        payload,
        there,
        record {
          after = puts.0;
          may = record { due = due; says = says; within = within; keeps = puts.2 };
          goes = ap (λ (l : LendingWorld). l.world) goes;
          appended = appended;
        },
      ),
      ap (λ (l : LendingWorld). l.row) goes,
    )
due_by old new event before payload behind (Err Held) start at due there within puts parts =
    let over : IsNotHeld old.world event payload =
    subst (λ (p : List ℕ). IsNotHeld old.world event p) parts.1 puts.2 in (
      puts.0,
      ap (λ (n : ℕ). take n behind) (sym at) ∙ puts.1 ∙ parts.0,
      (payload, over.0, record { due = due; is_written = there; says = over.1 }, within, over.2),
    )
due_by old new event before payload behind (Err Memory) start at due there within puts parts =
    (puts.0, ap (λ (n : ℕ). take n behind) (sym at) ∙ puts.1 ∙ parts.0, tt)
due_by old new event before payload behind (Err NotDue) start at due there within puts parts = absurd puts
due_by old new event before payload behind (Err (BadEvent cause)) start at due there within puts parts = absurd puts
due_by old new event before payload behind (Err TooLarge) start at due there within puts parts = absurd puts

pub puts_due : (old new : LendingWorld) (event : Event) (before payload held behind : List ℕ) (start : ℕ)
    (result : Result (Unit {0}) PutRefusal) → held ≡ behind_room before payload → start ≡ length before →
    is_due old.world event ≡ true → payload_of old.world.standing event ≡ Some payload →
    length payload ≤ limit_of (side_of event) old.world.limits →
    PutsBehind old event start held result new behind → PutsDue old event before result new behind
puts_due old new event before payload held behind start result is at due there within puts =
    due_by old new event before payload behind result start at due there within
    (subst (λ (h : List ℕ). PutsBehind old event start h result new behind) is puts) (
      front_of before (0 ∷ 0 ∷ 0 ∷ 0 ∷ payload) (behind_room before payload) start refl at,
      payload_behind before payload (behind_room before payload) start refl at,
    )
