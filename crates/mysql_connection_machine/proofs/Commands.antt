-- Commands that are put by their payloads.
use Rattle.std.proofs.Common.{◌≡◌, ◌≤◌, ◌+◌, ◌-◌, ℕ, List, ◌++◌, Option, Some, None, Result, Ok, Err, true, length}
use Rattle.std.proofs.Common.{take, drop, refl, sym, ap, subst, ◌∙◌, arith}
use Rattle.std.proofs.lemmas.List.{drop-drop, drop-take, drop_at}
use Rattle.std.specs.Prelude.{slice_index_or}
use Rattle.mysql_connection_rules.specs.Puts.{is_free, number_for, packets_for}
use Rattle.mysql_wire.specs.FirstPacket.{first_packet, next_number}
use Rattle.mysql_wire.specs.OneChunk.{IsOneChunk}
use Rattle.mysql_connection_state.specs.Laws.{PayloadsAreInTurn}
use Rattle.mysql_connection_state.specs.Peeks.{said_in}
use Rattle.mysql_connection_rules.specs.Events.{Event}
use Rattle.mysql_connection_rules.specs.Standing.{Phase, Standing}
use Rattle.mysql_connection_rules.specs.Standing as phases
use Rattle.mysql_connection_rules.specs.StepLaws.{step_says}
use Rattle.mysql_connection_modes.specs.Modes.{BehindCommand, is_plain}
use Rattle.mysql_connection_rules.specs.Steps.{after_command, in_turn, step}
use Rattle.mysql_connection_rules.specs.Streams.{World, limit_of}
use Rattle.mysql_connection_rules.specs.declared.side.Side.{Side}
use Rattle.mysql_connection_rules.specs.declared.side.Side.TheVariants.{Client}
use Rattle.mysql_connection_state.specs.Follows.{after_said, command_said}
use Rattle.mysql_session_modes.specs.declared.session_mode.SessionMode.{SessionMode}
use Rattle.mysql_wire.specs.Framing.{framing, number_after}
use Rattle.mysql_connection_machine.proofs.InPlace.{front_of, gone}
use Rattle.mysql_connection_machine.proofs.PutPayloads.{appended}
use Rattle.mysql_connection_machine.specs.Machines.{LendingWorld, Machine, lending_none}
use Rattle.mysql_connection_machine.specs.Modes.{Knows, KnowsPayload}
use Rattle.mysql_connection_machine.specs.PuttingCommands.{AwaitsCommandOf, PutsCommandBy, PutsFirstCommand}
use Rattle.mysql_connection_machine.specs.PuttingCommands.{command_event}
use Rattle.mysql_connection_machine.specs.PuttingPackets.{PutsCommandOrStays, first_of}
use Rattle.mysql_connection_machine.specs.PuttingPayloads.{IsDue, PutsWithoutEvent}
use Rattle.mysql_connection_machine.specs.Writing.{GoesOnBehind, PutsPayload}
use Rattle.mysql_connection_machine.specs.declared.put_refusal.PutRefusal.{PutRefusal}
use Rattle.mysql_connection_machine.specs.declared.put_refusal.PutRefusal.TheVariants.{BadEvent, Held, Memory, NotDue}
use Rattle.mysql_connection_machine.specs.declared.put_refusal.PutRefusal.TheVariants.{TooLarge}

-- ---- what a command says, and where it leads

pub command_leads : (s : Standing) (payload : List ℕ) → s.phase ≡ phases.Command →
    step s payload ≡ Ok (command_event s payload, after_said s payload)
command_leads s payload phase =
    step_says s payload (command_event s payload) (after_command s payload (command_said s payload))
    (ap (λ (p : Phase). in_turn p s payload) phase)

command_peeked : (s : Standing) (payload : List ℕ) → s.phase ≡ phases.Command →
    said_in (step s payload) ≡ Ok (command_event s payload)
command_peeked s payload phase = ap said_in (command_leads s payload phase)

-- a command within the limit is due
command_is_due : (w : World) (payload : List ℕ) → w.standing.phase ≡ phases.Command →
    is_free w.unread.client ≡ true → length payload ≤ w.limits.client → IsDue w Client payload
command_is_due w payload phase free within = record {
  awaited = rw (phase, free) refl;
  within = within;
}

-- ---- what is known behind what it says

events_same : (s : Standing) (payload : List ℕ) (one other : Event) (after behind : Standing) →
    step s payload ≡ Ok (one, after) →
    step s payload ≡ Ok (other, behind) → one ≡ other
events_same s payload one other after behind e f = ap (λ (x : Event × Standing). x.0) (ok_is (sym e ∙ f))
  where
    ok_is : {X E : Type 0} {x y : X} → (let r : Result X E = Ok x in r) ≡ Ok y → x ≡ y
    ok_is h = cc

pub payload_known : (old new : Machine) (payload : List ℕ) (event : Event) (after : Standing) →
    step old.world.standing payload ≡ Ok (event, after) → Knows old (Some event) new → KnowsPayload old payload new
payload_known old new payload event after says knows = λ other behind e.
    subst (λ (x : Event). Knows old (Some x) new)
    (events_same old.world.standing payload event other after behind says e) knows

pub command_known : (old new : Machine) (payload : List ℕ) (held : Standing) (mode : SessionMode) →
    old.world.standing.phase ≡ phases.Command → mode ≡ old.mode → held ≡ new.world.standing →
    BehindCommand held (command_said old.world.standing payload) mode new.mode → KnowsPayload old payload new
command_known old new payload held mode phase is stands behind =
    let said = command_said old.world.standing payload in
    payload_known old new payload (command_event old.world.standing payload) (after_said old.world.standing payload)
    (command_leads old.world.standing payload phase)
    (subst (λ (m : SessionMode). BehindCommand new.world.standing said m new.mode) is
    (subst (λ (s : Standing). BehindCommand s said mode new.mode) stands behind))

pub behind_header : (packets : List ℕ) (used : ℕ) → 4 ≤ used → drop 4 (take used packets) ≡
    take (used - 4) (drop 4 packets)
behind_header packets used within =
    let whole : used ≡ 4 + (used - 4) = omega (arith, within) in
    ap (λ (n : ℕ). drop 4 (take n packets)) whole ∙ drop-take 4 (used - 4) packets

-- ---- its packets

pub packet_dropped : (before packet held : List ℕ) (start : ℕ) → held ≡ before ++ packet → start ≡ length before →
    drop (start + 4) held ≡ drop 4 packet
packet_dropped before packet held start is at =
    rw (is, at) (sym (drop-drop 4 (length before) (before ++ packet)) ∙
    ap (drop 4) (drop_at before packet (length before) refl))

pub packet_framed : (before packet held framed : List ℕ) (start number : ℕ) → held ≡ before ++ packet →
    start ≡ length before → framed ≡ take start held ++ framing (drop (start + 4) held) number →
    framed ≡ before ++ framing (drop 4 packet) number
packet_framed before packet held framed start number is at e =
    e ∙ ap (λ (f : List ℕ). f ++ framing (drop (start + 4) held) number) (front_of before packet held start is at)
    ∙ ap (λ (p : List ℕ). before ++ framing p number) (packet_dropped before packet held start is at)

pub packet_goes : (old new : LendingWorld) (event : Event) (payload before framed : List ℕ) (next count : ℕ)
    (done : Unit {0}) → framed ≡ before ++ packets_for event old.world.standing payload →
    next ≡ number_after payload (number_for event old.world.standing) → count ≡ length framed - length before →
    GoesOnBehind old event payload next count (Ok done) new →
    PutsPayload old event payload before (Ok done) new framed
packet_goes old new event payload before framed next count done is number size goes = (
  goes.0,
  goes.1,
  goes.2,
  goes.3 ∙ ap lending_none (gone old.world event payload before framed next count goes.0 is number size),
  is,
)

pub packet_refused : (old new : LendingWorld) (event : Event) (payload before behind : List ℕ) (next count : ℕ)
    (refusal : PutRefusal) → behind ≡ before → GoesOnBehind old event payload next count (Err refusal) new →
    PutsPayload old event payload before (Err refusal) new behind
packet_refused old new event payload before behind next count Held is goes = (goes.0, is, goes.1)
packet_refused old new event payload before behind next count Memory is goes = (goes, is)
packet_refused old new event payload before behind next count NotDue is goes = absurd goes
packet_refused old new event payload before behind next count (BadEvent cause) is goes = absurd goes
packet_refused old new event payload before behind next count TooLarge is goes = absurd goes

-- ---- a command that is due was put

client_put : PayloadsAreInTurn → (old new : LendingWorld) (payload before behind : List ℕ) (done : Unit {0}) →
    old.world.standing.phase ≡ phases.Command → is_free old.world.unread.client ≡ true →
    length payload ≤ old.world.limits.client →
    PutsPayload old (command_event old.world.standing payload) payload before (Ok done) new behind →
    PutsWithoutEvent old Client payload before (Ok done) new behind
client_put law old new payload before behind done phase free within puts =
    let put = appended law old Client payload (command_event old.world.standing payload) before done new behind
    (command_is_due old.world payload phase free within) (command_peeked old.world.standing payload phase) puts in
    (command_event old.world.standing payload, put.0, put.1)

pub command_put : PayloadsAreInTurn → (old new : LendingWorld) (side : Side) (payload before behind : List ℕ)
    (done : Unit {0}) → AwaitsCommandOf old.world side → length payload ≤ limit_of side old.world.limits →
    PutsPayload old (command_event old.world.standing payload) payload before (Ok done) new behind →
    PutsWithoutEvent old side payload before (Ok done) new behind
command_put law old new side payload before behind done awaits within puts =
    let there : length payload ≤ old.world.limits.client =
    subst (λ (x : Side). length payload ≤ limit_of x old.world.limits) awaits.its within in
    subst (λ (x : Side). PutsWithoutEvent old x payload before (Ok done) new behind) (sym awaits.its)
    (client_put law old new payload before behind done awaits.phase awaits.free there puts)

-- ---- the one that stands first of packets

pub first_command : PayloadsAreInTurn → (old new : LendingWorld) (packets before behind payload : List ℕ)
    (limit number : ℕ) (done : Unit {0}) → is_plain old.world.standing payload ≡ true → limit ≡
    old.world.limits.client →
    number ≡ slice_index_or packets 3 0 →
    old.world.standing.phase ≡ phases.Command → is_free old.world.unread.client ≡ true → length payload ≤ limit →
    IsOneChunk (first_packet limit number packets) number packets payload →
    PutsPayload old (command_event old.world.standing (drop 4 (take (4 + length payload) packets)))
    (drop 4 (take (4 + length payload) packets)) before (Ok done) new behind →
    PutsCommandBy old packets before (4 + length payload) new behind
first_command law old new packets before behind payload limit number done plain its_limit its_number
    phase free within one puts = record {
      payload = payload;
      number = next_number number;
      found = ap (λ (l : ℕ). first_of l packets) (sym its_limit) ∙
          ap (λ (n : ℕ). first_packet limit n packets) (sym its_number) ∙ one.is;
      header = omega arith;
      within = one.within;
      stands = one.stands;
      phase = phase;
      plain = plain;
      puts = client_put law old new payload before behind done phase free
          (subst (λ (l : ℕ). length payload ≤ l) its_limit within)
          (subst (λ (p : List ℕ). PutsPayload old (command_event old.world.standing p) p before
          (Ok done) new behind) (sym one.stands) puts);
    }

-- what a machine knows behind it
abbrev pub MachineKnows : Machine → List ℕ → Option ℕ → Machine → Type 0
MachineKnows old packets (Some used) new = (payload : List ℕ) → payload ≡ drop 4 (take used packets) →
    is_plain old.world.standing payload ≡ true → old.world.standing.phase ≡ phases.Command →
    KnowsPayload old payload new
MachineKnows old packets None new = new.mode ≡ old.mode

-- the same of a machine that has found no fault
pub machine_put : (old new : Machine) (side : Side) (packets before behind : List ℕ) (result : Option ℕ) →
    side ≡ Client → old.failure ≡ None → new.failure ≡ old.failure → MachineKnows old packets result new →
    PutsFirstCommand (record { world = old.world; row = old.row }) packets before result
    (record { world = new.world; row = new.row }) behind →
    PutsCommandOrStays old side packets before result new behind
machine_put old new side packets before behind (Some used) its going stays knows first =
    subst (λ (x : Side). PutsCommandOrStays old x packets before (Some used) new behind) (sym its) (record {
      payload = first.payload;
      number = first.number;
      found = first.found;
      header = first.header;
      within = first.within;
      one = record {
        knows = knows first.payload first.stands first.plain first.phase;
        going =
            going;
        puts = (first.puts, stays ∙ going);
      };
    })
machine_put old new side packets before behind None its going stays knows same = (
  machines_same old new (ap (λ (l : LendingWorld). l.world) same.0)
      (ap (λ (l : LendingWorld). l.row) same.0) stays knows,
  same.1,
) where
  machines_same : (old new : Machine) → old.world ≡ new.world → old.row ≡ new.row → new.failure ≡
      old.failure → new.mode ≡ old.mode → old ≡ new
  machines_same old new w r f m =
      ap (λ (x : World). record { world = x; failure = old.failure; row = old.row; mode = old.mode }) w
      ∙ ap (λ x. record { world = new.world; failure = old.failure; row = x; mode = old.mode }) r
      ∙ ap (λ x. record { world = new.world; failure = x; row = new.row; mode = old.mode }) (sym f)
      ∙ ap (λ x. record { world = new.world; failure = new.failure; row = new.row; mode = x }) (sym m)
