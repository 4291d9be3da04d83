-- Calls of three connections by which the example's bytes went.
use Rattle.std.proofs.Common.{◌≡◌, ◌==◌, suc, ◌≤◌, ◌^◌, ◌+◌, inl, inr, ℕ, Bool, true, false, not, List, [], ◌∷◌, ◌++◌}
use Rattle.std.proofs.Common.{None}
use Rattle.std.proofs.Common.{Some, true≢false, Result, Ok, length, map, drop, refl, sym, ap, subst, ◌∙◌, arith}
use Rattle.std.proofs.Math.Dec.{leb}
use Rattle.std.proofs.Math.Nat.{le_refl}
use Rattle.std.proofs.lemmas.Bool.{leb-true}
use Rattle.std.proofs.lemmas.List.{length-append}
use Rattle.std.specs.Global.{Box, Vec}
use Rattle.std.specs.List.{flat_map, list_any}
use Rattle.std.specs.declared.alloc.Global.{Global}
use Rattle.std.specs.declared.borrow.CowSlice.TheVariants.{Owned}
use denote.RawPtr.{null_ptr}
use Rattle.bitflags.proofs.OnLiterals.{bitflags_on_literals}
use Rattle.mysql_cells.specs.declared.value.Value.TheVariants.{Bytes}
use Rattle.mysql_commands.specs.declared.command.Command.{Command as HeldCommand}
use Rattle.mysql_commands.specs.declared.command.Command.TheVariants as commands
use Rattle.mysql_connection_contents.proofs.Example.{accepting, answering, asked, asking, executes, executes_again}
use Rattle.mysql_connection_contents.proofs.Example.{executes_all, executing, executing_again, executing_all}
use Rattle.mysql_connection_contents.proofs.Example.{has_answer, has_data, has_executed, next_says, queried, querying}
use Rattle.mysql_connection_contents.proofs.Example.{s0, sending, step_1, step_2, step_3, step_4, step_5, step_6}
use Rattle.mysql_connection_contents.proofs.Example.{step_7, step_8, step_9, step_10, step_11, unread, w11 as v11}
use Rattle.mysql_connection_contents.proofs.Example.{world}
use Rattle.mysql_connection_contents.proofs.Speaking.{grow_more, grow_none}
use Rattle.mysql_connection_contents.specs.Calls.{Calls, Does, Done, Feed, NextEvent, Party, PutExecution, PutPackets}
use Rattle.mysql_connection_contents.specs.Example.{accepts, answer, answers, asked_text, asks, begun, by_text}
use Rattle.mysql_connection_contents.specs.Example.{by_values, sent_data, executes_bulk, executes_data}
use Rattle.mysql_connection_contents.specs.Example.{executes_values, in_bulk, of_text, ok, prepare, queries, sends_data}
use Rattle.mysql_connection_contents.specs.Example.{small, agreed, text, values, with_data}
use Rattle.mysql_connection_contents.specs.ExampleLaws.{ExampleIsMade}
use Rattle.mysql_connection_contents.specs.Shown.{behind_login}
use Rattle.mysql_connection_machine.specs.Machines.{Machine, length_with}
use Rattle.mysql_connection_machine.specs.PuttingPackets.{StandFirst, StopsAt}
use Rattle.mysql_connection_machine.specs.Writing.{PutsOn}
use Rattle.mysql_connection_modes.specs.Modes.{BehindStatement, ModeBehind}
use Rattle.mysql_connection_rules.specs.Events.{Event, side_of}
use Rattle.mysql_connection_rules.specs.Puts.{is_due, packets_for, put_on, step_for}
use Rattle.mysql_connection_rules.specs.Refusals.{Written}
use Rattle.mysql_connection_rules.specs.Standing.{Standing, kept}
use Rattle.mysql_connection_rules.specs.Steps.{step}
use Rattle.mysql_connection_rules.specs.Streams.{Piece, Says, World, come, leads_on, limit_of, moved, next, room}
use Rattle.mysql_connection_rules.specs.Streams.{room_to_keep, said_by, stream_of}
use Rattle.mysql_connection_rules.specs.declared.side.Side.{Side}
use Rattle.mysql_connection_rules.specs.declared.side.Side.TheVariants.{Client, Server}
use Rattle.mysql_connection_state.specs.Views.{event_view}
use Rattle.mysql_connection_state.specs.declared.event.Event.{Event as HeldEvent}
use Rattle.mysql_connection_state.specs.declared.event.Event.TheVariants as held
use Rattle.mysql_connection_writer.specs.Executions.{execution_said}
use Rattle.mysql_connection_writer.specs.Payloads.{payload_of}
use Rattle.mysql_execution_writer.specs.Cells.{are_parameters, parameters_bytes}
use Rattle.mysql_execution_writer.specs.Written.{can_be_put, execution_bytes}
use Rattle.mysql_executions.specs.declared.bulk.BulkValue.TheVariants as bulk
use Rattle.mysql_queries.specs.Sql.{default_mode}
use Rattle.mysql_queries.specs.Tokens.{Byte, IsToken}
use Rattle.mysql_reply_events.specs.declared.event.ReplyEvent.TheVariants as replies
use Rattle.mysql_session_modes.specs.SessionModes.{BehindText, mode_behind_tokens}
use Rattle.mysql_session_modes.specs.Texts.{has_word, is_word_at}
use Rattle.mysql_session_modes.specs.Told.{mode_behind_ok}
use Rattle.mysql_session_modes.specs.declared.session_mode.SessionMode.{SessionMode}
use Rattle.mysql_stmt.specs.Executions.{null_bitmap, null_bits}
use Rattle.mysql_wire.specs.Framing.{chunks, framing}

-- ---- calls

-- Of the session nothing is known, and what is told counts behind the first execution: then types are in force.
abbrev known_at : Standing → SessionMode
known_at s = record {
  mode = None;
  is_safe_set = None;
  counts = list_any (λ entry. not (length entry.1.parameters.types == 0)) s.statements.by_id;
}

abbrev going : World → Machine
going w = record { world = w; failure = None; row = None; mode = known_at w.standing }

abbrev fed : Side → List ℕ → Done
fed side piece = record { call = Feed side piece (Ok tt); appended = []; took = []; put = [] }

abbrev took : HeldEvent → Done
took event = record { call = NextEvent (Ok (Some event)); appended = []; took = event_view event ∷ []; put = [] }

abbrev put : Side → List ℕ → Event → Done
put side packet event = record {
  call = PutPackets side packet (Ok (length packet));
  appended =
      packet;
  took = [];
  put = event ∷ [];
}

feeding : (old : World) (side : Side) (piece : List ℕ) → (stream_of side old.unread).closed ≡
    false → length_with side piece (going old) ≤ room side old.limits →
    Does (going old) (fed side piece) (going (come side (Piece piece) old))
feeding old side piece is_open fits = record { before = []; does = ((is_open, fits, refl), refl, refl, refl) }

taking : (old new : World) (event : HeldEvent) → next old ≡ Says (event_view event) new →
    Does (going old) (took event) (going new)
taking old new event h = record { before = []; does = ((tt, λ e. ((h, refl), refl)), refl, refl, refl) }

one_event : (s : Standing) (payload : List ℕ) (one other : Event) (after behind : Standing) →
    step s payload ≡ Ok (one, after) → step s payload ≡ Ok (other, behind) → one ≡ other
one_event s payload one other after behind e f = ap (λ (x : Event × Standing). x.0) (ok_is (sym e ∙ f))
  where
    ok_is : {X E : Type 0} {x y : X} → (let r : Result X E = Ok x in r) ≡ Ok y → x ≡ y
    ok_is h = cc

putting : (old new : World) (side : Side) (packet payload : List ℕ) (event : Event)
    (after : Standing) → StandFirst (limit_of side old.limits) packet (payload ∷
    []) (drop (length packet) packet) → side_of event ≡ side → is_due old event ≡ true
    → step_for event old.standing payload ≡ Ok (event, after) → step old.standing payload ≡
    Ok (event, after) → leb (length payload) (limit_of (side_of event) old.limits) ≡ true →
    leb (kept after) (room_to_keep old.limits) ≡ true
    → new ≡ put_on old event payload after → packet ≡ packets_for event old.standing payload →
    StopsAt (going new) side (drop (length packet) packet) →
    ModeBehind new.standing event (known_at old.standing) (known_at new.standing) →
    Does (going old) (put side packet event) (going new)
putting old new side packet payload event after stand own due says_so says within keeps goes is stops known =
    let written : Written old event payload new [] packet = record {
      after = after;
      may = record {
        due = due;
        says = says_so;
        within =
            leb-true (length payload) (limit_of (side_of event) old.limits) within;
        keeps =
            leb-true (kept after) (room_to_keep old.limits) keeps;
      };
      goes = goes;
      appended = is;
    } in record {
      before = [];
      does = (
        (
          le_refl (length packet),
          record {
            payloads = payload ∷ [];
            stand = stand;
            puts = (
              going new,
              packet,
              record {
                knows = λ other behind e.
                    subst (λ (x : Event). ModeBehind new.standing x (known_at old.standing) (known_at new.standing))
                    (one_event old.standing payload event other after behind says e) known;
                going = refl;
                puts =
                    ((event, record { its_own = own; written = written; says = says }, refl), refl);
              },
              (refl, refl),
            );
          },
          stops,
        ),
        refl,
        refl,
      );
    }

-- ---- byte by byte

abbrev byte_by_byte : Side → List ℕ → List Done
byte_by_byte side piece = map (λ byte. fed side (byte ∷ [])) piece

came_more : (side : Side) (byte : ℕ) (piece : List ℕ) (w : World) →
    come side (Piece piece) (come side (Piece (byte ∷ [])) w) ≡ come side (Piece (byte ∷ piece)) w
came_more side byte piece w =
    λ i. record {
      limits = w.limits;
      standing = w.standing;
      unread =
          grow_more side (byte ∷ []) piece w.unread i;
    }

came_none : (side : Side) (w : World) → come side (Piece []) w ≡ w
came_none side w = λ i. record { limits = w.limits; standing = w.standing; unread = grow_none side w.unread i }

open_still : (side : Side) (byte : ℕ) (w : World) → (stream_of side w.unread).closed ≡ false →
    (stream_of side (come side (Piece (byte ∷ [])) w).unread).closed ≡ false
open_still Client byte w h = h
open_still Server byte w h = h

waits_more : (side : Side) (byte : ℕ) (w : World) →
    (stream_of side (come side (Piece (byte ∷ [])) w).unread).bytes ≡
    (stream_of side w.unread).bytes ++ byte ∷ []
waits_more Client byte w = refl
waits_more Server byte w = refl

one_longer : (xs ys : List ℕ) (byte : ℕ) → xs ≡ ys ++ byte ∷ [] → length xs ≡ length ys + 1
one_longer xs ys byte h = ap length h ∙ length-append ys (byte ∷ [])

bytes_fed : (side : Side) (piece : List ℕ) (w : World) → (stream_of side w.unread).closed ≡ false →
    length_with side piece (going w) ≤ room side w.limits →
    Calls (going w) (byte_by_byte side piece) (going (come side (Piece piece) w))
bytes_fed side [] w is_open fits = sym (ap going (came_none side w))
bytes_fed side (byte ∷ piece) w is_open fits =
    let mid = come side (Piece (byte ∷ [])) w in
    let longer = one_longer (stream_of side mid.unread).bytes (stream_of side w.unread).bytes byte
    (waits_more side byte w) in
    let rest = bytes_fed side piece mid (open_still side byte w is_open) (omega (arith, longer, fits)) in (
      going mid,
      feeding w side (byte ∷ []) is_open (omega (arith, fits)),
      subst (λ (v : World). Calls (going mid) (byte_by_byte side piece) (going v))
          (came_more side byte piece w) rest,
    )

behind_calls : (xs ys : List Done) (a b c : Machine) → Calls a xs b → Calls b ys c → Calls a (xs ++ ys) c
behind_calls [] ys a b c did more = subst (λ (m : Machine). Calls m ys c) (sym did) more
behind_calls (x ∷ xs) ys a b c did more = (did.0, did.1, behind_calls xs ys did.0 b c did.2 more)

-- ---- what stands behind each event of one who has read all that came

abbrev v0 : World
v0 = world (unread 0 []) (unread 0 []) s0

abbrev v1 : World
v1 = world (unread 9 []) (unread 0 []) (asked 1 true)

abbrev v2 : World
v2 = world (unread 9 []) (unread 17 []) (has_answer 0 false)

abbrev v3 : World
v3 = world (unread 22 []) (unread 17 []) (has_data 0 true)

abbrev v4 : World
v4 = world (unread 40 []) (unread 17 []) (executes 1 true)

abbrev v5 : World
v5 = world (unread 40 []) (unread 28 []) (has_executed 0 false)

abbrev v6 : World
v6 = world (unread 59 []) (unread 28 []) (executes_all 1 true)

abbrev v7 : World
v7 = world (unread 59 []) (unread 39 []) (has_executed 0 false)

abbrev v8 : World
v8 = world (unread 77 []) (unread 39 []) (executes_again 1 true)

abbrev v9 : World
v9 = world (unread 77 []) (unread 50 []) (has_executed 0 false)

abbrev v10 : World
v10 = world (unread 88 []) (unread 50 []) (queried 1 true)

-- ---- what is said, one after another

-- who says it, its packet, the event as it is held, the call that puts it, and the world behind it
record Said : Type 0 where
  side : Side
  packet : List ℕ
  event : HeldEvent
  puts : Done
  behind : World

abbrev came : Said → World → World
came said w = come said.side (Piece said.packet) w

-- it is said by the next packet of a connection, and can be put on one
record Follows (w : World) (said : Said) : Type 0 where
  is_open : (stream_of said.side w.unread).closed ≡ false
  fits : leb (length_with said.side said.packet (going w)) (room said.side w.limits) ≡ true
  told : next (came said w) ≡ Says (event_view said.event) said.behind
  does : Does (going w) said.puts (going said.behind)

abbrev AllFollow : World → List Said → World → Type 0
AllFollow w [] last = w ≡ last
AllFollow w (said ∷ more) last = Follows w said × AllFollow said.behind more last

abbrev by_packet : Side → List ℕ → HeldEvent → World → Said
by_packet side packet event behind =
    record {
      side = side;
      packet = packet;
      event = event;
      puts =
          put side packet (event_view event);
      behind = behind;
    }

follows : (old new : World) (side : Side) (packet payload : List ℕ) (number : ℕ) (event : HeldEvent)
    (puts : Done) (after : Standing) → Does (going old) puts (going new) →
    step old.standing payload ≡ Ok (event_view event, after) → (stream_of side old.unread).closed ≡
    false
    → leb (length_with side packet (going old)) (room side old.limits) ≡ true →
    next (come side (Piece packet) old) ≡
    said_by (come side (Piece packet) old) side number [] (step old.standing payload)
    → leads_on (come side (Piece packet) old) side (event_view event)
    (moved (come side (Piece packet) old) side number [] after) ≡ Says (event_view event) new →
    Follows old (record {
      side = side;
      packet = packet;
      event = event;
      puts = puts;
      behind =
          new;
    })
follows old new side packet payload number event puts after does says is_open fits found leads = record {
  is_open = is_open;
  fits = fits;
  told = next_says (come side (Piece packet) old) side payload number [] (event_view event) after new found says leads;
  does = does;
}

fits_in : (w : World) (said : Said) → Follows w said →
    length_with said.side said.packet (going w) ≤ room said.side w.limits
fits_in w said h = leb-true (length_with said.side said.packet (going w)) (room said.side w.limits) h.fits

-- it came, and its event was taken
abbrev reads : Said → List Done
reads said = fed said.side said.packet ∷ took said.event ∷ []

reading : (w : World) (said : Said) → Follows w said → Calls (going w) (reads said) (going said.behind)
reading w said h = (
  going (came said w),
  feeding w said.side said.packet h.is_open (fits_in w said h),
  (going said.behind, taking (came said w) said.behind said.event h.told, refl),
)

abbrev reads_bytes : Said → List Done
reads_bytes said = byte_by_byte said.side said.packet ++ took said.event ∷ []

reading_bytes : (w : World) (said : Said) → Follows w said → Calls (going w) (reads_bytes said) (going said.behind)
reading_bytes w said h =
    behind_calls (byte_by_byte said.side said.packet) (took said.event ∷
    []) (going w) (going (came said w)) (going said.behind)
    (bytes_fed said.side said.packet w h.is_open (fits_in w said h)) (
      going said.behind,
      taking (came said w) said.behind said.event h.told,
      refl,
    )

-- an end puts what it says, and reads what the other says
abbrev calls_at : (own side : Side) → Said → List Done
calls_at Client Client said = said.puts ∷ []
calls_at Client Server said = reads said
calls_at Server Client said = reads said
calls_at Server Server said = said.puts ∷ []

calling : (own side : Side) (w : World) (said : Said) → Follows w said →
    Calls (going w) (calls_at own side said) (going said.behind)
calling Client Client w said h = (going said.behind, h.does, refl)
calling Client Server w said h = reading w said h
calling Server Client w said h = reading w said h
calling Server Server w said h = (going said.behind, h.does, refl)

all_called : (calls : Said → List Done) →
    ((w : World) (said : Said) → Follows w said →
    Calls (going w) (calls said) (going said.behind)) →
    (w : World) (all : List Said) (last : World) → AllFollow w all last →
    Calls (going w) (flat_map calls all) (going last)
all_called calls each w [] last h = ap going h
all_called calls each w (said ∷ more) last h =
    behind_calls (calls said) (flat_map calls more) (going w) (going said.behind) (going last)
    (each w said h.0) (all_called calls each said.behind more last h.1)

-- ---- an execution by its values

abbrev values_said : Event
values_said = execution_said (has_executed 0 false) 1 values

as_values : values_said ≡ executes_values
unfolding execution_bytes can_be_put parameters_bytes are_parameters null_bitmap null_bits bitflags_on_literals
as_values = refl

its_payload : payload_of (has_executed 0 false) values_said ≡ Some executing_again
unfolding execution_bytes can_be_put parameters_bytes are_parameters null_bitmap null_bits bitflags_on_literals
its_payload = refl

says_8 : step (has_executed 0 false) executing_again ≡ Ok (values_said, executes_again 0 false)
says_8 = step_8 ∙ ap (λ (e : Event). Ok (e, executes_again 0 false)) (sym as_values)

put_8 : PutsOn (going v7) values_said [] (Ok tt) (going v8) by_values
unfolding framing chunks
put_8 = (
  (
    (
      executing_again,
      its_payload,
      record {
        after = executes_again 0 false;
        may = record {
          due = refl;
          says = says_8;
          within =
              leb-true (length executing_again) (limit_of Client small) refl;
          keeps =
              leb-true (kept (executes_again 0 false)) (room_to_keep small) refl;
        };
        goes = refl;
        appended = refl;
      },
    ),
    refl,
  ),
  refl,
)

abbrev put_values : Done
put_values = record { call = PutExecution 1 values (Ok tt); appended = by_values; took = []; put = values_said ∷ [] }

putting_values : Does (going v7) put_values (going v8)
putting_values = record { before = []; does = ((tt, λ e. put_8), refl, refl) }

-- ---- events as they are held

abbrev vec_of : {X : Type 0} → Global → (xs : List X) → leb (suc (length xs)) (2 ^ 63) ≡ true → Vec X
vec_of heap xs few = record {
  ptr = null_ptr;
  len = length xs;
  cap = length xs;
  alloc = heap;
  items = xs;
  ok = (refl, le_refl (length xs));
  small = leb-true (suc (length xs)) (2 ^ 63) few;
}

abbrev boxed : {X : Type 0} → Global → X → Box X
boxed heap x = record { ptr = null_ptr; alloc = heap; value = x }

-- ---- what is known behind them

abbrev knowing : Bool → SessionMode
knowing counts = record { mode = None; is_safe_set = None; counts = counts }

executed_known : (counts : Bool) → BehindStatement (Some text) (knowing counts) (knowing true)
unfolding mode_behind_tokens has_word is_word_at
executed_known counts = (
  λ is. (
    (0x44 ∷ []) ∷ (0x4f ∷ []) ∷ (0x20 ∷ []) ∷ (0x3f ∷ []) ∷ [],
    record { joined = refl; each = ((0x44, refl), ((0x4f, refl), ((0x20, refl), (refl, tt)))) },
    refl,
  ),
  λ is. absurd (true≢false is),
)

its_string : IsToken default_mode (0x27 ∷ 0x66 ∷ 0x27 ∷ []) []
its_string = record {
  parts = Byte 0x66 ∷ [];
  closing = 0x27 ∷ [];
  inside = ((λ e. omega (arith, e), λ is e. omega (arith, e)), tt);
  spelled = refl;
  closes = inl (refl, tt);
}

queried_known : BehindText asked_text (knowing true) (knowing true)
unfolding mode_behind_tokens has_word is_word_at
queried_known = (
  (0x44 ∷ []) ∷ (0x4f ∷ []) ∷ (0x20 ∷ []) ∷ (0x27 ∷ 0x66 ∷ 0x27 ∷ []) ∷ [],
  record { joined = refl; each = ((0x44, refl), ((0x4f, refl), ((0x20, refl), (its_string, tt)))) },
  refl,
)

accepted_known : (s : Standing) (known : SessionMode) → ModeBehind s accepts known known
unfolding mode_behind_ok
accepted_known s known = refl

module _ (heap : Global) where
  abbrev in_command : HeldCommand → HeldEvent
  in_command command = held.Command (boxed heap command)

  abbrev held_1 : HeldEvent
  held_1 = in_command (commands.Prepare (Owned (vec_of heap text refl)))

  abbrev held_2 : HeldEvent
  held_2 = held.Reply (boxed heap
      (replies.Prepared (record {
        statement_id = 1;
        num_columns = 0;
        num_params = 1;
        warning_count =
            0;
      }) false))

  abbrev held_3 : HeldEvent
  held_3 = in_command (commands.LongData 1 0 (Owned (vec_of heap (0x67 ∷ 0x68 ∷ []) refl)))

  abbrev held_4 : HeldEvent
  held_4 = in_command (commands.Execute (record {
    statement = 1;
    cursor = record { 0 = 0 };
    count_available = false;
    nameless_flags = 0;
    iterations = 1;
    types = Some (vec_of heap (of_text ∷ []) refl);
    parameters = vec_of heap (Bytes (0x67 ∷ 0x68 ∷ []) ∷ []) refl;
    attributes = vec_of heap [] refl;
    rest = [];
    unclear = record { cells = None; long_data = vec_of heap [] refl };
  }))

  abbrev held_5 : HeldEvent
  held_5 = held.Reply (boxed heap (replies.Ok (record {
    affected_rows = 0;
    last_insert_id = None;
    status_flags = record { 0 = 2 };
    warnings = 0;
    info = None;
    session_state_info = None;
  })))

  abbrev held_6 : HeldEvent
  held_6 = in_command (commands.BulkExecute (record {
    statement = 1;
    unit_results = false;
    types = Some (vec_of heap (of_text ∷ []) refl);
    rows = vec_of heap (
        vec_of heap (bulk.Value (Bytes (0x63 ∷ [])) ∷ []) refl ∷
        vec_of heap (bulk.Value (Bytes (0x64 ∷ [])) ∷ []) refl ∷ []
        ) refl;
    rest = [];
    unclear = None;
  }))

  abbrev held_8 : HeldEvent
  held_8 = in_command (commands.Execute (record {
    statement = 1;
    cursor = record { 0 = 0 };
    count_available = false;
    nameless_flags = 0;
    iterations = 1;
    types = None;
    parameters = vec_of heap values refl;
    attributes = vec_of heap [] refl;
    rest = [];
    unclear = record { cells = None; long_data = vec_of heap [] refl };
  }))

  abbrev held_10 : HeldEvent
  held_10 = in_command (commands.Query (vec_of heap [] refl) (Owned (vec_of heap asked_text refl)))

  -- ---- the three

  said_1 : Follows v0 (by_packet Client prepare held_1 v1)
  unfolding framing chunks
  said_1 = follows v0 v1 Client prepare asking 1 held_1 (put Client prepare asks) (asked 0 false)
      (putting v0 v1 Client prepare asking asks (asked 0 false) (1, [], refl, refl) refl refl step_1
      step_1 refl refl refl refl (inr refl) refl) step_1 refl refl refl refl

  said_2 : Follows v1 (by_packet Server answer held_2 v2)
  unfolding framing chunks
  said_2 = follows v1 v2 Server answer answering 2 held_2 (put Server answer answers)
      (has_answer 1 true) (putting v1 v2 Server answer answering answers (has_answer 1 true) (
        2,
        [],
        refl,
        refl,
      ) refl refl step_2 step_2 refl refl refl refl (inr refl) refl) step_2 refl refl refl refl

  said_3 : Follows v2 (by_packet Client sent_data held_3 v3)
  unfolding framing chunks
  said_3 = follows v2 v3 Client sent_data sending 1 held_3 (put Client sent_data sends_data)
      (has_data 0 false) (putting v2 v3 Client sent_data sending sends_data (has_data 0 false) (
        1,
        [],
        refl,
        refl,
      ) refl refl step_3 step_3 refl refl refl refl (inr refl) refl) step_3 refl refl refl
      refl

  said_4 : Follows v3 (by_packet Client with_data held_4 v4)
  unfolding framing chunks
  said_4 = follows v3 v4 Client with_data executing 1 held_4 (put Client with_data executes_data)
      (executes 0 true) (putting v3 v4 Client with_data executing executes_data (executes 0 true)
      (1, [], refl, refl) refl refl step_4 step_4 refl refl refl refl (inr refl)
      (executed_known false)) step_4 refl refl
      refl refl

  said_5 : Follows v4 (by_packet Server ok held_5 v5)
  unfolding framing chunks
  said_5 = follows v4 v5 Server ok accepting 2 held_5 (put Server ok accepts) (has_executed 1 true)
      (putting v4 v5 Server ok accepting accepts (has_executed 1 true) (
        2,
        [],
        refl,
        refl,
      ) refl refl step_5 step_5 refl refl refl refl (inr refl)
      (accepted_known (has_executed 0 false) (knowing true))) step_5 refl refl refl refl

  said_6 : Follows v5 (by_packet Client in_bulk held_6 v6)
  unfolding framing chunks
  said_6 = follows v5 v6 Client in_bulk executing_all 1 held_6 (put Client in_bulk executes_bulk)
      (executes_all 0 false) (putting v5 v6 Client in_bulk executing_all executes_bulk
      (executes_all 0 false) (1, [], refl, refl) refl refl step_6 step_6 refl refl refl refl
      (inr refl) (executed_known true)) step_6 refl refl refl refl

  said_7 : Follows v6 (by_packet Server ok held_5 v7)
  unfolding framing chunks
  said_7 = follows v6 v7 Server ok accepting 2 held_5 (put Server ok accepts) (has_executed 1 true)
      (putting v6 v7 Server ok accepting accepts (has_executed 1 true) (
        2,
        [],
        refl,
        refl,
      ) refl refl step_7 step_7 refl refl refl refl (inr refl)
      (accepted_known (has_executed 0 false) (knowing true))) step_7 refl refl refl refl

  said_8 : Follows v7 (record { side = Client; packet = by_values; event = held_8; puts = put_values; behind = v8 })
  said_8 = follows v7 v8 Client by_values executing_again 1 held_8 put_values
      (executes_again 0 false) putting_values step_8 refl refl refl refl

  said_9 : Follows v8 (by_packet Server ok held_5 v9)
  unfolding framing chunks
  said_9 = follows v8 v9 Server ok accepting 2 held_5 (put Server ok accepts) (has_executed 1 true)
      (putting v8 v9 Server ok accepting accepts (has_executed 1 true) (
        2,
        [],
        refl,
        refl,
      ) refl refl step_9 step_9 refl refl refl refl (inr refl)
      (accepted_known (has_executed 0 false) (knowing true))) step_9 refl refl refl refl

  said_10 : Follows v9 (by_packet Client by_text held_10 v10)
  unfolding framing chunks
  said_10 = follows v9 v10 Client by_text querying 1 held_10 (put Client by_text queries)
      (queried 0 false) (putting v9 v10 Client by_text querying queries (queried 0 false) (
        1,
        [],
        refl,
        refl,
      ) refl refl step_10 step_10 refl refl refl refl (inr refl) queried_known) step_10 refl refl refl
      refl

  said_11 : Follows v10 (by_packet Server ok held_5 v11)
  unfolding framing chunks
  said_11 = follows v10 v11 Server ok accepting 2 held_5 (put Server ok accepts)
      (has_executed 1 true) (putting v10 v11 Server ok accepting accepts (has_executed 1 true) (
        2,
        [],
        refl,
        refl,
      ) refl refl step_11 step_11 refl refl refl refl (inr refl)
      (accepted_known (has_executed 0 false) (knowing true))) step_11 refl refl
      refl refl

  abbrev all_said : List Said
  all_said =
      by_packet Client prepare held_1 v1 ∷
      by_packet Server answer held_2 v2 ∷
      by_packet Client sent_data held_3 v3 ∷
      by_packet Client with_data held_4 v4 ∷
      by_packet Server ok held_5 v5 ∷
      by_packet Client in_bulk held_6 v6 ∷
      by_packet Server ok held_5 v7 ∷
      record { side = Client; packet = by_values; event = held_8; puts = put_values; behind = v8 } ∷
      by_packet Server ok held_5 v9 ∷
      by_packet Client by_text held_10 v10 ∷
      by_packet Server ok held_5 v11 ∷ []

  all_follow : AllFollow v0 all_said v11
  all_follow = (
    said_1,
    (
      said_2,
      (
        said_3,
        (
          said_4,
          (
            said_5,
            (said_6, (said_7, (said_8, (said_9, (said_10, (said_11, refl)))))),
          ),
        ),
      ),
    ),
  )

  -- whoever calls so at each of them
  abbrev made : (calls : Said → List Done) →
      ((w : World) (said : Said) → Follows w said →
      Calls (going w) (calls said) (going said.behind)) → Party begun
  made calls each = record {
    calls = flat_map calls all_said;
    machine = going v11;
    did =
        all_called calls each v0 all_said v11 all_follow;
  }

pub example_is_made : ExampleIsMade
example_is_made heap = (
  made heap (λ said. calls_at Client said.side said) (λ w said. calling Client said.side w said),
  made heap (λ said. calls_at Server said.side said) (λ w said. calling Server said.side w said),
  made heap reads_bytes reading_bytes,
  record {
    connected = record {
      begins = behind_login small agreed;
      client_puts = refl;
      server_puts = refl;
      to_client = record { read = refl; bytes = ([], refl); all = λ e. refl };
      to_server = record { read = refl; bytes = ([], refl); all = λ e. refl };
      to_auditor = record {
        client = record { read = refl; bytes = ([], refl); all = λ e. refl };
        server = record { read = refl; bytes = ([], refl); all = λ e. refl };
      };
    };
    sent = refl;
    by_values = refl;
    bytes_came = refl;
    all_came = refl;
    none_left = refl;
  },
)
