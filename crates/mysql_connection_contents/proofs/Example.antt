-- The run over the bytes of the example, packet by packet.
use Rattle.std.proofs.Common.{◌≡◌, ℕ, Bool, true, false, List, [], ◌∷◌, ◌++◌, None, Some, Ok, refl, sym, ap, subst, ◌∙◌}
use Rattle.std.specs.List.{filter}
use Rattle.std.specs.Option.{option_map}
use Rattle.bitflags.proofs.OnLiterals.{bitflags_on_literals}
use Rattle.mysql_buf.specs.Reading.{first}
use Rattle.mysql_cells.specs.Cells.{cell_at}
use Rattle.mysql_connection_contents.specs.Example.{accepts, agreed, answers, asked_text, asks, begun, by_text}
use Rattle.mysql_connection_contents.specs.Example.{by_values, bytes, sent_data, events_said, executes_bulk}
use Rattle.mysql_connection_contents.specs.Example.{executes_data, executes_values, in_bulk, ok, of_text, queries}
use Rattle.mysql_connection_contents.specs.Example.{sends_data, small, text, with_data}
use Rattle.mysql_connection_contents.specs.ExampleLaws.{BytesAreRead, EventsHaveContents, ExampleIsSeen}
use Rattle.mysql_connection_contents.specs.Promise.{AllSeeTheSame}
use Rattle.mysql_connection_rules.specs.Events.{Event}
use Rattle.mysql_connection_rules.specs.Laws.{RunIsOne}
use Rattle.mysql_connection_rules.specs.Puts.{is_of}
use Rattle.mysql_connection_rules.specs.Runs.{IsRun}
use Rattle.mysql_connection_rules.specs.Standing as phases
use Rattle.mysql_connection_rules.specs.Standing.{About, Phase, Standing, logged_in}
use Rattle.mysql_connection_rules.specs.Steps.{step}
use Rattle.mysql_connection_rules.specs.Streams.{Says, Stream, Streams, World, leads_on, moved, next, said_by, start}
use Rattle.mysql_connection_rules.specs.declared.side.Side.{Side}
use Rattle.mysql_connection_rules.specs.declared.side.Side.TheVariants.{Client, Server}
use Rattle.mysql_connection_statements.specs.Statements.{Statements, has_nothing, no_statements, statement_at}
use Rattle.mysql_executions.specs.After.{bulk_types, execution_types}
use Rattle.mysql_executions.specs.Bulks.{bulk_execution_at, bulk_head, bulk_value_at, rows_at}
use Rattle.mysql_executions.specs.Executions.{binding_at, execution_at, execution_head, readable_head}
use Rattle.mysql_executions.specs.Fields.{each_at}
use Rattle.mysql_executions.specs.InForce.{InForce}
use Rattle.mysql_executions.specs.Types.{type_at, types_read}
use Rattle.mysql_executions.specs.declared.refused.Refused.{Refused}
use Rattle.mysql_executions.specs.declared.refused.Refused.TheVariants as refused
use Rattle.mysql_executions.specs.declared.types.ParameterType.{ParameterType}
use Rattle.mysql_ok_packets.specs.OkPackets.{info_at, ok_packet_at, status_and_info_at}
use Rattle.mysql_reply_events.specs.Table.{fresh}
use Rattle.mysql_reply_events.specs.declared.context.ReplyKind.{ReplyKind}
use Rattle.mysql_reply_events.specs.declared.context.ReplyKind.TheVariants as kinds
use Rattle.mysql_server_packets.specs.Packets.{prepare_ok_at, prepare_ok_fields_at}

-- ---- payloads

abbrev pub asking : List ℕ
asking = 0x16 ∷ text

abbrev pub answering : List ℕ
answering = 0 ∷ 1 ∷ 0 ∷ 0 ∷ 0 ∷ 0 ∷ 0 ∷ 1 ∷ 0 ∷ 0 ∷ 0 ∷ 0 ∷ 0 ∷ []

abbrev pub sending : List ℕ
sending = 0x18 ∷ 1 ∷ 0 ∷ 0 ∷ 0 ∷ 0 ∷ 0 ∷ 0x67 ∷ 0x68 ∷ []

abbrev pub executing : List ℕ
executing = 0x17 ∷ 1 ∷ 0 ∷ 0 ∷ 0 ∷ 0 ∷ 1 ∷ 0 ∷ 0 ∷ 0 ∷ 0 ∷ 1 ∷ 0xfd ∷ 0 ∷ []

abbrev pub executing_all : List ℕ
executing_all = 0xfa ∷ 1 ∷ 0 ∷ 0 ∷ 0 ∷ 0x80 ∷ 0 ∷ 0xfd ∷ 0 ∷ 0 ∷ 1 ∷ 0x63 ∷ 0 ∷ 1 ∷ 0x64 ∷ []

abbrev pub executing_again : List ℕ
executing_again = 0x17 ∷ 1 ∷ 0 ∷ 0 ∷ 0 ∷ 0 ∷ 1 ∷ 0 ∷ 0 ∷ 0 ∷ 0 ∷ 0 ∷ 1 ∷ 0x65 ∷ []

abbrev pub querying : List ℕ
querying = 0x03 ∷ asked_text

abbrev pub accepting : List ℕ
accepting = 0 ∷ 0 ∷ 0 ∷ 2 ∷ 0 ∷ 0 ∷ 0 ∷ []

-- ---- what stands between them

abbrev pub typed : List ParameterType
typed = of_text.parameter_type ∷ []

abbrev pub in_force : List ParameterType → List (ℕ × List ℕ) → InForce
in_force types waiting = record { count = 1; types = types; long_data = waiting; broken = false }

abbrev pub one : List ParameterType → List (ℕ × List ℕ) → (sent stored : ℕ) → Statements
one types waiting sent stored = record {
  by_id = (
    1,
    record {
      text = text;
      parameters = in_force types waiting;
      columns = None;
      prepared =
          26;
      described = 0;
      sent = sent;
    },
  ) ∷ [];
  last = Some 1;
  stored = stored;
}

abbrev pub waiting : List (ℕ × List ℕ)
waiting = (0, 0x67 ∷ 0x68 ∷ []) ∷ []

abbrev pub standing : Phase → (number : ℕ) → (answers : Bool) → Statements → Standing
standing phase number answers statements =
    record (logged_in agreed) {
      phase = phase;
      number = number;
      answers = answers;
      statements =
          statements;
    }

abbrev pub reply : ReplyKind → About → Phase
reply kind about = phases.Reply
    (record {
      kind = kind;
      so_far = fresh None;
      about = about;
      earlier = 0;
      coming = 0;
      parameters =
          0;
    })

abbrev pub pending : Refused → InForce → (sent : ℕ) → Phase
pending how before sent =
    reply kinds.Binary (phases.Executing
    (record { id = 1; refused = how; carried = 1; before = before; sent = sent }))

abbrev pub prepared : Statements
prepared = one [] [] 0 26

abbrev pub executed : Statements
executed = one typed [] 0 28

-- behind each event, and before that the number that was due and who spoke last
abbrev pub s0 : Standing
s0 = logged_in agreed

abbrev pub asked : ℕ → Bool → Standing
asked number answers = standing (reply kinds.Prepare (phases.Preparing text 9)) number answers no_statements

abbrev pub has_answer : ℕ → Bool → Standing
has_answer number answers = standing phases.Command number answers prepared

abbrev pub has_data : ℕ → Bool → Standing
has_data number answers = standing phases.Command number answers (one [] waiting 13 39)

abbrev pub executes : ℕ → Bool → Standing
executes number answers = standing (pending refused.Execution (in_force [] waiting) 13) number answers executed

abbrev pub has_executed : ℕ → Bool → Standing
has_executed number answers = standing phases.Command number answers executed

abbrev pub executes_all : ℕ → Bool → Standing
executes_all number answers = standing (pending (refused.Bulk 0x80) (in_force typed []) 0) number answers executed

abbrev pub executes_again : ℕ → Bool → Standing
executes_again number answers = standing (reply kinds.Binary (phases.OfStatement 1)) number answers executed

abbrev pub queried : ℕ → Bool → Standing
queried number answers = standing (reply kinds.Text phases.Nothing) number answers executed

-- ---- payload by payload

pub step_1 : step s0 asking ≡ Ok (asks, asked 0 false)
unfolding step bitflags_on_literals
step_1 = refl

pub step_2 : step (asked 1 true) answering ≡ Ok (answers, has_answer 1 true)
unfolding step prepare_ok_at prepare_ok_fields_at first bitflags_on_literals
step_2 = refl

pub step_3 : step (has_answer 0 false) sending ≡ Ok (sends_data, has_data 0 false)
unfolding step first bitflags_on_literals
step_3 = refl

pub step_4 : step (has_data 0 true) executing ≡ Ok (executes_data, executes 0 true)
unfolding step execution_at readable_head execution_head binding_at each_at types_read type_at
    execution_types has_nothing cell_at first bitflags_on_literals
step_4 = refl

pub step_5 : step (executes 1 true) accepting ≡ Ok (accepts, has_executed 1 true)
unfolding step ok_packet_at status_and_info_at info_at first bitflags_on_literals
step_5 = refl

pub step_6 : step (has_executed 0 false) executing_all ≡ Ok (executes_bulk, executes_all 0 false)
unfolding step bulk_execution_at bulk_head rows_at bulk_value_at each_at types_read type_at
    bulk_types has_nothing cell_at first bitflags_on_literals
step_6 = refl

pub step_7 : step (executes_all 1 true) accepting ≡ Ok (accepts, has_executed 1 true)
unfolding step ok_packet_at status_and_info_at info_at first bitflags_on_literals
step_7 = refl

pub step_8 : step (has_executed 0 false) executing_again ≡ Ok (executes_values, executes_again 0 false)
unfolding step execution_at readable_head execution_head binding_at each_at types_read type_at
    execution_types has_nothing cell_at first bitflags_on_literals
step_8 = refl

pub step_9 : step (executes_again 1 true) accepting ≡ Ok (accepts, has_executed 1 true)
unfolding step ok_packet_at status_and_info_at info_at first bitflags_on_literals
step_9 = refl

pub step_10 : step (has_executed 0 false) querying ≡ Ok (queries, queried 0 false)
unfolding step first bitflags_on_literals
step_10 = refl

pub step_11 : step (queried 1 true) accepting ≡ Ok (accepts, has_executed 1 true)
unfolding step ok_packet_at status_and_info_at info_at first bitflags_on_literals
step_11 = refl

-- ---- over both streams

abbrev pub unread : (read : ℕ) → List ℕ → Stream
unread read left = record { read = read; bytes = left; closed = false }

abbrev pub world : Stream → Stream → Standing → World
world client server s = record { limits = small; standing = s; unread = record { client = client; server = server } }

-- the packet that stands first is read, and its payload leads on
pub next_says : (w : World) (side : Side) (payload : List ℕ) (number : ℕ) (rest : List ℕ)
    (event : Event) (after : Standing) (new : World) → next w ≡
    said_by w side number rest (step w.standing payload) → step w.standing payload ≡
    Ok (event, after)
    → leads_on w side event (moved w side number rest after) ≡ Says event new → next w ≡ Says event new
next_says w side payload number rest event after new found says leads = found ∙
    ap (said_by w side number rest) says ∙ leads

abbrev c5 : List ℕ
c5 = by_text

abbrev c4 : List ℕ
c4 = by_values ++ c5

abbrev c3 : List ℕ
c3 = in_bulk ++ c4

abbrev c2 : List ℕ
c2 = with_data ++ c3

abbrev c1 : List ℕ
c1 = sent_data ++ c2

abbrev o1 : List ℕ
o1 = ok

abbrev o2 : List ℕ
o2 = ok ++ o1

abbrev o3 : List ℕ
o3 = ok ++ o2

abbrev o4 : List ℕ
o4 = ok ++ o3

abbrev w0 : World
w0 = start begun bytes

abbrev w1 : World
w1 = world (unread 9 c1) bytes.server (asked 1 true)

abbrev w2 : World
w2 = world (unread 9 c1) (unread 17 o4) (has_answer 0 false)

abbrev w3 : World
w3 = world (unread 22 c2) (unread 17 o4) (has_data 0 true)

abbrev w4 : World
w4 = world (unread 40 c3) (unread 17 o4) (executes 1 true)

abbrev w5 : World
w5 = world (unread 40 c3) (unread 28 o3) (has_executed 0 false)

abbrev w6 : World
w6 = world (unread 59 c4) (unread 28 o3) (executes_all 1 true)

abbrev w7 : World
w7 = world (unread 59 c4) (unread 39 o2) (has_executed 0 false)

abbrev w8 : World
w8 = world (unread 77 c5) (unread 39 o2) (executes_again 1 true)

abbrev w9 : World
w9 = world (unread 77 c5) (unread 50 o1) (has_executed 0 false)

abbrev w10 : World
w10 = world (unread 88 []) (unread 50 o1) (queried 1 true)

abbrev pub w11 : World
w11 = world (unread 88 []) (unread 61 []) (has_executed 0 false)

example_run : IsRun begun bytes events_said w11
example_run = record {
  runs = (
    w1,
    next_says w0 Client asking 1 c1 asks (asked 0 false) w1 refl step_1 refl,
    (
      w2,
      next_says w1 Server answering 2 o4 answers (has_answer 1 true) w2 refl step_2 refl,
      (
        w3,
        next_says w2 Client sending 1 c2 sends_data (has_data 0 false) w3 refl step_3 refl,
        (
          w4,
          next_says w3 Client executing 1 c3 executes_data (executes 0 true) w4 refl step_4 refl,
          (
            w5,
            next_says w4 Server accepting 2 o3 accepts (has_executed 1 true) w5 refl step_5 refl,
            (
              w6,
              next_says w5 Client executing_all 1 c4 executes_bulk (executes_all 0 false) w6 refl step_6 refl,
              (
                w7,
                next_says w6 Server accepting 2 o2 accepts (has_executed 1 true) w7 refl step_7 refl,
                (
                  w8,
                  next_says w7 Client executing_again 1 c5 executes_values (executes_again 0 false) w8 refl step_8 refl,
                  (
                    w9,
                    next_says w8 Server accepting 2 o1 accepts (has_executed 1 true) w9 refl step_9 refl,
                    (
                      w10,
                      next_says w9 Client querying 1 [] queries (queried 0 false) w10 refl step_10 refl,
                      (
                        w11,
                        next_says w10 Server accepting 2 [] accepts (has_executed 1 true) w11 refl step_11 refl,
                        refl,
                      ),
                    ),
                  ),
                ),
              ),
            ),
          ),
        ),
      ),
    ),
  );
  ends = tt;
}

pub bytes_are_read : BytesAreRead
bytes_are_read = (w11, example_run, refl)

pub events_have_contents : EventsHaveContents
events_have_contents = (refl, refl)

-- ---- of three connections

pub example_is_seen : AllSeeTheSame → RunIsOne → ExampleIsSeen
example_is_seen same one client server auditor connected sent =
    let see = same begun client server auditor connected in
    let both = one begun bytes see.events events_said see.last w11
    (subst (λ (s : Streams). IsRun begun s see.events see.last) sent see.run) example_run in
    record {
      see = see;
      events = both.0;
      asked = sym see.asked ∙ ap (filter (is_of Client)) both.0;
      answered = sym see.answered ∙ ap (filter (is_of Server)) both.0;
      has_text = ap (λ (w : World). option_map (λ statement. statement.text)
          (statement_at w.standing.statements 1)) both.1;
      reads = λ all none. (see.auditor_has.all (all ∙ sym sent) none).0 ∙ both.0;
    }
