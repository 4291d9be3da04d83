-- Packets that are put where a command is due are commands, and about the statement that they name.
use Rattle.std.proofs.Common.{◌≡◌, ◌⊎◌, ◌<◌, inl, inr, ℕ, Bool, true, false, List, [], ◌∷◌, Option, Some, None, Ok, map}
use Rattle.std.proofs.Common.{refl, sym, ap, subst, ◌∙◌, arith}
use Rattle.std.specs.Prelude.{◌==◌, ◌&&◌, if◌then◌else◌, ◌||◌}
use Rattle.std.specs.List.{AllByRecursion, filter}
use Rattle.std.specs.Option.{option_and_then}
use Rattle.std.proofs.lemmas.Bool.Decides.{nat_tests}
use Rattle.mysql_commands.specs.Commands.{Command, command_at}
use Rattle.mysql_commands.specs.Replies.{statement_of}
use Rattle.mysql_connection_contents.proofs.Commands.{either}
use Rattle.mysql_connection_contents.proofs.Ids.{said_is}
use Rattle.mysql_connection_contents.proofs.Speaking.{packets_are_spoken}
use Rattle.mysql_connection_contents.proofs.Statements.{both}
use Rattle.mysql_connection_contents.specs.Contents.{Spoken, is_about, is_due, is_id, payloads_about}
use Rattle.mysql_connection_contents.specs.PacketLaws.{IsOf, PacketsAreCommands, SentPacketsAreAbout}
use Rattle.mysql_connection_contents.specs.Records.{HasSpoken}
use Rattle.mysql_connection_machine.specs.Machines.{Machine}
use Rattle.mysql_connection_machine.specs.PuttingPackets.{PutsAll}
use Rattle.mysql_connection_rules.specs.Events.{Event, side_of}
use Rattle.mysql_connection_rules.specs.Events as events
use Rattle.mysql_connection_rules.specs.Puts.{has_place, is_free, is_turn}
use Rattle.mysql_connection_rules.specs.Puts as puts_of
use Rattle.mysql_connection_rules.specs.Standing.{Phase, Standing}
use Rattle.mysql_connection_rules.specs.Standing as phases
use Rattle.mysql_connection_rules.specs.StepLaws.{step_said}
use Rattle.mysql_connection_rules.specs.Steps.{after_command, by_number, execution_by_id, execution_of, id_in_question}
use Rattle.mysql_connection_rules.specs.Steps.{in_turn, is_unagreed_bulk, parameters_in_question, statement_in_question}
use Rattle.mysql_connection_rules.specs.Steps.{step, turn}
use Rattle.mysql_connection_rules.specs.Streams.{Beginning, Streams, World, grow, stream_of}
use Rattle.mysql_connection_rules.specs.Streams.Coming.{Piece}
use Rattle.mysql_connection_rules.specs.declared.side.Side.TheVariants.{Client, Server}
use Rattle.mysql_connection_statements.specs.Statements.{Statement, Statements, last_prepared, resolved}
use Rattle.mysql_connection_recoding.specs.Agreement.{is_about_parameters}

-- ---- behind a command a command is due, or it is no turn of the client

abbrev IsNext : Standing → Type 0
IsNext s = (is_due s.phase ≡ true) ⊎ (is_turn Client (turn s.phase) ≡ false)

by_id_next : (number : ℕ) (body : List ℕ) (q : Option ℕ) (at : Option Statement) (s : Standing) →
    is_turn Client (turn (execution_by_id number body q at s).phase) ≡ false
by_id_next number body None at s = refl
by_id_next number body (Some id) None s = refl
by_id_next number body (Some id) (Some st) s = refl

execution_next : (number : ℕ) (body : List ℕ) (q : Option ℕ) (at : Option Statement)
    (s : Standing) → is_turn Client (turn (execution_of number body q at s).phase) ≡ false
execution_next number body q at s =
    either (λ (x : Standing). is_turn Client (turn x.phase) ≡
    false) (is_unagreed_bulk s.capabilities number) _ _ (λ is. refl)
    (λ is. by_id_next number body q at s)

command_next : (s : Standing) (number : ℕ) (body : List ℕ) (q : Option ℕ) (at : Option Statement)
    (payload : List ℕ) (command : Command) → IsNext (by_number number body q at payload command s)
command_next s number body q at payload command =
    either IsNext (number == 0x01) _ _ (λ is. inr refl) (λ is1.
    either IsNext (number == 0x11) _ _ (λ is. inr refl) (λ is2.
    either IsNext (number == 0x16) _ _ (λ is. inr refl) (λ is3.
    either IsNext ((number == 0x17) || (number == 0xfa)) _ _ (λ is. inr (execution_next number body q at s)) (λ is4.
    either IsNext (number == 0x18) _ _ (λ is. inl refl) (λ is5.
    either IsNext (number == 0x19) _ _ (λ is. inl refl) (λ is6.
    either IsNext (number == 0x1a) _ _ (λ is. inr refl) (λ is7.
    either IsNext (number == 0x1c) _ _ (λ is. inr refl) (λ is8. inr refl))))))))

any_next : (s : Standing) (payload : List ℕ) (command : Command) → IsNext (after_command s payload command)
any_next s [] command = inr refl
any_next s (number ∷ body) command =
    command_next s number body (id_in_question s.statements (number ∷ body))
    (statement_in_question s.statements (number ∷ body)) (number ∷ body) command

by_phase : (phase : Phase) (s : Standing) (payload : List ℕ) (e : Event) (mid : Standing) →
    is_due phase ≡ true → in_turn phase s payload ≡ Ok (e, mid) → IsNext mid
by_phase phases.Command s payload e mid due h =
    let asked = command_at s.capabilities (parameters_in_question s.statements payload) payload in
    subst IsNext (said_is (events.Asked asked) e (after_command s payload asked) mid h).1 (any_next s payload asked)
by_phase phases.Greeting s payload e mid due h = absurd cc
by_phase phases.Response s payload e mid due h = absurd cc
by_phase (phases.Authentication exchange) s payload e mid due h = absurd cc
by_phase (phases.Answer exchange) s payload e mid due h = absurd cc
by_phase (phases.Reply r) s payload e mid due h = absurd cc
by_phase (phases.Over reason) s payload e mid due h = absurd cc

step_next : (s : Standing) (payload : List ℕ) (e : Event) (mid : Standing) → is_due s.phase ≡ true →
    step s payload ≡ Ok (e, mid) → IsNext mid
step_next s payload e mid due h =
    by_phase s.phase s payload e mid due (step_said s payload e mid h)

-- ---- so where another payload of the client's is put, a command is due

pub client_turn : (w : World) (event : Event) → side_of event ≡ Client → has_place w event ≡ true →
    is_turn Client (turn w.standing.phase) ≡ true
client_turn w (events.Greeting said) its h = absurd cc
client_turn w (events.Response said) its h = h
client_turn w (events.Authentication said) its h = absurd cc
client_turn w (events.Answer bytes) its h = h
client_turn w (events.Asked command) its h = h
client_turn w (events.Replied said) its h = absurd cc
client_turn w (events.FileData bytes) its h = h
client_turn w (events.Farewell error) its h = absurd cc

due_again : (w : World) (event : Event) → IsNext w.standing → side_of event ≡ Client →
    puts_of.is_due w event ≡ true → is_due w.standing.phase ≡ true
due_again w event (inl due) its h = due
due_again w event (inr other) its h =
    let place : has_place w event ≡ true =
    (both (is_free (stream_of (side_of event) w.unread)) (has_place w event) h).1 in
    let turned = client_turn w event its place in
    absurd cc

-- ---- a payload that names the statement is about it

named_by : (s : Statements) (id : ℕ) (test : Bool) → (id == last_prepared) ≡ test →
    id < last_prepared → is_id (if test then s.last else Some id) id ≡ true
named_by s id true is small = absurd (grind (arith, nat_tests))
named_by s id false is small = grind (arith, nat_tests)

is_named : (s : Statements) (id : ℕ) (payload : List ℕ) → id < last_prepared →
    statement_of payload ≡ Some id → is_id (id_in_question s payload) id ≡ true
is_named s id payload small names =
    subst (λ (q : Option ℕ). is_id (option_and_then (resolved s) q) id ≡
    true) (sym names) (named_by s id (id == last_prepared) refl small)

all_three : (a b c : Bool) → a ≡ true → b ≡ true → c ≡ true → (a && (b && c)) ≡ true
all_three a b c x y z = cc

about_it : (id : ℕ) (x : Spoken) → id < last_prepared → is_due x.standing.phase ≡ true →
    IsOf id x.payload → is_about id x ≡ true
about_it id x small due is =
    all_three (is_due x.standing.phase) (is_about_parameters x.payload)
    (is_id (id_in_question x.standing.statements x.payload) id) due is.about
    (is_named x.standing.statements id x.payload small is.names)

one_more : (id : ℕ) (x : Spoken) (xs : List Spoken) (payloads : List (List ℕ)) → is_about id x ≡
    true → payloads_about id xs ≡ payloads → payloads_about id (x ∷ xs) ≡ x.payload ∷ payloads
one_more id x xs payloads e rest =
    ap (λ (b : Bool). map (λ (y : Spoken). y.payload) (if b then x ∷
    filter (is_about id) xs else filter (is_about id) xs)) e ∙
    ap (λ (l : List (List ℕ)). x.payload ∷ l) rest

about_said : (id : ℕ) → id < last_prepared → (said : List Spoken) →
    AllByRecursion (λ x. is_due x.standing.phase ≡ true) said →
    AllByRecursion (IsOf id) (map (λ (x : Spoken). x.payload) said) → payloads_about id said ≡
    map (λ (x : Spoken). x.payload) said
about_said id small [] due is = refl
about_said id small (x ∷ said) due is =
    one_more id x said (map (λ (y : Spoken). y.payload) said) (about_it id x small due.0 is.0)
    (about_said id small said due.1 is.1)

-- ---- payload by payload

-- of the payloads that are left, where a command is due or the server speaks
abbrev DueFor : Machine → List (List ℕ) → Type 0
DueFor m [] = Unit {0}
DueFor m (payload ∷ payloads) = is_due m.world.standing.phase ≡ true

still_due : (m : Machine) (payloads : List (List ℕ)) (before : List ℕ) (new : Machine)
    (behind : List ℕ) → IsNext m.world.standing → PutsAll m Client payloads before new behind →
    DueFor m payloads
still_due m [] before new behind next done = tt
still_due m (payload ∷ payloads) before new behind next done =
    let put = done.2.puts.0 in
    due_again m.world put.0 next put.1.its_own put.1.written.may.due

due_for : (m : Machine) (payloads : List (List ℕ)) → is_due m.world.standing.phase ≡ true → DueFor m payloads
due_for m [] due = tt
due_for m (payload ∷ payloads) due = due

moved_next : (w : World) (event : Event) (payload : List ℕ) (after : Standing) → IsNext after →
    IsNext (puts_of.put_on w event payload after).standing
moved_next w event payload after next = next

-- a command was due at each of them
all_due : (begun : Beginning) (streams : Streams) (xs : List Spoken) (old new : Machine)
    (payloads : List (List ℕ)) (before behind : List ℕ)
    (spoken : HasSpoken Client Server begun streams xs old.world) → DueFor old payloads
    → (done : PutsAll old Client payloads before new behind) →
    AllByRecursion (λ x. is_due x.standing.phase ≡
    true) (packets_are_spoken Client Server begun streams xs old new payloads before behind
    spoken done).said
unfolding packets_are_spoken
all_due begun streams xs old new [] before behind spoken due done = tt
all_due begun streams xs old new (payload ∷ payloads) before behind spoken due done =
    let put = done.2.puts.0 in
    let written = put.1.written in
    let next : IsNext done.0.world.standing =
    subst (λ (w : World). IsNext w.standing) (sym written.goes)
    (moved_next old.world put.0 payload written.after
    (step_next old.world.standing payload put.0 written.after due put.1.says)) in (
      due,
      all_due begun (grow Client (Piece (puts_of.packets_for put.0 old.world.standing payload))
          streams) _ done.0 new payloads done.1 behind _
          (still_due done.0 payloads done.1 new behind next done.3) done.3,
    )

pub packets_are_commands : PacketsAreCommands
packets_are_commands begun streams xs old new payloads before behind spoken due done = record {
  has = packets_are_spoken Client Server begun streams xs old new payloads before behind spoken done;
  commands = all_due begun streams xs old new payloads before behind spoken (due_for old payloads due) done;
}

pub sent_packets_are_about : SentPacketsAreAbout
sent_packets_are_about begun streams xs old new payloads before behind id spoken due small is done =
    let said = packets_are_commands begun streams xs old new payloads before behind spoken due done in record {
      has = said.has;
      about = about_said id small said.has.said said.commands
          (subst (AllByRecursion (IsOf id)) (sym said.has.payloads_are) is) ∙ said.has.payloads_are;
    }
