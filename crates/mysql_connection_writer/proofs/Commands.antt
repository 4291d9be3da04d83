-- Commands that are read as they are.
use Rattle.std.proofs.Common.{◌≡◌, ◌==◌, ℕ, Bool, true, false, List, [], ◌∷◌, length, map, Option, Some, None, Result}
use Rattle.std.proofs.Common.{Ok, Err, refl, sym, ap, ◌∙◌, subst, arith}
use Rattle.std.proofs.lemmas.Bool.{eqb-true, false≢true}
use Rattle.std.proofs.lemmas.List.{length-map}
use Rattle.mysql_buf.specs.Bytes.{AreBytes}
use Rattle.mysql_const.specs.declared.capabilities.Capabilities.{Capabilities}
use Rattle.mysql_execution_writer.specs.Bulks.{bulk_value_as_read}
use Rattle.mysql_execution_writer.specs.Cells.{as_read as value_as_read}
use Rattle.mysql_execution_writer.specs.Written.{attributes_as_read}
use Rattle.mysql_executions.specs.declared.bulk.BulkValue.{BulkValue}
use Rattle.mysql_executions.specs.InForce.{InForce}
use Rattle.mysql_executions.specs.Types.{has_query_attributes}
use Rattle.mysql_executions.specs.declared.types.Attribute.{Attribute}
use Rattle.mysql_commands.specs.Commands.{BulkExecute, Command, Execute, Query, command_at}
use Rattle.mysql_command_writer.specs.Laws.{IsPut, PutValuesAreCounted, ReadCommandsArePut}
use Rattle.mysql_command_writer.specs.Refusals.{DoesNotRead, Puts, Reads, ReadsBack, as_read}
use Rattle.mysql_command_writer.specs.Refusals.{can_have_attributes, cause_against, have_count}
use Rattle.mysql_command_writer.specs.Written.{command_bytes}
use Rattle.mysql_command_writer.specs.declared.refusal.CommandRefusal.{CommandRefusal}
use Rattle.mysql_command_writer.specs.declared.refusal.CommandRefusal.TheVariants as command
use Rattle.mysql_connection_rules.specs.Events.{Event}
use Rattle.mysql_connection_rules.specs.Events as events
use Rattle.mysql_connection_rules.specs.Standing.{Phase, Standing}
use Rattle.mysql_connection_rules.specs.Standing as phases
use Rattle.mysql_connection_rules.specs.Steps.{after_command, parameters_in_question}
use Rattle.mysql_connection_writer.proofs.Lifting.{lifted, ok_same, some_same, unwritten}
use Rattle.mysql_connection_writer.proofs.InLogin.{SaysIn, WritesIn, by_the_table}
use Rattle.mysql_connection_writer.proofs.Named.{is_bytes, named}
use Rattle.mysql_connection_writer.proofs.OwnValues.{command_own, own_command}
use Rattle.mysql_connection_writer.specs.Commands.{command_payload, is_own_command, parameters_named, parameters_of}
use Rattle.mysql_connection_writer.specs.Fits.{IdFits, ValuesFit}
use Rattle.mysql_connection_writer.specs.Payloads.{Payload}
use Rattle.mysql_connection_writer.specs.Phases.{awaits_command}
use Rattle.mysql_connection_writer.specs.Refusals.{refusal_of_command}
use Rattle.mysql_connection_writer.specs.Writes.{IsUnread, IsWritten, Writes, WritesEvent}
use Rattle.mysql_connection_writer.specs.declared.refusal.BadEvent.TheVariants as bad
use Rattle.mysql_connection_writer.specs.declared.refusal.EventRefusal.{EventRefusal}
use Rattle.mysql_connection_writer.specs.declared.refusal.EventRefusal.TheVariants as refusals

-- WHERE A COMMAND IS DUE

same_asked : (a b : Command) → events.Asked a ≡ events.Asked b → a ≡ b
same_asked a b e = cc

-- a payload is read by what is in force of the statement that its command names
by_its_own : (s : Standing) (c : Command) (p : Payload) → IdFits c →
    command_payload s.capabilities (parameters_named s.statements c) c ≡ Some p →
    parameters_in_question s.statements p ≡ parameters_named s.statements c
by_its_own s c p fits there = ap (parameters_of s.statements)
    (named s.capabilities (parameters_named s.statements c) c p fits there)

command_to : (s : Standing) (c : Command) (p : Payload) → IdFits c →
    command_payload s.capabilities (parameters_named s.statements c) c ≡ Some p →
    command_at s.capabilities (parameters_named s.statements c) p ≡ c →
    SaysIn phases.Command s (events.Asked c) p
command_to s c p fits there h =
    let told : command_at s.capabilities (parameters_in_question s.statements p) p ≡ c =
    ap (λ (its : Option InForce). command_at s.capabilities its p) (by_its_own s c p fits there) ∙ h in
    (after_command s p c, ap (λ (x : Command). Ok (events.Asked x, after_command s p x)) told)

command_from : (s : Standing) (c : Command) (p : Payload) → IdFits c →
    command_payload s.capabilities (parameters_named s.statements c) c ≡ Some p →
    SaysIn phases.Command s (events.Asked c) p →
    command_at s.capabilities (parameters_named s.statements c) p ≡ c
command_from s c p fits there h =
    let read : Command = command_at s.capabilities (parameters_in_question s.statements p) p in
    let told : read ≡ c = same_asked read c (ap (λ (q : Event × Standing). q.0)
    (ok_same (events.Asked read, after_command s p read) (events.Asked c, h.0) h.1)) in
    ap (λ (its : Option InForce). command_at s.capabilities its p) (sym (by_its_own s c p fits there)) ∙ told

command_in : (phase : Phase) (s : Standing) (c : Command) (old new : List ℕ)
    (result : Result (Unit {0}) EventRefusal) → awaits_command phase ≡ true → IdFits c →
    Writes (λ p. command_at s.capabilities (parameters_named s.statements c) p ≡ c)
    (command_payload s.capabilities (parameters_named s.statements c) c)
    (bad.Command (cause_against s.capabilities (parameters_named s.statements c) c)) old new result →
    WritesIn phase s (events.Asked c) old new result
command_in phases.Command s c old new result h fits w =
    lifted (λ p. command_at s.capabilities (parameters_named s.statements c) p ≡ c)
    (SaysIn phases.Command s (events.Asked c))
    (command_payload s.capabilities (parameters_named s.statements c) c)
    (bad.Command (cause_against s.capabilities (parameters_named s.statements c) c)) old new result
    (λ p is r. command_to s c p fits is r) (λ p is r. command_from s c p fits is r) w
command_in phase s c old new result h fits w = absurd cc

pub command_written : (s : Standing) (capabilities : Capabilities) (parameters : Option InForce) (c : Command)
    (old new : List ℕ) (result : Result (Unit {0}) EventRefusal) → awaits_command s.phase ≡ true → IdFits c →
    capabilities ≡ s.capabilities → parameters ≡ parameters_named s.statements c →
    Writes (λ p. command_at capabilities parameters p ≡ c) (command_payload capabilities parameters c)
    (bad.Command (cause_against capabilities parameters c)) old new result →
    WritesEvent s (events.Asked c) old new result
command_written s capabilities parameters c old new result h fits in_force same w =
    by_the_table s (events.Asked c) old new result
    (command_in s.phase s c old new result h fits
    (subst (λ (its : Option InForce). Writes (λ p. command_at s.capabilities its p ≡ c)
    (command_payload s.capabilities its c) (bad.Command (cause_against s.capabilities its c)) old new result) same
    (subst (λ (by : Capabilities). Writes (λ p. command_at by parameters p ≡ c)
    (command_payload by parameters c) (bad.Command (cause_against by parameters c)) old new result) in_force w)))

no_command_in : (phase : Phase) (s : Standing) (c : Command) (old : List ℕ) → awaits_command phase ≡ false →
    WritesIn phase s (events.Asked c) old old (Err (refusals.BadEvent bad.ReadsOtherwise))
no_command_in phases.Command s c old h = absurd cc
no_command_in phase s c old h = unwritten (SaysIn phase s (events.Asked c)) None bad.ReadsOtherwise old refl refl

pub no_command : (s : Standing) (c : Command) (old : List ℕ) → awaits_command s.phase ≡ false →
    WritesEvent s (events.Asked c) old old (Err (refusals.BadEvent bad.ReadsOtherwise))
no_command s c old h =
    by_the_table s (events.Asked c) old old (Err (refusals.BadEvent bad.ReadsOtherwise))
    (no_command_in s.phase s c old h)

-- WHAT A COMMAND'S WRITER PUTS

-- it reads as it is told
reads_back : (capabilities : Capabilities) (parameters : Option InForce) (c : Command) →
    ValuesFit c → Reads capabilities parameters c → ReadsBack capabilities parameters c
reads_back capabilities parameters (Query attributes sql) fits r = r fits
reads_back capabilities parameters (Execute e) fits r = r fits
reads_back capabilities parameters (BulkExecute e) fits r = r fits
reads_back capabilities parameters c fits r = r

-- what can be put has a payload
has_payload : (capabilities : Capabilities) (parameters : Option InForce) (c : Command) →
    IsPut capabilities parameters c →
    command_payload capabilities parameters c ≡ Some (command_bytes capabilities parameters c)
has_payload capabilities parameters (Query attributes sql) can = rw can refl
has_payload capabilities parameters (Execute e) can = rw can refl
has_payload capabilities parameters (BulkExecute e) can = rw can refl
has_payload capabilities parameters c can = refl

-- a command whose payload is read as it is can be put
can_put : ReadCommandsArePut → (capabilities : Capabilities) (parameters : Option InForce) (c : Command) →
    AreBytes (command_bytes capabilities parameters c) → ReadsBack capabilities parameters c →
    IsPut capabilities parameters (as_read c)
can_put law capabilities parameters c bytes back =
    subst (λ (x : Command). IsPut capabilities parameters x) back
    (law capabilities parameters (command_bytes capabilities parameters c) bytes).0

pub own_written : ReadCommandsArePut → (capabilities : Capabilities) (parameters : Option InForce) (c : Command)
    (old new : List ℕ) → ValuesFit c → AreBytes (command_bytes capabilities parameters c) →
    Puts capabilities parameters c old new (Ok tt) → is_own_command c ≡ true →
    IsWritten (λ p. command_at capabilities parameters p ≡ c) (command_payload capabilities parameters c) old new
own_written law capabilities parameters c old new fits are puts own =
    let back = reads_back capabilities parameters c fits puts.1 in
    let itself : as_read c ≡ c = command_own c own in
    let can : IsPut capabilities parameters c = subst (λ (x : Command). IsPut capabilities parameters x) itself
    (can_put law capabilities parameters c are back) in
    record {
      payload = command_bytes capabilities parameters c;
      is_payload = has_payload capabilities parameters c can;
      appended = puts.0;
      reads = back ∙ itself;
    }

-- THE CAUSE AGAINST A COMMAND WHOSE VALUES ARE READ OTHERWISE

no_attributes : (xs : List Attribute) → (length (attributes_as_read xs) == 0) ≡ true →
    is_own_command (Query xs []) ≡ true
no_attributes [] h = refl
no_attributes (x ∷ xs) h = absurd (omega (arith, eqb-true (length (attributes_as_read (x ∷ xs))) 0 h))

query_cause : (capabilities : Capabilities) (parameters : Option InForce) (attributes : List Attribute) (sql : List ℕ)
    (asks : Bool) → has_query_attributes capabilities ≡ asks →
    can_have_attributes capabilities (attributes_as_read attributes) ≡ true →
    is_own_command (Query attributes sql) ≡ false →
    cause_against capabilities parameters (Query attributes sql) ≡ command.ReadsOtherwise
query_cause capabilities parameters attributes sql true asks can own = rw asks refl
query_cause capabilities parameters attributes sql false asks can own =
    absurd (false≢true (sym own ∙ no_attributes attributes (rw asks at can)))

row_count : (count : ℕ) (rows : List (List BulkValue)) →
    have_count count (map (λ row. map bulk_value_as_read row) rows) ≡ have_count count rows
row_count count [] = refl
row_count count (row ∷ rows) = rw (length-map row bulk_value_as_read, row_count count rows) refl

otherwise : PutValuesAreCounted → (capabilities : Capabilities) (parameters : Option InForce) (c : Command) →
    IsPut capabilities parameters (as_read c) → is_own_command c ≡ false →
    cause_against capabilities parameters c ≡ command.ReadsOtherwise
otherwise law capabilities parameters (Query attributes sql) can own =
    query_cause capabilities parameters attributes sql (has_query_attributes capabilities) refl can own
otherwise law capabilities None (Execute e) can own = absurd cc
otherwise law capabilities (Some s) (Execute e) can own =
    let counted : (length (map value_as_read e.parameters) == s.count) ≡ true =
    law capabilities s (as_read (Execute e)) can in
    let same : (length e.parameters == s.count) ≡ true =
    ap (λ (n : ℕ). n == s.count) (sym (length-map e.parameters value_as_read)) ∙ counted in
    rw same refl
otherwise law capabilities None (BulkExecute e) can own = absurd cc
otherwise law capabilities (Some s) (BulkExecute e) can own =
    let counted : have_count s.count (map (λ row. map bulk_value_as_read row) e.rows) ≡ true =
    law capabilities s (as_read (BulkExecute e)) can in
    rw (sym (row_count s.count e.rows) ∙ counted) refl
otherwise law capabilities parameters c can own = absurd cc

pub not_own : ReadCommandsArePut → PutValuesAreCounted →
    (capabilities : Capabilities) (parameters : Option InForce) (c : Command)
    (old new : List ℕ) → ValuesFit c → AreBytes (command_bytes capabilities parameters c) →
    Puts capabilities parameters c old new (Ok tt) → is_own_command c ≡ false →
    Writes (λ p. command_at capabilities parameters p ≡ c) (command_payload capabilities parameters c)
    (bad.Command (cause_against capabilities parameters c)) old old
    (Err (refusals.BadEvent (bad.Command command.ReadsOtherwise)))
not_own law counted capabilities parameters c old new fits are puts own =
    let back = reads_back capabilities parameters c fits puts.1 in
    let can = can_put law capabilities parameters c are back in (
      refl,
      λ p is r.
          let read : command_at capabilities parameters (command_bytes capabilities parameters c) ≡ c =
          subst (λ (q : List ℕ). command_at capabilities parameters q ≡
          c) (is_bytes capabilities parameters c p is) r in
          false≢true (sym own ∙ own_command c (sym back ∙ read)),
      ap (λ (x : CommandRefusal). bad.Command x) (sym (otherwise counted capabilities parameters c can own)),
    )

-- A REFUSAL OF THE COMMAND'S WRITER

unread : (capabilities : Capabilities) (parameters : Option InForce) (c : Command) →
    DoesNotRead capabilities parameters c →
    IsUnread (λ p. command_at capabilities parameters p ≡ c) (command_payload capabilities parameters c)
unread capabilities parameters (Query attributes sql) cannot p is r = absurd (cc (rw cannot at is))
unread capabilities parameters (Execute e) cannot p is r = absurd (cc (rw cannot at is))
unread capabilities parameters (BulkExecute e) cannot p is r = absurd (cc (rw cannot at is))
unread capabilities parameters c reads p is r =
    reads (subst (λ (q : List ℕ). command_at capabilities parameters q ≡ c)
    (sym (some_same (command_bytes capabilities parameters c) p is)) r)

refused_as : (capabilities : Capabilities) (parameters : Option InForce) (c : Command) (old new : List ℕ)
    (refusal : CommandRefusal) → Puts capabilities parameters c old new (Err refusal) →
    Writes (λ p. command_at capabilities parameters p ≡ c) (command_payload capabilities parameters c)
    (bad.Command (cause_against capabilities parameters c)) old new (Err (refusal_of_command refusal))
refused_as capabilities parameters c old new command.Memory h = h.0
refused_as capabilities parameters c old new refusal h =
    let told = h.1 (λ memory. cc) in
    (h.0, unread capabilities parameters c told.1, ap (λ (x : CommandRefusal). bad.Command x) told.0)

pub refused : (capabilities : Capabilities) (parameters : Option InForce) (c : Command) (old new : List ℕ)
    (refusal : CommandRefusal) (told : EventRefusal) → told ≡ refusal_of_command refusal →
    Puts capabilities parameters c old new (Err refusal) →
    Writes (λ p. command_at capabilities parameters p ≡ c) (command_payload capabilities parameters c)
    (bad.Command (cause_against capabilities parameters c)) old new (Err told)
refused capabilities parameters c old new refusal told is h =
    subst (λ (x : EventRefusal). Writes (λ p. command_at capabilities parameters p ≡ c)
    (command_payload capabilities parameters c) (bad.Command (cause_against capabilities parameters c)) old new (Err x))
    (sym is) (refused_as capabilities parameters c old new refusal h)
